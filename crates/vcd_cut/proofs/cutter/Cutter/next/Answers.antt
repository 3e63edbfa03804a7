use Rattle.std.proofs.Common.{◌+◌, take, sym, ap, ◌∙◌, arith}
use Rattle.std.proofs.lemmas.List.{take_more, take_all}
use Rattle.vcd_cut.specs.Cutting.{cutting, after_cut, tokens_cut}
use Rattle.vcd_cut.proofs.Cutting.{told_more}
use Rattle.vcd_cut.proofs.Standings.{sound_stands, cut_stands, tokens_stand, line_stands_if}
use Rattle.vcd_cut.proofs.cutter.Cutter.next.Goals as goal

pub closed-token-requires-clause-sound : goal.closed-token-requires-clause-sound
closed-token-requires-clause-sound c = sound_stands c.args.self.now c.requires.room.0 c.requires.room.1

pub grown-token-requires-clause-sound : goal.grown-token-requires-clause-sound
grown-token-requires-clause-sound c = sound_stands c.args.self.now c.requires.room.0 c.requires.room.1

pub returns-then-len-bytes-clause-stands : goal.returns-then-len-bytes-clause-stands
returns-then-len-bytes-clause-stands c = λ fed s.
    let bytes = c.args.bytes.now in
    let len = c.span_len-len.result in
    cut_stands c.args.self.now c.closed-token.new.self fed (take (len + 1) bytes) s
    (c.closed-token.ensures.state ∙ ap (after_cut (cutting c.args.self.now)) (sym (take_more bytes len 0 c.if-len-bytes.true)))

pub returns-then-len-bytes-clause-tokens : goal.returns-then-len-bytes-clause-tokens
returns-then-len-bytes-clause-tokens c = λ fed s.
    let bytes = c.args.bytes.now in
    let len = c.span_len-len.result in
    let k = c.closed-token.new.self in
    tokens_stand c.args.self.now fed (take (len + 1) bytes) _ s
    (ap (tokens_cut (cutting c.args.self.now)) (take_more bytes len 0 c.if-len-bytes.true)
    ∙ c.closed-token.ensures.tokens
    ∙ told_more k.done.bytes.items c.closed-token.result bytes len c.closed-token.ensures.within)

pub returns-then-len-bytes-clause-line : goal.returns-then-len-bytes-clause-line
returns-then-len-bytes-clause-line c = λ fed s.
    line_stands_if c.args.self.now fed c.closed-token.result s c.closed-token.ensures.begins

pub returns-else-len-bytes-clause-stands : goal.returns-else-len-bytes-clause-stands
returns-else-len-bytes-clause-stands c = λ fed s.
    let bytes = c.args.bytes.now in
    let len = c.span_len-len.result in
    cut_stands c.args.self.now c.grown-token.new.self fed (take len bytes) s
    (c.grown-token.ensures.state
    ∙ ap (after_cut (cutting c.args.self.now)) (sym (take_all len bytes (omega arith))))

pub returns-else-len-bytes-clause-tokens : goal.returns-else-len-bytes-clause-tokens
returns-else-len-bytes-clause-tokens c = λ fed s.
    let bytes = c.args.bytes.now in
    let len = c.span_len-len.result in
    tokens_stand c.args.self.now fed (take len bytes) _ s
    (ap (tokens_cut (cutting c.args.self.now)) (take_all len bytes (omega arith)) ∙ c.grown-token.ensures.tokens)

pub returns-else-len-bytes-clause-line : goal.returns-else-len-bytes-clause-line
returns-else-len-bytes-clause-line c = λ fed s.
    line_stands_if c.args.self.now fed c.grown-token.result s c.grown-token.ensures.begins
