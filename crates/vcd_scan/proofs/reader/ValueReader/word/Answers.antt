use Rattle.std.proofs.Common.{◌≡◌, [], ◌∷◌, ◌++◌, take, sym, ap, subst, ◌∙◌, append_assoc, append-nil, ◌+◌}
use Rattle.vcd_grammar.specs.Tokens.{Token}
use Rattle.vcd_way.specs.Steps.{step}
use Rattle.vcd_course.specs.Opening.{after_happenings, told_in}
use Rattle.vcd_cut.specs.Standing.{Stands}
use Rattle.vcd_scan.specs.Wired.{wired}
use Rattle.vcd_scan.specs.Told.{state_told, open_in}
use Rattle.vcd_scan.specs.Standing.{rules_of, events_of, tokens_after, Keeps}
use Rattle.vcd_scan.specs.declared.reader.ValueReader.{ValueReader}
use Rattle.vcd_scan.proofs.Reading.{more_tokens}
use Rattle.vcd_scan.specs.Lined.{stamps_in}
use Rattle.vcd_scan.proofs.Marks.{lines-read}
use Rattle.vcd_scan.proofs.Readers.{took_more, told_more}
use Rattle.vcd_scan.proofs.reader.ValueReader.word.Goals as goal

pub returns-clause-reads : goal.returns-clause-reads
returns-clause-reads c = λ head fed w.
    let old = c.args.self.now in
    let bytes = c.args.bytes.now in
    let xs = take (c.args.len + 1) bytes in
    let k = c.skip-token.new.self in
    let t : Token = record { place = c.skip-token.result.place; word = take c.args.len bytes } in
    let new : ValueReader = record { cutter = k; machine = c.take.new.self; refused = old.refused } in
    let keeps : Keeps old new = record { rules = c.in_ok-take.ensures.rules; wiring = c.in_ok-take.ensures.wires } in
    let more : tokens_after head (fed ++ xs) ≡ tokens_after head fed ++ t ∷ [] =
    more_tokens head fed xs (t ∷ []) (c.skip-token.ensures.tokens (head ++ fed) w.reads.cutter) in
    record {
      cutter = subst (λ x. Stands k x) (append_assoc head fed xs) (c.skip-token.ensures.stands (head ++ fed) w.reads.cutter);
      took = took_more old new head fed xs (t ∷ []) keeps w.reads.took more c.in_ok-take.ensures.state
          (c.in_ok-take.ensures.opened
          ∙ ap (after_happenings (open_in old.machine))
          (sym (append-nil (step (wired (rules_of old)) (state_told old.machine) t).happenings)));
      lines = lines-read head fed xs (stamps_in c.take.new.self)
          (c.in_ok-take.ensures.lines (head ++ fed) (c.skip-token.ensures.line (head ++ fed) w.reads.cutter) w.reads.lines);
    }

pub returns-clause-told : goal.returns-clause-told
returns-clause-told c = λ head fed w.
    let old = c.args.self.now in
    let bytes = c.args.bytes.now in
    let xs = take (c.args.len + 1) bytes in
    let k = c.skip-token.new.self in
    let t : Token = record { place = c.skip-token.result.place; word = take c.args.len bytes } in
    let new : ValueReader = record { cutter = k; machine = c.take.new.self; refused = old.refused } in
    let more : tokens_after head (fed ++ xs) ≡ tokens_after head fed ++ t ∷ [] =
    more_tokens head fed xs (t ∷ []) (c.skip-token.ensures.tokens (head ++ fed) w.reads.cutter) in
    told_more old new head fed xs (t ∷ []) w.reads.took more
    (c.in_ok-take.ensures.told
    ∙ ap (λ hs. events_of old ++ told_in (rules_of old) (open_in old.machine) hs)
    (sym (append-nil (step (wired (rules_of old)) (state_told old.machine) t).happenings)))
