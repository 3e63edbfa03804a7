use Rattle.std.proofs.Common.{◌≡◌, ◌-◌, ◌+◌, take, length, slice_index, sym, ap, ◌∙◌, arith}
use Rattle.std.proofs.lemmas.List.{take_more, length-take}
use Rattle.vcd_cut.specs.declared.cut.CutToken.{CutToken}
use Rattle.vcd_cut.specs.declared.cut.Source.TheVariants as sources
use Rattle.vcd_cut.specs.declared.cutter.Cutter.{Cutter}
use Rattle.vcd_cut.specs.Cutting.{cutting, after_cut, tokens_cut}
use Rattle.vcd_cut.proofs.Cutting.{white_cut, white_counted, whole_counted}
use Rattle.vcd_cut.proofs.Standings.{cut_stands, tokens_stand, line_stands}
use Rattle.vcd_cut.proofs.cutter.Cutter.skip.Goals as goal

pub returns-clause-stands : goal.returns-clause-stands
returns-clause-stands c = λ fed s.
    let old = c.args.self.now in
    let bytes = c.args.bytes.now in
    let len = c.args.len in
    let word = take len bytes in
    let gap = slice_index bytes len in
    let q = c.requires.word in
    let n : length word ≡ len = omega (arith, length-take len bytes, q.within) in
    let k : Cutter = record {
      at = old.at + len + 1;
      breaks = old.breaks + c.breaks_in.result;
      run = old.run;
      done = old.done;
    } in
    let at : k.at ≡ old.at + (length word + 1) = omega (arith, n) in
    cut_stands old k fed (take (len + 1) bytes) s
    (white_cut (cutting old) (cutting k) word gap q.white q.dark at
    (ap (λ n. old.breaks + n) c.breaks_in.ensures.breaks) c.requires.idle.none
    ∙ ap (after_cut (cutting old)) (sym (take_more bytes len 0 q.within)))

pub returns-clause-tokens : goal.returns-clause-tokens
returns-clause-tokens c = λ fed s.
    let old = c.args.self.now in
    let bytes = c.args.bytes.now in
    let len = c.args.len in
    let word = take len bytes in
    let gap = slice_index bytes len in
    let q = c.requires.word in
    let n : length word ≡ len = omega (arith, length-take len bytes, q.within) in
    tokens_stand old fed (take (len + 1) bytes) _ s
    (ap (tokens_cut (cutting old)) (take_more bytes len 0 q.within)
    ∙ white_counted (cutting old) word gap q.white
    ∙ whole_counted (cutting old) word c.requires.idle.none q.dark (omega (arith, n, q.some)) (omega (arith, n, q.short)))

pub returns-clause-line : goal.returns-clause-line
returns-clause-line c = λ fed s more.
    let old = c.args.self.now in
    let t : CutToken = record { place = old.at; line = c.line-line.result; source = sources.Given c.args.len } in
    let none = c.requires.idle.none in
    let place : old.at ≡ old.at - length old.run.bytes.items = omega (arith, none) in
    line_stands old fed more t s
    (record { short = omega (arith, none); place = place; line = c.line-line.ensures })
