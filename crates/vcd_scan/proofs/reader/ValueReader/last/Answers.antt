use Rattle.std.proofs.Common.{◌≡◌, [], ◌∷◌, ◌++◌, refl, sym, ap, ◌∙◌, append-nil}
use Rattle.std.proofs.lemmas.Result.{on_ok_weaker}
use Rattle.vcd_grammar.specs.Tokens.{Token, tokens_so_far}
use Rattle.vcd_way.specs.Steps.{step}
use Rattle.vcd_course.specs.Opening.{after_happenings, told_in}
use Rattle.vcd_cut.specs.Cutting.{tokens_in}
use Rattle.vcd_scan.specs.Wired.{wired}
use Rattle.vcd_scan.specs.Told.{state_told, open_in}
use Rattle.vcd_scan.specs.Standing.{rules_of, events_of, tokens_after, last_tokens_after, Keeps}
use Rattle.vcd_scan.specs.declared.reader.ValueReader.{ValueReader}
use Rattle.vcd_scan.proofs.Events.{on_ok_both}
use Rattle.vcd_scan.proofs.Reading.{last_tokens}
use Rattle.vcd_scan.proofs.Told.{told-erased}
use Rattle.vcd_scan.proofs.Marks.{token-line}
use Rattle.vcd_scan.proofs.Readers.{took_last, told_last}
use Rattle.vcd_scan.proofs.reader.ValueReader.last.Goals as goal

pub returns-in-None-clause-took : goal.returns-in-None-clause-took
returns-in-None-clause-took c = λ head fed w.
    let old = c.args.self.now in
    let new : ValueReader = record { cutter = c.finish.new.self; machine = old.machine; refused = old.refused } in
    let keeps : Keeps old new = record { rules = refl; wiring = refl } in
    took_last old new head fed [] keeps w.reads.took
    (last_tokens head fed [] (c.finish.ensures.tokens (head ++ fed) w.reads.cutter
    ∙ ap (λ x. tokens_so_far (head ++ fed) ++ tokens_in c.finish.new.self x []) c.in-None.is)) (sym (told-erased old.machine)) refl

pub returns-in-None-clause-told : goal.returns-in-None-clause-told
returns-in-None-clause-told c = λ head fed w.
    let old = c.args.self.now in
    let new : ValueReader = record { cutter = c.finish.new.self; machine = old.machine; refused = old.refused } in
    told_last old new head fed [] w.reads.took
    (last_tokens head fed [] (c.finish.ensures.tokens (head ++ fed) w.reads.cutter
    ∙ ap (λ x. tokens_so_far (head ++ fed) ++ tokens_in c.finish.new.self x []) c.in-None.is))
    (sym (append-nil (events_of old)))

pub returns-in-Some-clause-took : goal.returns-in-Some-clause-took
returns-in-Some-clause-took c = λ head fed w.
    let old = c.args.self.now in
    let token = c.in-Some.token in
    let k = c.finish.new.self in
    let t : Token = record { place = token.place; word = c.word-word.result.now } in
    let new : ValueReader = record { cutter = k; machine = c.take.new.self; refused = old.refused } in
    let keeps : Keeps old new = record { rules = c.take.ensures.rules; wiring = c.take.ensures.wires } in
    let more : last_tokens_after head fed ≡ tokens_after head fed ++ t ∷ [] =
    last_tokens head fed (t ∷ []) (c.finish.ensures.tokens (head ++ fed) w.reads.cutter
    ∙ ap (λ x. tokens_so_far (head ++ fed) ++ tokens_in k x []) c.in-Some.is
    ∙ (λ i. tokens_so_far (head ++ fed) ++ record { place = token.place; word = sym c.word-word.ensures i } ∷ [])) in
    on_ok_both c.take.result
    (λ s o. took_last old new head fed (t ∷ []) keeps w.reads.took more s
    (o ∙ ap (after_happenings (open_in old.machine))
    (sym (append-nil (step (wired (rules_of old)) (state_told old.machine) t).happenings))))
    c.take.ensures.state c.take.ensures.opened

pub returns-in-Some-clause-told : goal.returns-in-Some-clause-told
returns-in-Some-clause-told c = λ head fed w.
    let old = c.args.self.now in
    let token = c.in-Some.token in
    let k = c.finish.new.self in
    let t : Token = record { place = token.place; word = c.word-word.result.now } in
    let new : ValueReader = record { cutter = k; machine = c.take.new.self; refused = old.refused } in
    let more : last_tokens_after head fed ≡ tokens_after head fed ++ t ∷ [] =
    last_tokens head fed (t ∷ []) (c.finish.ensures.tokens (head ++ fed) w.reads.cutter
    ∙ ap (λ x. tokens_so_far (head ++ fed) ++ tokens_in k x []) c.in-Some.is
    ∙ (λ i. tokens_so_far (head ++ fed) ++ record { place = token.place; word = sym c.word-word.ensures i } ∷ [])) in
    on_ok_weaker c.take.result
    (λ h. told_last old new head fed (t ∷ []) w.reads.took more
    (h ∙ ap (λ hs. events_of old ++ told_in (rules_of old) (open_in old.machine) hs)
    (sym (append-nil (step (wired (rules_of old)) (state_told old.machine) t).happenings)))) c.take.ensures.told

pub returns-in-Some-clause-lines : goal.returns-in-Some-clause-lines
returns-in-Some-clause-lines c = λ head fed w.
    on_ok_weaker c.take.result
    (λ h. h (head ++ fed) (token-line (head ++ fed) c.finish.result c.in-Some.token c.in-Some.is
    (c.finish.ensures.line (head ++ fed) w.reads.cutter)) w.reads.lines) c.take.ensures.lines
