use Rattle.std.proofs.Common.{◌≡◌, [], ◌∷◌, ◌++◌, take, refl, sym, ap, subst, ◌∙◌, append_assoc, append-nil}
use Rattle.vcd_grammar.specs.Tokens.{Token, tokens_so_far}
use Rattle.vcd_way.specs.Steps.{step}
use Rattle.vcd_course.specs.Opening.{after_happenings, told_in}
use Rattle.vcd_cut.specs.Cutting.{tokens_in}
use Rattle.vcd_cut.specs.Standing.{Stands}
use Rattle.vcd_scan.specs.Wired.{wired}
use Rattle.vcd_scan.specs.Told.{state_told, open_in}
use Rattle.vcd_scan.specs.Standing.{rules_of, events_of, tokens_after, Keeps}
use Rattle.vcd_scan.specs.declared.reader.ValueReader.{ValueReader}
use Rattle.vcd_scan.proofs.Reading.{more_tokens}
use Rattle.vcd_scan.proofs.Told.{told-erased}
use Rattle.vcd_scan.specs.Lined.{stamps_in}
use Rattle.vcd_scan.proofs.Marks.{lines-read, token-line}
use Rattle.vcd_scan.proofs.Readers.{took_more, told_more}
use Rattle.vcd_scan.proofs.reader.ValueReader.cut.Goals as goal

pub returns-in_ok-take-in-Some-clause-reads : goal.returns-in_ok-take-in-Some-clause-reads
returns-in_ok-take-in-Some-clause-reads c = λ head fed w.
    let old = c.args.self.now in
    let token = c.in-Some.token in
    let bytes = c.args.bytes.now in
    let xs = take c.next-cut.result.used bytes in
    let k = c.next-cut.new.self in
    let t : Token = record { place = token.place; word = c.word-word.result.now } in
    let new : ValueReader = record { cutter = k; machine = c.take.new.self; refused = old.refused } in
    let keeps : Keeps old new = record {
      rules = c.in_ok-take-in-Some.ensures.rules;
      wiring = c.in_ok-take-in-Some.ensures.wires;
    } in
    let more : tokens_after head (fed ++ xs) ≡ tokens_after head fed ++ t ∷ [] =
    more_tokens head fed xs (t ∷ [])
    (c.next-cut.ensures.tokens (head ++ fed) w.reads.cutter
    ∙ ap (λ x. tokens_so_far (head ++ fed) ++ tokens_in k x bytes) c.in-Some.is
    ∙ (λ i. tokens_so_far (head ++ fed) ++ record { place = token.place; word = sym c.word-word.ensures i } ∷ [])) in
    record {
      cutter = subst (λ x. Stands k x) (append_assoc head fed xs) (c.next-cut.ensures.stands (head ++ fed) w.reads.cutter);
      took = took_more old new head fed xs (t ∷ []) keeps w.reads.took more c.in_ok-take-in-Some.ensures.state
          (c.in_ok-take-in-Some.ensures.opened
          ∙ ap (after_happenings (open_in old.machine))
          (sym (append-nil (step (wired (rules_of old)) (state_told old.machine) t).happenings)));
      lines = lines-read head fed xs (stamps_in c.take.new.self)
          (c.in_ok-take-in-Some.ensures.lines (head ++ fed)
          (token-line (head ++ fed) c.next-cut.result.token token c.in-Some.is
          (c.next-cut.ensures.line (head ++ fed) w.reads.cutter)) w.reads.lines);
    }

pub returns-in_ok-take-in-Some-clause-told : goal.returns-in_ok-take-in-Some-clause-told
returns-in_ok-take-in-Some-clause-told c = λ head fed w.
    let old = c.args.self.now in
    let token = c.in-Some.token in
    let bytes = c.args.bytes.now in
    let xs = take c.next-cut.result.used bytes in
    let k = c.next-cut.new.self in
    let t : Token = record { place = token.place; word = c.word-word.result.now } in
    let new : ValueReader = record { cutter = k; machine = c.take.new.self; refused = old.refused } in
    let more : tokens_after head (fed ++ xs) ≡ tokens_after head fed ++ t ∷ [] =
    more_tokens head fed xs (t ∷ [])
    (c.next-cut.ensures.tokens (head ++ fed) w.reads.cutter
    ∙ ap (λ x. tokens_so_far (head ++ fed) ++ tokens_in k x bytes) c.in-Some.is
    ∙ (λ i. tokens_so_far (head ++ fed) ++ record { place = token.place; word = sym c.word-word.ensures i } ∷ [])) in
    told_more old new head fed xs (t ∷ []) w.reads.took more
    (c.in_ok-take-in-Some.ensures.told
    ∙ ap (λ hs. events_of old ++ told_in (rules_of old) (open_in old.machine) hs)
    (sym (append-nil (step (wired (rules_of old)) (state_told old.machine) t).happenings)))

pub returns-in-None-clause-reads : goal.returns-in-None-clause-reads
returns-in-None-clause-reads c = λ head fed w.
    let old = c.args.self.now in
    let bytes = c.args.bytes.now in
    let xs = take c.next-cut.result.used bytes in
    let k = c.next-cut.new.self in
    let new : ValueReader = record { cutter = k; machine = old.machine; refused = old.refused } in
    let keeps : Keeps old new = record { rules = refl; wiring = refl } in
    let more : tokens_after head (fed ++ xs) ≡ tokens_after head fed ++ [] =
    more_tokens head fed xs []
    (c.next-cut.ensures.tokens (head ++ fed) w.reads.cutter
    ∙ ap (λ x. tokens_so_far (head ++ fed) ++ tokens_in k x bytes) c.in-None.is) in
    record {
      cutter = subst (λ x. Stands k x) (append_assoc head fed xs) (c.next-cut.ensures.stands (head ++ fed) w.reads.cutter);
      took = took_more old new head fed xs [] keeps w.reads.took more (sym (told-erased old.machine)) refl;
      lines = lines-read head fed xs (stamps_in old.machine) w.reads.lines;
    }

pub returns-in-None-clause-told : goal.returns-in-None-clause-told
returns-in-None-clause-told c = λ head fed w.
    let old = c.args.self.now in
    let bytes = c.args.bytes.now in
    let xs = take c.next-cut.result.used bytes in
    let k = c.next-cut.new.self in
    let new : ValueReader = record { cutter = k; machine = old.machine; refused = old.refused } in
    let more : tokens_after head (fed ++ xs) ≡ tokens_after head fed ++ [] =
    more_tokens head fed xs []
    (c.next-cut.ensures.tokens (head ++ fed) w.reads.cutter
    ∙ ap (λ x. tokens_so_far (head ++ fed) ++ tokens_in k x bytes) c.in-None.is) in
    told_more old new head fed xs [] w.reads.took more (sym (append-nil (events_of old)))
