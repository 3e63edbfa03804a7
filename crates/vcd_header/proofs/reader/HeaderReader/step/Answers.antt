use Rattle.std.proofs.Common.{[], ◌∷◌, ◌++◌, take, sym, ap, subst, ◌∙◌}
use Rattle.vcd_grammar.specs.Tokens.{Token, tokens_so_far}
use Rattle.vcd_cut.specs.Cutting.{tokens_in}
use Rattle.vcd_header.specs.Told.{state_told}
use Rattle.vcd_header.specs.Gathering.{FitsRules}
use Rattle.vcd_header.proofs.Readings.{read_on}
use Rattle.vcd_header.proofs.reader.HeaderReader.step.Goals as goal

pub returns-in_ok-take-in-Some-clause-reads : goal.returns-in_ok-take-in-Some-clause-reads
returns-in_ok-take-in-Some-clause-reads c = λ fed w.
    let token = c.in-Some.token in
    let bytes = c.args.bytes.now in
    let k = c.next-cut.new.self in
    let t : Token = record { place = token.place; word = c.word-word.result.now } in
    record {
      cutter = c.next-cut.ensures.stands fed w.reads.cutter;
      gathered = λ m f.
          let before = subst (λ r. FitsRules m r) c.in_ok-take-in-Some.ensures.rules f in
          read_on m fed (take c.next-cut.result.used bytes) (t ∷ []) (state_told c.args.self.now.gathered) _
          (w.reads.gathered m before)
          (c.next-cut.ensures.tokens fed w.reads.cutter
          ∙ ap (λ x. tokens_so_far fed ++ tokens_in k x bytes) c.in-Some.is
          ∙ (λ i. tokens_so_far fed ++ record { place = token.place; word = sym c.word-word.ensures i } ∷ []))
          (c.in_ok-take-in-Some.ensures.state m before);
    }
