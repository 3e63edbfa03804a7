use Rattle.std.proofs.Common.{[], ◌∷◌, ◌++◌, sym, ◌∙◌}
use Rattle.std.proofs.lemmas.Result.{on_ok_weaker}
use Rattle.vcd_grammar.specs.Tokens.{Token, tokens_so_far}
use Rattle.vcd_header.specs.Told.{state_told}
use Rattle.vcd_header.proofs.Readings.{read_last}
use Rattle.vcd_header.proofs.reader.HeaderReader.last.Goals as goal

pub returns-clause-state : goal.returns-clause-state
returns-clause-state c = λ m fed f w.
    let token = c.in-Some.token in
    let t : Token = record { place = token.place; word = c.word-word.result.now } in
    on_ok_weaker c.take.result
    (λ h. read_last m fed (t ∷ []) (state_told c.args.self.now.gathered) _ (w.reads.gathered m f)
    (c.in-Some.ensures.tokens fed w.reads.cutter
    ∙ (λ i. tokens_so_far fed ++ record { place = token.place; word = sym c.word-word.ensures i } ∷ [])) h)
    (c.take.ensures.state m f)
