use Rattle.std.proofs.Common.{refl}
use Rattle.std.proofs.lemmas.Result.{on_ok_weaker}
use Rattle.vcd_grammar.specs.Tokens.{Token}
use Rattle.vcd_header.proofs.Readings.{rules_by, apart_told}
use Rattle.vcd_header.proofs.gathered.Gathered.take.Goals as goal

pub returns-clause-apart : goal.returns-clause-apart
returns-clause-apart c =
    let g = c.args.self.now in
    let t : Token = record { place = c.args.place; word = c.args.word.now } in
    on_ok_weaker c.take_there.result
    (apart_told g c.take_there.new.self t (rules_by g.rules) c.requires.fault c.requires.open)
    (c.take_there.ensures.state (rules_by g.rules) (record { widest = refl; skips_preface = refl }))
