use Rattle.std.proofs.Common.{ap, sym, ◌∙◌, refl}
use Rattle.std.proofs.lemmas.Bool.{lt-ltb, le-ltb}
use Rattle.std.specs.BTreeMap.{is_at}
use Rattle.std.specs.Map.{lookup}
use Rattle.std.specs.Ordering.{nat_cmp}
use Rattle.std.specs.Cmp.Lexicographic.{slice_cmp}
use Rattle.vcd_scan.specs.CodePlaces.{place_at}
use Rattle.vcd_scan.proofs.PlaceLemmas.{puts_low, puts_high, puts_other, added_code, on_ok}
use Rattle.vcd_scan.proofs.places.CodePlaces.put.Goals as goal

pub returns-then-number-lt-LOW-clause-added : goal.returns-then-number-lt-LOW-clause-added
returns-then-number-lt-LOW-clause-added c =
    on_ok c.put_low.result
    (puts_low c.args.self.now (record c.args.self.now { low = c.put_low.new.low }) c.args.code.now c.in-Some.number
    c.args.place (sym c.number_of.ensures ∙ c.in-Some.is) (lt-ltb _ _ c.if-number-lt-LOW.true) refl refl)
    c.put_low.ensures.added

pub returns-in_ok-insert-in-Some-clause-added : goal.returns-in_ok-insert-in-Some-clause-added
returns-in_ok-insert-in-Some-clause-added c =
    puts_high c.args.self.now (record c.args.self.now { high = c.insert.new.self }) c.args.code.now c.in-Some.number
    c.args.place (sym c.number_of.ensures ∙ c.in-Some.is) (le-ltb _ _ c.if-number-lt-LOW.false) refl refl
    c.in_ok-insert-in-Some.ensures.updates

pub returns-in_ok-insert-in-None-clause-added : goal.returns-in_ok-insert-in-None-clause-added
returns-in_ok-insert-in-None-clause-added c =
    let none = sym c.number_of.ensures ∙ c.in-None.is in
    let old = c.args.self.now.others.entries in
    let word = c.in_ok-word-in-None.word in
    puts_other c.args.self.now (record c.args.self.now { others = c.insert-in-None.new.self }) c.args.code.now
    c.args.place none refl refl
    (λ other. ap (lookup (is_at (λ v. slice_cmp nat_cmp other v.items))) c.in_ok-insert-in-None.ensures.entries
    ∙ added_code old word c.args.place c.args.code.now other c.in_ok-word-in-None.ensures
    (ap (place_at c.args.self.now c.args.code.now) (sym none) ∙ c.requires))
