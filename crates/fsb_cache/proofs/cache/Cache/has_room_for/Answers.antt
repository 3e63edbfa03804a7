use Rattle.std.proofs.Common.{◌≡◌, sym, ◌∙◌, refl, arith}
use Rattle.std.proofs.lemmas.Bool.{eq-eqb}
use Rattle.std.proofs.lemmas.Bool.Decides.{nat_tests}
use Rattle.std.proofs.lemmas.Option.{none-some, same_Some}
use Rattle.fsb_cache.proofs.cache.Cache.has_room_for.Goals as goal

pub returns-in-Some : goal.returns-in-Some
returns-in-Some c = (
  λ same other one has.
      let is : c.in-Some.other ≡ other =
      same_Some _ _ (sym c.in-Some.is ∙ (c.resident.ensures.has other).1 (one, has)) in
      let line : c.in-Some.other ≡ c.args.line = grind (arith, nat_tests) in sym is ∙ line,
  λ room.
      let at = (c.resident.ensures.has c.in-Some.other).0 c.in-Some.is in
      eq-eqb c.in-Some.other c.args.line (room c.in-Some.other at.0 at.1),
)

pub returns-in-None : goal.returns-in-None
returns-in-None c = (
  λ always other one has. absurd (none-some other (sym c.in-None.is ∙ (c.resident.ensures.has other).1 (one, has))),
  λ room. refl,
)
