-- Where LOCK# is not asserted no agent keeps the bus locked after the clock.
use Rattle.std.proofs.Common.{ℕ, zero, suc, ◌≡◌, Bool, true, false, not, Option, Some, None, List, [], ◌∷◌, refl}
use Rattle.std.proofs.Common.{ap, ◌∙◌}
use Rattle.std.specs.Prelude.{◌&&◌, ◌||◌}
use Rattle.std.specs.List.{list_any}
use Rattle.std.proofs.lemmas.Bool.{or_parts}
use Rattle.fsb_access.specs.declared.item.Item.{Item}
use Rattle.fsb_count.specs.Options.{is_some_and}
use Rattle.fsb_bench_view.specs.declared.beginning.Starting.{Starting}
use Rattle.fsb_bench_view.specs.BusLocking.{MayRelease, bus_locked, is_locking, is_of, is_released, keeps_after}
use Rattle.fsb_bench_view.specs.BusLocking.{keeps_in}
use Rattle.fsb_bench_view.specs.BusSample.{is_lock_driven}
use Rattle.fsb_bench_view.specs.BusViews.{BusView}

none_kept : (kept : List Bool) (agent : ℕ) → list_any (λ kept. kept) kept ≡ false → keeps_in kept agent ≡ false
none_kept [] zero none = refl
none_kept [] (suc agent) none = refl
none_kept (k ∷ ks) zero none = (or_parts k (list_any (λ kept. kept) ks) none).0
none_kept (k ∷ ks) (suc agent) none = none_kept ks agent (or_parts k (list_any (λ kept. kept) ks) none).1

and_none : (b : Bool) → (b && false) ≡ false
and_none true = refl
and_none false = refl

none_begun : (starting : Option Starting) (agent : ℕ) → is_some_and starting (λ s. s.locked) ≡ false
    → is_locking starting agent ≡ false
unfolding is_some_and
none_begun None agent none = refl
none_begun (Some s) agent none = ap (λ locked. is_of agent s.who && locked) none ∙ and_none (is_of agent s.who)

after_none : (scripts : List (List Item)) (bus : BusView) (starting : Option Starting) (may : MayRelease) (agent : ℕ)
    → is_lock_driven bus starting ≡ false → keeps_after scripts bus starting may agent ≡ false
after_none scripts bus starting may agent none =
    let loose = or_parts (list_any (λ kept. kept) bus.kept) (is_some_and starting (λ s. s.locked)) none in
    let stays = not (is_released scripts bus.started may agent) in
    ap (λ keeps. (keeps || is_locking starting agent) && stays) (none_kept bus.kept agent loose.0)
    ∙ ap (λ locks. locks && stays) (none_begun starting agent loose.1)

pub unlocked : (scripts : List (List Item)) (bus : BusView) (starting : Option Starting) (may : MayRelease)
    → is_lock_driven bus starting ≡ false
    → record bus { kept = false ∷ (false ∷ (false ∷ (false ∷ []))) } ≡ bus_locked scripts bus starting may
unlocked scripts bus starting may none =
    rw (
      after_none scripts bus starting may 0 none,
      after_none scripts bus starting may 1 none,
      after_none scripts bus starting may 2 none,
      after_none scripts bus starting may 3 none,
    ) refl
