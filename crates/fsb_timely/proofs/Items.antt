-- Where an agent is in its script, one clock further.
use Rattle.std.proofs.Common.{ℕ, ◌+◌, ◌≡◌, false, ◌&&◌, ◌||◌, List, [], ◌∷◌, refl, ap, nat_eq, slice_get, arith}
use Rattle.std.specs.List.{list_any}
use Rattle.std.specs.Option.{option_and_then, option_map_or}
use Rattle.fsb_access.specs.declared.log.Done.{Done}
use Rattle.fsb_timely.specs.Past.{Past}
use Rattle.fsb_timely.specs.Scripts.{items_of, is_done_by, is_done_at, completes_at, is_logged_at, is_logged}
use Rattle.fsb_timely.specs.Scripts.{is_to_do, next_number, next_item, window_at, window}

-- an entry that is not at c
pub done-same : (a c : ℕ) (done : Done) → is_done_at a c done ≡ false → is_done_by a (c + 1) done ≡ is_done_by a c done
unfolding is_done_by is_done_at
done-same a c done e = grind arith

logged-same : (a c n : ℕ) (log : List Done) → list_any (is_done_at a c) log ≡ false
    → list_any (λ done. is_done_by a (c + 1) done && nat_eq done.item n) log
    ≡ list_any (λ done. is_done_by a c done && nat_eq done.item n) log
logged-same a c n [] e = refl
logged-same a c n (done ∷ log) e = grind (arith, done-same, logged-same a c n log)

is_logged-same : (p : Past) (a c n : ℕ) → completes_at p a c ≡ false → is_logged p a (c + 1) n ≡ is_logged p a c n
unfolding is_logged completes_at
is_logged-same p a c n e = logged-same a c n p.log e

-- an agent without an entry at c stays where it is in its script
pub next_number-same : (p : Past) (a c : ℕ) → completes_at p a c ≡ false → next_number p a (c + 1) ≡ next_number p a c
unfolding next_number is_to_do
next_number-same p a c e = grind (arith, is_logged-same)

pub next_item-same : (p : Past) (a c : ℕ) → completes_at p a c ≡ false → next_item p a (c + 1) ≡ next_item p a c
unfolding next_item
next_item-same p a c e = ap (option_and_then (slice_get (items_of p a))) (next_number-same p a c e)

pub window-same : (p : Past) (a c : ℕ) → completes_at p a c ≡ false → window p a (c + 1) ≡ window p a c
unfolding window
window-same p a c e = ap (λ o. option_map_or (window_at p a) o []) (next_number-same p a c e)

-- an item is done below c + 1 where it is done below c or at c
logged-more : (a c n : ℕ) (log : List Done) →
    list_any (λ done. is_done_by a (c + 1) done && nat_eq done.item n) log
    ≡ (list_any (λ done. is_done_by a c done && nat_eq done.item n) log
    || list_any (λ done. is_done_at a c done && nat_eq done.item n) log)
unfolding is_done_by is_done_at
logged-more a c n [] = refl
logged-more a c n (done ∷ log) = grind (arith, logged-more a c n log)

pub is_logged-more : (p : Past) (a c n : ℕ) → is_logged p a (c + 1) n ≡ (is_logged p a c n || is_logged_at p a c n)
unfolding is_logged is_logged_at
is_logged-more p a c n = logged-more a c n p.log
