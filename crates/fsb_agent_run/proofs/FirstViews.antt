-- The view of an agent before any event is that of the run at its first clock.
use Rattle.fsb_agent_run.proofs.Words
use Words.{ℕ, zero, suc, ◌+◌, ◌≡◌, Bool, false, not, ◌&&◌, List, [], ◌∷◌, Option, None, replicate, get_or, nat_eq, ◌%◌}
use Words.{length, refl, sym, ap, ◌∙◌, arith, list_any, option_map, option_map_or, length-replicate, holds_since}
use Words.{last_where, is_some_and, Done, Held, held_at, states, Invalid, Past, holds_line, is_exclusive, latest_grant}
use Words.{idle_clocks, idle_start, is_done_by, is_idle, is_logged, is_to_do, items_of, last_done, next_number}
use Words.{number_after, outstanding_at, owed, is_dirty_below, first_view, AgentView, line_state_by, idle_from}
use Words.{place_from, finished_by, idle_end, is_awaited, one_if, place_of, state_told, IsViewOf}
use Rattle.std.specs.List.{slice_get}
use Rattle.fsb_agent_run.proofs.IdleItems.{idles-from, next-from}
use Rattle.fsb_agent_run.proofs.Places.{done-before}

-- agent a of the plan before any event
abbrev pub first_of : Past → ℕ → AgentView
first_of p a = first_view a (items_of p a) p.plan.cache p.plan.ahead p.plan.profile

-- nothing is logged below the first clock
none-done : (a n : ℕ) (log : List Done) → list_any (λ done. is_done_by a 0 done && nat_eq done.item n) log ≡ false
unfolding is_done_by
none-done a n [] = refl
none-done a n (done ∷ log) = grind (arith, none-done a n log)

to-do-first : (p : Past) (a n : ℕ)
    → is_to_do p a 0 n ≡ is_some_and (slice_get (items_of p a) n) (λ item. not (is_idle item))
unfolding is_to_do is_logged
to-do-first p a n =
    rw (none-done a n p.log) (whole (is_some_and (slice_get (items_of p a) n) (λ item. not (is_idle item))))
  where
    whole : (b : Bool) → (b && not false) ≡ b
    whole b = grind arith

none-last : (p : Past) (a : ℕ) → last_done p a 0 ≡ None
none-last p a = grind (arith, done-before)

place-first : (p : Past) (a : ℕ) → place_of (items_of p a) (next_number p a 0) ≡ place_from (items_of p a) 0
unfolding next_number
place-first p a =
    next-from (is_to_do p a 0) (items_of p a) 0 (omega arith) (λ n l. absurd (omega arith)) (λ n l. to-do-first p a n)

idle-first : (p : Past) (a : ℕ) → idle_end p a 0 ≡ idle_from (items_of p a) 0
unfolding idle_start number_after
idle-first p a =
    let none = none-last p a in
    let place = place-first p a in
    (λ i. option_map_or (λ done. done.clock + 1) (none i) 0
    + idle_clocks (items_of p a) (option_map_or (λ done. done.item + 1) (none i) 0) (place i))
    ∙ zero-plus (idle_clocks (items_of p a) 0 (place_from (items_of p a) 0)) ∙ idles-from (items_of p a) 0
  where
    zero-plus : (n : ℕ) → 0 + n ≡ n
    zero-plus n = omega arith

-- an empty cache has no line
none-in : (n i : ℕ) → get_or (replicate {A = Option Held} n None) i None ≡ None
none-in zero i = refl
none-in (suc n) zero = refl
none-in (suc n) (suc i) = none-in n i

unheld : (p : Past) (a line : ℕ) → holds_line p a line 0 ≡ false
unfolding holds_line holds_since last_where
unheld p a line = refl

invalid : (p : Past) (a line : ℕ) → line_state_by (first_of p a) line ≡ Invalid
unfolding states held_at
invalid p a line = rw (none-in p.plan.cache _) refl

unawaited : (p : Past) (a line : ℕ) → is_awaited p a line 0 0 ≡ false
unfolding is_awaited latest_grant last_where is_some_and
unawaited p a line = refl

none-owed : (p : Past) (a : ℕ) → owed p a 0 ≡ []
unfolding owed outstanding_at
none-owed p a = refl

pub first-of : (p : Past) (a : ℕ) → IsViewOf p a 0 (first_of p a)
first-of p a = record {
  agent = record {
    number = refl;
    items = refl;
    ahead = refl;
    profile = refl;
    cache = length-replicate {A = Option Held} p.plan.cache None;
  };
  placed = record {
    place = sym (place-first p a);
    idle_to = sym (idle-first p a);
    finished = sym (ap (option_map finished_by) (none-last p a));
  };
  lines = record {
    states = λ line.
        invalid p a line
        ∙ ap (λ b. state_told b (is_exclusive p a line 0) (is_dirty_below p a line 0)) (sym (unheld p a line));
    fills = λ line. ap one_if (sym (unawaited p a line));
    in_sets = λ line. rw (none-in p.plan.cache (line % length (replicate {A = Option Held} p.plan.cache None))) refl;
  };
  requests = record {
    owed = sym (none-owed p a);
    wanted = λ k out e. absurd (let no : ⊥ = cc in no);
    kept = λ k out e. absurd (let no : ⊥ = cc in no);
  };
}
