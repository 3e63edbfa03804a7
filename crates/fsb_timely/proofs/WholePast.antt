-- The past of a timely run goes on from its past up to each clock, so what is said of a clock is said of the whole
-- past.
use Rattle.std.proofs.Common.{ℕ, ◌+◌, ◌<◌, ◌≤◌, ◌≡◌, true, not, ◌&&◌, ◌||◌, nat_le, nat_lt, nat_eq, List, [], ◌∷◌}
use Rattle.std.proofs.Common.{◌++◌, length, take, drop, slice_get, refl, sym, ap, ◌∙◌, inl, inr, arith}
use Rattle.std.specs.List.{list_all, list_any}
use Rattle.std.proofs.lemmas.Bool.{cases_lt, and_parts, le-leb, lt-leb, leb-true}
use Rattle.std.proofs.lemmas.List.{length-take-le, take-append-drop}
use Rattle.fsb_count.specs.Options.{is_some_and}
use Rattle.fsb_count.proofs.Interface.{any_where-same}
use Rattle.fsb_signal.proofs.Interface.{slice_get-before}
use Rattle.fsb_access.specs.declared.log.Done.{Done}
use Rattle.fsb_timely.specs.Completions.{is_in_time, brings_at, is_brought, is_there, completes_by, is_arrival}
use Rattle.fsb_timely.specs.Grants.{is_granted, is_end_at, has_arrived}
use Rattle.fsb_timely.specs.Growth.{GoesOn}
use Rattle.fsb_timely.specs.Past.{Past}
use Rattle.fsb_timely.specs.Runs.{Run, entries_to, moments_below, past_of, past_to}
use Rattle.fsb_timely.specs.Scripts.{Need, needs_of}
use Rattle.fsb_timely.specs.Timely.{Timely}
use Rattle.fsb_timely.proofs.Beginnings.{length-moments}
use Rattle.fsb_timely.proofs.GoingOn.{grant-same, ends-same, ended-same, latest_grant-same}
use Rattle.fsb_timely.proofs.GoingScripts.{next_item-alike, is_idling-alike, is_met-alike, is_hit-alike}

-- entries behind a clock
later-than : (c first end : ℕ) (log : List Done) → c < first → is_in_time first end log ≡ true
    → (entries_to c log ≡ []) × (list_all (λ done. nat_le (c + 1) done.clock) log ≡ true)
unfolding is_in_time entries_to
later-than c first end [] l e = (refl, refl)
later-than c first end (done ∷ log) l e =
    let parts = and_parts (nat_le first done.clock) (nat_lt done.clock end && is_in_time done.clock end log) e in
    let rest = and_parts (nat_lt done.clock end) (is_in_time done.clock end log) parts.1 in
    let above : first ≤ done.clock = leb-true first done.clock parts.0 in
    let more = later-than c done.clock end log (omega arith) rest.1 in
    (rw (lt-leb done.clock c (omega arith)) more.0, rw (le-leb (c + 1) done.clock (omega arith)) more.1)

-- a log in time is its entries up to a clock, and then later ones
pub split_at : (c first end : ℕ) (log : List Done) → is_in_time first end log ≡ true
    → (later : List Done) × (log ≡ entries_to c log ++ later)
    × (list_all (λ done. nat_le (c + 1) done.clock) later ≡ true)
unfolding is_in_time entries_to
split_at c first end [] e = ([], refl, refl)
split_at c first end (done ∷ log) e =
    let parts = and_parts (nat_le first done.clock) (nat_lt done.clock end && is_in_time done.clock end log) e in
    let rest = and_parts (nat_lt done.clock end) (is_in_time done.clock end log) parts.1 in
    elim (cases_lt c done.clock) [
      | inl l ↦
          let more = later-than c done.clock end log l rest.1 in (
            done ∷ log,
            rw (lt-leb done.clock c l) (ap (λ xs. xs ++ done ∷ log) (sym more.0)),
            rw (le-leb (c + 1) done.clock (omega arith)) more.1,
          )
      | inr l ↦
          let more = split_at c done.clock end log rest.1 in
          (more.0, rw (le-leb done.clock c l) (ap (λ xs. done ∷ xs) more.1), more.2)
    ]

pub past-begins : (r : Run) (c : ℕ) → Timely r → c < length r.trace → GoesOn (c + 1) (past_to (past_of r) c) (past_of r)
unfolding past_to past_of
past-begins r c h l =
    let split = split_at c 0 (length r.trace) r.log h.in_time in
    let moments = moments_below r (length r.trace) in
    let k = length-moments r (length r.trace) in
    record {
      same_plan = refl;
      same_moments = λ t m.
          sym (ap (λ v. slice_get v t) (sym (take-append-drop (c + 1) moments))
          ∙ slice_get-before (take (c + 1) moments) (drop (c + 1) moments) t
          (let e = length-take-le (c + 1) moments (omega (arith, k, l)) in omega (arith, e, m)));
      entries = split.0;
      more_log = split.1;
      at_end = split.2;
    }

-- an arrival rests on the past up to its clock
brings-alike : (n : ℕ) (p q : Past) (a c : ℕ) (need : Need) (t : ℕ) → GoesOn n p q → c < n → t < n
    → brings_at p a c need t ≡ brings_at q a c need t
unfolding brings_at is_granted is_end_at
brings-alike n p q a c need t h l m = grind (arith, grant-same, ends-same)

pub is_brought-alike : (n : ℕ) (p q : Past) (a c : ℕ) (need : Need) → GoesOn n p q → c < n
    → is_brought p a c need ≡ is_brought q a c need
unfolding is_brought
is_brought-alike n p q a c need h l =
    any_where-same (brings_at p a c need) (brings_at q a c need) (c + 1)
    (record { same = λ t m. brings-alike n p q a c need t h l (omega arith) })

is_there-alike : (n : ℕ) (p q : Past) (a c : ℕ) (need : Need) → GoesOn n p q → c < n
    → is_there p a c need ≡ is_there q a c need
unfolding is_there has_arrived
is_there-alike n p q a c need h l =
    let met = is_met-alike n p q a (c + 1) need h (omega arith) in
    grind (arith, latest_grant-same, ended-same)

pub is_arrival-alike : (n : ℕ) (p q : Past) (a c : ℕ) → GoesOn n p q → c < n → is_arrival p a c ≡ is_arrival q a c
unfolding is_arrival completes_by
is_arrival-alike n p q a c h l =
    let idling = is_idling-alike n p q a c h (omega arith) in
    let hit = is_hit-alike n p q a c h (omega arith) in
    let item = next_item-alike n p q a c h (omega arith) in
    let brought : (need : Need) → is_brought p a c need ≡ is_brought q a c need =
    λ need. is_brought-alike n p q a c need h l in
    let there : (need : Need) → is_there p a c need ≡ is_there q a c need = λ need. is_there-alike n p q a c need h l in
    λ i.
    not (idling i) && not (hit i)
    && is_some_and (item i)
    (λ x. list_any (λ need. brought need i && list_all
    (λ other. nat_eq other.line need.line || there other i) (needs_of x)) (needs_of x))
