-- What arrivals complete at a bench's clock does not rest on the entries that are logged there.
use Rattle.fsb_bench_run.proofs.Words
use Words.{ℕ, ◌≡◌, ◌&&◌, ◌||◌, ◌++◌, Bool, not, nat_eq, List, [], ◌∷◌, refl, sym, ap, ◌∙◌, arith, list_all, list_any}
use Words.{option_map_or, Done, is_some_and, Choice, completed_if, completed_of_item, completes_by, is_arrival}
use Words.{is_brought, is_there, next_accesses, of_all_agents, GoesOn, GrowsTo, IsWhole, moment_at_growth}
use Words.{past_at_growth, Past, past_of, Need, needs_of, Timely, is_hit-alike, is_idling-alike, moments-grow}
use Words.{next_item-alike, next_number-alike, past-goes_on, BenchView, next_clock_of}
use Rattle.fsb_bench_run.proofs.CompletionsNow.{arrivals_at}
use Rattle.fsb_bench_run.proofs.LogsApart.{brought-same, moment-same, there-same}
use Rattle.fsb_bench_run.proofs.RunWith.{run_with}

-- two pasts that differ in the entries of clock n alone
record DifferNow (n : ℕ) (p q : Past) : Type 0 where
  before : Past
  first : GoesOn n before p
  second : GoesOn n before q
  plan : p.plan ≡ q.plan
  moments : p.moments ≡ q.moments

brought-now : (n : ℕ) (p q : Past) (a : ℕ) (need : Need) → DifferNow n p q
    → is_brought p a n need ≡ is_brought q a n need
brought-now n p q a need k = grind (arith, brought-same)

there-now : (n : ℕ) (p q : Past) (a : ℕ) (need : Need) → DifferNow n p q → is_there p a n need ≡ is_there q a n need
there-now n p q a need k = grind (arith, there-same)

arrival-now : (n : ℕ) (p q : Past) (a : ℕ) → DifferNow n p q → is_arrival p a n ≡ is_arrival q a n
unfolding is_arrival completes_by
arrival-now n p q a k =
    let idling = sym (is_idling-alike n k.before p a n k.first (omega arith))
    ∙ is_idling-alike n k.before q a n k.second (omega arith) in
    let hit = sym (is_hit-alike n k.before p a n k.first (omega arith))
    ∙ is_hit-alike n k.before q a n k.second (omega arith) in
    let item = sym (next_item-alike n k.before p a n k.first (omega arith))
    ∙ next_item-alike n k.before q a n k.second (omega arith) in
    let brought : (need : Need) → is_brought p a n need ≡ is_brought q a n need = λ need. brought-now n p q a need k in
    let there : (need : Need) → is_there p a n need ≡ is_there q a n need = λ need. there-now n p q a need k in
    λ i.
    not (idling i) && not (hit i)
    && is_some_and (item i) (λ x. list_any (λ need. brought need i
    && list_all (λ other. nat_eq other.line need.line || there other i) (needs_of x)) (needs_of x))

accesses-now : (n : ℕ) (p q : Past) (a : ℕ) → DifferNow n p q → next_accesses p a n ≡ next_accesses q a n
unfolding next_accesses
accesses-now n p q a k =
    let number = sym (next_number-alike n k.before p a n k.first (omega arith))
    ∙ next_number-alike n k.before q a n k.second (omega arith) in
    let item = sym (next_item-alike n k.before p a n k.first (omega arith))
    ∙ next_item-alike n k.before q a n k.second (omega arith) in
    λ i. option_map_or (λ m. option_map_or (completed_of_item a m) (item i) []) (number i) []

arrivals-now : (n : ℕ) (p q : Past) → DifferNow n p q → arrivals_at p n ≡ arrivals_at q n
unfolding of_all_agents completed_if
arrivals-now n p q k = grind (arith, arrival-now, accesses-now)

-- the moment of the clock is the same
moment-now : (v : BenchView) (hold : Bool) (choice : Choice) (old new : List Done)
    → moment_at_growth v.run (run_with v hold choice old) ≡ moment_at_growth v.run (run_with v hold choice new)
unfolding moment_at_growth past_at_growth
moment-now v hold choice old new = grind (arith, moment-same)

-- the run before the clock has a hold for each clock, and a choice for each request
pub whole-before : (v : BenchView) → Timely v.run → IsWhole v.run
whole-before v timely = record { one_hold = timely.one_hold; one_choice = timely.one_choice }

plan-now : (v : BenchView) (hold : Bool) (choice : Choice) (old new : List Done)
    → (past_of (run_with v hold choice old)).plan ≡ (past_of (run_with v hold choice new)).plan
unfolding past_of
plan-now v hold choice old new = refl

differ-now : (v : BenchView) (hold : Bool) (choice : Choice) (old new : List Done)
    → GrowsTo v.run (run_with v hold choice old) → GrowsTo v.run (run_with v hold choice new)
    → DifferNow (next_clock_of v) (past_of (run_with v hold choice old)) (past_of (run_with v hold choice new))
differ-now v hold choice old new k l = record {
  before = past_of v.run;
  first = past-goes_on v.run (run_with v hold choice old) k.next (whole-before v k.timely);
  second = past-goes_on v.run (run_with v hold choice new) l.next (whole-before v l.timely);
  plan = plan-now v hold choice old new;
  moments =
      moments-grow v.run (run_with v hold choice old) k
      ∙ ap (λ m. (past_of v.run).moments ++ m ∷ []) (moment-now v hold choice old new)
      ∙ sym (moments-grow v.run (run_with v hold choice new) l);
}

pub arrivals-same : (v : BenchView) (hold : Bool) (choice : Choice) (old new : List Done)
    → GrowsTo v.run (run_with v hold choice old) → GrowsTo v.run (run_with v hold choice new)
    → arrivals_at (past_of (run_with v hold choice old)) (next_clock_of v)
    ≡ arrivals_at (past_of (run_with v hold choice new)) (next_clock_of v)
arrivals-same v hold choice old new k l =
    arrivals-now (next_clock_of v) (past_of (run_with v hold choice old)) (past_of (run_with v hold choice new))
    (differ-now v hold choice old new k l)
