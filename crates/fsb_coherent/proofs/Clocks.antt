-- Clocks that keep the tie, one after the other.
use Rattle.fsb_coherent.proofs.Words
use Words.{ℕ, zero, suc, ◌+◌, ◌<◌, ◌≡◌, List, [], ◌∷◌, ◌++◌, refl, sym, subst, arith, add-one, Event, after, Bytes}
use Words.{MemoryLine, unheld, MayRun, run, ordered_run, ordered_unheld, valued_run, valued_unheld, Past, events_at}
use Words.{events_below, Tied, IsTiedTo, KeepsTie}
use Rattle.fsb_coherent.proofs.Beginning.{tied-start}

-- two lists of events, one after the other
pub run-append : (x : MemoryLine) (es fs : List Event) → run x (es ++ fs) ≡ run (run x es) fs
run-append x [] fs = refl
run-append x (e ∷ es) fs = run-append (after x e) es fs

pub MayRun-append : (x : MemoryLine) (es fs : List Event) → MayRun x es → MayRun (run x es) fs → MayRun x (es ++ fs)
MayRun-append x [] fs h k = k
MayRun-append x (e ∷ es) fs h k = (h.0, MayRun-append (after x e) es fs h.1 k)

pub may-below : (p : Past) (line n : ℕ) (bytes : Bytes) → ((c : ℕ) → c < n → KeepsTie p line c)
    → MayRun (unheld bytes) (events_below p line n) × IsTiedTo p line n (run (unheld bytes) (events_below p line n))
unfolding events_below
may-below p line zero bytes keeps =
    (tt, record { ordered = ordered_unheld bytes; valued = valued_unheld bytes; tied = tied-start p line bytes })
may-below p line (suc n) bytes keeps =
    let before = may-below p line n bytes (λ c l. keeps c (omega arith)) in
    let here = keeps n (omega arith) in
    let x : MemoryLine = run (unheld bytes) (events_below p line n) in
    let may : MayRun x (events_at p line n) = here.may x before.1.ordered before.1.valued before.1.tied in
    let tied : Tied p line (n + 1) (run x (events_at p line n)) =
    here.tied x before.1.ordered before.1.valued before.1.tied in
    let next : Tied p line (suc n) (run x (events_at p line n)) =
    subst (λ k. Tied p line k (run x (events_at p line n))) (add-one n) tied in
    let after_it : IsTiedTo p line (suc n) (run x (events_at p line n)) = record {
      ordered = ordered_run x (events_at p line n) before.1.ordered may;
      valued = valued_run x (events_at p line n) before.1.ordered before.1.valued may;
      tied = next;
    } in (
      MayRun-append (unheld bytes) (events_below p line n) (events_at p line n) before.0 may,
      subst (IsTiedTo p line (suc n))
          (sym (run-append (unheld bytes) (events_below p line n) (events_at p line n))) after_it,
    )
