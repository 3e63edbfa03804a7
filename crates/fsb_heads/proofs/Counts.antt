-- How many live requests have their snoop end.
use Rattle.std.proofs.Common.{ℕ, zero, suc, ◌+◌, ◌<◌, ◌≤◌, ◌≡◌, Bool, true, false, Option, Some, None, is_some, refl}
use Rattle.std.proofs.Common.{cond, length, sym, ◌⊎◌, inl, inr, arith, subst, add-one, add-zero}
use Rattle.std.proofs.lemmas.Bool.{cases_lt, cases_eq}
use Rattle.fsb_count.specs.Clocks.{count_where}
use Rattle.fsb_count.proofs.Interface.{count_where-failed, count_where-passed}
use Rattle.fsb_trace.specs.At.{Trace}
use Rattle.fsb_trace.specs.Requests.{live_count}
use Rattle.fsb_trace.specs.Snoop.{snoop_end_of}
use Rattle.fsb_trace.proofs.Interface.{snoop_end_of-clock, live_below_count}
use Rattle.fsb_signal.specs.declared.sample.Sample.{Sample}
use Rattle.fsb_laws.specs.OneMore.{OneMore}
use Rattle.fsb_laws.specs.Orderly.{Spaced}
use Rattle.fsb_laws.specs.Progress.{SnoopsTo, ends_snoop_of}
use Rattle.fsb_laws.proofs.Interface.{snoop_end_of-above, snoops_to-ended, snoops_to-kept}
use Rattle.fsb_heads.specs.Heads.{snooped_count}

-- a test that exactly the numbers below s pass
count_below : (p : ℕ → Bool) (n s : ℕ) → s ≤ n → ((k : ℕ) → k < s → p k ≡ true)
    → ((k : ℕ) → s ≤ k → k < n → p k ≡ false) → count_where p n ≡ s
unfolding count_where
count_below p zero s l f g = omega arith
count_below p (suc n) s l f g =
    elim (cases_lt n s) [
      | inl all ↦
          let ih = count_below p n n (omega arith) (λ k m. f k (omega arith)) (λ k m o. absurd (omega arith)) in
          let more : count_where p (suc n) ≡ count_where p n + 1 =
          rw add-one at (count_where-passed p n (f n all)) in
          omega arith
      | inr some ↦
          let ih = count_below p n s some f (λ k m o. g k m (omega arith)) in
          let same : count_where p (suc n) ≡ count_where p n =
          rw add-one at (count_where-failed p n (g n some (omega arith))) in
          omega arith
    ]

-- each live request below n has its snoop end, or some request is the first without
abbrev HasSnoop : Trace → ℕ → Type 0
HasSnoop h i = (t : ℕ) × (snoop_end_of h i ≡ Some t) × (t < length h)

first_open : (h : Trace) (n : ℕ) (o : Option ℕ) → snoop_end_of h n ≡ o → ((i : ℕ) → i < n → HasSnoop h i)
    → ((s : ℕ) × SnoopsTo h s) ⊎ ((i : ℕ) → i < suc n → HasSnoop h i)
first_open h n None e f = inl (n, record { reached = f; next = e })
first_open h n (Some t) e f =
    inr (λ i l. elim (cases_eq i n) [
      | inl same ↦ (t, subst (λ j. snoop_end_of h j ≡ Some t) (sym same) e, (snoop_end_of-clock h n t e).within)
      | inr other ↦ f i (omega arith)
    ])

snoops_below : (h : Trace) (n : ℕ) → ((s : ℕ) × SnoopsTo h s) ⊎ ((i : ℕ) → i < n → HasSnoop h i)
snoops_below h zero = inr (λ i l. absurd (omega arith))
snoops_below h (suc n) =
    elim (snoops_below h n) [ inl k ↦ inl k | inr f ↦ first_open h n (snoop_end_of h n) refl f ]

snoop_live : (h : Trace) (i t : ℕ) → snoop_end_of h i ≡ Some t → i < live_count h
snoop_live h i t e = let c = snoop_end_of-clock h i t e in live_below_count h i c.clock c.is_clock

some_snoops : (h : Trace) → (s : ℕ) × SnoopsTo h s
some_snoops h =
    elim (snoops_below h (suc (live_count h))) [
      | inl k ↦ k
      | inr f ↦ let r = f (live_count h) (omega arith) in
          let l = snoop_live h (live_count h) r.0 r.1 in absurd (omega arith)
    ]

snoops_live : (h : Trace) (s : ℕ) → SnoopsTo h s → s ≤ live_count h
snoops_live h zero to = omega arith
snoops_live h (suc i) to = let r = to.reached i (omega arith) in let l = snoop_live h i r.0 r.1 in omega arith

-- the live requests with their snoop end are those below their count
pub snoops_count : (h : Trace) (s : ℕ) → SnoopsTo h s → snooped_count h ≡ s
unfolding snooped_count
snoops_count h s to =
    count_below (λ i. is_some (snoop_end_of h i)) (live_count h) s (snoops_live h s to)
    (λ k l. let r = to.reached k l in rw r.1 refl) (λ k l m. rw (snoop_end_of-above h s k to l) refl)

pub snoops_to : (h : Trace) → SnoopsTo h (snooped_count h)
snoops_to h = let k = some_snoops h in subst (SnoopsTo h) (sym (snoops_count h k.0 k.1)) k.1

-- and with the next sample there is one more where a snoop ends with it
snoops_to-more : (h : Trace) (x : Sample) (v : Trace) (s : ℕ) (b : Bool) → OneMore h x v → Spaced h → SnoopsTo h s
    → ends_snoop_of h s x ≡ b → SnoopsTo v (s + cond b 1 0)
snoops_to-more h x v s true m sp to t = snoops_to-ended h x v s m sp to t
snoops_to-more h x v s false m sp to f = subst (SnoopsTo v) (sym (add-zero s)) (snoops_to-kept h x v s m sp to f)

pub snooped_count-more : (h : Trace) (x : Sample) (v : Trace) → OneMore h x v → Spaced h
    → snooped_count v ≡ snooped_count h + cond (ends_snoop_of h (snooped_count h) x) 1 0
snooped_count-more h x v m sp =
    snoops_count v _ (snoops_to-more h x v (snooped_count h) _ m sp (snoops_to h) refl)
