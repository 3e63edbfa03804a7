-- How many snoop ends lie below a clock.
use Rattle.std.proofs.Common.{ℕ, zero, suc, ◌+◌, ◌-◌, ◌<◌, ◌≤◌, ◌≡◌, Bool, true, false, Option, Some, None, is_some}
use Rattle.std.proofs.Common.{refl, sym, ap, ◌∙◌, arith, add-one}
use Rattle.fsb_count.specs.Clocks.{count_where}
use Rattle.fsb_count.proofs.Interface.{count_where-passed, count_where-failed}
use Rattle.fsb_trace.specs.At.{Trace}
use Rattle.fsb_trace.specs.Snoop.{snoop_end_of}
use Rattle.fsb_trace.proofs.Interface.{snoop_end_of-rises}
use Rattle.fsb_timely.specs.Moments.{number_snooped_at}
use Rattle.fsb_timely.proofs.Moments.{number-found, number-says}
use Rattle.fsb_timely.proofs.TurnOrder.{none_before_first, none_between}

-- t is a snoop end of the trace
unfoldable pub is_end_of_snoop : Trace → ℕ → Bool
is_end_of_snoop w t = is_some (number_snooped_at w t)

-- a stretch in which no clock passes adds nothing
count-flat : (test : ℕ → Bool) (m k : ℕ) → ((u : ℕ) → m ≤ u → u < m + k → test u ≡ false)
    → count_where test (m + k) ≡ count_where test m
count-flat test m zero none = let e : m + 0 ≡ m = omega arith in ap (count_where test) e
count-flat test m (suc k) none =
    let e : m + suc k ≡ (m + k) + 1 = omega arith in
    ap (count_where test) e ∙ count_where-failed test (m + k) (none (m + k) (omega arith) (omega arith))
    ∙ count-flat test m k (λ u l h. none u l (omega arith))

count-same : (test : ℕ → Bool) (m n : ℕ) → m ≤ n → ((u : ℕ) → m ≤ u → u < n → test u ≡ false)
    → count_where test n ≡ count_where test m
count-same test m n l none =
    let e : m + (n - m) ≡ n = omega arith in
    ap (count_where test) (sym e) ∙ count-flat test m (n - m) (λ u h k. none u h (omega arith))

no_end : (w : Trace) (u : ℕ) (o : Option ℕ) → number_snooped_at w u ≡ o
    → ((j : ℕ) → snoop_end_of w j ≡ Some u → ⊥) → is_end_of_snoop w u ≡ false
unfolding is_end_of_snoop
no_end w u None e none = ap is_some e
no_end w u (Some j) e none = absurd (none j (number-says w j u e))

pub is_end : (w : Trace) (i s : ℕ) → snoop_end_of w i ≡ Some s → is_end_of_snoop w s ≡ true
unfolding is_end_of_snoop
is_end w i s e = ap is_some (number-found w i s e)

nothing : (test : ℕ → Bool) → count_where test 0 ≡ 0
unfolding count_where
nothing test = refl

-- as many snoop ends lie below that of a live request as live requests come before it
pub ends-below : (w : Trace) (i t : ℕ) → snoop_end_of w i ≡ Some t → count_where (is_end_of_snoop w) t ≡ i
ends-below w zero t e = count-same (is_end_of_snoop w) 0 t (omega arith)
    (λ u h l. no_end w u (number_snooped_at w u) refl (none_before_first w t u e l)) ∙ nothing (is_end_of_snoop w)
ends-below w (suc i) t e =
    let before = snoop_end_of-rises w i (suc i) t (omega arith) e in
    let s : ℕ = before.0 in
    let at_s : snoop_end_of w i ≡ Some s = before.1 in
    let gap : s + 3 ≤ t = before.2 in
    count-same (is_end_of_snoop w) (s + 1) t (omega arith)
    (λ u h l. no_end w u (number_snooped_at w u) refl (none_between w i s t u at_s e (omega arith) l))
    ∙ count_where-passed (is_end_of_snoop w) s (is_end w i s at_s) ∙ ap (λ k. k + 1) (ends-below w i s at_s) ∙ add-one i
