-- A look one sample on.
use Rattle.std.proofs.Common.{ℕ, zero, suc, ◌+◌, ◌-◌, ◌<◌, ◌≡◌, Bool, true, false, cond, nat_le, Option, Some}
use Rattle.std.proofs.Common.{[], ◌∷◌, ◌++◌, length, slice_get, refl, sym, ap, subst, ◌∙◌, arith, inl, inr, add-one}
use Rattle.std.proofs.lemmas.Bool.{cases_Bool, leb-true, leb-false, le-leb, lt-leb}
use Rattle.fsb_count.specs.Clocks.{last_where}
use Rattle.fsb_count.proofs.Interface.{last_where-passed, last_where-failed}
use Rattle.fsb_signal.specs.declared.lines.TheConstants.Lines.{ADS}
use Rattle.fsb_signal.specs.declared.marks.Marks.{Marks}
use Rattle.fsb_signal.specs.declared.sample.Sample.{Sample}
use Rattle.fsb_signal.specs.Samples.{has_line, line_at}
use Rattle.fsb_trace.specs.declared.who.Who.{Who}
use Rattle.fsb_trace.specs.At.{Trace}
use Rattle.fsb_trace.specs.Winner.{winner_at, then_begun, last_agent}
use Rattle.fsb_trace.proofs.Interface.{requesters_before-begun, requesters_before-kept, requesters_before-agree, winner_at-agree}
use Rattle.fsb_laws.specs.OneMore.{OneMore}
use Rattle.fsb_laws.proofs.Interface.{line_at-old, one_more}
use Rattle.fsb_why.specs.declared.look.Look.{Look}
use Rattle.fsb_why.specs.Look.{sample_back, Shows}
use Rattle.fsb_why.proofs.Shown.{line_here}

next_cases : (h : Trace) (x : Sample) (v : Trace) (n d : ℕ) (b : Bool) → OneMore h x v → length h ≡ n + 1
    → nat_le d n ≡ b → sample_back v (n + 1) (d + 1) ≡ sample_back h n d
unfolding sample_back
next_cases h x v n d true m s e =
    let within = leb-true d n e in
    let same : n + 1 - (d + 1) ≡ n - d = omega arith in
    rw (le-leb (d + 1) (n + 1) (omega arith), e, same, sym (m.agree.same (n - d) (omega arith))) refl
next_cases h x v n d false m s e =
    let out : n < d = leb-false d n e in rw (lt-leb (d + 1) (n + 1) (omega arith), e) refl

sample_back-next : (h : Trace) (x : Sample) (v : Trace) (n d : ℕ) → OneMore h x v → length h ≡ n + 1
    → sample_back v (n + 1) (d + 1) ≡ sample_back h n d
sample_back-next h x v n d m s = next_cases h x v n d (nat_le d n) m s refl

sample_back-one : (h : Trace) (x y : Sample) (v : Trace) (n : ℕ) → OneMore h x v → length h ≡ n + 1
    → slice_get h n ≡ Some y → Some y ≡ sample_back v (n + 1) 1
unfolding sample_back
sample_back-one h x y v n m s e =
    let same : n + 1 - 1 ≡ n = omega arith in
    rw (le-leb 1 (n + 1) (omega arith), same, sym (m.agree.same n (omega (arith, s)))) (sym e)

-- the last clock that passes
last_same : (p q : ℕ → Bool) (n : ℕ) → ((k : ℕ) → k < n → p k ≡ q k) → last_where p n ≡ last_where q n
unfolding last_where
last_same p q zero f = refl
last_same p q (suc n) f =
    let here : p n ≡ q n = f n (omega arith) in
    let before = last_same p q n (λ k l. f k (omega (arith, l))) in
    elim (cases_Bool (p n)) [
      | inl t ↦ last_where-passed p n t ∙ sym (last_where-passed q n (sym here ∙ t))
      | inr g ↦ last_where-failed p n g ∙ (before ∙ sym (last_where-failed q n (sym here ∙ g)))
    ]

last_begun : (p : ℕ → Bool) (n : ℕ) → p n ≡ true → last_where p (n + 1) ≡ Some n
last_begun p n t = ap (last_where p) (add-one n) ∙ last_where-passed p n t

last_kept : (p : ℕ → Bool) (n : ℕ) → p n ≡ false → last_where p (n + 1) ≡ last_where p n
last_kept p n f = ap (last_where p) (add-one n) ∙ last_where-failed p n f

request-cases : (h : Trace) (x y : Sample) (v : Trace) (n : ℕ) (r : Option ℕ) (b : Bool) → OneMore h x v
    → length h ≡ n + 1 → slice_get h n ≡ Some y → r ≡ last_where (line_at ADS h) n → has_line y ADS ≡ b
    → cond b (Some n) r ≡ last_where (line_at ADS v) (n + 1)
request-cases h x y v n r true m s e k t =
    let here : line_at ADS v n ≡ true =
    line_at-old ADS h x v n m (omega (arith, s)) ∙ (line_here ADS h n y e ∙ t) in
    sym (last_begun (line_at ADS v) n here)
request-cases h x y v n r false m s e k t =
    let here : line_at ADS v n ≡ false =
    line_at-old ADS h x v n m (omega (arith, s)) ∙ (line_here ADS h n y e ∙ t) in
    k ∙ (last_same (line_at ADS h) (line_at ADS v) n (λ i l. sym (line_at-old ADS h x v i m (omega (arith, l, s))))
    ∙ sym (last_kept (line_at ADS v) n here))

agent-cases : (h : Trace) (x y : Sample) (v : Trace) (n : ℕ) (w r : Option Who) (b : Bool) → OneMore h x v
    → length h ≡ n + 1 → slice_get h n ≡ Some y → w ≡ winner_at h n → r ≡ last_agent h n → has_line y ADS ≡ b
    → cond b w r ≡ last_agent v (n + 1)
unfolding last_agent then_begun winner_at
agent-cases h x y v n w r true m s e won k t =
    let here : line_at ADS v n ≡ true =
    line_at-old ADS h x v n m (omega (arith, s)) ∙ (line_here ADS h n y e ∙ t) in
    won ∙ (winner_at-agree (length h) h v n m.agree (omega (arith, s))
    ∙ sym (ap (λ p. p.0) (requesters_before-begun v n here)))
agent-cases h x y v n w r false m s e won k t =
    let here : line_at ADS v n ≡ false =
    line_at-old ADS h x v n m (omega (arith, s)) ∙ (line_here ADS h n y e ∙ t) in
    k ∙ (ap (λ p. p.0) (requesters_before-agree (length h) h v n m.agree (omega (arith, s)))
    ∙ sym (ap (λ p. p.0) (requesters_before-kept v n here)))

-- the look after one sample more
pub shows-next : (old : Look) (x : Sample) (w last : Option Who) (request : Option ℕ) (m : Marks) (h : Trace)
    → Shows old m h → w ≡ winner_at (h ++ x ∷ []) (length h)
    → last ≡ cond (has_line old.sample ADS) old.winner old.last
    → request ≡ cond (has_line old.sample ADS) (Some old.clock) old.request
    → Shows (record {
      marks = old.marks;
      clock = old.clock + 1;
      sample = x;
      one = Some old.sample;
      two = old.one;
      three = old.two;
      winner = w;
      winner_before = old.winner;
      last = last;
      request = request;
    }) m (h ++ x ∷ [])
shows-next old x w last request m h s won l r =
    let v : Trace = h ++ x ∷ [] in
    let n : ℕ = old.clock in
    let k = one_more h x in
    let same : n + 1 - 1 ≡ n = omega arith in
    let won_before : old.winner ≡ winner_at v n =
    s.winner ∙ winner_at-agree (length h) h v n k.agree (omega (arith, s.size)) in
    record {
      marked = s.marked;
      size = k.size ∙ ap (λ i. i + 1) s.size;
      here = subst (λ i. slice_get v i ≡ Some x) s.size k.last;
      one = sample_back-one h x old.sample v n k s.size s.here;
      two = s.one ∙ sym (sample_back-next h x v n 1 k s.size);
      three = s.two ∙ sym (sample_back-next h x v n 2 k s.size);
      winner = won ∙ ap (winner_at v) s.size;
      before = subst (λ i. old.winner ≡ winner_at v i) (sym same) won_before;
      last = l ∙ agent-cases h x old.sample v n old.winner old.last _ k s.size s.here s.winner s.last refl;
      request = r ∙ request-cases h x old.sample v n old.request _ k s.size s.here s.request refl;
    }

pub empty : (h : Trace) → length h ≡ 0 → h ≡ []
empty [] e = refl
empty (x ∷ h) e = absurd (omega (arith, e))
