-- The heads, and one sample on: the snoop start and the last snoop end, the data on the way, the ready clock.
use Rattle.std.proofs.Common.{ℕ, zero, suc, ◌+◌, ◌<◌, ◌≡◌, Bool, true, false, cond, ◌&&◌, max, Option, Some, None}
use Rattle.std.proofs.Common.{[], ◌∷◌, ◌++◌, length, is_some, refl, sym, ap, ◌∙◌, inl, inr, arith}
use Rattle.std.proofs.lemmas.Bool.{cases_Bool}
use Rattle.fsb_count.specs.Options.{greater_of}
use Rattle.fsb_signal.specs.declared.lines.TheConstants.Lines.{DRDY}
use Rattle.fsb_signal.specs.declared.sample.Sample.{Sample}
use Rattle.fsb_signal.specs.Samples.{has_line}
use Rattle.fsb_trace.specs.At.{Trace}
use Rattle.fsb_trace.specs.Requests.{live_clock_of}
use Rattle.fsb_trace.specs.Snoop.{start_after_clock, start_after_end, snoop_start_of, snoop_end_of}
use Rattle.fsb_trace.specs.Response.{ready_clock_of}
use Rattle.fsb_laws.specs.OneMore.{OneMore, responds}
use Rattle.fsb_laws.specs.Orderly.{Spaced}
use Rattle.fsb_laws.specs.Progress.{SnoopsTo, response_count, transfer_of, chunk_step, ends_snoop_of}
use Rattle.fsb_laws.proofs.Interface.{answered_below, moves_new, one_more, ready_clock_of-after, ready_clock_of-next}
use Rattle.fsb_laws.proofs.Interface.{response_count-kept, response_count-more, snoop_end_of-more, snoop_end_of-old}
use Rattle.fsb_laws.proofs.Interface.{transfer_of-begun, transfer_of-kept}
use Rattle.fsb_heads.specs.declared.heads.Heads.{Heads}
use Rattle.fsb_heads.specs.declared.heads.Next.{Next}
use Rattle.fsb_heads.specs.Heads.{value_before, snooped_count, last_snoop_end, Stands, MovesWith, BringsNext}
use Rattle.fsb_heads.proofs.Counts.{snoops_to, snooped_count-more}

-- the first snoop clock of the first live request without its snoop end, by the last snoop end
pub start_ended : (h : Trace) (s q t : ℕ) → value_before (snoop_end_of h) s ≡ Some t → live_clock_of h s ≡ Some q
    → snoop_start_of h s ≡ Some (max (q + 4) (t + 3))
unfolding value_before snoop_start_of start_after_clock start_after_end greater_of
start_ended h zero q t e c = absurd (let no : ⊥ = cc in no)
start_ended h (suc i) q t e c = rw (c, e) refl

pub start_unended : (h : Trace) (s q : ℕ) → SnoopsTo h s → value_before (snoop_end_of h) s ≡ None
    → live_clock_of h s ≡ Some q → snoop_start_of h s ≡ Some (q + 4)
unfolding value_before snoop_start_of start_after_clock
start_unended h zero q to e c = rw c refl
start_unended h (suc i) q to e c = let r = to.reached i (omega arith) in absurd (let no : ⊥ = cc in no)

-- values that are the same below n
pub value_before-same : {f g : ℕ → Option ℕ} (n : ℕ) → ((i : ℕ) → i < n → f i ≡ g i)
    → value_before f n ≡ value_before g n
unfolding value_before
value_before-same zero same = refl
value_before-same (suc n) same = same n (omega arith)

-- the last snoop end
last_to : (h : Trace) (x : Sample) (v : Trace) (s : ℕ) (b : Bool) → OneMore h x v → Spaced h → SnoopsTo h s
    → ends_snoop_of h s x ≡ b
    → value_before (snoop_end_of v) (s + cond b 1 0) ≡ cond b (Some (length h)) (value_before (snoop_end_of h) s)
unfolding value_before
last_to h x v s true m sp to t =
    ap (value_before (snoop_end_of v)) (let one : s + 1 ≡ suc s = omega arith in one)
    ∙ snoop_end_of-more h x v s m sp to ∙ (rw t refl)
last_to h x v s false m sp to f =
    ap (value_before (snoop_end_of v)) (let same : s + 0 ≡ s = omega arith in same)
    ∙ value_before-same s (λ i l. snoop_end_of-old h x v s i m to l)

pub last_snoop_end-more : (h : Trace) (x : Sample) (v : Trace) → OneMore h x v → Spaced h
    → last_snoop_end v ≡ cond (ends_snoop_of h (snooped_count h) x) (Some (length h)) (last_snoop_end h)
unfolding last_snoop_end
last_snoop_end-more h x v m sp =
    ap (value_before (snoop_end_of v)) (snooped_count-more h x v m sp)
    ∙ last_to h x v (snooped_count h) _ m sp (snoops_to h) refl

-- the response count where the sample responds
pub count_answered : (h : Trace) (x : Sample) (v : Trace) → OneMore h x v → responds x ≡ true
    → response_count v ≡ suc (response_count h)
count_answered h x v m t =
    response_count-more h x v m ∙ ap (λ b. response_count h + cond b 1 0) t
    ∙ (let one : response_count h + 1 ≡ suc (response_count h) = omega arith in one)

-- the ready clock of the next request to respond
ready_form : (o : Option ℕ) (b : Bool) (n : ℕ) → cond (is_some o) o (cond b (Some n) None)
    ≡ elim o [ Some y ↦ Some y | None ↦ cond b (Some n) None ]
ready_form None b n = refl
ready_form (Some y) b n = refl

module _ {heads : Heads} {h : Trace} {x : Sample} (k : Stands heads h) where
  pub chunks-more : (moves : Bool) → MovesWith x moves h
      → chunk_step (has_line x DRDY) (cond (responds x) (cond moves (Some 0) None) heads.chunks)
      ≡ transfer_of (h ++ x ∷ [])
  chunks-more moves w =
      let to = snoops_to h in
      let m = one_more h x in
      elim (cases_Bool (responds x)) [
        | inl t ↦
            let below = answered_below h (snooped_count h) to (w.timely t) in
            rw (t, w.moves_is t ∙ moves_new h x _ (snooped_count h) m to below t)
            (sym (transfer_of-begun h x _ (snooped_count h) m to below t))
        | inr f ↦ rw (f, k.chunks) (sym (transfer_of-kept h x _ m w.orderly f))
      ]

  pub ready-more : (clock : ℕ) (next : Next) → BringsNext clock x next h
      → cond (responds x) None
      (cond (is_some heads.ready) heads.ready (cond next.readies (Some clock) None))
      ≡ ready_clock_of (h ++ x ∷ []) (response_count (h ++ x ∷ []))
  ready-more clock next t =
      let m = one_more h x in
      elim (cases_Bool (responds x)) [
        | inl r ↦ rw (r, count_answered h x _ m r) (sym (ready_clock_of-after h x _ m r))
        | inr r ↦
            rw (r, k.ready, t.readies_is, t.clock_is, response_count-kept h x _ m r) (ready_form _ _ _
            ∙ sym (ready_clock_of-next h x _ (snooped_count h) m t.moves_with.orderly (snoops_to h)))
      ]

  pub snooped-more : (clock : ℕ) (next : Next) → BringsNext clock x next h
      → cond next.snoops (Some clock) heads.snooped ≡ last_snoop_end (h ++ x ∷ [])
  snooped-more clock next t =
      rw (t.snoops_is, t.clock_is, k.snooped)
      (sym (last_snoop_end-more h x _ (one_more h x) t.moves_with.orderly.spaced))
