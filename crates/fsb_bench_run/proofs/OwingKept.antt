-- What an agent owes rests on its buffers alone: so it stays by each event that leaves them, and where an agent is told
-- to hand on bytes that it does not have.
use Rattle.fsb_bench_run.proofs.Words
use Words.{ℕ, ◌+◌, ◌≡◌, false, cond, if◌then◌else◌, List, [], ◌∷◌, Some, fold, refl, sym, ap, subst, ◌∙◌, inl, inr}
use Words.{arith, cases_Bool, HasBytesOwed, is_given_below, is_pushed, IsViewAfterSnoop, IsViewOf, handed-owed}
use Words.{kept-at-response, line-owed, agent_after, AgentView, handed_on, performed, responded_in, Reaches, Past, Run}
use Words.{past_of, Who, cancelled_event, starting_event}
use Rattle.std.specs.Prelude.{◌==◌, count_by}
use Rattle.std.proofs.lemmas.List.Sums.{sum_by-cons}
use Rattle.fsb_linebuf.specs.Buffers.{is_fill_on, is_push_for, pushes_without}
use Rattle.fsb_linebuf.specs.declared.entry.Push.{Push}

-- an agent with the same buffers owes the same
pub owed-alike : (p : Past) (a n r c : ℕ) (v w : AgentView) → w.buffers ≡ v.buffers → HasBytesOwed p a n r c v
    → HasBytesOwed p a n r c w
owed-alike p a n r c v w e k = grind arith

pub performed-buffers : (v : AgentView) (clock : ℕ) → (performed v clock).buffers ≡ v.buffers
performed-buffers v clock = grind arith

-- what begins, and what is cancelled, leaves each agent's buffers
pub started-buffers : (clock a : ℕ) (who : Who) (w : AgentView)
    → (fold agent_after w (starting_event clock who a)).buffers ≡ w.buffers
started-buffers clock a who w = grind arith

pub cancelled-buffers : (first a : ℕ) (who : Who) (w : AgentView)
    → (fold agent_after w (cancelled_event first who a)).buffers ≡ w.buffers
cancelled-buffers first a who w = grind arith

-- pushes of which none is for the number
without-none : (q : ℕ) (pushes : List Push) → count_by (is_push_for q) pushes ≡ 0 → pushes_without q pushes ≡ pushes
without-none q [] none = refl
without-none q (push ∷ pushes) none =
    let here : count_by (is_push_for q) (push ∷ pushes)
    ≡ cond (push.number == q) 1 0 + count_by (is_push_for q) pushes =
    sum_by-cons (λ x. cond (is_push_for q x) 1 0) push pushes in
    grind (arith, without-none q pushes)

unpushed : (p : Past) (a n r c q : ℕ) → is_given_below p a n q ≡ false → is_pushed p a n r c q ≡ false
unfolding is_pushed
unpushed p a n r c q none = rw none refl

-- an agent that gives no bytes to the request of this number has none to hand on for it
unhanded : (p : Past) (a n r c q : ℕ) (v : AgentView) → is_given_below p a n q ≡ false → HasBytesOwed p a n r c v
    → HasBytesOwed p a n r c (handed_on v q)
unhanded p a n r c q v none k =
    let zero_for : count_by (is_push_for q) v.buffers.pushes ≡ 0 =
    k.pushes q ∙ ap {B = ℕ} (λ b. if b then 1 else 0) (unpushed p a n r c q none) in
    grind (arith, without-none)

-- what an agent owes where all are told that the bytes of the request that responds are handed on
pub told-handed : (s : Run) (a n q : ℕ) (w : AgentView) → Reaches s (n + 1) → responded_in (past_of s) n ≡ Some q
    → HasBytesOwed (past_of s) a n n n w → HasBytesOwed (past_of s) a n (n + 1) n (handed_on w q)
told-handed s a n q w h responds owed =
    let p : Past = past_of s in
    let long = h.long in
    elim (cases_Bool (is_given_below p a n q)) [
      | inl gives ↦ handed-owed s a n q w h.timely h.bounds (omega arith) responds gives owed
      | inr none ↦
          unhanded p a n (n + 1) n q w none
          (kept-at-response p a n w (λ x e.
          subst (λ y. is_given_below p a n y ≡ false) (one q x (sym responds ∙ e)) none) owed)
    ]
  where
    one : (x y : ℕ) → Some x ≡ Some y → x ≡ y
    one x y e = cc

-- what an agent owes after the ends of a clock by which no line comes for it: that is told as of an agent without
-- requests, for which none can come
pub ends-kept : (s : Run) (a n : ℕ) (v w : AgentView) → Reaches s (n + 1) → w.buffers ≡ v.buffers
    → IsViewAfterSnoop (past_of s) a n v → IsViewOf (past_of s) a (n + 1) w
    → HasBytesOwed (past_of s) a (n + 1) (n + 1) n v → HasBytesOwed (past_of s) a (n + 1) (n + 1) (n + 1) w
ends-kept s a n v w h e before after owed =
    let p : Past = past_of s in
    let long = h.long in
    let idle : AgentView = record w { outs = [] } in
    owed-alike p a (n + 1) (n + 1) (n + 1) idle w refl
    (line-owed s a n 0 [] idle h.timely h.bounds (omega arith)
    (record { fills = λ line. ap (λ b. count_by (is_fill_on line) b.fills) e ∙ before.lines.fills line })
    (record { fills = λ line. after.lines.fills line })
    (owed-alike p a (n + 1) (n + 1) n v idle e owed))
