-- Rule 12: at the snoop end of a write-back or a reply of a timely run there is nothing to be told.
use Rattle.fsb_lawful.proofs.Words
use Words.{nat_eq, Option, ℕ, ◌<◌, ◌≡◌, Bool, true, false, not, ◌&&◌, ◌||◌, Some, length, refl, ap, ◌∙◌, arith}
use Words.{and_right, is_at, is_some_and, any_where-none, any_where-off, is_at-some, Kind, Reply, WriteBack, Request}
use Words.{is_never_held_up, HIT, HITM, DEFER, Marks, line_at, is_reply, is_reply_kind, is_write_back}
use Words.{is_write_back_kind, live_request_of, is_result_unfit_for, is_snoop_result_unfit, snoop_end_of, breaks-12}
use Words.{holds_line, is_exclusive, snooped_at, is_dirty, Claim, Past, SnoopEnd, Run, past_of, past_to, run_to}
use Words.{has_right_result, has_snoop_result, is_dirty_elsewhere, is_dirty_for, is_held_elsewhere, is_held_for}
use Words.{is_keep, is_reply_end, holds_in, holds_at, Timely, WantsLawfully, Keeps, WritesBackAlone}
use Rattle.fsb_lawful.proofs.Cuts.{snooped-to}
use Rattle.fsb_lawful.proofs.Keeping.{keeps}
use Rattle.fsb_lawful.proofs.Turns.{Turned, turned-at, decoded-live}

right-by : (r : Run) (p : Past) (c : ℕ) (s : SnoopEnd) → has_snoop_result r p c ≡ true → snooped_at p c ≡ Some s
    → has_right_result r p c s ≡ true
unfolding has_snoop_result
right-by r p c s e there = rw (there, has_snoop_result) at e

-- the result at a snoop end of the run
right-at : (r : Run) (c : ℕ) (s : SnoopEnd) → Timely r → c < length r.trace → snooped_at (past_of r) c ≡ Some s
    → has_right_result (run_to r c) (past_to (past_of r) c) c s ≡ true
unfolding holds_at holds_in
right-at r c s h l there = grind (arith, right-by, snooped-to)

reply-end : (s : SnoopEnd) (kind : Kind) → s.kind ≡ Some kind → is_reply_end s ≡ is_reply_kind kind
unfolding is_reply_end is_some_and
reply-end s kind k = ap (λ o. is_some_and o is_reply_kind) k

-- the result at the snoop end of a reply, and of any other request
at-reply : (r : Run) (p : Past) (c : ℕ) (s : SnoopEnd) → has_right_result r p c s ≡ true → is_reply_end s ≡ true
    → line_at HITM r.trace c ≡ false
unfolding has_right_result
at-reply r p c s e k = grind arith

at-other : (r : Run) (p : Past) (c : ℕ) (s : SnoopEnd) → has_right_result r p c s ≡ true
    → is_reply_end s ≡ false
    → (line_at HITM r.trace c ≡ is_dirty_for p c s)
    × (line_at HIT r.trace c ≡ (not (is_dirty_for p c s) && is_held_for p c s))
unfolding has_right_result
at-other r p c s e k = grind arith

-- a reply has no HITM#
reply-clean : (r : Run) (p : Past) (c : ℕ) (s : SnoopEnd) → has_right_result r p c s ≡ true
    → s.kind ≡ Some Reply → line_at HITM r.trace c ≡ false
unfolding is_reply_kind
reply-clean r p c s e k = at-reply r p c s e (reply-end s Reply k)

-- a write-back of a line that no other agent has, has neither HITM# nor HIT#
alone-clean : (r : Run) (p : Past) (c : ℕ) (s : SnoopEnd) → has_right_result r p c s ≡ true
    → s.kind ≡ Some WriteBack → is_dirty_for p c s ≡ false → is_held_for p c s ≡ false
    → (line_at HITM r.trace c ≡ false) × (line_at HIT r.trace c ≡ false)
unfolding is_reply_kind
alone-clean r p c s e k dirty held =
    let a = at-other r p c s e (reply-end s WriteBack k) in
    (a.0 ∙ dirty, a.1 ∙ ap (λ b. not (is_dirty_for p c s) && b) held ∙ and_right _ _ refl)

-- who is dirty on a line holds it
dirty-holds : (p : Past) (a line c : ℕ) → is_dirty p a line c ≡ true → holds_line p a line c ≡ true
unfolding is_dirty is_exclusive
dirty-holds p a line c e = grind arith

not-dirty : (p : Past) (a line c : ℕ) → is_held_elsewhere p a line c ≡ false → is_dirty_elsewhere p a line c ≡ false
unfolding is_held_elsewhere is_dirty_elsewhere
not-dirty p a line c e =
    any_where-off (λ b. not (nat_eq b a) && is_dirty p b line c) 4
    (λ b l. neither (not (nat_eq b a)) (holds_line p b line c) (is_dirty p b line c)
    (any_where-none (λ b. not (nat_eq b a) && holds_line p b line c) 4 e b l) (dirty-holds p b line c))
  where
    neither : (other held dirty : Bool) → (other && held) ≡ false → (dirty ≡ true → held ≡ true)
        → (other && dirty) ≡ false
    neither other held dirty h1 h2 = grind arith

clean-for : (p : Past) (c : ℕ) (s : SnoopEnd) (o : Option Claim) → s.claim ≡ o → is_held_for p c s ≡ false
    → is_dirty_for p c s ≡ false
unfolding is_held_for is_dirty_for is_some_and
clean-for p c s o h1 h2 = grind (arith, not-dirty)

-- what the rule asks of a request of this kind
unfit-by : (kind : Kind) (hit hitm defer : Bool) → (is_never_held_up kind ≡ true → defer ≡ false)
    → (kind ≡ Reply → hitm ≡ false) → (kind ≡ WriteBack → (hitm ≡ false) × (hit ≡ false))
    → ((is_write_back_kind kind || is_reply_kind kind) && (hitm || defer) || is_write_back_kind kind && hit) ≡ false
unfolding is_write_back_kind is_reply_kind
unfit-by kind hit hitm defer h1 h2 h3 = grind arith

kept-quiet : (r : Run) (c i : ℕ) (k : Turned r c i c) (request : Request)
    → live_request_of (run_to r c).trace i ≡ Some request → is_never_held_up request.kind ≡ true
    → line_at DEFER (run_to r c).trace c ≡ false
unfolding is_keep
kept-quiet r c i k request q t = k.defers ∙ ap (λ turn. not (is_keep turn)) ((k.effective request q).keeps t)

kind-is : (r : Run) (c i : ℕ) (k : Turned r c i c) (request : Request) (kind : Kind)
    → live_request_of (run_to r c).trace i ≡ Some request → request.kind ≡ kind → k.end.kind ≡ Some kind
kind-is r c i k request kind q e = k.kind request q ∙ ap Some e

ended : (r : Run) (c i : ℕ) → Timely r → WantsLawfully r → WritesBackAlone r → c < length r.trace
    → snoop_end_of (run_to r c).trace i ≡ Some c
    → ((is_write_back (live_request_of (run_to r c).trace i) || is_reply (live_request_of (run_to r c).trace i))
    && (line_at HITM (run_to r c).trace c || line_at DEFER (run_to r c).trace c)
    || is_write_back (live_request_of (run_to r c).trace i) && line_at HIT (run_to r c).trace c) ≡ false
unfolding is_write_back is_reply is_some_and is_write_back_kind
ended r c i h wants alone l e =
    let v = (run_to r c).trace in
    let q = decoded-live r c i c h wants l e in
    let k = turned-at r c i c h l e in
    let right = right-at r c k.end h l k.there in
    rw q.1 (unfit-by q.0.kind (line_at HIT v c) (line_at HITM v c) (line_at DEFER v c)
    (λ t. kept-quiet r c i k q.0 q.1 t)
    (λ t. reply-clean (run_to r c) (past_to (past_of r) c) c k.end right (kind-is r c i k q.0 Reply q.1 t))
    (λ t. let w = kind-is r c i k q.0 WriteBack q.1 t in
    alone-clean (run_to r c) (past_to (past_of r) c) c k.end right w
    (clean-for (past_to (past_of r) c) c k.end k.end.claim refl (alone.alone c k.end k.there (rw w refl)))
    (alone.alone c k.end k.there (rw w refl))))

unfit : (r : Run) (c i : ℕ) → Timely r → WantsLawfully r → WritesBackAlone r → c < length r.trace → (b : Bool)
    → is_at (snoop_end_of (run_to r c).trace i) c ≡ b → is_result_unfit_for (run_to r c).trace c i ≡ false
unfolding is_result_unfit_for
unfit r c i h1 h2 h3 h4 b h5 = grind (arith, ended, is_at-some)

at-clock : (r : Run) (c : ℕ) → Timely r → WantsLawfully r → WritesBackAlone r → c < length r.trace
    → is_snoop_result_unfit (run_to r c).trace c ≡ false
unfolding is_snoop_result_unfit
at-clock r c h wants alone l = grind (arith, any_where-off, unfit)

-- rule 12
pub keeps-12 : (m : Marks) (r : Run) → Timely r → WantsLawfully r → WritesBackAlone r → Keeps m 12 r.trace
unfolding run_to
keeps-12 m r h wants alone = grind (arith, keeps, breaks-12, at-clock)
