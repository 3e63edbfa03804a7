-- The turn that counts at the snoop end of a clock.
use Rattle.fsb_bench_run.proofs.Words
use Words.{ℕ, suc, ◌+◌, ◌≡◌, Bool, true, Option, Some, List, [], ◌∷◌, ◌++◌, length, refl, sym, ap, ◌∙◌, arith}
use Words.{option_map, length-append, is_covered, Request, effective_turn, is_never_held_up, Choice, Turn, Keep}
use Words.{rank_of, Entry, Trace, request_at, is_pending, Priority, GrowsTo, choice_at, effective_choice, is_in_window}
use Words.{snoop_end_with, turns_in, SnoopEnd, Run, moments_below, next_moment, past_of, reply_to, would_begin}
use Words.{moment-snooped, moments-grow, run-ends, snoop_of, snooped-there, longer, IsBegunAt}
use Rattle.fsb_script.specs.declared.plan.Window.{Window}
use Rattle.fsb_bench_run.proofs.SnoopEntry.{IsSnoopedNow}

-- the moments below the new clock are those of the run before
pub front-same : {X : Type 0} (xs ys : List X) (x y : X) → xs ++ x ∷ [] ≡ ys ++ y ∷ [] → xs ≡ ys
front-same [] [] x y e = refl
front-same [] (z ∷ ys) x y e =
    let size = ap length e in absurd (omega (arith, length-append ys (y ∷ []), size))
front-same (z ∷ xs) [] x y e =
    let size = ap length e in absurd (omega (arith, length-append xs (x ∷ []), size))
front-same (z ∷ xs) (w ∷ ys) x y e = grind (arith, front-same xs ys x y)

pub moments-before : (r s : Run) → GrowsTo r s → moments_below s (length r.trace) ≡ (past_of r).moments
unfolding past_of moments_below
moments-before r s grows =
    let n = length r.trace in
    let size : length s.trace ≡ suc n = longer r s grows ∙ (let one : n + 1 ≡ suc n = omega arith in one) in
    let grown = moments-grow r s grows in
    front-same (moments_below s n) (moments_below r n) (next_moment s (moments_below s n) n) _
    (sym (ap (moments_below s) size) ∙ grown)

-- the snoop end of an entry is what the moment makes of it
end-as : (r s : Run) (e : Entry) → GrowsTo r s → (told : IsSnoopedNow s (length r.trace) e)
    → told.end ≡ snoop_of s (length r.trace) (rank_of s.trace e) e.clock
end-as r s e grows told = grind (arith, longer, snooped-there, moment-snooped)

effective-of : (bridge : Option Window) (choices : List Choice) (w : Trace) (turns : List ℕ) (q n : ℕ)
    (request : Request) → request_at w q ≡ Some request
    → (effective_choice bridge choices w turns q n).turn
    ≡ effective_turn (choice_at choices w q).turn request (is_in_window bridge request.line)
    (is_pending w turns request.line n)
unfolding effective_choice
effective-of bridge choices w turns q n request e = rw (e, effective_choice) refl

-- its turn is the effective one
pub end-turn : (r s : Run) (e : Entry) → GrowsTo r s → (told : IsSnoopedNow s (length r.trace) e)
    → request_at s.trace e.clock ≡ Some e.request
    → told.end.turn ≡ effective_turn (choice_at s.choices s.trace e.clock).turn e.request
    (is_in_window s.plan.bridge e.request.line) (is_pending s.trace (turns_in (past_of r).moments) e.request.line
    (length r.trace))
unfolding snoop_end_with
end-turn r s e grows told decoded =
    let n = length r.trace in
    ap (λ (x : SnoopEnd). x.turn) (end-as r s e grows told)
    ∙ ap (λ (u : Run). (effective_choice s.plan.bridge u.choices u.trace (turns_in (moments_below s n)) e.clock n).turn)
    (run-ends r s grows)
    ∙ ap (λ ms. (effective_choice s.plan.bridge s.choices s.trace (turns_in ms) e.clock n).turn)
    (moments-before r s grows)
    ∙ effective-of s.plan.bridge s.choices s.trace (turns_in (past_of r).moments) e.clock n e.request decoded

-- a reply is kept
pub kept-turn : (turn : Turn) (request : Request) (inside pending : Bool) → is_never_held_up request.kind ≡ true
    → effective_turn turn request inside pending ≡ Keep
kept-turn turn request inside pending e = rw e refl

reply-kind : (o : Option Request) (request : Request) → option_map reply_to o ≡ Some request
    → is_never_held_up request.kind ≡ true
unfolding reply_to
reply-kind o request h1 = grind arith

pub begun-reply : (r : Run) (q : ℕ) (request : Request) → IsBegunAt r q Priority request
    → is_never_held_up request.kind ≡ true
unfolding would_begin
begun-reply r q request k = reply-kind _ request k.wanted

-- the window
pub window-same : (o : Option Window) (line : ℕ) → is_covered o line ≡ is_in_window o line
unfolding is_in_window
window-same o line = grind arith
