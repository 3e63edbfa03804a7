-- Which agents keep the bus locked into a clock stays as a run grows.
use Rattle.fsb_bench_run.proofs.Words
use Words.{ℕ, ◌-◌, ◌<◌, ◌≤◌, ◌≡◌, ◌&&◌, ◌||◌, Bool, true, false, nat_eq, nat_le, Option, Some, None, List, [], ◌∷◌}
use Words.{◌++◌, length, refl, ap, ◌∙◌, arith, list_all, list_any, Done, count_where, from_clock, holds_since}
use Words.{is_some_and, any_where-same, nth_where-found, length-cut, slice_get-before, ends_locked_item}
use Words.{is_lock_cancelled, is_lock_retried, is_release, is_released_before, keeps_lock, GrowsTo, cancelled_at}
use Words.{moment_at, responded_at, retried_at, Past, Run, past_of, items_of, cancelled-told, length-moments, moment-at}
use Words.{moments-grow, Trace, responds_at, response_code_at, response_code_of, Retried, is_live, live_clock_of}
use Words.{keeps_into}
use Rattle.std.proofs.Common.{slice_get}
use Rattle.fsb_bench_run.proofs.AdsGrown.{last-same}
use Rattle.fsb_bench_run.proofs.StartedNext.{locked-same}

-- the moments of the run are those of the longer one
pub moments-old : (r s : Run) (t : ℕ) → GrowsTo r s → t < length r.trace
    → slice_get (past_of s).moments t ≡ slice_get (past_of r).moments t
unfolding past_of
moments-old r s t grows l =
    let size = length-moments r (length r.trace) in
    ap (λ xs. slice_get xs t) (moments-grow r s grows) ∙ slice_get-before (past_of r).moments _ t (omega (arith, size))

any-both : (f : Done → Bool) (xs ys : List Done) → list_any f (xs ++ ys) ≡ (list_any f xs || list_any f ys)
any-both f [] ys = refl
any-both f (x ∷ xs) ys = assoc (f x) _ _ _ (any-both f xs ys)
  where
    assoc : (a b c d : Bool) → d ≡ (b || c) → (a || d) ≡ ((a || b) || c)
    assoc a b c d h1 = grind arith

-- no entry of another clock ends a locked item at this one
none-ends : (p : Past) (a t n : ℕ) (entries : List Done) → t < n
    → list_all (λ (done : Done). nat_eq done.clock n) entries ≡ true
    → list_any (ends_locked_item p a t) entries ≡ false
unfolding ends_locked_item
none-ends p a t n [] l e = refl
none-ends p a t n (done ∷ entries) l e = grind (arith, none-ends p a t n entries l)

or-false : (a b : Bool) → b ≡ false → (a || b) ≡ a
or-false a b h1 = grind arith

ends-old : (r s : Run) (a t : ℕ) → GrowsTo r s → t < length r.trace
    → list_any (ends_locked_item (past_of s) a t) (past_of s).log
    ≡ list_any (ends_locked_item (past_of r) a t) (past_of r).log
unfolding past_of ends_locked_item items_of
ends-old r s a t grows l =
    ap (list_any (ends_locked_item (past_of s) a t)) grows.next.more_log
    ∙ any-both (ends_locked_item (past_of s) a t) r.log grows.next.entries
    ∙ or-false _ _ (none-ends (past_of s) a t (length r.trace) grows.next.entries l grows.next.at_end)
    ∙ (λ i. list_any (ends_locked_item (record { plan = grows.next.same_plan i; moments = []; log = [] }) a t) r.log)

if-some : {X : Type 0} (b : Bool) (o : Option X) (x : X) → (elim b [ true ↦ o | false ↦ None ]) ≡ Some x → o ≡ Some x
if-some b o x h1 = grind arith

-- what responds began below the end of the trace
retried-within : (w : Trace) (t q : ℕ) → retried_at w t ≡ Some q → q < length w
unfolding retried_at responded_at live_clock_of
retried-within w t q e =
    let responded = if-some (nat_eq (response_code_at w t) (response_code_of Retried)) (responded_at w t) q e in
    let live = if-some (responds_at w t) (live_clock_of w (count_where (responds_at w) t)) q responded in
    (nth_where-found (is_live w) (count_where (responds_at w) t) (length w) q live).0

pub release-old : (r s : Run) (a t : ℕ) → GrowsTo r s → t < length r.trace
    → is_release (past_of s) a t ≡ is_release (past_of r) a t
unfolding is_release is_lock_retried is_lock_cancelled is_some_and past_of moment_at cancelled_at
release-old r s a t grows l =
    grind (arith, moments-old, ends-old, locked-same, moment-at, retried-within, length-cut, cancelled-told)

released-old : (r s : Run) (a t : ℕ) → GrowsTo r s → t < length r.trace
    → is_released_before (past_of s) a t ≡ is_released_before (past_of r) a t
unfolding is_released_before
released-old r s a t grows l = ap (λ b. nat_le 1 t && b) (release-old r s a (t - 1) grows (omega arith))

into-old : (r s : Run) (a c : ℕ) → GrowsTo r s → c ≤ length r.trace
    → keeps_into (past_of s) c a ≡ keeps_into (past_of r) c a
unfolding keeps_into keeps_lock holds_since from_clock
into-old r s a c h1 h2 = grind (arith, last-same, any_where-same, locked-same, released-old, release-old)

-- into the next clock
pub keeps_into-grown : (r s : Run) (a : ℕ) → GrowsTo r s
    → keeps_into (past_of s) (length r.trace) a ≡ keeps_into (past_of r) (length r.trace) a
keeps_into-grown r s a grows = into-old r s a (length r.trace) grows (omega arith)
