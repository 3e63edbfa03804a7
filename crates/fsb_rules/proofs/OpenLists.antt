-- Lists of outstanding requests that are kept.
use Rattle.std.proofs.Common.{ℕ, zero, suc, ◌+◌, ◌<◌, ◌≤◌, ◌≡◌, Bool, true, false, cond, Option, Some, None, refl}
use Rattle.std.proofs.Common.{sym, ap}
use Rattle.std.proofs.Common.{◌∙◌, arith, ◌||◌, List, [], ◌∷◌, ◌++◌, All, count_by, length}
use Rattle.std.proofs.Common.{subst}
use Rattle.std.specs.Option.{option_and_then, option_to_list}
use Rattle.std.specs.List.{filter_map, list_any}
use Rattle.std.specs.List.Retain.{RetainsInTurn}
use Rattle.std.proofs.lemmas.List.{append-nil}
use Rattle.std.proofs.lemmas.List.Elements.{All-append, All-cons, All-head, All-nil, All-tail, filter_map-append}
use Rattle.std.proofs.lemmas.List.Folds.{list_any-append}
use Rattle.std.proofs.lemmas.List.Sums.{sum_by-append}
use Rattle.std.proofs.Math.Bool.{or-false}
use Rattle.fsb_count.specs.Options.{is_some_and}
use Rattle.fsb_count.specs.Clocks.{any_where, count_where}
use Rattle.fsb_signal.specs.declared.sample.Sample.{Sample}
use Rattle.fsb_trace.specs.At.{Trace, request_at}
use Rattle.fsb_laws.specs.OneMore.{OneMore}
use Rattle.fsb_laws.specs.Orderly.{Orderly}
use Rattle.fsb_laws.proofs.Interface.{request_at-last}
use Rattle.fsb_rules.specs.declared.outstanding.Open.{Open}
use Rattle.fsb_rules.specs.Outstanding.{open_at, kept_at, kept_below, left_in, AreKept}
use Rattle.fsb_rules.proofs.OpenGoes.{is_open, kept_step}

filter_first : {A B : Type 0} (f : A → Option B) (a : A) (xs : List A) (m : Option B) → f a ≡ m
    → filter_map f (a ∷ xs) ≡ option_to_list m ++ filter_map f xs
filter_first f a xs None e = rw e refl
filter_first f a xs (Some b) e = rw e refl

one_retained : (f : Open → Option Open) (b : Bool) (o p : Open) (kept opens : List Open)
    → cond b (Some p) None ≡ f o → kept ≡ filter_map f opens → cond b (p ∷ kept) kept ≡ filter_map f (o ∷ opens)
one_retained f true o p kept opens e s = ap (λ xs. p ∷ xs) s ∙ sym (filter_first f o opens (Some p) (sym e))
one_retained f false o p kept opens e s = s ∙ sym (filter_first f o opens None (sym e))

-- where each call of a closure makes of a request what f leaves of it, what is retained is what f leaves of all
pub left_from_retain : {F : Type 0} (R : F → Open → Bool → F → Open → Type 0) (s : F) (h : Trace)
    (f : Open → Option Open) (opens left : List Open) → RetainsInTurn R s opens left → AreKept h opens
    → ((o : Open) (b : Bool) (t : F) (p : Open) → R s o b t p → kept_at h o.clock ≡ Some o
    → (t ≡ s) × (cond b (Some p) None ≡ f o))
    → left ≡ filter_map f opens
left_from_retain R s h f [] left r k says = r
left_from_retain R s h f (o ∷ opens) left r k says =
    let said = says o r.0 r.1 r.2 r.3 (All-head (λ q. kept_at h q.clock ≡ Some q) o opens k) in
    r.6
    ∙ one_retained f r.0 o r.2 r.4 opens said.1
    (left_from_retain R s h f opens r.4 (subst (λ t. RetainsInTurn R t opens r.4) said.0 r.5)
    (All-tail (λ q. kept_at h q.clock ≡ Some q) o opens k) says)

-- where f leaves each as it is
pub all_stay : {A : Type 0} (f : A → Option A) (P : A → Type 0) (xs : List A) → ((a : A) → P a → f a ≡ Some a)
    → All P xs → filter_map f xs ≡ xs
all_stay f P [] stays t = refl
all_stay f P (a ∷ xs) stays t =
    filter_first f a xs (Some a) (stays a (All-head P a xs t))
    ∙ ap (λ ys. a ∷ ys) (all_stay f P xs stays (All-tail P a xs t))

-- The requests that are kept.

one_kept : (h : Trace) (n : ℕ) (m : Option Open) → kept_at h n ≡ m → AreKept h (option_to_list m)
one_kept h n None e = All-nil (λ o. kept_at h o.clock ≡ Some o)
one_kept h n (Some o) e =
    All-cons (λ o. kept_at h o.clock ≡ Some o) o [] (ap (kept_at h) (is_open h n o e).clock ∙ e)
    (All-nil (λ o. kept_at h o.clock ≡ Some o))

pub are_kept : (h : Trace) (n : ℕ) → AreKept h (kept_below h n)
unfolding kept_below
are_kept h zero = All-nil (λ o. kept_at h o.clock ≡ Some o)
are_kept h (suc n) =
    All-append (λ o. kept_at h o.clock ≡ Some o) (kept_below h n) (option_to_list (kept_at h n)) (are_kept h n)
    (one_kept h n (kept_at h n) refl)

-- the request of the last clock is not decoded yet
both_none : {A : Type 0} (b : Bool) → cond {A = Option A} b None None ≡ None
both_none true = refl
both_none false = refl

pub undecoded_not_kept : (h : Trace) (n : ℕ) → request_at h n ≡ None → kept_at h n ≡ None
unfolding kept_at open_at
undecoded_not_kept h n e = rw e (both_none _)

pub below_last : (h : Trace) (n : ℕ) → length h ≤ n + 1 → kept_below h (suc n) ≡ kept_below h n
unfolding kept_below
below_last h n l =
    ap (λ m. kept_below h n ++ option_to_list m) (undecoded_not_kept h n (request_at-last h n l))
    ∙ append-nil (kept_below h n)

left_one : {A B : Type 0} (g : A → Option B) (o : Option A)
    → filter_map g (option_to_list o) ≡ option_to_list (option_and_then g o)
left_one g None = refl
left_one g (Some a) = filter_first g a [] (g a) refl ∙ append-nil (option_to_list (g a))

module _ {h : Trace} {x : Sample} {v : Trace} (more : OneMore h x v) (orderly : Orderly h) (after : Orderly v) where
  pub left_below : (n : ℕ) → n < length h → kept_below v n ≡ filter_map (left_in v) (kept_below h n)
  unfolding kept_below
  left_below zero l = refl
  left_below (suc n) l =
      ap (λ xs. xs ++ option_to_list (kept_at v n)) (left_below n (omega arith))
      ∙ ap (λ m. filter_map (left_in v) (kept_below h n) ++ option_to_list m)
      (kept_step more orderly after n (omega arith))
      ∙ ap (λ xs. filter_map (left_in v) (kept_below h n) ++ xs) (sym (left_one (left_in v) (kept_at h n)))
      ∙ sym (filter_map-append (left_in v) (kept_below h n) (option_to_list (kept_at h n)))

-- whether one passes, and how many
any_one : {A : Type 0} (test : A → Bool) (o : Option A) → list_any test (option_to_list o) ≡ is_some_and o test
unfolding is_some_and
any_one test None = refl
any_one test (Some a) = or-false (test a)

or_cases : (a b : Bool) → (a || b) ≡ elim a [ true ↦ true | false ↦ b ]
or_cases true b = refl
or_cases false b = refl

pub any_below : (test : Open → Bool) (h : Trace) (n : ℕ)
    → list_any test (kept_below h n) ≡ any_where (λ p. is_some_and (kept_at h p) test) n
unfolding kept_below any_where
any_below test h zero = refl
any_below test h (suc n) =
    list_any-append test (kept_below h n) (option_to_list (kept_at h n))
    ∙ ap (λ b. b || list_any test (option_to_list (kept_at h n))) (any_below test h n)
    ∙ ap (λ b. any_where (λ p. is_some_and (kept_at h p) test) n || b) (any_one test (kept_at h n))
    ∙ or_cases (any_where (λ p. is_some_and (kept_at h p) test) n) (is_some_and (kept_at h n) test)

count_one : {A : Type 0} (test : A → Bool) (o : Option A)
    → count_by test (option_to_list o) ≡ cond (is_some_and o test) 1 0
unfolding is_some_and
count_one test None = refl
count_one test (Some a) = omega arith

pub count_below : (test : Open → Bool) (h : Trace) (n : ℕ)
    → count_by test (kept_below h n) ≡ count_where (λ p. is_some_and (kept_at h p) test) n
unfolding kept_below count_where
count_below test h zero = refl
count_below test h (suc n) =
    sum_by-append (λ o. cond (test o) 1 0) (kept_below h n) (option_to_list (kept_at h n))
    ∙ ap (λ k. k + count_by test (option_to_list (kept_at h n))) (count_below test h n)
    ∙ ap (λ k. count_where (λ p. is_some_and (kept_at h p) test) n + k) (count_one test (kept_at h n))
