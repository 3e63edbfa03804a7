-- The requests of a part with one more clock.
use Rattle.std.proofs.Common.{◌≡◌, ◌∙◌, ℕ, zero, suc, ◌<◌, ◌++◌, ◌∷◌, ◌||◌, ◌==◌, not, [], List, Option, Some, None, IfSome, Bool, true, false, length, refl, sym, ap, subst, arith, get_or, rules}
use Rattle.std.proofs.lemmas.Bool.{eqb-true}
use Rattle.std.proofs.Math.ListN.{set, length-set, replicate}
use Rattle.std.proofs.lemmas.List.{get_or-set_same, get_or-set_other, length-replicate}
use Rattle.fsb_signal.specs.declared.sample.Sample.{Sample}
use Rattle.fsb_trace.specs.At.{Trace}
use Rattle.scope_check.specs.declared.replies.Replies.{Replies}
use Rattle.scope_check.specs.Replies.{asked_id, asks_behind, asks_for, begun_on, is_id, is_unasked, last_behind, reply_behind, reply_id}
use Rattle.scope_check.specs.Following.{Follows, is_marked, is_unmarked, marked}

last_snoc : (a : Option Sample) (w : Trace) (x : Sample) → last_behind a (w ++ x ∷ []) ≡ Some x
last_snoc a [] x = refl
last_snoc a (b ∷ w) x = last_snoc (Some b) w x

or_assoc : (a b c : Bool) → ((a || b) || c) ≡ (a || (b || c))
or_assoc true b c = refl
or_assoc false b c = refl

or_true : (a : Bool) → (a || true) ≡ true
or_true true = refl
or_true false = refl

or_false : (a : Bool) → (a || false) ≡ a
or_false true = refl
or_false false = refl

asks_snoc : (id : ℕ) (a : Option Sample) (w : Trace) (x : Sample) → asks_behind id a (w ++ x ∷ [])
    ≡ (asks_behind id a w || is_id id (asked_id (begun_on (last_behind a w) x)))
asks_snoc id a [] x = or_false (is_id id (asked_id (begun_on a x)))
asks_snoc id a (b ∷ w) x =
    ap (λ t. is_id id (asked_id (begun_on a b)) || t) (asks_snoc id (Some b) w x)
    ∙ sym (or_assoc (is_id id (asked_id (begun_on a b))) (asks_behind id (Some b) w)
    (is_id id (asked_id (begun_on (last_behind (Some b) w) x))))

reply_snoc : (i : Option ℕ) (a : Option Sample) (w : Trace) (x : Sample)
    → reply_behind i a (w ++ x ∷ []) ≡ reply_id (begun_on (last_behind a w) x)
reply_snoc i a [] x = refl
reply_snoc i a (b ∷ w) x = reply_snoc (reply_id (begun_on a b)) (Some b) w x

-- ---- marks

mark-one : (asked : List Bool) (id n : ℕ) → n < length asked
    → is_marked (marked asked (Some n)) id ≡ (is_marked asked id || is_id id (Some n))
mark-one asked id n low = by (n == id) refl
  where
    by : (b : Bool) → (n == id) ≡ b → is_marked (set asked n true) id ≡ (is_marked asked id || (n == id))
    by true e =
        let same : n ≡ id = eqb-true n id e in
        ap (λ i. get_or (set asked n true) i false) (sym same) ∙ get_or-set_same asked n true false low
        ∙ sym (or_true (is_marked asked id)) ∙ ap (λ t. is_marked asked id || t) (sym e)
    by false e =
        get_or-set_other asked n id true false (λ same. (let wrong : (n == n) ≡ false = subst (λ i. (n == i) ≡ false) same e in
        let right : (n == n) ≡ true = search rules in let no : ⊥ = cc in no))
        ∙ sym (or_false (is_marked asked id)) ∙ ap (λ t. is_marked asked id || t) (sym e)

mark-more : (asked : List Bool) (id : ℕ) (one : Option ℕ) → ((n : ℕ) → one ≡ Some n → n < length asked)
    → is_marked (marked asked one) id ≡ (is_marked asked id || is_id id one)
mark-more asked id None low = sym (or_false (is_marked asked id))
mark-more asked id (Some n) low = mark-one asked id n (low n refl)

unmarked-is : (asked : List Bool) (part : Trace) (one : Option ℕ) → ((n : ℕ) → one ≡ Some n → n < 256)
    → ((id : ℕ) → id < 256 → is_marked asked id ≡ asks_for id part) → is_unmarked asked one ≡ is_unasked one part
unmarked-is asked part None low same = refl
unmarked-is asked part (Some n) low same = ap not (same n (low n refl))

size-more : (asked : List Bool) (one : Option ℕ) → length (marked asked one) ≡ length asked
size-more asked None = refl
size-more asked (Some n) = length-set asked n true

-- before the first clock
pub none-marked : (id n : ℕ) → is_marked (replicate n false) id ≡ false
none-marked zero zero = refl
none-marked (suc id) zero = refl
none-marked zero (suc n) = refl
none-marked (suc id) (suc n) = none-marked id n

pub size-none : (n : ℕ) → length (replicate n false) ≡ n
size-none n = length-replicate n false

-- an ID that is told by a call
pub low-of : (o q : Option ℕ) → o ≡ q → IfSome o (λ id. id < 256) → (n : ℕ) → q ≡ Some n → n < 256
low-of None q e h n f = absurd (let wrong : None ≡ Some n = e ∙ f in let no : ⊥ = cc in no)
low-of (Some m) q e h n f =
    let there : Some m ≡ Some n = e ∙ f in
    let same : m ≡ n = cc there in
    omega (arith, same, h)

pub follows-more : (r k : Replies) (part : Trace) (x : Sample) → Follows r part
    → ((n : ℕ) → asked_id (begun_on r.last x) ≡ Some n → n < 256)
    → ((n : ℕ) → reply_id (begun_on r.last x) ≡ Some n → n < 256)
    → k.last ≡ Some x → k.asked ≡ marked r.asked (asked_id (begun_on r.last x))
    → k.answers_before ≡ is_unmarked k.asked (reply_id (begun_on r.last x)) → Follows k (part ++ x ∷ [])
follows-more r k part x f low_asked low_reply last asked answers =
    let one = asked_id (begun_on r.last x) in
    let more : (id : ℕ) → id < 256 → is_marked k.asked id ≡ asks_for id (part ++ x ∷ []) = λ id low.
    ap (λ xs. is_marked xs id) asked
    ∙ mark-more r.asked id one (λ n e. (let l = low_asked n e in let z = f.size in omega (arith, l, z)))
    ∙ ap (λ t. t || is_id id one) (f.asked id low)
    ∙ ap (λ (a : Option Sample). asks_for id part || is_id id (asked_id (begun_on a x))) f.last
    ∙ sym (asks_snoc id None part x) in
    record {
      last = last ∙ sym (last_snoc None part x);
      asked = more;
      size = ap length asked ∙ size-more r.asked one ∙ f.size;
      answers = answers ∙ unmarked-is k.asked (part ++ x ∷ []) (reply_id (begun_on r.last x)) low_reply more
          ∙ ap (λ (a : Option Sample). is_unasked (reply_id (begun_on a x)) (part ++ x ∷ [])) f.last
          ∙ ap (λ i. is_unasked i (part ++ x ∷ [])) (sym (reply_snoc None None part x));
    }
