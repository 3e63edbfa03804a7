-- What an agent owes stays as it is where the run grows by a clock.
use Rattle.fsb_agent_run.proofs.Words
use Words.{ℕ, zero, suc, ◌+◌, ◌<◌, ◌≤◌, ◌≡◌, Bool, false, if◌then◌else◌, nat_eq, List, [], ◌∷◌, take, slice_get, length}
use Words.{Option, refl, sym, ap, ◌∙◌, arith, eqb-true, false_from_ne_true, option_and_then, from_clock, last_where}
use Words.{is_some_and, any_where-off, any_where-same, count_where-same, begun_at, ended_requests, grant_at, is_end_at}
use Words.{is_ended, is_granted, latest_grant, snooped_at, GrowsTo, IsWhole, Claim, Moment, Past, SnoopEnd, Run}
use Words.{past_of, past_to, last-same, last_where-found, past-same, tied-snoop, some-and, responded_in, giver_at}
use Words.{is_responded_below, snooped-by, Reaches, AgentView, HasBytesOwed, claim_given_at, claim_given_by}
use Words.{given_since, gives_claim, gives_line_at, is_given_below, is_promised, is_pushed, owes_bytes_from}
use Words.{promise_told, is_awaited}
use Rattle.fsb_agent_run.proofs.GivenBytes.{given}

-- two pasts have the same moments below n, and are the same up to each clock below n
pub record SharesBelow (n : ℕ) (p q : Past) : Type 0 where
  pub moments : (t : ℕ) → t < n → slice_get p.moments t ≡ slice_get q.moments t
  pub pasts : (t : ℕ) → t < n → past_to p t ≡ past_to q t

get-cut : {X : Type 0} (n : ℕ) (xs : List X) (k : ℕ) → k < n → slice_get (take n xs) k ≡ slice_get xs k
get-cut zero xs k l = absurd (omega arith)
get-cut (suc n) [] k l = refl
get-cut (suc n) (x ∷ xs) zero l = refl
get-cut (suc n) (x ∷ xs) (suc k) l = get-cut n xs k (omega arith)

cut-moments : (p : Past) (t : ℕ) → slice_get (past_to p t).moments t ≡ slice_get p.moments t
unfolding past_to
cut-moments p t = get-cut (t + 1) p.moments t (omega arith)

pub shares-grown : (r s : Run) → GrowsTo r s → SharesBelow (length r.trace) (past_of r) (past_of s)
shares-grown r s h =
    let old : IsWhole r = record { one_hold = h.timely.one_hold; one_choice = h.timely.one_choice } in
    let pasts : (t : ℕ) → t < length r.trace → past_to (past_of r) t ≡ past_to (past_of s) t =
    λ t l. sym (past-same r s t h.next old l) in
    record {
      moments = λ t l.
          sym (cut-moments (past_of r) t)
          ∙ ap (λ (p : Past). slice_get p.moments t) (pasts t l)
          ∙ cut-moments (past_of s) t;
      pasts = pasts;
    }

-- what is at a clock
snooped-same : (n : ℕ) (p q : Past) (t : ℕ) → SharesBelow n p q → t < n → snooped_at p t ≡ snooped_at q t
unfolding snooped_at
snooped-same n p q t h l = ap (option_and_then (λ (m : Moment). m.snooped)) (h.moments t l)

begun-same : (n : ℕ) (p q : Past) (t : ℕ) → SharesBelow n p q → t < n → begun_at p t ≡ begun_at q t
unfolding begun_at
begun-same n p q t h l = grind arith

responded-same : (n : ℕ) (p q : Past) (t : ℕ) → SharesBelow n p q → t < n → responded_in p t ≡ responded_in q t
unfolding responded_in
responded-same n p q t h l = ap (option_and_then (λ (m : Moment). m.responded)) (h.moments t l)

end-same : (n : ℕ) (p q : Past) (t x : ℕ) → SharesBelow n p q → t < n → is_end_at p t x ≡ is_end_at q t x
unfolding is_end_at ended_requests
end-same n p q t x h l = grind arith

grant-same : (n : ℕ) (p q : Past) (t : ℕ) → SharesBelow n p q → t < n → grant_at p t ≡ grant_at q t
unfolding grant_at
grant-same n p q t h l = ap (option_and_then (λ (s : SnoopEnd). s.grant)) (snooped-same n p q t h l)

granted-same : (n : ℕ) (p q : Past) (a line t : ℕ) → SharesBelow n p q → t < n
    → is_granted p a line t ≡ is_granted q a line t
unfolding is_granted
granted-same n p q a line t h l = grind (arith, grant-same)

giver-same : (n : ℕ) (p q : Past) (line t a : ℕ) (s : SnoopEnd) → SharesBelow n p q → t < n
    → giver_at p line t a s ≡ giver_at q line t a s
unfolding giver_at
giver-same n p q line t a s h l = grind arith

pub given-same : (n : ℕ) (p q : Past) (a t : ℕ) → SharesBelow n p q → t < n
    → claim_given_at p a t ≡ claim_given_at q a t
unfolding claim_given_at claim_given_by gives_claim
given-same n p q a t h l = grind (arith, snooped-same, giver-same)

-- what is below a clock
given-below-same : (n : ℕ) (p q : Past) (a x : ℕ) → SharesBelow n p q → is_given_below p a n x ≡ is_given_below q a n x
unfolding is_given_below
given-below-same n p q a x h = grind (arith, any_where-same, given-same)

responded-below-same : (n : ℕ) (p q : Past) (x : ℕ) → SharesBelow n p q
    → is_responded_below p n x ≡ is_responded_below q n x
unfolding is_responded_below
responded-below-same n p q x h = grind (arith, any_where-same, responded-same)

ended-same : (n : ℕ) (p q : Past) (x : ℕ) → SharesBelow n p q → is_ended p n x ≡ is_ended q n x
unfolding is_ended
ended-same n p q x h = grind (arith, any_where-same, end-same)

-- the last clock that passes a test, and what there is at it
at-last : {X : Type 0} (f : ℕ → Bool) (g k : ℕ → Option X) (n : ℕ) → ((t : ℕ) → t < n → g t ≡ k t)
    → (o : Option ℕ) → last_where f n ≡ o → option_and_then g o ≡ option_and_then k o
at-last f g k n h1 o h2 = grind (arith, last_where-found)

latest-same : (n : ℕ) (p q : Past) (a line : ℕ) → SharesBelow n p q → latest_grant p a line n ≡ latest_grant q a line n
unfolding latest_grant
latest-same n p q a line h = grind (arith, granted-same, at-last, grant-same, last-same)

awaited-same : (n : ℕ) (p q : Past) (a line : ℕ) → SharesBelow n p q → is_awaited p a line n n ≡ is_awaited q a line n n
unfolding is_awaited
awaited-same n p q a line h = grind (arith, latest-same, ended-same)

since-same : (n : ℕ) (p q : Past) (a line t : ℕ) → SharesBelow n p q → t < n
    → given_since p a line n t ≡ given_since q a line n t
unfolding given_since from_clock
since-same n p q a line t h l = grind (arith, any_where-same, granted-same, given-same)

promise-same : (n : ℕ) (p q : Past) (a line : ℕ) → SharesBelow n p q
    → promise_told p a line n n ≡ promise_told q a line n n
unfolding promise_told gives_line_at
promise-same n p q a line h = grind (arith, given-same, awaited-same, at-last, since-same, last-same)

promised-same : (n : ℕ) (p q : Past) (a x : ℕ) → SharesBelow n p q → x < n
    → is_promised p a n n x ≡ is_promised q a n n x
unfolding is_promised
promised-same n p q a x h l = grind (arith, begun-same, promise-same)

-- an agent gives bytes below a clock only for what began below it
given-early : (r : Run) (a n x : ℕ) → Reaches r n → n ≤ x → is_given_below (past_of r) a n x ≡ false
unfolding is_given_below
given-early r a n x h late =
    any_where-off (λ t. is_some_and (claim_given_at (past_of r) a t) (λ claim. nat_eq claim.first x)) n (λ t low.
    false_from_ne_true _ (λ e.
    let g = some-and (claim_given_at (past_of r) a t) (λ (claim : Claim). nat_eq claim.first x) e in
    let long = h.long in
    let k = given r a t g.0 h.timely h.bounds (omega arith) g.1 in
    let tied = tied-snoop r t k.at.end k.at.there in
    let above : k.at.end.first + 4 ≤ t = (snooped-by r t tied.0 k.at.end tied.1).above in
    let first : g.0.first ≡ k.at.end.first = k.first in
    let same : g.0.first ≡ x = eqb-true g.0.first x g.2 in
    omega arith))

pushed-same : (n : ℕ) (r : Run) (q : Past) (a x : ℕ) → Reaches r n → SharesBelow n (past_of r) q
    → is_pushed (past_of r) a n n n x ≡ is_pushed q a n n n x
unfolding is_pushed
pushed-same n r q a x h shares = grind (arith, given-below-same, responded-below-same, promised-same, given-early)

owes-same : (n : ℕ) (p q : Past) (a t : ℕ) → SharesBelow n p q → t < n
    → owes_bytes_from p a n t ≡ owes_bytes_from q a n t
unfolding owes_bytes_from
owes-same n p q a t h l = grind (arith, given-same, responded-below-same)

less-shared : (n m : ℕ) (p q : Past) → n ≤ m → SharesBelow m p q → SharesBelow n p q
less-shared n m p q l h = grind arith

-- the record of an agent has what it owes in the run that has grown
pub owed-grown : (r s : Run) (a n : ℕ) (v : AgentView) → GrowsTo r s → Reaches r n
    → HasBytesOwed (past_of r) a n n n v → HasBytesOwed (past_of s) a n n n v
owed-grown r s a n v grows h has =
    let p : Past = past_of r in
    let q : Past = past_of s in
    let shares = less-shared n (length r.trace) p q h.long (shares-grown r s grows) in
    record {
      pushes = λ x. has.pushes x ∙ ap (λ b. if b then 1 else 0) (pushed-same n r q a x h shares);
      promises = λ line. has.promises line ∙ promise-same n p q a line shares;
      count = has.count
          ∙ count_where-same (owes_bytes_from p a n) (owes_bytes_from q a n) n
          (record { same = λ t l. owes-same n p q a t shares l });
    }
