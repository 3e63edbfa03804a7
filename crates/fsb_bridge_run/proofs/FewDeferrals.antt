-- There are sixteen deferrals at most: each has an ID of its own, one of four of each of the four agents.
use Rattle.fsb_bridge_run.proofs.Words
use Words.{ℕ, zero, suc, ◌+◌, ◌*◌, ◌/◌, ◌%◌, ◌<◌, ◌≤◌, ◌≡◌, Bool, true, false, not, ◌&&◌, ◌||◌, List, [], ◌∷◌, Option}
use Words.{Some, length, nat_eq, if◌then◌else◌, refl, sym, ap, subst, ◌∙◌, arith, inl, inr, option_and_then}
use Words.{option_map_or, and_from, and_parts, cases_order, eq-eqb, eqb-false, eqb-true, false_from_ne_true, ne_eqb}
use Words.{not-true, all_where, count_where, count_where-same, first_where-found, length-all_where, Request}
use Words.{count_where-none, is_reply, is_reply_kind, live_clock_of, live_count, live_request_of, winner_at}
use Words.{is_some_and, Run, past_of, past_to, run_to, request_begun, would_begin, begun-decoded, begun-winner}
use Words.{begun_of, live-ads, run_to-agrees, want-few, want-own, wanted-by, wants-lawfully, winner-four, Reaches}
use Words.{waiting_at, waits, turns_of, AgreeTo, Trace, request_at, reply_number_of, snoop_end_of, AgreeTo-sym}
use Words.{line_at-agree, live_below_count, live_clock_of-rises, live_clock_of-stays, live_request_of-at}
use Words.{request_at-agree, snoop_end_of-clock, snoop_end_of-rises, snoop_end_of-stays, ADS, line_at, length-append}
use Rattle.fsb_timely.specs.Wants.{free_id, id_of}
use Rattle.fsb_bridge_run.proofs.OwnIds.{deferred-at, not-again, one-id, request-waiting}
use Rattle.fsb_bridge_run.proofs.Waiting.{earlier, either, either-from, waits-parts}
use Rattle.fsb_bridge_run.proofs.Alike.{SameDeferrals}
use Rattle.fsb_bridge_run.proofs.Listed.{all_where-added}

-- how many pass, without those that pass a second test, which one passes at most
count-but : (p t : ℕ → Bool) (n : ℕ)
    → ((i k : ℕ) → (p i && t i) ≡ true → (p k && t k) ≡ true → i ≡ k)
    → count_where p n ≤ count_where (λ i. p i && not (t i)) n + 1
unfolding count_where
count-but p t zero one = omega arith
count-but p t (suc n) one = by (p n) (t n) refl refl (count-but p t n one)
  where
    q : ℕ → Bool
    q i = p i && not (t i)

    fails : (b : Bool) → t n ≡ true → p n ≡ true → (k : ℕ) → k < n → p k ≡ b → p k ≡ q k
    fails false at here k less e = rw e refl
    fails true at here k less e =
        rw e (sym (ap not (false_from_ne_true (t k) (λ u.
        let same = one k n (and_from (p k) (t k) e u) (and_from (p n) (t n) here at) in omega arith))))

    by : (a b : Bool) → p n ≡ a → t n ≡ b → count_where p n ≤ count_where q n + 1
        → count_where p n + (if p n then 1 else 0)
        ≤ (count_where q n + (if p n && not (t n) then 1 else 0)) + 1
    by a b h1 h2 h3 = grind (arith, count_where-same, fails)

-- no more numbers pass than there are values, where each has a value of its own
few-values : (m : ℕ) (p : ℕ → Bool) (f : ℕ → ℕ) (n : ℕ) → ((i : ℕ) → p i ≡ true → f i < m)
    → ((i k : ℕ) → p i ≡ true → p k ≡ true → f i ≡ f k → i ≡ k) → count_where p n ≤ m
few-values zero p f n low one = grind (arith, count_where-none)
few-values (suc m) p f n low one =
    let t : ℕ → Bool = λ i. nat_eq (f i) m in
    let upto = count-but p t n (λ i k a b.
    let x = and_parts (p i) (t i) a in
    let y = and_parts (p k) (t k) b in
    one i k x.0 y.0 (eqb-true (f i) m x.1 ∙ sym (eqb-true (f k) m y.1))) in
    let rest = few-values m (λ i. p i && not (t i)) f n
    (λ i a.
    let x = and_parts (p i) (not (t i)) a in
    let below = low i x.0 in
    let other = eqb-false (f i) m (not-true (t i) x.1) in
    omega arith)
    (λ i k a b same. one i k (and_parts (p i) (not (t i)) a).0 (and_parts (p k) (not (t k)) b).0 same) in
    omega arith

-- the ID of a request that waits is that of an agent, and one of four
pub record HasFewIds (did : ℕ) : Type 0 where
  pub agent : did / 16 < 4
  pub place : did % 16 < 4

begun-id : (r : Run) (q : ℕ) (request : Request) → r.plan.ahead ≤ 4 → begun_of r q ≡ Some request
    → is_reply_kind request.kind ≡ false → HasFewIds request.did
unfolding request_begun is_reply is_some_and past_to past_of free_id id_of
begun-id r q request ahead begun plain =
    let past = past_to (past_of r) q in
    let who = begun-winner (would_begin (run_to r q) past q) (winner_at (run_to r q).trace q) request begun in
    let want = wanted-by r q who.0 request who.2 plain in
    let few = want-few past want.0 q request ahead want.2 in
    let own = want-own past want.0 q request ahead want.2 in
    let four = winner-four (run_to r q).trace q want.0 (who.1 ∙ ap Some want.1) in
    grind (arith, first_where-found)

waiting-id : (r : Run) (n c i : ℕ) (x : Request) → Reaches r n → c ≤ n → waits r.trace (turns_of r) c i ≡ true
    → live_request_of r.trace i ≡ Some x → HasFewIds x.did
waiting-id r n c i x h low waiting asks =
    let a = waits-parts r.trace (turns_of r) c i waiting in
    let d = deferred-at r a.snoop i h.timely (wants-lawfully r h.bounds) a.is_snoop a.deferred in
    grind (arith, begun-id)

-- a number below sixteen for each such ID
code_of : Option Request → ℕ
code_of request = option_map_or (λ x. x.did / 16 * 4 + x.did % 16) request 0

code-is : (o : Option Request) (x : Request) → o ≡ Some x → code_of o ≡ x.did / 16 * 4 + x.did % 16
unfolding code_of
code-is o x e = rw e refl

same-code : (a b : ℕ) → a % 16 < 4 → b % 16 < 4 → a / 16 * 4 + a % 16 ≡ b / 16 * 4 + b % 16 → a ≡ b
same-code a b l m e = omega arith

-- live requests of which each has a request with such an ID, and one of its own
record HasCodes (w : Trace) (p : ℕ → Bool) : Type 0 where
  pub coded : (i : ℕ) → p i ≡ true → (x : Request) × (live_request_of w i ≡ Some x) × HasFewIds x.did
  pub own : (i k : ℕ) (x y : Request) → p i ≡ true → p k ≡ true → live_request_of w i ≡ Some x
      → live_request_of w k ≡ Some y → x.did ≡ y.did → i ≡ k

few-coded : (w : Trace) (p : ℕ → Bool) (n : ℕ) → HasCodes w p → count_where p n ≤ 16
few-coded w p n h =
    few-values 16 p (λ i. code_of (live_request_of w i)) n
    (λ i t.
    let x = h.coded i t in
    let agent = x.2.agent in
    let place = x.2.place in
    let is = code-is (live_request_of w i) x.0 x.1 in
    omega arith)
    (λ i k t u same.
    let x = h.coded i t in
    let y = h.coded k u in
    let is = code-is (live_request_of w i) x.0 x.1 in
    let also = code-is (live_request_of w k) y.0 y.1 in
    h.own i k x.0 y.0 t u x.1 y.1 (same-code x.0.did y.0.did x.2.place y.2.place (sym is ∙ same ∙ also)))

waiting-coded : (r : Run) (n c i : ℕ) → Reaches r n → c ≤ n → waits r.trace (turns_of r) c i ≡ true
    → (x : Request) × (live_request_of r.trace i ≡ Some x) × HasFewIds x.did
waiting-coded r n c i h low t =
    let x = request-waiting r n c i h t in
    (x.0, x.1, waiting-id r n c i x.0 h low t x.1)

pub few-waiting : (r : Run) (n c : ℕ) → Reaches r n → c ≤ n → length (waiting_at r.trace (turns_of r) c) ≤ 16
unfolding waiting_at
few-waiting r n c h low =
    let w = r.trace in
    let p : ℕ → Bool = waits w (turns_of r) c in
    let few = few-coded w p (live_count w) (record {
      coded = λ i t. waiting-coded r n c i h low t;
      own = λ i k x y t u asks also did. one-id r n c i k x y h low t u asks also did;
    }) in
    let size = length-all_where p (live_count w) in
    omega arith

other : (a b : Bool) → b ≡ false → (a || b) ≡ a
other a b h1 = grind arith

-- one more has room: a request that is no reply, whose snoop end is n, has an ID of its own beside those that wait
pub room-for : (r : Run) (n i q : ℕ) (w : Trace) (turns : List ℕ) (request : Request) → Reaches r n
    → SameDeferrals n r.trace w (turns_of r) turns → snoop_end_of w i ≡ Some n → live_clock_of w i ≡ Some q
    → request_at w q ≡ Some request → is_reply_kind request.kind ≡ false
    → length (waiting_at r.trace (turns_of r) n) < 16
unfolding waiting_at
room-for r n i q w turns request h same reached first decoded plain =
    let long = h.long in
    let few = few-coded r.trace all (live_count r.trace) (record { coded = coded; own = own }) in
    let added = all_where-added waiting all (live_count r.trace) i (live_below_count r.trace i q clock) low
    (here i refl)
    (λ k differs. other (waiting k) (nat_eq k i) (ne_eqb k i differs)) in
    let size = length-all_where all (live_count r.trace) in
    let more = ap length added ∙ length-append (all_where waiting (live_count r.trace)) (i ∷ []) in
    omega arith
  where
    waiting : ℕ → Bool
    waiting k = waits r.trace (turns_of r) n k

    all : ℕ → Bool
    all k = waiting k || nat_eq k i

    here : (k : ℕ) → k ≡ i → all k ≡ true
    here k e = either-from (waiting k) (nat_eq k i) (inr (eq-eqb k i e))

    above : q + 4 ≤ n
    above =
        let c = snoop_end_of-clock w i n reached in
        let m = c.above in
        let one = c.is_clock in
        let same : c.clock ≡ q = cc in
        omega arith

    back : AgreeTo n w r.trace
    back = AgreeTo-sym n r.trace w same.agree

    clock : live_clock_of r.trace i ≡ Some q
    clock = let gap = above in live_clock_of-stays n w r.trace i q back (omega arith) first

    shown : request_at r.trace q ≡ Some request
    shown = let gap = above in request_at-agree n r.trace w q same.agree (omega arith) ∙ decoded

    asks : live_request_of r.trace i ≡ Some request
    asks = live_request_of-at r.trace i q request clock shown

    ads : line_at ADS r.trace q ≡ true
    ads = live-ads r.trace i q clock

    begun : begun_of r q ≡ Some request
    begun =
        let long = h.long in
        let gap = above in
        let agree = run_to-agrees r q (omega arith) in
        let b = begun-decoded r q h.timely (omega arith)
        (sym (line_at-agree ADS (q + 1) r.trace (run_to r q).trace q agree (omega arith)) ∙ ads) in
        let next = run_to-agrees r (suc q) (omega arith) in
        let there = request_at-agree (suc q + 1) r.trace (run_to r (suc q)).trace q next (omega arith)
        ∙ b.2 ((wants-lawfully r h.bounds).lawful q b.0 b.1) in
        let is : b.0 ≡ request = (let e = sym there ∙ shown in cc) in
        b.1 ∙ ap Some is

    low : (k : ℕ) → waiting k ≡ true → k < i
    low k e =
        let a = waits-parts r.trace (turns_of r) n k e in
        let below = a.below in
        let there = snoop_end_of-stays n r.trace w k a.snoop same.agree below a.is_snoop in
        elim (cases_order k i) [
          | inl one ↦
              let here : snoop_end_of w i ≡ Some a.snoop = subst (λ x. snoop_end_of w x ≡ Some a.snoop) one there in
              let at : a.snoop ≡ n = cc in
              absurd (omega arith)
          | inr differs ↦ elim differs [
            | inl less ↦ less
            | inr more ↦
                let rise = snoop_end_of-rises w i k a.snoop more there in
                let first = rise.1 in
                let at : rise.0 ≡ n = cc in
                let gap = rise.2 in
                absurd (omega arith)
          ]
        ]

    -- no request that waits has its ID
    apart : (k : ℕ) (x : Request) → waiting k ≡ true → live_request_of r.trace k ≡ Some x → x.did ≡ request.did → ⊥
    apart k x e asked did =
        let long = h.long in
        let gap = above in
        let a = waits-parts r.trace (turns_of r) n k e in
        let d = deferred-at r a.snoop k h.timely (wants-lawfully r h.bounds) a.is_snoop a.deferred in
        let one = d.asked in
        let is : d.request ≡ x = cc in
        let rise = live_clock_of-rises r.trace k i d.end.first q (low k e) d.snooped.tied.first clock in
        not-again r q a.snoop k d request h.timely (wants-lawfully r h.bounds) h.bounds.few_ahead begun shown plain ads
        (omega arith) rise (ap (λ z. z.did) is ∙ did)
        (earlier (option_and_then (snoop_end_of r.trace) (reply_number_of r.trace k)) q n (omega arith) a.unreplied)

    coded : (k : ℕ) → all k ≡ true → (x : Request) × (live_request_of r.trace k ≡ Some x) × HasFewIds x.did
    coded k e =
        elim (either (waiting k) (nat_eq k i) e) [
          | inl t ↦ waiting-coded r n n k h (omega arith) t
          | inr t ↦
              let one : k ≡ i = eqb-true k i t in (
                request,
                subst (λ y. live_request_of r.trace y ≡ Some request) (sym one) asks,
                begun-id r q request h.bounds.few_ahead begun plain,
              )
        ]

    itself : (k : ℕ) (x : Request) → nat_eq k i ≡ true → live_request_of r.trace k ≡ Some x → x ≡ request
    itself k x t asked = grind (arith, asks)

    own : (k m : ℕ) (x y : Request) → all k ≡ true → all m ≡ true → live_request_of r.trace k ≡ Some x
        → live_request_of r.trace m ≡ Some y → x.did ≡ y.did → k ≡ m
    own k m x y t u asked also did =
        elim (either (waiting k) (nat_eq k i) t) [
          | inl a ↦ elim (either (waiting m) (nat_eq m i) u) [
            | inl b ↦ one-id r n n k m x y h (omega arith) a b asked also did
            | inr b ↦ absurd (apart k x a asked (did ∙ ap (λ z. z.did) (itself m y b also)))
          ]
          | inr a ↦ elim (either (waiting m) (nat_eq m i) u) [
            | inl b ↦ absurd (apart m y b also (sym did ∙ ap (λ z. z.did) (itself k x a asked)))
            | inr b ↦ eqb-true k i a ∙ sym (eqb-true m i b)
          ]
        ]
