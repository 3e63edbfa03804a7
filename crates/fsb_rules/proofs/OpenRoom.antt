-- No symmetric agent has more than four requests outstanding, so that there is room for all.
use Rattle.std.proofs.Common.{ℕ, zero, suc, ◌+◌, ◌-◌, ◌/◌, ◌<◌, ◌≤◌, ◌≡◌, Bool, true, false, cond, not, ◌&&◌, ◌||◌}
use Rattle.std.proofs.Common.{nat_eq}
use Rattle.std.proofs.Common.{[], nat_le, Option, Some, None, length, refl, sym, ap, ◌∙◌, arith, inl, inr, subst}
use Rattle.std.specs.Option.{option_to_list}
use Rattle.std.proofs.lemmas.Bool.{and_from, and_parts, both_ways, cases_Bool, eqb-true, false_from_ne_true, le-leb}
use Rattle.std.proofs.lemmas.Bool.{leb-false, lt-ltb, not-true, or_parts}
use Rattle.std.proofs.lemmas.List.{length-append}
use Rattle.fsb_count.specs.Options.{is_some_and, is_before}
use Rattle.fsb_count.specs.Clocks.{any_where, count_where}
use Rattle.fsb_count.proofs.Interface.{cond-most, is_before-from, is_before-parts}
use Rattle.fsb_signal.specs.declared.lines.TheConstants.Lines.{ADS}
use Rattle.fsb_signal.specs.declared.sample.Sample.{Sample}
use Rattle.fsb_signal.specs.Samples.{line_at}
use Rattle.fsb_trace.specs.declared.who.Who.{Who}
use Rattle.fsb_trace.specs.declared.who.Who.TheVariants.{Symmetric, Priority}
use Rattle.fsb_trace.specs.At.{Trace, line_back, request_at}
use Rattle.fsb_trace.specs.Requests.{is_cancelled, is_live, is_reply, live_number_of}
use Rattle.fsb_trace.specs.Flight.{is_dropped, is_finished, is_outstanding, last_clock_of}
use Rattle.fsb_trace.specs.Winner.{is_agent, is_same_agent, winner_at}
use Rattle.fsb_trace.specs.Rules.{is_begun_wrongly, is_id_taken_by, is_outstanding_of_winner}
use Rattle.fsb_trace.specs.Rules.{is_outstanding_wrong}
use Rattle.fsb_trace.proofs.Interface.{is_reply-some, winner_at-agree}
use Rattle.fsb_laws.specs.OneMore.{OneMore}
use Rattle.fsb_laws.specs.Orderly.{Orderly}
use Rattle.fsb_laws.proofs.Interface.{is_live-ads, is_outstanding-end}
use Rattle.fsb_rules.specs.declared.outstanding.Open.{Open}
use Rattle.fsb_rules.specs.Outstanding.{kept_at, kept_below, open_of, is_outstanding_of, Few}
use Rattle.fsb_rules.specs.Checker.{Identified}
use Rattle.fsb_rules.proofs.Agents.{owned, winner_four}
use Rattle.fsb_rules.proofs.OpenGoes.{is_open, was_outstanding}
use Rattle.fsb_rules.proofs.OpenLists.{below_last}

-- where each clock that passes one test passes another, no more pass it
one_most : (s t : Bool) → (s ≡ true → t ≡ true) → cond {A = ℕ} s 1 0 ≤ cond {A = ℕ} t 1 0
one_most false t f = omega arith
one_most true t f = rw (f refl) (omega arith)

count_most : (p q : ℕ → Bool) (n : ℕ) → ((c : ℕ) → c < n → p c ≡ true → q c ≡ true) → count_where p n ≤ count_where q n
unfolding count_where
count_most p q zero f = omega arith
count_most p q (suc n) f =
    let ih = count_most p q n (λ c l. f c (omega arith)) in
    let one = one_most (p n) (q n) (f n (omega arith)) in
    omega arith

-- the agent, where it is this one
agent_is : (winner : Option Who) (a : ℕ) → is_agent winner (Symmetric a) ≡ true → winner ≡ Some (Symmetric a)
unfolding is_agent is_some_and is_same_agent
agent_is None a t = absurd (let no : ⊥ = cc in no)
agent_is (Some Priority) a t = absurd (let no : ⊥ = cc in no)
agent_is (Some (Symmetric b)) a t = ap (λ n. Some (Symmetric n)) (sym (eqb-true a b t))

not_before : (o : Option ℕ) (m n : ℕ) → m ≤ n → is_before o n ≡ false → is_before o m ≡ false
not_before o m n l f =
    false_from_ne_true _ (λ t. let p = is_before-parts o m t in
    both_ways _ f (is_before-from o p.0 n p.1 (omega (arith, p.2))))

-- a request that is outstanding was so at each clock after its first
outstanding_at : (v : Trace) (p m : ℕ) → p < m → m ≤ length v → is_outstanding v (length v) p ≡ true
    → is_outstanding v m p ≡ true
unfolding is_outstanding is_dropped is_finished is_live
outstanding_at v p m l e t =
    let parts = and_parts _ _ (sym (is_outstanding-end v p (omega arith)) ∙ t) in
    let live = and_parts _ _ parts.0 in
    let ads = and_parts (line_at ADS v p) (not (is_cancelled v p)) live.0 in
    let other : is_reply (request_at v p) ≡ false = not-true _ live.1 in
    let stays : is_cancelled v p ≡ false = not-true _ ads.1 in
    let open_still : is_before (last_clock_of v (live_number_of v p)) m ≡ false =
    not_before (last_clock_of v (live_number_of v p)) m (length v) e (not-true _ parts.1) in
    rw (ads.0, lt-ltb p m l, other, stays, open_still) refl

-- fewer than four of the agent that begins a request at m were outstanding there
begun_few : (v : Trace) (a m : ℕ) → length v ≡ m + 2 → is_outstanding_wrong v (m + 1) ≡ false
    → is_outstanding_of v a m ≡ true → count_where (is_outstanding_of v a) m < 4
unfolding is_outstanding_of is_outstanding_wrong is_begun_wrongly line_back is_outstanding_of_winner is_some_and
begun_few v a m e f t =
    let q = and_parts (is_outstanding v (length v) m) (is_agent (winner_at v m) (Symmetric a)) t in
    let parts = and_parts _ _ (sym (is_outstanding-end v m (omega arith)) ∙ q.0) in
    let live = and_parts _ _ parts.0 in
    let ads = is_live-ads v m live.0 in
    let other : is_reply (request_at v m) ≡ false = not-true _ live.1 in
    let winner = agent_is (winner_at v m) a q.1 in
    let below : m ≤ length v = omega arith in
    let back : m + 1 - 1 ≡ m = omega arith in
    let one : nat_le 1 (m + 1) ≡ true = le-leb 1 (m + 1) (omega arith) in
    let few : ((true && true) && (any_where (is_id_taken_by v m) m
    || nat_le 4 (count_where (is_outstanding_of_winner v m) m))) ≡ false =
    rw (back, one, ads, other) at f in
    let less : count_where (is_outstanding_of_winner v m) m < 4 =
    leb-false 4 (count_where (is_outstanding_of_winner v m) m) (or_parts _ _ few).1 in
    let most : count_where (is_outstanding_of v a) m ≤ count_where (is_outstanding_of_winner v m) m =
    count_most (is_outstanding_of v a) (is_outstanding_of_winner v m) m (λ p l u.
    let r = and_parts (is_outstanding v (length v) p) (is_agent (winner_at v p) (Symmetric a)) u in
    and_from _ _ (outstanding_at v p m l below r.0) (rw winner r.1)) in
    omega (arith, most, less)

module _ {h : Trace} {x : Sample} {v : Trace} (more : OneMore h x v) (orderly : Orderly h) (after : Orderly v)
    (fit : is_outstanding_wrong v (length h) ≡ false) (few : Few h) where
  was_of : (a p : ℕ) → p + 1 < length h → is_outstanding_of v a p ≡ true → is_outstanding_of h a p ≡ true
  unfolding is_outstanding_of
  was_of a p l t =
      let q = and_parts (is_outstanding v (length v) p) (is_agent (winner_at v p) (Symmetric a)) t in
      and_from _ _ (was_outstanding more orderly after p l q.0)
      (ap (λ o. is_agent o (Symmetric a)) (winner_at-agree (length h) h v p more.agree (omega arith)) ∙ q.1)

  few_cases : (n a : ℕ) → length h ≡ n → count_where (is_outstanding_of v a) n ≤ 4
  unfolding count_where
  few_cases zero a e = omega arith
  few_cases (suc m) a e =
      let size = more.size in
      elim (cases_Bool (is_outstanding_of v a m)) [
        | inl t ↦
            let here : length h ≡ m + 1 = omega arith in
            let less = begun_few v a m (omega arith) (subst (λ n. is_outstanding_wrong v n ≡ false) here fit) t in
            let one = cond-most (is_outstanding_of v a m) in
            omega (arith, less, one)
        | inr f ↦
            let most = count_most (is_outstanding_of v a) (is_outstanding_of h a) m (λ p l. was_of a p (omega arith)) in
            let same : length h - 1 ≡ m = omega arith in
            let old : count_where (is_outstanding_of h a) m ≤ 4 =
            subst (λ n. count_where (is_outstanding_of h a) n ≤ 4) same (few.few a) in
            let none : cond {A = ℕ} (is_outstanding_of v a m) 1 0 ≡ 0 = ap (λ b. cond {A = ℕ} b 1 0) f in
            omega (arith, most, old, none)
      ]

  pub few_goes : Few v
  few_goes =
      let size = more.size in
      let back : length h ≡ length v - 1 = omega arith in
      record {
        few = λ a.
            subst (λ n. count_where (is_outstanding_of v a) n ≤ 4) back (few_cases (length h) a refl);
      }

pub few_empty : Few []
unfolding count_where
few_empty = record { few = λ a. omega arith }

-- each is of one of the four agents
four : (q : ℕ) → q < 4
    → cond (nat_eq 0 q) 1 0 + cond (nat_eq 1 q) 1 0 + cond (nat_eq 2 q) 1 0 + cond (nat_eq 3 q) 1 0 ≡ 1
four zero l = refl
four (suc zero) l = refl
four (suc (suc zero)) l = refl
four (suc (suc (suc zero))) l = refl
four (suc (suc (suc (suc n)))) l = absurd (omega arith)

module _ (v : Trace) (i : Identified v) where
  abbrev ones : ℕ → ℕ → ℕ
  ones a n = cond {A = ℕ} (is_outstanding_of v a n) 1 0

  of_agent : (n : ℕ) (o : Open) → kept_at v n ≡ Some o
      → (q : ℕ) × (q < 4) × ((a : ℕ) → is_outstanding_of v a n ≡ nat_eq a q)
  unfolding is_outstanding_of is_agent is_some_and is_same_agent
  of_agent n o e =
      let k = is_open v n o e in
      let winner = owned (winner_at v n) k.request (i.own n k.request (is_live-ads v n k.live) k.decoded)
      (sym (is_reply-some k.request) ∙ k.no_reply) in
      (k.request.did / 16, winner_four v n (k.request.did / 16) winner, λ a. rw (k.outstanding, winner) refl)

  one_of : (n : ℕ) (m : Option Open) → kept_at v n ≡ m
      → length (option_to_list m) ≤ ones 0 n + ones 1 n + ones 2 n + ones 3 n
  one_of n None e = omega arith
  one_of n (Some o) e =
      let p = of_agent n o e in
      let sum = four p.0 p.1 in
      rw (p.2 0, p.2 1, p.2 2, p.2 3) (omega (arith, sum))

  by_agents : (n : ℕ) → length (kept_below v n)
      ≤ count_where (is_outstanding_of v 0) n + count_where (is_outstanding_of v 1) n
      + count_where (is_outstanding_of v 2) n + count_where (is_outstanding_of v 3) n
  unfolding kept_below count_where
  by_agents zero = omega arith
  by_agents (suc n) =
      let ih = by_agents n in
      let size = length-append (kept_below v n) (option_to_list (kept_at v n)) in
      let one = one_of n (kept_at v n) refl in
      omega (arith, ih, size, one)

  room_cases : (n : ℕ) → length v ≡ n → Few v → length (kept_below v n) ≤ 16
  unfolding kept_below
  room_cases zero e few = omega arith
  room_cases (suc n) e few =
      let back : length v - 1 ≡ n = omega arith in
      let most : (a : ℕ) → count_where (is_outstanding_of v a) n ≤ 4 =
      λ a. subst (λ m. count_where (is_outstanding_of v a) m ≤ 4) back (few.few a) in
      let all = by_agents n in
      let size = ap length (below_last v n (omega arith)) in
      omega (arith, all, size, most 0, most 1, most 2, most 3)

  pub few_fit : Few v → length (open_of v) ≤ 16
  few_fit few = room_cases (length v) refl few
