-- The others leave a line to the request that waits for its reply, where no rule of ownership is broken.
use Rattle.std.proofs.Common.{ℕ, zero, suc, ◌+◌, ◌<◌, ◌≤◌, ◌≡◌, Bool, true, false, ◌&&◌, ◌||◌, not, nat_eq, length}
use Rattle.std.proofs.Common.{List, [], ◌∷◌, Option, Some, None, ◌⊎◌}
use Rattle.std.proofs.Common.{refl, sym, ap, subst, ◌∙◌, arith, inl, inr, if◌then◌else◌}
use Rattle.std.specs.List.{filter}
use Rattle.std.proofs.lemmas.Bool.{both_ways, cases_eq, cases_lt, eqb-true, false_from_ne_true}
use Rattle.fsb_count.specs.Options.{is_some_and}
use Rattle.fsb_signal.specs.declared.lines.TheConstants.Lines.{DEFER, HIT, HITM}
use Rattle.fsb_signal.specs.Samples.{line_at}
use Rattle.fsb_line.specs.declared.purpose.Purpose.{Purpose}
use Rattle.fsb_line.specs.declared.purpose.Purpose.TheVariants.{Own, Read, Upgrade, WriteBack}
use Rattle.fsb_line.specs.declared.purpose.Settled.TheVariants.{Replied, Retried}
use Rattle.fsb_line.specs.States.{asks_line}
use Rattle.fsb_trace.specs.At.{Trace}
use Rattle.fsb_trace.specs.Requests.{is_live, is_reply, live_clock_of, live_number_of, live_request_of}
use Rattle.fsb_trace.specs.Snoop.{line_at_snoop_end, snoop_end_of}
use Rattle.fsb_trace.specs.Outcome.{is_deferred}
use Rattle.fsb_trace.specs.Flight.{reply_clock_of}
use Rattle.fsb_trace.proofs.Interface.{live_clock_of-number, snoop_end_of-clock, snoop_end_of-rises}
use Rattle.fsb_laws.proofs.Interface.{live_of_reply}
use Rattle.fsb_owners.specs.Joint.{Joint, is_after_snoop_end, state_at}
use Rattle.fsb_owners.specs.Possible.{after_answer, after_begin, after_clock, after_snoop_end, after_unseen, asking}
use Rattle.fsb_owners.specs.Possible.{left_by, made_by, may_ask}
use Rattle.fsb_owners.specs.Possible.{possible, possible_begun, possible_shown, replied_to, settled_at_end}
use Rattle.fsb_owners.specs.Rules.{has_other_hit, is_hit_of_reply_wrong, is_none_left, is_served_or_deferred, of_request}
use Rattle.fsb_owners.specs.Shown.{agent_at, is_spoiled, is_turned, names, origin_clock_of, origin_of}
use Rattle.fsb_owner_laws.specs.Losses.{AreCoherent, fits_reply, possible_turned, turned_by}
use Rattle.fsb_laws.specs.Orderly.{Orderly}
use Rattle.fsb_owners.specs.Rules.{is_asked_twice}
use Rattle.fsb_owners.specs.Rules.{is_given_again}
use Rattle.fsb_owner_laws.specs.Unbroken.{IsUnbroken}
use Rattle.fsb_owner_laws.proofs.Sound.{sound_defers, sound_orderly}
use Rattle.fsb_signal.specs.declared.marks.Marks.{Marks}
use Rattle.fsb_owner_laws.proofs.AgreeEnders.{ender_from, for_line-from, snooped_from}
use Rattle.fsb_owner_laws.proofs.AgreeWords.{IsPutOff, put_off, reply_behind, reply_found, some_same}
use Rattle.fsb_owner_laws.proofs.AskedOnce.{IsAsker, IsPlain, IsReplied, asker, deferred_quiet, not_answered, not_given}
use Rattle.fsb_owner_laws.proofs.AskedOnce.{not_twice, number_is, request_no_reply}
use Rattle.fsb_owner_laws.proofs.Awaited.{IsAwaited, IsKeptOut, asks_out, awaited_after_drops, awaited_after_stores}
use Rattle.fsb_owner_laws.proofs.Awaited.{awaited_after_turn}
use Rattle.fsb_owner_laws.proofs.Awaited.{awaited_after_written, awaited_from, out_after_drops, out_after_end}
use Rattle.fsb_owner_laws.proofs.Awaited.{out_after_stores, reply_fits, waits_fit}
use Rattle.fsb_owner_laws.proofs.BrokenRules.{ender_parts, of_request-at, shown_by}
use Rattle.fsb_owner_laws.proofs.Emptied.{Ender, at_ender, ender, ender_four, next, step_by}
use Rattle.fsb_owner_laws.proofs.Members.{Has, has_begin, has_filter, has_reached, has_unseen}
use Rattle.fsb_owner_laws.proofs.StepLosses.{fits_end, showing_fits}

-- what the rules ask of a reply's snoop end at c, and of the requests up to it
pub record IsUndisturbed (first : List Joint) (v : Trace) (line c : ℕ) : Type 0 where
  pub orderly : Orderly v
  pub defers : (i : ℕ) → is_deferred v i ≡ true → line_at_snoop_end DEFER v i ≡ true
  pub sound : is_spoiled v line ≡ false
  pub asked : (d : ℕ) → d ≤ c → is_asked_twice first v d ≡ false
  pub given : is_given_again first v c ≡ false
  pub hit : is_hit_of_reply_wrong first v c ≡ false

undisturbed : (m : Marks) (first : List Joint) (v : Trace) (line c : ℕ) → IsUnbroken m first v line c
    → IsUndisturbed first v line c
undisturbed m first v line c u = record {
  orderly = sound_orderly m v u.phases;
  defers = λ i d. sound_defers m v i u.phases d;
  sound = u.sound;
  asked = u.asked;
  given = u.given;
  hit = u.hit;
}

-- a reply's snoop end at c, and the request that it answers, which asks for the line
pub record IsAnswer (v : Trace) (line c : ℕ) (e : Ender) : Type 0 where
  pub shown : ender v line c ≡ Some e
  pub asker : IsAsker v line c e
  pub way : IsReplied v e.0 asker.number
  pub put : IsPutOff v asker.number
  pub asks : asks_line e.1.1 ≡ true
  pub four : e.1.0 < 4

-- a reply's number and its first clock
reply_clock : (v : Trace) (j p r : ℕ) → live_clock_of v j ≡ Some p → live_number_of v r ≡ j
    → (is_live v r ≡ true) × (r < length v) → p ≡ r
reply_clock v j p r e n live =
    some_same p r (sym e ∙ ap (live_clock_of v) (sym n) ∙ live_clock_of-number v r live.1 live.0)

must_defer : (d h g : Bool) → ((not d && not h) || g) ≡ false → h ≡ false → d ≡ true
must_defer true h g e f = refl
must_defer false true g e f = absurd (cc)
must_defer false false g e f = absurd (cc)

served_too : (a b : Bool) → b ≡ true → (a || b) ≡ true
served_too true b e = refl
served_too false b e = e

deferred_again : (v : Trace) (i : ℕ) → is_deferred v i ≡ true → is_served_or_deferred v i ≡ false → ⊥
unfolding is_served_or_deferred
deferred_again v i d f =
    both_ways (is_served_or_deferred v i) f
    (served_too (not (line_at_snoop_end DEFER v i) && not (line_at_snoop_end HITM v i)) (is_deferred v i) d)

same_by : (a b : Bool) → (if a then not b else b) ≡ false → b ≡ a
same_by true true e = refl
same_by true false e = absurd (cc)
same_by false b e = e

-- the request begins four clocks before its own snoop end, and that lies before the reply
begun_before : (v : Trace) (line c : ℕ) (e : Ender) (a : IsAnswer v line c e)
    → (a.asker.clock + 4 ≤ a.put.snoop) × (a.put.snoop + 4 ≤ c)
begun_before v line c e a =
    let h = snoop_end_of-clock v a.asker.number a.put.snoop a.put.is_snoop in
    let same : h.clock ≡ a.asker.clock = some_same h.clock a.asker.clock (sym h.is_clock ∙ a.asker.begins) in
    let b = reply_behind v a.asker.number a.way.clock (reply_found v a.asker.number a.way.clock a.way.answered.reply) in
    let r : b.0 ≡ a.put.response = some_same b.0 a.put.response (sym b.1 ∙ a.put.is_response) in
    let k = snoop_end_of-clock v e.0 c a.asker.snoop in
    let q : k.clock ≡ a.way.clock = reply_clock v e.0 k.clock a.way.clock k.is_clock a.way.number
    (live_of_reply v a.asker.number a.way.clock a.way.answered.reply) in
    (omega (arith, same, h.above), omega (arith, b.2, r, a.put.before, q, k.above))

-- one agent's other request does not end between
same_snoop : (v : Trace) (i j s : ℕ) → snoop_end_of v i ≡ Some s → snoop_end_of v j ≡ Some s → i ≡ j
same_snoop v i j s e f =
    elim (cases_lt i j) [
      | inl l ↦ absurd (let h = snoop_end_of-rises v i j s l f in let same = some_same h.0 s (sym h.1 ∙ e) in omega (arith, same, h.2))
      | inr m ↦ elim (cases_lt j i) [
        | inl l ↦ absurd (let h = snoop_end_of-rises v j i s l e in let same = some_same h.0 s (sym h.1 ∙ f) in omega (arith, same, h.2))
        | inr k ↦ omega (arith, m, k)
      ]
    ]

replied_same : (v : Trace) (line c b : ℕ) (e f : Ender) (a : IsAnswer v line c e) (k : IsAsker v line b f)
    → k.number ≡ a.asker.number
    → IsReplied v f.0 k.number → b ≡ c
replied_same v line c b e f a k n r =
    let p : r.clock ≡ a.way.clock =
    some_same r.clock a.way.clock (sym r.answered.reply ∙ ap (reply_clock_of v) n ∙ a.way.answered.reply) in
    let j : f.0 ≡ e.0 = sym r.number ∙ ap (live_number_of v) p ∙ a.way.number in
    some_same b c (sym k.snoop ∙ ap (snoop_end_of v) j ∙ a.asker.snoop)

plain_same : (v : Trace) (line c b : ℕ) (e f : Ender) (a : IsAnswer v line c e) (k : IsAsker v line b f)
    → k.number ≡ a.asker.number
    → IsPlain v f.0 k.number → b ≡ a.put.snoop
plain_same v line c b e f a k n p =
    some_same b a.put.snoop (sym k.snoop ∙ ap (snoop_end_of v) (p.same ∙ n) ∙ a.put.is_snoop)

same_request : (v : Trace) (line c b : ℕ) (e f : Ender) (a : IsAnswer v line c e) (k : IsAsker v line b f)
    → k.number ≡ a.asker.number
    → (b ≡ c) ⊎ (b ≡ a.put.snoop)
same_request v line c b e f a k n =
    elim k.way [
      | inl p ↦ inr (plain_same v line c b e f a k n p)
      | inr r ↦ inl (replied_same v line c b e f a k n r)
    ]

other_agent : (first : List Joint) (v : Trace) (line c b : ℕ) (e f : Ender) → IsUndisturbed first v line c
    → (a : IsAnswer v line c e)
    → IsAsker v line b f → a.asker.clock ≤ b → b < c → (b ≡ a.put.snoop → ⊥) → nat_eq e.1.0 f.1.0 ≡ false
other_agent first v line c b e f u a k l m n =
    false_from_ne_true (nat_eq e.1.0 f.1.0) (λ t.
    let same = eqb-true e.1.0 f.1.0 t in
    elim (cases_lt a.asker.clock k.clock) [
      | inl x ↦ not_twice first v line c b e f a.asker k u.sound same x (omega (arith, k.before, m)) (u.asked (k.clock + 1) (omega (arith, k.before, m)))
      | inr y ↦ elim (cases_lt k.clock a.asker.clock) [
        | inl x ↦ not_twice first v line b c f e k a.asker u.sound (sym same) x l (u.asked (a.asker.clock + 1) (omega (arith, l, m)))
        | inr z ↦
            let q : k.clock ≡ a.asker.clock = omega (arith, y, z) in
            let i : k.number ≡ a.asker.number = sym (number_is v k.number k.clock k.begins) ∙ ap (live_number_of v) q
            ∙ number_is v a.asker.number a.asker.clock a.asker.begins in
            elim (same_request v line c b e f a k i) [ inl w ↦ omega (arith, w, m) | inr w ↦ n w ]
      ]
    ])

-- what a snoop end makes of a set
made_has : (P R : Joint → Type 0) (v : Trace) (b j a : ℕ) (kind : Purpose) (set : List Joint) (r : Bool)
    → is_reply (live_request_of v j) ≡ r
    → (is_reply (live_request_of v j) ≡ true → (x y : Joint) → P x → is_after_snoop_end a kind Replied (line_at HIT v b) x y ≡ true → R y)
    → (is_reply (live_request_of v j) ≡ false → (x y : Joint) → P x → fits_end (line_at HIT v b) (line_at HITM v b) a kind x ≡ true
    → is_after_snoop_end a kind (settled_at_end (line_at HITM v b) (is_turned v j) kind) (line_at HIT v b) x y ≡ true → R y)
    → Has P set → Has R (made_by v b j a kind (left_by v b j a kind set))
unfolding made_by left_by replied_to
made_has P R v b j a kind set true e f g h =
    rw e (has_reached P R (is_after_snoop_end a kind Replied (line_at HIT v b)) set (λ x y p c s. f e x y p s) h)
made_has P R v b j a kind set false e f g h =
    rw (e, showing_fits (line_at HIT v b) (line_at HITM v b) a kind set)
    (has_reached (λ x. (P x) × (fits_end (line_at HIT v b) (line_at HITM v b) a kind x ≡ true)) R
    (is_after_snoop_end a kind (settled_at_end (line_at HITM v b) (is_turned v j) kind) (line_at HIT v b))
    (filter (fits_end (line_at HIT v b) (line_at HITM v b) a kind) set) (λ x y p c s. g e x y p.0 p.1 s)
    (has_filter P (fits_end (line_at HIT v b) (line_at HITM v b) a kind) set h))

step_has : (R : Joint → Type 0) (v : Trace) (b : ℕ) (o : Option Ender) (set : List Joint) → (o ≡ None → Has R set)
    → ((e : Ender) → o ≡ Some e → Has R (made_by v b e.0 e.1.0 e.1.1 (left_by v b e.0 e.1.0 e.1.1 set)))
    → Has R (step_by (made_by v b) o (step_by (left_by v b) o set))
step_has R v b None set h k = h refl
step_has R v b (Some e) set h k = k e refl

end_has : (R : Joint → Type 0) (v : Trace) (line b : ℕ) (set : List Joint) → (ender v line b ≡ None → Has R set)
    → ((e : Ender) → ender v line b ≡ Some e → Has R (made_by v b e.0 e.1.0 e.1.1 (left_by v b e.0 e.1.0 e.1.1 set)))
    → Has R (after_snoop_end v line b (after_answer v line b set))
unfolding after_snoop_end after_answer
end_has R v line b set h k =
    rw (at_ender v line b (left_by v b) set, at_ender v line b (made_by v b) (step_by (left_by v b) (ender v line b) set))
    (step_has R v b (ender v line b) set h k)

-- from its first clock to its snoop end the agent may not store
clock_out : (first : List Joint) (v : Trace) (line c b : ℕ) (e : Ender) → IsUndisturbed first v line c → (a : IsAnswer v line c e)
    → a.asker.clock ≤ b → b < a.put.snoop → (set : List Joint) → Has (IsKeptOut e.1.0) set
    → Has (IsKeptOut e.1.0) (after_unseen v line b (after_snoop_end v line b (after_answer v line b set)))
clock_out first v line c b e u a l m set h =
    let far = begun_before v line c e a in
    let other = λ (f : Ender) (s : ender v line b ≡ Some f). other_agent first v line c b e f u a
    (asker v line b f u.orderly (ender_parts v line b f s)) l (omega (arith, m, far.1)) (λ w. omega (arith, w, m)) in
    has_unseen (IsKeptOut e.1.0) v line b (after_snoop_end v line b (after_answer v line b set))
    (out_after_stores e.1.0 a.four) (out_after_drops e.1.0 a.four)
    (end_has (IsKeptOut e.1.0) v line b set (λ n. h)
    (λ f s. made_has (IsKeptOut e.1.0) (IsKeptOut e.1.0) v b f.0 f.1.0 f.1.1 set (is_reply (live_request_of v f.0)) refl
    (λ r x y p t. out_after_end f.1.0 f.1.1 Replied (line_at HIT v b) e.1.0 a.four (other f s) x y p t)
    (λ r x y p t w. out_after_end f.1.0 f.1.1 (settled_at_end (line_at HITM v b) (is_turned v f.0) f.1.1) (line_at HIT v b) e.1.0 a.four (other f s) x y p w)
    h))

asking_out : (v : Trace) (line c : ℕ) (e : Ender) (a : IsAnswer v line c e) (set : List Joint)
    → Has (IsKeptOut e.1.0) (after_begin v line a.asker.clock set)
unfolding after_begin asking
asking_out v line c e a set =
    rw (a.asker.names_line, a.asker.agent, a.asker.kind)
    (λ x m. asks_out e.1.1 (state_at x e.1.0) a.asks
    (has_filter (λ x. Unit) (λ joint. may_ask e.1.1 (state_at joint e.1.0)) set (λ x n. tt) x m).1)

begin_out : (first : List Joint) (v : Trace) (line c b : ℕ) (e : Ender) (a : IsAnswer v line c e) → a.asker.clock ≤ b
    → (a.asker.clock < b → Has (IsKeptOut e.1.0) (possible first v line b))
    → Has (IsKeptOut e.1.0) (after_begin v line b (possible first v line b))
begin_out first v line c b e a l h =
    elim (cases_eq a.asker.clock b) [
      | inl q ↦ subst (λ n. Has (IsKeptOut e.1.0) (after_begin v line n (possible first v line n))) q
          (asking_out v line c e a (possible first v line a.asker.clock))
      | inr n ↦ has_begin (IsKeptOut e.1.0) v line b (possible first v line b) (h (omega (arith, l, n)))
    ]

out_until : (first : List Joint) (v : Trace) (line c : ℕ) (e : Ender) → IsUndisturbed first v line c
    → (a : IsAnswer v line c e) (b : ℕ)
    → a.asker.clock < b → b ≤ a.put.snoop → Has (IsKeptOut e.1.0) (possible first v line b)
unfolding possible after_clock
out_until first v line c e u a zero l m = absurd (omega (arith, l))
out_until first v line c e u a (suc b) l m =
    clock_out first v line c b e u a (omega (arith, l)) (omega (arith, m)) (after_begin v line b (possible first v line b))
    (begin_out first v line c b e a (omega (arith, l)) (λ k. out_until first v line c e u a b k (omega (arith, m))))

-- its own snoop end
own_end : (v : Trace) (line c : ℕ) (e : Ender) (a : IsAnswer v line c e) → ender v line a.put.snoop ≡ Some (a.asker.number, e.1)
unfolding origin_clock_of origin_of
own_end v line c e a =
    let plain = request_no_reply v line a.asker.number a.asker.clock a.asker.begins a.asker.names_line in
    let begins : origin_clock_of v a.asker.number ≡ Some a.asker.clock = rw plain a.asker.begins in
    ender_from v line a.put.snoop (a.asker.number, e.1) (record {
      number = snooped_from v a.put.snoop a.asker.number a.put.is_snoop;
      for_line = for_line-from v line a.asker.number a.asker.clock begins ∙ a.asker.names_line;
      clock = a.asker.clock;
      begins = begins;
      agent = a.asker.agent;
      kind = a.asker.kind;
    })

at_end_of : (v : Trace) (i s : ℕ) → snoop_end_of v i ≡ Some s → line_at_snoop_end HITM v i ≡ line_at HITM v s
unfolding line_at_snoop_end is_some_and
at_end_of v i s e = rw e refl

turns_by : (v : Trace) (i : ℕ) → line_at_snoop_end DEFER v i ≡ true → line_at_snoop_end HITM v i ≡ false → is_turned v i ≡ true
unfolding is_turned
turns_by v i d h = rw (d, h) refl

sent_back : (kind : Purpose) → asks_line kind ≡ true → settled_at_end false true kind ≡ Retried
unfolding settled_at_end
sent_back Read e = refl
sent_back Own e = refl
sent_back Upgrade e = refl
sent_back WriteBack e = absurd (cc)

begins_waiting : (first : List Joint) (v : Trace) (line c : ℕ) (e f : Ender) → IsUndisturbed first v line c
    → (a : IsAnswer v line c e)
    → f ≡ (a.asker.number, e.1) → (set : List Joint) → Has (IsKeptOut e.1.0) set
    → Has (IsAwaited (line_at HIT v a.put.snoop) e.1.0 e.1.1)
    (made_by v a.put.snoop f.0 f.1.0 f.1.1 (left_by v a.put.snoop f.0 f.1.0 f.1.1 set))
begins_waiting first v line c e f u a same set h =
    let i = a.asker.number in
    let s = a.put.snoop in
    let quiet = deferred_quiet v i a.way.answered.deferred in
    let hitm : line_at HITM v s ≡ false = sym (at_end_of v i s a.put.is_snoop) ∙ quiet in
    let turned : is_turned v i ≡ true = turns_by v i (u.defers i a.way.answered.deferred) quiet in
    let settled : settled_at_end (line_at HITM v s) (is_turned v i) e.1.1 ≡ Retried =
    ap (λ m. settled_at_end m (is_turned v i) e.1.1) hitm ∙ ap (λ t. settled_at_end false t e.1.1) turned ∙ sent_back e.1.1 a.asks in
    let plain = request_no_reply v line i a.asker.clock a.asker.begins a.asker.names_line in
    subst (λ (g : Ender). Has (IsAwaited (line_at HIT v s) e.1.0 e.1.1) (made_by v s g.0 g.1.0 g.1.1 (left_by v s g.0 g.1.0 g.1.1 set))) (sym same)
    (made_has (IsKeptOut e.1.0) (IsAwaited (line_at HIT v s) e.1.0 e.1.1) v s i e.1.0 e.1.1 set false plain
    (λ r x y p t. absurd (both_ways (is_reply (live_request_of v i)) plain r))
    (λ r x y p t w. awaited_from (line_at HIT v s) e.1.0 e.1.1 a.four a.asks x y p
    (ap (λ m. fits_end (line_at HIT v s) m e.1.0 e.1.1 x) (sym hitm) ∙ t)
    (ap (λ z. is_after_snoop_end e.1.0 e.1.1 z (line_at HIT v s) x y) (sym settled) ∙ w))
    h)

-- while it waits: another's request
turned_away : (first : List Joint) (v : Trace) (line c b : ℕ) (e f : Ender) → IsUndisturbed first v line c
    → (a : IsAnswer v line c e)
    → (k : IsAsker v line b f) → IsPlain v f.0 k.number → a.put.snoop < b → b < c → asks_line f.1.1 ≡ true
    → line_at HITM v b ≡ false
    → is_turned v f.0 ≡ true
unfolding is_served_or_deferred
turned_away first v line c b e f u a k p l m ask hitm =
    let snoop : snoop_end_of v k.number ≡ Some b = ap (snoop_end_of v) (sym p.same) ∙ k.snoop in
    let served = not_given first v line c a.asker.number k.number a.asker.clock k.clock e.1.0 a.put.snoop b f.1.1 u.given
    a.way.answered.deferred a.put.is_snoop snoop l
    (not_answered v a.asker.number a.way.clock c b a.way.answered.reply (ap (snoop_end_of v) a.way.number ∙ a.asker.snoop) (omega (arith, m)))
    a.asker.begins a.asker.names_line u.sound a.asker.agent k.begins k.names_line k.kind ask in
    let quiet : line_at_snoop_end HITM v k.number ≡ false = at_end_of v k.number b snoop ∙ hitm in
    let defer : line_at_snoop_end DEFER v k.number ≡ true =
    must_defer (line_at_snoop_end DEFER v k.number) (line_at_snoop_end HITM v k.number) (is_deferred v k.number) served quiet in
    ap (is_turned v) p.same ∙ turns_by v k.number defer quiet

-- another's reply is to a write-back
reply_is_written : (first : List Joint) (v : Trace) (line c b : ℕ) (e f : Ender) → IsUndisturbed first v line c
    → (a : IsAnswer v line c e)
    → (k : IsAsker v line b f) → IsReplied v f.0 k.number → a.put.snoop < b → b < c → asks_line f.1.1 ≡ true → ⊥
unfolding is_served_or_deferred
reply_is_written first v line c b e f u a k r l m ask =
    let o = put_off v k.number u.orderly r.answered.deferred in
    let behind = reply_behind v k.number r.clock (reply_found v k.number r.clock r.answered.reply) in
    let rs : behind.0 ≡ o.response = some_same behind.0 o.response (sym behind.1 ∙ o.is_response) in
    let j = snoop_end_of-clock v f.0 b k.snoop in
    let jc : j.clock ≡ r.clock = reply_clock v f.0 j.clock r.clock j.is_clock r.number
    (live_of_reply v k.number r.clock r.answered.reply) in
    let low : o.snoop < b = omega (arith, o.before, rs, behind.2, jc, j.above) in
    let mine = ap (snoop_end_of v) a.way.number ∙ a.asker.snoop in
    let theirs = ap (snoop_end_of v) r.number ∙ k.snoop in
    elim (cases_lt a.put.snoop o.snoop) [
      | inl x ↦ deferred_again v k.number r.answered.deferred (not_given first v line c a.asker.number k.number a.asker.clock k.clock e.1.0
          a.put.snoop o.snoop f.1.1 u.given a.way.answered.deferred a.put.is_snoop o.is_snoop x
          (not_answered v a.asker.number a.way.clock c o.snoop a.way.answered.reply mine (omega (arith, low, m)))
          a.asker.begins a.asker.names_line u.sound a.asker.agent k.begins k.names_line k.kind ask)
      | inr y ↦ elim (cases_lt o.snoop a.put.snoop) [
        | inl x ↦ deferred_again v a.asker.number a.way.answered.deferred (not_given first v line c k.number a.asker.number k.clock a.asker.clock f.1.0
            o.snoop a.put.snoop e.1.1 u.given r.answered.deferred o.is_snoop a.put.is_snoop x
            (not_answered v k.number r.clock b a.put.snoop r.answered.reply theirs (omega (arith, l)))
            k.begins k.names_line u.sound k.agent a.asker.begins a.asker.names_line a.asker.kind a.asks)
        | inr z ↦
            let same : o.snoop ≡ a.put.snoop = omega (arith, y, z) in
            let n : k.number ≡ a.asker.number =
            same_snoop v k.number a.asker.number a.put.snoop (o.is_snoop ∙ ap (λ t. Some t) same) a.put.is_snoop in
            let w = replied_same v line c b e f a k n r in omega (arith, w, m)
      ]
    ]

waiting_reply : (first : List Joint) (v : Trace) (line c b : ℕ) (e f : Ender) (kind : Purpose)
    → IsUndisturbed first v line c → (a : IsAnswer v line c e)
    → (k : IsAsker v line b f) → IsReplied v f.0 k.number → a.put.snoop < b → b < c → f.1.1 ≡ kind → nat_eq e.1.0 f.1.0 ≡ false
    → (hit : Bool) (x y : Joint) → IsAwaited hit e.1.0 e.1.1 x
    → is_after_snoop_end f.1.0 kind Replied (line_at HIT v b) x y ≡ true
    → IsAwaited hit e.1.0 e.1.1 y
waiting_reply first v line c b e f WriteBack u a k r l m same n hit x y p t =
    awaited_after_written f.1.0 (line_at HIT v b) hit e.1.0 e.1.1 a.four n x y p t
waiting_reply first v line c b e f Read u a k r l m same n hit x y p t =
    absurd (reply_is_written first v line c b e f u a k r l m (ap asks_line same))
waiting_reply first v line c b e f Own u a k r l m same n hit x y p t =
    absurd (reply_is_written first v line c b e f u a k r l m (ap asks_line same))
waiting_reply first v line c b e f Upgrade u a k r l m same n hit x y p t =
    absurd (reply_is_written first v line c b e f u a k r l m (ap asks_line same))

plain_of : (v : Trace) (j i : ℕ) → IsPlain v j i ⊎ IsReplied v j i → is_reply (live_request_of v j) ≡ false → IsPlain v j i
plain_of v j i (inl p) e = p
plain_of v j i (inr r) e = absurd (both_ways (is_reply (live_request_of v j)) e r.reply)

replied_of : (v : Trace) (j i : ℕ) → IsPlain v j i ⊎ IsReplied v j i → is_reply (live_request_of v j) ≡ true → IsReplied v j i
replied_of v j i (inl p) e = absurd (both_ways (is_reply (live_request_of v j)) p.request e)
replied_of v j i (inr r) e = r

waiting_end : (first : List Joint) (v : Trace) (line c b : ℕ) (e f : Ender) → IsUndisturbed first v line c
    → (a : IsAnswer v line c e)
    → a.put.snoop < b → b < c → ender v line b ≡ Some f → (hit : Bool) (set : List Joint) → Has (IsAwaited hit e.1.0 e.1.1) set
    → Has (IsAwaited hit e.1.0 e.1.1) (made_by v b f.0 f.1.0 f.1.1 (left_by v b f.0 f.1.0 f.1.1 set))
waiting_end first v line c b e f u a l m s hit set h =
    let far = begun_before v line c e a in
    let k = asker v line b f u.orderly (ender_parts v line b f s) in
    let n = other_agent first v line c b e f u a k (omega (arith, l, far.0)) m (λ w. omega (arith, w, l)) in
    let fit = λ (x : Joint) (p : IsAwaited hit e.1.0 e.1.1 x) (t : fits_end (line_at HIT v b) (line_at HITM v b) f.1.0 f.1.1 x ≡ true).
    waits_fit hit (line_at HIT v b) (line_at HITM v b) f.1.0 e.1.0 e.1.1 f.1.1 x (ender_four v line b f s) p t in
    made_has (IsAwaited hit e.1.0 e.1.1) (IsAwaited hit e.1.0 e.1.1) v b f.0 f.1.0 f.1.1 set (is_reply (live_request_of v f.0)) refl
    (λ r x y p t. waiting_reply first v line c b e f f.1.1 u a k (replied_of v f.0 k.number k.way r) l m refl n hit x y p t)
    (λ r x y p t w.
    let q = fit x p t in
    let turned = turned_away first v line c b e f u a k (plain_of v f.0 k.number k.way r) l m q.1 q.0 in
    let settled : settled_at_end (line_at HITM v b) (is_turned v f.0) f.1.1 ≡ Retried =
    ap (λ m. settled_at_end m (is_turned v f.0) f.1.1) q.0 ∙ ap (λ t. settled_at_end false t f.1.1) turned ∙ sent_back f.1.1 q.1 in
    awaited_after_turn f.1.0 f.1.1 (line_at HIT v b) hit e.1.0 e.1.1 a.four n x y p
    (ap (λ z. is_after_snoop_end f.1.0 f.1.1 z (line_at HIT v b) x y) (sym settled) ∙ w))
    h

-- one clock on
wait_from : (first : List Joint) (v : Trace) (line c : ℕ) (e : Ender) → IsUndisturbed first v line c
    → (a : IsAnswer v line c e) (set : List Joint)
    → Has (IsKeptOut e.1.0) set → Has (IsAwaited (line_at HIT v a.put.snoop) e.1.0 e.1.1)
    (after_unseen v line a.put.snoop (after_snoop_end v line a.put.snoop (after_answer v line a.put.snoop set)))
wait_from first v line c e u a set h =
    let s = a.put.snoop in
    let own = own_end v line c e a in
    has_unseen (IsAwaited (line_at HIT v s) e.1.0 e.1.1) v line s (after_snoop_end v line s (after_answer v line s set))
    (awaited_after_stores (line_at HIT v s) e.1.0 e.1.1) (awaited_after_drops (line_at HIT v s) e.1.0 e.1.1 a.four)
    (end_has (IsAwaited (line_at HIT v s) e.1.0 e.1.1) v line s set
    (λ n. absurd (let bad = sym n ∙ own in let no : ⊥ = cc in no))
    (λ f k. begins_waiting first v line c e f u a (some_same f (a.asker.number, e.1) (sym k ∙ own)) set h))

wait_on : (first : List Joint) (v : Trace) (line c b : ℕ) (e : Ender) → IsUndisturbed first v line c → (a : IsAnswer v line c e)
    → a.put.snoop < b → b < c → (hit : Bool) (set : List Joint) → Has (IsAwaited hit e.1.0 e.1.1) set
    → Has (IsAwaited hit e.1.0 e.1.1) (after_unseen v line b (after_snoop_end v line b (after_answer v line b set)))
wait_on first v line c b e u a l m hit set h =
    has_unseen (IsAwaited hit e.1.0 e.1.1) v line b (after_snoop_end v line b (after_answer v line b set))
    (awaited_after_stores hit e.1.0 e.1.1) (awaited_after_drops hit e.1.0 e.1.1 a.four)
    (end_has (IsAwaited hit e.1.0 e.1.1) v line b set (λ n. h) (λ f s. waiting_end first v line c b e f u a l m s hit set h))

pub wait_until : (first : List Joint) (v : Trace) (line c : ℕ) (e : Ender) → IsUndisturbed first v line c
    → (a : IsAnswer v line c e) (b : ℕ)
    → a.put.snoop < b → b ≤ c → Has (IsAwaited (line_at HIT v a.put.snoop) e.1.0 e.1.1) (possible first v line b)
unfolding possible after_clock
wait_until first v line c e u a zero l m = absurd (omega (arith, l))
wait_until first v line c e u a (suc b) l m =
    let far = begun_before v line c e a in
    elim (cases_eq a.put.snoop b) [
      | inl q ↦ subst (λ n. Has (IsAwaited (line_at HIT v a.put.snoop) e.1.0 e.1.1)
          (after_unseen v line n (after_snoop_end v line n (after_answer v line n (after_begin v line n (possible first v line n)))))) q
          (wait_from first v line c e u a (after_begin v line a.put.snoop (possible first v line a.put.snoop))
          (has_begin (IsKeptOut e.1.0) v line a.put.snoop (possible first v line a.put.snoop)
          (out_until first v line c e u a a.put.snoop (omega (arith, far.0)) (omega arith))))
      | inr n ↦ wait_on first v line c b e u a (omega (arith, l, n)) (omega (arith, m)) (line_at HIT v a.put.snoop)
          (after_begin v line b (possible first v line b))
          (has_begin (IsAwaited (line_at HIT v a.put.snoop) e.1.0 e.1.1) v line b (possible first v line b)
          (wait_until first v line c e u a b (omega (arith, l, n)) (omega (arith, m))))
    ]

-- HIT# of the reply is that of the request
same_hit : (v : Trace) (i s c : ℕ) → snoop_end_of v i ≡ Some s → has_other_hit v c i ≡ false → line_at HIT v c ≡ line_at HIT v s
unfolding has_other_hit line_at_snoop_end is_some_and
same_hit v i s c e h = same_by (line_at HIT v s) (line_at HIT v c) (let k = rw e at h in k)

pub middle_off : (b d : Bool) → d ≡ true → (true && b && d) ≡ false → b ≡ false
middle_off true d e h = absurd (both_ways d h e)
middle_off false d e h = refl

hit_by : (v : Trace) (line c j i q a : ℕ) → is_reply (live_request_of v j) ≡ true → origin_of v j ≡ Some i
    → origin_clock_of v j ≡ Some q
    → names v line q ≡ true → is_spoiled v line ≡ false → agent_at v q ≡ Some a
    → (is_reply (live_request_of v j) && is_some_and (origin_of v j) (λ i. has_other_hit v c i)
    && is_some_and (origin_clock_of v j) (λ q. of_request v q (λ line a. true))) ≡ false
    → has_other_hit v c i ≡ false
unfolding is_some_and
hit_by v line c j i q a r o oc n s g h =
    middle_off (has_other_hit v c i) (of_request v q (λ line a. true)) (of_request-at v line q a (λ line a. true) n s g)
    (let k = rw (r, o, oc) at h in k)

repeated : (first : List Joint) (v : Trace) (line c : ℕ) (e : Ender) → IsUndisturbed first v line c → (a : IsAnswer v line c e)
    → line_at HIT v c ≡ line_at HIT v a.put.snoop
unfolding is_hit_of_reply_wrong is_some_and
repeated first v line c e u a =
    let p = ender_parts v line c e a.shown in
    let h = u.hit in
    let told = rw p.number at h in
    same_hit v a.asker.number a.put.snoop c a.put.is_snoop
    (hit_by v line c e.0 a.asker.number a.asker.clock e.1.0 a.way.reply a.asker.origin a.asker.origin_clock a.asker.names_line u.sound
    a.asker.agent told)

-- all that is left fits the reply
all_pass : (p : Joint → Bool) (set : List Joint) → Has (λ x. p x ≡ true) set → is_none_left (filter p set) ≡ is_none_left set
all_pass p [] h = refl
all_pass p (x ∷ set) h = rw (h x (0, omega arith, refl)) refl

kind_of : (kind : Purpose) → (kind ≡ WriteBack) ⊎ (asks_line kind ≡ true)
kind_of Read = inr refl
kind_of Own = inr refl
kind_of Upgrade = inr refl
kind_of WriteBack = inl refl

write_back_fits : (hit : Bool) (asker : ℕ) (kind : Purpose) (x : Joint) → kind ≡ WriteBack → fits_reply hit asker kind x ≡ true
unfolding fits_reply
write_back_fits hit asker kind x e = rw e refl

left_all : (v : Trace) (c : ℕ) (e : Ender) (set : List Joint) → is_reply (live_request_of v e.0) ≡ true
    → left_by v c e.0 e.1.0 e.1.1 set ≡ set
unfolding left_by
left_all v c e set r = rw r refl

shown_all : (first : List Joint) (v : Trace) (line c : ℕ) (e : Ender) → ender v line c ≡ Some e
    → is_reply (live_request_of v e.0) ≡ true
    → possible_shown first v line c ≡ possible_begun first v line c
shown_all first v line c e s r =
    shown_by first v line c ∙ ap (λ o. step_by (left_by v c) o (possible_begun first v line c)) s
    ∙ left_all v c e (possible_begun first v line c) r

fit_all : (first : List Joint) (v : Trace) (line c : ℕ) (e : Ender) → IsUndisturbed first v line c → IsAnswer v line c e
    → Has (λ x. fits_reply (line_at HIT v c) e.1.0 e.1.1 x ≡ true) (possible_begun first v line c)
unfolding possible_begun
fit_all first v line c e u a =
    let far = begun_before v line c e a in
    let hit = repeated first v line c e u a in
    has_begin (λ x. fits_reply (line_at HIT v c) e.1.0 e.1.1 x ≡ true) v line c (possible first v line c)
    (λ x m. ap (λ h. fits_reply h e.1.0 e.1.1 x) hit
    ∙ reply_fits (line_at HIT v a.put.snoop) e.1.0 e.1.1 x a.asks (wait_until first v line c e u a c (omega (arith, far.1)) (omega arith) x m))

turned_reply : (first : List Joint) (v : Trace) (line c : ℕ) (e : Ender) → IsUndisturbed first v line c → ender v line c ≡ Some e
    → is_reply (live_request_of v e.0) ≡ true
    → is_none_left (filter (fits_reply (line_at HIT v c) e.1.0 e.1.1) (possible_shown first v line c)) ≡ is_none_left (possible_shown first v line c)
turned_reply first v line c e u s r =
    let k = asker v line c e u.orderly (ender_parts v line c e s) in
    let w = replied_of v e.0 k.number k.way r in
    all_pass (fits_reply (line_at HIT v c) e.1.0 e.1.1) (possible_shown first v line c)
    (elim (kind_of e.1.1) [
      | inl b ↦ λ x m. write_back_fits (line_at HIT v c) e.1.0 e.1.1 x b
      | inr t ↦ subst (Has (λ x. fits_reply (line_at HIT v c) e.1.0 e.1.1 x ≡ true)) (sym (shown_all first v line c e s r))
          (fit_all first v line c e u (record {
            shown = s;
            asker = k;
            way = w;
            put = put_off v k.number u.orderly w.answered.deferred;
            asks = t;
            four = ender_four v line c e s;
          }))
    ])

turned_if : (first : List Joint) (v : Trace) (line c : ℕ) (e : Ender) (r : Bool) → IsUndisturbed first v line c
    → ender v line c ≡ Some e
    → is_reply (live_request_of v e.0) ≡ r
    → is_none_left (turned_by v c e.0 e.1.0 e.1.1 (possible_shown first v line c)) ≡ is_none_left (possible_shown first v line c)
unfolding turned_by
turned_if first v line c e true u s r = rw r (turned_reply first v line c e u s r)
turned_if first v line c e false u s r = rw r refl

turned_all : (first : List Joint) (v : Trace) (line c : ℕ) (o : Option Ender) → IsUndisturbed first v line c → ender v line c ≡ o
    → is_none_left (step_by (turned_by v c) o (possible_shown first v line c)) ≡ is_none_left (possible_shown first v line c)
turned_all first v line c None u s = refl
turned_all first v line c (Some e) u s = turned_if first v line c e (is_reply (live_request_of v e.0)) u s refl

turned_step : (first : List Joint) (v : Trace) (line c : ℕ)
    → possible_turned first v line c ≡ step_by (turned_by v c) (ender v line c) (possible_shown first v line c)
unfolding possible_turned
turned_step first v line c = at_ender v line c (turned_by v c) (possible_shown first v line c)

pub none_lost : (m : Marks) (first : List Joint) (v : Trace) (line c : ℕ) → AreCoherent first → IsUnbroken m first v line c
    → is_none_left (possible first v line (c + 1)) ≡ is_none_left (possible_shown first v line c)
none_lost m first v line c h u =
    next first v line c h ∙ ap (λ set. is_none_left set) (turned_step first v line c)
    ∙ turned_all first v line c (ender v line c) (undisturbed m first v line c u) refl
