-- The chunk that comes with a sample is that of a data clock of the trace.
use Rattle.std.proofs.Common.{ℕ, suc, zero, ◌<◌, ◌≤◌, ◌≡◌, Bool, true, false, cond, ◌&&◌, nat_lt, Option, Some}
use Rattle.std.proofs.Common.{unwrap_or}
use Rattle.std.proofs.Common.{◌+◌, None, [], ◌∷◌, ◌++◌, length, refl, sym, ap, ◌∙◌, arith, subst}
use Rattle.std.specs.Option.{option_and_then}
use Rattle.std.proofs.lemmas.Bool.{and_parts, both_ways, ltb-true, lt-ltb, le-leb}
use Rattle.std.proofs.lemmas.Option.{same_Some}
use Rattle.fsb_count.specs.Clocks.{count_where, from_clock, nth_where}
use Rattle.fsb_count.proofs.Interface.{any_where-at, first_where-off, nth_where-at, nth_where-found}
use Rattle.fsb_signal.specs.declared.lines.TheConstants.Lines.{DRDY}
use Rattle.fsb_signal.specs.declared.marks.Marks.{Marks}
use Rattle.fsb_signal.specs.declared.sample.Sample.{Sample}
use Rattle.fsb_signal.specs.Samples.{has_line, line_at}
use Rattle.fsb_trace.specs.At.{Trace}
use Rattle.fsb_trace.specs.Requests.{live_count}
use Rattle.fsb_trace.specs.Outcome.{moves_data, response_clock_of}
use Rattle.fsb_trace.specs.Response.{data_clock_of}
use Rattle.fsb_trace.specs.Rules.{is_transferring_of, is_transferring}
use Rattle.fsb_trace.specs.Verdict.{is_broken, least_rule, verdict}
use Rattle.fsb_trace.proofs.Interface.{verdict-none}
use Rattle.fsb_laws.specs.OneMore.{OneMore, responds}
use Rattle.fsb_laws.specs.Orderly.{Orderly}
use Rattle.fsb_laws.specs.Progress.{response_count, transfer_after, transfer_of}
use Rattle.fsb_laws.proofs.Interface.{chunks_of-form, is_transferring-last, is_transferring-none, last_is_live}
use Rattle.fsb_laws.proofs.Interface.{line_at-new}
use Rattle.fsb_laws.proofs.Interface.{one_more, response_clock_of-new, response_clock_of-old, response_count-kept}
use Rattle.fsb_laws.proofs.Interface.{response_count-more, response_counted, response_there, transferring_form}
use Rattle.fsb_rules.specs.declared.checker.Checker.{Checker}
use Rattle.fsb_rules.specs.declared.in_flight.InFlight.{InFlight}
use Rattle.fsb_rules.specs.declared.live.LiveRequest.{LiveRequest}
use Rattle.fsb_rules.specs.Live.{IsLive}
use Rattle.fsb_rules.specs.InFlight.{InTime, KeepsLast}
use Rattle.fsb_rules.specs.Checker.{Stands, as_broken}
use Rattle.fsb_rules.specs.ComingChunks.{HasData}
use Rattle.fsb_rules.proofs.LiveTests.{live-did, live-request}
use Rattle.fsb_rules.proofs.Lines.{line_at-last}
use Rattle.fsb_rules.proofs.QueueRules.{none_from, orderly_after, same_count, same_transfer}
use Rattle.fsb_rules.proofs.Feeds.{verdict_kept}
use Rattle.fsb_rules.proofs.LeastRule.{IsUnbroken, unbroken}

-- a data clock of a live request whose data move
pub record IsDataClock (w : Trace) (i n c : ℕ) : Type 0 where
  pub few : n < 4
  pub moves : moves_data w i ≡ true
  pub response : ℕ
  pub is_response : response_clock_of w i ≡ Some response
  pub is_clock : nth_where (from_clock response (line_at DRDY w)) n (length w) ≡ Some c

data_cases : (w : Trace) (i n c : ℕ) (b : Bool) (o : Option ℕ) → (nat_lt n 4 && moves_data w i) ≡ b
    → response_clock_of w i ≡ o
    → cond b (option_and_then (λ r. nth_where (from_clock r (line_at DRDY w)) n (length w)) o) None ≡ Some c
    → IsDataClock w i n c
data_cases w i n c false o e f g = absurd (let no : ⊥ = cc in no)
data_cases w i n c true None e f g = absurd (let no : ⊥ = cc in no)
data_cases w i n c true (Some r) e f g =
    let p = and_parts _ _ e in
    record { few = ltb-true n 4 p.0; moves = p.1; response = r; is_response = f; is_clock = g }

pub data_clock-parts : (w : Trace) (i n c : ℕ) → data_clock_of w i n ≡ Some c → IsDataClock w i n c
unfolding data_clock_of
data_clock-parts w i n c e = data_cases w i n c (nat_lt n 4 && moves_data w i) (response_clock_of w i) refl refl e

pub data_clock-from : (w : Trace) (i n c : ℕ) → IsDataClock w i n c → data_clock_of w i n ≡ Some c
unfolding data_clock_of
data_clock-from w i n c d = rw (lt-ltb n 4 d.few, d.moves, d.is_response) d.is_clock

-- a clock with data after a response, where so many came before it
data_at_clock : (w : Trace) (i n c r : ℕ) → n < 4 → moves_data w i ≡ true → response_clock_of w i ≡ Some r
    → r ≤ c → c < length w → line_at DRDY w c ≡ true → count_where (from_clock r (line_at DRDY w)) c ≡ n
    → IsDataClock w i n c
unfolding from_clock
data_at_clock w i n c r few moves e l below t count =
    let here : from_clock r (line_at DRDY w) c ≡ true = rw (le-leb r c l) t in
    record {
      few = few;
      moves = moves;
      response = r;
      is_response = e;
      is_clock = subst (λ k. nth_where (from_clock r (line_at DRDY w)) k (length w) ≡ Some c) count
          (nth_where-at (from_clock r (line_at DRDY w)) (length w) c below here);
    }

-- a sample that breaks no rule
none_before : (marks : Marks) (h : Trace) (x : Sample) (p : Option (ℕ × ℕ)) → verdict marks h ≡ p
    → verdict marks (h ++ x ∷ []) ≡ None → p ≡ None
none_before marks h x None e f = refl
none_before marks h x (Some p) e f =
    let g : verdict marks (h ++ x ∷ []) ≡ Some p =
    verdict_kept marks h x (h ++ x ∷ []) (Some p) (one_more h x) e refl in
    absurd (let no : ⊥ = cc in no)

pub found_none : (marks : Marks) (k : Checker) (h : Trace) (x : Sample) → Stands k marks h
    → verdict marks (h ++ x ∷ []) ≡ None → k.found ≡ None
unfolding as_broken
found_none marks k h x s f = s.found ∙ ap as_broken (none_before marks h x (verdict marks h) refl f)

pub unbroken_now : (marks : Marks) (h : Trace) (x : Sample) → verdict marks (h ++ x ∷ []) ≡ None
    → IsUnbroken marks (h ++ x ∷ []) (length h)
unfolding least_rule
unbroken_now marks h x f =
    let m = one_more h x in
    unbroken marks (h ++ x ∷ []) (length h) m.size
    (first_where-off (is_broken marks (h ++ x ∷ []) (length h)) 21
    (λ j l. verdict-none marks (h ++ x ∷ []) f (length h) j l))

-- without a request that responded nothing is on the way
last_cases : (v : Trace) (n i : ℕ) → KeepsLast None v → response_count v ≡ i → is_transferring v n ≡ false
last_cases v n zero k e = is_transferring-none v n e
last_cases v n (suc i) k e = let p = k.kept i e in absurd (let none = p.1 in let no : ⊥ = cc in no)

pub none_moving : (v : Trace) (n : ℕ) → KeepsLast None v → is_transferring v n ≡ false
none_moving v n k = last_cases v n (response_count v) k refl

-- data that come at the new clock are on the way there
pub on_way : (h : Trace) (x : Sample) (v : Trace) (i n : ℕ) → OneMore h x v → Orderly v
    → data_clock_of v i n ≡ Some (length h) → (has_line x DRDY ≡ true) × (is_transferring v (length h) ≡ true)
unfolding from_clock is_transferring
on_way h x v i n m o e =
    let d = data_clock-parts v i n (length h) e in
    let p = nth_where-found (from_clock d.response (line_at DRDY v)) n (length v) (length h) d.is_clock in
    let few : count_where (from_clock d.response (line_at DRDY v)) (length h) < 4 =
    (let few = d.few in let count = p.2 in omega arith) in
    let going : is_transferring_of v (length h) i ≡ true =
    transferring_form v (length h) i d.response d.is_response ∙ (rw (d.moves, lt-ltb _ 4 few) refl) in (
      sym (line_at-new DRDY h x v m) ∙ (and_parts _ _ p.1).1,
      any_where-at (is_transferring_of v (length h)) (live_count v) i
          (last_is_live v i o (response_counted v i d.response d.is_response)) going,
    )

-- how many chunks came of the data that are on the way with the sample, of live request i
module _ {q : InFlight} {n : ℕ} {x : Sample} {h : Trace} (t : InTime q n x h) where
  abbrev v : Trace
  v = h ++ x ∷ []

  m : OneMore h x (h ++ x ∷ [])
  m = one_more h x

  place_cases : (b : Bool) (i r : ℕ) → responds x ≡ b → response_count v ≡ suc i → response_clock_of v i ≡ Some r
      → is_transferring_of v (length h) i ≡ true
      → count_where (from_clock r (line_at DRDY v)) (length h) ≡ cond b 0 (unwrap_or (transfer_of h) 0)
  unfolding transfer_of transfer_after
  place_cases true i r f e c g =
      let more : response_count v ≡ response_count h + 1 = rw f at (response_count-more h x v m) in
      let same : response_count h ≡ i = omega arith in
      let new : response_clock_of v i ≡ Some (length h) =
      subst (λ j. response_clock_of v j ≡ Some (length h)) same (response_clock_of-new h x v m f) in
      let at : r ≡ length h = same_Some _ _ (sym c ∙ new) in
      rw at (none_from v (length h))
  place_cases false i r f e c g =
      let old : response_count h ≡ suc i = sym (response_count-kept h x v m f) ∙ e in
      let clock : response_clock_of h i ≡ Some r = sym (response_clock_of-old h x v i m (omega arith)) ∙ c in
      let going : is_transferring_of h (length h) i ≡ true =
      sym (same_transfer m i t.here.orderly (omega arith)) ∙ g in
      rw (old, transfer_after, going, chunks_of-form h i r clock) (same_count m r)

  told_cases : (a : LiveRequest) (i : ℕ) → response_count v ≡ i → has_line x DRDY ≡ true
      → is_transferring v (length h) ≡ true → KeepsLast (Some a) v
      → HasData v (length h) (record { did = a.did; place = cond (responds x) 0 (unwrap_or (transfer_of h) 0) })
  told_cases a zero e drdy g k = absurd (both_ways _ (is_transferring-none v (length h) e) g)
  told_cases a (suc i) e drdy g k =
      let size = m.size in
      let going : is_transferring_of v (length h) i ≡ true =
      sym (is_transferring-last v (length h) i (orderly_after t) e (omega arith)) ∙ g in
      let r = response_there v i (omega arith) in
      let parts = and_parts _ _ (sym (transferring_form v (length h) i r.0 r.1) ∙ going) in
      let count = place_cases (responds x) i r.0 refl e r.1 going in
      let l = k.kept i e in
      let live = subst (IsLive v i) (sym (same_Some _ _ l.1)) l.2 in
      record {
        number = i;
        request = live.request;
        is_request = live-request live;
        did = live-did live;
        clock = subst (λ c. data_clock_of v i c ≡ Some (length h)) count (data_clock-from v i _ (length h)
            (data_at_clock v i _ (length h) r.0 (ltb-true _ 4 parts.1) parts.0 r.1 (omega (arith, r.2)) (omega arith)
            (line_at-last DRDY h x ∙ drdy) refl));
      }

  -- the chunk is the next one of the request that responded last
  pub chunk_told : {a : LiveRequest} {place : ℕ} → has_line x DRDY ≡ true → is_transferring v (length h) ≡ true
      → KeepsLast (Some a) v → place ≡ cond (responds x) 0 (unwrap_or (transfer_of h) 0)
      → HasData v (length h) (record { did = a.did; place = place })
  chunk_told {a} drdy g k p = rw p (told_cases a (response_count v) refl drdy g k)
