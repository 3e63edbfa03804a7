-- What a sample leaves of an outstanding request that is kept.
use Rattle.std.proofs.Common.{ℕ, ◌+◌, ◌-◌, ◌<◌, ◌≡◌, Bool, true, false, cond, not, ◌&&◌, ◌||◌, nat_eq, nat_le, Option}
use Rattle.std.proofs.Common.{Some, None, is_some, length, refl, sym, ap, ◌∙◌, arith, inl, inr}
use Rattle.std.specs.Option.{option_map, option_and_then}
use Rattle.std.proofs.lemmas.Bool.{cases_Bool, cases_lt, and_from, and_left, and_parts, and_right, both_ways}
use Rattle.std.proofs.lemmas.Bool.{false_from_ne_true, le-leb, not-true}
use Rattle.std.proofs.lemmas.Option.{same_Some}
use Rattle.fsb_count.specs.Options.{is_some_and, is_before, is_at}
use Rattle.fsb_count.proofs.Interface.{is_at-from, is_at-off, is_before-none, nat_eq-sym, nth_where-found}
use Rattle.fsb_signal.specs.declared.lines.TheConstants.Lines.{ADS}
use Rattle.fsb_signal.specs.declared.sample.Sample.{Sample}
use Rattle.fsb_signal.specs.Samples.{line_at}
use Rattle.fsb_encode.specs.declared.request.Request.{Request}
use Rattle.fsb_trace.specs.At.{Trace, line_back, request_at}
use Rattle.fsb_trace.specs.Requests.{is_cancelled, is_live, live_number_of, live_request_of, is_reply, is_reply_kind}
use Rattle.fsb_trace.specs.Requests.{have_same_id, live_clock_of}
use Rattle.fsb_trace.specs.Outcome.{response_clock_of, is_deferred}
use Rattle.fsb_trace.specs.Response.{end_of}
use Rattle.fsb_trace.specs.Flight.{is_reply_to, is_live_reply_to, reply_clock_of, last_clock_of, is_outstanding}
use Rattle.fsb_trace.proofs.Interface.{live_clock_of-number, live_request_of-at}
use Rattle.fsb_laws.specs.Progress.{response_count}
use Rattle.fsb_laws.specs.Leaving.{ends_at}
use Rattle.fsb_laws.specs.OneMore.{OneMore, cancels}
use Rattle.fsb_laws.specs.Orderly.{Orderly}
use Rattle.fsb_laws.proofs.Interface.{deferred_response, end_past, ends_by, finished-deferred, finished-plain}
use Rattle.fsb_laws.proofs.Interface.{is_cancelled-late, is_deferred-old, is_live-ads, is_live-more, is_outstanding-end}
use Rattle.fsb_laws.proofs.Interface.{last_clock_of-plain, live_number_of-more, live_request_of-old}
use Rattle.fsb_laws.proofs.Interface.{newly_deferred, reply_clock_of-more, request_at-last, request_at-old}
use Rattle.fsb_laws.proofs.Interface.{response_clock_of-old, response_counted}
use Rattle.fsb_rules.specs.declared.live.LiveRequest.{LiveRequest}
use Rattle.fsb_rules.specs.declared.outstanding.Open.{Open}
use Rattle.fsb_rules.specs.declared.outstanding.Happened.{Happened}
use Rattle.fsb_rules.specs.Live.{live_from}
use Rattle.fsb_rules.specs.LeastRule.{begun_at}
use Rattle.fsb_rules.specs.Outstanding.{open_from, open_at, kept_at, plain_open, left_in}
use Rattle.fsb_rules.specs.Outstanding.{Happens}

-- the clock of a live request
pub clock_number : (w : Trace) (i p : ℕ) → live_clock_of w i ≡ Some p
    → (p < length w) × (is_live w p ≡ true) × (live_number_of w p ≡ i)
unfolding live_clock_of live_number_of
clock_number w i p e = nth_where-found (is_live w) i (length w) p e

-- a request that is not finished, as it is kept
abbrev pub kept_if : Bool → Open → Option Open
kept_if finished o = cond finished None (Some o)

abbrev finished : Trace → ℕ → Bool
finished w i = is_before (last_clock_of w i) (length w)

not_finished : (f : Bool) (o : Open) → cond ((true && not false) && not f) (Some o) None ≡ kept_if f o
not_finished true o = refl
not_finished false o = refl

pub kept_is : (w : Trace) (p : ℕ) (r : Request) → p < length w → is_live w p ≡ true → request_at w p ≡ Some r
    → is_reply (Some r) ≡ false
    → kept_at w p ≡ kept_if (finished w (live_number_of w p)) (open_from w (live_number_of w p) p r)
unfolding kept_at open_at
kept_is w p r l t e f =
    rw (is_outstanding-end w p l, t, e, f)
    (not_finished (finished w (live_number_of w p)) (open_from w (live_number_of w p) p r))

pub kept_some : (w : Trace) (p : ℕ) (r : Request) → is_outstanding w (length w) p ≡ true → request_at w p ≡ Some r
    → kept_at w p ≡ Some (open_from w (live_number_of w p) p r)
unfolding kept_at open_at
kept_some w p r t e = rw (t, e) refl

-- a request that is not outstanding is not kept
pub not_kept : (w : Trace) (p : ℕ) → is_outstanding w (length w) p ≡ false → kept_at w p ≡ None
unfolding kept_at
not_kept w p f = rw f refl

pub dead_not_kept : (w : Trace) (p : ℕ) → p < length w → is_live w p ≡ false → kept_at w p ≡ None
dead_not_kept w p l f = not_kept w p (is_outstanding-end w p l ∙ and_left _ _ (and_left _ _ f))

-- a request that is kept, with this reply
abbrev pub with_reply : Open → Option ℕ → Open
with_reply o reply = record { clock = o.clock; did = o.did; deferred = o.deferred; reply = reply }

-- a request as it is kept, where it is not Deferred, and where it is
pub open_plain : (w : Trace) (i p : ℕ) (r : Request) → is_deferred w i ≡ false → open_from w i p r ≡ plain_open p r.did
unfolding open_from
open_plain w i p r f = rw f refl

abbrev pub deferred_open : Trace → ℕ → ℕ → Request → Open
deferred_open w i p r = record { clock = p; did = r.did; deferred = response_clock_of w i; reply = reply_clock_of w i }

pub open_deferred : (w : Trace) (i p : ℕ) (r : Request) → is_deferred w i ≡ true
    → open_from w i p r ≡ deferred_open w i p r
unfolding open_from
open_deferred w i p r t = rw t refl

-- what is known of a request that is kept
pub record IsOpen (w : Trace) (p : ℕ) (o : Open) : Type 0 where
  pub request : Request
  pub early : p + 1 < length w
  pub outstanding : is_outstanding w (length w) p ≡ true
  pub live : is_live w p ≡ true
  pub decoded : request_at w p ≡ Some request
  pub no_reply : is_reply (Some request) ≡ false
  pub unfinished : is_before (last_clock_of w (live_number_of w p)) (length w) ≡ false
  pub same : o ≡ open_from w (live_number_of w p) p request
  pub clock : o.clock ≡ p
  pub did : o.did ≡ request.did

if_some : {A : Type 0} (b : Bool) (m : Option A) (a : A) → cond b m None ≡ Some a → (b ≡ true) × (m ≡ Some a)
if_some true m a e = (refl, e)
if_some false m a e = absurd (let no : ⊥ = cc in no)

mapped : {A B : Type 0} (f : A → B) (m : Option A) (b : B) → option_map f m ≡ Some b
    → (a : A) × (m ≡ Some a) × (b ≡ f a)
mapped f None b e = absurd (let no : ⊥ = cc in no)
mapped f (Some a) b e = (a, refl, sym (same_Some (f a) b e))

pub is_open : (w : Trace) (p : ℕ) (o : Open) → kept_at w p ≡ Some o → IsOpen w p o
unfolding kept_at open_at open_from
is_open w p o e =
    let a = if_some (is_outstanding w (length w) p) (option_map (open_from w (live_number_of w p) p) (request_at w p))
    o e in
    let b = mapped (open_from w (live_number_of w p) p) (request_at w p) o a.1 in
    let early : p + 1 < length w = elim (cases_lt (p + 1) (length w)) [
      | inl l ↦ l
      | inr l ↦ absurd (let none = request_at-last w p l in let some = b.1 in let no : ⊥ = cc in no)
    ] in
    let parts = and_parts _ _ (sym (is_outstanding-end w p (omega arith)) ∙ a.0) in
    let live = and_parts _ _ parts.0 in
    record {
      request = b.0;
      early = early;
      outstanding = a.0;
      live = live.0;
      decoded = b.1;
      no_reply = sym (ap is_reply b.1) ∙ not-true _ live.1;
      unfinished = not-true _ parts.1;
      same = b.2;
      clock = ap (λ q. q.clock) b.2;
      did = ap (λ q. q.did) b.2;
    }

-- whether it is Deferred
pub deferral : (w : Trace) (p : ℕ) (o : Open) → IsOpen w p o → is_some o.deferred ≡ is_deferred w (live_number_of w p)
deferral w p o k =
    let i : ℕ = live_number_of w p in
    elim (cases_Bool (is_deferred w i)) [
      | inl t ↦
          ap (λ q. is_some q.deferred) (k.same ∙ open_deferred w i p k.request t)
          ∙ ap (λ c. is_some c) (deferred_response w i t).1 ∙ sym t
      | inr f ↦ ap (λ q. is_some q.deferred) (k.same ∙ open_plain w i p k.request f) ∙ sym f
    ]

-- whether a reply begins at the last clock
reply_form : (ads canc reply same before : Bool) → ads ≡ true → canc ≡ false
    → ((ads && not canc) && (((ads && reply) && same) && before)) ≡ ((reply && before) && same)
reply_form ads canc reply same before e f = rw (e, f) (grind arith)

module _ {h : Trace} {x : Sample} {v : Trace} (more : OneMore h x v) (orderly : Orderly h)
    (after : Orderly v) where
  -- one that is finished stays so
  finished_stays : (i : ℕ) → finished h i ≡ true → finished v i ≡ true
  finished_stays i e =
      elim (cases_Bool (is_deferred h i)) [
        | inl t ↦
            finished-deferred h x v i more orderly after t
            ∙ ap (λ b. b || ends_by v (length h) (reply_clock_of h i)) e
        | inr f ↦
            elim (cases_Bool (is_deferred v i)) [
              | inl d ↦
                  let n = newly_deferred h x v i more orderly f d in
                  let none = end_past h i (omega (arith, n.number)) in
                  absurd (both_ways _ (ap (λ c. is_before c (length h)) (last_clock_of-plain h i f ∙ none)
                  ∙ is_before-none (length h)) e)
              | inr d ↦
                  finished-plain h x v i more orderly f d ∙ ap (λ b. b || is_at (end_of v i) (length h)) e
            ]
      ]

  -- what is outstanding was so before
  pub was_outstanding : (p : ℕ) → p + 1 < length h → is_outstanding v (length v) p ≡ true
      → is_outstanding h (length h) p ≡ true
  was_outstanding p l t =
      let size = more.size in
      let parts = and_parts _ _ (sym (is_outstanding-end v p (omega arith)) ∙ t) in
      let live = and_parts _ _ parts.0 in
      let before = and_parts _ _ (sym (is_live-more h x v p more (omega arith)) ∙ live.0) in
      let other : not (is_reply (request_at h p)) ≡ true =
      ap (λ r. not (is_reply r)) (sym (request_at-old h x v p more l)) ∙ live.1 in
      let number = live_number_of-more h x v p more orderly.spaced (omega arith) (is_live-ads h p before.0) in
      let unfinished : finished h (live_number_of h p) ≡ false = false_from_ne_true _ (λ e.
      both_ways _ (ap (finished v) number ∙ not-true _ parts.1) (finished_stays (live_number_of h p) e)) in
      is_outstanding-end h p (omega arith) ∙ and_from _ _ (and_from _ _ before.0 other) (ap not unfinished)

  -- and what is not kept is not kept later
  none_stays : (p : ℕ) → p + 1 < length h → kept_at h p ≡ None → (m : Option Open) → kept_at v p ≡ m
      → kept_at v p ≡ None
  none_stays p l e None f = f
  none_stays p l e (Some o) f =
      let k = is_open v p o f in
      let some = kept_some h p k.request (was_outstanding p l k.outstanding)
      (sym (request_at-old h x v p more l) ∙ k.decoded) in
      absurd (let no : ⊥ = cc in no)

  step_cases : (p : ℕ) (m : Option Open) → p + 1 < length h → kept_at h p ≡ m
      → kept_at v p ≡ option_and_then (left_in v) m
  step_cases p None l e = none_stays p l e (kept_at v p) refl
  step_cases p (Some o) l e = ap (kept_at v) (sym (is_open h p o e).clock)

  -- what is kept of a request is left of what was kept
  pub kept_step : (p : ℕ) → p + 1 < length h → kept_at v p ≡ option_and_then (left_in v) (kept_at h p)
  kept_step p l = step_cases p (kept_at h p) l refl

module _ {h : Trace} {x : Sample} {v : Trace} {w : Happened} (g : Happens h x v w) where
  module _ {o : Open} (k : kept_at h o.clock ≡ Some o) where
    abbrev is : IsOpen h o.clock o
    is = is_open h o.clock o k

    abbrev number : ℕ
    number = live_number_of h o.clock

    early : o.clock < length h
    early = let e = is.early in omega arith

    below : o.clock < length v
    below = let e = is.early in let size = g.more.size in omega arith

    number_same : number ≡ live_number_of v o.clock
    number_same = live_number_of-more h x v o.clock g.more g.orderly.spaced early (is_live-ads h o.clock is.live)

    -- one that is cancelled
    pub cancelled_left : cancels x (length h) o.clock ≡ true → left_in v o ≡ None
    cancelled_left c =
        dead_not_kept v o.clock below (is_live-more h x v o.clock g.more early ∙ and_right _ _ (ap not c))

    module _ (s : cancels x (length h) o.clock ≡ false) where
      live_still : is_live v o.clock ≡ true
      live_still = is_live-more h x v o.clock g.more early ∙ (rw (is.live, s) refl)

      left_is : left_in v o ≡ kept_if (finished v number) (open_from v number o.clock is.request)
      left_is =
          kept_is v o.clock is.request below live_still
          (request_at-old h x v o.clock g.more is.early ∙ is.decoded) is.no_reply
          ∙ ap (λ i. kept_if (finished v i) (open_from v i o.clock is.request)) (sym number_same)

      end_is : is_at (end_of v number) (length h) ≡ ends_at v (length h) o.clock
      unfolding ends_at
      end_is = rw (live_still, number_same) refl

      -- one that was not Deferred
      abbrev now_deferred : Open
      now_deferred = record { clock = o.clock; did = o.did; deferred = Some (length h); reply = None }

      plain_cases : (d : Bool) → is_some o.deferred ≡ false → is_deferred v number ≡ d
          → left_in v o ≡ cond (ends_at v (length h) o.clock) (cond d (Some now_deferred) None) (Some o)
      unfolding open_from
      plain_cases false n d =
          let f : is_deferred h number ≡ false = sym (deferral h o.clock o is) ∙ n in
          left_is
          ∙ ap (λ t. kept_if t (open_from v number o.clock is.request))
          (finished-plain h x v number g.more g.orderly f d
          ∙ ap (λ t. t || is_at (end_of v number) (length h)) is.unfinished ∙ end_is)
          ∙ ap (kept_if (ends_at v (length h) o.clock)) (open_plain v number o.clock is.request d
          ∙ sym (is.same ∙ open_plain h number o.clock is.request f))
      plain_cases true n d =
          let f : is_deferred h number ≡ false = sym (deferral h o.clock o is) ∙ n in
          let new = newly_deferred h x v number g.more g.orderly f d in
          let ends : ends_at v (length h) o.clock ≡ true =
          sym end_is ∙ is_at-from (end_of v number) (length h) new.end in
          let form : open_from v number o.clock is.request ≡ now_deferred =
          (rw (d, new.response, new.reply) refl)
          ∙ ap (λ i. record { clock = o.clock; did = i; deferred = Some (length h); reply = None }) (sym is.did) in
          left_is ∙ ap (λ t. kept_if t (open_from v number o.clock is.request)) new.unfinished ∙ ap (λ q. Some q) form
          ∙ sym (ap (λ t. cond t (Some now_deferred) (Some o)) ends)

      pub plain_left : is_some o.deferred ≡ false
          → left_in v o ≡ cond (ends_at v (length h) o.clock)
          (cond (is_deferred v (live_number_of v o.clock)) (Some now_deferred) None) (Some o)
      plain_left n = rw (sym number_same) (plain_cases (is_deferred v number) n refl)

    -- one that was Deferred
    module _ (t : is_some o.deferred ≡ true) where
      was_deferred : is_deferred h number ≡ true
      was_deferred = sym (deferral h o.clock o is) ∙ t

      answered : number < response_count h
      answered = let c = deferred_response h number was_deferred in response_counted h number c.0 c.1

      form : o ≡ deferred_open h number o.clock is.request
      form = is.same ∙ open_deferred h number o.clock is.request was_deferred

      response : response_clock_of v number ≡ o.deferred
      response = response_clock_of-old h x v number g.more answered ∙ sym (ap (λ q. q.deferred) form)

      pub deferred_left : cancels x (length h) o.clock ≡ false
          → left_in v o
          ≡ kept_if (is_some_and o.reply (ends_at v (length h))) (with_reply o (reply_clock_of v number))
      deferred_left s =
          left_is s
          ∙ ap (λ b. kept_if b (open_from v number o.clock is.request))
          (finished-deferred h x v number g.more g.orderly g.after was_deferred
          ∙ ap (λ b. b || ends_by v (length h) (reply_clock_of h number)) is.unfinished
          ∙ ap (ends_by v (length h)) (sym (ap (λ q. q.reply) form)))
          ∙ ap (kept_if (is_some_and o.reply (ends_at v (length h))))
          (open_deferred v number o.clock is.request
          (is_deferred-old h x v number g.more g.orderly answered ∙ was_deferred)
          ∙ ap (λ c. record { clock = o.clock; did = is.request.did; deferred = c; reply = reply_clock_of v number })
          response
          ∙ ap (λ d. record { clock = o.clock; did = d; deferred = o.deferred; reply = reply_clock_of v number })
          (sym is.did))

      -- its reply
      own_request : live_request_of v number ≡ Some is.request
      own_request = live_request_of-old h x v number g.more g.orderly answered
          ∙ live_request_of-at h number o.clock is.request (live_clock_of-number h o.clock early is.live) is.decoded

      pub reply_is : (old : Option ℕ) → o.reply ≡ old → reply_clock_of v number ≡ elim old [
        | Some q ↦ cond (cancels x (length h) q) None (Some q)
        | None ↦ cond (is_live_reply_to v number (length h - 1)) (Some (length h - 1)) None
      ]
      reply_is old e =
          let early = is.early in
          let was : reply_clock_of h number ≡ old = sym (ap (λ a. a.reply) form) ∙ e in
          let more = reply_clock_of-more h x v number g.more g.orderly answered (omega arith) in
          (let m = rw was at more in m)

      replied_cases : (b : Bool) (m : Option Request) → line_at ADS v (length h - 1) ≡ b
          → request_at v (length h - 1) ≡ m
          → is_live_reply_to v number (length h - 1)
          ≡ is_some_and (cond b (option_map (live_from (length h - 1)) m) None)
          (λ a. is_reply_kind a.kind && is_before o.deferred a.clock && nat_eq o.did a.did)
      unfolding is_live_reply_to is_live is_reply_to is_reply have_same_id is_some_and live_from
      replied_cases false m f e = rw f refl
      replied_cases true None f e = rw (f, e) (grind arith)
      replied_cases true (Some q) f e =
          let early = is.early in
          let size = g.more.size in
          let same : nat_eq q.did is.request.did ≡ nat_eq o.did q.did =
          nat_eq-sym q.did is.request.did ∙ ap (λ i. nat_eq i q.did) (sym is.did) in
          rw (e, own_request, response, same)
          (reply_form (line_at ADS v (length h - 1)) (is_cancelled v (length h - 1)) (is_reply_kind q.kind)
          (nat_eq o.did q.did) (is_before o.deferred (length h - 1)) f
          (is_cancelled-late v (length h - 1) (omega arith)))

      pub replied_is : is_live_reply_to v number (length h - 1)
          ≡ is_some_and w.begun (λ a. is_reply_kind a.kind && is_before o.deferred a.clock && nat_eq o.did a.did)
      unfolding begun_at line_back
      replied_is =
          let early = is.early in
          replied_cases (nat_le 1 (length h) && line_at ADS v (length h - 1)) (request_at v (length h - 1))
          (sym (rw (le-leb 1 (length h) (omega arith)) refl)) refl
          ∙ ap (λ m. is_some_and m (λ a. is_reply_kind a.kind && is_before o.deferred a.clock && nat_eq o.did a.did))
          (sym g.begun)

    -- where nothing is cancelled or ends and no reply is begun, it stays
    module _ (cancelled : w.cancelled ≡ None) (ended : w.ended ≡ None)
        (begun : is_some_and w.begun (λ a. is_reply_kind a.kind) ≡ false) where
      none_is : (q : ℕ) → cancels x (length h) q ≡ false
      none_is q = sym (g.cancelled q) ∙ is_at-off w.cancelled q cancelled

      no_end : (q : ℕ) → ends_at v (length h) q ≡ false
      unfolding is_some_and
      no_end q = sym (g.ended q) ∙ (rw ended refl)

      no_reply_end : (old : Option ℕ) → is_some_and old (ends_at v (length h)) ≡ false
      unfolding is_some_and
      no_reply_end None = refl
      no_reply_end (Some q) = no_end q

      no_reply_begun : (b : Option LiveRequest) → is_some_and b (λ a. is_reply_kind a.kind) ≡ false
          → is_some_and b (λ a. is_reply_kind a.kind && is_before o.deferred a.clock && nat_eq o.did a.did) ≡ false
      unfolding is_some_and
      no_reply_begun None f = refl
      no_reply_begun (Some a) f = let other : is_reply_kind a.kind ≡ false = f in rw other refl

      reply_stays : (t : is_some o.deferred ≡ true) (old : Option ℕ) → o.reply ≡ old
          → reply_clock_of v number ≡ old
      reply_stays t (Some q) e = reply_is t (Some q) e ∙ ap (λ b. cond b None (Some q)) (none_is q)
      reply_stays t None e =
          reply_is t None e ∙ ap (λ b. cond b (Some (length h - 1)) None)
          (replied_is t ∙ no_reply_begun w.begun begun)

      pub quiet_left : left_in v o ≡ Some o
      quiet_left =
          elim (cases_Bool (is_some o.deferred)) [
            | inl t ↦
                deferred_left t (none_is o.clock)
                ∙ ap (λ b. kept_if b (with_reply o (reply_clock_of v number))) (no_reply_end o.reply)
                ∙ ap (λ q. Some (with_reply o q)) (reply_stays t o.reply refl)
            | inr n ↦ plain_left (none_is o.clock) n ∙ (rw (no_end o.clock) refl)
          ]
