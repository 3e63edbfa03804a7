-- The outstanding requests stand for the history with a sample more.
use Rattle.std.proofs.Common.{ℕ, zero, suc, ◌+◌, ◌-◌, ◌<◌, ◌≤◌, ◌≡◌, Bool, true, false, cond, not, Option}
use Rattle.std.proofs.Common.{Some, None, is_none, inl, inr, List, [], ◌∷◌, ◌++◌, length, take, refl, sym, ap, ◌∙◌}
use Rattle.std.proofs.Common.{arith}
use Rattle.std.proofs.Common.{subst}
use Rattle.std.specs.Option.{option_to_list}
use Rattle.std.specs.List.{filter_map}
use Rattle.std.proofs.lemmas.Bool.{and_left, and_parts, and_right, cases_Bool, cases_lt, false_from_ne_true, leb-true}
use Rattle.std.proofs.lemmas.List.{take_at, length-append}
use Rattle.fsb_count.specs.Options.{is_before}
use Rattle.fsb_count.proofs.Interface.{is_none-none}
use Rattle.fsb_signal.specs.declared.lines.TheConstants.Lines.{ADS}
use Rattle.fsb_signal.specs.declared.sample.Sample.{Sample}
use Rattle.fsb_signal.specs.Samples.{line_at, has_line}
use Rattle.fsb_encode.specs.declared.request.Request.{Request}
use Rattle.fsb_trace.specs.At.{Trace, line_back, request_at}
use Rattle.fsb_trace.specs.Requests.{is_live, live_number_of, is_reply, is_reply_kind}
use Rattle.fsb_trace.specs.Outcome.{is_deferred, response_clock_of}
use Rattle.fsb_trace.specs.Response.{end_of}
use Rattle.fsb_trace.specs.Flight.{last_clock_of}
use Rattle.fsb_trace.proofs.Interface.{is_reply-some, live_clock_of-number}
use Rattle.fsb_laws.specs.Orderly.{Orderly}
use Rattle.fsb_laws.proofs.Interface.{deferred_response, end_after_clock, ended_known, is_cancelled-late}
use Rattle.fsb_laws.proofs.Interface.{is_outstanding-end, last_clock_of-plain, one_more, request_at-last}
use Rattle.fsb_laws.proofs.Interface.{response_counted, response_there}
use Rattle.fsb_rules.specs.declared.outstanding.Open.{Open}
use Rattle.fsb_rules.specs.declared.outstanding.Happened.{Happened}
use Rattle.fsb_rules.specs.declared.outstanding.Outstanding.{Outstanding}
use Rattle.fsb_rules.specs.Live.{live_from}
use Rattle.fsb_rules.specs.declared.live.LiveRequest.{LiveRequest}
use Rattle.fsb_rules.specs.Outstanding.{open_from, kept_at, kept_below, open_of, plain_open, left_in}
use Rattle.fsb_rules.specs.Outstanding.{AreKept, Happens, Takes, OutstandingStands}
use Rattle.fsb_rules.proofs.OpenGoes.{kept_is, kept_if, not_kept, dead_not_kept, open_plain}
use Rattle.fsb_rules.proofs.OpenLists.{are_kept, below_last, left_below, undecoded_not_kept}
use Rattle.fsb_rules.proofs.StartRules.{back_is, begun-unlawful, begun_parts}
use Rattle.fsb_rules.proofs.QueueGoes.{new_back}

-- a request that is three clocks old at most is neither Deferred nor finished
response_within : (w : Trace) (i r : ℕ) → response_clock_of w i ≡ Some r → r < length w
response_within w i r e =
    let p = response_there w i (response_counted w i r e) in
    let f = p.1 in
    let same : p.0 ≡ r = cc in
    omega (arith, p.2)

not_finished : (w : Trace) (m : ℕ) → Orderly w → m < length w → length w ≤ m + 3 → is_live w m ≡ true
    → (is_deferred w (live_number_of w m) ≡ false)
    × (is_before (last_clock_of w (live_number_of w m)) (length w) ≡ false)
not_finished w m o l late t =
    let i : ℕ = live_number_of w m in
    let number = live_clock_of-number w m l t in
    let plain : is_deferred w i ≡ false = false_from_ne_true _ (λ d.
    let r = deferred_response w i d in
    let c = end_after_clock w i r.0 o r.2 in
    let a = c.1 in
    let same : c.0 ≡ m = cc in
    let within = response_within w i r.0 r.1 in
    omega (arith, c.2)) in (
      plain,
      ap (λ c. is_before c (length w)) (last_clock_of-plain w i plain)
          ∙ ended_known w m (end_of w i) o l t late refl,
    )

module _ {h : Trace} {x : Sample} {v : Trace} {w : Happened} (g : Happens h x v w) where
  -- what is kept of the request of the last clock of h
  pub none_opened : w.begun ≡ None → kept_at v (length h - 1) ≡ None
  unfolding is_live
  none_opened e =
      let size = g.more.size in
      elim (cases_lt 0 (length h)) [
        | inl some ↦
            elim (cases_Bool (line_at ADS v (length h - 1))) [
              | inl t ↦
                  undecoded_not_kept v (length h - 1) (is_none-none (request_at v (length h - 1))
                  (sym (begun-unlawful v (length h) (back_is v (length h) (length h - 1) (omega arith) ∙ t))
                  ∙ ap (λ o. is_none o) (sym g.begun ∙ e)))
              | inr f ↦ dead_not_kept v (length h - 1) (omega arith) (and_left _ _ f)
            ]
        | inr empty ↦ undecoded_not_kept v (length h - 1) (request_at-last v (length h - 1) (omega arith))
      ]

  open_cases : (m : ℕ) (r : Request) (t : Bool) → length h ≡ m + 1 → is_live v m ≡ true → request_at v m ≡ Some r
      → is_reply_kind r.kind ≡ t → kept_at v m ≡ cond t None (Some (plain_open m r.did))
  open_cases m r true e l q t =
      let size = g.more.size in
      not_kept v m (is_outstanding-end v m (omega arith)
      ∙ and_left _ _ (and_right _ _ (ap not (ap is_reply q ∙ is_reply-some r ∙ t))))
  open_cases m r false e l q t =
      let size = g.more.size in
      let f = not_finished v m g.after (omega arith) (omega arith) l in
      kept_is v m r (omega arith) l q (is_reply-some r ∙ t)
      ∙ ap (λ u. kept_if u (open_from v (live_number_of v m) m r)) f.1
      ∙ ap (λ o. Some o) (open_plain v (live_number_of v m) m r f.0)

  pub some_opened : (a : LiveRequest) → w.begun ≡ Some a
      → kept_at v (length h - 1) ≡ cond (is_reply_kind a.kind) None (Some (plain_open a.clock a.did))
  unfolding live_from is_live line_back
  some_opened a e =
      let size = g.more.size in
      let p = begun_parts v (length h) a (sym g.begun ∙ e) in
      let ads = and_parts _ _ p.1 in
      let some = leb-true 1 (length h) ads.0 in
      let live : is_live v (length h - 1) ≡ true =
      (rw (ads.1, is_cancelled-late v (length h - 1) (omega (arith, some))) refl) in
      rw p.3 (open_cases (length h - 1) p.0 (is_reply_kind p.0.kind) (omega (arith, some)) live p.2 refl)

  goes_cases : (n : ℕ) → length h ≡ n
      → kept_below v n ≡ filter_map (left_in v) (kept_below h n) ++ option_to_list (kept_at v (n - 1))
  unfolding kept_below
  goes_cases zero e =
      let size = g.more.size in
      ap option_to_list (sym (undecoded_not_kept v 0 (request_at-last v 0 (omega arith))))
  goes_cases (suc m) e =
      let back : suc m - 1 ≡ m = omega arith in
      rw back (ap (λ xs. xs ++ option_to_list (kept_at v m)) (left_below g.more g.orderly g.after m (omega arith)
      ∙ ap (filter_map (left_in v)) (sym (below_last h m (omega arith)))))

  -- with the sample, those that are left of them are outstanding, and the one that is begun
  pub open_goes : open_of v ≡ filter_map (left_in v) (open_of h) ++ option_to_list (kept_at v (length h - 1))
  open_goes =
      let size = g.more.size in
      let next : length v ≡ suc (length h) = omega arith in
      ap (kept_below v) next ∙ below_last v (length h) (omega arith) ∙ goes_cases (length h) refl

before_same : (h : Trace) (x : Sample) → take (length (h ++ x ∷ []) - 1) (h ++ x ∷ []) ≡ h
before_same h x = take_at h (x ∷ []) (length (h ++ x ∷ []) - 1) (let e = length-append h (x ∷ []) in omega arith)

module _ {kept : Outstanding} {h : Trace} {x : Sample} {w : Happened} (s : Takes kept h x w) where
  -- what the code leaves of those that are outstanding
  pub left_items : (old left : List Open) → old ≡ kept.current.items
      → (AreKept h old → left ≡ filter_map (left_in (h ++ x ∷ [])) old)
      → left ≡ filter_map (left_in (h ++ x ∷ [])) (open_of h)
  left_items old left same f =
      let is : old ≡ open_of h = same ∙ s.stands.current in
      f (subst (AreKept h) (sym is) (are_kept h (length h))) ∙ ap (filter_map (left_in (h ++ x ∷ []))) is

  goes_with : (left : List Open) (o : Option Open) → left ≡ filter_map (left_in (h ++ x ∷ [])) (open_of h)
      → o ≡ kept_at (h ++ x ∷ []) (length h - 1) → left ++ option_to_list o ≡ open_of (h ++ x ∷ [])
  goes_with left o e is =
      ap (λ xs. xs ++ option_to_list o) e
      ∙ ap (λ m. filter_map (left_in (h ++ x ∷ [])) (open_of h) ++ option_to_list m) is ∙ sym (open_goes s.happens)

  -- there is room for one that is begun
  pub room_left : (left : List Open) (o : Open) → left ≡ filter_map (left_in (h ++ x ∷ [])) (open_of h)
      → Some o ≡ kept_at (h ++ x ∷ []) (length h - 1) → length left < 16
  room_left left o e is =
      let all = ap length (goes_with left (Some o) e is) in
      let size = length-append left (o ∷ []) in
      let room = s.room in
      omega (arith, all, size, room)

  pub absorbed : (new : Outstanding) (left : List Open) (o : Option Open) (begins : Bool) → begins ≡ has_line x ADS
      → left ≡ filter_map (left_in (h ++ x ∷ [])) (open_of h) → o ≡ kept_at (h ++ x ∷ []) (length h - 1)
      → new.current.items ≡ left ++ option_to_list o
      → new.before.items ≡ cond begins kept.current.items kept.before.items → OutstandingStands new (h ++ x ∷ [])
  absorbed new left o begins asks e is current before =
      record {
        current = current ∙ goes_with left o e is;
        before = λ t.
            before
            ∙ ap (λ b. cond b kept.current.items kept.before.items)
            (asks ∙ sym (new_back h x (h ++ x ∷ []) (one_more h x)) ∙ t)
            ∙ s.stands.current ∙ ap open_of (sym (before_same h x));
      }

pub none_stand : (kept : Outstanding) → kept.current.items ≡ [] → OutstandingStands kept []
unfolding kept_below line_back
none_stand kept e = record { current = e; before = λ t. absurd (let no : ⊥ = cc in no) }
