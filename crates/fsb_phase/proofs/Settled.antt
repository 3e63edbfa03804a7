-- What a settled outcome says of its request: whether it takes, and what its response tells.
use Rattle.std.proofs.Common.{ℕ, ◌≤◌, ◌≡◌, Bool, true, false, ◌||◌, cond, nat_eq, nat_le, Option, Some, None, refl, sym}
use Rattle.std.proofs.Common.{ap, ◌∙◌, inl, inr, arith, subst}
use Rattle.std.specs.Option.{option_map}
use Rattle.std.proofs.lemmas.Bool.{cases_Bool, eqb-true, leb-true}
use Rattle.std.proofs.Math.Bool.{or-false, or-true}
use Rattle.fsb_count.specs.Options.{is_some_and}
use Rattle.fsb_signal.specs.declared.lines.TheConstants.Lines.{HITM}
use Rattle.fsb_signal.specs.Samples.{line_at}
use Rattle.fsb_encode.specs.declared.request.Kind.{Kind}
use Rattle.fsb_encode.specs.declared.request.Kind.TheVariants.{Reply, Invalidate, Read, WriteBack, Upgrade}
use Rattle.fsb_encode.specs.declared.request.Request.{Request}
use Rattle.fsb_trace.specs.declared.outcome.Outcome.{Outcome}
use Rattle.fsb_trace.specs.declared.outcome.Outcome.TheVariants.{Granted, Handed, Retried, Deferred, Written, Replied}
use Rattle.fsb_trace.specs.declared.outcome.Outcome.TheVariants.{Failed, Upgraded}
use Rattle.fsb_trace.specs.At.{Trace}
use Rattle.fsb_trace.specs.Requests.{live_request_of, is_write_back, is_write_back_kind}
use Rattle.fsb_trace.specs.Snoop.{snoop_end_of, line_at_snoop_end}
use Rattle.fsb_trace.specs.Outcome.{does_move, does_take, response_code_of, outcome_by_kind, told_by, told_with}
use Rattle.fsb_trace.specs.Outcome.{settled_by}
use Rattle.fsb_trace.specs.Response.{takes}
use Rattle.fsb_queue.specs.declared.entry.Entry.{Entry}
use Rattle.fsb_phase.specs.Due.{rank_of, is_moving}
use Rattle.fsb_phase.specs.Drive.{settled_code}
use Rattle.fsb_phase.proofs.Entries.{IsSettled}

-- the entry's outcome is settled, and with it memory takes data
abbrev pub is_taking : Entry → Bool
is_taking e = is_some_and e.outcome does_take

-- with a settled outcome memory takes exactly where the line is handed on, or it is a write-back
by_kind_takes : (request : Option Request) → does_take (outcome_by_kind request) ≡ is_write_back request
unfolding does_take outcome_by_kind is_write_back is_some_and is_write_back_kind
by_kind_takes None = refl
by_kind_takes (Some request) = kind_takes request.kind where
  kind_takes : (k : Kind)
      → does_take (elim k [
        | WriteBack ↦ Written
        | Upgrade ↦ Upgraded
        | Reply ↦ Replied
        | Read ↦ Granted
        | Invalidate ↦ Granted
      ]) ≡ is_write_back_kind k
  kind_takes Reply = refl
  kind_takes Invalidate = refl
  kind_takes Read = refl
  kind_takes WriteBack = refl
  kind_takes Upgrade = refl

late_turn : (turn : ℕ) (wb : Bool) → (wb ≡ true → turn ≡ 0) → 1 ≤ turn → false ≡ (wb || false)
late_turn turn true f l = absurd (let z : turn ≡ 0 = f refl in omega arith)
late_turn turn false f l = refl

settled_takes : (h : Trace) (turn i s : ℕ) (hitm : Bool) → line_at HITM h s ≡ hitm
    → (is_write_back (live_request_of h i) ≡ true → turn ≡ 0)
    → does_take (settled_by h turn i s) ≡ (is_write_back (live_request_of h i) || hitm)
unfolding settled_by does_take
settled_takes h turn i s true e f = rw e (sym (or-true (is_write_back (live_request_of h i))))
settled_takes h turn i s false e f =
    let wb : Bool = is_write_back (live_request_of h i) in
    elim (cases_Bool (nat_eq turn 1)) [
      | inl one ↦ rw (e, one) (late_turn turn wb f (let t = eqb-true turn 1 one in omega arith))
      | inr other ↦ elim (cases_Bool (nat_le 2 turn)) [
        | inl late ↦ rw (e, other, late) (late_turn turn wb f (let t = leb-true 2 turn late in omega arith))
        | inr kept ↦ rw (e, other, kept) (by_kind_takes (live_request_of h i) ∙ sym (or-false wb))
      ]
    ]

outcome_at : (h : Trace) (e : Entry) (turn i s : ℕ) → IsSettled h e turn → rank_of h e ≡ i
    → snoop_end_of h i ≡ Some s → e.outcome ≡ Some (settled_by h turn i s)
outcome_at h e turn i s k f g =
    k.outcome ∙ ap (λ j. option_map (settled_by h turn j) (snoop_end_of h j)) f
    ∙ ap (option_map (settled_by h turn i)) g

pub taking-is : (h : Trace) (e : Entry) (turn i s : ℕ) → IsSettled h e turn → rank_of h e ≡ i
    → snoop_end_of h i ≡ Some s → is_taking e ≡ takes h i
unfolding is_some_and takes line_at_snoop_end
taking-is h e turn i s k f g =
    let kept : is_write_back (live_request_of h i) ≡ true
    → turn ≡ 0 = subst (λ j. is_write_back (live_request_of h j) ≡ true → turn ≡ 0) f k.kept in
    rw (outcome_at h e turn i s k f g, g) (settled_takes h turn i s (line_at HITM h s) refl kept)

-- the response with a settled outcome's code tells that outcome
by_kind_told : (request : Option Request)
    → told_with false request (response_code_of (outcome_by_kind request)) ≡ outcome_by_kind request
unfolding outcome_by_kind response_code_of
by_kind_told None = refl
by_kind_told (Some request) = kind_told request.kind where
  kind_told : (k : Kind)
      → (let o : Outcome = elim k as (λ z. Outcome) [
        | WriteBack ↦ Written
        | Upgrade ↦ Upgraded
        | Reply ↦ Replied
        | Read ↦ Granted
        | Invalidate ↦ Granted
      ] in
      cond (nat_eq (response_code_of o) 4) Failed
      (cond false Handed (cond (nat_eq (response_code_of o) 1) Retried
      (cond (nat_eq (response_code_of o) 2) Deferred o))) ≡ o)
  kind_told Reply = refl
  kind_told Invalidate = refl
  kind_told Read = refl
  kind_told WriteBack = refl
  kind_told Upgrade = refl

told_settled : (h : Trace) (turn i s : ℕ) (hitm : Bool) → line_at HITM h s ≡ hitm → snoop_end_of h i ≡ Some s
    → told_by h i (response_code_of (settled_by h turn i s)) ≡ settled_by h turn i s
unfolding settled_by told_by line_at_snoop_end is_some_and response_code_of
told_settled h turn i s true e g = rw (g, e) refl
told_settled h turn i s false e g =
    elim (cases_Bool (nat_eq turn 1)) [
      | inl one ↦ rw (g, e, one) refl
      | inr other ↦ elim (cases_Bool (nat_le 2 turn)) [
        | inl late ↦ rw (g, e, other, late) refl
        | inr kept ↦ rw (g, e, other, kept) (by_kind_told (live_request_of h i))
      ]
    ]

code_is : (e : Entry) (o : Outcome) → e.outcome ≡ Some o → settled_code e ≡ response_code_of o
unfolding settled_code
code_is e o f = rw f refl

moving_is : (e : Entry) (o : Outcome) → e.outcome ≡ Some o → is_moving e ≡ does_move o
unfolding is_some_and
moving_is e o f = rw f refl

pub told-is : (h : Trace) (e : Entry) (turn i s code : ℕ) → IsSettled h e turn → rank_of h e ≡ i
    → snoop_end_of h i ≡ Some s → code ≡ settled_code e → does_move (told_by h i code) ≡ is_moving e
told-is h e turn i s code k f g c =
    let o : Outcome = settled_by h turn i s in
    ap (λ n. does_move (told_by h i n)) (c ∙ code_is e o (outcome_at h e turn i s k f g))
    ∙ ap does_move (told_settled h turn i s (line_at HITM h s) refl g)
    ∙ sym (moving_is e o (outcome_at h e turn i s k f g))
