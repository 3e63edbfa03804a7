-- What a judge of parts stands for after one more event.
use Rattle.std.proofs.Common.{◌≡◌, ◌∙◌, ℕ, ◌-◌, ◌++◌, ◌∷◌, [], List, Some, None, Result, Ok, Err, OnOk, length, drop, refl, sym, ap, subst, arith, append_assoc, append-nil}
use Rattle.std.proofs.lemmas.List.{length-append, length-drop, take-append-drop}
use Rattle.fsb_signal.specs.declared.marks.Marks.{Marks}
use Rattle.vcd_way.specs.Events.{DumpEvent}
use Rattle.scope_check.specs.declared.finding.Judged.{Judged}
use Rattle.scope_check.specs.declared.part.Part.{Part}
use Rattle.scope_check.specs.Findings.{IsFoundIn}
use Rattle.scope_check.specs.Standing.{Stands as JudgingStands}
use Rattle.scope_parts.specs.declared.finding.End.{End}
use Rattle.scope_parts.specs.declared.finding.End.TheVariants as ends
use Rattle.scope_parts.specs.declared.judge.PartsJudge.{PartsJudge}
use Rattle.scope_parts.specs.declared.plan.Plan.{Plan}
use Rattle.scope_parts.specs.Plans.{later_part}
use Rattle.scope_parts.specs.Segments.{Segment, all_of, clocks_in, events_in, faults_in, next_part}
use Rattle.scope_parts.specs.Endings.{ending}
use Rattle.scope_parts.specs.Findings.{EachBehind, GoesOn, IsOver, reply_clocks}
use Rattle.scope_parts.specs.Standing.{Counted, Remembers, Stands, Tallies, but_last, kept_at}
use Rattle.scope_parts.proofs.Endings.{reply_behind_one}
use Rattle.scope_parts.proofs.Lists.{each_more}
use Rattle.scope_parts.proofs.Sums.{events_in-snoc}

-- ---- the segment goes on

pub stands_on : (j k : PartsJudge) (p : Plan) (m : Marks) (es : List DumpEvent) (e : DumpEvent) (s : Stands j p m es)
    → k.plan ≡ j.plan → k.marks ≡ j.marks → k.tally ≡ j.tally → Counted k.counts (es ++ e ∷ [])
    → JudgingStands k.judging (next_part p s.segments) m (s.open_events ++ e ∷ [])
    → Remembers k.latest (next_part p s.segments) m (s.open_events ++ e ∷ [])
    → (f : Judged) → IsFoundIn f (next_part p s.segments) m (s.open_events ++ e ∷ [])
    → ending p (length (faults_in s.segments)) f e ≡ None
    → Stands k p m (es ++ e ∷ [])
stands_on j k p m es e s plan marks tally counted judging latest f found goes = record {
  segments = s.segments;
  open_events = s.open_events ++ e ∷ [];
  planned = plan ∙ s.planned;
  marked = marks ∙ s.marked;
  whole = ap (λ xs. xs ++ e ∷ []) s.whole ∙ append_assoc (events_in s.segments) s.open_events (e ∷ []);
  over = s.over;
  unended = each_more (GoesOn p m s.segments) s.open_events e s.unended
      (record { found = f; is_found = found; goes_on = goes });
  judging = judging;
  latest = latest;
  tallied = subst (λ t. Tallies t s.segments) (sym tally) s.tallied;
  counted = counted;
}

-- what the judge asks is what the definition says
pub ending_is : (j : PartsJudge) (p : Plan) (m : Marks) (es : List DumpEvent) (s : Stands j p m es) (f : Judged)
    (e : DumpEvent) → ending j.plan j.tally.kept.broken f e
    ≡ ending p (length (faults_in s.segments)) f e
ending_is j p m es s f e =
    ap (λ (q : Plan). ending q j.tally.kept.broken f e) s.planned
    ∙ ap (λ (n : ℕ). ending p n f e) s.tallied.kept.broken

-- ---- it ends

-- what is judged of it, and the clocks of a reply
abbrev pub events_at : End → List DumpEvent → DumpEvent → List DumpEvent
events_at ends.Dump open_events e = open_events ++ e ∷ []
events_at ends.Hole open_events e = open_events ++ e ∷ []
events_at ends.Broken open_events e = open_events ++ e ∷ []
events_at ends.Reply open_events e = but_last open_events

abbrev pub reply_at : End → List DumpEvent → DumpEvent → List DumpEvent
reply_at ends.Dump open_events e = []
reply_at ends.Hole open_events e = []
reply_at ends.Broken open_events e = []
reply_at ends.Reply open_events e = drop (length open_events - 1) open_events ++ e ∷ []

abbrev pub segment_at : End → List DumpEvent → DumpEvent → Judged → Judged → Segment
segment_at end open_events e found before = record {
  events = events_at end open_events e;
  reply = reply_at end open_events e;
  found = kept_at end found before;
  end = end;
}

pub all_at : (end : End) (xs : List DumpEvent) (e : DumpEvent) (f b : Judged)
    → all_of (segment_at end xs e f b) ≡ xs ++ e ∷ []
all_at ends.Dump xs e f b = append-nil (xs ++ e ∷ [])
all_at ends.Hole xs e f b = append-nil (xs ++ e ∷ [])
all_at ends.Broken xs e f b = append-nil (xs ++ e ∷ [])
all_at ends.Reply xs e f b =
    sym (append_assoc (but_last xs) (drop (length xs - 1) xs) (e ∷ []))
    ∙ ap (λ ys. ys ++ e ∷ []) (take-append-drop (length xs - 1) xs)

found_at : (end : End) (xs : List DumpEvent) (e : DumpEvent) (f b : Judged) (p : Part) (m : Marks)
    → IsFoundIn f p m (xs ++ e ∷ []) → IsFoundIn b p m (but_last xs)
    → IsFoundIn (kept_at end f b) p m (events_at end xs e)
found_at ends.Dump xs e f b p m up_to before = up_to
found_at ends.Hole xs e f b p m up_to before = up_to
found_at ends.Broken xs e f b p m up_to before = up_to
found_at ends.Reply xs e f b p m up_to before = before

reply_size : (end : End) (p : Plan) (n : ℕ) (f : Judged) (part : Part) (m : Marks) (xs : List DumpEvent) (e : DumpEvent)
    → IsFoundIn f part m (xs ++ e ∷ []) → ending p n f e ≡ Some end → length (reply_at end xs e) ≡ reply_clocks end
reply_size ends.Dump p n f part m xs e found h = refl
reply_size ends.Hole p n f part m xs e found h = refl
reply_size ends.Broken p n f part m xs e found h = refl
reply_size ends.Reply p n f part m xs e found h =
    let some = reply_behind_one p n f part m xs e found h in
    omega (arith, some, length-append (drop (length xs - 1) xs) (e ∷ []), length-drop (length xs - 1) xs)

pub is_over : (end : End) (p : Plan) (m : Marks) (ss : List Segment) (xs : List DumpEvent) (e : DumpEvent) (f b : Judged)
    → EachBehind (GoesOn p m ss) xs → IsFoundIn f (next_part p ss) m (xs ++ e ∷ [])
    → IsFoundIn b (next_part p ss) m (but_last xs)
    → ending p (length (faults_in ss)) f e ≡ Some end
    → IsOver p m ss (segment_at end xs e f b)
is_over end p m ss xs e f b unended up_to before ends_so = record {
  es = xs;
  e = e;
  up_to = f;
  whole = all_at end xs e f b;
  unended = unended;
  is_up_to = subst (λ ys. IsFoundIn f (next_part p ss) m ys) (sym (all_at end xs e f b)) up_to;
  ends = ends_so;
  reply = reply_size end p (length (faults_in ss)) f (next_part p ss) m xs e up_to ends_so;
  found = found_at end xs e f b (next_part p ss) m up_to before;
}

-- what is judged next
next-snoc : (p : Plan) (ss : List Segment) (s : Segment) → next_part p (ss ++ s ∷ []) ≡ later_part p (clocks_in (ss ++ s ∷ []))
next-snoc p [] s = refl
next-snoc p (x ∷ ss) s = refl

pub stands_behind : (j k : PartsJudge) (p : Plan) (m : Marks) (es : List DumpEvent) (e : DumpEvent) (s : Stands j p m es)
    → (x : Segment) → all_of x ≡ s.open_events ++ e ∷ [] → IsOver p m s.segments x
    → k.plan ≡ j.plan → k.marks ≡ j.marks → Counted k.counts (es ++ e ∷ []) → Tallies k.tally (s.segments ++ x ∷ [])
    → JudgingStands k.judging (later_part j.plan k.tally.clocks) j.marks []
    → Remembers k.latest (later_part j.plan k.tally.clocks) j.marks []
    → Stands k p m (es ++ e ∷ [])
stands_behind j k p m es e s x all over plan marks counted tallied judging latest =
    let ss = s.segments ++ x ∷ [] in
    let next : later_part j.plan k.tally.clocks ≡ next_part p ss =
    ap (λ (q : Plan). later_part q k.tally.clocks) s.planned
    ∙ ap (λ (n : ℕ). later_part p n) tallied.clocks ∙ sym (next-snoc p s.segments x) in
    record {
      segments = ss;
      open_events = [];
      planned = plan ∙ s.planned;
      marked = marks ∙ s.marked;
      whole = ap (λ xs. xs ++ e ∷ []) s.whole ∙ append_assoc (events_in s.segments) s.open_events (e ∷ [])
          ∙ ap (λ xs. events_in s.segments ++ xs) (sym all) ∙ sym (events_in-snoc s.segments x)
          ∙ sym (append-nil (events_in ss));
      over = each_more (IsOver p m) s.segments x s.over over;
      unended = tt;
      judging = subst (λ (n : Marks). JudgingStands k.judging (next_part p ss) n []) s.marked
          (subst (λ (q : Part). JudgingStands k.judging q j.marks []) next judging);
      latest = subst (λ (n : Marks). Remembers k.latest (next_part p ss) n []) s.marked
          (subst (λ (q : Part). Remembers k.latest q j.marks []) next latest);
      tallied = tallied;
      counted = counted;
    }

-- what holds at an Ok from what holds there
pub on_ok : {A E : Type 0} {P Q R T : Type 0} (r : Result A E) → (P → Q → R → T) → OnOk r P → OnOk r Q → OnOk r R → OnOk r T
on_ok (Ok a) f x y z = f x y z
on_ok (Err e) f x y z = tt
