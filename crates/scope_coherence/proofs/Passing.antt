-- What the judge of a part stands for, with one more event.
use Rattle.std.proofs.Common.{◌≡◌, ◌∙◌, ℕ, ◌+◌, ◌<◌, ◌≤◌, ◌||◌, not, Bool, true, false, List, [], ◌∷◌, ◌++◌, length, length-append, Option, None, Result, Ok, Err, OnOk, refl, sym, ap, subst, arith}
use Rattle.fsb_signal.specs.declared.marks.Marks.{Marks}
use Rattle.fsb_signal.specs.declared.sample.Sample.{Sample}
use Rattle.fsb_trace.specs.At.{Trace}
use Rattle.vcd_way.specs.Pieces.{Stamp}
use Rattle.vcd_course.specs.declared.event.Stamp.{Stamp as CourseStamp}
use Rattle.vcd_way.specs.Events.{DumpEvent, Sampled, Hole, Resumed}
use Rattle.scope_check.specs.declared.part.Part.{Part}
use Rattle.scope_check.specs.Bounds.{begins_later}
use Rattle.scope_check.specs.Parts.{clocks_of, has_stopped, is_sampled}
use Rattle.scope_check.specs.Standing.{later_at}
use Rattle.fsb_owners.specs.Joint.{Joint}
use Rattle.fsb_owner_verdict.specs.Coherence.{coherence_verdict}
use Rattle.scope_coherence.specs.declared.cohering.Cohering.{Cohering}
use Rattle.scope_coherence.specs.declared.part.PartJudge.{PartJudge}
use Rattle.scope_coherence.specs.declared.part.PartTold.{PartTold}
use Rattle.scope_coherence.specs.Cohering.{Stands}
use Rattle.scope_coherence.specs.Found.{first_joints, pair_of}
use Rattle.scope_coherence.specs.Parting.{Counts, HasBegun, IsAt, IsNext, IsReady, PartStands, TellsPart}
use Rattle.scope_check.proofs.Counting.{clocks-few}
use Rattle.scope_coherence.proofs.Judging.{none-first}

-- ---- the counts

clocks-more : (es : List DumpEvent) (s : Sample) (t : Option Stamp) → clocks_of (es ++ Sampled s t ∷ []) ≡ clocks_of es + 1
clocks-more [] s t = refl
clocks-more (Sampled x u ∷ es) s t = let h = clocks-more es s t in omega (arith, h)
clocks-more (Hole u ∷ es) s t = clocks-more es s t
clocks-more (Resumed u ∷ es) s t = clocks-more es s t

clocks-hole : (es : List DumpEvent) (t : Option Stamp) → clocks_of (es ++ Hole t ∷ []) ≡ clocks_of es
clocks-hole [] t = refl
clocks-hole (Sampled x u ∷ es) t = let h = clocks-hole es t in omega (arith, h)
clocks-hole (Hole u ∷ es) t = clocks-hole es t
clocks-hole (Resumed u ∷ es) t = clocks-hole es t

clocks-resumed : (es : List DumpEvent) (t : Option Stamp) → clocks_of (es ++ Resumed t ∷ []) ≡ clocks_of es
clocks-resumed [] t = refl
clocks-resumed (Sampled x u ∷ es) t = let h = clocks-resumed es t in omega (arith, h)
clocks-resumed (Hole u ∷ es) t = clocks-resumed es t
clocks-resumed (Resumed u ∷ es) t = clocks-resumed es t

stopped-not : (es : List DumpEvent) (s : Sample) (t : Option Stamp)
    → has_stopped (es ++ Sampled s t ∷ []) ≡ has_stopped es
stopped-not [] s t = refl
stopped-not (x ∷ es) s t = ap (λ b. not (is_sampled x) || b) (stopped-not es s t)

either : (b : Bool) → (b || true) ≡ true
either true = refl
either false = refl

stopped-hole : (es : List DumpEvent) (t : Option Stamp) → has_stopped (es ++ Hole t ∷ []) ≡ true
stopped-hole [] t = refl
stopped-hole (x ∷ es) t = ap (λ b. not (is_sampled x) || b) (stopped-hole es t) ∙ either (not (is_sampled x))

stopped-resumed : (es : List DumpEvent) (t : Option Stamp) → has_stopped (es ++ Resumed t ∷ []) ≡ true
stopped-resumed [] t = refl
stopped-resumed (x ∷ es) t = ap (λ b. not (is_sampled x) || b) (stopped-resumed es t) ∙ either (not (is_sampled x))

pub counts-clock : (start : ℕ) (stopped : Bool) (es : List DumpEvent) (s : Sample) (t : Option Stamp)
    → Counts start stopped es → Counts (start + 1) stopped (es ++ Sampled s t ∷ [])
counts-clock start stopped es s t c = record {
  start = ap (λ n. n + 1) c.start ∙ sym (clocks-more es s t);
  stopped = c.stopped ∙ sym (stopped-not es s t);
}

pub counts-hole : (start : ℕ) (stopped : Bool) (es : List DumpEvent) (t : Option Stamp)
    → Counts start stopped es → Counts start true (es ++ Hole t ∷ [])
counts-hole start stopped es t c = record {
  start = c.start ∙ sym (clocks-hole es t);
  stopped = sym (stopped-hole es t);
}

pub counts-resumed : (start : ℕ) (stopped : Bool) (es : List DumpEvent) (t : Option Stamp)
    → Counts start stopped es → Counts start true (es ++ Resumed t ∷ [])
counts-resumed start stopped es t c = record {
  start = c.start ∙ sym (clocks-resumed es t);
  stopped = sym (stopped-resumed es t);
}

-- so many clocks are not more than the events
pub many-waited : (most start : ℕ) (stopped : Bool) (es : List DumpEvent) → most ≤ start → Counts start stopped es
    → most ≤ length es
many-waited most start stopped es full c = let few = clocks-few es in let size = c.start in omega (arith, full, size, few)

-- ---- the judge

module _ (x : PartJudge) (p : Part) (m : Marks) (es before : List DumpEvent) (w : Trace) where
  -- it has begun, or not
  pub begun : x.has_begun ≡ true → PartStands x p m es before w
      → HasBegun x.cohering p m before w × Counts x.start x.has_stopped before
  begun e s = subst (λ b. IsAt b x p m es before w) e s.at

  pub waits : x.has_begun ≡ false → PartStands x p m es before w → (w ≡ []) × Counts x.start x.has_stopped es
  waits e s = subst (λ b. IsAt b x p m es before w) e s.at

  -- an event behind the part, or between its clocks
  pub passes-by : (after : List DumpEvent) (e : DumpEvent) → x.has_begun ≡ true → PartStands x p m es before w
      → (0 < length w → after ≡ before) → PartStands x p m (es ++ e ∷ []) after w
  passes-by after e on s same =
      let h = begun on s in
      let here : after ≡ before = same h.0.some in
      record {
        begin = s.begin;
        marked = s.marked;
        at = subst (λ b. IsAt b x p m (es ++ e ∷ []) after w) (sym on)
            (subst (λ l. HasBegun x.cohering p m l w × Counts x.start x.has_stopped l) (sym here) h);
      }

  -- an event before it
  pub waits-on : (after more : List DumpEvent) (start : ℕ) (stopped : Bool) → x.has_begun ≡ false
      → PartStands x p m es before w → Counts start stopped more
      → PartStands (record x { start = start; has_stopped = stopped }) p m more after w
  waits-on after more start stopped off s c = record {
    begin = s.begin;
    marked = s.marked;
    at = subst (λ b. IsAt b (record x { start = start; has_stopped = stopped }) p m more after w) (sym off)
        ((waits off s).0, c);
  }

  -- ready for a sample: it has begun
  pub ready-on : (after : List DumpEvent) → x.has_begun ≡ true → PartStands x p m es before w → IsNext w es before after
      → IsReady x p m after w
  ready-on after on s n =
      let h = begun on s in
      let here : before ≡ after = sym (n.stays h.0.some) in
      record {
        begun = on;
        begin = s.begin;
        marked = s.marked;
        stands = subst (λ l. Stands x.cohering m (first_joints (later_at p l)) w) here h.0.stands;
        counts = subst (λ l. Counts x.start x.has_stopped l) here h.1;
      }

  -- the same where it begins with it
  pub ready-first : (after : List DumpEvent) (c : Cohering) → x.has_begun ≡ false → PartStands x p m es before w
      → IsNext w es before after → Stands c x.marks (first_joints (begins_later x.begin x.start x.has_stopped)) []
      → IsReady (record x { cohering = c; has_begun = true }) p m after w
  ready-first after c off s n new =
      let h = waits off s in
      let here : es ≡ after = sym (n.begins h.0) in
      let later : begins_later x.begin x.start x.has_stopped ≡ later_at p es =
      rw (h.1.start, h.1.stopped) (ap (λ b. begins_later b (clocks_of es) (has_stopped es)) (sym s.begin)) in
      let at_first : Stands c m (first_joints (later_at p es)) w =
      subst (λ v. Stands c m (first_joints (later_at p es)) v) (sym h.0)
      (subst (λ b. Stands c m (first_joints b) []) later
      (subst (λ k. Stands c k (first_joints (begins_later x.begin x.start x.has_stopped)) []) s.marked new)) in
      record {
        begun = refl;
        begin = s.begin;
        marked = s.marked;
        stands = subst (λ l. Stands c m (first_joints (later_at p l)) w) here at_first;
        counts = subst (λ l. Counts x.start x.has_stopped l) here h.1;
      }

-- a sample of the part
pub fed : (x : PartJudge) (p : Part) (m : Marks) (after more : List DumpEvent) (w : Trace) (y : Sample) (c : Cohering)
    (t : Option CourseStamp) → IsReady x p m after w → Stands c m (first_joints (later_at p after)) (w ++ y ∷ [])
    → PartStands (record x { cohering = c; stamp = t }) p m more after (w ++ y ∷ [])
fed x p m after more w y c t r new = record {
  begin = r.begin;
  marked = r.marked;
  at = subst (λ b. IsAt b (record x { cohering = c; stamp = t }) p m more after (w ++ y ∷ [])) (sym r.begun)
      (record { some = omega (arith, length-append w (y ∷ [])); stands = new }, r.counts);
}

-- ---- what is told

module _ (x : PartJudge) (t : PartTold) (p : Part) (m : Marks) (es before : List DumpEvent) (w : Trace)
    (start : t.start ≡ x.start) (later : t.is_later ≡ begins_later x.begin x.start x.has_stopped) where
  behind : (l : List DumpEvent) → PartStands x p m es before w → Counts x.start x.has_stopped l → t.is_later ≡ later_at p l
  behind l s c =
      later ∙ rw (c.start, c.stopped) (ap (λ b. begins_later b (clocks_of l) (has_stopped l)) (sym s.begin))

  pub tells-begun : x.has_begun ≡ true → PartStands x p m es before w
      → ((k : Marks) (first : List Joint) (v : Trace) → Stands x.cohering k first v → pair_of t.found ≡ coherence_verdict k first v)
      → TellsPart t p m es before w
  tells-begun on s found =
      let h = begun x p m es before w on s in
      let later_is = behind before s h.1 in
      record {
        some = λ some. record {
          start = start ∙ h.1.start;
          later = later_is;
          found = found m (first_joints t.is_later) w
              (subst (λ b. Stands x.cohering m (first_joints b) w) (sym later_is) h.0.stands);
        };
        none = λ none. absurd (let some = h.0.some in let size : length w ≡ 0 = ap length none in omega (arith, some, size));
      }

  pub tells-none : x.has_begun ≡ false → PartStands x p m es before w → t.found ≡ None → TellsPart t p m es before w
  tells-none off s none =
      let h = waits x p m es before w off s in
      record {
        some = λ some. absurd (let size : length w ≡ 0 = ap length h.0 in omega (arith, some, size));
        none = λ empty. record {
          start = start ∙ h.1.start;
          later = behind es s h.1;
          found = ap pair_of none ∙ sym (none-first m (first_joints t.is_later))
              ∙ ap (λ v. coherence_verdict m (first_joints t.is_later) v) (sym empty);
        };
      }

-- what a sample that was judged leaves, where the judge was ready for it
pub fed-answer : {T E : Type 0} (r : Result T E) (x : PartJudge) (p : Part) (m : Marks) (after more : List DumpEvent)
    (w : Trace) (y : Sample) (c : Cohering) (t : Option CourseStamp) → IsReady x p m after w
    → OnOk r (Stands c m (first_joints (later_at p after)) (w ++ y ∷ []))
    → OnOk r (PartStands (record x { cohering = c; stamp = t }) p m more after (w ++ y ∷ []))
fed-answer (Ok u) x p m after more w y c t ready new = fed x p m after more w y c t ready new
fed-answer (Err e) x p m after more w y c t ready new = tt

none-at : (b : Bool) (x : PartJudge) (p : Part) (m : Marks) (before : List DumpEvent) → IsAt b x p m [] [] []
    → IsAt b x p m [] before []
none-at false x p m before h = h
none-at true x p m before h = absurd (let some = h.0.some in omega (arith, some))

-- before the first event the part may stand anywhere
pub none-before : (x : PartJudge) (p : Part) (m : Marks) (before : List DumpEvent) → PartStands x p m [] [] []
    → PartStands x p m [] before []
none-before x p m before s = record {
  begin = s.begin;
  marked = s.marked;
  at = none-at x.has_begun x p m before s.at;
}
