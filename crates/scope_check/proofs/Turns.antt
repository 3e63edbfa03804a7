-- What a judge stands for after one more event.
use Rattle.std.proofs.Common.{◌≡◌, ◌∙◌, ◌+◌, ◌++◌, ◌∷◌, ◌&&◌, ◌||◌, not, [], ℕ, List, Option, Bool, true, false, if◌then◌else◌, length, Result, Ok, Err, IfOk, ap, sym, subst, refl, arith}
use Rattle.std.specs.List.{prefix_len}
use Rattle.std.proofs.lemmas.List.{length-append, reverse-append}
use Rattle.fsb_signal.specs.declared.sample.Sample.{Sample}
use Rattle.fsb_signal.specs.declared.marks.Marks.{Marks}
use Rattle.vcd_way.specs.Pieces.{Stamp, time_at}
use Rattle.vcd_way.specs.Events.{DumpEvent, Sampled, samples_among, time_of}
use Rattle.scope_check.specs.declared.judging.Judging.{Judging}
use Rattle.scope_check.specs.declared.judging.Phase.{Phase}
use Rattle.scope_check.specs.declared.judging.Phase.TheVariants as phases
use Rattle.scope_check.specs.declared.part.Part.{Part}
use Rattle.scope_check.specs.Bounds.{passes}
use Rattle.scope_check.specs.Parts.{IsParted, opens_at, is_sampled, is_quiet, is_none, opens, closes, clocks_of, quiet_run, quiet_more, may_begin, has_stopped}
use Rattle.scope_check.specs.Standing.{HasJudged, IsStage, Stands, Waits, later_at, rested, stopped}
use Rattle.scope_check.proofs.Growing.{before_more, part_begins, part_goes_on, part_ends, rest_more, none_more}
use Rattle.scope_check.proofs.Samples.{samples_snoc}

-- how many samples there are with one more
pub count_snoc : (es : List DumpEvent) (s : Sample) (t : Option Stamp)
    → clocks_of (es ++ Sampled s t ∷ []) ≡ clocks_of es + 1
count_snoc es s t = ap length (samples_snoc es s t) ∙ length-append (samples_among es) (s ∷ [])

-- how many of the last events are quiet with one more
pub quiet_snoc : (es : List DumpEvent) (e : DumpEvent) → quiet_run (es ++ e ∷ []) ≡ quiet_more (quiet_run es) e
quiet_snoc es e = ap (prefix_len is_quiet) (reverse-append es (e ∷ []))

-- one more quiet clock, and another one
pub quiet-counted : {E : Type 0} (run : ℕ) (e : DumpEvent) (r : Result ℕ E) → is_quiet e ≡ true
    → IfOk r (λ more. more ≡ run + 1) → IfOk r (λ more. more ≡ quiet_more run e)
quiet-counted run e (Ok n) q h =
    h ∙ (let same : run + 1 ≡ 1 + run = omega arith in same) ∙ ap (λ b. if b then 1 + run else 0) (sym q)
quiet-counted run e (Err x) q h = tt

pub quiet-none : (run : ℕ) (e : DumpEvent) → is_quiet e ≡ false → 0 ≡ quiet_more run e
quiet-none run e q = ap (λ b. if b then 1 + run else 0) (sym q)

-- what is no sample leaves the number of clocks as it is
abbrev pub IsNoSample : DumpEvent → Type 0
IsNoSample e =
    ((xs : List DumpEvent) → samples_among (xs ++ e ∷ []) ≡ samples_among xs) × (is_sampled e ≡ false) × (is_quiet e ≡ false)

-- whether the dump has stopped or gone on with one more
stopped_snoc : (es : List DumpEvent) (x : Sample) (t : Option Stamp) → has_stopped (es ++ Sampled x t ∷ []) ≡ has_stopped es
stopped_snoc [] x t = refl
stopped_snoc (e ∷ es) x t = ap (λ b. not (is_sampled e) || b) (stopped_snoc es x t)

or_true : (b : Bool) → (b || true) ≡ true
or_true true = refl
or_true false = refl

stopped_there : (es : List DumpEvent) (e : DumpEvent) → is_sampled e ≡ false → has_stopped (es ++ e ∷ []) ≡ true
stopped_there [] e n = ap (λ b. not b || false) n
stopped_there (d ∷ es) e n = ap (λ b. not (is_sampled d) || b) (stopped_there es e n) ∙ or_true (not (is_sampled d))

-- an event that is no sample, by where the part stood
pub rests_at : (ph : Phase) (j : Judging) (p : Part) (m : Marks) (es : List DumpEvent) (e : DumpEvent) → IsNoSample e
    → (s : Stands j p m es) → IsStage ph j (later_at p s.before) m s.before s.part s.behind
    → Stands (record j { quiet = 0; has_stopped = stopped ph j.has_stopped; phase = rested ph }) p m (es ++ e ∷ [])
rests_at phases.Before j p m es e n s f = record {
  before = s.before ++ e ∷ [];
  part = s.part;
  behind = s.behind;
  asked = s.asked;
  marked = s.marked;
  parted = before_more p es s.before s.part s.behind e s.parted f.no_part f.no_behind
      (ap (λ b. b && not (passes p.to (clocks_of s.before) (time_of e))
      && may_begin p.begin (clocks_of s.before) (quiet_run (s.before ++ e ∷ [])) e) n.1);
  start = s.start ∙ sym (ap length (n.0 s.before));
  has_stopped = sym (stopped_there s.before e n.1);
  stage = record {
    no_part = f.no_part;
    no_behind = f.no_behind;
    quiet = sym (quiet_snoc s.before e ∙ ap (λ b. if b then 1 + quiet_run s.before else 0) n.2);
    none = f.none;
    follows = f.follows;
  };
  after = s.after;
}
rests_at phases.Inside j p m es e n s f = record {
  before = s.before;
  part = s.part;
  behind = s.behind ++ e ∷ [];
  asked = s.asked;
  marked = s.marked;
  parted = part_ends p es s.before s.part s.behind e s.parted f.0.1 f.1
      (ap (λ b. not b || passes p.to (clocks_of s.before + clocks_of s.part) (time_of e)) n.1);
  start = s.start;
  has_stopped = s.has_stopped;
  stage = (f.0, none_more s.behind e);
  after = s.after ∙ sym (ap length (n.0 s.behind));
}
rests_at phases.After j p m es e n s f = record {
  before = s.before;
  part = s.part;
  behind = s.behind ++ e ∷ [];
  asked = s.asked;
  marked = s.marked;
  parted = rest_more p es s.before s.part s.behind e s.parted f.0.1 f.1;
  start = s.start;
  has_stopped = s.has_stopped;
  stage = (f.0, none_more s.behind e);
  after = s.after ∙ sym (ap length (n.0 s.behind));
}

-- the same, where the two are known by equations
pub rests_as : (j : Judging) (before : Bool) (ph : Phase) (p : Part) (m : Marks) (es : List DumpEvent)
    → before ≡ stopped j.phase j.has_stopped → ph ≡ rested j.phase
    → Stands (record j { quiet = 0; has_stopped = stopped j.phase j.has_stopped; phase = rested j.phase }) p m es
    → Stands (record j { quiet = 0; has_stopped = before; phase = ph }) p m es
rests_as j before ph p m es before_is ph_is s =
    subst (λ (x : Phase). Stands (record j { quiet = 0; has_stopped = before; phase = x }) p m es) (sym ph_is)
    (subst (λ (b : Bool). Stands (record j { quiet = 0; has_stopped = b; phase = rested j.phase }) p m es) (sym before_is) s)

-- a clock before the part
pub waits_more : (j : Judging) (p : Part) (m : Marks) (es : List DumpEvent) (x : Sample) (t : Option Stamp)
    → (s : Stands j p m es) → j.phase ≡ phases.Before → Waits j.quiet j.judged j.replies s.before s.part s.behind
    → opens p s.before (Sampled x t) ≡ false → (start run : ℕ) → start ≡ j.start + 1
    → run ≡ quiet_run (s.before ++ Sampled x t ∷ [])
    → Stands (record j { start = start; quiet = run }) p m (es ++ Sampled x t ∷ [])
waits_more j p m es x t s phase f shut start run more quiet = record {
  before = s.before ++ Sampled x t ∷ [];
  part = s.part;
  behind = s.behind;
  asked = s.asked;
  marked = s.marked;
  parted = before_more p es s.before s.part s.behind (Sampled x t) s.parted f.no_part f.no_behind shut;
  start = more ∙ ap (λ n. n + 1) s.start ∙ sym (count_snoc s.before x t);
  has_stopped = s.has_stopped ∙ sym (stopped_snoc s.before x t);
  stage = subst (λ (ph : Phase). IsStage ph (record j { start = start; quiet = run })
      (later_at p (s.before ++ Sampled x t ∷ [])) m (s.before ++ Sampled x t ∷ []) s.part s.behind)
      (sym phase) (record { no_part = f.no_part; no_behind = f.no_behind; quiet = quiet; none = f.none; follows = f.follows });
  after = s.after;
}

-- the first clock of the part
pub begins_now : (j k : Judging) (p : Part) (m : Marks) (es : List DumpEvent) (e : DumpEvent)
    → (s : Stands j p m es) → Waits j.quiet j.judged j.replies s.before s.part s.behind → opens p s.before e ≡ true
    → k.phase ≡ phases.Inside → k.part ≡ j.part → k.marks ≡ j.marks → k.start ≡ j.start
    → k.has_stopped ≡ j.has_stopped → k.after ≡ j.after → HasJudged k (later_at p s.before) m (e ∷ [])
    → Stands k p m (es ++ e ∷ [])
begins_now j k p m es e s f open_there phase part marks start stopped after has = record {
  before = s.before;
  part = e ∷ [];
  behind = [];
  asked = part ∙ s.asked;
  marked = marks ∙ s.marked;
  parted = part_begins p es s.before s.part s.behind e s.parted f.no_part f.no_behind open_there;
  start = start ∙ s.start;
  has_stopped = stopped ∙ s.has_stopped;
  stage = subst (λ ph. IsStage ph k (later_at p s.before) m s.before (e ∷ []) []) (sym phase) (has, refl);
  after = after ∙ s.after ∙ ap clocks_of f.no_behind;
}

-- one more clock of the part
pub goes_on : (j k : Judging) (p : Part) (m : Marks) (es : List DumpEvent) (e : DumpEvent)
    → (s : Stands j p m es) → is_none s.part ≡ false → s.behind ≡ [] → closes p s.before s.part e ≡ false
    → k.phase ≡ phases.Inside → k.part ≡ j.part → k.marks ≡ j.marks → k.start ≡ j.start
    → k.has_stopped ≡ j.has_stopped → k.after ≡ j.after → HasJudged k (later_at p s.before) m (s.part ++ e ∷ [])
    → Stands k p m (es ++ e ∷ [])
goes_on j k p m es e s some no_behind stays phase part marks start stopped after has = record {
  before = s.before;
  part = s.part ++ e ∷ [];
  behind = s.behind;
  asked = part ∙ s.asked;
  marked = marks ∙ s.marked;
  parted = part_goes_on p es s.before s.part s.behind e s.parted some no_behind stays;
  start = start ∙ s.start;
  has_stopped = stopped ∙ s.has_stopped;
  stage = subst (λ ph. IsStage ph k (later_at p s.before) m s.before (s.part ++ e ∷ []) s.behind)
      (sym phase) (has, no_behind);
  after = after ∙ s.after;
}

-- one more clock behind it, the first or another one
pub passes_by : (j : Judging) (p : Part) (m : Marks) (es : List DumpEvent) (x : Sample) (t : Option Stamp)
    → (s : Stands j p m es)
    → HasJudged j (later_at p s.before) m s.part
    → IsParted p (es ++ Sampled x t ∷ []) s.before s.part (s.behind ++ Sampled x t ∷ [])
    → (after : ℕ) → after ≡ j.after + 1
    → Stands (record j { phase = phases.After; after = after }) p m (es ++ Sampled x t ∷ [])
passes_by j p m es x t s has parted after more = record {
  before = s.before;
  part = s.part;
  behind = s.behind ++ Sampled x t ∷ [];
  asked = s.asked;
  marked = s.marked;
  parted = parted;
  start = s.start;
  has_stopped = s.has_stopped;
  stage = (has, none_more s.behind (Sampled x t));
  after = more ∙ ap (λ n. n + 1) s.after ∙ sym (count_snoc s.behind x t);
}

-- what tells whether a part goes on
pub closes_is : (j : Judging) (p : Part) (m : Marks) (es : List DumpEvent) (x : Sample) (t : Option Stamp)
    → (s : Stands j p m es) → j.judged ≡ clocks_of s.part
    → closes p s.before s.part (Sampled x t) ≡ passes j.part.to (j.start + j.judged) (time_at t)
closes_is j p m es x t s count =
    ap (λ (q : Part). passes q.to (clocks_of s.before + clocks_of s.part) (time_at t)) (sym s.asked)
    ∙ ap (λ (n : ℕ). passes j.part.to (n + clocks_of s.part) (time_at t)) (sym s.start)
    ∙ ap (λ (n : ℕ). passes j.part.to (j.start + n) (time_at t)) (sym count)

-- what tells whether it begins
pub opens_is : (j : Judging) (p : Part) (m : Marks) (es : List DumpEvent) (e : DumpEvent) (s : Stands j p m es)
    → (run : ℕ) → run ≡ quiet_run (s.before ++ e ∷ []) → opens p s.before e ≡ opens_at j.part j.start run e
opens_is j p m es e s run quiet =
    ap (λ (q : Part). opens_at q (clocks_of s.before) (quiet_run (s.before ++ e ∷ [])) e) (sym s.asked)
    ∙ ap (λ (n : ℕ). opens_at j.part n (quiet_run (s.before ++ e ∷ [])) e) (sym s.start)
    ∙ ap (λ (n : ℕ). opens_at j.part j.start n e) (sym quiet)
