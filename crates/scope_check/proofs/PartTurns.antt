-- What a machine of a part has found after one more event.
use Rattle.std.proofs.Common.{◌≡◌, ◌∙◌, ◌+◌, ◌++◌, ◌∷◌, ◌&&◌, ◌||◌, not, [], ℕ, List, Option, true, false, if◌then◌else◌, length, append-nil, ap, sym, subst, refl}
use Rattle.fsb_signal.specs.declared.sample.Sample.{Sample}
use Rattle.vcd_way.specs.Pieces.{Stamp, time_at}
use Rattle.vcd_way.specs.Events.{DumpEvent, Sampled, samples_among, time_of}
use Rattle.scope_check.specs.declared.judging.Phase.{Phase}
use Rattle.scope_check.specs.declared.judging.Phase.TheVariants as phases
use Rattle.scope_check.specs.declared.part.Part.{Part}
use Rattle.scope_check.specs.declared.parting.Parting.{Parting}
use Rattle.scope_check.specs.Bounds.{passes}
use Rattle.scope_check.specs.Parts.{opens_at, opens, closes, clocks_of, quiet_run, may_begin}
use Rattle.scope_check.specs.Standing.{rested}
use Rattle.scope_check.specs.Parting.{HasParted, IsReached, taken_if}
use Rattle.scope_check.proofs.Growing.{before_more, part_begins, part_goes_on, part_ends, rest_more, none_more}
use Rattle.scope_check.proofs.Samples.{samples_snoc}
use Rattle.scope_check.proofs.Turns.{IsNoSample, count_snoc, quiet_snoc}

-- where it stands, by its phase
pub stage_at : (ph : Phase) (g : Parting) (p : Part) (es : List DumpEvent) (w : List Sample) (s : HasParted g p es w)
    → g.phase ≡ ph → IsReached ph g.quiet s.before s.part s.behind
stage_at ph g p es w s at = subst (λ (x : Phase). IsReached x g.quiet s.before s.part s.behind) at s.stage

-- an event that is no sample
pub rests : (ph : Phase) (g : Parting) (p : Part) (es : List DumpEvent) (w : List Sample) (e : DumpEvent) → IsNoSample e
    → (s : HasParted g p es w) → IsReached ph g.quiet s.before s.part s.behind
    → HasParted (record g { quiet = 0; phase = rested ph }) p (es ++ e ∷ []) w
rests phases.Before g p es w e n s f = record {
  before = s.before ++ e ∷ [];
  part = s.part;
  behind = s.behind;
  asked = s.asked;
  parted = before_more p es s.before s.part s.behind e s.parted f.0 f.1
      (ap (λ b. b && not (passes p.to (clocks_of s.before) (time_of e))
      && may_begin p.begin (clocks_of s.before) (quiet_run (s.before ++ e ∷ [])) e) n.1);
  samples_are = s.samples_are;
  start = s.start ∙ sym (ap length (n.0 s.before));
  inside = s.inside;
  stage = (f.0, f.1, sym (quiet_snoc s.before e ∙ ap (λ b. if b then 1 + quiet_run s.before else 0) n.2));
}
rests phases.Inside g p es w e n s f = record {
  before = s.before;
  part = s.part;
  behind = s.behind ++ e ∷ [];
  asked = s.asked;
  parted = part_ends p es s.before s.part s.behind e s.parted f.0 f.1
      (ap (λ b. not b || passes p.to (clocks_of s.before + clocks_of s.part) (time_of e)) n.1);
  samples_are = s.samples_are;
  start = s.start;
  inside = s.inside;
  stage = (f.0, none_more s.behind e);
}
rests phases.After g p es w e n s f = record {
  before = s.before;
  part = s.part;
  behind = s.behind ++ e ∷ [];
  asked = s.asked;
  parted = rest_more p es s.before s.part s.behind e s.parted f.0 f.1;
  samples_are = s.samples_are;
  start = s.start;
  inside = s.inside;
  stage = (f.0, none_more s.behind e);
}

-- a clock before the part
pub stays_before : (g : Parting) (p : Part) (es : List DumpEvent) (w : List Sample) (x : Sample) (t : Option Stamp)
    → (s : HasParted g p es w) → g.phase ≡ phases.Before → opens p s.before (Sampled x t) ≡ false → (start run : ℕ)
    → start ≡ g.start + 1 → run ≡ quiet_run (s.before ++ Sampled x t ∷ [])
    → HasParted (record g { start = start; quiet = run }) p (es ++ Sampled x t ∷ []) (w ++ taken_if false x)
stays_before g p es w x t s phase shut start run more quiet =
    let f = stage_at phases.Before g p es w s phase in
    record {
      before = s.before ++ Sampled x t ∷ [];
      part = s.part;
      behind = s.behind;
      asked = s.asked;
      parted = before_more p es s.before s.part s.behind (Sampled x t) s.parted f.0 f.1 shut;
      samples_are = append-nil w ∙ s.samples_are;
      start = more ∙ ap (λ n. n + 1) s.start ∙ sym (count_snoc s.before x t);
      inside = s.inside;
      stage = subst (λ (ph : Phase). IsReached ph run (s.before ++ Sampled x t ∷ []) s.part s.behind) (sym phase)
          (f.0, f.1, quiet);
    }

-- the first clock of the part
pub begins_there : (g : Parting) (p : Part) (es : List DumpEvent) (w : List Sample) (x : Sample) (t : Option Stamp)
    → (s : HasParted g p es w) → g.phase ≡ phases.Before → opens p s.before (Sampled x t) ≡ true
    → HasParted (record g { inside = 1; phase = phases.Inside }) p (es ++ Sampled x t ∷ []) (w ++ taken_if true x)
begins_there g p es w x t s phase open_there =
    let f = stage_at phases.Before g p es w s phase in
    record {
      before = s.before;
      part = Sampled x t ∷ [];
      behind = [];
      asked = s.asked;
      parted = part_begins p es s.before s.part s.behind (Sampled x t) s.parted f.0 f.1 open_there;
      samples_are = ap (λ ys. ys ++ x ∷ []) (s.samples_are ∙ ap samples_among f.0);
      start = s.start;
      inside = refl;
      stage = (refl, refl);
    }

-- one more clock of it
pub goes_further : (g : Parting) (p : Part) (es : List DumpEvent) (w : List Sample) (x : Sample) (t : Option Stamp)
    → (s : HasParted g p es w) → g.phase ≡ phases.Inside → closes p s.before s.part (Sampled x t) ≡ false → (inside : ℕ)
    → inside ≡ g.inside + 1
    → HasParted (record g { inside = inside }) p (es ++ Sampled x t ∷ []) (w ++ taken_if true x)
goes_further g p es w x t s phase stays inside more =
    let f = stage_at phases.Inside g p es w s phase in
    record {
      before = s.before;
      part = s.part ++ Sampled x t ∷ [];
      behind = s.behind;
      asked = s.asked;
      parted = part_goes_on p es s.before s.part s.behind (Sampled x t) s.parted f.0 f.1 stays;
      samples_are = ap (λ ys. ys ++ x ∷ []) s.samples_are ∙ sym (samples_snoc s.part x t);
      start = s.start;
      inside = more ∙ ap (λ n. n + 1) s.inside ∙ sym (count_snoc s.part x t);
      stage = subst (λ (ph : Phase). IsReached ph g.quiet s.before (s.part ++ Sampled x t ∷ []) s.behind) (sym phase)
          (none_more s.part (Sampled x t), f.1);
    }

-- the first clock behind it
pub ends_there : (g : Parting) (p : Part) (es : List DumpEvent) (w : List Sample) (x : Sample) (t : Option Stamp)
    → (s : HasParted g p es w) → g.phase ≡ phases.Inside → closes p s.before s.part (Sampled x t) ≡ true
    → HasParted (record g { phase = phases.After }) p (es ++ Sampled x t ∷ []) (w ++ taken_if false x)
ends_there g p es w x t s phase stops =
    let f = stage_at phases.Inside g p es w s phase in
    record {
      before = s.before;
      part = s.part;
      behind = s.behind ++ Sampled x t ∷ [];
      asked = s.asked;
      parted = part_ends p es s.before s.part s.behind (Sampled x t) s.parted f.0 f.1 stops;
      samples_are = append-nil w ∙ s.samples_are;
      start = s.start;
      inside = s.inside;
      stage = (f.0, none_more s.behind (Sampled x t));
    }

-- another one
pub is_over : (g : Parting) (p : Part) (es : List DumpEvent) (w : List Sample) (x : Sample) (t : Option Stamp)
    → (s : HasParted g p es w) → g.phase ≡ phases.After
    → HasParted g p (es ++ Sampled x t ∷ []) (w ++ taken_if false x)
is_over g p es w x t s phase =
    let f = stage_at phases.After g p es w s phase in
    record {
      before = s.before;
      part = s.part;
      behind = s.behind ++ Sampled x t ∷ [];
      asked = s.asked;
      parted = rest_more p es s.before s.part s.behind (Sampled x t) s.parted f.0 f.1;
      samples_are = append-nil w ∙ s.samples_are;
      start = s.start;
      inside = s.inside;
      stage = subst (λ (ph : Phase). IsReached ph g.quiet s.before s.part (s.behind ++ Sampled x t ∷ [])) (sym phase)
          (f.0, none_more s.behind (Sampled x t));
    }

-- what tells whether the part goes on
pub ends_is : (g : Parting) (p : Part) (es : List DumpEvent) (w : List Sample) (x : Sample) (t : Option Stamp)
    → (s : HasParted g p es w)
    → closes p s.before s.part (Sampled x t) ≡ passes g.part.to (g.start + g.inside) (time_at t)
ends_is g p es w x t s =
    ap (λ (q : Part). passes q.to (clocks_of s.before + clocks_of s.part) (time_at t)) (sym s.asked)
    ∙ ap (λ (n : ℕ). passes g.part.to (n + clocks_of s.part) (time_at t)) (sym s.start)
    ∙ ap (λ (n : ℕ). passes g.part.to (g.start + n) (time_at t)) (sym s.inside)

-- what tells whether it begins
pub begins_is : (g : Parting) (p : Part) (es : List DumpEvent) (w : List Sample) (e : DumpEvent) (s : HasParted g p es w)
    → (run : ℕ) → run ≡ quiet_run (s.before ++ e ∷ []) → opens p s.before e ≡ opens_at g.part g.start run e
begins_is g p es w e s run quiet =
    ap (λ (q : Part). opens_at q (clocks_of s.before) (quiet_run (s.before ++ e ∷ [])) e) (sym s.asked)
    ∙ ap (λ (n : ℕ). opens_at g.part n (quiet_run (s.before ++ e ∷ [])) e) (sym s.start)
    ∙ ap (λ (n : ℕ). opens_at g.part g.start n e) (sym quiet)
