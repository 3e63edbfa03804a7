-- What is counted is no more than there are events.
use Rattle.std.proofs.Common.{◌≡◌, ◌∙◌, ℕ, ◌+◌, ◌≤◌, ◌++◌, ◌∷◌, [], List, Result, Ok, Err, IfErr, length, ap, arith}
use Rattle.std.proofs.lemmas.List.{length-append}
use Rattle.std.proofs.lemmas.List.Sums.{suffix_len-le-length}
use Rattle.vcd_way.specs.Events.{DumpEvent, Sampled, Hole, Resumed, samples_among}
use Rattle.scope_check.specs.declared.part.Part.{Part}
use Rattle.fsb_signal.specs.declared.marks.Marks.{Marks}
use Rattle.scope_check.specs.declared.judging.Judging.{Judging}
use Rattle.fsb_signal.specs.declared.sample.Sample.{Sample}
use Rattle.scope_check.specs.declared.parting.Parting.{Parting}
use Rattle.scope_check.specs.Parting.{HasParted}
use Rattle.scope_check.specs.Bounds.{most_counted, most_parted}
use Rattle.scope_check.specs.Parts.{IsParted, clocks_of, is_quiet, quiet_run}
use Rattle.scope_check.specs.Standing.{Stands}

pub clocks-few : (es : List DumpEvent) → clocks_of es ≤ length es
clocks-few [] = omega arith
clocks-few (Sampled x t ∷ es) = let h = clocks-few es in omega (arith, h)
clocks-few (Hole t ∷ es) = let h = clocks-few es in omega (arith, h)
clocks-few (Resumed t ∷ es) = let h = clocks-few es in omega (arith, h)

-- the clocks of the three
pub counted-few : (p : Part) (es before part behind : List DumpEvent) → IsParted p es before part behind
    → clocks_of before + clocks_of part + clocks_of behind ≤ length es
counted-few p es before part behind h =
    let size : length es ≡ length before + length part + length behind =
    ap length h.whole ∙ length-append (before ++ part) behind ∙ ap (λ n. n + length behind) (length-append before part) in
    let one = clocks-few before in
    let two = clocks-few part in
    let three = clocks-few behind in
    omega (arith, size, one, two, three)

-- the quiet ones before the part
pub quiet-few : (p : Part) (es before part behind : List DumpEvent) → IsParted p es before part behind
    → quiet_run before ≤ length es
quiet-few p es before part behind h =
    let size : length es ≡ length before + length part + length behind =
    ap length h.whole ∙ length-append (before ++ part) behind ∙ ap (λ n. n + length behind) (length-append before part) in
    let low = suffix_len-le-length is_quiet before in
    omega (arith, size, low)

-- ---- of a judge

pub start-few : (j : Judging) (p : Part) (m : Marks) (es : List DumpEvent) (s : Stands j p m es) → j.start ≤ length es
start-few j p m es s =
    let few = counted-few p es s.before s.part s.behind s.parted in
    let is = s.start in
    omega (arith, few, is)

pub after-few : (j : Judging) (p : Part) (m : Marks) (es : List DumpEvent) (s : Stands j p m es) → j.after ≤ length es
after-few j p m es s =
    let few = counted-few p es s.before s.part s.behind s.parted in
    let is = s.after in
    omega (arith, few, is)

pub judged-few : (j : Judging) (p : Part) (m : Marks) (es : List DumpEvent) (s : Stands j p m es)
    → j.judged ≡ clocks_of s.part → j.judged ≤ length es
judged-few j p m es s is =
    let few = counted-few p es s.before s.part s.behind s.parted in
    omega (arith, few, is)

pub waiting-few : (j : Judging) (p : Part) (m : Marks) (es : List DumpEvent) (s : Stands j p m es)
    → j.quiet ≡ quiet_run s.before → j.quiet ≤ length es
waiting-few j p m es s is =
    let few = quiet-few p es s.before s.part s.behind s.parted in
    omega (arith, few, is)

-- what holds at any answer holds at an Err
pub if-err : {A E P : Type 0} (r : Result A E) → P → IfErr r (λ _. P)
if-err (Ok a) h = tt
if-err (Err e) h = h

pub many : (n : ℕ) (es : List DumpEvent) → most_counted ≤ n → n ≤ length es → most_counted ≤ length es
many n es full few = omega (arith, full, few)

-- ---- of who tells the clocks of a part

pub before-few : (g : Parting) (p : Part) (es : List DumpEvent) (w : List Sample) (s : HasParted g p es w)
    → g.start ≤ length es
before-few g p es w s =
    let few = counted-few p es s.before s.part s.behind s.parted in
    let is = s.start in
    omega (arith, few, is)

pub inside-few : (g : Parting) (p : Part) (es : List DumpEvent) (w : List Sample) (s : HasParted g p es w)
    → g.inside ≤ length es
inside-few g p es w s =
    let few = counted-few p es s.before s.part s.behind s.parted in
    let is = s.inside in
    omega (arith, few, is)

pub both-few : (g : Parting) (p : Part) (es : List DumpEvent) (w : List Sample) (s : HasParted g p es w)
    → g.start + g.inside ≤ length es
both-few g p es w s =
    let few = counted-few p es s.before s.part s.behind s.parted in
    omega (arith, few, s.start, s.inside)

pub part-quiet-few : (g : Parting) (p : Part) (es : List DumpEvent) (w : List Sample) (s : HasParted g p es w)
    → g.quiet ≡ quiet_run s.before → g.quiet ≤ length es
part-quiet-few g p es w s is =
    let few = quiet-few p es s.before s.part s.behind s.parted in
    omega (arith, few, is)

pub many-parted : (n : ℕ) (es : List DumpEvent) → most_parted ≤ n → n ≤ length es → most_parted ≤ length es
many-parted n es full few = omega (arith, full, few)

samples-few : (es : List DumpEvent) → length (samples_among es) ≤ length es
samples-few [] = omega arith
samples-few (Sampled s t ∷ es) = let h = samples-few es in omega (arith, h)
samples-few (Hole t ∷ es) = let h = samples-few es in omega (arith, h)
samples-few (Resumed t ∷ es) = let h = samples-few es in omega (arith, h)

-- the samples of a part are no more than the events
pub parted-few : (g : Parting) (p : Part) (es : List DumpEvent) (w : List Sample) → HasParted g p es w
    → length w ≤ length es
parted-few g p es w s =
    omega (
      arith,
      samples-few s.part,
      ap length s.samples_are,
      ap length s.parted.whole,
      length-append (s.before ++ s.part) s.behind,
      length-append s.before s.part,
    )
