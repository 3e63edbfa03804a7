use Rattle.std.proofs.Common.{◌++◌, ◌∷◌, [], length-append, arith, subst, sym}
use Rattle.vcd_course.specs.Told.{event_told}
use Rattle.scope_check.specs.Parts.{clocks_of}
use Rattle.vcd_way.specs.Events.{samples_among}
use Rattle.scope_parts.specs.Findings.{FaultGoes}
use Rattle.scope_parts.specs.Standing.{fault_of}
use Rattle.scope_ring.specs.Ring.{Stands as RingStands}
use Rattle.scope_watch.specs.Checking.{kept_to}
use Rattle.scope_watch.proofs.check.JudgeEventWatcher.see.Goals as goal

pub keep-requires : goal.keep-requires
keep-requires c =
    let p = c.requires.0.plan in
    let m = c.requires.0.marks in
    let es = c.requires.1 in
    let stands = c.in-Ok.ensures.stands p m es c.requires.2.0 in
    let count = c.clocks-clocks.ensures p m (es ++ event_told c.args.event.now ∷ []) stands in
    let fault = c.first_fault-fault.ensures.same p m (es ++ event_told c.args.event.now ∷ []) stands in
    let goes = c.in-Ok.ensures.goes p m es c.requires.2.0 in (
      fault_of c.args.self.now.judging,
      es,
      c.requires.2.1,
      subst (λ n. FaultGoes n (fault_of c.args.self.now.judging) c.first_fault-fault.result) (sym count)
          (subst (λ o. FaultGoes (clocks_of (es ++ event_told c.args.event.now ∷ [])) (fault_of c.args.self.now.judging) o)
          (sym fault) goes),
      count,
    )

pub returns-in-Ok-clause-seen : goal.returns-in-Ok-clause-seen
returns-in-Ok-clause-seen c = λ first es seen.
    let p = first.plan in
    let m = first.marks in
    let all = es ++ event_told c.args.event.now ∷ [] in
    let stands = c.in-Ok.ensures.stands p m es seen.0 in
    let count = c.clocks-clocks.ensures p m all stands in
    let fault = c.first_fault-fault.ensures.same p m all stands in
    let goes = c.in-Ok.ensures.goes p m es seen.0 in (
      stands,
      subst (λ o. RingStands c.keep.new.last (kept_to o (samples_among all))) fault
          (c.keep.ensures (fault_of c.args.self.now.judging) es seen.1
          (subst (λ n. FaultGoes n (fault_of c.args.self.now.judging) c.first_fault-fault.result) (sym count)
          (subst (λ o. FaultGoes (clocks_of all) (fault_of c.args.self.now.judging) o) (sym fault) goes)) count),
    )

pub returns-in-Err-clause-many : goal.returns-in-Err-clause-many
returns-in-Err-clause-many c = λ e first es seen.
    let full = c.in-Err.ensures.many first.plan first.marks es seen.0 in
    omega (arith, full, length-append es (event_told c.args.event.now ∷ []))
