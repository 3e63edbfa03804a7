-- A simulated run is clean.
use Rattle.std.proofs.Common.{ℕ, ◌≡◌, false, None}
use Rattle.fsb_signal.specs.Parity.{marks_in}
use Rattle.fsb_timely.specs.Runs.{Run}
use Rattle.fsb_timely.specs.Simulated.{Simulated}
use Rattle.fsb_lawful.specs.Beginning.{KeepsBounds}
use Rattle.fsb_lawful.proofs.Interface.{accepted}
use Rattle.fsb_audit.specs.Fouls.{finding_of, is_foul_clock}
use Rattle.fsb_audit.proofs.Interface.{nothing}
use Rattle.fsb_tied.specs.RunBytes.{bytes_put_below}
use Rattle.fsb_tied.proofs.Interface.{writes-back-alone}
use Rattle.fsb_clean.proofs.NoFouls.{no-fouls}
use Rattle.fsb_clean.proofs.RunsFollow.{memory-follows}

pub clean-runs : (r : Run) → Simulated r → KeepsBounds r.plan → (c : ℕ) → is_foul_clock r.trace c ≡ false
clean-runs r h bounds c =
    no-fouls r (bytes_put_below r) c h.timely h.carried (memory-follows r (record {
      timely = h.timely;
      bounds = bounds;
      served = h.served;
      in_order = h.in_order;
    }))

pub nothing-found : (r : Run) → Simulated r → KeepsBounds r.plan
    → finding_of (marks_in r.plan.profile) r.trace ≡ None
nothing-found r h bounds =
    nothing (marks_in r.plan.profile) r.trace (accepted r h.timely bounds (writes-back-alone r h.timely bounds))
    (λ c l. clean-runs r h bounds c)
