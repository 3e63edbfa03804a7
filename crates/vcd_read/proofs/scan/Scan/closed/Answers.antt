use Rattle.std.proofs.Common.{[], ◌∷◌}
use Rattle.std.proofs.lemmas.Result.{on_ok_weaker, on_err_weaker}
use Rattle.vcd_read.specs.Scanning.{reading}
use Rattle.vcd_read.proofs.Readings.{behind_taken, behind_sampled, behind_part, behind_fits, part_none}
use Rattle.vcd_read.proofs.Behind.{faulty_bytes}
use Rattle.vcd_read.proofs.scan.Scan.closed.Goals as goal

pub white-requires-clause-fits : goal.white-requires-clause-fits
white-requires-clause-fits c = behind_fits (reading c.args.self.now) (reading c.grown.new.self) c.args.bytes.now
    c.in_ok-grown.ensures.state c.requires.fits

pub returns-clause-state : goal.returns-clause-state
returns-clause-state c = λ w white.
    on_ok_weaker c.white.result
    (λ h. behind_taken (reading c.args.self.now) (reading c.grown.new.self) _ c.args.bytes.now (w ∷ [])
    c.in_ok-grown.ensures.state h) (c.white.ensures.state w white)

pub returns-clause-samples : goal.returns-clause-samples
returns-clause-samples c = λ w white.
    on_ok_weaker c.white.result
    (λ h. behind_sampled (reading c.args.self.now) (reading c.grown.new.self) c.args.bytes.now (w ∷ [])
    c.args.limit c.args.to.now.items c.grown.new.to.items _ c.in_ok-grown.ensures.state
    c.in_ok-grown.ensures.samples h) (c.white.ensures.samples w white)

pub returns-clause-part : goal.returns-clause-part
returns-clause-part c = λ w white.
    on_err_weaker c.white.result
    (λ h. behind_part (reading c.args.self.now) (reading c.grown.new.self) c.args.bytes.now (w ∷ [])
    c.args.limit c.args.to.now.items c.grown.new.to.items _ c.in_ok-grown.ensures.state
    c.in_ok-grown.ensures.samples (part_none _ _ _ _ _ h)) c.white.ensures.silent

pub returns-clause-behind : goal.returns-clause-behind
returns-clause-behind c = λ faulty.
    c.white.ensures.behind
    (faulty_bytes (reading c.args.self.now) (reading c.grown.new.self) c.args.bytes.now c.in_ok-grown.ensures.state faulty)
