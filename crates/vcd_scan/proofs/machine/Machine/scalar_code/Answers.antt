use Rattle.vcd_scan.proofs.Steps.{scalar_fits}
use Rattle.vcd_scan.proofs.machine.Machine.scalar_code.Goals as goal

pub gets-requires-clause-fits : goal.gets-requires-clause-fits
gets-requires-clause-fits c = scalar_fits c.in-Some.taps.now c.in-Some-digit_of.digit c.in-Some.ensures.lawful
