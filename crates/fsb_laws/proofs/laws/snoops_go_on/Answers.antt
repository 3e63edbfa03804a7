use Rattle.fsb_laws.proofs.SnoopSteps.{snoop_end_of-old, snoop_end_of-more, snoops_to-ended, snoops_to-kept}
use Rattle.fsb_laws.proofs.SnoopClockSteps.{is_snoop_clock-more}
use Rattle.fsb_laws.proofs.laws.snoops_go_on.Goals as goal

pub returns : goal.returns
returns c = record {
  kept = snoop_end_of-old;
  next = snoop_end_of-more;
  ended = snoops_to-ended;
  not_ended = snoops_to-kept;
  clock = is_snoop_clock-more;
}
