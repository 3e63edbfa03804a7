-- The list of deferrals of a bench tells of the next clock of its run what that has.
use Rattle.fsb_bench_run.proofs.Words
use Words.{Bool, List, Done, ShowsBegun, grown-hit, grown-pending, grown-taken, grown-there, Choice, GrowsTo, BenchView}
use Words.{IsBenchOf}
use Rattle.fsb_bench_run.proofs.DeferralsTold.{DeferralsTold}
use Rattle.fsb_bench_run.proofs.RunWith.{run_with}

pub deferrals-now : (v : BenchView) (hold : Bool) (choice : Choice) (entries : List Done) → IsBenchOf v
    → GrowsTo v.run (run_with v hold choice entries) → ShowsBegun v.run (run_with v hold choice entries)
    → DeferralsTold v (run_with v hold choice entries)
deferrals-now v hold choice entries b grows shows =
    let r = v.run in
    let s = run_with v hold choice entries in
    let list = v.bus.bridge.waiting in
    let has = b.bridge.deferrals in
    record {
      pending = λ line. grown-pending r s line list grows b.bounds shows has;
      deferral = λ end reply there decoded replies. grown-taken r s end reply list grows b.bounds shows has
          there decoded replies;
      taken = λ end reply there decoded replies. grown-there r s end reply list grows b.bounds shows has there
          decoded replies;
      hit = λ end reply there decoded replies. grown-hit r s end reply list grows b.bounds shows has there
          decoded replies;
    }
