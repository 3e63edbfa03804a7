use Rattle.std.proofs.Common.{◌≡◌, take}
use Rattle.fsb_arbiter.specs.Arbiter.{Stands as ArbiterStands}
use Rattle.fsb_trace.specs.Requests.{live_number_of}
use Rattle.fsb_table.specs.Going.{Stands}
use Rattle.fsb_table.proofs.Requests.{rows_before}
use Rattle.fsb_table.proofs.one_pass.table.Given as goal

-- there is a row for each request so far, and what is kept is what the samples so far leave
abbrev pub invariant-loop-q : goal.invariant-loop-q
invariant-loop-q l = record {
  rows : l.rows.items ≡ rows_before l.w l.q;
  arbiter : ArbiterStands l.arbiter (take l.q l.w);
  going : Stands l.going l.w (live_number_of l.w l.q);
}
