use Rattle.std.proofs.Common.{leb, rules, arith, sym}
use Rattle.std.proofs.lemmas.List.Sorted.{IsPartitionPoint-from_clause, IsPartitionedBy-leb}
use Rattle.fsb_hazard.proofs.HeldClocks.{HaveBegun, none_held, last_decides}
use Rattle.fsb_hazard.proofs.found.is_held.Goals as goal

pub returns-in-0 : goal.returns-in-0
returns-in-0 c =
    let held = c.args.held.now in
    let clock = c.args.clock in
    let begun : HaveBegun clock held c.partition_point.result =
    IsPartitionPoint-from_clause (λ h. leb h.first clock) _ _ c.partition_point.ensures.partitioned
    (IsPartitionedBy-leb (λ h. h.first) _ clock c.requires.firsts) (λ a r q k. search rules) in
    sym (none_held held clock c.partition_point.result c.requires begun c.partition_point.ensures.bound
    (λ d some. absurd (omega (arith, some, c.in-0.is))))

pub returns-in_default : goal.returns-in_default
returns-in_default c =
    let held = c.args.held.now in
    let clock = c.args.clock in
    let begun : HaveBegun clock held c.partition_point.result =
    IsPartitionPoint-from_clause (λ h. leb h.first clock) _ _ c.partition_point.ensures.partitioned
    (IsPartitionedBy-leb (λ h. h.first) _ clock c.requires.firsts) (λ a r q k. search rules) in
    last_decides held clock c.partition_point.result (record { first = 0; last = 0 }) c.requires begun
    c.partition_point.ensures.bound (omega arith)
