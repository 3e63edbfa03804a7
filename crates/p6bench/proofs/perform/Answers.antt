use Rattle.std.proofs.Common.{ap}
use Rattle.fsb_command.specs.Command.{form_meant}
use Rattle.fsb_top.proofs.Interface.{may_end}
use Rattle.p6bench.specs.Program.{dump_below, told_of, weights}
use Rattle.p6bench.proofs.Endings.{Ends, dump_gathered, dumped_below, ends_of, left_alone, rose_in, row_below}
use Rattle.p6bench.proofs.perform.Goals as goal

pub returns-clause-ends : goal.returns-clause-ends
returns-clause-ends g c =
    let called = c.carry_out-status.result in
    let status = c.finished.result in
    let old = c.args.dump.now in
    let mid = c.carry_out-status.new.dump in
    let new = c.finished.new.dump in
    let ends : Ends called status =
    ends_of called status c.finished.ensures.others_stay c.finished.ensures.fault in
    row_below g.S.Source g.O.Sink (dump_gathered g.D.Sink old mid) (dump_below g.D.Sink old new) c.args.source.now c.carry_out-status.new.source
    c.args.out.now c.carry_out-status.new.out _ told_of called status ends
    (λ stays. left_alone _ _ _ _ _ _ stays c.requires.fresh c.finished.ensures.nothing_left)
    (λ rose fault. rose_in called status _ _ _ ends c.requires.unfailed c.finished.ensures.later rose
    c.finished.ensures.cause fault)
    (λ text name named leaves tells. dumped_below called status text name (g.D.Sink.holds old.sink) old.gathered
    (g.D.Sink.holds mid.sink) mid.gathered (g.D.Sink.holds new.sink) new.gathered (g.D.Sink.begun_as old.sink)
    (g.D.Sink.begun_as mid.sink) (g.D.Sink.begun_as new.sink) ends c.requires.fresh named
    (c.finished.ensures.whole tells) (c.finished.ensures.handed tells) (c.finished.ensures.name_stays tells)
    (λ not. (
      ap (λ v. g.D.Sink.holds v.sink) (c.finished.ensures.not_called not),
      ap (λ v. v.gathered) (c.finished.ensures.not_called not),
    ))
    (leaves tells))
    c.requires.scripted _ weights (form_meant c.args.command) c.requires.weighed c.carry_out-status.ensures.ends

pub returns-clause-may_end : goal.returns-clause-may_end
returns-clause-may_end g c =
    may_end g.S.Source g.O.Sink (dump_below g.D.Sink c.args.dump.now c.finished.new.dump) c.args.source.now
    c.carry_out-status.new.source c.args.out.now c.carry_out-status.new.out told_of weights
    (form_meant c.args.command) c.finished.result (returns-clause-ends g c)
