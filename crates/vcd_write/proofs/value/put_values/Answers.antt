use Rattle.std.proofs.Common.{append-nil, ◌≡◌, ◌+◌, ◌-◌, ◌≤◌, arith, sym, ◌++◌, subst}
use Rattle.arrayvec.specs.ArrayVec.{array_vec_len}
use Rattle.fsb_signal.specs.DumpText.{entries_in, texts_from, sample_value_text}
use Rattle.fsb_signal.proofs.Interface.{texts_from-step}
use Rattle.vcd_write.specs.Room.{values_room}
use Rattle.vcd_write.proofs.RoomFacts.{values_room-next}
use Rattle.vcd_write.proofs.value.put_values.Goals as goal

pub loop-number-init : goal.loop-number-init
unfolding texts_from
loop-number-init g c = record { len = omega arith; items = sym (append-nil _) }

pub loop-number-preserved : goal.loop-number-preserved
loop-number-preserved g c = record {
  len = rw (values_room-next c.loop-number.number c.loop-number.auto.number)
      (omega (arith, c.loop-number.invariant.len, c.put_value.ensures.len));
  items = texts_from-step _ 1 _ _ _ _ c.loop-number.auto.number c.loop-number.invariant.items
      (rw (sym c.value.ensures) c.put_value.ensures.items);
}

pub returns-clause-items : goal.returns-clause-items
returns-clause-items g c =
    let end : c.loop-number.number ≡ entries_in c.args.profile =
    omega (arith, c.loop-number-test.false, c.loop-number.auto.number-end, c.entries_in-number-end.ensures.value) in
    subst (λ n. c.loop-number.text.items ≡ c.args.text.now.items
    ++ texts_from (sample_value_text c.args.sample.now) 1 (n - 1)) end c.loop-number.invariant.items

pub returns-clause-len : goal.returns-clause-len
returns-clause-len g c =
    let end : c.loop-number.number ≡ entries_in c.args.profile =
    omega (arith, c.loop-number-test.false, c.loop-number.auto.number-end, c.entries_in-number-end.ensures.value) in
    subst (λ n. array_vec_len c.loop-number.text ≤ array_vec_len c.args.text.now + values_room n) end
    c.loop-number.invariant.len
