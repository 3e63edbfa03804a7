use Rattle.std.proofs.Common.{◌≡◌, ◌+◌, ◌≤◌, ◌++◌, ◌-◌, vec_len, replicate, length, take, arith, append_assoc}
use Rattle.fsb_io.proofs.Taken.{take-read_grown}
use Rattle.fsb_io.proofs.read.read_some.Goals as goal

pub returns-in-Ok-clause-taken : goal.returns-in-Ok-clause-taken
returns-in-Ok-clause-taken g c = λ told.
    let start : c.len-start.result ≡ length c.args.bytes.now.items = omega arith in
    let fits : c.in-Ok.count ≤ length c.read.new.buf = c.in-Ok.ensures.within in
    let within : c.len-start.result + c.in-Ok.count ≤ c.resize.new.self.len =
    omega (arith, fits, c.read.auto.buf, c.deref_mut.ensures.len, c.in_ok-resize.ensures.len) in
    let grown : c.deref_mut.result.now ≡ take (c.len-start.result + c.args.room) c.args.bytes.now.items
    ++ replicate (c.len-start.result + c.args.room - vec_len c.args.bytes.now) 0 =
    rw c.deref_mut.ensures.value c.in_ok-resize.ensures.items in
    let front : c.truncate.new.self.items ≡ c.args.bytes.now.items ++ take c.in-Ok.count c.read.new.buf =
    rw c.truncate.ensures.items
    (take-read_grown c.args.bytes.now.items c.deref_mut.result.now c.read.new.buf _ _ _ c.len-start.result
    (c.len-start.result + c.args.room) c.in-Ok.count _ start grown (omega arith) fits within) in
    rw (front, append_assoc, c.in-Ok.ensures.bytes told)
