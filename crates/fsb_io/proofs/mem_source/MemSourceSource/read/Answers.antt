use Rattle.std.proofs.Common.{◌≡◌, ◌≤◌, ◌-◌, length, take, drop, arith, ◌∙◌}
use Rattle.std.proofs.lemmas.List.{take_rest, length-take-le}
use Rattle.fsb_io.proofs.Taken.{front-copied}
use Rattle.fsb_io.proofs.mem_source.MemSourceSource.read.Goals as goal

pub returns-clause-bytes : goal.returns-clause-bytes
returns-clause-bytes c =
    let s = c.self.inside in
    let n = c.min-count.result in
    let held : c.deref.result.now ≡ s.bytes.items = c.deref.ensures.value in
    let rest : take n (take (length c.deref.result.now - s.taken) (drop s.taken c.deref.result.now))
    ≡ take n (drop s.taken s.bytes.items) = rw (held, take_rest) in
    let fits : n ≤ length c.args.buf.now = omega (arith, c.min-count.ensures) in
    let long : length c.copy_from_slice.new.self ≡ n = c.copy_from_slice.ensures.len
    ∙ length-take-le n c.args.buf.now fits in
    rw (← c.self.view_is) (front-copied s.bytes.items c.copy_from_slice.new.self (drop n c.args.buf.now) s.taken
    n (c.copy_from_slice.ensures.after ∙ rest) long)
