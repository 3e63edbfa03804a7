use Rattle.std.proofs.Common.{◌∙◌, ◌+◌, ◌-◌, ◌%◌, ◌≡◌, take, drop, ap, arith}
use Rattle.fsb_access.specs.ByteMemory.{value_of_bytes}
use Rattle.fsb_cache.proofs.LineBytes.{value_in_line-is, within_line}
use Rattle.fsb_cache.proofs.value.value_in.Goals as goal

pub returns : goal.returns
returns c =
    let within = within_line c.args.addr c.args.size c.requires.size c.requires.aligned in
    let count : c.args.addr % 32 + c.from.result - c.args.addr % 32 ≡ c.args.size = omega (arith, c.from.ensures) in
    value_in_line-is c.args.bytes.now c.args.addr c.args.size c.value_of.result c.told-bytes within.0
    (c.value_of.ensures.value ∙ ap (λ n. value_of_bytes (take n (drop (c.args.addr % 32) c.args.bytes.now))) count)
