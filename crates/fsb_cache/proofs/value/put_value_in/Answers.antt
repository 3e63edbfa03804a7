use Rattle.std.proofs.Common.{◌∙◌, ◌+◌, ◌-◌, ◌%◌, ◌≡◌, take, ap, arith}
use Rattle.std.specs.Int.{to_le_bytes, w64}
use Rattle.fsb_cache.proofs.LineBytes.{line_with_value-is, within_line}
use Rattle.fsb_cache.proofs.value.put_value_in.Goals as goal

pub returns : goal.returns
returns c =
    let within = within_line c.args.addr c.args.size c.requires.size c.requires.aligned in
    let count : c.args.addr % 32 + c.from.result - c.args.addr % 32 ≡ c.args.size = omega (arith, c.from.ensures) in
    let part : c.copy_from_slice.new.self ≡ take c.args.size (to_le_bytes w64 c.args.value) =
    c.copy_from_slice.ensures.after ∙ ap (λ n. take n c.to_le_bytes.result) c.from-2.ensures
    ∙ ap (take c.args.size) c.to_le_bytes.ensures in
    rw count (line_with_value-is c.args.bytes.now c.copy_from_slice.new.self c.args.addr c.args.size
    c.args.value c.told-bytes within.0 within.1 part)
