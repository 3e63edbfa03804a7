-- A readable dump has no first fault, and is not too long.
use Rattle.std.proofs.Common.{◌≤◌, ◌<◌, ◌-◌, ◌^◌, ◌⊎◌, ℕ, zero, suc, List, [], ◌∷◌, length, take}
use Rattle.std.proofs.Common.{sym, ap, ◌∙◌, arith, inl, inr, length-append}
use Rattle.fsb_show.specs.ShownDump.{IsLongDump}
use Rattle.fsb_watch.specs.Watched.{HasManySamples}
use Rattle.vcd_grammar.specs.Blocks.{Block, blocks_of}
use Rattle.vcd_grammar.specs.Judging.{events_in, nothing}
use Rattle.vcd_grammar.specs.Reading.{FirstFault, samples_before_end, samples_of}
use Rattle.vcd_grammar.specs.Tokens.{tokens_of}
use Rattle.vcd_grammar.specs.Values.{Values, at_first, sample_of_block, samples_in, values_behind}
use Rattle.vcd_grammar.specs.declared.fault.VcdFault.{VcdFault}
use Rattle.fsb_top.specs.Complete.{IsDumpWithin}

-- the samples of some first blocks are no more than those of all
fewer : (values : Values) (n : ℕ) (blocks : List Block)
    → length (samples_in values (take n blocks)) ≤ length (samples_in values blocks)
fewer values zero blocks = omega arith
fewer values (suc n) [] = omega arith
fewer values (suc n) (block ∷ blocks) =
    let rest = fewer (values_behind values block) n blocks in
    let some = length-append (sample_of_block values block) (samples_in (values_behind values block) (take n blocks)) in
    let all = length-append (sample_of_block values block) (samples_in (values_behind values block) blocks) in
    omega (arith, rest, some, all)

few-before-end : (text : List ℕ) → length (samples_before_end text) ≤ length (samples_of text)
unfolding samples_before_end samples_of
few-before-end text =
    let blocks = blocks_of (events_in nothing (tokens_of text)) in fewer at_first (length blocks - 1) blocks

-- a readable dump has no first fault
pub no-fault : (bytes samples : ℕ) (held : List ℕ) (f : VcdFault) → IsDumpWithin bytes samples held
    → FirstFault held f → ⊥
no-fault bytes samples held f within first =
    let e = sym within.reads.0 ∙ first in let no : ⊥ = cc in no

-- a dump within the limits is not too long
pub not-long : (held : List ℕ) → IsDumpWithin (2 ^ 40) (2 ^ 32 - 1) held
    → (2 ^ 40 < length held) ⊎ HasManySamples held → ⊥
not-long held within (inl long) = let h = within.short in omega (arith, h, long)
not-long held within (inr (inl many)) =
    let e = ap length within.reads.2 in
    let few = few-before-end held in
    let h = within.few in omega (arith, e, few, h, many)
not-long held within (inr (inr many)) =
    let e = ap length within.reads.2 in let h = within.few in let m = many.1 in omega (arith, e, h, m)

pub not-long-shown : (held : List ℕ) → IsDumpWithin 268435456 200000 held
    → (268435456 < length held) ⊎ IsLongDump held → ⊥
not-long-shown held within (inl long) = let h = within.short in omega (arith, h, long)
not-long-shown held within (inr many) =
    let e = ap length within.reads.2 in let h = within.few in let m = many.many in omega (arith, e, h, m)
