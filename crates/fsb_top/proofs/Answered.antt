-- What a source holds is readable, faulty or too long: exactly one of the three.
use Rattle.std.proofs.Common.{◌≡◌, ◌≤◌, ◌<◌, ◌-◌, ◌^◌, ◌⊎◌, ℕ, List, length, Option, Some, None, refl, sym, ◌∙◌}
use Rattle.std.proofs.Common.{arith, inl, inr}
use Rattle.std.proofs.lemmas.Bool.{cases_lt}
use Rattle.fsb_command.specs.Form.{Form, ask, gen, run}
use Rattle.fsb_script.specs.Drafts.{BenchText, FirstBad}
use Rattle.fsb_script.specs.Plans.{PlanView}
use Rattle.fsb_script.specs.declared.fault.ScriptFault.{ScriptFault}
use Rattle.fsb_show.specs.ShownDump.{IsLongDump}
use Rattle.fsb_watch.specs.Watched.{HasManySamples}
use Rattle.vcd_grammar.specs.Reading.{first_fault, marks_of, samples_before_end, samples_of}
use Rattle.vcd_grammar.specs.declared.fault.VcdFault.{VcdFault}
use Rattle.fsb_top.specs.BenchEnds.{IsTooLong}
use Rattle.fsb_top.specs.Complete.{IsBenchFile, IsDumpWithin, IsFaulty, IsFaultyBench, IsFaultyDump, IsFaultyPieces}
use Rattle.fsb_top.specs.Complete.{IsFaultyWhole, IsReadable, IsReadableDump}
use Rattle.fsb_top.specs.FileRead.{DumpKind, IsTooLongFor, file_of, in_pieces, kept_whole}
use Rattle.fsb_top.specs.Looks.{look_at}
use Rattle.fsb_top.proofs.Completing.{no-fault, not-long, not-long-shown}

-- each text is a bench file, or has a first bad line
abbrev pub EachAnswers : Type 0
EachAnswers = (text : List ℕ) → ((p : PlanView) × BenchText text p) ⊎ ((f : ScriptFault) × FirstBad text f)

bench-some : EachAnswers → (held : List ℕ)
    → IsBenchFile held ⊎ (IsFaultyBench held ⊎ (4194304 < length held))
bench-some either held =
    elim (cases_lt 4194304 (length held)) [
      | inl long ↦ inr (inr long)
      | inr short ↦ elim (either held) [
        | inl plan ↦ inl (record { short = short; plan = plan.0; is_bench = plan.1 })
        | inr bad ↦ inr (inl (record { short = short; fault = bad.0; is_first = bad.1 }))
      ]
    ]

-- a dump that is read in pieces, by its first fault
pieces-by : (held : List ℕ) (fault : Option VcdFault) → first_fault held ≡ fault → length held ≤ 2 ^ 40
    → length (samples_before_end held) ≤ 2 ^ 32 - 1
    → IsDumpWithin (2 ^ 40) (2 ^ 32 - 1) held
    ⊎ (IsFaultyPieces held ⊎ ((2 ^ 40 < length held) ⊎ HasManySamples held))
pieces-by held (Some fault) e short few =
    inr (inl (record { short = short; fault = fault; is_bad = record { first = e; few = few } }))
pieces-by held None e short few =
    elim (cases_lt (2 ^ 32 - 1) (length (samples_of held))) [
      | inl many ↦ inr (inr (inr (inr (e, many))))
      | inr all ↦ inl (record {
        short = short;
        marks = marks_of held;
        trace = samples_of held;
        reads = (e, refl, refl);
        few = all;
      })
    ]

pieces-some : (held : List ℕ) → IsDumpWithin (2 ^ 40) (2 ^ 32 - 1) held
    ⊎ (IsFaultyPieces held ⊎ ((2 ^ 40 < length held) ⊎ HasManySamples held))
pieces-some held =
    elim (cases_lt (2 ^ 40) (length held)) [
      | inl long ↦ inr (inr (inl long))
      | inr short ↦ elim (cases_lt (2 ^ 32 - 1) (length (samples_before_end held))) [
        | inl many ↦ inr (inr (inr (inl many)))
        | inr few ↦ pieces-by held (first_fault held) refl short few
      ]
    ]

-- a dump that is kept whole, by its first fault
whole-by : (held : List ℕ) (fault : Option VcdFault) → first_fault held ≡ fault → length held ≤ 268435456
    → IsDumpWithin 268435456 200000 held
    ⊎ (IsFaultyWhole held ⊎ ((268435456 < length held) ⊎ IsLongDump held))
whole-by held (Some fault) e short = inr (inl (record { short = short; fault = fault; is_first = e }))
whole-by held None e short =
    elim (cases_lt 200000 (length (samples_of held))) [
      | inl many ↦ inr (inr (inr (record { readable = e; many = many })))
      | inr all ↦ inl (record {
        short = short;
        marks = marks_of held;
        trace = samples_of held;
        reads = (e, refl, refl);
        few = all;
      })
    ]

whole-some : (held : List ℕ) → IsDumpWithin 268435456 200000 held
    ⊎ (IsFaultyWhole held ⊎ ((268435456 < length held) ⊎ IsLongDump held))
whole-some held =
    elim (cases_lt 268435456 (length held)) [
      | inl long ↦ inr (inr (inl long))
      | inr short ↦ whole-by held (first_fault held) refl short
    ]

dump-some : (kind : DumpKind) (held : List ℕ)
    → IsReadableDump kind held ⊎ (IsFaultyDump kind held ⊎ IsTooLongFor (file_of kind) held)
dump-some in_pieces held = pieces-some held
dump-some kept_whole held = whole-some held

pub some-answer : EachAnswers → (form : Form) (held : List ℕ)
    → IsReadable form held ⊎ (IsFaulty form held ⊎ IsTooLong form held)
some-answer either (run bench dump) held = bench-some either held
some-answer either (ask dump asked) held = dump-some (look_at asked).kind held
some-answer either (gen seed agents items) held = inl tt

-- no text is a bench file and has a first bad line
abbrev pub NotBoth : Type 0
NotBoth = (text : List ℕ) (p : PlanView) (f : ScriptFault) → BenchText text p → FirstBad text f → ⊥

pieces-faultless : (held : List ℕ) → IsDumpWithin (2 ^ 40) (2 ^ 32 - 1) held → IsFaultyPieces held → ⊥
pieces-faultless held within faulty =
    no-fault (2 ^ 40) (2 ^ 32 - 1) held faulty.fault within faulty.is_bad.first

dump-faultless : (kind : DumpKind) (held : List ℕ) → IsReadableDump kind held → IsFaultyDump kind held → ⊥
dump-faultless in_pieces held within faulty = pieces-faultless held within faulty
dump-faultless kept_whole held within faulty = no-fault 268435456 200000 held faulty.fault within faulty.is_first

pub never-faulty : NotBoth → (form : Form) (held : List ℕ) → IsReadable form held → IsFaulty form held → ⊥
never-faulty not (run bench dump) held file faulty =
    not held file.plan faulty.fault file.is_bench faulty.is_first
never-faulty not (ask dump asked) held within faulty = dump-faultless (look_at asked).kind held within faulty
never-faulty not (gen seed agents items) held readable faulty = faulty

dump-not-long : (kind : DumpKind) (held : List ℕ) → IsReadableDump kind held → IsTooLongFor (file_of kind) held → ⊥
dump-not-long in_pieces held within long = not-long held within long
dump-not-long kept_whole held within long = not-long-shown held within long

pub never-long : (form : Form) (held : List ℕ) → IsReadable form held → IsTooLong form held → ⊥
never-long (run bench dump) held file long = let h = file.short in omega (arith, h, long)
never-long (ask dump asked) held within long = dump-not-long (look_at asked).kind held within long
never-long (gen seed agents items) held readable long = long

pieces-short : (held : List ℕ) → IsFaultyPieces held → (2 ^ 40 < length held) ⊎ HasManySamples held → ⊥
pieces-short held faulty (inl long) = let h = faulty.short in omega (arith, h, long)
pieces-short held faulty (inr (inl many)) = let h = faulty.is_bad.few in omega (arith, h, many)
pieces-short held faulty (inr (inr many)) =
    let e = sym many.0 ∙ faulty.is_bad.first in let no : ⊥ = cc in no

whole-short : (held : List ℕ) → IsFaultyWhole held → (268435456 < length held) ⊎ IsLongDump held → ⊥
whole-short held faulty (inl long) = let h = faulty.short in omega (arith, h, long)
whole-short held faulty (inr many) = let e = sym many.readable ∙ faulty.is_first in let no : ⊥ = cc in no

dump-short : (kind : DumpKind) (held : List ℕ) → IsFaultyDump kind held → IsTooLongFor (file_of kind) held → ⊥
dump-short in_pieces held faulty long = pieces-short held faulty long
dump-short kept_whole held faulty long = whole-short held faulty long

pub never-both : (form : Form) (held : List ℕ) → IsFaulty form held → IsTooLong form held → ⊥
never-both (run bench dump) held faulty long = let h = faulty.short in omega (arith, h, long)
never-both (ask dump asked) held faulty long = dump-short (look_at asked).kind held faulty long
never-both (gen seed agents items) held faulty long = faulty
