-- How no command ends.
use Rattle.fsb_audit.specs.declared.finding.FoulAt.{FoulAt}
use Rattle.fsb_rules.specs.declared.broken.Broken.{Broken}
use Rattle.fsb_script.specs.declared.fault.ScriptFault.{ScriptFault}
use Rattle.vcd_grammar.specs.declared.fault.VcdFault.{VcdFault}
use Rattle.fsb_top.specs.BenchEnds.{IsOfAudit, IsOfCheck, IsOfFind, IsOfGen, IsOfRun, IsOfWave}
use Rattle.fsb_top.specs.Complete.{IsComplete}
use Rattle.fsb_top.specs.declared.status.Status.TheVariants.{BadBench, BadDump, BadWords, DumpFault, Foul, NotFound}
use Rattle.fsb_top.specs.declared.status.Status.TheVariants.{ReadFault, Rejected, TooLong, WriteFault}

-- a run
pub no_end_of_a_run : (broken : Broken) (bad_dump : VcdFault) (foul : FoulAt)
    → ¬ IsOfRun (Rejected broken) × ¬ IsOfRun (BadDump bad_dump) × ¬ IsOfRun BadWords × ¬ IsOfRun (Foul foul)
    × ¬ IsOfRun NotFound
no_end_of_a_run broken bad_dump foul = (λ h. h, λ h. h, λ h. h, λ h. h, λ h. h)

-- a run of a plan that is made
pub no_end_of_a_made_run : (bench : ScriptFault) (dump : VcdFault) (broken : Broken) (foul : FoulAt)
    → ¬ IsOfGen DumpFault × ¬ IsOfGen BadWords × ¬ IsOfGen (BadBench bench) × ¬ IsOfGen (BadDump dump)
    × ¬ IsOfGen ReadFault × ¬ IsOfGen TooLong × ¬ IsOfGen (Rejected broken) × ¬ IsOfGen (Foul foul) × ¬ IsOfGen NotFound
no_end_of_a_made_run bench dump broken foul =
    (λ h. h, λ h. h, λ h. h, λ h. h, λ h. h, λ h. h, λ h. h, λ h. h, λ h. h)

-- a check, and a table
pub no_end_of_a_check : (fault : ScriptFault) (foul : FoulAt)
    → ¬ IsOfCheck DumpFault × ¬ IsOfCheck BadWords × ¬ IsOfCheck (BadBench fault) × ¬ IsOfCheck (Foul foul)
    × ¬ IsOfCheck NotFound
no_end_of_a_check fault foul = (λ h. h, λ h. h, λ h. h, λ h. h, λ h. h)

-- an audit
pub no_end_of_an_audit : (fault : ScriptFault)
    → ¬ IsOfAudit DumpFault × ¬ IsOfAudit BadWords × ¬ IsOfAudit (BadBench fault) × ¬ IsOfAudit NotFound
no_end_of_an_audit fault = (λ h. h, λ h. h, λ h. h, λ h. h)

-- a search
pub no_end_of_a_search : (fault : ScriptFault) (broken : Broken) (foul : FoulAt)
    → ¬ IsOfFind DumpFault × ¬ IsOfFind BadWords × ¬ IsOfFind (BadBench fault) × ¬ IsOfFind (Rejected broken)
    × ¬ IsOfFind (Foul foul)
no_end_of_a_search fault broken foul = (λ h. h, λ h. h, λ h. h, λ h. h, λ h. h)

-- a wave
pub no_end_of_a_wave : (fault : ScriptFault) (broken : Broken) (foul : FoulAt)
    → ¬ IsOfWave NotFound × ¬ IsOfWave DumpFault × ¬ IsOfWave BadWords × ¬ IsOfWave (BadBench fault)
    × ¬ IsOfWave (Rejected broken) × ¬ IsOfWave (Foul foul)
no_end_of_a_wave fault broken foul = (λ h. h, λ h. h, λ h. h, λ h. h, λ h. h, λ h. h)

-- a call that nothing stops
pub incomplete : (bad_bench : ScriptFault) (bad_dump : VcdFault)
    → ¬ IsComplete BadWords × ¬ IsComplete (BadBench bad_bench) × ¬ IsComplete (BadDump bad_dump)
    × ¬ IsComplete ReadFault × ¬ IsComplete WriteFault × ¬ IsComplete DumpFault × ¬ IsComplete TooLong
incomplete bad_bench bad_dump = (λ h. h, λ h. h, λ h. h, λ h. h, λ h. h, λ h. h, λ h. h)
