-- Worked words and a worked run: two agents store to one line, and the first hands it on before its bytes have come.
use Rattle.std.specs.Prelude.{◌≡◌, ℕ, ◌+◌, List, [], ◌∷◌, Some, None, codes}
use Rattle.std.proofs.Common.{refl}
use Rattle.bitflags.specs.Sets.{find_row}
use Rattle.fsb_count.specs.Clocks.{any_where, first_where, last_where}
use Rattle.fsb_signal.specs.ControlLines.{line_named}
use Rattle.fsb_signal.specs.declared.lines.TheConstants.Lines.{ADS, HIT, HITM, RS0, RS1, RS2}
use Rattle.fsb_signal.specs.declared.sample.Sample.{Sample}
use Rattle.fsb_signal.specs.Samples.{known_sample, idle}
use Rattle.fsb_trigger.specs.declared.test.Test.TheVariants.{Asserted, NotAsserted, Request, Address, Data}
use Rattle.fsb_trigger.specs.TriggerSteps.{StepView, test_holds, step_holds, keeps_bound}
use Rattle.fsb_trigger.specs.Match.{step_holds_at, near, matches, chain, least_match}
use Rattle.fsb_trigger.specs.Grammar.{onto_first, parts, cut_of, behind_first, both, all_there, up_to_eight}
use Rattle.fsb_trigger.specs.Grammar.{decimal_value, hex_value, hex_number, short_number, not_zero, bound_of}
use Rattle.fsb_trigger.specs.Grammar.{request_test, address_test, word_test, plain_test, test_of, tests_of, step_within}
use Rattle.fsb_trigger.specs.Grammar.{bounded_step, step_read, steps_read, first_unbound, trigger_of}

abbrev pub three_steps : List StepView
three_steps =
    step_within None (Asserted ADS ∷ []) ∷ step_within None (Asserted HITM ∷ NotAsserted HIT ∷ [])
    ∷ step_within None (Asserted RS2 ∷ Asserted RS1 ∷ NotAsserted RS0 ∷ []) ∷ []

abbrev pub two_steps : ℕ → List StepView
two_steps bound = step_within None (Asserted ADS ∷ []) ∷ step_within (Some bound) (Asserted HITM ∷ []) ∷ []

pub words :
    (trigger_of (codes "ADS/HITM,!HIT/RS2,RS1,!RS0") ≡ Some three_steps)
    × (trigger_of (codes "ADS/<3:HITM") ≡ Some (two_steps 3))
    × (trigger_of (codes "ADS/<4:HITM") ≡ Some (two_steps 4))
    × (trigger_of (codes "A=40") ≡ Some (step_within None (Address 8 ∷ []) ∷ []))
    × (trigger_of (codes "REQ=1F/<000012:D=aF")
    ≡ Some (step_within None (Request 31 ∷ []) ∷ step_within (Some 12) (Data 175 ∷ []) ∷ []))
    × (trigger_of (codes "ADS/") ≡ None) × (trigger_of (codes "<3:ADS") ≡ None)
    × (trigger_of (codes "ADS/<0:HIT") ≡ None) × (trigger_of (codes "REQ=20") ≡ None)
    × (trigger_of (codes "A=41") ≡ None) × (trigger_of [] ≡ None)
unfolding onto_first parts cut_of behind_first both all_there up_to_eight find_row line_named decimal_value
    hex_value hex_number short_number not_zero bound_of request_test address_test word_test plain_test test_of
    tests_of bounded_step step_read steps_read first_unbound trigger_of
words = (refl, refl, refl, refl, refl, refl, refl, refl, refl, refl, refl)

abbrev pub run : List Sample
run =
    known_sample 3 0 0 0 ∷ known_sample 3 0 0 0 ∷ known_sample (3 + 128) 2 8 0 ∷ known_sample 2 2 2 0
    ∷ known_sample 2 0 0 0 ∷ known_sample (2 + 128) 2 8 0 ∷ known_sample 0 2 131074 0 ∷ idle
    ∷ known_sample (4096 + 8192 + 16384 + 65536 + 131072) 0 0 0
    ∷ known_sample (1024 + 65536 + 131072) 0 0 0 ∷ known_sample (65536 + 131072) 0 0 0 ∷ known_sample 131072 0 0 0
    ∷ known_sample 32768 0 0 0 ∷ idle ∷ known_sample (8192 + 16384 + 65536 + 131072) 0 0 0 ∷ []

pub found :
    (least_match three_steps run ≡ Some (5 ∷ 9 ∷ 14 ∷ []))
    × (least_match (two_steps 3) run ≡ None)
    × (least_match (two_steps 4) run ≡ Some (5 ∷ 9 ∷ []))
unfolding any_where first_where last_where test_holds step_holds keeps_bound step_holds_at near matches chain
    least_match
found = (refl, refl, refl)
