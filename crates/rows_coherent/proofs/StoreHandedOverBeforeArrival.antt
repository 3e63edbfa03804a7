-- A store is promised to a second owner before its own bytes have come: the events of the line.
use Rattle.std.proofs.Common.{List, [], arith, false, refl, ◌∷◌, ◌≡◌}
use Rattle.std.proofs.lemmas.Bool.Decides.{nat_tests}
use Rattle.fsb_access.specs.declared.access.Access.TheVariants.{Store}
use Rattle.fsb_access.specs.declared.access.Operand.TheVariants.{Literal}
use Rattle.fsb_timely.specs.Runs.{past_of}
use Rattle.fsb_line.specs.declared.purpose.Purpose.TheVariants.{Own}
use Rattle.fsb_line.specs.Events.{May, after, arrived, effect, given, linked, oldest_ended, replied, responded, settled}
use Rattle.fsb_line.specs.Events.Event.{Begins, Ends, IsGranted, IsHanded, Responds}
use Rattle.fsb_line.specs.Line.{Bytes, put, trimmed, unheld}
use Rattle.fsb_line.specs.LineRuns.{MayRun}
use Rattle.rows_timely.proofs.Interface.{entry, store_handed_over_before_arrival}
use Rattle.fsb_coherent.specs.LineEvents.{changes_of}
use Rattle.rows_coherent.proofs.Dated.{Dated, computed, dated, dated_below, events_of}

-- the events of line 2, each with its clock
abbrev pub dated_events : List Dated
dated_events =
    dated 2 (Begins 0 Own 2)
    ∷ dated 5 (Begins 1 Own 5)
    ∷ dated 6 (IsGranted 0 Own false)
    ∷ dated 8 (Responds)
    ∷ dated 9 (IsHanded 1 Own 0)
    ∷ dated 11 (Ends (changes_of (entry 11 0 0 0 (Store 1 0x40 (Literal 0x1)) 0x1 ∷ [])))
    ∷ dated 14 (Responds)
    ∷ dated 17 (Ends (changes_of (entry 17 1 0 0 (Store 1 0x40 (Literal 0x2)) 0x2 ∷ [])))
    ∷ []

-- they are computed from the run
pub computes : dated_below (past_of store_handed_over_before_arrival) 2 60 ≡ dated_events
unfolding computed
computes = refl

-- and they may happen to a line that nobody holds
pub may_happen : (bytes : Bytes) → MayRun (unheld bytes) (events_of dated_events)
unfolding May after effect trimmed settled linked given put replied responded oldest_ended arrived
may_happen bytes = (
  record {
    no_ask = refl;
    no_link = refl;
    no_deferral = λ d e. absurd (cc);
    suited = refl;
    newest = λ b k e. grind (arith, nat_tests);
    not_held_off = λ b n. refl;
  },
  (
    record {
      no_ask = refl;
      no_link = refl;
      no_deferral = λ d e. absurd (cc);
      suited = refl;
      newest = λ b k e. grind (arith, nat_tests);
      not_held_off = λ b n. refl;
    },
    (
      record {
        settles =
            record {
              oldest = record { number = 2; asked = refl; oldest = λ b k e. grind (arith, nat_tests) };
              clean = λ b n. grind (arith, nat_tests);
            };
        gets = refl;
        unseen = λ e b n. grind (arith, nat_tests);
        not_pending = refl;
      },
      (
        (refl, refl),
        (
          record {
            oldest = record { number = 5; asked = refl; oldest = λ b k e. grind (arith, nat_tests) };
            asks = refl;
            other = omega arith;
            modified = refl;
          },
          (
            refl,
            (
              (refl, refl),
              (
                refl,
                tt,
              ),
            ),
          ),
        ),
      ),
    ),
  ),
)
