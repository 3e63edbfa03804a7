-- A load is deferred, and its reply comes while a store waits for the line: the events of the line.
use Rattle.std.proofs.Common.{List, [], arith, false, refl, true, ◌∷◌, ◌≡◌}
use Rattle.std.proofs.lemmas.Bool.Decides.{nat_tests}
use Rattle.fsb_access.specs.declared.access.Access.TheVariants.{Store}
use Rattle.fsb_access.specs.declared.access.Operand.TheVariants.{Literal}
use Rattle.fsb_timely.specs.Runs.{past_of}
use Rattle.fsb_line.specs.declared.purpose.Purpose.TheVariants.{Own, Read}
use Rattle.fsb_line.specs.Events.{May, after, arrived, effect, given, linked, oldest_ended, replied, responded, settled}
use Rattle.fsb_line.specs.Events.Event.{Begins, Ends, IsDeferred, IsGranted, IsReplied, IsRetried, Responds}
use Rattle.fsb_line.specs.Line.{Bytes, put, trimmed, unheld}
use Rattle.fsb_line.specs.LineRuns.{MayRun}
use Rattle.rows_timely.proofs.Interface.{entry, deferred_and_replied}
use Rattle.fsb_coherent.specs.LineEvents.{changes_of}
use Rattle.rows_coherent.proofs.Dated.{Dated, computed, dated, dated_below, events_of}

-- the events of line 128, each with its clock
abbrev pub dated_events : List Dated
dated_events =
    dated 2 (Begins 0 Read 2)
    ∷ dated 5 (Begins 1 Own 5)
    ∷ dated 6 (IsDeferred 0 Read false)
    ∷ dated 9 (IsRetried 1 Own)
    ∷ dated 14 (Begins 1 Own 14)
    ∷ dated 18 (IsRetried 1 Own)
    ∷ dated 24 (Begins 1 Own 24)
    ∷ dated 25 (IsReplied)
    ∷ dated 27 (Responds)
    ∷ dated 28 (IsGranted 1 Own true)
    ∷ dated 30 (Ends (changes_of []))
    ∷ dated 31 (Responds)
    ∷ dated 34 (Ends (changes_of (entry 34 1 0 0 (Store 1 0x1000 (Literal 0x3)) 0x3 ∷ [])))
    ∷ []

-- they are computed from the run
pub computes : dated_below (past_of deferred_and_replied) 128 60 ≡ dated_events
unfolding computed
computes = refl

-- and they may happen to a line that nobody holds
pub may_happen : (bytes : Bytes) → MayRun (unheld bytes) (events_of dated_events)
unfolding May after effect trimmed settled linked given put replied responded oldest_ended arrived
may_happen bytes = (
  record {
    no_ask = refl;
    no_link = refl;
    no_deferral = λ d e. absurd (cc);
    suited = refl;
    newest = λ b k e. grind (arith, nat_tests);
    not_held_off = λ b n. refl;
  },
  (
    record {
      no_ask = refl;
      no_link = refl;
      no_deferral = λ d e. absurd (cc);
      suited = refl;
      newest = λ b k e. grind (arith, nat_tests);
      not_held_off = λ b n. refl;
    },
    (
      record {
        settles =
            record {
              oldest = record { number = 2; asked = refl; oldest = λ b k e. grind (arith, nat_tests) };
              clean = λ b n. grind (arith, nat_tests);
            };
        gets = refl;
        unseen = λ e b n. grind (arith, nat_tests);
        not_pending = refl;
      },
      (
        (
          record {
            oldest = record { number = 5; asked = refl; oldest = λ b k e. grind (arith, nat_tests) };
            clean = λ b n. grind (arith, nat_tests);
          },
          refl,
        ),
        (
          record {
            no_ask = refl;
            no_link = refl;
            no_deferral = λ d e. grind (arith, nat_tests);
            suited = refl;
            newest = λ b k e. grind (arith, nat_tests);
            not_held_off = λ b n. refl;
          },
          (
            (
              record {
                oldest = record { number = 14; asked = refl; oldest = λ b k e. grind (arith, nat_tests) };
                clean = λ b n. grind (arith, nat_tests);
              },
              refl,
            ),
            (
              record {
                no_ask = refl;
                no_link = refl;
                no_deferral = λ d e. grind (arith, nat_tests);
                suited = refl;
                newest = λ b k e. grind (arith, nat_tests);
                not_held_off = λ b n. refl;
              },
              (
                refl,
                (
                  (refl, refl),
                  (
                    record {
                      settles =
                          record {
                            oldest = record {
                              number = 24;
                              asked = refl;
                              oldest = λ b k e. grind (arith, nat_tests);
                            };
                            clean = λ b n. grind (arith, nat_tests);
                          };
                      gets = refl;
                      unseen = λ e b n. absurd (cc);
                      not_pending = refl;
                    },
                    (
                      refl,
                      (
                        (refl, refl),
                        (
                          refl,
                          tt,
                        ),
                      ),
                    ),
                  ),
                ),
              ),
            ),
          ),
        ),
      ),
    ),
  ),
)
