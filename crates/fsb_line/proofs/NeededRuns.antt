-- Runs in which a condition of an event is needed: without it the event breaks a promise.
use Rattle.std.proofs.Common.{true, false, [], ◌∷◌, ◌++◌, refl, arith}
use Rattle.std.proofs.lemmas.Bool.Decides.{nat_tests}
use Rattle.fsb_line.specs.Events.{May, after, arrived, effect, oldest_ended, given, linked, replied, responded, settled}
use Rattle.fsb_line.specs.Events.Event.{Begins, Ends, IsGranted, IsHanded, IsReplied, IsUpgraded, IsWritten, Responds}
use Rattle.fsb_line.specs.Events.Event.{Stores}
use Rattle.fsb_line.specs.Line.{put, trimmed}
use Rattle.fsb_line.specs.Witness.{IsNeeded, as_it_is, awaited, byte, contest, deferred, owned, reader, rival, stores}
use Rattle.fsb_line.specs.Witness.{taken_over}
use Rattle.fsb_line.specs.declared.purpose.Purpose.TheVariants.{Own, Read, WriteBack}

pub dirty_owner_gives : IsNeeded (owned ++ reader) (IsGranted 1 Read true) (Responds ∷ Ends as_it_is ∷ [])
unfolding May after effect trimmed settled linked given put replied responded oldest_ended arrived
dirty_owner_gives = record {
  happens = (
    record {
      no_ask = refl;
      no_link = refl;
      no_deferral = λ d e. absurd (cc);
      suited = refl;
      newest = λ b k e. grind (arith, nat_tests);
      not_held_off = λ b n. refl;
    },
    (
      record {
        settles =
            record {
              oldest = record { number = 0; asked = refl; oldest = λ b k e. grind (arith, nat_tests) };
              clean = λ b n. grind (arith, nat_tests);
            };
        gets = refl;
        unseen = λ e b n. grind (arith, nat_tests);
        not_pending = refl;
      },
      (
        (refl, refl),
        (
          refl,
          (
            record {
              no_ask = refl;
              no_link = refl;
              no_deferral = λ d e. absurd (cc);
              suited = refl;
              newest = λ b k e. grind (arith, nat_tests);
              not_held_off = λ b n. refl;
            },
            tt,
          ),
        ),
      ),
    ),
  );
  refuses = λ m. let f = m.settles.clean 0 (omega arith) in absurd (cc);
  goes_on = (
    (refl, refl),
    (
      refl,
      tt,
    ),
  );
  breaks = λ h. let e = h.ready_copies 1 (record { held = refl; no_link = refl }) in absurd (cc);
}

pub owner_without_bytes_gives : IsNeeded (awaited ++ reader) (IsGranted 1 Read true)
    (Responds ∷ Ends (stores 5) ∷ Responds ∷ [])
unfolding May after effect trimmed settled linked given put replied responded oldest_ended arrived
owner_without_bytes_gives = record {
  happens = (
    record {
      no_ask = refl;
      no_link = refl;
      no_deferral = λ d e. absurd (cc);
      suited = refl;
      newest = λ b k e. grind (arith, nat_tests);
      not_held_off = λ b n. refl;
    },
    (
      record {
        settles =
            record {
              oldest = record { number = 0; asked = refl; oldest = λ b k e. grind (arith, nat_tests) };
              clean = λ b n. grind (arith, nat_tests);
            };
        gets = refl;
        unseen = λ e b n. grind (arith, nat_tests);
        not_pending = refl;
      },
      (
        record {
          no_ask = refl;
          no_link = refl;
          no_deferral = λ d e. absurd (cc);
          suited = refl;
          newest = λ b k e. grind (arith, nat_tests);
          not_held_off = λ b n. refl;
        },
        tt,
      ),
    ),
  );
  refuses = λ m. let f = m.settles.clean 0 (omega arith) in absurd (cc);
  goes_on = (
    (refl, refl),
    (
      refl,
      (
        (refl, refl),
        tt,
      ),
    ),
  );
  breaks = λ h. let e = h.bus (byte 0) refl in absurd (cc);
}

pub taken_line_unstored : IsNeeded taken_over (Stores 0 (stores 7)) []
unfolding May after effect trimmed settled linked given put replied responded oldest_ended arrived
taken_line_unstored = record {
  happens = (
    record {
      no_ask = refl;
      no_link = refl;
      no_deferral = λ d e. absurd (cc);
      suited = refl;
      newest = λ b k e. grind (arith, nat_tests);
      not_held_off = λ b n. refl;
    },
    (
      record {
        settles =
            record {
              oldest = record { number = 0; asked = refl; oldest = λ b k e. grind (arith, nat_tests) };
              clean = λ b n. grind (arith, nat_tests);
            };
        gets = refl;
        unseen = λ e b n. grind (arith, nat_tests);
        not_pending = refl;
      },
      (
        (refl, refl),
        (
          refl,
          (
            record {
              no_ask = refl;
              no_link = refl;
              no_deferral = λ d e. absurd (cc);
              suited = refl;
              newest = λ b k e. grind (arith, nat_tests);
              not_held_off = λ b n. refl;
            },
            (
              record {
                oldest = record { number = 1; asked = refl; oldest = λ b k e. grind (arith, nat_tests) };
                asks = refl;
                other = omega arith;
                modified = refl;
              },
              tt,
            ),
          ),
        ),
      ),
    ),
  );
  refuses = λ m. let f = m.1 in absurd (cc);
  goes_on =
      tt;
  breaks = λ h. let e = h.one_writer 0 refl 1 (omega arith) in absurd (cc);
}

pub write_back_held_off : IsNeeded (owned ++ rival) (Begins 0 WriteBack 2)
    (IsHanded 1 Own 0 ∷ IsWritten 0 ∷ Responds ∷ [])
unfolding May after effect trimmed settled linked given put replied responded oldest_ended arrived
write_back_held_off = record {
  happens = (
    record {
      no_ask = refl;
      no_link = refl;
      no_deferral = λ d e. absurd (cc);
      suited = refl;
      newest = λ b k e. grind (arith, nat_tests);
      not_held_off = λ b n. refl;
    },
    (
      record {
        settles =
            record {
              oldest = record { number = 0; asked = refl; oldest = λ b k e. grind (arith, nat_tests) };
              clean = λ b n. grind (arith, nat_tests);
            };
        gets = refl;
        unseen = λ e b n. grind (arith, nat_tests);
        not_pending = refl;
      },
      (
        (refl, refl),
        (
          refl,
          (
            record {
              no_ask = refl;
              no_link = refl;
              no_deferral = λ d e. absurd (cc);
              suited = refl;
              newest = λ b k e. grind (arith, nat_tests);
              not_held_off = λ b n. refl;
            },
            tt,
          ),
        ),
      ),
    ),
  );
  refuses = λ m. let f = m.not_held_off 1 (omega arith) in absurd (cc);
  goes_on = (
    record {
      oldest = record { number = 1; asked = refl; oldest = λ b k e. grind (arith, nat_tests) };
      asks = refl;
      other = omega arith;
      modified = refl;
    },
    (
      record { number = 2; asked = refl; oldest = λ b k e. grind (arith, nat_tests) },
      (
        (refl, refl),
        tt,
      ),
    ),
  );
  breaks = λ h. let e = h.bus [] refl in absurd (cc);
}

pub pending_line_ungranted : IsNeeded deferred (IsGranted 1 Own false) (IsReplied ∷ [])
unfolding May after effect trimmed settled linked given put replied responded oldest_ended arrived
pending_line_ungranted = record {
  happens = (
    record {
      no_ask = refl;
      no_link = refl;
      no_deferral = λ d e. absurd (cc);
      suited = refl;
      newest = λ b k e. grind (arith, nat_tests);
      not_held_off = λ b n. refl;
    },
    (
      record {
        settles =
            record {
              oldest = record { number = 0; asked = refl; oldest = λ b k e. grind (arith, nat_tests) };
              clean = λ b n. grind (arith, nat_tests);
            };
        gets = refl;
        unseen = λ e b n. grind (arith, nat_tests);
        not_pending = refl;
      },
      (
        record {
          no_ask = refl;
          no_link = refl;
          no_deferral = λ d e. grind (arith, nat_tests);
          suited = refl;
          newest = λ b k e. grind (arith, nat_tests);
          not_held_off = λ b n. refl;
        },
        tt,
      ),
    ),
  );
  refuses = λ m. let f = m.not_pending in absurd (cc);
  goes_on = (
    refl,
    tt,
  );
  breaks = λ h. let e = h.one_writer 0 refl 1 (omega arith) in absurd (cc);
}

pub lost_upgrade_unwon : IsNeeded contest (IsUpgraded 1) (Ends (stores 7) ∷ [])
unfolding May after effect trimmed settled linked given put replied responded oldest_ended arrived
lost_upgrade_unwon = record {
  happens = (
    record {
      no_ask = refl;
      no_link = refl;
      no_deferral = λ d e. absurd (cc);
      suited = refl;
      newest = λ b k e. grind (arith, nat_tests);
      not_held_off = λ b n. refl;
    },
    (
      record {
        settles =
            record {
              oldest = record { number = 0; asked = refl; oldest = λ b k e. grind (arith, nat_tests) };
              clean = λ b n. grind (arith, nat_tests);
            };
        gets = refl;
        unseen = λ e b n. grind (arith, nat_tests);
        not_pending = refl;
      },
      (
        (refl, refl),
        (
          refl,
          (
            record {
              no_ask = refl;
              no_link = refl;
              no_deferral = λ d e. absurd (cc);
              suited = refl;
              newest = λ b k e. grind (arith, nat_tests);
              not_held_off = λ b n. refl;
            },
            (
              record {
                settles =
                    record {
                      oldest = record {
                        number = 1;
                        asked = refl;
                        oldest = λ b k e. grind (arith, nat_tests);
                      };
                      clean = λ b n. grind (arith, nat_tests);
                    };
                gets = refl;
                unseen = λ e b n. absurd (cc);
                not_pending = refl;
              },
              (
                (refl, refl),
                (
                  refl,
                  (
                    record {
                      no_ask = refl;
                      no_link = refl;
                      no_deferral = λ d e. absurd (cc);
                      suited = refl;
                      newest = λ b k e. grind (arith, nat_tests);
                      not_held_off = λ b n. refl;
                    },
                    (
                      record {
                        no_ask = refl;
                        no_link = refl;
                        no_deferral = λ d e. absurd (cc);
                        suited = refl;
                        newest = λ b k e. grind (arith, nat_tests);
                        not_held_off = λ b n. refl;
                      },
                      (
                        (
                          record {
                            oldest =
                                record { number = 2; asked = refl; oldest = λ b k e. grind (arith, nat_tests) };
                            clean = λ b n. grind (arith, nat_tests);
                          },
                          refl,
                        ),
                        tt,
                      ),
                    ),
                  ),
                ),
              ),
            ),
          ),
        ),
      ),
    ),
  );
  refuses = λ m. let f = m.held in absurd (cc);
  goes_on = (
    refl,
    tt,
  );
  breaks = λ h. let e = h.memory refl (λ b. grind (arith, nat_tests)) in absurd (cc);
}

-- what the laws cite
pub ruleset needs = (
  dirty_owner_gives,
  owner_without_bytes_gives,
  taken_line_unstored,
  write_back_held_off,
  pending_line_ungranted,
  lost_upgrade_unwon,
)
