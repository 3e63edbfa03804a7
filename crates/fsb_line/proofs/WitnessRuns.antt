-- The worked runs may happen, and end as they should.
use Rattle.std.proofs.Common.{◌≡◌, [], refl, length, arith}
use Rattle.std.proofs.lemmas.Bool.Decides.{nat_tests}
use Rattle.fsb_line.specs.Events.{May, after, arrived, effect, oldest_ended, given, linked, replied, responded, settled}
use Rattle.fsb_line.specs.Line.{put, trimmed, unheld}
use Rattle.fsb_line.specs.LineRuns.{MayRun, run}
use Rattle.fsb_line.specs.Witness.{byte, deferral, deliveries, lost_upgrade, promises, sharing, upgrade_race}
use Rattle.fsb_line.specs.Witness.{write_back}

pub promises_may_happen : MayRun (unheld (byte 0)) promises
unfolding May after effect trimmed settled linked given put replied responded oldest_ended arrived
promises_may_happen = (
  record {
    no_ask = refl;
    no_link = refl;
    no_deferral = λ d e. absurd (cc);
    suited = refl;
    newest = λ b k e. absurd (cc);
    not_held_off = λ b n. refl;
  },
  (
    record {
      no_ask = refl;
      no_link = refl;
      no_deferral = λ d e. absurd (cc);
      suited = refl;
      newest = λ b k e. grind (arith, nat_tests);
      not_held_off = λ b n. refl;
    },
    (
      record {
        no_ask = refl;
        no_link = refl;
        no_deferral = λ d e. absurd (cc);
        suited = refl;
        newest = λ b k e. grind (arith, nat_tests);
        not_held_off = λ b n. refl;
      },
      (
        record {
          settles =
              record {
                oldest = record { number = 0; asked = refl; oldest = λ b k e. grind (arith, nat_tests) };
                clean = λ b n. grind (arith, nat_tests);
              };
          gets = refl;
          unseen = λ e b n. grind (arith, nat_tests);
          not_pending = refl;
        },
        (
          record {
            oldest = record { number = 1; asked = refl; oldest = λ b k e. grind (arith, nat_tests) };
            asks = refl;
            other = omega arith;
            modified = refl;
          },
          (
            record {
              oldest = record { number = 2; asked = refl; oldest = λ b k e. grind (arith, nat_tests) };
              asks = refl;
              other = omega arith;
              modified = refl;
            },
            tt,
          ),
        ),
      ),
    ),
  ),
)

pub deliveries_may_happen : MayRun (run (unheld (byte 0)) promises) deliveries
unfolding May after effect trimmed settled linked given put replied responded oldest_ended arrived
deliveries_may_happen = (
  (refl, refl),
  (
    refl,
    (
      (refl, refl),
      (
        refl,
        (
          (refl, refl),
          (
            refl,
            (
              record { held = refl; no_link = refl },
              tt,
            ),
          ),
        ),
      ),
    ),
  ),
)

pub deferral_may_happen : MayRun (unheld (byte 0)) deferral
unfolding May after effect trimmed settled linked given put replied responded oldest_ended arrived
deferral_may_happen = (
  record {
    no_ask = refl;
    no_link = refl;
    no_deferral = λ d e. absurd (cc);
    suited = refl;
    newest = λ b k e. grind (arith, nat_tests);
    not_held_off = λ b n. refl;
  },
  (
    record {
      settles =
          record {
            oldest = record { number = 0; asked = refl; oldest = λ b k e. grind (arith, nat_tests) };
            clean = λ b n. grind (arith, nat_tests);
          };
      gets = refl;
      unseen = λ e b n. grind (arith, nat_tests);
      not_pending = refl;
    },
    (
      record {
        no_ask = refl;
        no_link = refl;
        no_deferral = λ d e. grind (arith, nat_tests);
        suited = refl;
        newest = λ b k e. grind (arith, nat_tests);
        not_held_off = λ b n. refl;
      },
      (
        (
          record {
            oldest = record { number = 1; asked = refl; oldest = λ b k e. grind (arith, nat_tests) };
            clean = λ b n. grind (arith, nat_tests);
          },
          refl,
        ),
        (
          refl,
          (
            record {
              no_ask = refl;
              no_link = refl;
              no_deferral = λ d e. absurd (cc);
              suited = refl;
              newest = λ b k e. grind (arith, nat_tests);
              not_held_off = λ b n. refl;
            },
            (
              record {
                oldest = record { number = 2; asked = refl; oldest = λ b k e. grind (arith, nat_tests) };
                asks = refl;
                other = omega arith;
                modified = refl;
              },
              (
                (refl, refl),
                (
                  refl,
                  (
                    (refl, refl),
                    (
                      refl,
                      (
                        record { held = refl; no_link = refl },
                        tt,
                      ),
                    ),
                  ),
                ),
              ),
            ),
          ),
        ),
      ),
    ),
  ),
)

pub sharing_may_happen : MayRun (unheld (byte 0)) sharing
unfolding May after effect trimmed settled linked given put replied responded oldest_ended arrived
sharing_may_happen = (
  record {
    no_ask = refl;
    no_link = refl;
    no_deferral = λ d e. absurd (cc);
    suited = refl;
    newest = λ b k e. grind (arith, nat_tests);
    not_held_off = λ b n. refl;
  },
  (
    record {
      settles =
          record {
            oldest = record { number = 0; asked = refl; oldest = λ b k e. grind (arith, nat_tests) };
            clean = λ b n. grind (arith, nat_tests);
          };
      gets = refl;
      unseen = λ e b n. grind (arith, nat_tests);
      not_pending = refl;
    },
    (
      (refl, refl),
      (
        refl,
        (
          record {
            no_ask = refl;
            no_link = refl;
            no_deferral = λ d e. absurd (cc);
            suited = refl;
            newest = λ b k e. grind (arith, nat_tests);
            not_held_off = λ b n. refl;
          },
          (
            record {
              settles =
                  record {
                    oldest = record {
                      number = 1;
                      asked = refl;
                      oldest = λ b k e. grind (arith, nat_tests);
                    };
                    clean = λ b n. grind (arith, nat_tests);
                  };
              gets = refl;
              unseen = λ e b n. absurd (cc);
              not_pending = refl;
            },
            (
              (refl, refl),
              (
                refl,
                tt,
              ),
            ),
          ),
        ),
      ),
    ),
  ),
)

pub upgrade_race_may_happen : MayRun (run (unheld (byte 0)) sharing) upgrade_race
unfolding May after effect trimmed settled linked given put replied responded oldest_ended arrived
upgrade_race_may_happen = (
  record {
    no_ask = refl;
    no_link = refl;
    no_deferral = λ d e. absurd (cc);
    suited = refl;
    newest = λ b k e. grind (arith, nat_tests);
    not_held_off = λ b n. refl;
  },
  (
    record {
      no_ask = refl;
      no_link = refl;
      no_deferral = λ d e. absurd (cc);
      suited = refl;
      newest = λ b k e. grind (arith, nat_tests);
      not_held_off = λ b n. refl;
    },
    (
      record {
        settles =
            record {
              oldest = record { number = 2; asked = refl; oldest = λ b k e. grind (arith, nat_tests) };
              clean = λ b n. grind (arith, nat_tests);
            };
        held = refl;
        not_pending = refl;
      },
      (
        record {
          oldest = record { number = 3; asked = refl; oldest = λ b k e. grind (arith, nat_tests) };
          asks = refl;
          other = omega arith;
          modified = refl;
        },
        (
          refl,
          (
            (refl, refl),
            (
              refl,
              (
                record { held = refl; no_link = refl },
                tt,
              ),
            ),
          ),
        ),
      ),
    ),
  ),
)

pub lost_upgrade_may_happen : MayRun (run (unheld (byte 0)) sharing) lost_upgrade
unfolding May after effect trimmed settled linked given put replied responded oldest_ended arrived
lost_upgrade_may_happen = (
  record {
    no_ask = refl;
    no_link = refl;
    no_deferral = λ d e. absurd (cc);
    suited = refl;
    newest = λ b k e. grind (arith, nat_tests);
    not_held_off = λ b n. refl;
  },
  (
    record {
      no_ask = refl;
      no_link = refl;
      no_deferral = λ d e. absurd (cc);
      suited = refl;
      newest = λ b k e. grind (arith, nat_tests);
      not_held_off = λ b n. refl;
    },
    (
      (
        record {
          oldest = record { number = 2; asked = refl; oldest = λ b k e. grind (arith, nat_tests) };
          clean = λ b n. grind (arith, nat_tests);
        },
        refl,
      ),
      (
        record {
          settles =
              record {
                oldest = record { number = 3; asked = refl; oldest = λ b k e. grind (arith, nat_tests) };
                clean = λ b n. grind (arith, nat_tests);
              };
          lost = refl;
          not_pending = refl;
        },
        (
          record {
            no_ask = refl;
            no_link = refl;
            no_deferral = λ d e. absurd (cc);
            suited = refl;
            newest = λ b k e. grind (arith, nat_tests);
            not_held_off = λ b n. refl;
          },
          (
            record {
              settles =
                  record {
                    oldest = record {
                      number = 4;
                      asked = refl;
                      oldest = λ b k e. grind (arith, nat_tests);
                    };
                    clean = λ b n. grind (arith, nat_tests);
                  };
              gets = refl;
              unseen = λ e b n. absurd (cc);
              not_pending = refl;
            },
            (
              (refl, refl),
              (
                refl,
                (
                  record { held = refl; no_link = refl },
                  tt,
                ),
              ),
            ),
          ),
        ),
      ),
    ),
  ),
)

pub write_back_may_happen : MayRun (unheld (byte 0)) write_back
unfolding May after effect trimmed settled linked given put replied responded oldest_ended arrived
write_back_may_happen = (
  record {
    no_ask = refl;
    no_link = refl;
    no_deferral = λ d e. absurd (cc);
    suited = refl;
    newest = λ b k e. grind (arith, nat_tests);
    not_held_off = λ b n. refl;
  },
  (
    record {
      settles =
          record {
            oldest = record { number = 0; asked = refl; oldest = λ b k e. grind (arith, nat_tests) };
            clean = λ b n. grind (arith, nat_tests);
          };
      gets = refl;
      unseen = λ e b n. grind (arith, nat_tests);
      not_pending = refl;
    },
    (
      (refl, refl),
      (
        refl,
        (
          (record { held = refl; no_link = refl }, refl),
          (
            record {
              no_ask = refl;
              no_link = refl;
              no_deferral = λ d e. absurd (cc);
              suited = refl;
              newest = λ b k e. grind (arith, nat_tests);
              not_held_off = λ b n. grind (arith, nat_tests);
            },
            (
              record {
                no_ask = refl;
                no_link = refl;
                no_deferral = λ d e. absurd (cc);
                suited = refl;
                newest = λ b k e. grind (arith, nat_tests);
                not_held_off = λ b n. refl;
              },
              (
                record {
                  no_ask = refl;
                  no_link = refl;
                  no_deferral = λ d e. absurd (cc);
                  suited = refl;
                  newest = λ b k e. grind (arith, nat_tests);
                  not_held_off = λ b n. refl;
                },
                (
                  tt,
                  (
                    record { number = 1; asked = refl; oldest = λ b k e. grind (arith, nat_tests) },
                    (
                      record {
                        settles =
                            record {
                              oldest = record {
                                number = 2;
                                asked = refl;
                                oldest = λ b k e. grind (arith, nat_tests);
                              };
                              clean = λ b n. grind (arith, nat_tests);
                            };
                        gets = refl;
                        unseen = λ e b n. grind (arith, nat_tests);
                        not_pending = refl;
                      },
                      (
                        (refl, refl),
                        (
                          refl,
                          (
                            (refl, refl),
                            (
                              refl,
                              (
                                record { held = refl; no_link = refl },
                                (
                                  refl,
                                  tt,
                                ),
                              ),
                            ),
                          ),
                        ),
                      ),
                    ),
                  ),
                ),
              ),
            ),
          ),
        ),
      ),
    ),
  ),
)

pub race_awaits : length (run (unheld (byte 0)) promises).chain ≡ 3
unfolding after effect trimmed settled linked given put replied responded oldest_ended arrived
race_awaits = refl

pub race_ends : (run (run (unheld (byte 0)) promises) deliveries).chain ≡ []
unfolding after effect trimmed settled linked given put replied responded oldest_ended arrived
race_ends = refl

pub race_is_read : (run (run (unheld (byte 0)) promises) deliveries).copy 2 ≡ byte 7
unfolding after effect trimmed settled linked given put replied responded oldest_ended arrived
race_is_read = refl

pub deferral_is_read : (run (unheld (byte 0)) deferral).copy 1 ≡ byte 5
unfolding after effect trimmed settled linked given put replied responded oldest_ended arrived
deferral_is_read = refl

pub upgrade_race_is_stored : (run (run (unheld (byte 0)) sharing) upgrade_race).copy 1 ≡ byte 7
unfolding after effect trimmed settled linked given put replied responded oldest_ended arrived
upgrade_race_is_stored = refl

pub lost_upgrade_is_stored : (run (run (unheld (byte 0)) sharing) lost_upgrade).copy 1 ≡ byte 7
unfolding after effect trimmed settled linked given put replied responded oldest_ended arrived
lost_upgrade_is_stored = refl

pub write_back_is_kept : (run (unheld (byte 0)) write_back).memory ≡ byte 7
unfolding after effect trimmed settled linked given put replied responded oldest_ended arrived
write_back_is_kept = refl

-- what the laws cite
pub ruleset races = (
  promises_may_happen,
  deliveries_may_happen,
  deferral_may_happen,
  sharing_may_happen,
  upgrade_race_may_happen,
  lost_upgrade_may_happen,
  write_back_may_happen,
  race_awaits,
  race_ends,
  race_is_read,
  deferral_is_read,
  upgrade_race_is_stored,
  lost_upgrade_is_stored,
  write_back_is_kept,
)
