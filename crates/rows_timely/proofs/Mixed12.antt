-- Made by lab/worked_runs.py of the stored run mixed_12; not to be edited.
use Rattle.rows_timely.proofs.Words.{Run, scripted, plain, ◌+◌, [], ◌∷◌, Some, One, Load, Stall, Trdy, Resp, Gap, Retry}
use Rattle.rows_timely.proofs.Words.{Defer, Aerr, Bnr, on, pair, idle, idles, b0, bnr, ads, aerr, hit, hitm, defer, rs}
use Rattle.rows_timely.proofs.Words.{dbsy, drdy, entry}

abbrev pub run : Run
run = scripted
    (record plain {
      clocks = 46;
      cache = 1;
      ahead = 2;
      bridge = Some (record { base = 0x600; size = 0x20 });
      hazards = Retry 0 ∷ Defer 4 4 ∷ Trdy 12 6 ∷ Bnr 47 47 ∷ Gap 11 7 ∷ Trdy 11 2 ∷ Aerr 12 ∷ Trdy 12 1 ∷ Gap 9 2
          ∷ Aerr 1 ∷ Retry 0 ∷ Aerr 8 ∷ Defer 4 9 ∷ Bnr 19 20 ∷ Resp 4 5 ∷ Bnr 22 24 ∷ Stall 2 1 ∷ Retry 9 ∷ Bnr 13 14
          ∷ Retry 3 ∷ Defer 9 7 ∷ Trdy 11 1 ∷ [];
    })
    ((One (Load 8 0x600) ∷ One (Load 2 0x600) ∷ One (Load 2 0x618) ∷ []) ∷ [])
    (on b0 ∷ on b0 ∷ pair (b0 + ads) 0x6 0xc0 ∷ pair 0 0x2 0x2 ∷ idle ∷ idle ∷ on defer ∷ idle ∷ on (rs 1) ∷ on b0
    ∷ on b0 ∷ pair (b0 + ads) 0x6 0xc0 ∷ pair 0 0x2 0x2 ∷ on bnr ∷ on (bnr + aerr) ∷ on b0 ∷ on b0
    ∷ pair (b0 + ads) 0x6 0xc0 ∷ pair 0 0x2 0x2 ∷ on bnr ∷ on bnr ∷ on (hit + hitm) ∷ on bnr ∷ on bnr ∷ on bnr
    ∷ on (rs 7 + dbsy + drdy) ∷ on (dbsy + drdy) ∷ on (dbsy + drdy) ∷ on drdy ∷ idles 17)
    (entry 28 0 0 0 (Load 8 0x600) 0x0 ∷ entry 29 0 1 0 (Load 2 0x600) 0x0 ∷ entry 30 0 2 0 (Load 2 0x618) 0x0 ∷ [])
