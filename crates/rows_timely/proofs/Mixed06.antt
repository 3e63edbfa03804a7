-- Made by lab/worked_runs.py of the stored run mixed_06; not to be edited.
use Rattle.rows_timely.proofs.Words.{Run, scripted, plain, ◌+◌, [], ◌∷◌, ◌++◌, One, Locked, Idle, Load, Store, Literal}
use Rattle.rows_timely.proofs.Words.{setting, Stall, Trdy, Resp, Gap, Defer, Aerr, on, pair, chunk, full, idle, idles}
use Rattle.rows_timely.proofs.Words.{b0, b1, lock, ads, aerr, hit, rs, trdy, dbsy, drdy, entry}

abbrev pub run : Run
run = scripted
    (record plain {
      clocks = 71;
      cache = 1;
      ahead = 3;
      mem = setting 0x93e896f8 0xe7 ∷ setting 0x93e896a6 0x3d ∷ setting 0x93e896a4 0x88 ∷ setting 0x93e896d1 0x35 ∷ [];
      hazards = Aerr 0 ∷ Resp 4 2 ∷ Trdy 8 1 ∷ Resp 8 3 ∷ Stall 8 1 ∷ Aerr 9 ∷ Gap 13 2 ∷ Defer 13 12 ∷ Resp 19 2 ∷ [];
    })
    ((One (Load 1 0x93e896e3) ∷ One (Load 8 0x93e896a0) ∷ One (Load 4 0x93e896d4)
    ∷ One (Store 8 0x93e896a0 (Literal 0x5abaa18f0913f420)) ∷ []) ∷ (Locked (Load 1 0x93e896ac ∷ [])
    ∷ One (Load 1 0x93e896c0) ∷ Idle 10 ∷ Idle 38 ∷ []) ∷ [])
    (on (b0 + b1) ∷ on (b0 + b1) ∷ pair (b0 + b1 + ads) 0x6 0x127d12dc ∷ pair b1 0x2 0x2 ∷ on b1
    ∷ pair (b1 + lock + ads + aerr) 0x2 0x127d12d5 ∷ pair (b0 + lock) 0x2 0x20000 ∷ on (b0 + lock) ∷ on (b0 + lock)
    ∷ on (b0 + lock) ∷ on (b0 + lock) ∷ on (b0 + lock + rs 7 + dbsy + drdy)
    ∷ chunk (b0 + lock + dbsy + drdy) 0x3d008800000000 ∷ on (b0 + lock + dbsy + drdy) ∷ on (b0 + lock + drdy)
    ∷ on (b0 + b1) ∷ on (b0 + b1) ∷ pair (b0 + b1 + ads) 0x6 0x127d12dc ∷ pair b1 0x2 0x2 ∷ on b1
    ∷ pair (b1 + ads) 0x5 0x127d12d4 ∷ pair 0 0x2 0x20000 ∷ idle ∷ on (rs 7 + dbsy + drdy) ∷ on (dbsy + drdy)
    ∷ on (dbsy + drdy) ∷ chunk drdy 0xe7 ∷ on (b0 + trdy) ∷ on b0
    ∷ full (b0 + ads + rs 5 + dbsy + drdy) 0x6 0x127d12d4 0x3d008800000000 ∷ pair (dbsy + drdy) 0x2 0x2
    ∷ on (dbsy + drdy) ∷ on drdy ∷ on b1 ∷ on b1 ∷ pair (b1 + ads) 0x6 0x127d12d8 ∷ pair 0 0x2 0x20002
    ∷ chunk (rs 7 + dbsy + drdy) 0x3d008800000000 ∷ on (dbsy + drdy) ∷ on (dbsy + drdy) ∷ on drdy
    ∷ on (b0 + rs 7 + dbsy + drdy) ∷ on (b0 + dbsy + drdy) ∷ full (b0 + ads + dbsy + drdy) 0x6 0x127d12da 0x3500
    ∷ pair drdy 0x2 0x2 ∷ idle ∷ idle ∷ on hit ∷ idle ∷ chunk (rs 7 + dbsy + drdy) 0x3500 ∷ on (dbsy + drdy)
    ∷ on (dbsy + drdy) ∷ on drdy ∷ on b0 ∷ on b0 ∷ pair (b0 + ads) 0x2 0x127d12d4 ∷ pair 0 0x2 0x2 ∷ idles 4
    ++ chunk (rs 7 + dbsy + drdy) 0x3d008800000000 ∷ on (dbsy + drdy) ∷ on (dbsy + drdy) ∷ on drdy ∷ idles 6)
    (entry 14 1 0 0 (Load 1 0x93e896ac) 0x0 ∷ entry 26 0 0 0 (Load 1 0x93e896e3) 0x0
    ∷ entry 40 0 1 0 (Load 8 0x93e896a0) 0x3d008800000000 ∷ entry 44 1 1 0 (Load 1 0x93e896c0) 0x0
    ∷ entry 52 0 2 0 (Load 4 0x93e896d4) 0x0
    ∷ entry 64 0 3 0 (Store 8 0x93e896a0 (Literal 0x5abaa18f0913f420)) 0x5abaa18f0913f420 ∷ [])
