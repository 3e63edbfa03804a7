-- Made by lab/worked_runs.py of the stored run mixed_04; not to be edited.
use Rattle.rows_timely.proofs.Words.{Run, scripted, plain, ◌+◌, [], ◌∷◌, ◌++◌, Some, One, Locked, Idle, Load, Store}
use Rattle.rows_timely.proofs.Words.{Literal, LastPlus, Stall, Trdy, Resp, Retry, Defer, Aerr, on, pair, chunk, full}
use Rattle.rows_timely.proofs.Words.{idle, idles, b0, b1, ads, aerr, hit, hitm, rs, trdy, dbsy, drdy, entry}

abbrev pub run : Run
run = scripted
    (record plain {
      clocks = 83;
      cache = 1;
      ahead = 2;
      bridge = Some (record { base = 0xffffffc0; size = 0x20 });
      hazards = Stall 0 4 ∷ Trdy 6 9 ∷ Aerr 6 ∷ Aerr 6 ∷ Aerr 6 ∷ Retry 8 ∷ Defer 9 10 ∷ Resp 9 4 ∷ Aerr 18 ∷ Retry 22
          ∷ [];
    })
    ((One (Load 2 0x100000034) ∷ Locked (Load 8 0x100000020 ∷ Load 8 0x100000030 ∷ Load 1 0x10000002c
    ∷ Store 8 0x100000030 (Literal 0x8f5e3fdaa7cd36ac) ∷ Load 8 0x100000020 ∷ [])
    ∷ One (Store 2 0xffffffc0 (LastPlus 0x30fb)) ∷ One (Store 4 0x10000002c (LastPlus 0x2)) ∷ Idle 5
    ∷ One (Store 1 0xffffffc0 (LastPlus 0x3)) ∷ One (Load 1 0xffffffd6) ∷ One (Load 2 0x100000020)
    ∷ One (Load 8 0xffffffd8) ∷ []) ∷ (One (Load 4 0xffffffd0) ∷ Idle 7 ∷ One (Load 4 0x100000028)
    ∷ One (Load 1 0xffffffdd) ∷ Idle 2 ∷ One (Load 4 0xffffffcc) ∷ []) ∷ [])
    (on (b0 + b1) ∷ on (b0 + b1) ∷ pair (b0 + b1 + ads) 0xe 0x20000006 ∷ pair b1 0x2 0x2 ∷ on b1
    ∷ pair (b1 + ads) 0x6 0x1ffffffa ∷ pair (hit + hitm) 0x2 0x20002 ∷ idle ∷ on (hit + hitm) ∷ idle ∷ on (hit + hitm)
    ∷ idle ∷ on (hit + hitm) ∷ idles 3 ++ on (rs 7 + dbsy + drdy) ∷ on (dbsy + drdy) ∷ on (dbsy + drdy) ∷ on drdy
    ∷ on (rs 7 + dbsy + drdy) ∷ on (b0 + dbsy + drdy) ∷ on (b0 + dbsy + drdy) ∷ pair (b0 + ads + drdy) 0xd 0x20000004
    ∷ pair 0 0x2 0x0 ∷ idles 4 ++ on trdy ∷ idle ∷ on (b1 + rs 5 + dbsy + drdy) ∷ on (b1 + dbsy + drdy)
    ∷ full (b1 + ads + dbsy + drdy) 0xe 0x20000005 0x8f5e3fdaa7cd36ac ∷ pair drdy 0x2 0x20002 ∷ on b0 ∷ on b0
    ∷ pair (b0 + ads) 0x2 0x1ffffff8 ∷ pair 0 0x2 0x2 ∷ on (rs 7 + dbsy + drdy) ∷ on (dbsy + drdy) ∷ on (dbsy + drdy)
    ∷ chunk drdy 0x8f5e3fdaa7cd36ac ∷ on (b1 + rs 7 + dbsy + drdy) ∷ on (b1 + dbsy + drdy)
    ∷ pair (b1 + ads + dbsy + drdy) 0x6 0x1ffffffb ∷ pair drdy 0x2 0x20002 ∷ on b0 ∷ on b0 ∷ on (b0 + hitm)
    ∷ pair (b0 + ads) 0xa 0x20000005 ∷ pair trdy 0x2 0x2 ∷ idle ∷ on (aerr + rs 6 + dbsy + drdy)
    ∷ on (b0 + dbsy + drdy) ∷ on (b0 + dbsy + drdy) ∷ full (b0 + ads + drdy) 0xa 0x20000005 0x30fb ∷ pair 0 0x2 0x2
    ∷ idles 4 ++ on (rs 7 + dbsy + drdy) ∷ on (dbsy + drdy) ∷ on (dbsy + drdy) ∷ chunk drdy 0x8f5e3fdaa7cd36ac
    ∷ idles 5 ++ on b0 ∷ on b0 ∷ pair (b0 + ads) 0xd 0x20000004 ∷ pair 0 0x2 0x0 ∷ idles 4 ++ on trdy ∷ idle
    ∷ on (rs 5 + dbsy + drdy) ∷ chunk (dbsy + drdy) 0x200000000 ∷ [])
    (entry 19 0 0 0 (Load 2 0x100000034) 0x0 ∷ entry 20 0 1 0 (Load 8 0x100000020) 0x0
    ∷ entry 20 0 1 1 (Load 8 0x100000030) 0x0 ∷ entry 20 0 1 2 (Load 1 0x10000002c) 0x0
    ∷ entry 20 0 1 3 (Store 8 0x100000030 (Literal 0x8f5e3fdaa7cd36ac)) 0x8f5e3fdaa7cd36ac
    ∷ entry 20 0 1 4 (Load 8 0x100000020) 0x0 ∷ entry 23 1 0 0 (Load 4 0xffffffd0) 0x0
    ∷ entry 42 1 2 0 (Load 4 0x100000028) 0x0 ∷ entry 46 0 2 0 (Store 2 0xffffffc0 (LastPlus 0x30fb)) 0x30fb
    ∷ entry 56 1 3 0 (Load 1 0xffffffdd) 0x0 ∷ entry 59 1 5 0 (Load 4 0xffffffcc) 0x0
    ∷ entry 65 0 3 0 (Store 4 0x10000002c (LastPlus 0x2)) 0x2 ∷ [])
