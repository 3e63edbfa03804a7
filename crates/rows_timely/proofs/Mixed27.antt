-- Made by lab/worked_runs.py of the stored run mixed_27; not to be edited.
use Rattle.rows_timely.proofs.Words.{Run, scripted, plain, ◌+◌, [], ◌∷◌, ◌++◌, Some, One, Load, Store, Literal}
use Rattle.rows_timely.proofs.Words.{LastPlus, setting, Stall, Trdy, Resp, Gap, Retry, Defer, Aerr, on, pair, chunk}
use Rattle.rows_timely.proofs.Words.{idle, idles, b0, ads, aerr, defer, rs, trdy, dbsy, drdy, entry}

abbrev pub run : Run
run = scripted
    (record plain {
      clocks = 84;
      cache = 1;
      bridge = Some (record { base = 0xffffffe0; size = 0x20 });
      mem = setting 0xfffffffa 0xaa ∷ setting 0xffffffdd 0x41 ∷ setting 0xffffffc7 0xa6 ∷ setting 0xffffffd6 0xbc
          ∷ setting 0xffffffc0 0x4 ∷ [];
      hazards = Resp 5 2 ∷ Gap 8 5 ∷ Gap 16 1 ∷ Aerr 1 ∷ Aerr 7 ∷ Gap 17 1 ∷ Stall 17 4 ∷ Stall 11 2 ∷ Aerr 7
          ∷ Aerr 18 ∷ Retry 20 ∷ Trdy 8 1 ∷ Resp 1 1 ∷ Defer 7 8 ∷ Gap 21 1 ∷ Resp 0 1 ∷ Retry 11 ∷ Defer 1 14
          ∷ Trdy 17 1 ∷ Resp 20 4 ∷ Gap 20 1 ∷ Gap 5 1 ∷ Gap 17 1 ∷ Retry 6 ∷ Gap 17 2 ∷ Trdy 7 1 ∷ Retry 3 ∷ Trdy 7 2
          ∷ Resp 3 1 ∷ Stall 17 2 ∷ Trdy 17 4 ∷ Trdy 2 2 ∷ Gap 17 5 ∷ Defer 17 7 ∷ Retry 5 ∷ Retry 5 ∷ [];
    })
    ((One (Store 2 0xffffffd2 (LastPlus 0x1)) ∷ One (Store 2 0xffffffdc (Literal 0x60b8)) ∷ One (Load 1 0xffffffc0)
    ∷ One (Load 8 0xffffffc0) ∷ One (Store 4 0xfffffff8 (LastPlus 0x8d05a21))
    ∷ One (Store 2 0xfffffffa (Literal 0xb7dd)) ∷ One (Load 2 0xffffffea) ∷ []) ∷ [])
    (on b0 ∷ on b0 ∷ pair (b0 + ads) 0x2 0x1ffffffa ∷ pair 0 0x2 0x2 ∷ idles 5
    ++ chunk (rs 7 + dbsy + drdy) 0xbc000000000000 ∷ chunk (dbsy + drdy) 0x410000000000
    ∷ chunk (dbsy + drdy) 0xa600000000000004 ∷ on drdy ∷ idles 3 ++ on b0 ∷ on b0 ∷ pair (b0 + ads) 0x5 0x1ffffff8
    ∷ pair 0 0x2 0x0 ∷ idle ∷ on aerr ∷ on b0 ∷ on b0 ∷ pair (b0 + ads) 0x5 0x1ffffff8 ∷ pair 0 0x2 0x0 ∷ idles 6
    ++ on trdy ∷ idle ∷ chunk (rs 5 + dbsy + drdy) 0xa600000000000004 ∷ on (dbsy + drdy)
    ∷ chunk (dbsy + drdy) 0xbc000000010000 ∷ chunk drdy 0x60b800000000 ∷ on b0 ∷ on b0
    ∷ pair (b0 + ads) 0x2 0x1fffffff ∷ pair 0 0x2 0x2 ∷ idle ∷ idle ∷ on defer ∷ idle ∷ idle ∷ on (rs 1) ∷ on b0
    ∷ on b0 ∷ pair (b0 + ads) 0x2 0x1fffffff ∷ pair 0 0x2 0x2 ∷ idles 4 ++ chunk (rs 7 + dbsy + drdy) 0xaa0000
    ∷ on (dbsy + drdy) ∷ on (dbsy + drdy) ∷ on drdy ∷ idles 24)
    (entry 12 0 0 0 (Store 2 0xffffffd2 (LastPlus 0x1)) 0x1
    ∷ entry 13 0 1 0 (Store 2 0xffffffdc (Literal 0x60b8)) 0x60b8 ∷ entry 14 0 2 0 (Load 1 0xffffffc0) 0x4
    ∷ entry 15 0 3 0 (Load 8 0xffffffc0) 0xa600000000000004
    ∷ entry 59 0 4 0 (Store 4 0xfffffff8 (LastPlus 0x8d05a21)) 0x8d05a25
    ∷ entry 60 0 5 0 (Store 2 0xfffffffa (Literal 0xb7dd)) 0xb7dd ∷ entry 61 0 6 0 (Load 2 0xffffffea) 0x0 ∷ [])
