-- Made by lab/worked_runs.py of the stored run mixed_08; not to be edited.
use Rattle.rows_timely.proofs.Words.{Run, scripted, plain, ◌+◌, [], ◌∷◌, ◌++◌, Some, One, Locked, Idle, Load, Store}
use Rattle.rows_timely.proofs.Words.{Literal, LastPlus, setting, Stall, Trdy, Resp, Gap, Retry, Defer, Aerr, Bnr, on}
use Rattle.rows_timely.proofs.Words.{pair, chunk, idle, idles, b0, bpri, lock, bnr, ads, aerr, defer, rs, dbsy, drdy}
use Rattle.rows_timely.proofs.Words.{entry}

abbrev pub run : Run
run = scripted
    (record plain {
      clocks = 77;
      cache = 8;
      ahead = 4;
      bridge = Some (record { base = 0x60; size = 0xc0 });
      mem = setting 0x112 0x61 ∷ setting 0x9d 0x1d ∷ setting 0x117 0x7d ∷ setting 0x67 0x21 ∷ setting 0x119 0x96 ∷ [];
      hazards = Trdy 5 2 ∷ Stall 3 1 ∷ Resp 1 2 ∷ Gap 18 1 ∷ Gap 9 2 ∷ Gap 1 2 ∷ Stall 1 1 ∷ Resp 8 2 ∷ Resp 4 1
          ∷ Aerr 15 ∷ Defer 1 6 ∷ Retry 13 ∷ Resp 5 1 ∷ Aerr 5 ∷ Retry 11 ∷ Resp 11 1 ∷ Gap 15 1 ∷ Defer 0 5 ∷ Aerr 1
          ∷ Gap 18 6 ∷ Bnr 19 21 ∷ Defer 0 2 ∷ Stall 18 2 ∷ Stall 5 4 ∷ Stall 5 2 ∷ Resp 0 1 ∷ Defer 2 12 ∷ Retry 11
          ∷ Resp 11 2 ∷ Trdy 5 1 ∷ Aerr 3 ∷ [];
    })
    ((One (Load 8 0x100) ∷ One (Load 8 0x118) ∷ One (Load 2 0x100) ∷ Idle 2 ∷ One (Store 2 0x100 (LastPlus 0x0))
    ∷ One (Store 4 0x100 (Literal 0x13533b4f)) ∷ Locked (Store 4 0xc0 (Literal 0x79d783c5)
    ∷ Store 4 0x80 (LastPlus 0x3) ∷ []) ∷ []) ∷ [])
    (on b0 ∷ on b0 ∷ pair (b0 + ads) 0x6 0x20 ∷ pair 0 0x2 0x2 ∷ idle ∷ idle ∷ on defer ∷ idle ∷ idle ∷ on (rs 2)
    ∷ idles 5 ++ on bpri ∷ on bpri ∷ on (bpri + ads) ∷ idle ∷ on bnr ∷ on (bnr + aerr) ∷ on (bpri + bnr) ∷ on bpri
    ∷ on bpri ∷ on (bpri + ads) ∷ idles 5 ++ on (rs 7 + dbsy + drdy) ∷ on (dbsy + drdy)
    ∷ chunk (dbsy + drdy) 0x7d00000000610000 ∷ chunk drdy 0x9600 ∷ idles 6 ++ on b0 ∷ on b0
    ∷ pair (b0 + lock + ads) 0x2 0x18 ∷ pair lock 0x2 0x0 ∷ on (b0 + lock) ∷ on (b0 + lock + aerr)
    ∷ pair (b0 + lock + ads) 0x2 0x18 ∷ pair lock 0x2 0x0 ∷ on (b0 + lock) ∷ on (b0 + lock)
    ∷ pair (b0 + lock + ads) 0x2 0x10 ∷ pair lock 0x2 0x2000 ∷ on lock ∷ on (lock + aerr + rs 7 + dbsy + drdy)
    ∷ on (b0 + dbsy + drdy) ∷ on (b0 + dbsy + drdy) ∷ pair (b0 + lock + ads + drdy) 0x2 0x10 ∷ pair lock 0x2 0x2000
    ∷ on lock ∷ on lock ∷ on lock ∷ on lock ∷ on (lock + rs 7 + dbsy + drdy) ∷ on (lock + dbsy + drdy)
    ∷ on (lock + dbsy + drdy) ∷ chunk (lock + drdy) 0x1d0000000000 ∷ idles 11)
    (entry 33 0 0 0 (Load 8 0x100) 0x0 ∷ entry 34 0 1 0 (Load 8 0x118) 0x9600 ∷ entry 35 0 2 0 (Load 2 0x100) 0x0
    ∷ entry 38 0 4 0 (Store 2 0x100 (LastPlus 0x0)) 0x0
    ∷ entry 39 0 5 0 (Store 4 0x100 (Literal 0x13533b4f)) 0x13533b4f
    ∷ entry 65 0 6 0 (Store 4 0xc0 (Literal 0x79d783c5)) 0x79d783c5 ∷ entry 65 0 6 1 (Store 4 0x80 (LastPlus 0x3)) 0x3
    ∷ [])
