-- Made by lab/worked_runs.py of the stored run mixed_01; not to be edited.
use Rattle.rows_timely.proofs.Words.{Run, scripted, plain, ◌+◌, [], ◌∷◌, Some, One, Locked, Load, Store, Literal}
use Rattle.rows_timely.proofs.Words.{LastPlus, setting, Stall, Trdy, Resp, Gap, Retry, Defer, Aerr, on, pair, chunk}
use Rattle.rows_timely.proofs.Words.{full, idles, b0, b1, bpri, lock, ads, hit, hitm, defer, rs, trdy, dbsy, drdy}
use Rattle.rows_timely.proofs.Words.{entry}

abbrev pub run : Run
run = scripted
    (record plain {
      clocks = 52;
      cache = 16;
      ahead = 4;
      bridge = Some (record { base = 0x600; size = 0x40 });
      mem = setting 0x669 0x76 ∷ setting 0x637 0x2f ∷ setting 0x611 0xd8 ∷ setting 0x616 0xa5 ∷ [];
      hazards = Gap 25 4 ∷ Defer 20 8 ∷ Gap 24 2 ∷ Stall 2 2 ∷ Retry 8 ∷ Gap 26 2 ∷ Resp 17 2 ∷ Trdy 15 2 ∷ Aerr 16
          ∷ Defer 0 5 ∷ Resp 2 1 ∷ Resp 26 9 ∷ Trdy 17 1 ∷ Aerr 8 ∷ Gap 2 1 ∷ Gap 8 1 ∷ [];
    })
    ((One (Store 8 0x618 (Literal 0x65b548e7181a59a2)) ∷ []) ∷ (Locked (Store 4 0x640 (LastPlus 0x826c0924)
    ∷ Store 4 0x600 (Literal 0x4aae0bcf) ∷ Store 2 0x620 (LastPlus 0x57c6) ∷ Load 8 0x660 ∷ Load 2 0x612 ∷ [])
    ∷ One (Store 4 0x640 (Literal 0xa7aa760c)) ∷ One (Store 2 0x660 (Literal 0x9b39)) ∷ Locked (Load 2 0x620
    ∷ Load 2 0x63c ∷ Load 1 0x620 ∷ Load 2 0x620 ∷ Load 8 0x638 ∷ Load 2 0x620 ∷ Load 2 0x620 ∷ [])
    ∷ One (Store 2 0x640 (Literal 0xc353)) ∷ One (Store 1 0x60f (Literal 0x57)) ∷ One (Store 2 0x644 (Literal 0x760f))
    ∷ One (Store 4 0x600 (Literal 0x84e2dc10)) ∷ One (Store 2 0x604 (Literal 0x79a2)) ∷ []) ∷ [])
    (on (b0 + b1) ∷ on (b0 + b1) ∷ pair (b0 + b1 + ads) 0x2 0xc3 ∷ pair b1 0x2 0x2 ∷ on b1
    ∷ pair (b1 + lock + ads) 0x2 0xc8 ∷ pair (lock + defer) 0x2 0x20000 ∷ on (b1 + lock) ∷ on (b1 + lock + rs 2)
    ∷ pair (b1 + lock + ads) 0x2 0xc0 ∷ pair lock 0x2 0x22000 ∷ on (b1 + lock + rs 7 + dbsy + drdy)
    ∷ on (b1 + lock + dbsy + drdy) ∷ pair (b1 + lock + ads + hit + hitm + dbsy + drdy) 0x2 0xc4
    ∷ pair (bpri + lock + drdy) 0x2 0x24000 ∷ on (b1 + bpri + lock + hit + hitm) ∷ on (b1 + bpri + lock)
    ∷ pair (b1 + bpri + lock + ads + defer) 0x2 0xcc ∷ pair (bpri + lock) 0x2 0x20000 ∷ on (bpri + lock)
    ∷ on (bpri + lock + rs 1) ∷ on (b1 + bpri) ∷ on (b1 + bpri + rs 7 + dbsy + drdy)
    ∷ on (b1 + bpri + ads + dbsy + drdy) ∷ chunk (b1 + dbsy + drdy) 0x2f00000000000000 ∷ on (b1 + drdy)
    ∷ pair (b1 + lock + ads + rs 7 + dbsy + drdy) 0x2 0xc0 ∷ full (lock + dbsy + drdy) 0x2 0x22000 0x7600
    ∷ on (lock + dbsy + drdy) ∷ on (lock + drdy) ∷ on (lock + hitm + rs 7 + dbsy + drdy)
    ∷ chunk (lock + dbsy + drdy) 0xa500000000d800 ∷ on (lock + dbsy + drdy) ∷ on (lock + drdy) ∷ on (lock + trdy)
    ∷ on lock ∷ on (lock + rs 6 + dbsy + drdy) ∷ on (lock + dbsy + drdy) ∷ chunk (lock + dbsy + drdy) 0xa500000000d800
    ∷ chunk (lock + drdy) 0x65b548e7181a59a2 ∷ idles 12)
    (entry 33 0 0 0 (Store 8 0x618 (Literal 0x65b548e7181a59a2)) 0x65b548e7181a59a2
    ∷ entry 39 1 0 0 (Store 4 0x640 (LastPlus 0x826c0924)) 0x826c0924
    ∷ entry 39 1 0 1 (Store 4 0x600 (Literal 0x4aae0bcf)) 0x4aae0bcf
    ∷ entry 39 1 0 2 (Store 2 0x620 (LastPlus 0x57c6)) 0x57c6 ∷ entry 39 1 0 3 (Load 8 0x660) 0x0
    ∷ entry 39 1 0 4 (Load 2 0x612) 0x0 ∷ entry 40 1 1 0 (Store 4 0x640 (Literal 0xa7aa760c)) 0xa7aa760c
    ∷ entry 41 1 2 0 (Store 2 0x660 (Literal 0x9b39)) 0x9b39 ∷ entry 42 1 3 0 (Load 2 0x620) 0x57c6
    ∷ entry 42 1 3 1 (Load 2 0x63c) 0x0 ∷ entry 42 1 3 2 (Load 1 0x620) 0xc6 ∷ entry 42 1 3 3 (Load 2 0x620) 0x57c6
    ∷ entry 42 1 3 4 (Load 8 0x638) 0x0 ∷ entry 42 1 3 5 (Load 2 0x620) 0x57c6 ∷ entry 42 1 3 6 (Load 2 0x620) 0x57c6
    ∷ entry 43 1 4 0 (Store 2 0x640 (Literal 0xc353)) 0xc353 ∷ entry 44 1 5 0 (Store 1 0x60f (Literal 0x57)) 0x57
    ∷ entry 45 1 6 0 (Store 2 0x644 (Literal 0x760f)) 0x760f
    ∷ entry 46 1 7 0 (Store 4 0x600 (Literal 0x84e2dc10)) 0x84e2dc10
    ∷ entry 47 1 8 0 (Store 2 0x604 (Literal 0x79a2)) 0x79a2 ∷ [])
