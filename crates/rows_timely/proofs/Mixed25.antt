-- Made by lab/worked_runs.py of the stored run mixed_25; not to be edited.
use Rattle.rows_timely.proofs.Words.{Run, scripted, plain, ◌+◌, [], ◌∷◌, Some, One, Locked, Idle, Load, Store, Literal}
use Rattle.rows_timely.proofs.Words.{LastPlus, Stall, Trdy, Resp, Gap, Retry, Defer, Bnr, on, pair, chunk, full, idle}
use Rattle.rows_timely.proofs.Words.{idles, b0, b1, b2, b3, ads, hit, hitm, defer, rs, trdy, dbsy, drdy, entry}

abbrev pub run : Run
run = scripted
    (record plain {
      clocks = 48;
      cache = 2;
      ahead = 4;
      bridge = Some (record { base = 0xffffff800; size = 0x20 });
      hazards = Retry 4 ∷ Defer 5 9 ∷ Defer 7 2 ∷ Stall 7 2 ∷ Resp 7 3 ∷ Gap 15 2 ∷ Retry 18 ∷ Defer 25 8 ∷ Trdy 25 2
          ∷ Stall 28 7 ∷ Resp 30 1 ∷ Stall 31 1 ∷ Trdy 41 2 ∷ Resp 46 1 ∷ Trdy 47 1 ∷ Bnr 50 52 ∷ Bnr 183 183 ∷ [];
    })
    ((One (Store 4 0xffffff810 (LastPlus 0x7a7324a8)) ∷ One (Store 1 0xffffff813 (Literal 0x26)) ∷ []) ∷ (Idle 6
    ∷ One (Store 4 0xffffff800 (Literal 0xf4e5e5f9)) ∷ Idle 14 ∷ One (Store 8 0xffffff800 (LastPlus 0x3))
    ∷ One (Store 8 0xffffff800 (LastPlus 0x3)) ∷ One (Store 4 0xffffff800 (LastPlus 0x2))
    ∷ One (Store 8 0xffffff810 (Literal 0x3d15875941c8173c)) ∷ Locked (Store 1 0xffffff800 (LastPlus 0xfa)
    ∷ Store 8 0xffffff800 (Literal 0xabbcaa0c1797ecb4) ∷ Load 1 0xffffff808 ∷ Load 8 0xffffff800
    ∷ Store 2 0xffffff81c (LastPlus 0x7359) ∷ Load 2 0xffffff810 ∷ Load 4 0xffffff81c
    ∷ Store 1 0xffffff803 (Literal 0x6b) ∷ []) ∷ One (Store 4 0xffffff800 (LastPlus 0x2)) ∷ Idle 14 ∷ [])
    ∷ (One (Load 2 0xffffff800) ∷ Idle 11 ∷ One (Load 8 0xffffff800) ∷ One (Load 8 0xffffff800)
    ∷ One (Load 2 0xffffff800) ∷ One (Load 1 0xffffff814) ∷ One (Load 8 0xffffff800) ∷ [])
    ∷ (One (Store 4 0xffffff81c (Literal 0x2c761530)) ∷ []) ∷ [])
    (on (b0 + b2 + b3) ∷ on (b0 + b2 + b3) ∷ pair (b0 + b2 + b3 + ads) 0xa 0x1ffffff02 ∷ pair (b2 + b3) 0x2 0x2
    ∷ on (b2 + b3) ∷ pair (b2 + b3 + ads) 0xe 0x1ffffff00 ∷ pair (b1 + b3) 0x2 0x40002 ∷ on (b1 + b3)
    ∷ pair (b1 + b3 + ads + rs 7 + dbsy + drdy) 0xa 0x1ffffff03 ∷ pair (b1 + hitm + dbsy + drdy) 0x2 0x60002
    ∷ on (b1 + dbsy + drdy) ∷ pair (b1 + ads + drdy) 0xa 0x1ffffff00 ∷ pair (b0 + hit + trdy) 0x2 0x20002 ∷ on b0
    ∷ pair (b0 + ads + rs 6 + dbsy + drdy) 0xa 0x1ffffff02 ∷ pair (hitm + dbsy + drdy) 0x2 0x2
    ∷ chunk (dbsy + drdy) 0x7a7324a8 ∷ on drdy ∷ on (hitm + defer + rs 7 + dbsy + drdy)
    ∷ chunk (dbsy + drdy) 0x7a7324a8 ∷ on (dbsy + drdy) ∷ on drdy ∷ on trdy ∷ idle ∷ on (rs 6 + dbsy + drdy)
    ∷ on (dbsy + drdy) ∷ chunk (dbsy + drdy) 0x7a7324a8 ∷ chunk drdy 0x2c76153000000000 ∷ on trdy ∷ on b2
    ∷ chunk (b2 + rs 6 + dbsy + drdy) 0x7a7324a8 ∷ full (b2 + ads + dbsy + drdy) 0xe 0x1ffffff00 0x2c76153000000000
    ∷ full (dbsy + drdy) 0x2 0x40002 0xf4e5e5f9 ∷ on drdy ∷ idle ∷ on (hitm + defer) ∷ idle ∷ on trdy ∷ idle
    ∷ chunk (rs 6 + dbsy + drdy) 0xf4e5e5f9 ∷ on (dbsy + drdy) ∷ chunk (dbsy + drdy) 0x267324a8
    ∷ chunk (b1 + drdy) 0x2c76153000000000 ∷ on b1 ∷ pair (b1 + ads) 0xa 0x1ffffff00 ∷ pair 0 0x2 0x20002 ∷ idles 2)
    (entry 11 0 0 0 (Store 4 0xffffff810 (LastPlus 0x7a7324a8)) 0x7a7324a8 ∷ entry 17 2 0 0 (Load 2 0xffffff800) 0x0
    ∷ entry 21 3 0 0 (Store 4 0xffffff81c (Literal 0x2c761530)) 0x2c761530
    ∷ entry 27 1 1 0 (Store 4 0xffffff800 (Literal 0xf4e5e5f9)) 0xf4e5e5f9
    ∷ entry 33 0 1 0 (Store 1 0xffffff813 (Literal 0x26)) 0x26 ∷ entry 42 2 2 0 (Load 8 0xffffff800) 0xf4e5e5f9
    ∷ entry 43 2 3 0 (Load 8 0xffffff800) 0xf4e5e5f9 ∷ entry 44 2 4 0 (Load 2 0xffffff800) 0xe5f9
    ∷ entry 45 2 5 0 (Load 1 0xffffff814) 0x0 ∷ entry 46 2 6 0 (Load 8 0xffffff800) 0xf4e5e5f9 ∷ [])
