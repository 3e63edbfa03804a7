-- Made by lab/worked_runs.py of the stored run mixed_24; not to be edited.
use Rattle.rows_timely.proofs.Words.{Run, scripted, plain, ◌+◌, [], ◌∷◌, Some, One, Locked, Load, Store, Literal}
use Rattle.rows_timely.proofs.Words.{LastPlus, setting, Stall, Resp, Gap, Retry, Defer, on, pair, chunk, full, idle, b0}
use Rattle.rows_timely.proofs.Words.{b1, b2, b3, ads, hit, hitm, defer, rs, trdy, dbsy, drdy, entry}

abbrev pub run : Run
run = scripted
    (record plain {
      clocks = 42;
      cache = 1;
      bridge = Some (record { base = 0xffffff800; size = 0x20 });
      mem = setting 0xffffff806 0x3d ∷ [];
      hazards = Gap 16 1 ∷ Resp 21 4 ∷ Defer 7 12 ∷ Gap 23 1 ∷ Gap 36 1 ∷ Gap 26 2 ∷ Stall 12 2 ∷ Stall 32 2
          ∷ Gap 36 2 ∷ Retry 32 ∷ [];
    })
    ((One (Store 2 0xffffff81c (Literal 0x844e)) ∷ One (Load 4 0xffffff810) ∷ One (Load 2 0xffffff800) ∷ [])
    ∷ (One (Store 2 0xffffff800 (LastPlus 0x0)) ∷ One (Load 4 0xffffff80c) ∷ One (Store 4 0xffffff80c (LastPlus 0x3))
    ∷ []) ∷ (One (Load 2 0xffffff800) ∷ One (Load 1 0xffffff800) ∷ []) ∷ (One (Load 1 0xffffff800)
    ∷ One (Store 1 0xffffff813 (Literal 0x66)) ∷ One (Store 2 0xffffff800 (LastPlus 0xf1bd))
    ∷ One (Load 4 0xffffff814) ∷ Locked (Store 1 0xffffff813 (LastPlus 0x2) ∷ Load 1 0xffffff81e ∷ Load 4 0xffffff810
    ∷ Load 8 0xffffff810 ∷ []) ∷ One (Load 4 0xffffff800) ∷ One (Store 1 0xffffff811 (LastPlus 0x3)) ∷ []) ∷ [])
    (on (b0 + b1 + b2 + b3) ∷ on (b0 + b1 + b2 + b3) ∷ pair (b0 + b1 + b2 + b3 + ads) 0xa 0x1ffffff03
    ∷ pair (b1 + b2 + b3) 0x2 0x2 ∷ on (b1 + b2 + b3) ∷ pair (b1 + b2 + b3 + ads) 0xa 0x1ffffff00
    ∷ pair (b2 + b3) 0x2 0x20002 ∷ on (b2 + b3) ∷ pair (b2 + b3 + ads + rs 7 + dbsy + drdy) 0xe 0x1ffffff00
    ∷ pair (b3 + hitm + dbsy + drdy) 0x2 0x40002 ∷ on (b3 + dbsy + drdy)
    ∷ full (b3 + ads + drdy) 0xe 0x1ffffff00 0x3d000000000000 ∷ pair (b0 + hitm + trdy) 0x2 0x60002 ∷ on b0
    ∷ full (b0 + ads + rs 6 + dbsy + drdy) 0xe 0x1ffffff02 0x3d000000000000 ∷ pair (hit + dbsy + drdy) 0x2 0x2
    ∷ on (dbsy + drdy) ∷ chunk drdy 0x844e00000000 ∷ on (hit + trdy) ∷ on b1
    ∷ chunk (b1 + rs 6 + dbsy + drdy) 0x3d000000000000 ∷ pair (b1 + ads + dbsy + drdy) 0xa 0x1ffffff01
    ∷ pair (dbsy + drdy) 0x2 0x20002 ∷ chunk drdy 0x844e00000000 ∷ chunk (rs 7 + dbsy + drdy) 0x3d000000000000
    ∷ on (hit + dbsy + drdy) ∷ on (dbsy + drdy) ∷ chunk drdy 0x844e00000000 ∷ on (b3 + rs 7 + dbsy + drdy)
    ∷ chunk (b3 + dbsy + drdy) 0x844e00000000 ∷ full (b3 + ads + dbsy + drdy) 0xa 0x1ffffff02 0x3d000000000000
    ∷ pair drdy 0x2 0x60002 ∷ on (b0 + rs 7 + dbsy + drdy) ∷ chunk (b0 + dbsy + drdy) 0x3d000000000000
    ∷ full (b0 + ads + hitm + dbsy + drdy) 0xe 0x1ffffff00 0x844e00000000 ∷ pair drdy 0x2 0x2 ∷ on trdy ∷ idle
    ∷ on (hitm + defer + rs 6 + dbsy + drdy) ∷ chunk (dbsy + drdy) 0x844e00000000
    ∷ chunk (dbsy + drdy) 0x3d000000000000 ∷ chunk drdy 0x300000000 ∷ [])
    (entry 11 0 0 0 (Store 2 0xffffff81c (Literal 0x844e)) 0x844e
    ∷ entry 17 1 0 0 (Store 2 0xffffff800 (LastPlus 0x0)) 0x0 ∷ entry 18 1 1 0 (Load 4 0xffffff80c) 0x0
    ∷ entry 23 2 0 0 (Load 2 0xffffff800) 0x0 ∷ entry 24 2 1 0 (Load 1 0xffffff800) 0x0
    ∷ entry 27 3 0 0 (Load 1 0xffffff800) 0x0 ∷ entry 31 0 1 0 (Load 4 0xffffff810) 0x0
    ∷ entry 35 1 2 0 (Store 4 0xffffff80c (LastPlus 0x3)) 0x3
    ∷ entry 41 3 1 0 (Store 1 0xffffff813 (Literal 0x66)) 0x66 ∷ [])
