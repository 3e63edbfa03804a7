-- Made by lab/worked_runs.py of the stored run mixed_21; not to be edited.
use Rattle.rows_timely.proofs.Words.{Run, scripted, plain, ◌+◌, [], ◌∷◌, Some, One, Locked, Idle, Load, Store, Literal}
use Rattle.rows_timely.proofs.Words.{LastPlus, setting, Stall, Resp, Retry, Defer, Aerr, on, pair, chunk, full, b0, b1}
use Rattle.rows_timely.proofs.Words.{b2, lock, ads, hit, hitm, defer, rs, trdy, dbsy, drdy, entry}

abbrev pub run : Run
run = scripted
    (record plain {
      clocks = 25;
      cache = 4;
      bridge = Some (record { base = 0x1f5266ce0; size = 0x160 });
      mem = setting 0x1f5266ce6 0x45 ∷ setting 0x1f5266e2f 0x64 ∷ setting 0x1f5266e38 0x75 ∷ [];
      hazards = Defer 3 7 ∷ Retry 5 ∷ Resp 8 2 ∷ Resp 10 1 ∷ Defer 16 2 ∷ Resp 16 1 ∷ Aerr 17 ∷ Stall 17 6
          ∷ Stall 22 4 ∷ Defer 25 14 ∷ [];
    })
    ((One (Store 1 0x1f5266ce9 (LastPlus 0x3)) ∷ One (Load 4 0x1f5266e24) ∷ []) ∷ (One (Load 8 0x1f5266cf8)
    ∷ One (Load 4 0x1f5266e3c) ∷ []) ∷ (One (Load 1 0x1f5266e21) ∷ Locked (Store 1 0x1f5266cf4 (Literal 0xb9)
    ∷ Load 2 0x1f5266e30 ∷ Store 4 0x1f5266e28 (Literal 0x513efe9e) ∷ Load 8 0x1f5266cf8 ∷ Load 4 0x1f5266ce0
    ∷ Load 4 0x1f5266ce0 ∷ Load 2 0x1f5266ce0 ∷ []) ∷ One (Load 8 0x1f5266ce0) ∷ Idle 3 ∷ One (Load 8 0x1f5266e28)
    ∷ Idle 5 ∷ []) ∷ [])
    (on (b0 + b1 + b2) ∷ on (b0 + b1 + b2) ∷ pair (b0 + b1 + b2 + ads) 0xa 0x3ea4cd9d ∷ pair (b1 + b2) 0x2 0x2
    ∷ on (b1 + b2) ∷ pair (b1 + b2 + ads) 0xe 0x3ea4cd9f ∷ pair b2 0x2 0x20002 ∷ on b2
    ∷ pair (b2 + ads + rs 7 + dbsy + drdy) 0xe 0x3ea4cdc4 ∷ full (hitm + dbsy + drdy) 0x2 0x40002 0x45000000000000
    ∷ on (dbsy + drdy) ∷ on drdy ∷ on (b0 + trdy) ∷ on b0 ∷ pair (b0 + ads + rs 6 + dbsy + drdy) 0xe 0x3ea4cdc4
    ∷ pair (dbsy + drdy) 0x2 0x2 ∷ chunk (dbsy + drdy) 0x300 ∷ chunk drdy 0x45000000000000
    ∷ on (b1 + hit + defer + rs 7 + dbsy + drdy) ∷ chunk (b1 + dbsy + drdy) 0x6400000000000000
    ∷ pair (b1 + ads + dbsy + drdy) 0xe 0x3ea4cdc7 ∷ full drdy 0x2 0x20002 0x75 ∷ on (b2 + rs 2) ∷ on b2
    ∷ pair (b2 + lock + ads + hit + defer) 0xa 0x3ea4cd9e ∷ [])
    (entry 11 0 0 0 (Store 1 0x1f5266ce9 (LastPlus 0x3)) 0x3 ∷ entry 17 1 0 0 (Load 8 0x1f5266cf8) 0x0
    ∷ entry 21 2 0 0 (Load 1 0x1f5266e21) 0x0 ∷ [])
