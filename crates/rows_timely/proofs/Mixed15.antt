-- Made by lab/worked_runs.py of the stored run mixed_15; not to be edited.
use Rattle.rows_timely.proofs.Words.{Run, scripted, plain, ◌+◌, [], ◌∷◌, Some, One, Locked, Idle, Load, Store, Literal}
use Rattle.rows_timely.proofs.Words.{LastPlus, Stall, Trdy, Gap, Retry, Aerr, on, pair, chunk, idle, b0, b1, lock, ads}
use Rattle.rows_timely.proofs.Words.{aerr, hitm, defer, rs, trdy, dbsy, drdy, ap0, rp, entry}

abbrev pub run : Run
run = scripted
    (record plain {
      clocks = 36;
      cache = 4;
      ahead = 2;
      profile = 2;
      bridge = Some (record { base = 0x160; size = 0x80 });
      hazards = Aerr 2 ∷ Retry 4 ∷ Trdy 10 1 ∷ Trdy 15 2 ∷ Stall 16 2 ∷ Aerr 26 ∷ Gap 31 1 ∷ Retry 35 ∷ [];
    })
    ((Idle 6 ∷ Locked (Store 4 0x160 (Literal 0x7291d82a) ∷ []) ∷ One (Store 8 0x170 (Literal 0xec9952298b0eec42))
    ∷ One (Load 2 0x40) ∷ One (Load 4 0x174) ∷ One (Load 2 0x11e) ∷ [])
    ∷ (One (Store 8 0x40 (Literal 0xb90c93e508e14f79)) ∷ One (Store 4 0x58 (Literal 0x730e06a6)) ∷ One (Load 2 0xb0)
    ∷ Idle 4 ∷ One (Load 1 0x160) ∷ One (Load 1 0x46) ∷ One (Load 4 0x40) ∷ Locked (Load 1 0x1c0 ∷ Load 8 0x1c0
    ∷ Store 1 0x1c5 (LastPlus 0x1) ∷ []) ∷ One (Store 1 0x5a (LastPlus 0x2)) ∷ []) ∷ [])
    (on b1 ∷ on b1 ∷ pair (b1 + ads + ap0) 0x2 0x8 ∷ pair rp 0x2 0x20002 ∷ idle ∷ idle ∷ on b0 ∷ on b0
    ∷ pair (b0 + lock + ads + rs 7 + dbsy + drdy + ap0) 0x2 0x2c ∷ pair (lock + dbsy + drdy + rp) 0x2 0x0
    ∷ on (lock + dbsy + drdy) ∷ on (lock + drdy) ∷ on (b1 + lock) ∷ on (b1 + lock)
    ∷ on (b1 + lock + rs 7 + dbsy + drdy) ∷ on (b1 + lock + dbsy + drdy) ∷ on (b1 + lock + dbsy + drdy)
    ∷ on (b1 + lock + drdy) ∷ on (b0 + b1) ∷ on (b0 + b1) ∷ pair (b0 + b1 + ads + ap0 + rp) 0x6 0x16
    ∷ pair (b0 + rp) 0x2 0x20002 ∷ on b0 ∷ pair (b0 + ads + aerr + ap0 + rp) 0x6 0x8 ∷ pair (b1 + ap0 + rp) 0x2 0x2
    ∷ on b1 ∷ pair (b1 + ads + ap0 + rp) 0x6 0x16 ∷ pair (hitm + rp) 0x2 0x20002 ∷ idle ∷ on trdy ∷ on defer
    ∷ chunk (rs 6 + dbsy + drdy) 0xb90c93e508e14f79 ∷ on (dbsy + drdy) ∷ on (dbsy + drdy) ∷ chunk drdy 0x730e06a6
    ∷ on (b0 + rs 1) ∷ [])
    (entry 11 1 0 0 (Store 8 0x40 (Literal 0xb90c93e508e14f79)) 0xb90c93e508e14f79
    ∷ entry 12 1 1 0 (Store 4 0x58 (Literal 0x730e06a6)) 0x730e06a6
    ∷ entry 17 0 1 0 (Store 4 0x160 (Literal 0x7291d82a)) 0x7291d82a
    ∷ entry 18 0 2 0 (Store 8 0x170 (Literal 0xec9952298b0eec42)) 0xec9952298b0eec42
    ∷ entry 34 0 3 0 (Load 2 0x40) 0x4f79 ∷ entry 35 0 4 0 (Load 4 0x174) 0xec995229 ∷ [])
