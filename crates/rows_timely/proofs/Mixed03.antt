-- Made by lab/worked_runs.py of the stored run mixed_03; not to be edited.
use Rattle.rows_timely.proofs.Words.{Run, scripted, plain, ◌+◌, [], ◌∷◌, One, Locked, Idle, Load, Store, Literal}
use Rattle.rows_timely.proofs.Words.{LastPlus, setting, Stall, Trdy, Resp, Gap, Retry, Defer, Aerr, on, pair, chunk}
use Rattle.rows_timely.proofs.Words.{idle, b0, b1, b2, b3, lock, ads, hit, hitm, rs, trdy, dbsy, drdy, ap0, rp, entry}

abbrev pub run : Run
run = scripted
    (record plain {
      clocks = 63;
      cache = 2;
      profile = 2;
      mem = setting 0x8e 0x56 ∷ setting 0x45 0x47 ∷ [];
      hazards = Gap 8 1 ∷ Resp 9 1 ∷ Trdy 12 4 ∷ Resp 12 1 ∷ Gap 12 6 ∷ Aerr 13 ∷ Defer 13 10 ∷ Resp 17 4 ∷ Resp 20 4
          ∷ Aerr 20 ∷ Stall 32 1 ∷ Retry 33 ∷ Gap 45 1 ∷ Trdy 45 1 ∷ Retry 45 ∷ Trdy 46 1 ∷ Gap 53 2 ∷ Gap 53 1 ∷ [];
    })
    ((One (Load 2 0xee) ∷ One (Load 8 0x40) ∷ One (Store 1 0xb7 (Literal 0xbf))
    ∷ Locked (Store 4 0x40 (Literal 0xc3bb544a) ∷ Load 4 0xa0 ∷ []) ∷ One (Store 8 0xe0 (Literal 0x3c0601ed0b86be28))
    ∷ One (Load 8 0x90) ∷ One (Load 4 0x54) ∷ []) ∷ (One (Store 8 0xc0 (Literal 0xf43b79b8dbbec019))
    ∷ One (Store 1 0xe0 (LastPlus 0x1)) ∷ One (Load 4 0x48) ∷ One (Load 1 0xe6) ∷ []) ∷ (One (Load 2 0x60)
    ∷ One (Store 8 0x60 (Literal 0x64d08daaf35de238)) ∷ One (Load 1 0x89) ∷ One (Store 8 0xc0 (LastPlus 0x1))
    ∷ One (Load 2 0xe2) ∷ One (Load 8 0x48) ∷ One (Load 4 0xd8) ∷ []) ∷ (One (Store 4 0x40 (LastPlus 0xd9a1b190))
    ∷ Idle 4 ∷ Idle 3 ∷ One (Store 2 0x40 (LastPlus 0x0)) ∷ One (Load 8 0x48) ∷ One (Load 8 0x80) ∷ One (Load 1 0x7b)
    ∷ []) ∷ [])
    (on (b0 + b1 + b2 + b3) ∷ on (b0 + b1 + b2 + b3) ∷ pair (b0 + b1 + b2 + b3 + ads + rp) 0x6 0x1d
    ∷ pair (b1 + b2 + b3 + ap0 + rp) 0x2 0x2 ∷ on (b1 + b2 + b3) ∷ pair (b1 + b2 + b3 + ads) 0x2 0x18
    ∷ pair (b2 + b3 + rp) 0x2 0x20002 ∷ on (b2 + b3) ∷ pair (b2 + b3 + ads + rs 7 + dbsy + drdy + rp) 0x6 0xc
    ∷ pair (b3 + dbsy + drdy + rp) 0x2 0x40002 ∷ on (b3 + dbsy + drdy) ∷ pair (b3 + ads + drdy + ap0) 0x2 0x8
    ∷ pair (b0 + rs 7 + dbsy + drdy + ap0 + rp) 0x2 0x60002 ∷ on (b0 + dbsy + drdy)
    ∷ pair (b0 + ads + dbsy + drdy + ap0 + rp) 0x6 0x8 ∷ pair (drdy + ap0 + rp) 0x2 0x2 ∷ on (b1 + rs 7 + dbsy + drdy)
    ∷ on (b1 + dbsy + drdy) ∷ pair (b1 + ads + hitm + dbsy + drdy + ap0) 0x2 0x1c ∷ pair (drdy + rp) 0x2 0x20002
    ∷ chunk (rs 7 + dbsy + drdy) 0x470000000000 ∷ on (b2 + dbsy + drdy) ∷ on (b2 + hit + dbsy + drdy)
    ∷ pair (b2 + ads + drdy + rp) 0x6 0x11 ∷ pair (trdy + rp) 0x2 0x40002 ∷ idle
    ∷ chunk (rs 6 + dbsy + drdy) 0x4700d9a1b190 ∷ on (dbsy + drdy) ∷ on (dbsy + drdy) ∷ on drdy
    ∷ on (b0 + rs 7 + dbsy + drdy) ∷ on (b0 + b3 + dbsy + drdy) ∷ pair (b0 + b3 + ads + dbsy + drdy + ap0) 0x2 0x16
    ∷ pair (b3 + drdy + ap0 + rp) 0x2 0x2 ∷ chunk (b1 + b3 + rs 7 + dbsy + drdy) 0x56000000000000
    ∷ pair (b1 + b3 + ads + dbsy + drdy + ap0) 0x2 0x8 ∷ pair (b1 + dbsy + drdy) 0x0 0x60000 ∷ on (b1 + drdy)
    ∷ pair (b1 + b2 + ads + rs 7 + dbsy + drdy + rp) 0x5 0x18 ∷ pair (b2 + hit + dbsy + drdy + ap0 + rp) 0x2 0x20000
    ∷ on (b2 + dbsy + drdy) ∷ pair (b2 + ads + drdy) 0x2 0x18 ∷ pair (b0 + rs 5 + rp) 0x2 0x40002 ∷ on b0
    ∷ pair (b0 + b3 + lock + ads + trdy + ap0) 0x2 0x8 ∷ pair (b3 + lock + rp) 0x2 0x0 ∷ on (b3 + lock)
    ∷ chunk (b3 + lock + rs 5 + dbsy + drdy) 0xf43b79b8dbbec019 ∷ on (b3 + lock + hitm + dbsy + drdy)
    ∷ on (b3 + lock + dbsy + drdy) ∷ on (b3 + lock + drdy)
    ∷ chunk (b1 + b3 + lock + rs 7 + dbsy + drdy) 0xf43b79b8dbbec019 ∷ on (b1 + b3 + lock + dbsy + drdy)
    ∷ on (b1 + b3 + lock + dbsy + drdy) ∷ on (b1 + b3 + lock + drdy) ∷ on (b1 + b2 + b3 + lock + trdy)
    ∷ on (b1 + b2 + b3 + lock) ∷ chunk (b1 + b2 + b3 + lock + rs 6 + dbsy + drdy) 0x4700d9a10000
    ∷ on (b1 + b2 + b3 + lock + dbsy + drdy) ∷ on (b1 + b2 + b3 + lock + dbsy + drdy)
    ∷ on (b1 + b2 + b3 + lock + drdy) ∷ on (b0 + b1 + b2 + b3) ∷ on (b0 + b1 + b2 + b3) ∷ [])
    (entry 11 0 0 0 (Load 2 0xee) 0x0 ∷ entry 15 1 0 0 (Store 8 0xc0 (Literal 0xf43b79b8dbbec019)) 0xf43b79b8dbbec019
    ∷ entry 19 2 0 0 (Load 2 0x60) 0x0 ∷ entry 20 2 1 0 (Store 8 0x60 (Literal 0x64d08daaf35de238)) 0x64d08daaf35de238
    ∷ entry 23 3 0 0 (Store 4 0x40 (LastPlus 0xd9a1b190)) 0xd9a1b190 ∷ entry 29 0 1 0 (Load 8 0x40) 0x4700d9a1b190
    ∷ entry 33 1 1 0 (Store 1 0xe0 (LastPlus 0x1)) 0x1 ∷ entry 37 2 2 0 (Load 1 0x89) 0x0
    ∷ entry 41 0 2 0 (Store 1 0xb7 (Literal 0xbf)) 0xbf ∷ entry 42 3 3 0 (Store 2 0x40 (LastPlus 0x0)) 0x0
    ∷ entry 43 3 4 0 (Load 8 0x48) 0x0 ∷ entry 54 2 3 0 (Store 8 0xc0 (LastPlus 0x1)) 0x1
    ∷ entry 60 0 3 0 (Store 4 0x40 (Literal 0xc3bb544a)) 0xc3bb544a ∷ entry 60 0 3 1 (Load 4 0xa0) 0x0 ∷ [])
