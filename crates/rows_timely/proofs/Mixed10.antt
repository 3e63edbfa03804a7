-- Made by lab/worked_runs.py of the stored run mixed_10; not to be edited.
use Rattle.rows_timely.proofs.Words.{Run, scripted, plain, ◌+◌, [], ◌∷◌, Some, One, Locked, Idle, Load, Store, Literal}
use Rattle.rows_timely.proofs.Words.{LastPlus, setting, Stall, Trdy, Resp, Gap, Retry, Defer, Aerr, on, pair, chunk}
use Rattle.rows_timely.proofs.Words.{full, idle, b0, b1, b2, ads, aerr, hit, hitm, rs, trdy, dbsy, drdy, entry}

abbrev pub run : Run
run = scripted
    (record plain {
      clocks = 48;
      cache = 1;
      ahead = 4;
      bridge = Some (record { base = 0xffffffc0; size = 0x40 });
      mem = setting 0xffffffd5 0xa0 ∷ [];
      hazards = Aerr 2 ∷ Aerr 3 ∷ Stall 4 2 ∷ Retry 11 ∷ Retry 13 ∷ Aerr 20 ∷ Defer 29 3 ∷ Defer 29 14 ∷ Resp 29 4
          ∷ Stall 29 2 ∷ Stall 29 1 ∷ Resp 29 2 ∷ Stall 32 1 ∷ Trdy 32 1 ∷ Retry 37 ∷ Trdy 37 1 ∷ Gap 37 2 ∷ Trdy 40 4
          ∷ Defer 41 2 ∷ Gap 43 5 ∷ [];
    })
    ((One (Store 1 0xffffffe0 (Literal 0x8f)) ∷ One (Load 2 0xffffffc6) ∷ One (Load 1 0xffffffd5)
    ∷ One (Load 8 0xffffffc8) ∷ One (Load 1 0xffffffe0) ∷ One (Load 1 0xffffffdc) ∷ Idle 3 ∷ One (Load 4 0xffffffc0)
    ∷ []) ∷ (One (Load 2 0xffffffc8) ∷ Idle 2 ∷ One (Store 2 0xffffffc0 (Literal 0xd8fd)) ∷ One (Load 2 0xffffffc0)
    ∷ One (Store 8 0xffffffc0 (Literal 0x54f520bbbd41a492)) ∷ One (Load 4 0xffffffc0)
    ∷ Locked (Store 2 0xffffffd4 (LastPlus 0x3) ∷ []) ∷ []) ∷ (One (Store 1 0xffffffd6 (LastPlus 0xe))
    ∷ One (Store 8 0xffffffe8 (LastPlus 0x3)) ∷ Locked (Store 2 0xffffffe0 (Literal 0xc1df) ∷ Load 2 0xffffffee ∷ [])
    ∷ Idle 5 ∷ []) ∷ [])
    (on (b0 + b1 + b2) ∷ on (b0 + b1 + b2) ∷ pair (b0 + b1 + b2 + ads) 0x2 0x1ffffffc ∷ pair (b1 + b2) 0x2 0x2
    ∷ on (b1 + b2) ∷ pair (b1 + b2 + ads) 0x6 0x1ffffff9 ∷ pair b2 0x2 0x20002 ∷ on b2
    ∷ pair (b2 + ads + rs 7 + dbsy + drdy) 0x2 0x1ffffffa ∷ pair (dbsy + drdy) 0x2 0x40002 ∷ on (dbsy + drdy)
    ∷ on (aerr + drdy) ∷ on (b0 + b2 + rs 7 + dbsy + drdy) ∷ on (b0 + b2 + dbsy + drdy)
    ∷ pair (b0 + b2 + ads + dbsy + drdy) 0x5 0x1ffffffc ∷ full (b2 + drdy) 0x2 0x0 0xa00000000000 ∷ on b2
    ∷ pair (b2 + ads + aerr) 0x2 0x1ffffffa ∷ pair b0 0x2 0x40002 ∷ on b0 ∷ pair (b0 + ads) 0x5 0x1ffffffc
    ∷ pair (hit + hitm) 0x2 0x0 ∷ idle ∷ on (hit + hitm) ∷ idle ∷ on hitm ∷ idle ∷ on trdy ∷ idle
    ∷ chunk (rs 6 + dbsy + drdy) 0xa49500000000 ∷ on (dbsy + drdy) ∷ chunk (dbsy + drdy) 0x54f520bbbd41a492 ∷ on drdy
    ∷ on (b2 + trdy) ∷ on b2 ∷ full (b2 + ads + rs 5 + dbsy + drdy) 0x5 0x1ffffff8 0x8f
    ∷ pair (dbsy + drdy) 0x2 0x40000 ∷ on (dbsy + drdy) ∷ on drdy ∷ on b0 ∷ on b0
    ∷ pair (b0 + ads + trdy) 0x6 0x1ffffff8 ∷ pair 0 0x2 0x2 ∷ chunk (rs 5 + dbsy + drdy) 0x54f520bbbd41a492
    ∷ on (dbsy + drdy) ∷ chunk (dbsy + drdy) 0xea49500000000 ∷ on drdy
    ∷ chunk (b2 + rs 7 + dbsy + drdy) 0x54f520bbbd41a492 ∷ [])
    (entry 11 0 0 0 (Store 1 0xffffffe0 (Literal 0x8f)) 0x8f ∷ entry 15 1 0 0 (Load 2 0xffffffc8) 0x0
    ∷ entry 18 1 2 0 (Store 2 0xffffffc0 (Literal 0xd8fd)) 0xd8fd ∷ entry 19 1 3 0 (Load 2 0xffffffc0) 0xd8fd
    ∷ entry 20 1 4 0 (Store 8 0xffffffc0 (Literal 0x54f520bbbd41a492)) 0x54f520bbbd41a492
    ∷ entry 21 1 5 0 (Load 4 0xffffffc0) 0xbd41a492 ∷ entry 22 1 6 0 (Store 2 0xffffffd4 (LastPlus 0x3)) 0xa495
    ∷ entry 32 2 0 0 (Store 1 0xffffffd6 (LastPlus 0xe)) 0xe ∷ [])
