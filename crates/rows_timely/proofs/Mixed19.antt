-- Made by lab/worked_runs.py of the stored run mixed_19; not to be edited.
use Rattle.rows_timely.proofs.Words.{Run, scripted, plain, ◌+◌, [], ◌∷◌, One, Locked, Idle, Load, Store, Literal}
use Rattle.rows_timely.proofs.Words.{LastPlus, setting, Stall, Trdy, Resp, Defer, on, pair, chunk, full, idle, b0, b1}
use Rattle.rows_timely.proofs.Words.{ads, rs, trdy, dbsy, drdy, entry}

abbrev pub run : Run
run = scripted
    (record plain {
      clocks = 23;
      cache = 1;
      ahead = 3;
      mem = setting 0xffffffcd 0x2a ∷ setting 0x10000041c 0x6d ∷ setting 0xffffffdd 0x88 ∷ setting 0xffffffee 0xda ∷ [];
      hazards = Stall 4 1 ∷ Trdy 8 2 ∷ Defer 8 1 ∷ Stall 10 1 ∷ Stall 12 4 ∷ Resp 12 1 ∷ Defer 16 9 ∷ Stall 27 7 ∷ [];
    })
    ((One (Store 8 0x100000408 (LastPlus 0x33a17525cbcbc91b)) ∷ One (Load 1 0xffffffed) ∷ One (Load 8 0x100000008)
    ∷ Locked (Store 4 0x100000004 (Literal 0x61c0edcd) ∷ []) ∷ One (Store 1 0xffffffde (LastPlus 0x1)) ∷ [])
    ∷ (One (Load 2 0xffffffc0) ∷ One (Load 4 0x100000020) ∷ Idle 2 ∷ Idle 4
    ∷ One (Store 8 0xffffffc0 (Literal 0xa0b4666d540e885)) ∷ One (Store 8 0x100000020 (LastPlus 0x1))
    ∷ One (Store 1 0x10000002f (LastPlus 0x2)) ∷ []) ∷ [])
    (on (b0 + b1) ∷ on (b0 + b1) ∷ pair (b0 + b1 + ads) 0xa 0x20000081 ∷ pair b1 0x2 0x2 ∷ on b1
    ∷ pair (b1 + ads) 0x6 0x1ffffff8 ∷ pair 0 0x2 0x20002 ∷ idle ∷ on (rs 7 + dbsy + drdy) ∷ on (dbsy + drdy)
    ∷ chunk (dbsy + drdy) 0x6d00000000 ∷ on drdy ∷ on (b0 + rs 7 + dbsy + drdy)
    ∷ chunk (b0 + dbsy + drdy) 0x2a0000000000 ∷ pair (b0 + ads + dbsy + drdy) 0xd 0x20000080
    ∷ full drdy 0x2 0x0 0x880000000000 ∷ on b1 ∷ on b1 ∷ pair (b1 + ads) 0xe 0x20000004 ∷ pair 0 0x2 0x20002 ∷ on trdy
    ∷ idle ∷ on (rs 5 + dbsy + drdy) ∷ [])
    (entry 11 0 0 0 (Store 8 0x100000408 (LastPlus 0x33a17525cbcbc91b)) 0x33a17525cbcbc91b
    ∷ entry 15 1 0 0 (Load 2 0xffffffc0) 0x0 ∷ [])
