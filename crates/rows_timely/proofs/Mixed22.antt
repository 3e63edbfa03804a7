-- Made by lab/worked_runs.py of the stored run mixed_22; not to be edited.
use Rattle.rows_timely.proofs.Words.{Run, scripted, plain, ◌+◌, [], ◌∷◌, Some, One, Locked, Load, Store, Literal}
use Rattle.rows_timely.proofs.Words.{LastPlus, setting, on, pair, chunk, full, idle, b0, b1, lock, ads, hit, hitm, rs}
use Rattle.rows_timely.proofs.Words.{trdy, dbsy, drdy, ap0, rp, entry}

abbrev pub run : Run
run = scripted
    (record plain {
      clocks = 34;
      cache = 16;
      ahead = 3;
      profile = 2;
      bridge = Some (record { base = 0x600; size = 0x40 });
      mem = setting 0x60e 0x71 ∷ setting 0x614 0xb6 ∷ setting 0x61b 0x4c ∷ setting 0x61e 0xaa ∷ setting 0x616 0x3c ∷ [];
    })
    ((One (Load 2 0x604) ∷ One (Load 8 0x608) ∷ One (Store 2 0x634 (LastPlus 0x0))
    ∷ One (Store 2 0x614 (Literal 0x3652)) ∷ Locked (Load 2 0x614 ∷ Store 4 0x628 (LastPlus 0x0)
    ∷ Store 8 0x620 (Literal 0xcbac6315c2b45e7a) ∷ Load 8 0x600 ∷ Store 4 0x620 (Literal 0xf6a8c654) ∷ []) ∷ [])
    ∷ (One (Load 1 0x600) ∷ One (Load 8 0x620) ∷ One (Store 8 0x600 (LastPlus 0x2))
    ∷ One (Store 4 0x620 (Literal 0x6ae3ab21)) ∷ One (Store 1 0x605 (LastPlus 0x2)) ∷ Locked (Load 1 0x600
    ∷ Store 8 0x620 (Literal 0x82d2608422513f02) ∷ Load 1 0x600 ∷ Store 2 0x620 (LastPlus 0x1) ∷ Load 8 0x600
    ∷ Store 8 0x600 (LastPlus 0x2) ∷ Store 8 0x638 (LastPlus 0x3) ∷ []) ∷ Locked (Store 4 0x620 (Literal 0xb56536b)
    ∷ Load 1 0x612 ∷ []) ∷ One (Store 8 0x600 (LastPlus 0x1)) ∷ One (Store 1 0x612 (LastPlus 0x93)) ∷ []) ∷ [])
    (on (b0 + b1) ∷ on (b0 + b1) ∷ pair (b0 + b1 + ads + rp) 0x6 0xc0 ∷ pair (b1 + ap0 + rp) 0x2 0x2 ∷ on (b0 + b1)
    ∷ pair (b0 + b1 + ads + rp) 0x6 0xc0 ∷ pair (b0 + rp) 0x2 0x20002 ∷ on (b0 + b1)
    ∷ pair (b0 + b1 + ads + rs 7 + dbsy + drdy) 0x2 0xc6
    ∷ full (b1 + hit + dbsy + drdy + rp) 0x2 0x2002 0x71000000000000 ∷ chunk (b1 + dbsy + drdy) 0x3c00b600000000
    ∷ full (b1 + ads + drdy + ap0 + rp) 0x6 0xc4 0xaa00004c000000 ∷ pair (rs 7 + dbsy + drdy + ap0 + rp) 0x2 0x22002
    ∷ chunk (b0 + dbsy + drdy) 0x71000000000000 ∷ chunk (b0 + dbsy + drdy) 0x3c00b600000000
    ∷ full (b0 + ads + hitm + drdy + ap0) 0x2 0xc2 0xaa00004c000000 ∷ on (b1 + rs 7 + dbsy + drdy)
    ∷ on (b1 + dbsy + drdy) ∷ pair (b1 + ads + dbsy + drdy) 0x2 0xc0 ∷ pair (hit + drdy + ap0) 0x0 0x20000 ∷ on trdy
    ∷ idle ∷ on (hitm + rs 6 + dbsy + drdy) ∷ on (dbsy + drdy) ∷ on (dbsy + drdy) ∷ on drdy ∷ on (b1 + rs 5)
    ∷ on (b0 + b1 + trdy) ∷ pair (b0 + b1 + ads + ap0) 0x2 0xc4 ∷ pair (b0 + rs 6 + dbsy + drdy) 0x0 0x22000
    ∷ chunk (b0 + dbsy + drdy) 0x71000000000000 ∷ full (b0 + lock + ads + dbsy + drdy + ap0) 0x2 0xc2 0x3c365200000000
    ∷ full (lock + hit + drdy + rp) 0x2 0x0 0xaa00004c000000 ∷ on (b0 + lock) ∷ [])
    (entry 11 0 0 0 (Load 2 0x604) 0x0 ∷ entry 12 0 1 0 (Load 8 0x608) 0x71000000000000
    ∷ entry 15 1 0 0 (Load 1 0x600) 0x0 ∷ entry 19 0 2 0 (Store 2 0x634 (LastPlus 0x0)) 0x0
    ∷ entry 25 1 1 0 (Load 8 0x620) 0x0 ∷ entry 26 0 3 0 (Store 2 0x614 (Literal 0x3652)) 0x3652
    ∷ entry 32 1 2 0 (Store 8 0x600 (LastPlus 0x2)) 0x2 ∷ [])
