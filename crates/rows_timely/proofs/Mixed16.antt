-- Made by lab/worked_runs.py of the stored run mixed_16; not to be edited.
use Rattle.rows_timely.proofs.Words.{Run, scripted, plain, ◌+◌, [], ◌∷◌, ◌++◌, Some, One, Locked, Idle, Load, Store}
use Rattle.rows_timely.proofs.Words.{Literal, LastPlus, Trdy, Defer, on, pair, chunk, full, idle, idles, b0, b1, b2, b3}
use Rattle.rows_timely.proofs.Words.{lock, ads, hit, hitm, defer, rs, trdy, dbsy, drdy, ap0, rp, entry}

abbrev pub run : Run
run = scripted
    (record plain {
      clocks = 59;
      cache = 2;
      ahead = 4;
      profile = 2;
      bridge = Some (record { base = 0xffffff800; size = 0x80 });
      hazards = Defer 1 3 ∷ Trdy 4 1 ∷ Trdy 24 3 ∷ [];
    })
    ((One (Store 8 0xffffff800 (LastPlus 0x2)) ∷ One (Store 2 0xffffff860 (LastPlus 0x1))
    ∷ One (Store 1 0xffffff800 (LastPlus 0x0)) ∷ Idle 4 ∷ One (Store 8 0xffffff800 (LastPlus 0x723d26ae99d9fc70))
    ∷ Locked (Store 8 0xffffff830 (Literal 0x6a69528a9abd8211) ∷ []) ∷ One (Store 4 0xffffff80c (LastPlus 0xfdb2e968))
    ∷ One (Load 8 0xffffff840) ∷ One (Store 4 0xffffff800 (Literal 0x62af0472)) ∷ Idle 11 ∷ [])
    ∷ (One (Load 1 0xffffff800) ∷ One (Load 4 0xffffff800) ∷ One (Load 4 0xffffff804) ∷ One (Load 8 0xffffff860) ∷ [])
    ∷ (Idle 1 ∷ One (Load 1 0xffffff800) ∷ Idle 9 ∷ []) ∷ (One (Load 2 0xffffff800) ∷ []) ∷ [])
    (on (b0 + b1 + b3) ∷ on (b0 + b1 + b2 + b3) ∷ pair (b0 + b1 + b2 + b3 + ads + ap0 + rp) 0xa 0x1ffffff00
    ∷ pair (b1 + b2 + b3 + ap0 + rp) 0x2 0x2 ∷ on (b0 + b1 + b2 + b3)
    ∷ pair (b0 + b1 + b2 + b3 + ads + ap0) 0xe 0x1ffffff00 ∷ pair (b0 + b2 + b3 + rp) 0x2 0x20002
    ∷ on (b0 + b1 + b2 + b3) ∷ pair (b0 + b1 + b2 + b3 + ads + rs 7 + dbsy + drdy + ap0) 0xe 0x1ffffff00
    ∷ pair (b0 + b1 + b3 + hitm + defer + dbsy + drdy + rp) 0x2 0x40002 ∷ on (b0 + b1 + b3 + dbsy + drdy)
    ∷ pair (b0 + b1 + b3 + ads + drdy + ap0) 0xe 0x1ffffff00 ∷ pair (b0 + b1 + hit + trdy + ap0 + rp) 0x2 0x60002
    ∷ on (b0 + b1) ∷ full (b0 + b1 + ads + rs 6 + dbsy + drdy + ap0 + rp) 0xa 0x1ffffff0c 0x2
    ∷ pair (b1 + hit + dbsy + drdy + ap0 + rp) 0x2 0x2 ∷ on (b0 + b1 + dbsy + drdy)
    ∷ pair (b0 + b1 + ads + drdy + ap0) 0xe 0x1ffffff0c ∷ full (b0 + rs 7 + dbsy + drdy + ap0 + rp) 0x2 0x22002 0x2
    ∷ on (b0 + dbsy + drdy) ∷ pair (b0 + ads + dbsy + drdy + ap0 + rp) 0xa 0x1ffffff00
    ∷ pair (hitm + drdy + ap0) 0x0 0x2000 ∷ chunk (rs 7 + dbsy + drdy) 0x2 ∷ on (dbsy + drdy) ∷ on (hit + dbsy + drdy)
    ∷ on drdy ∷ on (rs 7 + dbsy + drdy) ∷ on (dbsy + drdy) ∷ on (dbsy + drdy) ∷ on drdy ∷ on trdy ∷ idle
    ∷ chunk (rs 6 + dbsy + drdy) 0x1 ∷ on (dbsy + drdy) ∷ on (dbsy + drdy) ∷ on drdy ∷ on (rs 5) ∷ idles 5 ++ on b0
    ∷ on b0 ∷ pair (b0 + lock + ads + ap0 + rp) 0xa 0x1ffffff06 ∷ pair (lock + rp) 0x2 0x0 ∷ on lock ∷ on lock
    ∷ on lock ∷ on lock ∷ on (lock + rs 7 + dbsy + drdy) ∷ on (lock + dbsy + drdy) ∷ on (lock + dbsy + drdy)
    ∷ on (lock + drdy) ∷ idle ∷ on b0 ∷ on b0 ∷ pair (b0 + ads + ap0) 0xd 0x1ffffff00 ∷ pair rp 0x2 0x0 ∷ [])
    (entry 11 0 0 0 (Store 8 0xffffff800 (LastPlus 0x2)) 0x2 ∷ entry 17 1 0 0 (Load 1 0xffffff800) 0x2
    ∷ entry 18 1 1 0 (Load 4 0xffffff800) 0x2 ∷ entry 19 1 2 0 (Load 4 0xffffff804) 0x0
    ∷ entry 21 2 1 0 (Load 1 0xffffff800) 0x2 ∷ entry 25 3 0 0 (Load 2 0xffffff800) 0x2
    ∷ entry 29 0 1 0 (Store 2 0xffffff860 (LastPlus 0x1)) 0x1 ∷ entry 35 1 3 0 (Load 8 0xffffff860) 0x1
    ∷ entry 36 0 2 0 (Store 1 0xffffff800 (LastPlus 0x0)) 0x0
    ∷ entry 41 0 4 0 (Store 8 0xffffff800 (LastPlus 0x723d26ae99d9fc70)) 0x723d26ae99d9fc70
    ∷ entry 53 0 5 0 (Store 8 0xffffff830 (Literal 0x6a69528a9abd8211)) 0x6a69528a9abd8211
    ∷ entry 54 0 6 0 (Store 4 0xffffff80c (LastPlus 0xfdb2e968)) 0xfdb2e968 ∷ [])
