-- Made by lab/worked_runs.py of the stored run mixed_09; not to be edited.
use Rattle.rows_timely.proofs.Words.{Run, scripted, plain, ◌+◌, [], ◌∷◌, ◌++◌, Some, One, Locked, Load, Store, Literal}
use Rattle.rows_timely.proofs.Words.{LastPlus, setting, Retry, Aerr, on, pair, chunk, idle, idles, b0, lock, ads, defer}
use Rattle.rows_timely.proofs.Words.{rs, trdy, dbsy, drdy, ap0, rp, entry}

abbrev pub run : Run
run = scripted
    (record plain {
      clocks = 84;
      cache = 2;
      ahead = 4;
      profile = 2;
      bridge = Some (record { base = 0x700; size = 0x40 });
      mem = setting 0x6d3 0xe0 ∷ setting 0x724 0x6f ∷ setting 0x739 0x55 ∷ setting 0x652 0xfa ∷ [];
      hazards = Retry 4 ∷ Aerr 8 ∷ [];
    })
    ((One (Load 2 0x6ce) ∷ One (Store 4 0x734 (Literal 0x7bce2d26)) ∷ One (Load 2 0x72c)
    ∷ Locked (Store 1 0x69e (Literal 0x61) ∷ Load 8 0x720 ∷ Load 8 0x738 ∷ []) ∷ One (Store 2 0x680 (Literal 0xc389))
    ∷ Locked (Store 1 0x739 (LastPlus 0x1) ∷ []) ∷ One (Load 2 0x73c) ∷ Locked (Load 2 0x652 ∷ Load 1 0x73a ∷ [])
    ∷ []) ∷ [])
    (on b0 ∷ on b0 ∷ pair (b0 + ads + ap0 + rp) 0x6 0xd9 ∷ pair (ap0 + rp) 0x2 0x2 ∷ on b0 ∷ on b0
    ∷ pair (b0 + ads + ap0) 0x2 0xe6 ∷ pair rp 0x2 0x2002 ∷ on (rs 7 + dbsy + drdy) ∷ on (dbsy + drdy)
    ∷ on (dbsy + drdy) ∷ chunk drdy 0xe0000000 ∷ on (rs 7 + dbsy + drdy) ∷ chunk (dbsy + drdy) 0x5500
    ∷ chunk (dbsy + drdy) 0x6f00000000 ∷ on drdy ∷ idle ∷ on b0 ∷ on b0 ∷ pair (b0 + lock + ads + ap0) 0x2 0xd3
    ∷ pair (lock + rp) 0x2 0x0 ∷ on lock ∷ on lock ∷ on lock ∷ on lock ∷ on (lock + rs 7 + dbsy + drdy)
    ∷ on (lock + dbsy + drdy) ∷ on (lock + dbsy + drdy) ∷ on (lock + drdy) ∷ idles 3 ++ on b0 ∷ on b0
    ∷ pair (b0 + ads + ap0 + rp) 0x5 0xd0 ∷ pair rp 0x2 0x0 ∷ idles 4 ++ on trdy ∷ idle
    ∷ chunk (rs 5 + dbsy + drdy) 0xc389 ∷ on (dbsy + drdy) ∷ on (dbsy + drdy) ∷ chunk drdy 0x61000000000000 ∷ on b0
    ∷ on b0 ∷ pair (b0 + lock + ads) 0x2 0xca ∷ pair (lock + rp) 0x2 0x0 ∷ on lock ∷ on lock ∷ on (lock + defer)
    ∷ on lock ∷ on (lock + rs 1) ∷ on b0 ∷ on b0 ∷ pair (b0 + lock + ads) 0x2 0xca ∷ pair (lock + rp) 0x2 0x0
    ∷ on lock ∷ on lock ∷ on lock ∷ on lock ∷ chunk (lock + rs 7 + dbsy + drdy) 0xfa0000 ∷ on (lock + dbsy + drdy)
    ∷ on (lock + dbsy + drdy) ∷ on (lock + drdy) ∷ idles 17)
    (entry 11 0 0 0 (Load 2 0x6ce) 0x0 ∷ entry 15 0 1 0 (Store 4 0x734 (Literal 0x7bce2d26)) 0x7bce2d26
    ∷ entry 16 0 2 0 (Load 2 0x72c) 0x0 ∷ entry 28 0 3 0 (Store 1 0x69e (Literal 0x61)) 0x61
    ∷ entry 28 0 3 1 (Load 8 0x720) 0x6f00000000 ∷ entry 28 0 3 2 (Load 8 0x738) 0x5500
    ∷ entry 29 0 4 0 (Store 2 0x680 (Literal 0xc389)) 0xc389 ∷ entry 30 0 5 0 (Store 1 0x739 (LastPlus 0x1)) 0x1
    ∷ entry 31 0 6 0 (Load 2 0x73c) 0x0 ∷ entry 66 0 7 0 (Load 2 0x652) 0xfa ∷ entry 66 0 7 1 (Load 1 0x73a) 0x0 ∷ [])
