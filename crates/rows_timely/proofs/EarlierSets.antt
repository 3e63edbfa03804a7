-- Made by lab/worked_runs.py of the stored run earlier_sets; not to be edited.
use Rattle.rows_timely.proofs.Words.{Run, scripted, plain, ◌+◌, [], ◌∷◌, ◌++◌, One, Load, Store, Literal, on, pair}
use Rattle.rows_timely.proofs.Words.{chunk, idle, idles, b0, ads, rs, trdy, dbsy, drdy, entry}

abbrev pub run : Run
run = scripted (record plain { cache = 2; ahead = 3 })
    ((One (Load 1 0x40) ∷ One (Load 1 0x60) ∷ One (Load 1 0x41) ∷ One (Load 1 0x61) ∷ One (Load 1 0x80)
    ∷ One (Store 1 0x81 (Literal 0x3)) ∷ One (Load 1 0xa0) ∷ One (Load 1 0x40) ∷ One (Load 1 0xa1) ∷ []) ∷ [])
    (on b0 ∷ on b0 ∷ pair (b0 + ads) 0x6 0x8 ∷ pair 0 0x2 0x2 ∷ on b0 ∷ on b0 ∷ pair (b0 + ads) 0x6 0xc
    ∷ pair 0 0x2 0x2002 ∷ on (rs 7 + dbsy + drdy) ∷ on (dbsy + drdy) ∷ on (dbsy + drdy) ∷ on drdy
    ∷ on (rs 7 + dbsy + drdy) ∷ on (dbsy + drdy) ∷ on (dbsy + drdy) ∷ on drdy ∷ idle ∷ on b0 ∷ on b0
    ∷ pair (b0 + ads) 0x6 0x10 ∷ pair 0 0x2 0x2 ∷ on b0 ∷ on b0 ∷ pair (b0 + ads) 0x6 0x14 ∷ pair 0 0x2 0x2002
    ∷ on (rs 7 + dbsy + drdy) ∷ on (dbsy + drdy) ∷ on (dbsy + drdy) ∷ on drdy ∷ on (rs 7 + dbsy + drdy)
    ∷ on (b0 + dbsy + drdy) ∷ on (b0 + dbsy + drdy) ∷ pair (b0 + ads + drdy) 0x5 0x10 ∷ pair 0 0x2 0x0 ∷ idles 4
    ++ on trdy ∷ idle ∷ chunk (rs 5 + dbsy + drdy) 0x300 ∷ on (dbsy + drdy) ∷ on (dbsy + drdy) ∷ on drdy ∷ on b0
    ∷ on b0 ∷ pair (b0 + ads) 0x6 0x8 ∷ pair 0 0x2 0x2 ∷ idles 4 ++ on (rs 7 + dbsy + drdy) ∷ on (dbsy + drdy)
    ∷ on (dbsy + drdy) ∷ on drdy ∷ idles 4)
    (entry 11 0 0 0 (Load 1 0x40) 0x0 ∷ entry 15 0 1 0 (Load 1 0x60) 0x0 ∷ entry 16 0 2 0 (Load 1 0x41) 0x0
    ∷ entry 17 0 3 0 (Load 1 0x61) 0x0 ∷ entry 28 0 4 0 (Load 1 0x80) 0x0
    ∷ entry 29 0 5 0 (Store 1 0x81 (Literal 0x3)) 0x3 ∷ entry 32 0 6 0 (Load 1 0xa0) 0x0
    ∷ entry 55 0 7 0 (Load 1 0x40) 0x0 ∷ entry 56 0 8 0 (Load 1 0xa1) 0x0 ∷ [])
