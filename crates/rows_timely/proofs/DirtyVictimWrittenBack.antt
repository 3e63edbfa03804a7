-- Made by lab/worked_runs.py of the stored run dirty_victim_written_back; not to be edited.
use Rattle.rows_timely.proofs.Words.{Run, scripted, plain, ◌+◌, [], ◌∷◌, ◌++◌, One, Load, Store, Literal, on, pair}
use Rattle.rows_timely.proofs.Words.{chunk, idle, idles, b0, ads, rs, trdy, dbsy, drdy, entry}

abbrev pub run : Run
run = scripted (record plain { cache = 1 })
    ((One (Store 1 0x40 (Literal 0x1)) ∷ One (Load 1 0x80) ∷ One (Load 1 0x40) ∷ []) ∷ [])
    (on b0 ∷ on b0 ∷ pair (b0 + ads) 0x2 0x8 ∷ pair 0 0x2 0x2 ∷ idles 4 ++ on (rs 7 + dbsy + drdy) ∷ on (dbsy + drdy)
    ∷ on (dbsy + drdy) ∷ on drdy ∷ on b0 ∷ on b0 ∷ pair (b0 + ads) 0x5 0x8 ∷ pair 0 0x2 0x0 ∷ idles 4 ++ on trdy
    ∷ idle ∷ chunk (rs 5 + dbsy + drdy) 0x1 ∷ on (dbsy + drdy) ∷ on (dbsy + drdy) ∷ on drdy ∷ on b0 ∷ on b0
    ∷ pair (b0 + ads) 0x6 0x10 ∷ pair 0 0x2 0x2 ∷ idles 4 ++ on (rs 7 + dbsy + drdy) ∷ on (dbsy + drdy)
    ∷ on (dbsy + drdy) ∷ on drdy ∷ on b0 ∷ on b0 ∷ pair (b0 + ads) 0x6 0x8 ∷ pair 0 0x2 0x2 ∷ idles 4
    ++ chunk (rs 7 + dbsy + drdy) 0x1 ∷ on (dbsy + drdy) ∷ on (dbsy + drdy) ∷ on drdy ∷ idles 10)
    (entry 11 0 0 0 (Store 1 0x40 (Literal 0x1)) 0x1 ∷ entry 37 0 1 0 (Load 1 0x80) 0x0
    ∷ entry 49 0 2 0 (Load 1 0x40) 0x1 ∷ [])
