-- Made by lab/worked_runs.py of the stored run second_store_waits; not to be edited.
use Rattle.rows_timely.proofs.Words.{Run, scripted, plain, ◌+◌, [], ◌∷◌, ◌++◌, One, Store, Literal, on, pair, idles, b0}
use Rattle.rows_timely.proofs.Words.{ads, rs, dbsy, drdy, entry}

abbrev pub run : Run
run = scripted (record plain { ahead = 2 })
    ((One (Store 1 0x40 (Literal 0x1)) ∷ One (Store 1 0x40 (Literal 0x2)) ∷ []) ∷ [])
    (on b0 ∷ on b0 ∷ pair (b0 + ads) 0x2 0x8 ∷ pair 0 0x2 0x2 ∷ idles 4 ++ on (rs 7 + dbsy + drdy) ∷ on (dbsy + drdy)
    ∷ on (dbsy + drdy) ∷ on drdy ∷ idles 48)
    (entry 11 0 0 0 (Store 1 0x40 (Literal 0x1)) 0x1 ∷ entry 12 0 1 0 (Store 1 0x40 (Literal 0x2)) 0x2 ∷ [])
