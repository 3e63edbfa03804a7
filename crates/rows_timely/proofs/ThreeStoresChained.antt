-- Made by lab/worked_runs.py of the stored run three_stores_chained; not to be edited.
use Rattle.rows_timely.proofs.Words.{Run, scripted, plain, ◌+◌, [], ◌∷◌, One, Store, Literal, on, pair, chunk, idle}
use Rattle.rows_timely.proofs.Words.{idles, b0, b1, b2, ads, hitm, rs, trdy, dbsy, drdy, entry}

abbrev pub run : Run
run = scripted plain
    ((One (Store 1 0x40 (Literal 0x1)) ∷ []) ∷ (One (Store 1 0x40 (Literal 0x2)) ∷ [])
    ∷ (One (Store 1 0x40 (Literal 0x3)) ∷ []) ∷ [])
    (on (b0 + b1 + b2) ∷ on (b0 + b1 + b2) ∷ pair (b0 + b1 + b2 + ads) 0x2 0x8 ∷ pair (b1 + b2) 0x2 0x2 ∷ on (b1 + b2)
    ∷ pair (b1 + b2 + ads) 0x2 0x8 ∷ pair b2 0x2 0x20002 ∷ on b2 ∷ pair (b2 + ads + rs 7 + dbsy + drdy) 0x2 0x8
    ∷ pair (hitm + dbsy + drdy) 0x2 0x40002 ∷ on (dbsy + drdy) ∷ on drdy ∷ on (hitm + trdy) ∷ idle
    ∷ chunk (rs 6 + dbsy + drdy) 0x1 ∷ on (dbsy + drdy) ∷ on (dbsy + drdy) ∷ on drdy ∷ on trdy ∷ idle
    ∷ chunk (rs 6 + dbsy + drdy) 0x2 ∷ on (dbsy + drdy) ∷ on (dbsy + drdy) ∷ on drdy ∷ idles 36)
    (entry 11 0 0 0 (Store 1 0x40 (Literal 0x1)) 0x1 ∷ entry 17 1 0 0 (Store 1 0x40 (Literal 0x2)) 0x2
    ∷ entry 23 2 0 0 (Store 1 0x40 (Literal 0x3)) 0x3 ∷ [])
