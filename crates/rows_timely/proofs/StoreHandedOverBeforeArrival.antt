-- Made by lab/worked_runs.py of the stored run store_handed_over_before_arrival; not to be edited.
use Rattle.rows_timely.proofs.Words.{Run, scripted, plain, ◌+◌, [], ◌∷◌, One, Store, Literal, on, pair, chunk, idle}
use Rattle.rows_timely.proofs.Words.{idles, b0, b1, ads, hitm, rs, trdy, dbsy, drdy, entry}

abbrev pub run : Run
run = scripted plain
    ((One (Store 1 0x40 (Literal 0x1)) ∷ []) ∷ (One (Store 1 0x40 (Literal 0x2)) ∷ []) ∷ [])
    (on (b0 + b1) ∷ on (b0 + b1) ∷ pair (b0 + b1 + ads) 0x2 0x8 ∷ pair b1 0x2 0x2 ∷ on b1 ∷ pair (b1 + ads) 0x2 0x8
    ∷ pair 0 0x2 0x20002 ∷ idle ∷ on (rs 7 + dbsy + drdy) ∷ on (hitm + dbsy + drdy) ∷ on (dbsy + drdy) ∷ on drdy
    ∷ on trdy ∷ idle ∷ chunk (rs 6 + dbsy + drdy) 0x1 ∷ on (dbsy + drdy) ∷ on (dbsy + drdy) ∷ on drdy ∷ idles 42)
    (entry 11 0 0 0 (Store 1 0x40 (Literal 0x1)) 0x1 ∷ entry 17 1 0 0 (Store 1 0x40 (Literal 0x2)) 0x2 ∷ [])
