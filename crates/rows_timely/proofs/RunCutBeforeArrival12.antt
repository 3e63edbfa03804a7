-- Made by lab/worked_runs.py of the stored run run_cut_before_arrival_12; not to be edited.
use Rattle.rows_timely.proofs.Words.{Run, scripted, plain, ◌+◌, [], ◌∷◌, One, Store, Literal, on, pair, idle, b0, b1}
use Rattle.rows_timely.proofs.Words.{ads, hitm, rs, dbsy, drdy, entry}

abbrev pub run : Run
run = scripted (record plain { clocks = 12 })
    ((One (Store 1 0x40 (Literal 0x1)) ∷ []) ∷ (One (Store 1 0x40 (Literal 0x2)) ∷ []) ∷ [])
    (on (b0 + b1) ∷ on (b0 + b1) ∷ pair (b0 + b1 + ads) 0x2 0x8 ∷ pair b1 0x2 0x2 ∷ on b1 ∷ pair (b1 + ads) 0x2 0x8
    ∷ pair 0 0x2 0x20002 ∷ idle ∷ on (rs 7 + dbsy + drdy) ∷ on (hitm + dbsy + drdy) ∷ on (dbsy + drdy) ∷ on drdy ∷ [])
    (entry 11 0 0 0 (Store 1 0x40 (Literal 0x1)) 0x1 ∷ [])
