-- Made by lab/worked_runs.py of the stored run run_cut_before_arrival_10; not to be edited.
use Rattle.rows_timely.proofs.Words.{Run, scripted, plain, ◌+◌, [], ◌∷◌, One, Store, Literal, on, pair, idle, b0, b1}
use Rattle.rows_timely.proofs.Words.{ads, hitm, rs, dbsy, drdy}

abbrev pub run : Run
run = scripted (record plain { clocks = 10 })
    ((One (Store 1 0x40 (Literal 0x1)) ∷ []) ∷ (One (Store 1 0x40 (Literal 0x2)) ∷ []) ∷ [])
    (on (b0 + b1) ∷ on (b0 + b1) ∷ pair (b0 + b1 + ads) 0x2 0x8 ∷ pair b1 0x2 0x2 ∷ on b1 ∷ pair (b1 + ads) 0x2 0x8
    ∷ pair 0 0x2 0x20002 ∷ idle ∷ on (rs 7 + dbsy + drdy) ∷ on (hitm + dbsy + drdy) ∷ [])
    []
