-- Made by lab/worked_runs.py of the stored run shared_line_invalidated; not to be edited.
use Rattle.rows_timely.proofs.Words.{Run, scripted, plain, ◌+◌, [], ◌∷◌, One, Load, Store, Literal, on, pair, idle}
use Rattle.rows_timely.proofs.Words.{idles, b0, b1, ads, hit, rs, dbsy, drdy, entry}

abbrev pub run : Run
run = scripted plain
    ((One (Load 1 0x40) ∷ One (Store 1 0x40 (Literal 0x1)) ∷ []) ∷ (One (Load 1 0x40) ∷ []) ∷ [])
    (on (b0 + b1) ∷ on (b0 + b1) ∷ pair (b0 + b1 + ads) 0x6 0x8 ∷ pair b1 0x2 0x2 ∷ on b1 ∷ pair (b1 + ads) 0x6 0x8
    ∷ pair 0 0x2 0x20002 ∷ idle ∷ on (rs 7 + dbsy + drdy) ∷ on (hit + dbsy + drdy) ∷ on (dbsy + drdy) ∷ on drdy
    ∷ on (b0 + rs 7 + dbsy + drdy) ∷ on (b0 + dbsy + drdy) ∷ pair (b0 + ads + dbsy + drdy) 0x2 0x8 ∷ pair drdy 0x2 0x2
    ∷ idle ∷ idle ∷ on hit ∷ idle ∷ on (rs 7 + dbsy + drdy) ∷ on (dbsy + drdy) ∷ on (dbsy + drdy) ∷ on drdy ∷ idles 36)
    (entry 11 0 0 0 (Load 1 0x40) 0x0 ∷ entry 15 1 0 0 (Load 1 0x40) 0x0
    ∷ entry 23 0 1 0 (Store 1 0x40 (Literal 0x1)) 0x1 ∷ [])
