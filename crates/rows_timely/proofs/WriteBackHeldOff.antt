-- Made by lab/worked_runs.py of the stored run write_back_held_off; not to be edited.
use Rattle.rows_timely.proofs.Words.{Run, scripted, plain, ◌+◌, [], ◌∷◌, ◌++◌, One, Idle, Load, Store, Literal, on}
use Rattle.rows_timely.proofs.Words.{pair, chunk, idle, idles, b0, b1, ads, hitm, rs, trdy, dbsy, drdy, entry}

abbrev pub run : Run
run = scripted (record plain { cache = 1 })
    ((One (Store 1 0x40 (Literal 0x1)) ∷ One (Load 1 0x80) ∷ []) ∷ (Idle 11 ∷ One (Load 1 0x40) ∷ []) ∷ [])
    (on b0 ∷ on b0 ∷ pair (b0 + ads) 0x2 0x8 ∷ pair 0 0x2 0x2 ∷ idles 4 ++ on (rs 7 + dbsy + drdy) ∷ on (dbsy + drdy)
    ∷ on (dbsy + drdy) ∷ on (b1 + drdy) ∷ on (b0 + b1) ∷ pair (b0 + b1 + ads) 0x6 0x8 ∷ pair b0 0x2 0x20002 ∷ on b0
    ∷ on b0 ∷ on (b0 + hitm) ∷ pair (b0 + ads) 0x6 0x10 ∷ pair trdy 0x2 0x2 ∷ idle ∷ chunk (rs 6 + dbsy + drdy) 0x1
    ∷ on (dbsy + drdy) ∷ on (dbsy + drdy) ∷ on drdy ∷ on (rs 7 + dbsy + drdy) ∷ on (dbsy + drdy) ∷ on (dbsy + drdy)
    ∷ on drdy ∷ idles 31)
    (entry 11 0 0 0 (Store 1 0x40 (Literal 0x1)) 0x1 ∷ entry 24 1 1 0 (Load 1 0x40) 0x1
    ∷ entry 28 0 1 0 (Load 1 0x80) 0x0 ∷ [])
