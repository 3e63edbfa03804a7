-- Made by lab/worked_runs.py of the stored run load_after_loss; not to be edited.
use Rattle.rows_timely.proofs.Words.{Run, scripted, plain, ◌+◌, [], ◌∷◌, ◌++◌, One, Idle, Load, Store, Literal, on}
use Rattle.rows_timely.proofs.Words.{pair, chunk, idle, idles, b0, b1, ads, hit, hitm, rs, trdy, dbsy, drdy, entry}

abbrev pub run : Run
run = scripted (record plain { clocks = 44 })
    ((One (Load 1 0x40) ∷ Idle 5 ∷ One (Load 1 0x41) ∷ []) ∷ (Idle 10 ∷ One (Store 1 0x40 (Literal 0x8)) ∷ []) ∷ [])
    (on b0 ∷ on b0 ∷ pair (b0 + ads) 0x6 0x8 ∷ pair 0 0x2 0x2 ∷ idles 4 ++ on (rs 7 + dbsy + drdy) ∷ on (dbsy + drdy)
    ∷ on (b1 + dbsy + drdy) ∷ on (b1 + drdy) ∷ pair (b1 + ads) 0x2 0x8 ∷ pair 0 0x2 0x20002 ∷ idle ∷ idle ∷ on hit
    ∷ on b0 ∷ on (b0 + rs 7 + dbsy + drdy) ∷ pair (b0 + ads + dbsy + drdy) 0x6 0x8 ∷ pair (dbsy + drdy) 0x2 0x2
    ∷ on drdy ∷ idle ∷ on hitm ∷ idle ∷ on trdy ∷ idle ∷ chunk (rs 6 + dbsy + drdy) 0x8 ∷ on (dbsy + drdy)
    ∷ on (dbsy + drdy) ∷ on drdy ∷ idles 13)
    (entry 11 0 0 0 (Load 1 0x40) 0x0 ∷ entry 21 1 1 0 (Store 1 0x40 (Literal 0x8)) 0x8
    ∷ entry 30 0 2 0 (Load 1 0x41) 0x0 ∷ [])
