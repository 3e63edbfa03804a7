-- Made by lab/worked_runs.py of the stored run hit_at_snoop_end; not to be edited.
use Rattle.rows_timely.proofs.Words.{Run, scripted, plain, ◌+◌, [], ◌∷◌, ◌++◌, One, Idle, Load, Store, Literal, on}
use Rattle.rows_timely.proofs.Words.{pair, chunk, idle, idles, b0, b1, ads, hit, hitm, rs, trdy, dbsy, drdy, entry}

abbrev pub run : Run
run = scripted (record plain { clocks = 36 })
    ((One (Load 1 0x40) ∷ Idle 4 ∷ One (Store 1 0x41 (Literal 0x5)) ∷ []) ∷ (Idle 10 ∷ One (Load 1 0x40)
    ∷ One (Store 1 0x42 (Literal 0x6)) ∷ []) ∷ [])
    (on b0 ∷ on b0 ∷ pair (b0 + ads) 0x6 0x8 ∷ pair 0 0x2 0x2 ∷ idles 4 ++ on (rs 7 + dbsy + drdy) ∷ on (dbsy + drdy)
    ∷ on (b1 + dbsy + drdy) ∷ on (b1 + drdy) ∷ pair (b1 + ads) 0x6 0x8 ∷ pair 0 0x2 0x20002 ∷ idle ∷ idle ∷ on hitm
    ∷ idle ∷ on trdy ∷ idle ∷ chunk (rs 6 + dbsy + drdy) 0x500 ∷ on (dbsy + drdy) ∷ on (dbsy + drdy) ∷ on drdy ∷ on b1
    ∷ on b1 ∷ pair (b1 + ads) 0x2 0x8 ∷ pair 0 0x2 0x20002 ∷ idle ∷ idle ∷ on hit ∷ idle
    ∷ chunk (rs 7 + dbsy + drdy) 0x500 ∷ on (dbsy + drdy) ∷ on (dbsy + drdy) ∷ on drdy ∷ [])
    (entry 11 0 0 0 (Load 1 0x40) 0x0 ∷ entry 16 0 2 0 (Store 1 0x41 (Literal 0x5)) 0x5
    ∷ entry 23 1 1 0 (Load 1 0x40) 0x0 ∷ entry 35 1 2 0 (Store 1 0x42 (Literal 0x6)) 0x6 ∷ [])
