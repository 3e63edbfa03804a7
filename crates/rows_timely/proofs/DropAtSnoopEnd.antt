-- Made by lab/worked_runs.py of the stored run drop_at_snoop_end; not to be edited.
use Rattle.rows_timely.proofs.Words.{Run, scripted, plain, ◌+◌, [], ◌∷◌, ◌++◌, One, Idle, Load, on, pair, idles, b0, b1}
use Rattle.rows_timely.proofs.Words.{ads, hit, rs, dbsy, drdy, entry}

abbrev pub run : Run
run = scripted (record plain { cache = 1 })
    ((One (Load 1 0x40) ∷ Idle 3 ∷ One (Load 1 0x80) ∷ []) ∷ (Idle 11 ∷ One (Load 1 0x40) ∷ []) ∷ [])
    (on b0 ∷ on b0 ∷ pair (b0 + ads) 0x6 0x8 ∷ pair 0 0x2 0x2 ∷ idles 4 ++ on (rs 7 + dbsy + drdy) ∷ on (dbsy + drdy)
    ∷ on (dbsy + drdy) ∷ on (b1 + drdy) ∷ on b1 ∷ pair (b1 + ads) 0x6 0x8 ∷ pair 0 0x2 0x20002 ∷ on b0 ∷ on b0
    ∷ pair (b0 + ads + hit) 0x6 0x10 ∷ pair 0 0x2 0x2 ∷ on (rs 7 + dbsy + drdy) ∷ on (dbsy + drdy) ∷ on (dbsy + drdy)
    ∷ on drdy ∷ on (rs 7 + dbsy + drdy) ∷ on (dbsy + drdy) ∷ on (dbsy + drdy) ∷ on drdy ∷ idles 33)
    (entry 11 0 0 0 (Load 1 0x40) 0x0 ∷ entry 22 1 1 0 (Load 1 0x40) 0x0 ∷ entry 26 0 2 0 (Load 1 0x80) 0x0 ∷ [])
