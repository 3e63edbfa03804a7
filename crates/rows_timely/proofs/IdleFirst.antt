-- Made by lab/worked_runs.py of the stored run idle_first; not to be edited.
use Rattle.rows_timely.proofs.Words.{Run, scripted, plain, ◌+◌, [], ◌∷◌, ◌++◌, One, Idle, Load, on, pair, idles, b0}
use Rattle.rows_timely.proofs.Words.{ads, rs, dbsy, drdy, entry}

abbrev pub run : Run
run = scripted plain
    ((Idle 5 ∷ One (Load 1 0x40) ∷ []) ∷ [])
    (idles 5 ++ on b0 ∷ on b0 ∷ pair (b0 + ads) 0x6 0x8 ∷ pair 0 0x2 0x2 ∷ idles 4 ++ on (rs 7 + dbsy + drdy)
    ∷ on (dbsy + drdy) ∷ on (dbsy + drdy) ∷ on drdy ∷ idles 43)
    (entry 16 0 1 0 (Load 1 0x40) 0x0 ∷ [])
