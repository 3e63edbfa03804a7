-- Made by lab/worked_runs.py of the stored run retried_load; not to be edited.
use Rattle.rows_timely.proofs.Words.{Run, scripted, plain, ◌+◌, [], ◌∷◌, ◌++◌, One, Load, Retry, on, pair, idle, idles}
use Rattle.rows_timely.proofs.Words.{b0, ads, defer, rs, dbsy, drdy, entry}

abbrev pub run : Run
run = scripted (record plain { hazards = Retry 0 ∷ [] })
    ((One (Load 1 0x40) ∷ []) ∷ [])
    (on b0 ∷ on b0 ∷ pair (b0 + ads) 0x6 0x8 ∷ pair 0 0x2 0x2 ∷ idle ∷ idle ∷ on defer ∷ idle ∷ on (rs 1) ∷ on b0
    ∷ on b0 ∷ pair (b0 + ads) 0x6 0x8 ∷ pair 0 0x2 0x2 ∷ idles 4 ++ on (rs 7 + dbsy + drdy) ∷ on (dbsy + drdy)
    ∷ on (dbsy + drdy) ∷ on drdy ∷ idles 39)
    (entry 20 0 0 0 (Load 1 0x40) 0x0 ∷ [])
