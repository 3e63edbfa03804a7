-- Made by lab/worked_runs.py of the stored run stalled_snoop; not to be edited.
use Rattle.rows_timely.proofs.Words.{Run, scripted, plain, ◌+◌, [], ◌∷◌, ◌++◌, One, Load, Stall, on, pair, idle, idles}
use Rattle.rows_timely.proofs.Words.{b0, ads, hit, hitm, rs, dbsy, drdy, entry}

abbrev pub run : Run
run = scripted (record plain { hazards = Stall 0 2 ∷ [] })
    ((One (Load 1 0x40) ∷ []) ∷ [])
    (on b0 ∷ on b0 ∷ pair (b0 + ads) 0x6 0x8 ∷ pair 0 0x2 0x2 ∷ idle ∷ idle ∷ on (hit + hitm) ∷ idle ∷ on (hit + hitm)
    ∷ idles 3 ++ on (rs 7 + dbsy + drdy) ∷ on (dbsy + drdy) ∷ on (dbsy + drdy) ∷ on drdy ∷ idles 44)
    (entry 15 0 0 0 (Load 1 0x40) 0x0 ∷ [])
