-- Made by lab/worked_runs.py of the stored run cancelled_by_address_error; not to be edited.
use Rattle.rows_timely.proofs.Words.{Run, scripted, plain, ◌+◌, [], ◌∷◌, ◌++◌, One, Load, Aerr, on, pair, idle, idles}
use Rattle.rows_timely.proofs.Words.{b0, ads, aerr, rs, dbsy, drdy, entry}

abbrev pub run : Run
run = scripted (record plain { hazards = Aerr 0 ∷ [] })
    ((One (Load 1 0x40) ∷ []) ∷ [])
    (on b0 ∷ on b0 ∷ pair (b0 + ads) 0x6 0x8 ∷ pair 0 0x2 0x2 ∷ idle ∷ on aerr ∷ on b0 ∷ on b0
    ∷ pair (b0 + ads) 0x6 0x8 ∷ pair 0 0x2 0x2 ∷ idles 4 ++ on (rs 7 + dbsy + drdy) ∷ on (dbsy + drdy)
    ∷ on (dbsy + drdy) ∷ on drdy ∷ idles 42)
    (entry 17 0 0 0 (Load 1 0x40) 0x0 ∷ [])
