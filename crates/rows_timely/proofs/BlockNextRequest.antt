-- Made by lab/worked_runs.py of the stored run block_next_request; not to be edited.
use Rattle.rows_timely.proofs.Words.{Run, scripted, plain, ◌+◌, [], ◌∷◌, ◌++◌, One, Load, Bnr, on, pair, idles, b0, bnr}
use Rattle.rows_timely.proofs.Words.{ads, rs, dbsy, drdy, entry}

abbrev pub run : Run
run = scripted (record plain { hazards = Bnr 0 9 ∷ [] })
    ((One (Load 1 0x40) ∷ []) ∷ [])
    (on (b0 + bnr) ∷ on (b0 + bnr) ∷ on (b0 + bnr) ∷ on (b0 + bnr) ∷ on (b0 + bnr) ∷ on (b0 + bnr) ∷ on (b0 + bnr)
    ∷ on (b0 + bnr) ∷ on (b0 + bnr) ∷ on (b0 + bnr) ∷ on b0 ∷ on b0 ∷ pair (b0 + ads) 0x6 0x8 ∷ pair 0 0x2 0x2
    ∷ idles 4 ++ on (rs 7 + dbsy + drdy) ∷ on (dbsy + drdy) ∷ on (dbsy + drdy) ∷ on drdy ∷ idles 38)
    (entry 21 0 0 0 (Load 1 0x40) 0x0 ∷ [])
