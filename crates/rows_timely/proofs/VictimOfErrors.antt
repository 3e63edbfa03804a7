-- Made by lab/worked_runs.py of the stored run victim_of_errors; not to be edited.
use Rattle.rows_timely.proofs.Words.{Run, scripted, plain, ◌+◌, [], ◌∷◌, ◌++◌, One, Idle, Load, Stall, Retry, Aerr, on}
use Rattle.rows_timely.proofs.Words.{pair, idle, idles, b0, b1, ads, aerr, hit, hitm, defer, rs, dbsy, drdy, entry}

abbrev pub run : Run
run = scripted (record plain { clocks = 50; cache = 1; hazards = Stall 1 2 ∷ Aerr 2 ∷ Retry 4 ∷ [] })
    ((One (Load 1 0x40) ∷ One (Load 1 0x60) ∷ One (Load 1 0x40) ∷ []) ∷ (Idle 9 ∷ One (Load 1 0x40)
    ∷ One (Load 1 0x60) ∷ []) ∷ [])
    (on b0 ∷ on b0 ∷ pair (b0 + ads) 0x6 0x8 ∷ pair 0 0x2 0x2 ∷ idles 4 ++ on (rs 7 + dbsy + drdy)
    ∷ on (b1 + dbsy + drdy) ∷ on (b1 + dbsy + drdy) ∷ pair (b1 + ads + drdy) 0x6 0x8 ∷ pair b0 0x2 0x20002 ∷ on b0
    ∷ pair (b0 + ads) 0x6 0xc ∷ pair (hit + hitm) 0x2 0x2 ∷ idle ∷ on (aerr + hit + hitm) ∷ on b0 ∷ on b0
    ∷ pair (b0 + ads) 0x6 0xc ∷ pair (rs 7 + dbsy + drdy) 0x2 0x2 ∷ on (dbsy + drdy) ∷ on (dbsy + drdy) ∷ on drdy
    ∷ on b1 ∷ on (b1 + rs 7 + dbsy + drdy) ∷ pair (b1 + ads + dbsy + drdy) 0x6 0xc ∷ pair (dbsy + drdy) 0x2 0x20002
    ∷ on drdy ∷ on b0 ∷ on (b0 + hit + defer) ∷ pair (b0 + ads) 0x6 0x8 ∷ pair (rs 1) 0x2 0x2 ∷ on b1 ∷ on b1
    ∷ pair (b1 + ads) 0x6 0xc ∷ pair 0 0x2 0x20002 ∷ on (rs 7 + dbsy + drdy) ∷ on (dbsy + drdy) ∷ on (dbsy + drdy)
    ∷ on drdy ∷ on (rs 7 + dbsy + drdy) ∷ on (dbsy + drdy) ∷ on (dbsy + drdy) ∷ on drdy ∷ idles 4)
    (entry 11 0 0 0 (Load 1 0x40) 0x0 ∷ entry 24 1 1 0 (Load 1 0x40) 0x0 ∷ entry 29 0 1 0 (Load 1 0x60) 0x0
    ∷ entry 41 0 2 0 (Load 1 0x40) 0x0 ∷ entry 45 1 2 0 (Load 1 0x60) 0x0 ∷ [])
