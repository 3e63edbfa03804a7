-- Made by lab/worked_runs.py of the stored run shared_line_retried; not to be edited.
use Rattle.rows_timely.proofs.Words.{Run, scripted, plain, ◌+◌, [], ◌∷◌, ◌++◌, One, Idle, Load, Store, Literal, Retry}
use Rattle.rows_timely.proofs.Words.{on, pair, idle, idles, b0, b1, ads, hit, defer, rs, dbsy, drdy, entry}

abbrev pub run : Run
run = scripted (record plain { clocks = 52; hazards = Retry 1 ∷ Retry 2 ∷ [] })
    ((One (Load 1 0x40) ∷ Idle 4 ∷ One (Store 1 0x41 (Literal 0x5)) ∷ []) ∷ (Idle 9 ∷ One (Load 1 0x40) ∷ []) ∷ [])
    (on b0 ∷ on b0 ∷ pair (b0 + ads) 0x6 0x8 ∷ pair 0 0x2 0x2 ∷ idles 4 ++ on (rs 7 + dbsy + drdy)
    ∷ on (b1 + dbsy + drdy) ∷ on (b1 + dbsy + drdy) ∷ pair (b1 + ads + drdy) 0x6 0x8 ∷ pair 0 0x2 0x20002 ∷ idle
    ∷ idle ∷ on (hit + defer) ∷ on b0 ∷ on (b0 + rs 1) ∷ pair (b0 + b1 + ads) 0x2 0x8 ∷ pair b1 0x2 0x2 ∷ on b1
    ∷ pair (b1 + ads) 0x6 0x8 ∷ pair defer 0x2 0x20002 ∷ idle ∷ on (rs 1) ∷ on (b0 + hit) ∷ on b0
    ∷ pair (b0 + ads + rs 7 + dbsy + drdy) 0x2 0x8 ∷ pair (dbsy + drdy) 0x2 0x2 ∷ on (dbsy + drdy) ∷ on drdy ∷ on hit
    ∷ idle ∷ on (rs 7 + dbsy + drdy) ∷ on (dbsy + drdy) ∷ on (dbsy + drdy) ∷ on drdy ∷ idles 15)
    (entry 11 0 0 0 (Load 1 0x40) 0x0 ∷ entry 30 1 1 0 (Load 1 0x40) 0x0
    ∷ entry 36 0 2 0 (Store 1 0x41 (Literal 0x5)) 0x5 ∷ [])
