-- Made by lab/worked_runs.py of the stored run upgrade_retried; not to be edited.
use Rattle.rows_timely.proofs.Words.{Run, scripted, plain, ◌+◌, [], ◌∷◌, ◌++◌, One, Load, Store, Literal, Retry, on}
use Rattle.rows_timely.proofs.Words.{pair, idle, idles, b0, b1, ads, hit, defer, rs, dbsy, drdy, ap0, rp, entry}

abbrev pub run : Run
run = scripted (record plain { profile = 2; hazards = Retry 2 ∷ [] })
    ((One (Load 1 0x40) ∷ One (Store 1 0x40 (Literal 0x1)) ∷ []) ∷ (One (Load 1 0x40) ∷ []) ∷ [])
    (on (b0 + b1) ∷ on (b0 + b1) ∷ pair (b0 + b1 + ads + ap0 + rp) 0x6 0x8 ∷ pair (b1 + ap0 + rp) 0x2 0x2 ∷ on b1
    ∷ pair (b1 + ads + ap0 + rp) 0x6 0x8 ∷ pair rp 0x2 0x20002 ∷ idle ∷ on (rs 7 + dbsy + drdy)
    ∷ on (hit + dbsy + drdy) ∷ on (dbsy + drdy) ∷ on drdy ∷ on (b0 + rs 7 + dbsy + drdy) ∷ on (b0 + dbsy + drdy)
    ∷ pair (b0 + ads + dbsy + drdy + ap0) 0x2 0x8 ∷ on drdy ∷ idle ∷ idle ∷ on (hit + defer) ∷ idle ∷ on (rs 1)
    ∷ on b0 ∷ on b0 ∷ pair (b0 + ads + ap0) 0x2 0x8 ∷ idles 5 ++ on (rs 5) ∷ idles 30)
    (entry 11 0 0 0 (Load 1 0x40) 0x0 ∷ entry 15 1 0 0 (Load 1 0x40) 0x0
    ∷ entry 29 0 1 0 (Store 1 0x40 (Literal 0x1)) 0x1 ∷ [])
