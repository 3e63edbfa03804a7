-- Made by lab/worked_runs.py of the stored run shared_line_of_lock; not to be edited.
use Rattle.rows_timely.proofs.Words.{Run, scripted, plain, ◌+◌, [], ◌∷◌, ◌++◌, One, Locked, Idle, Load, Store, Literal}
use Rattle.rows_timely.proofs.Words.{Stall, Retry, on, pair, idle, idles, b0, b1, lock, ads, hit, hitm, defer, rs, dbsy}
use Rattle.rows_timely.proofs.Words.{drdy, entry}

abbrev pub run : Run
run = scripted (record plain { clocks = 52; ahead = 2; hazards = Retry 2 ∷ Stall 4 1 ∷ [] })
    ((One (Load 1 0x40) ∷ Idle 5 ∷ Locked (Store 1 0x40 (Literal 0x1) ∷ Store 1 0x60 (Literal 0x2) ∷ []) ∷ [])
    ∷ (Idle 9 ∷ One (Load 1 0x40) ∷ []) ∷ [])
    (on b0 ∷ on b0 ∷ pair (b0 + ads) 0x6 0x8 ∷ pair 0 0x2 0x2 ∷ idles 4 ++ on (rs 7 + dbsy + drdy)
    ∷ on (b1 + dbsy + drdy) ∷ on (b1 + dbsy + drdy) ∷ pair (b1 + ads + drdy) 0x6 0x8 ∷ pair 0 0x2 0x20002 ∷ idle
    ∷ idle ∷ on hit ∷ idle ∷ on (b0 + rs 7 + dbsy + drdy) ∷ on (b0 + dbsy + drdy)
    ∷ pair (b0 + lock + ads + dbsy + drdy) 0x2 0x8 ∷ pair (lock + drdy) 0x2 0x0 ∷ on (b0 + lock) ∷ on (b0 + lock)
    ∷ pair (b0 + lock + ads + hit + defer) 0x2 0xc ∷ pair lock 0x2 0x2000 ∷ on (lock + rs 1) ∷ on b0 ∷ on b0
    ∷ pair (b0 + lock + ads) 0x2 0x8 ∷ pair (lock + rs 7 + dbsy + drdy) 0x2 0x0 ∷ on (lock + dbsy + drdy)
    ∷ on (lock + dbsy + drdy) ∷ on (lock + hit + hitm + drdy) ∷ on lock ∷ on lock ∷ on lock
    ∷ on (lock + rs 7 + dbsy + drdy) ∷ on (lock + dbsy + drdy) ∷ on (lock + dbsy + drdy) ∷ on (lock + drdy) ∷ idles 12)
    (entry 11 0 0 0 (Load 1 0x40) 0x0 ∷ entry 20 1 1 0 (Load 1 0x40) 0x0
    ∷ entry 39 0 2 0 (Store 1 0x40 (Literal 0x1)) 0x1 ∷ entry 39 0 2 1 (Store 1 0x60 (Literal 0x2)) 0x2 ∷ [])
