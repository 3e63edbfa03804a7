-- Made by lab/worked_runs.py of the stored run upgrade_lost_and_made_again; not to be edited.
use Rattle.rows_timely.proofs.Words.{Run, scripted, plain, ◌+◌, [], ◌∷◌, ◌++◌, One, Idle, Load, Store, Literal, Stall}
use Rattle.rows_timely.proofs.Words.{on, pair, chunk, idle, idles, b0, b1, b2, ads, hit, hitm, rs, trdy, dbsy, drdy}
use Rattle.rows_timely.proofs.Words.{ap0, rp, entry}

abbrev pub run : Run
run = scripted (record plain { profile = 2; hazards = Stall 2 2 ∷ [] })
    ((One (Load 1 0x40) ∷ One (Store 1 0x40 (Literal 0x1)) ∷ []) ∷ (One (Load 1 0x40)
    ∷ One (Store 1 0x40 (Literal 0x2)) ∷ []) ∷ (Idle 14 ∷ One (Load 1 0x40) ∷ []) ∷ [])
    (on (b0 + b1) ∷ on (b0 + b1) ∷ pair (b0 + b1 + ads + ap0 + rp) 0x6 0x8 ∷ pair (b1 + ap0 + rp) 0x2 0x2 ∷ on b1
    ∷ pair (b1 + ads + ap0 + rp) 0x6 0x8 ∷ pair rp 0x2 0x20002 ∷ idle ∷ on (rs 7 + dbsy + drdy)
    ∷ on (hit + dbsy + drdy) ∷ on (dbsy + drdy) ∷ on drdy ∷ on (b0 + rs 7 + dbsy + drdy) ∷ on (b0 + dbsy + drdy)
    ∷ pair (b0 + b2 + ads + dbsy + drdy + ap0) 0x2 0x8 ∷ on (b2 + drdy) ∷ on (b1 + b2)
    ∷ pair (b1 + b2 + ads + ap0 + rp) 0x6 0x8 ∷ pair (b1 + hit + hitm + rp) 0x2 0x40002 ∷ on b1
    ∷ pair (b1 + ads + hit + hitm + ap0) 0x2 0x8 ∷ pair ap0 0x0 0x20000 ∷ on hit ∷ idle ∷ on (rs 5) ∷ on hitm ∷ idle
    ∷ on trdy ∷ on hit ∷ chunk (rs 6 + dbsy + drdy) 0x1 ∷ on (dbsy + drdy) ∷ on (dbsy + drdy) ∷ on drdy ∷ on (rs 5)
    ∷ on b1 ∷ on b1 ∷ pair (b1 + ads + ap0) 0x2 0x8 ∷ pair rp 0x2 0x20002 ∷ idles 4 ++ chunk (rs 7 + dbsy + drdy) 0x1
    ∷ on (dbsy + drdy) ∷ on (dbsy + drdy) ∷ on drdy ∷ idles 14)
    (entry 11 0 0 0 (Load 1 0x40) 0x0 ∷ entry 15 1 0 0 (Load 1 0x40) 0x0
    ∷ entry 24 0 1 0 (Store 1 0x40 (Literal 0x1)) 0x1 ∷ entry 32 2 1 0 (Load 1 0x40) 0x1
    ∷ entry 45 1 1 0 (Store 1 0x40 (Literal 0x2)) 0x2 ∷ [])
