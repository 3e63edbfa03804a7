-- Made by lab/worked_runs.py of the stored run upgrade_lost_and_handed; not to be edited.
use Rattle.rows_timely.proofs.Words.{Run, scripted, plain, ◌+◌, [], ◌∷◌, One, Load, Store, Literal, on, pair, chunk}
use Rattle.rows_timely.proofs.Words.{idle, idles, b0, b1, ads, hit, hitm, rs, trdy, dbsy, drdy, ap0, rp, entry}

abbrev pub run : Run
run = scripted (record plain { profile = 2 })
    ((One (Load 1 0x40) ∷ One (Store 1 0x40 (Literal 0x1)) ∷ []) ∷ (One (Load 1 0x40)
    ∷ One (Store 1 0x40 (Literal 0x2)) ∷ []) ∷ [])
    (on (b0 + b1) ∷ on (b0 + b1) ∷ pair (b0 + b1 + ads + ap0 + rp) 0x6 0x8 ∷ pair (b1 + ap0 + rp) 0x2 0x2 ∷ on b1
    ∷ pair (b1 + ads + ap0 + rp) 0x6 0x8 ∷ pair rp 0x2 0x20002 ∷ idle ∷ on (rs 7 + dbsy + drdy)
    ∷ on (hit + dbsy + drdy) ∷ on (dbsy + drdy) ∷ on drdy ∷ on (b0 + rs 7 + dbsy + drdy) ∷ on (b0 + dbsy + drdy)
    ∷ pair (b0 + ads + dbsy + drdy + ap0) 0x2 0x8 ∷ on drdy ∷ on b1 ∷ on b1 ∷ pair (b1 + ads + hit + ap0) 0x2 0x8
    ∷ pair ap0 0x0 0x20000 ∷ on (rs 5) ∷ idle ∷ on hitm ∷ idle ∷ on trdy ∷ idle ∷ chunk (rs 6 + dbsy + drdy) 0x1
    ∷ on (dbsy + drdy) ∷ on (dbsy + drdy) ∷ on drdy ∷ idles 30)
    (entry 11 0 0 0 (Load 1 0x40) 0x0 ∷ entry 15 1 0 0 (Load 1 0x40) 0x0
    ∷ entry 20 0 1 0 (Store 1 0x40 (Literal 0x1)) 0x1 ∷ entry 29 1 1 0 (Store 1 0x40 (Literal 0x2)) 0x2 ∷ [])
