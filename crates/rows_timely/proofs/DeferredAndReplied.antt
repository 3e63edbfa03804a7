-- Made by lab/worked_runs.py of the stored run deferred_and_replied; not to be edited.
use Rattle.rows_timely.proofs.Words.{Run, scripted, plain, ◌+◌, [], ◌∷◌, Some, One, Load, Store, Literal, Defer, on}
use Rattle.rows_timely.proofs.Words.{pair, idle, idles, b0, b1, bpri, ads, hit, defer, rs, dbsy, drdy, entry}

abbrev pub run : Run
run = scripted (record plain { bridge = Some (record { base = 0x1000; size = 0x20 }); hazards = Defer 0 10 ∷ [] })
    ((One (Load 1 0x1000) ∷ []) ∷ (One (Store 1 0x1000 (Literal 0x3)) ∷ []) ∷ [])
    (on (b0 + b1) ∷ on (b0 + b1) ∷ pair (b0 + b1 + ads) 0x6 0x200 ∷ pair b1 0x2 0x2 ∷ on b1
    ∷ pair (b1 + ads) 0x2 0x200 ∷ pair defer 0x2 0x20002 ∷ idle ∷ on (rs 2) ∷ on defer ∷ idle ∷ on (rs 1) ∷ on b1
    ∷ on b1 ∷ pair (b1 + ads) 0x2 0x200 ∷ pair 0 0x2 0x20002 ∷ idle ∷ idle ∷ on defer ∷ on bpri ∷ on (bpri + rs 1)
    ∷ on (b1 + bpri + ads) ∷ on b1 ∷ on b1 ∷ pair (b1 + ads) 0x2 0x200 ∷ pair 0 0x2 0x20002 ∷ idle
    ∷ on (rs 7 + dbsy + drdy) ∷ on (hit + dbsy + drdy) ∷ on (dbsy + drdy) ∷ on drdy ∷ on (rs 7 + dbsy + drdy)
    ∷ on (dbsy + drdy) ∷ on (dbsy + drdy) ∷ on drdy ∷ idles 25)
    (entry 30 0 0 0 (Load 1 0x1000) 0x0 ∷ entry 34 1 0 0 (Store 1 0x1000 (Literal 0x3)) 0x3 ∷ [])
