-- Made by lab/worked_runs.py of the stored run outside_the_window; not to be edited.
use Rattle.rows_timely.proofs.Words.{Run, scripted, plain, ◌+◌, [], ◌∷◌, Some, One, Load, Store, Literal, setting}
use Rattle.rows_timely.proofs.Words.{Defer, on, pair, chunk, idle, idles, b0, b1, bpri, ads, hitm, defer, rs, trdy}
use Rattle.rows_timely.proofs.Words.{dbsy, drdy, entry}

abbrev pub run : Run
run = scripted
    (record plain {
      bridge = Some (record { base = 0x1000; size = 0x40 });
      mem = setting 0xfe0 0x11 ∷ setting 0x1000 0x22 ∷ setting 0x1020 0x33 ∷ setting 0x1040 0x44 ∷ [];
      hazards = Defer 0 0 ∷ Defer 1 0 ∷ Defer 2 5 ∷ Defer 3 0 ∷ [];
    })
    ((One (Load 1 0xfe0) ∷ One (Store 1 0x1000 (Literal 0x55)) ∷ []) ∷ (One (Load 1 0x1040) ∷ One (Load 1 0x1020)
    ∷ One (Load 1 0x1000) ∷ []) ∷ [])
    (on (b0 + b1) ∷ on (b0 + b1) ∷ pair (b0 + b1 + ads) 0x6 0x1fc ∷ pair b1 0x2 0x2 ∷ on b1
    ∷ pair (b1 + ads) 0x6 0x208 ∷ pair 0 0x2 0x20002 ∷ idle ∷ chunk (rs 7 + dbsy + drdy) 0x11 ∷ on (dbsy + drdy)
    ∷ on (dbsy + drdy) ∷ on drdy ∷ chunk (b0 + rs 7 + dbsy + drdy) 0x44 ∷ on (b0 + dbsy + drdy)
    ∷ pair (b0 + ads + dbsy + drdy) 0x2 0x200 ∷ pair drdy 0x2 0x2 ∷ on b1 ∷ on b1 ∷ pair (b1 + ads + defer) 0x6 0x204
    ∷ pair 0 0x2 0x20002 ∷ on (rs 2) ∷ idle ∷ on defer ∷ idle ∷ on (rs 2) ∷ on bpri ∷ on bpri ∷ on (bpri + ads) ∷ idle
    ∷ on bpri ∷ on bpri ∷ pair (bpri + ads) 0x0 0x20000 ∷ idle ∷ chunk (rs 7 + dbsy + drdy) 0x22 ∷ on (dbsy + drdy)
    ∷ on (dbsy + drdy) ∷ on drdy ∷ chunk (rs 7 + dbsy + drdy) 0x33 ∷ on (dbsy + drdy) ∷ on (dbsy + drdy) ∷ on drdy
    ∷ on b1 ∷ on b1 ∷ pair (b1 + ads) 0x6 0x200 ∷ pair 0 0x2 0x20002 ∷ idle ∷ idle ∷ on hitm ∷ idle ∷ on trdy ∷ idle
    ∷ chunk (rs 6 + dbsy + drdy) 0x55 ∷ on (dbsy + drdy) ∷ on (dbsy + drdy) ∷ on drdy ∷ idles 5)
    (entry 11 0 0 0 (Load 1 0xfe0) 0x11 ∷ entry 15 1 0 0 (Load 1 0x1040) 0x44
    ∷ entry 36 0 1 0 (Store 1 0x1000 (Literal 0x55)) 0x55 ∷ entry 40 1 1 0 (Load 1 0x1020) 0x33
    ∷ entry 54 1 2 0 (Load 1 0x1000) 0x55 ∷ [])
