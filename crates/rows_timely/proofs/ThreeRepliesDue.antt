-- Made by lab/worked_runs.py of the stored run three_replies_due; not to be edited.
use Rattle.rows_timely.proofs.Words.{Run, scripted, plain, ◌+◌, [], ◌∷◌, ◌++◌, Some, One, Load, Defer, on, pair, idle}
use Rattle.rows_timely.proofs.Words.{idles, b0, b1, b2, bpri, ads, defer, rs, dbsy, drdy, entry}

abbrev pub run : Run
run = scripted
    (record plain {
      bridge = Some (record { base = 0x1000; size = 0x100 });
      hazards = Defer 0 16 ∷ Defer 1 10 ∷ Defer 2 8 ∷ [];
    })
    ((One (Load 1 0x1000) ∷ []) ∷ (One (Load 1 0x1020) ∷ []) ∷ (One (Load 1 0x1040) ∷ []) ∷ [])
    (on (b0 + b1 + b2) ∷ on (b0 + b1 + b2) ∷ pair (b0 + b1 + b2 + ads) 0x6 0x200 ∷ pair (b1 + b2) 0x2 0x2
    ∷ on (b1 + b2) ∷ pair (b1 + b2 + ads) 0x6 0x204 ∷ pair (b2 + defer) 0x2 0x20002 ∷ on b2
    ∷ pair (b2 + ads + rs 2) 0x6 0x208 ∷ pair defer 0x2 0x40002 ∷ idle ∷ on (rs 2) ∷ on defer ∷ idle ∷ on (rs 2)
    ∷ idles 7 ++ on bpri ∷ on bpri ∷ pair (bpri + ads) 0x0 0x20000 ∷ idle ∷ on bpri ∷ on bpri ∷ on (bpri + ads) ∷ idle
    ∷ on (bpri + rs 7 + dbsy + drdy) ∷ on (bpri + dbsy + drdy) ∷ pair (bpri + ads + dbsy + drdy) 0x0 0x40000 ∷ on drdy
    ∷ on (rs 7 + dbsy + drdy) ∷ on (dbsy + drdy) ∷ on (dbsy + drdy) ∷ on drdy ∷ on (rs 7 + dbsy + drdy)
    ∷ on (dbsy + drdy) ∷ on (dbsy + drdy) ∷ on drdy ∷ idles 18)
    (entry 33 1 0 0 (Load 1 0x1020) 0x0 ∷ entry 37 0 0 0 (Load 1 0x1000) 0x0 ∷ entry 41 2 0 0 (Load 1 0x1040) 0x0 ∷ [])
