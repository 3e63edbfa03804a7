-- Made by lab/worked_runs.py of the stored run deferred_with_hit; not to be edited.
use Rattle.rows_timely.proofs.Words.{Run, scripted, plain, ◌+◌, [], ◌∷◌, ◌++◌, Some, One, Idle, Load, Store, Literal}
use Rattle.rows_timely.proofs.Words.{setting, Stall, Defer, on, pair, chunk, idle, idles, b0, b1, bpri, ads, hit, hitm}
use Rattle.rows_timely.proofs.Words.{defer, rs, dbsy, drdy, entry}

abbrev pub run : Run
run = scripted
    (record plain {
      bridge = Some (record { base = 0x0; size = 0x1000 });
      mem = setting 0x5f 0x9 ∷ setting 0x50 0x3 ∷ [];
      hazards = Defer 1 0 ∷ Defer 3 8 ∷ Stall 5 1 ∷ [];
    })
    ((One (Load 1 0x40) ∷ Idle 8 ∷ One (Load 1 0x41) ∷ One (Load 1 0x60) ∷ One (Store 1 0x61 (Literal 0x5)) ∷ [])
    ∷ (Idle 12 ∷ One (Load 1 0x5f) ∷ One (Store 1 0x41 (Literal 0x7)) ∷ []) ∷ [])
    (on b0 ∷ on b0 ∷ pair (b0 + ads) 0x6 0x8 ∷ pair 0 0x2 0x2 ∷ idles 4 ++ on (rs 7 + dbsy + drdy) ∷ on (dbsy + drdy)
    ∷ chunk (dbsy + drdy) 0x3 ∷ chunk drdy 0x900000000000000 ∷ on b1 ∷ on b1 ∷ pair (b1 + ads) 0x6 0xb
    ∷ pair 0 0x2 0x20002 ∷ idle ∷ idle ∷ on (hit + defer) ∷ idle ∷ on (rs 2) ∷ on (b0 + bpri) ∷ on (b0 + bpri)
    ∷ pair (b0 + bpri + ads) 0x0 0x20000 ∷ on b0 ∷ on b0 ∷ pair (b0 + ads) 0x6 0xc ∷ pair hit 0x2 0x2 ∷ idle
    ∷ chunk (rs 7 + dbsy + drdy) 0x900000000000000 ∷ chunk (defer + dbsy + drdy) 0x3 ∷ on (dbsy + drdy) ∷ on drdy
    ∷ on (b1 + rs 2) ∷ on b1 ∷ pair (b1 + ads) 0x2 0x8 ∷ pair 0 0x2 0x20002 ∷ idle ∷ idle ∷ on hit ∷ idle
    ∷ on (rs 7 + dbsy + drdy) ∷ on (bpri + dbsy + drdy) ∷ chunk (bpri + dbsy + drdy) 0x3
    ∷ chunk (bpri + ads + drdy) 0x900000000000000 ∷ idles 3 ++ on (hit + hitm) ∷ idles 3 ++ on (rs 7 + dbsy + drdy)
    ∷ on (dbsy + drdy) ∷ on (dbsy + drdy) ∷ on drdy ∷ idles 4)
    (entry 11 0 0 0 (Load 1 0x40) 0x0 ∷ entry 20 0 2 0 (Load 1 0x41) 0x0 ∷ entry 32 1 1 0 (Load 1 0x5f) 0x9
    ∷ entry 44 1 2 0 (Store 1 0x41 (Literal 0x7)) 0x7 ∷ entry 55 0 3 0 (Load 1 0x60) 0x0
    ∷ entry 56 0 4 0 (Store 1 0x61 (Literal 0x5)) 0x5 ∷ [])
