-- Made by lab/worked_runs.py of the stored run reply_past_held_back; not to be edited.
use Rattle.rows_timely.proofs.Words.{Run, scripted, plain, ◌+◌, [], ◌∷◌, Some, One, Idle, Load, Store, Literal, Stall}
use Rattle.rows_timely.proofs.Words.{Defer, on, pair, chunk, idle, idles, b0, b1, b2, b3, bpri, ads, hit, hitm, defer}
use Rattle.rows_timely.proofs.Words.{rs, trdy, dbsy, drdy, entry}

abbrev pub run : Run
run = scripted
    (record plain {
      clocks = 56;
      cache = 1;
      bridge = Some (record { base = 0x1000; size = 0x20 });
      hazards = Defer 1 0 ∷ Stall 2 2 ∷ [];
    })
    ((One (Store 1 0x40 (Literal 0x5)) ∷ One (Load 1 0x60) ∷ []) ∷ (One (Load 1 0x1000) ∷ One (Load 1 0x100) ∷ [])
    ∷ (Idle 10 ∷ One (Load 1 0x40) ∷ []) ∷ (Idle 14 ∷ One (Load 1 0x100) ∷ []) ∷ [])
    (on (b0 + b1) ∷ on (b0 + b1) ∷ pair (b0 + b1 + ads) 0x2 0x8 ∷ pair b1 0x2 0x2 ∷ on b1 ∷ pair (b1 + ads) 0x6 0x200
    ∷ pair 0 0x2 0x20002 ∷ idle ∷ on (rs 7 + dbsy + drdy) ∷ on (defer + dbsy + drdy) ∷ on (b2 + dbsy + drdy)
    ∷ on (b2 + drdy) ∷ pair (b0 + b2 + ads + rs 2) 0x6 0x8 ∷ pair (b0 + bpri) 0x2 0x40002 ∷ on (b0 + b3 + bpri)
    ∷ pair (b0 + b3 + bpri + ads) 0x0 0x20000 ∷ on (b0 + b3 + hit + hitm) ∷ on (b0 + b3)
    ∷ pair (b0 + b3 + ads + hit + hitm) 0x6 0x20 ∷ pair b0 0x2 0x60002 ∷ on (b0 + hitm) ∷ pair (b0 + ads) 0x6 0xc
    ∷ pair trdy 0x2 0x2 ∷ idle ∷ chunk (rs 6 + dbsy + drdy) 0x5 ∷ on (dbsy + drdy) ∷ on (dbsy + drdy) ∷ on drdy
    ∷ on (rs 7 + dbsy + drdy) ∷ on (dbsy + drdy) ∷ on (dbsy + drdy) ∷ on drdy ∷ on (b1 + rs 7 + dbsy + drdy)
    ∷ on (b1 + dbsy + drdy) ∷ pair (b1 + ads + dbsy + drdy) 0x6 0x20 ∷ pair drdy 0x2 0x20002 ∷ on (rs 7 + dbsy + drdy)
    ∷ on (dbsy + drdy) ∷ on (hit + dbsy + drdy) ∷ on drdy ∷ on (rs 7 + dbsy + drdy) ∷ on (dbsy + drdy)
    ∷ on (dbsy + drdy) ∷ on drdy ∷ idles 12)
    (entry 11 0 0 0 (Store 1 0x40 (Literal 0x5)) 0x5 ∷ entry 27 2 1 0 (Load 1 0x40) 0x5
    ∷ entry 31 1 0 0 (Load 1 0x1000) 0x0 ∷ entry 35 3 1 0 (Load 1 0x100) 0x0 ∷ entry 39 0 1 0 (Load 1 0x60) 0x0
    ∷ entry 43 1 1 0 (Load 1 0x100) 0x0 ∷ [])
