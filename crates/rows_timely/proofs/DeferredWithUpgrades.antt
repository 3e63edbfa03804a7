-- Made by lab/worked_runs.py of the stored run deferred_with_upgrades; not to be edited.
use Rattle.rows_timely.proofs.Words.{Run, scripted, plain, ◌+◌, [], ◌∷◌, Some, One, Load, Store, Literal, Defer, on}
use Rattle.rows_timely.proofs.Words.{pair, chunk, idle, idles, b0, b1, bpri, ads, hit, hitm, defer, rs, trdy, dbsy}
use Rattle.rows_timely.proofs.Words.{drdy, ap0, rp, entry}

abbrev pub run : Run
run = scripted
    (record plain {
      clocks = 90;
      profile = 2;
      bridge = Some (record { base = 0x1000; size = 0x20 });
      hazards = Defer 0 10 ∷ [];
    })
    ((One (Load 1 0x1000) ∷ One (Store 1 0x1000 (Literal 0x4)) ∷ []) ∷ (One (Load 1 0x1000)
    ∷ One (Store 1 0x1000 (Literal 0x3)) ∷ []) ∷ [])
    (on (b0 + b1) ∷ on (b0 + b1) ∷ pair (b0 + b1 + ads + ap0 + rp) 0x6 0x200 ∷ pair (b1 + ap0 + rp) 0x2 0x2 ∷ on b1
    ∷ pair (b1 + ads + ap0 + rp) 0x6 0x200 ∷ pair (defer + rp) 0x2 0x20002 ∷ idle ∷ on (rs 2) ∷ on defer ∷ idle
    ∷ on (rs 1) ∷ on b1 ∷ on b1 ∷ pair (b1 + ads + ap0 + rp) 0x6 0x200 ∷ pair rp 0x2 0x20002 ∷ idle ∷ idle ∷ on defer
    ∷ on bpri ∷ on (bpri + rs 1) ∷ on (b1 + bpri + ads + rp) ∷ on b1 ∷ on b1 ∷ pair (b1 + ads + ap0 + rp) 0x6 0x200
    ∷ pair rp 0x2 0x20002 ∷ idle ∷ on (rs 7 + dbsy + drdy) ∷ on (hit + dbsy + drdy) ∷ on (dbsy + drdy) ∷ on drdy
    ∷ on (b0 + rs 7 + dbsy + drdy) ∷ on (b0 + dbsy + drdy) ∷ pair (b0 + ads + dbsy + drdy + ap0) 0x2 0x200 ∷ on drdy
    ∷ on b1 ∷ on b1 ∷ pair (b1 + ads + hit + ap0) 0x2 0x200 ∷ pair ap0 0x0 0x20000 ∷ on (rs 5) ∷ idle ∷ on hitm ∷ idle
    ∷ on trdy ∷ idle ∷ chunk (rs 6 + dbsy + drdy) 0x4 ∷ on (dbsy + drdy) ∷ on (dbsy + drdy) ∷ on drdy ∷ idles 41)
    (entry 30 0 0 0 (Load 1 0x1000) 0x0 ∷ entry 34 1 0 0 (Load 1 0x1000) 0x0
    ∷ entry 39 0 1 0 (Store 1 0x1000 (Literal 0x4)) 0x4 ∷ entry 48 1 1 0 (Store 1 0x1000 (Literal 0x3)) 0x3 ∷ [])
