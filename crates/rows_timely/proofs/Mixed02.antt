-- Made by lab/worked_runs.py of the stored run mixed_02; not to be edited.
use Rattle.rows_timely.proofs.Words.{Run, scripted, plain, ◌+◌, [], ◌∷◌, Some, One, Idle, Load, Store, Literal, setting}
use Rattle.rows_timely.proofs.Words.{Trdy, Gap, Retry, Defer, Bnr, on, pair, chunk, full, idle, idles, b0, b1, b2, b3}
use Rattle.rows_timely.proofs.Words.{bpri, ads, hit, hitm, defer, rs, trdy, dbsy, drdy, entry}

abbrev pub run : Run
run = scripted
    (record plain {
      clocks = 83;
      cache = 8;
      ahead = 4;
      bridge = Some (record { base = 0xffffff800; size = 0x60 });
      mem = setting 0xffffff812 0x5c ∷ setting 0xffffff80e 0xf7 ∷ [];
      hazards = Defer 6 13 ∷ Trdy 11 1 ∷ Gap 22 1 ∷ Retry 27 ∷ Bnr 147 158 ∷ [];
    })
    ((One (Load 8 0xffffff820) ∷ []) ∷ (One (Load 8 0xffffff840) ∷ One (Load 1 0xffffff81d) ∷ One (Load 4 0xffffff800)
    ∷ One (Load 4 0xffffff840) ∷ []) ∷ (One (Load 2 0xffffff812) ∷ One (Load 4 0xffffff814)
    ∷ One (Store 2 0xffffff80a (Literal 0x44a0)) ∷ []) ∷ (One (Load 2 0xffffff80c) ∷ One (Load 1 0xffffff83c)
    ∷ One (Load 4 0xffffff808) ∷ One (Load 8 0xffffff818) ∷ One (Load 1 0xffffff820) ∷ One (Load 2 0xffffff800)
    ∷ One (Load 8 0xffffff800) ∷ Idle 8 ∷ []) ∷ [])
    (on (b0 + b1 + b2 + b3) ∷ on (b0 + b1 + b2 + b3) ∷ pair (b0 + b1 + b2 + b3 + ads) 0xe 0x1ffffff04
    ∷ pair (b1 + b2 + b3) 0x2 0x2 ∷ on (b1 + b2 + b3) ∷ pair (b1 + b2 + b3 + ads) 0xe 0x1ffffff08
    ∷ pair (b2 + b3) 0x2 0x20002 ∷ on (b1 + b2 + b3) ∷ pair (b1 + b2 + b3 + ads + rs 7 + dbsy + drdy) 0xe 0x1ffffff02
    ∷ pair (b1 + b3 + dbsy + drdy) 0x2 0x40002 ∷ on (b1 + b3 + dbsy + drdy)
    ∷ pair (b1 + b3 + ads + drdy) 0xe 0x1ffffff01 ∷ pair (b1 + rs 7 + dbsy + drdy) 0x2 0x60002
    ∷ on (b1 + b3 + dbsy + drdy) ∷ pair (b1 + b3 + ads + dbsy + drdy) 0xe 0x1ffffff03
    ∷ pair (b3 + hit + drdy) 0x2 0x22002 ∷ chunk (b3 + rs 7 + dbsy + drdy) 0x5c0000
    ∷ pair (b3 + ads + dbsy + drdy) 0xe 0x1ffffff07 ∷ pair (hit + dbsy + drdy) 0x2 0x62002
    ∷ chunk drdy 0xf7000000000000 ∷ chunk (rs 7 + dbsy + drdy) 0xf7000000000000 ∷ on (b2 + hit + dbsy + drdy)
    ∷ on (b2 + dbsy + drdy) ∷ full (b2 + ads + drdy) 0xa 0x1ffffff01 0x5c0000 ∷ pair (rs 7 + dbsy + drdy) 0x2 0x40002
    ∷ chunk (dbsy + drdy) 0x5c0000 ∷ chunk (dbsy + drdy) 0xf7000000000000 ∷ on (hit + defer + drdy)
    ∷ on (b1 + b3 + rs 7 + dbsy + drdy) ∷ on (b1 + b3 + dbsy + drdy)
    ∷ pair (b1 + b3 + ads + dbsy + drdy) 0xe 0x1ffffff01 ∷ pair (b1 + drdy) 0x2 0x60002 ∷ on (b1 + rs 2)
    ∷ pair (b1 + ads) 0xe 0x1ffffff00 ∷ pair (hit + defer) 0x2 0x20002 ∷ idle ∷ on (rs 1) ∷ on (b3 + hit + defer)
    ∷ on b3 ∷ pair (b3 + ads + rs 1) 0xe 0x1ffffff01 ∷ pair b1 0x2 0x60002 ∷ on b1 ∷ pair (b1 + ads) 0xe 0x1ffffff00
    ∷ pair (hit + defer) 0x2 0x20002 ∷ idle ∷ on (rs 1) ∷ on (b3 + bpri + hit + defer) ∷ on (b3 + bpri)
    ∷ pair (b3 + bpri + ads + rs 1) 0x0 0x40000 ∷ on (b1 + b3) ∷ on (b1 + b3) ∷ pair (b1 + b3 + ads) 0xe 0x1ffffff01
    ∷ pair (b1 + hit) 0x2 0x60002 ∷ on b1 ∷ full (b1 + ads + rs 7 + dbsy + drdy) 0xe 0x1ffffff00 0xf7000000000000
    ∷ pair (hitm + dbsy + drdy) 0x2 0x20002 ∷ on (dbsy + drdy) ∷ chunk drdy 0x5c0000 ∷ on (hit + trdy) ∷ idle
    ∷ chunk (rs 6 + dbsy + drdy) 0xf7000044a00000 ∷ on (dbsy + drdy) ∷ on (dbsy + drdy) ∷ chunk drdy 0x5c0000
    ∷ on (rs 7 + dbsy + drdy) ∷ chunk (dbsy + drdy) 0xf7000044a00000 ∷ chunk (dbsy + drdy) 0x5c0000 ∷ on drdy
    ∷ idles 15)
    (entry 11 0 0 0 (Load 8 0xffffff820) 0x0 ∷ entry 15 1 0 0 (Load 8 0xffffff840) 0x0
    ∷ entry 19 2 0 0 (Load 2 0xffffff812) 0x5c ∷ entry 20 2 1 0 (Load 4 0xffffff814) 0x0
    ∷ entry 23 3 0 0 (Load 2 0xffffff80c) 0x0 ∷ entry 27 1 1 0 (Load 1 0xffffff81d) 0x0
    ∷ entry 31 3 1 0 (Load 1 0xffffff83c) 0x0 ∷ entry 57 2 2 0 (Store 2 0xffffff80a (Literal 0x44a0)) 0x44a0
    ∷ entry 63 3 2 0 (Load 4 0xffffff808) 0x44a00000 ∷ entry 64 3 3 0 (Load 8 0xffffff818) 0x0
    ∷ entry 65 3 4 0 (Load 1 0xffffff820) 0x0 ∷ entry 66 3 5 0 (Load 2 0xffffff800) 0x0
    ∷ entry 67 3 6 0 (Load 8 0xffffff800) 0x0 ∷ entry 67 1 2 0 (Load 4 0xffffff800) 0x0
    ∷ entry 68 1 3 0 (Load 4 0xffffff840) 0x0 ∷ [])
