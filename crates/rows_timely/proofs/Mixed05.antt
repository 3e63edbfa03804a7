-- Made by lab/worked_runs.py of the stored run mixed_05; not to be edited.
use Rattle.rows_timely.proofs.Words.{Run, scripted, plain, ◌+◌, [], ◌∷◌, One, Load, Store, Literal, LastPlus, setting}
use Rattle.rows_timely.proofs.Words.{Aerr, on, pair, chunk, full, idle, idles, b0, b1, b2, ads, aerr, hit, hitm, rs}
use Rattle.rows_timely.proofs.Words.{trdy, dbsy, drdy, ap0, ap1, rp, entry}

abbrev pub run : Run
run = scripted
    (record plain {
      clocks = 61;
      cache = 2;
      ahead = 3;
      profile = 2;
      mem = setting 0xfbad25a2 0x1d ∷ setting 0xfbad25a3 0x87 ∷ setting 0xfbad25d6 0xa0 ∷ setting 0xfbad25c5 0x99 ∷ [];
      hazards = Aerr 19 ∷ Aerr 2 ∷ [];
    })
    ((One (Store 2 0xfbad25da (LastPlus 0x1)) ∷ One (Load 2 0xfbad25d8) ∷ One (Load 4 0xfbad25a8)
    ∷ One (Load 8 0xfbad25a0) ∷ One (Store 2 0xfbad25a0 (LastPlus 0x2910)) ∷ One (Load 2 0xfbad25a0)
    ∷ One (Store 8 0xfbad25a0 (Literal 0x1d163b014b12c573)) ∷ []) ∷ (One (Store 4 0xfbad25b0 (Literal 0xae3f42d3))
    ∷ One (Store 8 0xfbad25a0 (Literal 0x895691bbe67fc66a)) ∷ One (Store 4 0xfbad25c4 (Literal 0x9b62793b))
    ∷ One (Store 8 0xfbad25a0 (LastPlus 0x2)) ∷ []) ∷ (One (Store 2 0xfbad25bc (LastPlus 0x1)) ∷ []) ∷ [])
    (on (b0 + b1 + b2) ∷ on (b0 + b1 + b2) ∷ pair (b0 + b1 + b2 + ads + ap1) 0x2 0x1f75a4bb
    ∷ pair (b1 + b2 + ap0 + rp) 0x2 0x2 ∷ on (b0 + b1 + b2) ∷ pair (b0 + b1 + b2 + ads + ap0 + ap1) 0x2 0x1f75a4b6
    ∷ pair (b0 + b2 + rp) 0x2 0x20002 ∷ on (b0 + b1 + b2)
    ∷ pair (b0 + b1 + b2 + ads + rs 7 + dbsy + drdy + ap1) 0x2 0x1f75a4b7
    ∷ full (b0 + b1 + dbsy + drdy + rp) 0x2 0x40002 0xa0000000000000 ∷ on (b0 + b1 + dbsy + drdy)
    ∷ full (b0 + b1 + ads + aerr + drdy + ap0 + ap1 + rp) 0x6 0x1f75a4b5 0x990000000000
    ∷ pair (b1 + b2 + rs 7 + dbsy + drdy + rp) 0x2 0x2002 ∷ on (b1 + b2 + dbsy + drdy)
    ∷ full (b1 + b2 + ads + dbsy + drdy + ap1) 0x2 0x1f75a4b8 0x871d0000
    ∷ pair (b2 + hitm + drdy + ap0 + rp) 0x2 0x22002 ∷ on (b1 + b2) ∷ pair (b1 + b2 + ads + trdy + ap1) 0x2 0x1f75a4b7
    ∷ pair (b1 + hitm + rp) 0x2 0x40002 ∷ on (b1 + rs 6 + dbsy + drdy)
    ∷ full (b1 + ads + dbsy + drdy + ap1) 0x2 0x1f75a4b4 0x871d0000 ∷ pair (hit + dbsy + drdy + ap0) 0x0 0x20000
    ∷ chunk drdy 0xae3f42d3 ∷ on (b0 + trdy) ∷ on (b0 + hitm)
    ∷ full (b0 + ads + rs 6 + dbsy + drdy + ap1 + rp) 0x6 0x1f75a4b4 0x990000000000
    ∷ pair (dbsy + drdy + ap0 + rp) 0x2 0x2 ∷ chunk (dbsy + drdy) 0xa0000000000000 ∷ chunk drdy 0x10000
    ∷ on (hitm + rs 7 + dbsy + drdy) ∷ chunk (dbsy + drdy) 0xae3f42d3 ∷ on (dbsy + drdy) ∷ chunk drdy 0x871d0000
    ∷ on trdy ∷ idle ∷ chunk (rs 6 + dbsy + drdy) 0x871d0000 ∷ on (dbsy + drdy) ∷ chunk (dbsy + drdy) 0xae3f42d3
    ∷ chunk drdy 0x100000000 ∷ on (b1 + trdy) ∷ on b1
    ∷ full (b1 + ads + rs 6 + dbsy + drdy + ap1) 0x2 0x1f75a4b4 0x895691bbe67fc66a
    ∷ pair (dbsy + drdy + ap0) 0x0 0x20000 ∷ chunk (dbsy + drdy) 0xae3f42d3 ∷ chunk drdy 0x100000000 ∷ on (b0 + hit)
    ∷ on b0 ∷ pair (b0 + ads + rs 5 + ap1) 0x2 0x1f75a4b4 ∷ pair (ap0 + rp) 0x2 0x2 ∷ idle ∷ idle ∷ on hitm ∷ idle
    ∷ on trdy ∷ idle ∷ chunk (rs 6 + dbsy + drdy) 0x2 ∷ on (dbsy + drdy) ∷ chunk (dbsy + drdy) 0xae3f42d3
    ∷ chunk drdy 0x100000000 ∷ idles 2)
    (entry 11 0 0 0 (Store 2 0xfbad25da (LastPlus 0x1)) 0x1 ∷ entry 12 0 1 0 (Load 2 0xfbad25d8) 0x0
    ∷ entry 15 1 0 0 (Store 4 0xfbad25b0 (Literal 0xae3f42d3)) 0xae3f42d3 ∷ entry 22 0 2 0 (Load 4 0xfbad25a8) 0x0
    ∷ entry 32 2 0 0 (Store 2 0xfbad25bc (LastPlus 0x1)) 0x1
    ∷ entry 38 1 1 0 (Store 8 0xfbad25a0 (Literal 0x895691bbe67fc66a)) 0x895691bbe67fc66a
    ∷ entry 39 1 2 0 (Store 4 0xfbad25c4 (Literal 0x9b62793b)) 0x9b62793b
    ∷ entry 44 0 3 0 (Load 8 0xfbad25a0) 0x895691bbe67fc66a ∷ entry 47 1 3 0 (Store 8 0xfbad25a0 (LastPlus 0x2)) 0x2
    ∷ entry 58 0 4 0 (Store 2 0xfbad25a0 (LastPlus 0x2910)) 0xef7a ∷ entry 59 0 5 0 (Load 2 0xfbad25a0) 0xef7a
    ∷ entry 60 0 6 0 (Store 8 0xfbad25a0 (Literal 0x1d163b014b12c573)) 0x1d163b014b12c573 ∷ [])
