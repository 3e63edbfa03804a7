-- Made by lab/worked_runs.py of the stored run mixed_14; not to be edited.
use Rattle.rows_timely.proofs.Words.{Run, scripted, plain, ◌+◌, [], ◌∷◌, ◌++◌, One, Locked, Idle, Load, Store, Literal}
use Rattle.rows_timely.proofs.Words.{LastPlus, Stall, Trdy, Resp, Gap, Retry, Defer, Aerr, on, pair, idle, idles, b0}
use Rattle.rows_timely.proofs.Words.{lock, ads, aerr, hit, hitm, rs, dbsy, drdy, ap0, rp, entry}

abbrev pub run : Run
run = scripted
    (record plain {
      clocks = 78;
      cache = 4;
      ahead = 3;
      profile = 2;
      hazards = Trdy 0 1 ∷ Trdy 0 2 ∷ Defer 0 5 ∷ Aerr 0 ∷ Defer 0 3 ∷ Retry 0 ∷ Resp 0 2 ∷ Defer 0 14 ∷ Trdy 4 1
          ∷ Resp 4 1 ∷ Resp 4 1 ∷ Aerr 4 ∷ Stall 4 1 ∷ Gap 5 4 ∷ Stall 5 2 ∷ Trdy 6 4 ∷ Stall 6 2 ∷ Resp 8 7
          ∷ Stall 8 7 ∷ Defer 9 2 ∷ Gap 9 2 ∷ Aerr 11 ∷ Resp 13 1 ∷ Stall 14 1 ∷ Trdy 14 8 ∷ Gap 14 2 ∷ Aerr 16
          ∷ Resp 16 1 ∷ Retry 17 ∷ Stall 18 7 ∷ Stall 20 6 ∷ [];
    })
    ((One (Load 2 0xffffff822) ∷ One (Load 8 0xffffff888) ∷ Locked (Load 8 0xffffffc08
    ∷ Store 2 0xffffff820 (Literal 0x6bb0) ∷ Store 1 0xffffff840 (LastPlus 0x2) ∷ Store 2 0xffffffc00 (Literal 0x71fa)
    ∷ []) ∷ One (Store 1 0xffffff873 (Literal 0x2e)) ∷ One (Store 4 0xffffff820 (Literal 0xaedae10d))
    ∷ One (Load 4 0xffffff820) ∷ []) ∷ (Idle 1 ∷ []) ∷ [])
    (on b0 ∷ on b0 ∷ pair (b0 + ads) 0xe 0x1ffffff04 ∷ pair (ap0 + rp) 0x2 0x2 ∷ on b0 ∷ on (b0 + aerr)
    ∷ pair (b0 + ads) 0xe 0x1ffffff04 ∷ pair (ap0 + rp) 0x2 0x2 ∷ on b0 ∷ on b0
    ∷ pair (b0 + ads + ap0) 0xe 0x1ffffff11 ∷ pair rp 0x2 0x2002 ∷ on (rs 7 + dbsy + drdy) ∷ on (dbsy + drdy)
    ∷ on (dbsy + drdy) ∷ on drdy ∷ on (rs 7 + dbsy + drdy) ∷ on (dbsy + drdy) ∷ on (dbsy + drdy) ∷ on drdy ∷ on b0
    ∷ on b0 ∷ pair (b0 + lock + ads + ap0 + rp) 0xa 0x1ffffff81 ∷ pair (lock + rp) 0x2 0x0 ∷ on (b0 + lock)
    ∷ on (b0 + lock) ∷ pair (b0 + lock + ads + rp) 0xa 0x1ffffff08 ∷ pair (lock + ap0 + rp) 0x2 0x2000
    ∷ on (lock + rs 7 + dbsy + drdy) ∷ on (lock + aerr + dbsy + drdy) ∷ on (b0 + dbsy + drdy) ∷ on (b0 + drdy)
    ∷ pair (b0 + lock + ads + rp) 0xa 0x1ffffff08 ∷ pair (lock + rp) 0x2 0x0 ∷ on lock ∷ on lock
    ∷ on (lock + hit + hitm) ∷ on lock ∷ on (lock + hit + hitm) ∷ on lock ∷ on lock ∷ on lock
    ∷ on (lock + rs 7 + dbsy + drdy) ∷ on (lock + dbsy) ∷ on (lock + dbsy) ∷ on (lock + dbsy) ∷ on (lock + dbsy)
    ∷ on (lock + dbsy + drdy) ∷ on (lock + dbsy) ∷ on (lock + dbsy) ∷ on (lock + dbsy) ∷ on (lock + dbsy)
    ∷ on (lock + dbsy + drdy) ∷ on (lock + dbsy) ∷ on (lock + dbsy) ∷ on (lock + dbsy) ∷ on (lock + dbsy)
    ∷ on (lock + drdy) ∷ on b0 ∷ on b0 ∷ pair (b0 + ads + rp) 0xa 0x1ffffff0e ∷ pair (ap0 + rp) 0x2 0x2 ∷ idle ∷ idle
    ∷ on (hit + hitm) ∷ idle ∷ on (hit + hitm) ∷ idles 3 ++ on (rs 7 + dbsy + drdy) ∷ on (dbsy + drdy)
    ∷ on (dbsy + drdy) ∷ on drdy ∷ idles 4)
    (entry 15 0 0 0 (Load 2 0xffffff822) 0x0 ∷ entry 19 0 1 0 (Load 8 0xffffff888) 0x0
    ∷ entry 57 0 2 0 (Load 8 0xffffffc08) 0x0 ∷ entry 57 0 2 1 (Store 2 0xffffff820 (Literal 0x6bb0)) 0x6bb0
    ∷ entry 57 0 2 2 (Store 1 0xffffff840 (LastPlus 0x2)) 0x2
    ∷ entry 57 0 2 3 (Store 2 0xffffffc00 (Literal 0x71fa)) 0x71fa
    ∷ entry 73 0 3 0 (Store 1 0xffffff873 (Literal 0x2e)) 0x2e
    ∷ entry 74 0 4 0 (Store 4 0xffffff820 (Literal 0xaedae10d)) 0xaedae10d
    ∷ entry 75 0 5 0 (Load 4 0xffffff820) 0xaedae10d ∷ [])
