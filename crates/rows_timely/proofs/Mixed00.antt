-- Made by lab/worked_runs.py of the stored run mixed_00; not to be edited.
use Rattle.rows_timely.proofs.Words.{Run, scripted, plain, ◌+◌, [], ◌∷◌, One, Locked, Idle, Load, Store, Literal}
use Rattle.rows_timely.proofs.Words.{LastPlus, setting, Stall, Trdy, Resp, Gap, Retry, Defer, Aerr, on, pair, chunk}
use Rattle.rows_timely.proofs.Words.{full, idle, idles, b0, b1, b2, lock, ads, hit, hitm, defer, rs, trdy, dbsy, drdy}
use Rattle.rows_timely.proofs.Words.{ap0, rp, entry}

abbrev pub run : Run
run = scripted
    (record plain {
      clocks = 70;
      cache = 1;
      ahead = 2;
      profile = 2;
      mem = setting 0xffffff800 0xc3 ∷ setting 0xffffff820 0xe ∷ setting 0xffffff85d 0xb0 ∷ [];
      hazards = Aerr 22 ∷ Aerr 20 ∷ Trdy 5 3 ∷ Trdy 19 1 ∷ Gap 3 1 ∷ Retry 12 ∷ Stall 3 1 ∷ Trdy 0 1 ∷ Defer 18 1
          ∷ Resp 3 1 ∷ Stall 17 1 ∷ Retry 19 ∷ Defer 0 1 ∷ Trdy 2 2 ∷ Retry 3 ∷ Defer 21 4 ∷ Retry 0 ∷ [];
    })
    ((One (Load 4 0xffffff800) ∷ Idle 6 ∷ One (Load 4 0xffffff824) ∷ []) ∷ (One (Store 2 0xffffff800 (Literal 0xdfb0))
    ∷ One (Store 4 0xffffff840 (LastPlus 0xa3e4e2d9)) ∷ []) ∷ (One (Load 1 0xffffff813)
    ∷ Locked (Store 2 0xffffff81e (LastPlus 0x0) ∷ Load 2 0xffffff818 ∷ Store 4 0xffffff814 (LastPlus 0x3)
    ∷ Load 1 0xffffff800 ∷ Load 2 0xffffff816 ∷ Store 8 0xffffff800 (LastPlus 0x8365342c55a871bf) ∷ [])
    ∷ One (Load 4 0xffffff82c) ∷ []) ∷ [])
    (on (b0 + b1 + b2) ∷ on (b0 + b1 + b2) ∷ pair (b0 + b1 + b2 + ads + ap0) 0xe 0x1ffffff00
    ∷ pair (b1 + b2 + ap0 + rp) 0x2 0x2 ∷ on (b1 + b2) ∷ pair (b1 + b2 + ads + ap0 + rp) 0xa 0x1ffffff00
    ∷ pair (b2 + defer + rp) 0x2 0x20002 ∷ on b2 ∷ pair (b2 + ads + rs 1) 0xe 0x1ffffff02 ∷ pair (b0 + rp) 0x2 0x40002
    ∷ on b0 ∷ full (b0 + ads + rs 7 + dbsy + drdy + ap0) 0xe 0x1ffffff00 0xc3
    ∷ pair (hitm + dbsy + drdy + ap0 + rp) 0x2 0x2 ∷ on (dbsy + drdy) ∷ on drdy ∷ on (b1 + hit + hitm) ∷ on b1
    ∷ pair (b1 + ads + hit + defer + trdy + rp) 0xa 0x1ffffff08 ∷ pair rp 0x2 0x20002 ∷ on (rs 6 + dbsy + drdy)
    ∷ on (dbsy + drdy) ∷ chunk (dbsy + drdy) 0xdfb0 ∷ on drdy ∷ on b2 ∷ on (b2 + rs 1)
    ∷ pair (b0 + b2 + lock + ads + rs 7 + dbsy + drdy + ap0 + rp) 0xa 0x1ffffff03
    ∷ pair (b0 + lock + dbsy + drdy + ap0) 0x0 0x40000 ∷ on (b0 + lock + dbsy + drdy)
    ∷ chunk (b0 + lock + drdy) 0xb00000000000 ∷ on (b0 + lock) ∷ on (b0 + lock) ∷ on (b0 + lock + rs 5) ∷ on (b0 + b2)
    ∷ on (b0 + b2) ∷ pair (b0 + b2 + ads + ap0) 0xe 0x1ffffff00 ∷ pair (b2 + ap0 + rp) 0x2 0x2 ∷ on b2 ∷ on b2
    ∷ on (b2 + hitm) ∷ pair (b2 + ads + ap0) 0xe 0x1ffffff05 ∷ pair (trdy + rp) 0x2 0x40002 ∷ idle
    ∷ chunk (rs 6 + dbsy + drdy) 0x8365342c55a871bf ∷ on (dbsy + drdy) ∷ chunk (dbsy + drdy) 0x300000000 ∷ on drdy
    ∷ on (rs 7 + dbsy + drdy) ∷ chunk (dbsy + drdy) 0xe ∷ on (dbsy + drdy) ∷ on drdy ∷ idle ∷ idle ∷ on b0 ∷ on b0
    ∷ pair (b0 + ads) 0xe 0x1ffffff04 ∷ pair (ap0 + rp) 0x2 0x2 ∷ idle ∷ idle ∷ on hit ∷ idle
    ∷ chunk (rs 7 + dbsy + drdy) 0xe ∷ on (dbsy + drdy) ∷ on (dbsy + drdy) ∷ on drdy ∷ idles 6)
    (entry 14 1 0 0 (Store 2 0xffffff800 (Literal 0xdfb0)) 0xdfb0 ∷ entry 22 2 0 0 (Load 1 0xffffff813) 0x0
    ∷ entry 28 1 1 0 (Store 4 0xffffff840 (LastPlus 0xa3e4e2d9)) 0xa3e4e2d9
    ∷ entry 31 2 1 0 (Store 2 0xffffff81e (LastPlus 0x0)) 0x0 ∷ entry 31 2 1 1 (Load 2 0xffffff818) 0x0
    ∷ entry 31 2 1 2 (Store 4 0xffffff814 (LastPlus 0x3)) 0x3 ∷ entry 31 2 1 3 (Load 1 0xffffff800) 0xb0
    ∷ entry 31 2 1 4 (Load 2 0xffffff816) 0x0
    ∷ entry 31 2 1 5 (Store 8 0xffffff800 (LastPlus 0x8365342c55a871bf)) 0x8365342c55a871bf
    ∷ entry 45 0 0 0 (Load 4 0xffffff800) 0x55a871bf ∷ entry 49 2 2 0 (Load 4 0xffffff82c) 0x0
    ∷ entry 63 0 2 0 (Load 4 0xffffff824) 0x0 ∷ [])
