-- Made by lab/worked_runs.py of the stored run mixed_07; not to be edited.
use Rattle.rows_timely.proofs.Words.{Run, scripted, plain, ◌+◌, [], ◌∷◌, ◌++◌, Some, One, Load, Store, Literal}
use Rattle.rows_timely.proofs.Words.{LastPlus, setting, Stall, Trdy, Resp, Gap, Retry, Defer, Aerr, Bnr, on, pair}
use Rattle.rows_timely.proofs.Words.{chunk, idle, idles, b0, b1, bnr, ads, aerr, hit, hitm, defer, rs, trdy, dbsy, drdy}
use Rattle.rows_timely.proofs.Words.{ap0, ap1, rp, entry}

abbrev pub run : Run
run = scripted
    (record plain {
      clocks = 57;
      cache = 8;
      ahead = 3;
      profile = 2;
      bridge = Some (record { base = 0x40945b620; size = 0x20 });
      mem = setting 0x40945b607 0x76 ∷ [];
      hazards = Aerr 0 ∷ Retry 4 ∷ Trdy 6 1 ∷ Resp 6 1 ∷ Retry 19 ∷ Defer 20 13 ∷ Stall 22 2 ∷ Stall 22 3 ∷ Resp 24 1
          ∷ Aerr 26 ∷ Aerr 26 ∷ Gap 29 1 ∷ Bnr 76 95 ∷ Bnr 116 118 ∷ Bnr 10 13 ∷ Bnr 51 51 ∷ [];
    })
    ((One (Store 4 0x40945b5c0 (LastPlus 0x2)) ∷ One (Store 1 0x40945b5d5 (Literal 0x55)) ∷ One (Load 8 0x40945b5c0)
    ∷ One (Store 2 0x40945b5ec (LastPlus 0x2)) ∷ One (Load 2 0x40945b5f2) ∷ One (Store 8 0x40945b5e0 (LastPlus 0x1))
    ∷ One (Load 4 0x40945b600) ∷ One (Load 1 0x40945b5f7) ∷ []) ∷ (One (Load 1 0x40945b615) ∷ One (Load 2 0x40945b64a)
    ∷ One (Load 8 0x40945b5d0) ∷ []) ∷ [])
    (on (b0 + b1) ∷ on (b0 + b1) ∷ pair (b0 + b1 + ads + ap1 + rp) 0xa 0x8128b6b8 ∷ pair (b1 + ap0 + rp) 0x2 0x2
    ∷ on b1 ∷ pair (b1 + ads + aerr + ap0 + ap1) 0xe 0x8128b6c2 ∷ pair (b0 + rp) 0x2 0x20002 ∷ on (b0 + b1)
    ∷ pair (b0 + b1 + ads + ap1 + rp) 0xa 0x8128b6b8 ∷ pair (b1 + ap0 + rp) 0x2 0x2 ∷ on (b1 + bnr)
    ∷ pair (b1 + bnr + ads + rs 7 + dbsy + drdy + ap1) 0xe 0x8128b6c9
    ∷ pair (bnr + dbsy + drdy + ap0 + rp) 0x2 0x22002 ∷ chunk (b1 + bnr + dbsy + drdy) 0x7600000000000000
    ∷ on (b1 + drdy) ∷ on (b1 + rs 7 + dbsy + drdy) ∷ pair (b1 + ads + dbsy + drdy + ap0 + ap1) 0xe 0x8128b6ba
    ∷ pair (dbsy + drdy + rp) 0x2 0x20002 ∷ on drdy ∷ on (b0 + rs 7 + dbsy + drdy)
    ∷ on (b0 + hitm + defer + dbsy + drdy) ∷ pair (b0 + ads + dbsy + drdy + ap1 + rp) 0xa 0x8128b6bd
    ∷ pair (drdy + ap0 + rp) 0x2 0x2 ∷ on trdy ∷ idle ∷ chunk (rs 6 + dbsy + drdy) 0x550000000000 ∷ on (dbsy + drdy)
    ∷ chunk (dbsy + drdy) 0x2 ∷ on drdy ∷ on (rs 7 + dbsy + drdy) ∷ on (dbsy + drdy) ∷ on (dbsy + drdy) ∷ on drdy
    ∷ on b0 ∷ on b0 ∷ pair (b0 + ads + ap1) 0xe 0x8128b6c0 ∷ pair (ap0 + rp) 0x2 0x2 ∷ idle ∷ idle ∷ on hit ∷ idle
    ∷ idle ∷ chunk (rs 7 + dbsy + drdy) 0x7600000000000000 ∷ on (dbsy + drdy) ∷ on (dbsy + drdy) ∷ on drdy ∷ idles 5
    ++ on bnr ∷ idles 5)
    (entry 14 1 0 0 (Load 1 0x40945b615) 0x0 ∷ entry 18 0 0 0 (Store 4 0x40945b5c0 (LastPlus 0x2)) 0x2
    ∷ entry 19 0 1 0 (Store 1 0x40945b5d5 (Literal 0x55)) 0x55 ∷ entry 20 0 2 0 (Load 8 0x40945b5c0) 0x2
    ∷ entry 22 1 1 0 (Load 2 0x40945b64a) 0x0 ∷ entry 28 1 2 0 (Load 8 0x40945b5d0) 0x550000000000
    ∷ entry 32 0 3 0 (Store 2 0x40945b5ec (LastPlus 0x2)) 0x4 ∷ entry 33 0 4 0 (Load 2 0x40945b5f2) 0x0
    ∷ entry 34 0 5 0 (Store 8 0x40945b5e0 (LastPlus 0x1)) 0x1 ∷ entry 45 0 6 0 (Load 4 0x40945b600) 0x0
    ∷ entry 46 0 7 0 (Load 1 0x40945b5f7) 0x0 ∷ [])
