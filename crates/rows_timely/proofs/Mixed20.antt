-- Made by lab/worked_runs.py of the stored run mixed_20; not to be edited.
use Rattle.rows_timely.proofs.Words.{Run, scripted, plain, ◌+◌, [], ◌∷◌, One, Store, Literal, setting, Trdy, Defer}
use Rattle.rows_timely.proofs.Words.{Aerr, on, pair, idle, idles, b0, b1, ads, aerr, rs, dbsy, drdy, ap0, rp, entry}

abbrev pub run : Run
run = scripted
    (record plain {
      clocks = 23;
      cache = 2;
      ahead = 2;
      profile = 2;
      mem = setting 0x43 0xab ∷ setting 0x44 0xfb ∷ setting 0x19e 0xbc ∷ [];
      hazards = Aerr 0 ∷ Defer 0 5 ∷ Trdy 10 6 ∷ [];
    })
    ((One (Store 1 0x24e (Literal 0xd5)) ∷ []) ∷ (One (Store 2 0xde (Literal 0xc2ce)) ∷ []) ∷ [])
    (on (b0 + b1) ∷ on (b0 + b1) ∷ pair (b0 + b1 + ads + ap0) 0x2 0x49 ∷ pair (b1 + ap0 + rp) 0x2 0x2 ∷ on b1
    ∷ pair (b1 + ads + aerr) 0x2 0x1b ∷ pair (b0 + rp) 0x2 0x20002 ∷ on b0 ∷ pair (b0 + ads + ap0) 0x2 0x49
    ∷ pair (ap0 + rp) 0x2 0x2 ∷ idle ∷ on (rs 7 + dbsy + drdy) ∷ on (dbsy + drdy) ∷ on (dbsy + drdy) ∷ on drdy
    ∷ on (rs 7 + dbsy + drdy) ∷ on (dbsy + drdy) ∷ on (dbsy + drdy) ∷ on drdy ∷ idles 4)
    (entry 14 1 0 0 (Store 2 0xde (Literal 0xc2ce)) 0xc2ce ∷ entry 18 0 0 0 (Store 1 0x24e (Literal 0xd5)) 0xd5 ∷ [])
