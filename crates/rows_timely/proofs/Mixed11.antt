-- Made by lab/worked_runs.py of the stored run mixed_11; not to be edited.
use Rattle.rows_timely.proofs.Words.{Run, scripted, plain, ◌+◌, [], ◌∷◌, One, Locked, Idle, Load, Store, Literal}
use Rattle.rows_timely.proofs.Words.{LastPlus, setting, Defer, Bnr, on, pair, chunk, full, idle, idles, b0, b1, b2}
use Rattle.rows_timely.proofs.Words.{lock, bnr, ads, hit, hitm, rs, trdy, dbsy, drdy, ap0, rp, entry}

abbrev pub run : Run
run = scripted
    (record plain {
      clocks = 84;
      cache = 2;
      profile = 2;
      mem = setting 0x54bb482e5 0x71 ∷ setting 0x54bb482aa 0xf7 ∷ setting 0x54bb4827e 0xe3 ∷ setting 0x54bb482c6 0xb4
          ∷ setting 0x54bb482ad 0x63 ∷ [];
      hazards = Defer 1 14 ∷ Bnr 24 24 ∷ Bnr 59 59 ∷ [];
    })
    ((One (Store 4 0x54bb482e0 (Literal 0xfb094bce)) ∷ Locked (Load 1 0x54bb482e0 ∷ []) ∷ One (Load 8 0x54bb482a8)
    ∷ One (Load 2 0x54bb48260) ∷ One (Load 8 0x54bb482e0) ∷ []) ∷ (One (Load 1 0x54bb482cd) ∷ One (Load 8 0x54bb48278)
    ∷ Locked (Load 8 0x54bb482c0 ∷ Store 1 0x54bb48279 (LastPlus 0x1)
    ∷ Store 8 0x54bb48260 (Literal 0x5d9d577aca75c0f0) ∷ Store 4 0x54bb482c0 (LastPlus 0x2) ∷ Load 4 0x54bb482c0
    ∷ Load 8 0x54bb48260 ∷ []) ∷ One (Load 1 0x54bb482e0) ∷ []) ∷ (Idle 10 ∷ One (Load 4 0x54bb48264)
    ∷ One (Load 1 0x54bb482be) ∷ []) ∷ [])
    (on (b0 + b1) ∷ on (b0 + b1) ∷ pair (b0 + b1 + ads + ap0 + rp) 0xa 0xa976905c ∷ pair (b1 + ap0 + rp) 0x2 0x2
    ∷ on b1 ∷ pair (b1 + ads + ap0) 0xe 0xa9769059 ∷ pair rp 0x2 0x20002 ∷ idle
    ∷ chunk (rs 7 + dbsy + drdy) 0x710000000000 ∷ on (dbsy + drdy) ∷ on (b2 + dbsy + drdy) ∷ on (b2 + drdy)
    ∷ pair (b2 + ads + rs 7 + dbsy + drdy) 0xe 0xa976904c ∷ full (b0 + dbsy + drdy + rp) 0x2 0x40002 0xb4000000000000
    ∷ on (b0 + dbsy + drdy) ∷ pair (b0 + ads + drdy + ap0) 0xd 0xa976905c ∷ pair (b1 + rp) 0x2 0x0 ∷ on b1
    ∷ pair (b1 + ads + rs 7 + dbsy + drdy) 0xe 0xa976904f ∷ pair (dbsy + drdy + rp) 0x2 0x20002 ∷ on (dbsy + drdy)
    ∷ chunk drdy 0xe3000000000000 ∷ on (b2 + hit + trdy) ∷ on b2
    ∷ full (b2 + bnr + ads + rs 5 + dbsy + drdy) 0xe 0xa9769057 0x7100fb094bce ∷ pair (dbsy + drdy + rp) 0x2 0x40002
    ∷ on (dbsy + drdy) ∷ on drdy ∷ chunk (b0 + rs 7 + dbsy + drdy) 0xe3000000000000 ∷ on (b0 + dbsy + drdy)
    ∷ pair (b0 + ads + dbsy + drdy + ap0) 0xe 0xa9769055 ∷ pair (drdy + ap0 + rp) 0x2 0x2
    ∷ on (b1 + rs 7 + dbsy + drdy) ∷ on (b1 + dbsy + drdy)
    ∷ full (b1 + lock + ads + hit + dbsy + drdy + rp) 0xa 0xa976904f 0x630000f70000
    ∷ pair (lock + drdy + ap0) 0x0 0x20000 ∷ chunk (lock + rs 7 + dbsy + drdy) 0x630000f70000
    ∷ on (lock + dbsy + drdy) ∷ on (lock + dbsy + drdy) ∷ on (lock + drdy) ∷ on (b0 + lock + rs 5) ∷ on (b0 + b1)
    ∷ on (b0 + b1) ∷ pair (b0 + b1 + ads) 0xe 0xa976904c ∷ pair (b1 + ap0 + rp) 0x2 0x2 ∷ on b1 ∷ on b1
    ∷ on (b1 + hitm) ∷ pair (b1 + ads + ap0) 0xe 0xa976905c ∷ pair (trdy + rp) 0x2 0x20002 ∷ idle
    ∷ chunk (rs 6 + dbsy + drdy) 0x5d9d577aca75c0f0 ∷ on (dbsy + drdy) ∷ on (dbsy + drdy)
    ∷ chunk drdy 0xe3000000000100 ∷ chunk (b0 + rs 7 + dbsy + drdy) 0x7100fb094bce ∷ on (b0 + dbsy + drdy)
    ∷ pair (b0 + ads + dbsy + drdy + ap0) 0xe 0xa976905c ∷ pair (drdy + ap0 + rp) 0x2 0x2 ∷ on bnr ∷ idle ∷ on hit
    ∷ idle ∷ chunk (rs 7 + dbsy + drdy) 0x7100fb094bce ∷ on (dbsy + drdy) ∷ on (dbsy + drdy) ∷ on drdy ∷ idles 17)
    (entry 11 0 0 0 (Store 4 0x54bb482e0 (Literal 0xfb094bce)) 0xfb094bce ∷ entry 12 0 1 0 (Load 1 0x54bb482e0) 0xce
    ∷ entry 15 1 0 0 (Load 1 0x54bb482cd) 0x0 ∷ entry 21 2 1 0 (Load 4 0x54bb48264) 0x0
    ∷ entry 31 1 1 0 (Load 8 0x54bb48278) 0xe3000000000000 ∷ entry 35 2 2 0 (Load 1 0x54bb482be) 0x0
    ∷ entry 39 0 2 0 (Load 8 0x54bb482a8) 0x630000f70000 ∷ entry 40 1 2 0 (Load 8 0x54bb482c0) 0xb4000000000000
    ∷ entry 40 1 2 1 (Store 1 0x54bb48279 (LastPlus 0x1)) 0x1
    ∷ entry 40 1 2 2 (Store 8 0x54bb48260 (Literal 0x5d9d577aca75c0f0)) 0x5d9d577aca75c0f0
    ∷ entry 40 1 2 3 (Store 4 0x54bb482c0 (LastPlus 0x2)) 0x2 ∷ entry 40 1 2 4 (Load 4 0x54bb482c0) 0x2
    ∷ entry 40 1 2 5 (Load 8 0x54bb48260) 0x5d9d577aca75c0f0 ∷ entry 54 0 3 0 (Load 2 0x54bb48260) 0xc0f0
    ∷ entry 58 1 3 0 (Load 1 0x54bb482e0) 0xce ∷ entry 66 0 4 0 (Load 8 0x54bb482e0) 0x7100fb094bce ∷ [])
