-- Made by lab/worked_runs.py of the stored run mixed_26; not to be edited.
use Rattle.rows_timely.proofs.Words.{Run, scripted, plain, ◌+◌, [], ◌∷◌, ◌++◌, One, Idle, Load, Store, Literal}
use Rattle.rows_timely.proofs.Words.{LastPlus, setting, Stall, Trdy, Resp, Retry, Aerr, on, pair, chunk, full, idle}
use Rattle.rows_timely.proofs.Words.{idles, b0, b1, ads, aerr, hit, hitm, rs, trdy, dbsy, drdy, ap0, rp, entry}

abbrev pub run : Run
run = scripted
    (record plain {
      clocks = 82;
      cache = 1;
      ahead = 4;
      profile = 2;
      mem = setting 0x894 0xe5 ∷ setting 0x89e 0xc8 ∷ setting 0x89f 0x7d ∷ setting 0x884 0x25 ∷ setting 0x889 0x99 ∷ [];
      hazards = Trdy 1 1 ∷ Stall 2 2 ∷ Aerr 3 ∷ Aerr 7 ∷ Resp 12 1 ∷ Resp 15 1 ∷ Trdy 15 1 ∷ Trdy 21 8 ∷ Retry 22 ∷ [];
    })
    ((One (Store 2 0x89a (LastPlus 0x1)) ∷ One (Load 1 0x898) ∷ Idle 11 ∷ One (Load 4 0x89c) ∷ One (Load 8 0x888)
    ∷ One (Load 1 0x89e) ∷ Idle 9 ∷ One (Load 4 0x880) ∷ []) ∷ (One (Store 8 0x880 (LastPlus 0x2))
    ∷ One (Store 4 0x89c (LastPlus 0x1)) ∷ One (Store 1 0x89b (LastPlus 0x18))
    ∷ One (Store 4 0x890 (Literal 0xf342407f)) ∷ One (Store 8 0x880 (LastPlus 0xe622620bee611a8c))
    ∷ One (Store 8 0x888 (LastPlus 0x3)) ∷ []) ∷ [])
    (on (b0 + b1) ∷ on (b0 + b1) ∷ pair (b0 + b1 + ads) 0x2 0x113 ∷ pair (b1 + ap0 + rp) 0x2 0x2 ∷ on b1
    ∷ pair (b1 + ads) 0x2 0x110 ∷ pair rp 0x2 0x20002 ∷ idle ∷ chunk (rs 7 + dbsy + drdy) 0x7dc8000000000000
    ∷ chunk (hitm + dbsy + drdy) 0xe500000000 ∷ chunk (dbsy + drdy) 0x9900 ∷ chunk drdy 0x2500000000 ∷ on b0
    ∷ on (b0 + trdy) ∷ pair (b0 + ads + rp) 0x6 0x113 ∷ full (rs 6 + dbsy + drdy + ap0 + rp) 0x2 0x2 0x2500000000
    ∷ chunk (dbsy + drdy) 0x9900 ∷ chunk (dbsy + drdy) 0xe500000000 ∷ chunk (hit + hitm + drdy) 0x7dc8000000010000
    ∷ idle ∷ on (hit + hitm) ∷ idle ∷ on hitm ∷ on b1 ∷ on (b1 + trdy) ∷ pair (b1 + ads + ap0) 0x2 0x111
    ∷ full (rs 6 + dbsy + drdy + ap0) 0x0 0x20000 0x118010000 ∷ chunk (dbsy + drdy) 0xe5f342407f
    ∷ chunk (aerr + dbsy + drdy) 0x9900 ∷ chunk (b1 + drdy) 0xe622620bee611a8c ∷ on b1
    ∷ pair (b1 + ads + ap0) 0x2 0x111 ∷ pair ap0 0x0 0x20000 ∷ idle ∷ idle ∷ on hit ∷ idle ∷ on (rs 5) ∷ idles 3
    ++ on b0 ∷ on b0 ∷ pair (b0 + ads + rp) 0x6 0x113 ∷ pair (ap0 + rp) 0x2 0x2 ∷ idle ∷ idle ∷ on hitm ∷ idle
    ∷ on trdy ∷ idle ∷ chunk (rs 6 + dbsy + drdy) 0x118010000 ∷ chunk (dbsy + drdy) 0xe5f342407f
    ∷ chunk (dbsy + drdy) 0x3 ∷ chunk drdy 0xe622620bee611a8c ∷ idles 27)
    (entry 11 0 0 0 (Store 2 0x89a (LastPlus 0x1)) 0x1 ∷ entry 18 1 0 0 (Store 8 0x880 (LastPlus 0x2)) 0x2
    ∷ entry 19 1 1 0 (Store 4 0x89c (LastPlus 0x1)) 0x1 ∷ entry 20 1 2 0 (Store 1 0x89b (LastPlus 0x18)) 0x18
    ∷ entry 21 1 3 0 (Store 4 0x890 (Literal 0xf342407f)) 0xf342407f
    ∷ entry 22 1 4 0 (Store 8 0x880 (LastPlus 0xe622620bee611a8c)) 0xe622620bee611a8c
    ∷ entry 29 0 1 0 (Load 1 0x898) 0x0 ∷ entry 37 1 5 0 (Store 8 0x888 (LastPlus 0x3)) 0x3
    ∷ entry 54 0 3 0 (Load 4 0x89c) 0x1 ∷ entry 55 0 4 0 (Load 8 0x888) 0x3 ∷ entry 56 0 5 0 (Load 1 0x89e) 0x0
    ∷ entry 66 0 7 0 (Load 4 0x880) 0xee611a8c ∷ [])
