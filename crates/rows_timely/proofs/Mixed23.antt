-- Made by lab/worked_runs.py of the stored run mixed_23; not to be edited.
use Rattle.rows_timely.proofs.Words.{Run, scripted, plain, ◌+◌, [], ◌∷◌, ◌++◌, Some, One, Locked, Load, Store, LastPlus}
use Rattle.rows_timely.proofs.Words.{setting, Stall, Trdy, Resp, Gap, Retry, Defer, Aerr, on, pair, chunk, idle, idles}
use Rattle.rows_timely.proofs.Words.{b0, lock, ads, defer, rs, dbsy, drdy, ap0, rp, entry}

abbrev pub run : Run
run = scripted
    (record plain {
      clocks = 41;
      cache = 4;
      ahead = 3;
      profile = 2;
      bridge = Some (record { base = 0xffffffc0; size = 0x40 });
      mem = setting 0xffffffdf 0x86 ∷ [];
      hazards = Resp 0 1 ∷ Retry 0 ∷ Resp 3 1 ∷ Trdy 5 4 ∷ Retry 5 ∷ Trdy 5 2 ∷ Trdy 6 2 ∷ Stall 6 1 ∷ Defer 6 4
          ∷ Stall 6 4 ∷ Retry 6 ∷ Trdy 6 1 ∷ Defer 6 12 ∷ Trdy 7 2 ∷ Stall 8 2 ∷ Resp 8 4 ∷ Defer 9 10 ∷ Gap 9 1
          ∷ Trdy 9 1 ∷ Defer 10 0 ∷ Aerr 10 ∷ Gap 10 1 ∷ Trdy 10 1 ∷ Gap 10 1 ∷ Gap 10 1 ∷ Defer 10 8 ∷ Resp 13 1 ∷ [];
    })
    ((One (Store 2 0xffffffc0 (LastPlus 0x1)) ∷ Locked (Store 1 0xffffffe6 (LastPlus 0x6f) ∷ Load 4 0xffffffd0 ∷ [])
    ∷ One (Load 8 0xffffffc0) ∷ []) ∷ [])
    (on b0 ∷ on b0 ∷ pair (b0 + ads) 0x2 0x1ffffff8 ∷ pair (ap0 + rp) 0x2 0x2 ∷ idle ∷ idle ∷ on defer ∷ idle ∷ idle
    ∷ on (rs 1) ∷ on b0 ∷ on b0 ∷ pair (b0 + ads) 0x2 0x1ffffff8 ∷ pair (ap0 + rp) 0x2 0x2 ∷ idles 4
    ++ on (rs 7 + dbsy + drdy) ∷ on (dbsy + drdy) ∷ on (dbsy + drdy) ∷ chunk drdy 0x8600000000000000 ∷ on b0 ∷ on b0
    ∷ pair (b0 + lock + ads + ap0) 0x2 0x1ffffffc ∷ pair (lock + rp) 0x2 0x0 ∷ on lock ∷ on lock ∷ on lock ∷ on lock
    ∷ on (lock + rs 7 + dbsy + drdy) ∷ on (lock + dbsy + drdy) ∷ on (lock + dbsy + drdy) ∷ on (lock + drdy) ∷ idles 7)
    (entry 21 0 0 0 (Store 2 0xffffffc0 (LastPlus 0x1)) 0x1 ∷ entry 33 0 1 0 (Store 1 0xffffffe6 (LastPlus 0x6f)) 0x6f
    ∷ entry 33 0 1 1 (Load 4 0xffffffd0) 0x0 ∷ entry 34 0 2 0 (Load 8 0xffffffc0) 0x1 ∷ [])
