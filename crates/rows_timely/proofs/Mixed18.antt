-- Made by lab/worked_runs.py of the stored run mixed_18; not to be edited.
use Rattle.rows_timely.proofs.Words.{Run, scripted, plain, ◌+◌, [], ◌∷◌, ◌++◌, Some, One, Locked, Idle, Load, Store}
use Rattle.rows_timely.proofs.Words.{Literal, LastPlus, setting, Trdy, Gap, Retry, Defer, Aerr, Bnr, on, pair, chunk}
use Rattle.rows_timely.proofs.Words.{idles, b0, ads, aerr, rs, dbsy, drdy, ap0, rp, entry}

abbrev pub run : Run
run = scripted
    (record plain {
      clocks = 21;
      cache = 2;
      ahead = 4;
      profile = 2;
      bridge = Some (record { base = 0xffffff800; size = 0x400 });
      mem = setting 0xffffffbf0 0xbc ∷ setting 0xffffff819 0x74 ∷ setting 0xffffff852 0xa ∷ setting 0xffffff85c 0xa0
          ∷ setting 0xffffff81d 0x41 ∷ [];
      hazards = Aerr 1 ∷ Trdy 11 1 ∷ Defer 18 15 ∷ Retry 20 ∷ Aerr 21 ∷ Aerr 21 ∷ Gap 25 8 ∷ Bnr 109 112 ∷ Bnr 27 27
          ∷ [];
    })
    ((One (Load 4 0xffffff80c) ∷ One (Load 8 0xffffffbe0) ∷ One (Store 2 0xffffff800 (LastPlus 0x1))
    ∷ One (Store 4 0xffffffbf4 (LastPlus 0xc20b077)) ∷ One (Load 2 0xffffff81a) ∷ Locked (Load 1 0xffffff813
    ∷ Load 1 0xffffffbfe ∷ Load 1 0xffffffbf0 ∷ Store 4 0xffffff800 (LastPlus 0x1) ∷ []) ∷ One (Load 8 0xffffff800)
    ∷ One (Load 4 0xffffffbec) ∷ One (Load 2 0xffffff840) ∷ One (Store 1 0xffffff85d (Literal 0xa9))
    ∷ One (Load 2 0xffffffbe0) ∷ Idle 6 ∷ []) ∷ [])
    (on b0 ∷ on b0 ∷ pair (b0 + ads) 0xe 0x1ffffff01 ∷ pair (ap0 + rp) 0x2 0x2 ∷ on b0 ∷ on b0
    ∷ pair (b0 + ads) 0xe 0x1ffffff7c ∷ pair rp 0x2 0x2002 ∷ on (rs 7 + dbsy + drdy) ∷ on (aerr + dbsy + drdy)
    ∷ chunk (b0 + dbsy + drdy) 0x410000007400 ∷ on (b0 + drdy) ∷ pair (b0 + ads) 0xe 0x1ffffff7c
    ∷ pair (ap0 + rp) 0x2 0x2 ∷ idles 4 ++ on (rs 7 + dbsy + drdy) ∷ on (dbsy + drdy) ∷ chunk (dbsy + drdy) 0xbc ∷ [])
    (entry 11 0 0 0 (Load 4 0xffffff80c) 0x0 ∷ [])
