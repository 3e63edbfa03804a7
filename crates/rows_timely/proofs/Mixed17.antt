-- Made by lab/worked_runs.py of the stored run mixed_17; not to be edited.
use Rattle.rows_timely.proofs.Words.{Run, scripted, plain, ◌+◌, [], ◌∷◌, One, Locked, Idle, Load, Store, Literal}
use Rattle.rows_timely.proofs.Words.{LastPlus, setting, Stall, Resp, Gap, Defer, Aerr, on, pair, idle, b0, b1, ads}
use Rattle.rows_timely.proofs.Words.{aerr, ap0, rp}

abbrev pub run : Run
run = scripted
    (record plain {
      clocks = 11;
      cache = 16;
      ahead = 2;
      profile = 2;
      mem = setting 0x54 0xd1 ∷ setting 0x4c 0x55 ∷ setting 0x48 0x76 ∷ setting 0x5f 0xb3 ∷ [];
      hazards = Aerr 0 ∷ Defer 4 9 ∷ Aerr 11 ∷ Resp 17 1 ∷ Stall 17 1 ∷ Stall 19 2 ∷ Gap 30 1 ∷ Aerr 35 ∷ [];
    })
    ((One (Load 1 0x49) ∷ One (Load 8 0x40) ∷ One (Load 4 0x40) ∷ One (Load 8 0x50) ∷ One (Load 1 0x50) ∷ Idle 2
    ∷ One (Store 8 0x40 (LastPlus 0x2)) ∷ One (Store 4 0x4c (LastPlus 0x2)) ∷ Idle 12 ∷ Idle 1 ∷ [])
    ∷ (One (Load 1 0x48) ∷ Idle 14 ∷ Locked (Load 1 0x4c ∷ Store 1 0x54 (Literal 0x4d) ∷ [])
    ∷ Locked (Store 4 0x40 (LastPlus 0x0) ∷ Store 1 0x40 (LastPlus 0x1) ∷ Store 4 0x58 (Literal 0xa50a233f)
    ∷ Load 2 0x40 ∷ Load 8 0x50 ∷ []) ∷ []) ∷ [])
    (on (b0 + b1) ∷ on (b0 + b1) ∷ pair (b0 + b1 + ads + rp) 0x6 0x9 ∷ pair (b1 + ap0 + rp) 0x2 0x2 ∷ on b1
    ∷ pair (b1 + ads + aerr + rp) 0x6 0x9 ∷ pair (b0 + rp) 0x2 0x20002 ∷ on b0 ∷ pair (b0 + ads + rp) 0x6 0x9
    ∷ pair (ap0 + rp) 0x2 0x2 ∷ idle ∷ [])
    []
