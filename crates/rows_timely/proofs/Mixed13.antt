-- Made by lab/worked_runs.py of the stored run mixed_13; not to be edited.
use Rattle.rows_timely.proofs.Words.{Run, scripted, plain, ◌+◌, [], ◌∷◌, ◌++◌, Some, One, Locked, Load, Store, LastPlus}
use Rattle.rows_timely.proofs.Words.{setting, Stall, Trdy, Resp, Gap, Retry, Defer, Aerr, on, pair, chunk, idle, idles}
use Rattle.rows_timely.proofs.Words.{b0, bpri, ads, aerr, defer, rs, dbsy, drdy, entry}

abbrev pub run : Run
run = scripted
    (record plain {
      clocks = 73;
      cache = 4;
      ahead = 4;
      bridge = Some (record { base = 0xffffff840; size = 0x3a0 });
      mem = setting 0xffffffaf0 0xa8 ∷ setting 0xffffff860 0xc3 ∷ setting 0xffffff877 0x9a ∷ [];
      hazards = Defer 0 12 ∷ Defer 1 140 ∷ Defer 2 79 ∷ Defer 3 289 ∷ Retry 3 ∷ Defer 4 263 ∷ Aerr 4 ∷ Stall 4 1
          ∷ Defer 5 219 ∷ Defer 6 111 ∷ Defer 7 124 ∷ Gap 7 1 ∷ Defer 7 4 ∷ Aerr 7 ∷ Defer 7 11 ∷ Defer 8 18
          ∷ Defer 9 18 ∷ Defer 10 14 ∷ Defer 10 0 ∷ Defer 11 12 ∷ Defer 12 20 ∷ Defer 13 346 ∷ Defer 14 18
          ∷ Defer 14 15 ∷ Gap 14 3 ∷ Defer 15 80 ∷ Aerr 15 ∷ Defer 16 141 ∷ Resp 16 4 ∷ Defer 17 15 ∷ Defer 18 14
          ∷ Trdy 18 4 ∷ Defer 19 13 ∷ Resp 19 2 ∷ Gap 20 1 ∷ Defer 21 31 ∷ [];
    })
    ((One (Load 2 0xffffffae0) ∷ One (Load 2 0xffffffbc2) ∷ One (Load 1 0xffffff858)
    ∷ One (Store 1 0xffffff860 (LastPlus 0x1)) ∷ One (Load 8 0xffffff850) ∷ Locked (Store 4 0xffffffae0 (LastPlus 0x2)
    ∷ Load 4 0xffffff854 ∷ []) ∷ One (Load 1 0xffffffaf5) ∷ []) ∷ [])
    (on b0 ∷ on b0 ∷ pair (b0 + ads) 0xe 0x1ffffff5c ∷ pair 0 0x2 0x2 ∷ on b0 ∷ on b0
    ∷ pair (b0 + ads + defer) 0xe 0x1ffffff78 ∷ pair 0 0x2 0x2002 ∷ on (rs 2) ∷ idle ∷ on defer ∷ idle ∷ on (rs 2)
    ∷ idles 8 ++ on bpri ∷ on bpri ∷ on (bpri + ads) ∷ idles 5 ++ on (rs 7 + dbsy + drdy) ∷ on (dbsy + drdy)
    ∷ chunk (dbsy + drdy) 0xa8 ∷ on drdy ∷ on b0 ∷ on b0 ∷ pair (b0 + ads) 0xa 0x1ffffff0c ∷ pair 0 0x2 0x2 ∷ idle
    ∷ idle ∷ on defer ∷ idle ∷ on (rs 1) ∷ on b0 ∷ on b0 ∷ pair (b0 + ads) 0xa 0x1ffffff0c ∷ pair 0 0x2 0x2 ∷ idle
    ∷ on aerr ∷ on b0 ∷ on b0 ∷ pair (b0 + ads) 0xa 0x1ffffff0c ∷ pair 0 0x2 0x2 ∷ idle ∷ idle ∷ on defer ∷ idle
    ∷ on (rs 2) ∷ idles 16)
    (entry 32 0 0 0 (Load 2 0xffffffae0) 0x0 ∷ [])
