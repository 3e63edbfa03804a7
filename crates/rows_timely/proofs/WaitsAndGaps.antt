-- Made by lab/worked_runs.py of the stored run waits_and_gaps; not to be edited.
use Rattle.rows_timely.proofs.Words.{Run, scripted, plain, ◌+◌, [], ◌∷◌, ◌++◌, One, Load, Store, Literal, setting, Trdy}
use Rattle.rows_timely.proofs.Words.{Resp, Gap, on, pair, chunk, full, idle, idles, b0, b1, ads, rs, trdy, dbsy, drdy}
use Rattle.rows_timely.proofs.Words.{entry}

abbrev pub run : Run
run = scripted
    (record plain {
      clocks = 80;
      cache = 1;
      ahead = 2;
      mem = setting 0x40 0x1 ∷ setting 0x48 0x2 ∷ setting 0x50 0x3 ∷ setting 0x58 0x4 ∷ setting 0x60 0x5
          ∷ setting 0x68 0x6 ∷ setting 0x70 0x7 ∷ setting 0x78 0x8 ∷ setting 0x80 0x9 ∷ setting 0x88 0xa
          ∷ setting 0x90 0xb ∷ setting 0x98 0xc ∷ [];
      hazards = Gap 0 1 ∷ Resp 1 2 ∷ Trdy 1 3 ∷ Gap 2 2 ∷ Trdy 3 2 ∷ Resp 3 1 ∷ [];
    })
    ((One (Load 8 0x48) ∷ One (Load 8 0x70) ∷ []) ∷ (One (Store 1 0x80 (Literal 0x9)) ∷ One (Load 8 0x58) ∷ []) ∷ [])
    (on (b0 + b1) ∷ on (b0 + b1) ∷ pair (b0 + b1 + ads) 0x6 0x9 ∷ pair b1 0x2 0x2 ∷ on b1 ∷ pair (b1 + ads) 0x2 0x10
    ∷ pair 0 0x2 0x20002 ∷ idle ∷ chunk (rs 7 + dbsy + drdy) 0x2 ∷ on dbsy ∷ chunk (dbsy + drdy) 0x1 ∷ on dbsy
    ∷ chunk (dbsy + drdy) 0x4 ∷ on dbsy ∷ chunk drdy 0x3 ∷ on b0 ∷ on b0
    ∷ full (b0 + ads + rs 7 + dbsy + drdy) 0x6 0xe 0x9 ∷ full (dbsy + drdy) 0x2 0x2 0xa ∷ chunk (dbsy + drdy) 0xb
    ∷ chunk drdy 0xc ∷ on b1 ∷ on b1 ∷ full (b1 + ads + rs 7 + dbsy + drdy) 0x5 0x10 0x7 ∷ pair dbsy 0x2 0x20000
    ∷ on dbsy ∷ chunk (dbsy + drdy) 0x8 ∷ on dbsy ∷ on dbsy ∷ chunk (dbsy + drdy) 0x5 ∷ on dbsy ∷ on dbsy
    ∷ chunk drdy 0x6 ∷ idle ∷ idle ∷ on trdy ∷ idle ∷ idle ∷ chunk (rs 5 + dbsy + drdy) 0x9 ∷ chunk (dbsy + drdy) 0xa
    ∷ chunk (dbsy + drdy) 0xb ∷ chunk drdy 0xc ∷ on b1 ∷ on b1 ∷ pair (b1 + ads) 0x6 0xb ∷ pair 0 0x2 0x20002
    ∷ idles 4 ++ chunk (rs 7 + dbsy + drdy) 0x4 ∷ chunk (dbsy + drdy) 0x3 ∷ chunk (dbsy + drdy) 0x2 ∷ chunk drdy 0x1
    ∷ idles 26)
    (entry 14 0 0 0 (Load 8 0x48) 0x2 ∷ entry 20 1 0 0 (Store 1 0x80 (Literal 0x9)) 0x9
    ∷ entry 32 0 1 0 (Load 8 0x70) 0x7 ∷ entry 53 1 1 0 (Load 8 0x58) 0x4 ∷ [])
