-- Made by lab/worked_runs.py of the stored run burst_order_of_chunk_three; not to be edited.
use Rattle.rows_timely.proofs.Words.{Run, scripted, plain, ◌+◌, [], ◌∷◌, ◌++◌, One, Load, setting, on, pair, chunk}
use Rattle.rows_timely.proofs.Words.{idles, b0, ads, rs, dbsy, drdy, entry}

abbrev pub run : Run
run = scripted
    (record plain {
      mem = setting 0x58 0x1 ∷ setting 0x59 0x2 ∷ setting 0x5a 0x3 ∷ setting 0x5b 0x4 ∷ setting 0x5c 0x5
          ∷ setting 0x5d 0x6 ∷ setting 0x5e 0x7 ∷ setting 0x5f 0x8 ∷ [];
    })
    ((One (Load 8 0x58) ∷ []) ∷ [])
    (on b0 ∷ on b0 ∷ pair (b0 + ads) 0x6 0xb ∷ pair 0 0x2 0x2 ∷ idles 4
    ++ chunk (rs 7 + dbsy + drdy) 0x807060504030201 ∷ on (dbsy + drdy) ∷ on (dbsy + drdy) ∷ on drdy ∷ idles 48)
    (entry 11 0 0 0 (Load 8 0x58) 0x807060504030201 ∷ [])
