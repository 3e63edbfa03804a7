-- Made by lab/worked_runs.py of the stored run parity_of_a_load; not to be edited.
use Rattle.rows_timely.proofs.Words.{Run, scripted, plain, ◌+◌, [], ◌∷◌, ◌++◌, One, Load, Store, Literal, setting, on}
use Rattle.rows_timely.proofs.Words.{pair, chunk, idles, b0, ads, rs, dbsy, drdy, ap0, rp, entry}

abbrev pub run : Run
run = scripted (record plain { profile = 2; mem = setting 0x40 0x7 ∷ [] })
    ((One (Load 1 0x40) ∷ One (Store 1 0x41 (Literal 0x5)) ∷ []) ∷ [])
    (on b0 ∷ on b0 ∷ pair (b0 + ads + ap0 + rp) 0x6 0x8 ∷ pair (ap0 + rp) 0x2 0x2 ∷ idles 4
    ++ chunk (rs 7 + dbsy + drdy) 0x7 ∷ on (dbsy + drdy) ∷ on (dbsy + drdy) ∷ on drdy ∷ idles 48)
    (entry 11 0 0 0 (Load 1 0x40) 0x7 ∷ entry 12 0 1 0 (Store 1 0x41 (Literal 0x5)) 0x5 ∷ [])
