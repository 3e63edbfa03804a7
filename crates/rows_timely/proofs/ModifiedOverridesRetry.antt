-- Made by lab/worked_runs.py of the stored run modified_overrides_retry; not to be edited.
use Rattle.rows_timely.proofs.Words.{Run, scripted, plain, ◌+◌, [], ◌∷◌, One, Store, Literal, Retry, on, pair, chunk}
use Rattle.rows_timely.proofs.Words.{idle, idles, b0, b1, ads, hitm, defer, rs, trdy, dbsy, drdy, entry}

abbrev pub run : Run
run = scripted (record plain { hazards = Retry 1 ∷ [] })
    ((One (Store 1 0x40 (Literal 0x1)) ∷ []) ∷ (One (Store 1 0x40 (Literal 0x2)) ∷ []) ∷ [])
    (on (b0 + b1) ∷ on (b0 + b1) ∷ pair (b0 + b1 + ads) 0x2 0x8 ∷ pair b1 0x2 0x2 ∷ on b1 ∷ pair (b1 + ads) 0x2 0x8
    ∷ pair 0 0x2 0x20002 ∷ idle ∷ on (rs 7 + dbsy + drdy) ∷ on (hitm + defer + dbsy + drdy) ∷ on (dbsy + drdy)
    ∷ on drdy ∷ on trdy ∷ idle ∷ chunk (rs 6 + dbsy + drdy) 0x1 ∷ on (dbsy + drdy) ∷ on (dbsy + drdy) ∷ on drdy
    ∷ idles 42)
    (entry 11 0 0 0 (Store 1 0x40 (Literal 0x1)) 0x1 ∷ entry 17 1 0 0 (Store 1 0x40 (Literal 0x2)) 0x2 ∷ [])
