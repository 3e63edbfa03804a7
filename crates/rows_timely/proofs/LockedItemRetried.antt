-- Made by lab/worked_runs.py of the stored run locked_item_retried; not to be edited.
use Rattle.rows_timely.proofs.Words.{Run, scripted, plain, ◌+◌, [], ◌∷◌, Locked, Store, Literal, Retry, on, pair, idles}
use Rattle.rows_timely.proofs.Words.{b0, lock, ads, defer, rs, dbsy, drdy, entry}

abbrev pub run : Run
run = scripted (record plain { hazards = Retry 1 ∷ [] })
    ((Locked (Store 1 0x40 (Literal 0x1) ∷ Store 1 0x80 (Literal 0x2) ∷ []) ∷ []) ∷ [])
    (on b0 ∷ on b0 ∷ pair (b0 + lock + ads) 0x2 0x8 ∷ pair lock 0x2 0x0 ∷ on lock ∷ on lock ∷ on lock ∷ on lock
    ∷ on (lock + rs 7 + dbsy + drdy) ∷ on (lock + dbsy + drdy) ∷ on (lock + dbsy + drdy) ∷ on (lock + drdy)
    ∷ on (b0 + lock) ∷ on (b0 + lock) ∷ pair (b0 + lock + ads) 0x2 0x10 ∷ pair lock 0x2 0x0 ∷ on lock ∷ on lock
    ∷ on (lock + defer) ∷ on lock ∷ on (lock + rs 1) ∷ on b0 ∷ on b0 ∷ pair (b0 + lock + ads) 0x2 0x10
    ∷ pair lock 0x2 0x0 ∷ on lock ∷ on lock ∷ on lock ∷ on lock ∷ on (lock + rs 7 + dbsy + drdy)
    ∷ on (lock + dbsy + drdy) ∷ on (lock + dbsy + drdy) ∷ on (lock + drdy) ∷ idles 27)
    (entry 32 0 0 0 (Store 1 0x40 (Literal 0x1)) 0x1 ∷ entry 32 0 0 1 (Store 1 0x80 (Literal 0x2)) 0x2 ∷ [])
