-- Made by lab/worked_runs.py of the stored run locked_increments; not to be edited.
use Rattle.rows_timely.proofs.Words.{Run, scripted, plain, ◌+◌, [], ◌∷◌, Locked, Load, Store, LastPlus, on, pair, chunk}
use Rattle.rows_timely.proofs.Words.{idles, b0, b1, lock, ads, hitm, rs, trdy, dbsy, drdy, entry}

abbrev pub run : Run
run = scripted plain
    ((Locked (Load 1 0x40 ∷ Store 1 0x40 (LastPlus 0x1) ∷ []) ∷ []) ∷ (Locked (Load 1 0x40
    ∷ Store 1 0x40 (LastPlus 0x1) ∷ []) ∷ []) ∷ [])
    (on (b0 + b1) ∷ on (b0 + b1) ∷ pair (b0 + b1 + lock + ads) 0x2 0x8 ∷ pair (b1 + lock) 0x2 0x0 ∷ on (b1 + lock)
    ∷ on (b1 + lock) ∷ on (b1 + lock) ∷ on (b1 + lock) ∷ on (b1 + lock + rs 7 + dbsy + drdy)
    ∷ on (b1 + lock + dbsy + drdy) ∷ on (b1 + lock + dbsy + drdy) ∷ on (b1 + lock + drdy) ∷ on b1 ∷ on b1
    ∷ pair (b1 + lock + ads) 0x2 0x8 ∷ pair lock 0x2 0x20000 ∷ on lock ∷ on lock ∷ on (lock + hitm) ∷ on lock
    ∷ on (lock + trdy) ∷ on lock ∷ chunk (lock + rs 6 + dbsy + drdy) 0x1 ∷ on (lock + dbsy + drdy)
    ∷ on (lock + dbsy + drdy) ∷ on (lock + drdy) ∷ idles 34)
    (entry 11 0 0 0 (Load 1 0x40) 0x0 ∷ entry 11 0 0 1 (Store 1 0x40 (LastPlus 0x1)) 0x1
    ∷ entry 25 1 0 0 (Load 1 0x40) 0x1 ∷ entry 25 1 0 1 (Store 1 0x40 (LastPlus 0x1)) 0x2 ∷ [])
