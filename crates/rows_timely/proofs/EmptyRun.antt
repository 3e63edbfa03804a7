-- Made by lab/worked_runs.py of the stored run empty_run; not to be edited.
use Rattle.rows_timely.proofs.Words.{Run, scripted, plain, [], ◌∷◌, One, Load, Store, Literal, setting}

abbrev pub run : Run
run = scripted (record plain { clocks = 0; mem = setting 0x40 0x7 ∷ [] })
    ((One (Load 1 0x40) ∷ One (Store 1 0x41 (Literal 0x5)) ∷ []) ∷ [])
    []
    []
