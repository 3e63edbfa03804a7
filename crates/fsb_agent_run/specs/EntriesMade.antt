-- What entries log.
use Rattle.std.specs.Prelude.{◌≡◌, ℕ, true, nat_eq, List, map}
use Rattle.std.specs.List.{list_all}
use Rattle.fsb_access.specs.declared.log.Done.{Done}
use Rattle.fsb_access.specs.ScriptOrder.{step_of}
use Rattle.fsb_timely.specs.Completions.{Completed}

-- the access that an entry logs: whose it is, and what it is in the script
abbrev pub logged_access : Done → Completed
logged_access done = record { agent = done.agent; step = step_of done }

-- these entries are all of clock c, and log these accesses, in order
pub record LogsAccesses (c : ℕ) (accesses : List Completed) (entries : List Done) : Type 0 where
  pub clocks : list_all (λ (done : Done). nat_eq done.clock c) entries ≡ true
  pub accessed : map logged_access entries ≡ accesses
