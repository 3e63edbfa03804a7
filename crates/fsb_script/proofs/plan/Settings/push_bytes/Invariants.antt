-- The settings so far and those of the bytes that are left are all of them, each lies below 2^36, and there is room
-- for the others.
use Rattle.std.proofs.Common.{◌≡◌, ◌+◌, ◌≤◌, ◌++◌, drop, length, IsTrue}
use Rattle.std.specs.List.{list_all}
use Rattle.std.specs.Vec.{vec_len, vec_capacity}
use Rattle.fsb_script.specs.Bounds.{is_lawful_setting}
use Rattle.fsb_script.specs.Statements.{settings_at}
use Rattle.fsb_script.proofs.plan.Settings.push_bytes.Given as goal

abbrev pub invariant-loop-i : goal.invariant-loop-i
invariant-loop-i l = record {
  all : l.self-inside.settings.items ++ settings_at (l.addr + l.i)
      (drop l.i l.bytes) ≡ l.initial.self-inside.settings.items ++ settings_at l.addr l.bytes;
  lawful : IsTrue (list_all is_lawful_setting l.initial.self-inside.settings.items)
      → IsTrue (list_all is_lawful_setting l.self-inside.settings.items);
  room : vec_len l.self-inside.settings + length l.bytes ≤ vec_capacity l.self-inside.settings + l.i;
}
