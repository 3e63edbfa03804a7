use Rattle.std.proofs.Common.{◌≡◌, take}
use Rattle.fsb_queue.specs.Entries.{entry_of}
use Rattle.fsb_queue.proofs.EntryLists.{passed}
use Rattle.fsb_queue.proofs.queue.Queue.cancel.Given as goal

-- so many entries were passed
abbrev pub invariant-loop : goal.invariant-loop
invariant-loop l = record {
  items : l.self-inside.entries.items ≡ passed l.number l.counter l.initial.self-inside.entries.items;
  found : l.found ≡ entry_of l.number (take l.counter l.initial.self-inside.entries.items);
  capacity : l.self-inside.entries.capacity ≡ 8;
}
