use Rattle.std.proofs.Common.{◌≡◌, length, sym, ap, ◌∙◌, arith}
use Rattle.std.specs.Option.{option_copied_mut}
use Rattle.fsb_queue.specs.Entries.{settled_at}
use Rattle.fsb_queue.proofs.EntryLists.{settled_at-is, not_past}
use Rattle.fsb_queue.proofs.queue.Queue.settle.Goals as goal
use Rattle.fsb_queue.proofs.queue.Queue.settle.Goals.{in-Some, in_default}

pub returns : goal.returns
returns c =
    elim c.match-get_mut.branch [
      | in-Some w ↦
          ap (λ q. q.entries.items) w.self-inside-is
          ∙ settled_at-is c.args.i c.args.outcome c.self.inside.entries.items w.in-Some.entry.now
          (sym c.get_mut.follows ∙ ap option_copied_mut w.in-Some.is)
          ∙ ap (settled_at c.args.i c.args.outcome) c.self.view_is
      | in_default w ↦
          absurd (not_past c.self.inside.entries.items c.args.i
          (let e : length c.self.inside.entries.items ≡ length c.args.self.now = ap length c.self.view_is in
          omega (arith, c.requires))
          (sym c.get_mut.follows ∙ ap option_copied_mut w.in_default.is))
    ]
