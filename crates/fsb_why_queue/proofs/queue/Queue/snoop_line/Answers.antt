use Rattle.std.proofs.Common.{sym, subst, ◌∙◌, [], ◌∷◌, ◌++◌}
use Rattle.fsb_why_queue.specs.Snoops.{SaysSnooping}
use Rattle.fsb_why_queue.proofs.Asking.{lines-new, over-is, quiet-is}
use Rattle.fsb_why_queue.proofs.queue.Queue.snoop_line.Goals as goal

pub returns-in-Some : goal.returns-in-Some
returns-in-Some c = λ m h g.
    let v : _ = h ++ c.args.sample.now ∷ [] in
    c.alone.ensures m v (subst (SaysSnooping v c.args.clock) c.in-Some.is (c.snooping.ensures h g)) (
      lines-new h c.args.sample.now c.args.clock c.snoop_lines-lines.result g.clock c.snoop_lines-lines.ensures,
      sym c.is_any.ensures ∙ c.if-is_any.true,
    )

pub returns-in-None : goal.returns-in-None
returns-in-None c = λ m h g.
    let v : _ = h ++ c.args.sample.now ∷ [] in
    over-is m v c.args.clock c.snoop_lines-lines.result
    (subst (SaysSnooping v c.args.clock) c.in-None.is (c.snooping.ensures h g)) (
      lines-new h c.args.sample.now c.args.clock c.snoop_lines-lines.result g.clock c.snoop_lines-lines.ensures,
      sym c.is_any.ensures ∙ c.if-is_any.true,
    )

pub returns-else-is_any : goal.returns-else-is_any
returns-else-is_any c = λ m h g.
    quiet-is m (h ++ c.args.sample.now ∷ []) c.args.clock c.snoop_lines-lines.result
    (lines-new h c.args.sample.now c.args.clock c.snoop_lines-lines.result g.clock c.snoop_lines-lines.ensures)
    (sym c.is_any.ensures ∙ c.if-is_any.false)
