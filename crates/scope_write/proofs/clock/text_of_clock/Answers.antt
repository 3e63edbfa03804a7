use Rattle.std.proofs.Common.{◌≡◌, ℕ, ◌+◌, ◌*◌, List, [], ◌++◌, codes, decimal, refl, append_assoc}
use Rattle.fsb_signal.specs.DumpText.{texts_from}
use Rattle.scope_write.specs.Text.{shown_change, shown_clock}
use Rattle.scope_write.proofs.clock.text_of_clock.Goals as goal

-- the same pieces, grouped by edges and in a row
in_a_row : (h d n f c e r : List ℕ)
    → [] ++ (h ++ d ++ n ++ f) ++ c ++ (h ++ e ++ n ++ r) ≡ h ++ d ++ (n ++ f) ++ c ++ h ++ e ++ (n ++ r)
in_a_row h d n f c e r = simp append_assoc refl

pub returns : goal.returns
unfolding shown_clock
returns c =
    rw (
      c.put_edge-2.ensures.items,
      c.put_changes.ensures.items,
      c.put_edge.ensures.items,
      c.new-text.ensures,
    )
    (in_a_row (codes "#") (decimal (10 * c.args.clock)) (codes "\n") (codes "0!\n")
    (texts_from (shown_change c.args.there.now c.args.before.now c.args.now.now) 1 21)
    (decimal (10 * c.args.clock + 5)) (codes "1!\n"))
