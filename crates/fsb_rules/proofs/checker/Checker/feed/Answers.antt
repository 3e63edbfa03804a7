use Rattle.std.proofs.Common.{sym, ap, subst, ◌∙◌, [], ◌∷◌, ◌++◌}
use Rattle.fsb_count.proofs.Interface.{is_some-none}
use Rattle.fsb_signal.specs.declared.marks.Marks.{Marks}
use Rattle.fsb_trace.specs.At.{Trace}
use Rattle.fsb_rules.specs.Checker.{Stands}
use Rattle.fsb_rules.proofs.Feeds.{comes, absorb_stands, broken_stands, was_found}
use Rattle.fsb_rules.proofs.checker.Checker.feed.Goals as goal
use Rattle.fsb_rules.proofs.checker.Checker.feed.Goals.{then-is_none+in-Some, then-is_none+in-None, else-is_none}

stands : (c : goal.After-result-1) (m : Marks) (h : Trace) → Stands c.args.self.now m h
    → Stands c.if-is_none.self m (h ++ c.args.sample.now ∷ [])
stands c m h s =
    let x = c.args.sample.now in
    elim c.if-is_none.branch [
      | then-is_none+in-Some w ↦
          let none = is_some-none c.args.self.now.found w.if-is_none.ensures in
          let f = s.follows none in
          let least = w.first_broken.ensures h (comes x s none _ (w.begun-begun.ensures h f f.clock))
          (w.winner_of-winner.ensures h f) in
          broken_stands x s none c.if-is_none.self _ (sym least ∙ w.in-Some.is) (ap (λ k. k.marks) w.self-is)
          (ap (λ k. k.found) w.self-is)
      | then-is_none+in-None w ↦
          let none = is_some-none c.args.self.now.found w.if-is_none.ensures in
          let f = s.follows none in
          let begun = comes x s none _ (w.begun-begun.ensures h f f.clock) in
          let winner = w.winner_of-winner.ensures h f in
          let unbroken = sym (w.first_broken.ensures h begun winner) ∙ w.in-None.is in
          subst (λ k. Stands k m (h ++ x ∷ [])) (sym w.self-is)
          (absorb_stands x s none _ unbroken w.absorb.ensures.marks w.absorb.ensures.found
          (w.absorb.ensures.follows h begun unbroken winner))
      | else-is_none w ↦
          subst (λ k. Stands k m (h ++ x ∷ [])) (sym w.self-is) (was_found x s w.if-is_none.ensures)
    ]

pub returns-clause-verdict : goal.returns-clause-verdict
returns-clause-verdict c = λ m h s. (stands c m h s).found

pub returns-clause-stands : goal.returns-clause-stands
returns-clause-stands c = stands c
