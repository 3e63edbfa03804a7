use Rattle.std.proofs.Common.{◌∙◌, sym, arith}
use Rattle.std.proofs.lemmas.List.{append-nil}
use Rattle.fsb_rules.proofs.OpenStands.{absorbed, left_items, room_left}
use Rattle.fsb_rules.proofs.outstanding.Outstanding.absorb.Goals as goal

pub push-requires : goal.push-requires
push-requires c =
    let s = c.requires.2 in (
      omega arith,
      room_left s c.pass.new.self.current.items c.in-Some.open
          (left_items s _ _ c.remember.ensures.current (c.pass.ensures.current _ _ _ s.happens))
          (sym c.in-Some.is ∙ c.opened.ensures _ _ _ s.happens),
    )

pub returns-in-Some : goal.returns-in-Some
returns-in-Some c = λ h x s begins.
    absorbed s _ c.pass.new.self.current.items c.opened.result c.args.begins begins
    (left_items s _ _ c.remember.ensures.current (c.pass.ensures.current h x _ s.happens))
    (c.opened.ensures h x _ s.happens) (rw c.in-Some.is c.push.ensures.items)
    (c.pass.ensures.before ∙ c.remember.ensures.before)

pub returns-in-None : goal.returns-in-None
returns-in-None c = λ h x s begins.
    absorbed s _ c.pass.new.self.current.items c.opened.result c.args.begins begins
    (left_items s _ _ c.remember.ensures.current (c.pass.ensures.current h x _ s.happens))
    (c.opened.ensures h x _ s.happens) (rw c.in-None.is (sym (append-nil _)))
    (c.pass.ensures.before ∙ c.remember.ensures.before)
