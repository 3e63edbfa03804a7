use Rattle.std.proofs.Common.{sym, ap, ◌∙◌, arith, subst, [], ◌∷◌, ◌++◌, length, ◌≡◌, false}
use Rattle.std.proofs.lemmas.Bool.{both_ways}
use Rattle.fsb_count.proofs.Interface.{is_some-none}
use Rattle.fsb_signal.specs.declared.marks.Marks.{Marks}
use Rattle.fsb_trace.specs.At.{Trace}
use Rattle.fsb_rules.specs.Checker.{Stands as CheckerStands}
use Rattle.fsb_audit.specs.Audit.{Stands}
use Rattle.fsb_audit.proofs.Findings.{stands_full}
use Rattle.fsb_audit.proofs.Feeds.{absorb_stands, broken_stands, count_below, err_anyway, follows_now, found_stands}
use Rattle.fsb_audit.proofs.Feeds.{no_verdict, told_of}
use Rattle.fsb_audit.proofs.audit.Audit.feed.Goals.{then-is_none+in-Some, then-is_none+in-None+in_ok-absorb-in-None}
use Rattle.fsb_audit.proofs.audit.Audit.feed.Goals.{else-is_none}
use Rattle.fsb_audit.proofs.audit.Audit.feed.Goals as goal

pub returns-then-self-clause-stands : goal.returns-then-self-clause-stands
returns-then-self-clause-stands c = λ m h s. stands_full m c.args.self.now (h ++ c.args.sample.now ∷ []) c.if-self.true

pub returns-then-self-clause-full : goal.returns-then-self-clause-full
returns-then-self-clause-full c = c.if-self.true

pub coming-coming-requires : goal.coming-coming-requires
coming-coming-requires c = (
  c.requires.0,
  c.requires.1,
  (follows_now c.requires.0 c.args.self.now c.requires.1 c.requires.2 c.if-self.false
      c.if-is_none.ensures).checker,
  c.requires.3,
)

pub feed-requires : goal.feed-requires
feed-requires c = (
  c.requires.0,
  c.requires.1,
  (follows_now c.requires.0 c.args.self.now c.requires.1 c.requires.2 c.if-self.false
      c.if-is_none.ensures).checker,
  c.requires.3,
)

pub overflow_cast-self : goal.overflow_cast-self
overflow_cast-self c =
    let clock = (follows_now c.requires.0 c.args.self.now c.requires.1 c.requires.2 c.if-self.false
    c.if-is_none.ensures).clock in
    let few = c.requires.3 in
    omega arith

pub absorb-requires : goal.absorb-requires
absorb-requires c =
    count_below c.requires.0 c.args.self.now c.requires.1
    (follows_now c.requires.0 c.args.self.now c.requires.1 c.requires.2 c.if-self.false
    c.if-is_none.ensures) c.requires.3

pub returns-in_err-absorb-in-None-clause-stands : goal.returns-in_err-absorb-in-None-clause-stands
returns-in_err-absorb-in-None-clause-stands c = λ m h s.
    stands_full m c.absorb.new.self (h ++ c.args.sample.now ∷ []) c.in_err-absorb-in-None.ensures.full

pub returns-in_err-absorb-in-None-clause-full : goal.returns-in_err-absorb-in-None-clause-full
returns-in_err-absorb-in-None-clause-full c = err_anyway c.from_residual.result c.in_err-absorb-in-None.ensures.full

stands : (c : goal.After-result-1) (m : Marks) (h : Trace) → Stands c.args.self.now m h
    → Stands c.if-is_none.self m (h ++ c.args.sample.now ∷ [])
stands c m h s =
    elim c.if-is_none.branch [
      | then-is_none+in-Some w ↦
          let f = follows_now m c.args.self.now h s c.if-self.false w.if-is_none.ensures in
          broken_stands m c.args.self.now c.if-is_none.self h c.args.sample.now _ f
          (sym (w.feed.ensures.verdict m h f.checker) ∙ w.in-Some.is) (ap (λ a. a.found) w.self-is)
      | then-is_none+in-None+in_ok-absorb-in-None w ↦
          let f = follows_now m c.args.self.now h s c.if-self.false w.if-is_none.ensures in
          let sound = no_verdict m (h ++ c.args.sample.now ∷ []) _ (w.feed.ensures.verdict m h f.checker)
          w.in-None.is in
          let done = w.in_ok-absorb-in-None.ensures in
          subst (λ a. Stands a m (h ++ c.args.sample.now ∷ [])) (sym w.self-is)
          (absorb_stands m c.args.self.now w.absorb.new.self h c.args.sample.now w.coming-coming.result
          (is_some-none c.args.self.now.found w.if-is_none.ensures) f
          (record {
            checker = subst (λ k. CheckerStands k m (h ++ c.args.sample.now ∷ []))
                (sym w.absorb.ensures.checker) (w.feed.ensures.stands m h f.checker);
            clock = done.clock;
            first = done.first;
            asked = done.asked h f.first;
            from_memory = done.from_memory;
            count = done.count;
            moved = done.moved;
            found = done.found;
          })
          (told_of (h ++ c.args.sample.now ∷ []) (length h) w.coming-coming.result
          (w.coming-coming.ensures.some m h f.checker sound) (w.coming-coming.ensures.none m h f.checker sound))
          sound)
      | else-is_none w ↦
          subst (λ a. Stands a m (h ++ c.args.sample.now ∷ [])) (sym w.self-is)
          (found_stands m c.args.self.now h c.args.sample.now s c.if-self.false w.if-is_none.ensures)
    ]

room : (c : goal.After-result-1) → c.if-is_none.self.has_lacked_memory ≡ false
room c =
    elim c.if-is_none.branch [
      | then-is_none+in-Some w ↦ ap (λ a. a.has_lacked_memory) w.self-is ∙ c.if-self.false
      | then-is_none+in-None+in_ok-absorb-in-None w ↦ ap (λ a. a.has_lacked_memory) w.self-is
          ∙ w.in_ok-absorb-in-None.ensures.room ∙ c.if-self.false
      | else-is_none w ↦ ap (λ a. a.has_lacked_memory) w.self-is ∙ c.if-self.false
    ]

pub returns-clause-found : goal.returns-clause-found
returns-clause-found c = λ m h s. (stands c m h s).found (room c)

pub returns-clause-stands : goal.returns-clause-stands
returns-clause-stands c = stands c

pub returns-clause-memory : goal.returns-clause-memory
returns-clause-memory c = λ full. absurd (both_ways c.args.self.now.has_lacked_memory c.if-self.false full)

pub returns-clause-room : goal.returns-clause-room
returns-clause-room c = room c
