use Rattle.std.proofs.Common.{◌∙◌, ◌++◌, List, Option, is_some, sym, ap, subst, arith}
use Rattle.std.proofs.lemmas.List.{length-append}
use Rattle.fsb_signal.specs.declared.marks.Marks.{Marks}
use Rattle.fsb_signal.specs.declared.sample.Sample.{Sample}
use Rattle.fsb_watch.specs.Watching.{IsShown}
use Rattle.fsb_watch.proofs.Showing.{is_ready_still}
use Rattle.fsb_watch.proofs.pieces.Pieces.show.Goals as goal

pub tell-requires : goal.tell-requires
tell-requires g c =
    is_ready_still g.W.Watcher.is_ready g.W.Watcher.has_seen c.requires.0 _ _ c.requires.1 c.requires.2
    c.requires.3 c.requires.4.told c.requires.4.shown

pub show-requires : goal.show-requires
show-requires g c =
    let can = c.requires.4 in (
      c.requires.0,
      c.requires.2,
      c.in_ok-tell.ensures c.requires.0 c.requires.1 c.requires.2 can.told can.shown
          (λ m e. c.marks-marks.ensures.told ∙ can.stays m e),
      (let e = c.as_slice.ensures.value in rw e (omega (arith, can.few))),
    )

pub returns-clause-shown : goal.returns-clause-shown
returns-clause-shown g c first before h can =
    let begun = c.in_ok-tell.ensures first before h can.told can.shown (λ m e. c.marks-marks.ensures.told
    ∙ can.stays m e) in
    let all = c.in_ok-show.ensures first h begun (λ n. c.as_slice.ensures.value
    ∙ can.none (sym c.marks-marks.ensures.told ∙ n)) in
    record {
      shown = subst (λ (m : Option Marks). IsShown g.W.Watcher.has_seen first c.show.new.watcher m
          (h ++ c.args.self.now.samples.items)) c.marks-marks.ensures.told
          (subst (λ (s : List Sample). IsShown g.W.Watcher.has_seen first c.show.new.watcher
          c.marks-marks.result (h ++ s)) c.as_slice.ensures.value all);
      told = c.is_some-self.ensures ∙ ap (λ m. is_some m) c.marks-marks.ensures.told;
      count = (let size = length-append h c.args.self.now.samples.items in
          omega (arith, size, can.count, c.len.ensures));
    }
