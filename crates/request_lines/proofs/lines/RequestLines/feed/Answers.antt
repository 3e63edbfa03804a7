use Rattle.std.proofs.Common.{◌∙◌, ◌++◌, ◌∷◌, [], sym, ap, refl}
use Rattle.row_texts.specs.declared.line.Form.{Form}
use Rattle.fsb_signal.specs.declared.marks.Marks.{Marks}
use Rattle.fsb_trace.specs.At.{Trace}
use Rattle.request_lines.specs.declared.lines.RequestLines.{RequestLines}
use Rattle.request_lines.specs.Standing.{IsSound, Stands}
use Rattle.request_lines.specs.Tables.{over_text}
use Rattle.request_lines.proofs.Sounds.{broken-over, broken-stands, none-of, room-of, short-of, sound-of, still-over, still-stands, weaker-if-ok, weaker-on-ok, table-whole}
use Rattle.request_lines.proofs.lines.RequestLines.feed.Goals as goal

pub returns-then-is_some-clause-stands : goal.returns-then-is_some-clause-stands
returns-then-is_some-clause-stands c = λ form m w s.
    still-stands c.args.self.now form m w c.args.sample.now s (sym c.if-is_some.ensures)

pub returns-then-is_some-clause-text : goal.returns-then-is_some-clause-text
returns-then-is_some-clause-text c = λ form m w s.
    still-over c.args.self.now form c.args.before m w c.args.sample.now s (sym c.if-is_some.ensures)
    ∙ ap (λ t. over_text form c.args.before m w ++ t) (sym c.new.ensures.items)

pub feed-requires : goal.feed-requires
feed-requires c =
    let x = c.args.self.now in
    let none = none-of x.found (sym c.if-is_some.ensures) in
    let (form, m, w, s) = c.requires.stands in
    (m, w, s.checker none, short-of x form m w s none (room-of x c.requires.room none))

pub returns-in-Some-clause-stands : goal.returns-in-Some-clause-stands
returns-in-Some-clause-stands c = λ form m w s.
    let x = c.args.self.now in
    let none = none-of x.found (sym c.if-is_some.ensures) in
    broken-stands x _ form m w c.args.sample.now c.in-Some.broken s none
    (sym c.in-Some.is ∙ c.feed.ensures.verdict m w (s.checker none)) refl refl refl

pub returns-in-Some-clause-text : goal.returns-in-Some-clause-text
returns-in-Some-clause-text c = λ form m w s.
    let x = c.args.self.now in
    let none = none-of x.found (sym c.if-is_some.ensures) in
    broken-over x form c.args.before m w c.args.sample.now c.in-Some.broken s none
    (sym c.in-Some.is ∙ c.feed.ensures.verdict m w (s.checker none))
    ∙ ap (λ t. over_text form c.args.before m w ++ t) (sym c.new-in-Some.ensures.items)

pub take-requires : goal.take-requires
take-requires c =
    let x = c.args.self.now in
    room-of x c.requires.room (none-of x.found (sym c.if-is_some.ensures))

pub returns-in-None-clause-stands : goal.returns-in-None-clause-stands
returns-in-None-clause-stands c =
    let x = c.args.self.now in
    let none = none-of x.found (sym c.if-is_some.ensures) in
    weaker-on-ok c.take.result _ _ (λ h form m w s.
    h form m w (sound-of x (record x { checker = c.feed.new.self }) form m w c.args.sample.now s none
    (sym c.in-None.is ∙ c.feed.ensures.verdict m w (s.checker none)) (c.feed.ensures.stands m w (s.checker none)) refl refl refl))
    c.take.ensures.stands

pub returns-in-None-clause-text : goal.returns-in-None-clause-text
returns-in-None-clause-text c =
    let x = c.args.self.now in
    let none = none-of x.found (sym c.if-is_some.ensures) in
    weaker-if-ok c.take.result _ _ (λ text h form m w s.
    h form m w (sound-of x (record x { checker = c.feed.new.self }) form m w c.args.sample.now s none
    (sym c.in-None.is ∙ c.feed.ensures.verdict m w (s.checker none)) (c.feed.ensures.stands m w (s.checker none)) refl refl refl))
    c.take.ensures.text
