use Rattle.std.proofs.Common.{◌≡◌, None, refl, sym, ℕ, List}
use Rattle.vcd_grammar.specs.Reading.{marks_so_far, samples_so_far}
use Rattle.vcd_read.specs.Standing.{refusal_of}
use Rattle.fsb_watch.proofs.Showing.{end_shows, seen_at_end}
use Rattle.fsb_watch.proofs.Steps.{not_refused, Finished, finished, refused_end, refused_same, answers_bad}
use Rattle.fsb_watch.proofs.Steps.{answers_long, is_bad_at_end, has_many_at_end}
use Rattle.fsb_watch.proofs.pieces.Pieces.end.Goals as goal

pub show-requires : goal.show-requires
show-requires g c =
    let fed : List ℕ = c.requires.1 in
    let stood = c.requires.3 in
    let none : refusal_of c.args.self.now.reader ≡ None = not_refused _ _ refl c.in-Ok.ensures.again in
    let now : Finished fed c.finish.new.to.items =
    finished _ fed _ _ stood.parsed.limit c.clear.ensures.items (c.in-Ok.ensures.answer fed stood.parsed.reader none)
    (c.in-Ok.ensures.samples fed stood.parsed.reader none) in (
      c.requires.0,
      marks_so_far fed,
      samples_so_far fed,
      c.requires.2,
      end_shows _ _ _ c.args.self.now _ fed stood refl refl none now (c.in-Ok.ensures.marks fed stood.parsed.reader),
    )

pub returns-in_ok-show-in-Ok : goal.returns-in_ok-show-in-Ok
returns-in_ok-show-in-Ok g c first fed ready stood =
    let none : refusal_of c.args.self.now.reader ≡ None = not_refused _ _ refl c.in-Ok.ensures.again in
    let now : Finished fed c.finish.new.to.items =
    finished _ fed _ _ stood.parsed.limit c.clear.ensures.items (c.in-Ok.ensures.answer fed stood.parsed.reader none)
    (c.in-Ok.ensures.samples fed stood.parsed.reader none) in
    let marks = c.in-Ok.ensures.marks fed stood.parsed.reader in
    seen_at_end g.W.Watcher.has_seen first c.show.new.watcher _ c.show.new.self fed now marks
    (c.in_ok-show-in-Ok.ensures.shown first (marks_so_far fed) (samples_so_far fed)
    (end_shows g.W.Watcher.has_seen first c.args.watcher.now c.args.self.now _ fed stood refl refl none now marks))

pub returns-in-Err-Bad : goal.returns-in-Err-Bad
returns-in-Err-Bad g c first fed ready stood =
    is_bad_at_end fed _
    (refused_same _ _ _ (sym c.in-Err-Bad.field-0-is)
    (refused_end _ fed _ _ _ stood.parsed.limit stood.parsed.refused refl
    (λ none. refused_same _ _ _ c.in-Err-Bad.field-0-is
    (answers_bad _ _ _ c.in-Err-Bad.field-0-is (c.in-Err-Bad.ensures.answer fed stood.parsed.reader none)))
    c.in-Err-Bad.ensures.again))

pub returns-in-Err-TooLong : goal.returns-in-Err-TooLong
returns-in-Err-TooLong g c first fed ready stood =
    has_many_at_end fed
    (refused_same _ _ _ (sym c.in-Err-TooLong.field-0-is)
    (refused_end _ fed _ _ _ stood.parsed.limit stood.parsed.refused refl
    (λ none. refused_same _ _ _ c.in-Err-TooLong.field-0-is
    (answers_long _ _ c.in-Err-TooLong.field-0-is (c.in-Err-TooLong.ensures.answer fed stood.parsed.reader none)))
    c.in-Err-TooLong.ensures.again))
