use Rattle.std.proofs.Common.{◌≡◌, ◌∙◌, None, refl, ℕ, List}
use Rattle.std.proofs.lemmas.Result.{on_ok_weaker}
use Rattle.vcd_grammar.specs.Reading.{marks_so_far, samples_so_far}
use Rattle.vcd_read.specs.Standing.{refusal_of}
use Rattle.fsb_watch.proofs.Showing.{piece_shows, stands_behind, stands_refused}
use Rattle.fsb_watch.proofs.Steps.{not_refused, Took, took, refused_now, refused_same, answers_bad, answers_long}
use Rattle.fsb_watch.proofs.pieces.Pieces.take.Goals as goal

pub show-requires : goal.show-requires
show-requires g c =
    let fed : List ℕ = c.requires.1 in
    let stood = c.requires.3 in
    let none : refusal_of c.args.self.now.reader ≡ None = not_refused _ _ refl c.in-Ok.ensures.again in
    let now : Took fed c.args.piece.now c.feed.new.to.items =
    took _ fed _ _ _ stood.parsed.limit c.clear.ensures.items (c.in-Ok.ensures.answer fed stood.parsed.reader none)
    (c.in-Ok.ensures.samples fed stood.parsed.reader none) in (
      c.requires.0,
      marks_so_far fed,
      samples_so_far fed,
      c.requires.2,
      piece_shows _ _ _ c.args.self.now _ fed c.args.piece.now stood refl refl none now
          (c.in-Ok.ensures.marks fed stood.parsed.reader none),
    )

pub returns-in-Ok : goal.returns-in-Ok
returns-in-Ok g c =
    on_ok_weaker c.show.result
    (λ shown first fed ready stood.
    let none : refusal_of c.args.self.now.reader ≡ None = not_refused _ _ refl c.in-Ok.ensures.again in
    let now : Took fed c.args.piece.now c.feed.new.to.items =
    took _ fed _ _ _ stood.parsed.limit c.clear.ensures.items (c.in-Ok.ensures.answer fed stood.parsed.reader none)
    (c.in-Ok.ensures.samples fed stood.parsed.reader none) in
    let marks = c.in-Ok.ensures.marks fed stood.parsed.reader none in
    stands_behind g.W.Watcher.has_seen first c.show.new.watcher _ c.show.new.self fed c.args.piece.now
    c.show.ensures.reader_stays (c.in-Ok.ensures.stands fed stood.parsed.reader)
    (c.in-Ok.ensures.limit ∙ stood.parsed.limit) c.in-Ok.ensures.refusal now marks
    (shown first (marks_so_far fed) (samples_so_far fed)
    (piece_shows g.W.Watcher.has_seen first c.args.watcher.now c.args.self.now _ fed c.args.piece.now stood refl
    refl none now marks)))
    c.show.ensures.shown

pub returns-in-Err-Bad : goal.returns-in-Err-Bad
returns-in-Err-Bad g c first fed ready stood =
    stands_refused _ _ _ _ _ _ (c.in-Err-Bad.ensures.stands fed stood.parsed.reader) (c.in-Err-Bad.ensures.limit
    ∙ stood.parsed.limit) c.in-Err-Bad.ensures.refusal
    (refused_now _ fed _ _ _ _ _ stood.parsed.limit stood.parsed.refused c.in-Err-Bad.ensures.refusal refl
    (λ none. refused_same _ _ _ c.in-Err-Bad.field-0-is
    (answers_bad _ _ _ c.in-Err-Bad.field-0-is (c.in-Err-Bad.ensures.answer fed stood.parsed.reader none)))
    c.in-Err-Bad.ensures.again)

pub returns-in-Err-TooLong : goal.returns-in-Err-TooLong
returns-in-Err-TooLong g c first fed ready stood =
    stands_refused _ _ _ _ _ _ (c.in-Err-TooLong.ensures.stands fed stood.parsed.reader)
    (c.in-Err-TooLong.ensures.limit ∙ stood.parsed.limit) c.in-Err-TooLong.ensures.refusal
    (refused_now _ fed _ _ _ _ _ stood.parsed.limit stood.parsed.refused c.in-Err-TooLong.ensures.refusal refl
    (λ none. refused_same _ _ _ c.in-Err-TooLong.field-0-is
    (answers_long _ _ c.in-Err-TooLong.field-0-is (c.in-Err-TooLong.ensures.answer fed stood.parsed.reader none)))
    c.in-Err-TooLong.ensures.again)
