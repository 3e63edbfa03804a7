-- What is shown of the samples of a piece, and of the end.
use Rattle.std.proofs.Common.{◌≡◌, ◌-◌, ◌^◌, ◌++◌, [], ℕ, Bool, true, false, List, Option, Some, None}
use Rattle.std.proofs.Common.{is_some, length, refl, sym, ap, subst, ◌∙◌, arith}
use Rattle.fsb_signal.specs.declared.marks.Marks.{Marks}
use Rattle.fsb_signal.specs.declared.sample.Sample.{Sample}
use Rattle.std.proofs.lemmas.List.{length-append}
use Rattle.vcd_grammar.specs.Reading.{marks_of, marks_so_far, samples_so_far, samples_of}
use Rattle.vcd_grammar.proofs.Interface.{marks-first, marks-longer}
use Rattle.vcd_read.specs.Answers.{stop_so_far}
use Rattle.vcd_read.specs.Standing.{Stands, refusal_of, limit_of, marks_told}
use Rattle.vcd_read.specs.declared.reader.Reader.{Reader}
use Rattle.vcd_read.specs.declared.stop.VcdStop.{VcdStop}
use Rattle.fsb_watch.specs.declared.pieces.Pieces.{Pieces}
use Rattle.fsb_watch.specs.Watched.{IsSeen}
use Rattle.fsb_watch.specs.Watching.{CanShow, HasShown, IsShown, MarksStay, Parsed, Stood}
use Rattle.fsb_watch.proofs.Steps.{Took, Finished, none_more, marks_at_end, not_both}

-- a watcher that was told the marks keeps them
pub told_before : {W : Type 0} (seen : W → W → Marks → List Sample
    → Type 0) (first now : W) (before marks : Option Marks) (h : List Sample) → true ≡ is_some before
    → IsShown seen first now before h → MarksStay before marks → IsShown seen first now marks h
told_before seen first now None marks h e shown stay = absurd (let no : ⊥ = cc in no)
told_before seen first now (Some m) marks h e shown stay =
    let same : marks ≡ Some m = stay m refl in
    rw same shown

-- one that was not told them is as it was
pub not_told : {W : Type 0} (seen : W → W → Marks → List Sample
    → Type 0) (first now : W) (before : Option Marks) (h : List Sample) → false ≡ is_some before
    → IsShown seen first now before h → (now ≡ first) × (h ≡ [])
not_told seen first now None h e shown = shown
not_told seen first now (Some m) h e shown = absurd (let no : ⊥ = cc in no)

-- it is ready then
pub is_ready_still : {W : Type 0} (ready : W → Type 0) (seen : W → W → Marks → List Sample
    → Type 0) (first now : W) (told : Bool) (before : Option Marks) (h : List Sample) → ready first
    → told ≡ is_some before → IsShown seen first now before h → told ≡ false → ready now
is_ready_still ready seen first now told before h r e shown f =
    let as_it_was = not_told seen first now before h (sym f ∙ e) shown in
    subst (λ (w : _). ready w) (sym as_it_was.0) r

-- what a piece decides can be shown
pub piece_shows : {W : Type 0} (seen : W → W → Marks → List Sample
    → Type 0) (first now : W) (old p : Pieces) (fed piece : List ℕ) → Stood seen first now old fed
    → p.told ≡ old.told → p.shown ≡ old.shown → refusal_of old.reader ≡ None → Took fed piece p.samples.items
    → marks_told p.reader ≡ marks_so_far (fed ++ piece)
    → CanShow seen first now p (marks_so_far fed) (samples_so_far fed)
piece_shows seen first now old p fed piece stood told shown none took marks = record {
  shown = stood.shown none;
  told = told ∙ stood.parsed.told none;
  count = shown ∙ stood.parsed.count none;
  stays = λ m e. marks ∙ marks-longer fed piece m e;
  none = λ n. none_more (samples_so_far fed) p.samples.items (samples_so_far (fed ++ piece)) took.whole
      (marks-first (fed ++ piece) (sym marks ∙ n));
  few = took.few;
}

-- behind a piece that was shown these bytes are taken
pub stands_behind : {W : Type 0} (seen : W → W → Marks → List Sample
    → Type 0) (first now : W) (p after : Pieces) (fed piece : List ℕ) → after.reader ≡ p.reader
    → Stands p.reader (fed ++ piece) → limit_of p.reader ≡ 2 ^ 32 - 1 → refusal_of p.reader ≡ None
    → Took fed piece p.samples.items → marks_told p.reader ≡ marks_so_far (fed ++ piece)
    → HasShown seen first now p after (samples_so_far fed) → Stood seen first now after (fed ++ piece)
stands_behind seen first now p after fed piece e stands limit none took marks has = record {
  parsed = record {
    reader = subst (λ (r : Reader). Stands r (fed ++ piece)) (sym e) stands;
    limit = ap (λ r. limit_of r) e ∙ limit;
    refused = ap (λ r. refusal_of r) e ∙ none ∙ sym took.clear;
    told = λ n. has.told ∙ ap (λ m. is_some m) marks;
    count = λ n. has.count ∙ ap (λ s. length s) took.whole;
  };
  shown = λ n. subst (λ (m : Option Marks). IsShown seen first now m (samples_so_far (fed ++ piece))) marks
      (subst (λ (s : List Sample). IsShown seen first now (marks_told p.reader) s) took.whole has.shown);
}

-- behind a piece that was refused too
pub stands_refused : {W : Type 0} (seen : W → W → Marks → List Sample
    → Type 0) (first now : W) (p : Pieces) (text : List ℕ) (e : VcdStop) → Stands p.reader text
    → limit_of p.reader ≡ 2 ^ 32 - 1 → refusal_of p.reader ≡ Some e
    → refusal_of p.reader ≡ stop_so_far (2 ^ 32 - 1) text → Stood seen first now p text
stands_refused seen first now p text e stands limit some refused = record {
  parsed = record {
    reader = stands;
    limit = limit;
    refused = refused;
    told = λ none. absurd (not_both (refusal_of p.reader) e some none);
    count = λ none. absurd (not_both (refusal_of p.reader) e some none);
  };
  shown = λ none. absurd (not_both (refusal_of p.reader) e some none);
}

-- what the end decides can be shown
pub end_shows : {W : Type 0} (seen : W → W → Marks → List Sample
    → Type 0) (first now : W) (old p : Pieces) (fed : List ℕ) → Stood seen first now old fed → p.told ≡ old.told
    → p.shown ≡ old.shown → refusal_of old.reader ≡ None → Finished fed p.samples.items
    → marks_told p.reader ≡ Some (marks_of fed) → CanShow seen first now p (marks_so_far fed) (samples_so_far fed)
end_shows seen first now old p fed stood told shown none finished marks = record {
  shown = stood.shown none;
  told = told ∙ stood.parsed.told none;
  count = shown ∙ stood.parsed.count none;
  stays = marks_at_end fed (marks_told p.reader) marks;
  none = λ n. absurd (let no : ⊥ = cc in no);
  few = finished.few;
}

-- once it was shown, the whole trace was seen
pub seen_at_end : {W : Type 0} (seen : W → W → Marks → List Sample
    → Type 0) (first now : W) (p after : Pieces) (fed : List ℕ) → Finished fed p.samples.items
    → marks_told p.reader ≡ Some (marks_of fed) → HasShown seen first now p after (samples_so_far fed)
    → IsSeen (seen first now) after.shown fed
seen_at_end seen first now p after fed finished marks has = record {
  marks = marks_of fed;
  trace = samples_of fed;
  reads = (finished.clear, refl, refl);
  clocks_are = has.count ∙ ap (λ s. length s) finished.whole;
  few = (let size = length-append (samples_so_far fed) p.samples.items in
      let whole : length (samples_so_far fed ++ p.samples.items) ≡ length (samples_of fed) =
      ap (λ s. length s) finished.whole in
      omega (arith, finished.few));
  seen_all = (let all : IsShown seen first now (Some (marks_of fed)) (samples_of fed) =
      subst (λ (m : Option Marks). IsShown seen first now m (samples_of fed)) marks
      (subst (λ (s : List Sample). IsShown seen first now (marks_told p.reader) s) finished.whole has.shown) in all);
}

-- before the first byte nothing was seen
pub stands_first : {W : Type 0} (seen : W → W → Marks → List Sample → Type 0) (first : W) (p : Pieces)
    → Parsed p [] → Stood seen first first p []
unfolding marks_so_far samples_so_far
stands_first seen first p parsed = record { parsed = parsed; shown = λ none. (refl, refl) }
