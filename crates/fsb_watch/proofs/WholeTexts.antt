-- What is read of the text that was left.
use Rattle.std.proofs.Common.{◌≡◌, ◌≤◌, ◌+◌, ◌^◌, ◌++◌, [], ℕ, Bool, IsTrue, List, Result, Ok, Err, length, drop, inl}
use Rattle.std.proofs.Common.{inr, refl, sym, ap, subst, ◌∙◌, arith}
use Rattle.std.proofs.lemmas.List.{length-append, append-nil, append_assoc, nil_from_length}
use Rattle.std.proofs.Math.Seq.{drop-append_seam}
use Rattle.fsb_io.specs.Takes.{TakesAtMost}
use Rattle.fsb_signal.specs.declared.marks.Marks.{Marks}
use Rattle.fsb_signal.specs.declared.sample.Sample.{Sample}
use Rattle.fsb_watch.specs.declared.stop.DumpStop.{DumpStop}
use Rattle.fsb_watch.specs.declared.stop.DumpStop.TheVariants as stops
use Rattle.fsb_watch.specs.Watched.{IsReadWhole, IsReadAs, IsSeen}
use Rattle.fsb_watch.specs.Watching.{HasTaken, Ends, IsStopOfReading}

-- a text that was read to its end
pub read_whole : (seen : Marks → List Sample → Type 0) (result : Result ℕ DumpStop) (text left : List ℕ)
    → IsReadWhole text left → Ends seen result text → IsReadAs (IsSeen seen) result text left
read_whole seen (Ok clocks) text left read h = (read, h)
read_whole seen (Err (stops.Bad fault)) text left read h = (read, h)
read_whole seen (Err stops.TooLong) text left read h = inr (read, h)
read_whole seen (Err stops.Memory) text left read h =
    record {
      taken = text;
      whole = sym (ap (λ xs. text ++ xs) read.all ∙ append-nil text);
      within = omega (arith, read.short);
    }
read_whole seen (Err stops.ReadFault) text left read h = tt

-- a stop of reading says nothing of the text
pub read_not : {X : Type 0} (is_as : X → List ℕ → Type 0) (stop : DumpStop) (text left : List ℕ)
    → IsStopOfReading stop → (stop ≡ stops.Memory → TakesAtMost (2 ^ 40 + 1) text left)
    → IsReadAs is_as (Err stop) text left
read_not is_as stops.ReadFault text left h m = tt
read_not is_as stops.Memory text left h m = m refl
read_not is_as (stops.Bad fault) text left h m = absurd h
read_not is_as stops.TooLong text left h m = absurd h

-- a refusal says the same of a text, whatever Ok would say
pub refused_alike : {X Y : Type 0} (is_as : X → List ℕ → Type 0) (other : Y → List ℕ
    → Type 0) (stop : DumpStop) (text left : List ℕ) → IsReadAs is_as (Err stop) text left
    → IsReadAs other (Err stop) text left
refused_alike is_as other stops.ReadFault text left h = h
refused_alike is_as other stops.Memory text left h = h
refused_alike is_as other (stops.Bad fault) text left h = h
refused_alike is_as other stops.TooLong text left h = h

-- what was taken before, and the last piece
pub takes_so_far : (text fed left now : List ℕ) (most : ℕ) → text ≡ fed ++ left → TakesAtMost most left now
    → length fed + most ≤ 2 ^ 40 + 1 → TakesAtMost (2 ^ 40 + 1) text now
takes_so_far text fed left now most e t l =
    record {
      taken = fed ++ t.taken;
      whole = e ∙ ap (λ xs. fed ++ xs) t.whole ∙ sym (append_assoc fed t.taken now);
      within = (let size = length-append fed t.taken in omega (arith, size, l, t.within));
    }

-- a text that is too long
pub read_past : {X : Type 0} (is_as : X → List ℕ → Type 0) (fed text left : List ℕ) → text ≡ fed ++ left
    → length fed ≡ 2 ^ 40 + 1 → IsReadAs is_as (Err stops.TooLong) text left
read_past is_as fed text left e size =
    let whole : length text ≡ length fed + length left = ap (λ xs. length xs) e ∙ length-append fed left in
    inl (record {
      long = omega arith;
      rest = sym (drop-append_seam fed left) ∙ ap (λ n. drop n (fed ++ left)) size
          ∙ ap (λ xs. drop (2 ^ 40 + 1) xs) (sym e);
    })

-- nothing came: all was taken before
pub taken_all : (stood : List ℕ → Type 0) (fed left now : List ℕ) (count : ℕ) (tells : Bool)
    → HasTaken stood fed left now count tells → count ≡ 0 → stood fed
taken_all stood fed left now count tells h e =
    subst (λ (xs : List ℕ). stood xs)
    (ap (λ bytes. fed ++ bytes) (nil_from_length h.bytes (h.size ∙ e)) ∙ append-nil fed) h.stands

-- the text that was left is what was taken, and then what is left now
pub taken_more : (text fed bytes left now : List ℕ) → text ≡ fed ++ left → left ≡ bytes ++ now
    → text ≡ (fed ++ bytes) ++ now
taken_more text fed bytes left now e f = e ∙ ap (λ xs. fed ++ xs) f ∙ sym (append_assoc fed bytes now)

-- nothing came, and nothing is left: all of the text was taken
pub read_end : (stood : List ℕ → Type 0) (seen : Marks → List Sample
    → Type 0) (result : Result ℕ DumpStop) (text fed left now : List ℕ) (count : ℕ) (tells : Bool)
    → IsTrue tells → HasTaken stood fed left now count tells → count ≡ 0 → now ≡ [] → text ≡ fed ++ left
    → length fed ≤ 2 ^ 40 → Ends seen result fed → IsReadAs (IsSeen seen) result text now
read_end stood seen result text fed left now count tells t h zero none e few found =
    let same : text ≡ fed =
    e ∙ ap (λ xs. fed ++ xs) (h.read t ∙ ap (λ xs. xs ++ now) (nil_from_length h.bytes (h.size ∙ zero)) ∙ none)
    ∙ append-nil fed in
    read_whole seen result text now
    (record { short = (let size = ap (λ xs. length xs) same in omega arith); all = none })
    (subst (λ (xs : List ℕ). Ends seen result xs) (sym same) found)

-- the end of a text is no fault of the source
pub no_read_fault : (seen : Marks → List Sample → Type 0) (result : Result ℕ DumpStop) (text : List ℕ)
    → result ≡ Err stops.ReadFault → Ends seen result text → ⊥
no_read_fault seen result text e h =
    let no : Ends seen (Err stops.ReadFault) text = subst (λ (r : Result ℕ DumpStop). Ends seen r text) e h in no
