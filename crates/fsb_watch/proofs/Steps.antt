-- What was parsed and shown behind a piece, and at the end.
use Rattle.std.proofs.Common.{◌≡◌, ◌≤◌, ◌+◌, ◌-◌, ◌++◌, [], ℕ, List, nat_lt, Option, Some, None, Result, Ok, Err}
use Rattle.std.proofs.Common.{length, take, refl, sym, ap, subst, ◌∙◌, ◌^◌, inl, inr, arith}
use Rattle.std.proofs.lemmas.Bool.{cases_Bool, ltb-false}
use Rattle.std.proofs.lemmas.List.{length-append, append-nil, nil_from_length, take_all}
use Rattle.fsb_signal.specs.declared.marks.Marks.{Marks}
use Rattle.fsb_signal.specs.declared.sample.Sample.{Sample}
use Rattle.vcd_grammar.specs.declared.fault.VcdFault.{VcdFault}
use Rattle.vcd_grammar.specs.Reading.{first_fault, marks_of, marks_so_far, samples_so_far, samples_of}
use Rattle.vcd_grammar.proofs.Interface.{marks-whole}
use Rattle.vcd_read.specs.declared.stop.VcdStop.{VcdStop}
use Rattle.vcd_read.specs.declared.stop.VcdStop.TheVariants as stops
use Rattle.vcd_read.specs.Answers.{Answers, AppendsUpTo, stop_so_far, stop_at_end}
use Rattle.fsb_watch.specs.Watched.{IsBad, HasManySamples}
use Rattle.fsb_watch.specs.Watching.{MarksStay}
use Rattle.fsb_watch.proofs.Refusals.{refusal-stays, refusal-at_end, at_end-few, at_end-accepts, at_end-refuses}

-- a reader that answers Ok had not refused
pub not_refused : (o : Option VcdStop) (result : Result Unit VcdStop) → result ≡ Ok tt
    → ((stop : VcdStop) → o ≡ Some stop → result ≡ Err stop) → o ≡ None
not_refused None result e again = refl
not_refused (Some stop) result e again = absurd (let h : Ok tt ≡ Err stop = sym e ∙ again stop refl in
    let no : ⊥ = cc in no)

-- without a refusal few samples are decided
few_so_far : (limit : ℕ) (fed : List ℕ) → stop_so_far limit fed ≡ None → length (samples_so_far fed) ≤ limit
unfolding stop_so_far
few_so_far limit fed e =
    elim (cases_Bool (nat_lt limit (length (samples_so_far fed)))) [
      | inl t ↦ absurd (let h : Some stops.TooLong ≡ None = rw t at e in let no : ⊥ = cc in no)
      | inr f ↦ (let h = ltb-false limit (length (samples_so_far fed)) f in omega arith)
    ]

-- what a piece appended is what it decides
piece-samples : (limit : ℕ) (fed piece : List ℕ) (items : List Sample) → stop_so_far limit (fed ++ piece) ≡ None
    → AppendsUpTo (samples_so_far fed) (take limit (samples_so_far (fed ++ piece))) [] items
    → samples_so_far fed ++ items ≡ samples_so_far (fed ++ piece)
piece-samples limit fed piece items e h =
    ap (λ xs. samples_so_far fed ++ xs) h.appended ∙ h.complete
    ∙ take_all limit (samples_so_far (fed ++ piece)) (few_so_far limit (fed ++ piece) e)

piece-few : (limit : ℕ) (fed piece : List ℕ) (items : List Sample) → stop_so_far limit (fed ++ piece) ≡ None
    → AppendsUpTo (samples_so_far fed) (take limit (samples_so_far (fed ++ piece))) [] items
    → length (samples_so_far fed) + length items ≤ limit
piece-few limit fed piece items e h =
    let whole = piece-samples limit fed piece items e h in
    let size : length (samples_so_far fed) + length items ≡ length (samples_so_far (fed ++ piece)) =
    sym (length-append (samples_so_far fed) items) ∙ ap (λ xs. length xs) whole in
    omega (arith, few_so_far limit (fed ++ piece) e)

-- a piece that refused nothing: what it appended is what it decides
pub record Took (fed piece : List ℕ) (items : List Sample) : Type 0 where
  pub clear : stop_so_far (2 ^ 32 - 1) (fed ++ piece) ≡ None
  pub whole : samples_so_far fed ++ items ≡ samples_so_far (fed ++ piece)
  pub few : length (samples_so_far fed) + length items ≤ 2 ^ 32 - 1

took_now : (fed piece : List ℕ) (items : List Sample) → stop_so_far (2 ^ 32 - 1) (fed ++ piece) ≡ None
    → AppendsUpTo (samples_so_far fed) (take (2 ^ 32 - 1) (samples_so_far (fed ++ piece))) [] items
    → Took fed piece items
took_now fed piece items e h = record {
  clear = e;
  whole = piece-samples (2 ^ 32 - 1) fed piece items e h;
  few = piece-few (2 ^ 32 - 1) fed piece items e h;
}

pub took : (limit : ℕ) (fed piece : List ℕ) (before items : List Sample) → limit ≡ 2 ^ 32 - 1 → before ≡ []
    → stop_so_far limit (fed ++ piece) ≡ None
    → AppendsUpTo (samples_so_far fed) (take limit (samples_so_far (fed ++ piece))) before items → Took fed piece items
took limit fed piece before items same empty e h =
    took_now fed piece items (subst (λ (n : ℕ). stop_so_far n (fed ++ piece) ≡ None) same e)
    (subst (λ (xs : List Sample). AppendsUpTo (samples_so_far fed)
    (take (2 ^ 32 - 1) (samples_so_far (fed ++ piece))) xs items) empty
    (subst (λ (n : ℕ). AppendsUpTo (samples_so_far fed) (take n (samples_so_far (fed ++ piece))) before items) same h))

same_stop : (a b : VcdStop) (result : Result Unit VcdStop) → result ≡ Err a → result ≡ Err b → a ≡ b
same_stop a b result e f = cc

-- a refusal of a piece is right of all bytes so far
piece-refusal : (limit : ℕ) (fed piece : List ℕ) (o : Option VcdStop) (result : Result Unit VcdStop)
    (e : VcdStop) → o ≡ stop_so_far limit fed → result ≡ Err e
    → (o ≡ None → stop_so_far limit (fed ++ piece) ≡ Some e)
    → ((stop : VcdStop) → o ≡ Some stop → result ≡ Err stop) → stop_so_far limit (fed ++ piece) ≡ Some e
piece-refusal limit fed piece None result e h r first again = first refl
piece-refusal limit fed piece (Some stop) result e h r first again =
    refusal-stays limit fed piece e (sym h ∙ ap (λ s. Some s) (same_stop stop e result (again stop refl) r))

-- and so is one at the end
end-refusal : (limit : ℕ) (fed : List ℕ) (o : Option VcdStop) (result : Result Unit VcdStop) (e : VcdStop)
    → o ≡ stop_so_far limit fed → result ≡ Err e → (o ≡ None → stop_at_end limit fed ≡ Some e)
    → ((stop : VcdStop) → o ≡ Some stop → result ≡ Err stop) → stop_at_end limit fed ≡ Some e
end-refusal limit fed None result e h r first again = first refl
end-refusal limit fed (Some stop) result e h r first again =
    refusal-at_end limit fed e (sym h ∙ ap (λ s. Some s) (same_stop stop e result (again stop refl) r))

-- no refusal is none
pub not_both : (o : Option VcdStop) (e : VcdStop) → o ≡ Some e → o ≡ None → ⊥
not_both o e some none = cc

-- the end of a text without a refusal: what it appended is the rest of the trace
pub record Finished (fed : List ℕ) (items : List Sample) : Type 0 where
  pub clear : first_fault fed ≡ None
  pub whole : samples_so_far fed ++ items ≡ samples_of fed
  pub few : length (samples_so_far fed) + length items ≤ 2 ^ 32 - 1

finished_now : (fed : List ℕ) (items : List Sample) → stop_at_end (2 ^ 32 - 1) fed ≡ None
    → AppendsUpTo (samples_so_far fed) (samples_of fed) [] items → Finished fed items
finished_now fed items e h =
    let whole : samples_so_far fed ++ items ≡ samples_of fed = ap (λ xs. samples_so_far fed ++ xs) h.appended
    ∙ h.complete in
    let size : length (samples_so_far fed) + length items ≡ length (samples_of fed) =
    sym (length-append (samples_so_far fed) items) ∙ ap (λ xs. length xs) whole in
    record {
      clear = at_end-accepts (2 ^ 32 - 1) fed e;
      whole = whole;
      few = omega (arith, at_end-few (2 ^ 32 - 1) fed e);
    }

pub finished : (limit : ℕ) (fed : List ℕ) (before items : List Sample) → limit ≡ 2 ^ 32 - 1 → before ≡ []
    → stop_at_end limit fed ≡ None → AppendsUpTo (samples_so_far fed) (samples_of fed) before items → Finished fed items
finished limit fed before items same empty e h =
    finished_now fed items (subst (λ (n : ℕ). stop_at_end n fed ≡ None) same e)
    (subst (λ (xs : List Sample). AppendsUpTo (samples_so_far fed) (samples_of fed) xs items) empty h)

-- a fault at the end, and too many samples
pub is_bad_at_end : (text : List ℕ) (f : VcdFault) → stop_at_end (2 ^ 32 - 1) text ≡ Some (stops.Bad f) → IsBad text f
is_bad_at_end text f e =
    let h = at_end-refuses (2 ^ 32 - 1) text (stops.Bad f) e in record { first = h.1; few = h.0 }

pub has_many_at_end : (text : List ℕ) → stop_at_end (2 ^ 32 - 1) text ≡ Some stops.TooLong → HasManySamples text
has_many_at_end text e = at_end-refuses (2 ^ 32 - 1) text stops.TooLong e

-- a piece that refuses
pub refused_now : (limit : ℕ) (fed piece : List ℕ) (old new : Option VcdStop) (result : Result Unit VcdStop)
    (e : VcdStop) → limit ≡ 2 ^ 32 - 1 → old ≡ stop_so_far (2 ^ 32 - 1) fed → new ≡ Some e → result ≡ Err e
    → (old ≡ None → stop_so_far limit (fed ++ piece) ≡ Some e)
    → ((stop : VcdStop) → old ≡ Some stop → result ≡ Err stop) → new ≡ stop_so_far (2 ^ 32 - 1) (fed ++ piece)
refused_now limit fed piece old new result e same h n r first again =
    n ∙ sym (piece-refusal (2 ^ 32 - 1) fed piece old result e h r
    (λ none. subst (λ (m : ℕ). stop_so_far m (fed ++ piece) ≡ Some e) same (first none)) again)

-- the end, where it refuses
pub refused_end : (limit : ℕ) (fed : List ℕ) (old : Option VcdStop) (result : Result Unit VcdStop) (e : VcdStop)
    → limit ≡ 2 ^ 32 - 1 → old ≡ stop_so_far (2 ^ 32 - 1) fed → result ≡ Err e
    → (old ≡ None → stop_at_end limit fed ≡ Some e) → ((stop : VcdStop) → old ≡ Some stop → result ≡ Err stop)
    → stop_at_end (2 ^ 32 - 1) fed ≡ Some e
refused_end limit fed old result e same h r first again =
    end-refusal (2 ^ 32 - 1) fed old result e h r
    (λ none. subst (λ (m : ℕ). stop_at_end m fed ≡ Some e) same (first none)) again

-- a fault that is answered is the refusal
pub answers_bad : (e : VcdStop) (f : VcdFault) (stop : Option VcdStop) → e ≡ stops.Bad f
    → Answers {X = Unit} (Err e) stop → stop ≡ Some (stops.Bad f)
answers_bad e f stop same h =
    let k : Answers {X = Unit} (Err (stops.Bad f)) stop =
    subst (λ (x : VcdStop). Answers {X = Unit} (Err x) stop) same h in k

-- and so are too many samples
pub answers_long : (e : VcdStop) (stop : Option VcdStop) → e ≡ stops.TooLong → Answers {X = Unit} (Err e) stop
    → stop ≡ Some stops.TooLong
answers_long e stop same h =
    let k : Answers {X = Unit} (Err stops.TooLong) stop =
    subst (λ (x : VcdStop). Answers {X = Unit} (Err x) stop) same h in k

pub refused_same : (e g : VcdStop) (o : Option VcdStop) → e ≡ g → o ≡ Some g → o ≡ Some e
refused_same e g o same h = h ∙ ap (λ x. Some x) (sym same)

-- what is none, and then more, has no more
pub none_more : (xs ys zs : List Sample) → xs ++ ys ≡ zs → zs ≡ [] → ys ≡ []
none_more xs ys zs e f =
    nil_from_length ys (let size = length-append xs ys in
    let none : length (xs ++ ys) ≡ 0 = ap (λ s. length s) (e ∙ f) in omega arith)

-- the marks at the end are those of the first bytes
pub marks_at_end : (fed : List ℕ) (marks : Option Marks) → marks ≡ Some (marks_of fed)
    → MarksStay (marks_so_far fed) marks
marks_at_end fed marks e m f =
    e ∙ ap (λ t. Some t) (sym (ap marks_of (append-nil fed)) ∙ marks-whole fed [] m f)
