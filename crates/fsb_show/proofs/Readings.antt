-- What reading a dump at once answers, and what it says of the text.
use Rattle.std.proofs.Common.{◌≡◌, ◌≤◌, ◌<◌, ◌+◌, ◌++◌, inl, inr, ℕ, List, [], Option, Some, None, length, Err, refl}
use Rattle.std.proofs.Common.{sym, ap, ◌∙◌, subst, arith, append-nil}
use Rattle.std.proofs.lemmas.Bool.{cases_lt, lt-ltb, le-ltb}
use Rattle.fsb_io.specs.Takes.{TakesAtMost}
use Rattle.fsb_signal.specs.declared.sample.Sample.{Sample}
use Rattle.vcd_grammar.specs.declared.fault.VcdFault.{VcdFault}
use Rattle.vcd_grammar.specs.Reading.{first_fault, samples_of}
use Rattle.vcd_read.specs.declared.stop.VcdStop.{VcdStop}
use Rattle.vcd_read.specs.declared.stop.VcdStop.TheVariants as causes
use Rattle.vcd_read.specs.Answers.{Answers, stop_of_dump, fault_or, long_or}
use Rattle.fsb_show.specs.declared.stop.ShowStop.{ShowStop}
use Rattle.fsb_show.specs.declared.stop.ShowStop.TheVariants as stops
use Rattle.fsb_show.specs.ShownDump.{IsLongDump, IsToldAs, IsReadToEnd}

-- an answer by what its stop is
pub answer_is : (X : Type 0) (r s : VcdStop) (stop : Option VcdStop) → r ≡ s → Answers {X = X} (Err r) stop
    → Answers {X = X} (Err s) stop
answer_is X r s stop e h = subst (λ (q : VcdStop). Answers {X = X} (Err q) stop) e h

few_of : (limit : ℕ) (samples : List Sample) → long_or limit samples None ≡ None → length samples ≤ limit
few_of limit samples e =
    elim (cases_lt limit (length samples)) [
      | inl more ↦ let many : Some causes.TooLong ≡ None = rw (lt-ltb limit (length samples) more) at e in absurd
          (let no : ⊥ = cc in no)
      | inr few ↦ few
    ]

-- a text without a refusal has few samples
pub few_samples : (text : List ℕ) → first_fault text ≡ None → stop_of_dump 200000 text ≡ None
    → length (samples_of text) ≤ 200000
unfolding stop_of_dump
few_samples text readable e = few_of 200000 (samples_of text) (let h = rw readable at e in h)

bad_of : (fault : Option VcdFault) (limit : ℕ) (samples : List Sample) (f : VcdFault)
    → fault_or fault (long_or limit samples None) ≡ Some (causes.Bad f) → fault ≡ Some f
bad_of None limit samples f e =
    elim (cases_lt limit (length samples)) [
      | inl more ↦ let many : Some causes.TooLong ≡ Some (causes.Bad f) = rw
          (lt-ltb limit (length samples) more) at e in absurd (let no : ⊥ = cc in no)
      | inr few ↦ let none : None ≡ Some (causes.Bad f) = rw (le-ltb limit (length samples) few) at e in absurd
          (let no : ⊥ = cc in no)
    ]
bad_of (Some g) limit samples f e = let h : g ≡ f = cc in ap (λ x. Some x) h

-- a text that is refused for a fault has it first
pub bad_text : (text : List ℕ) (f : VcdFault) → stop_of_dump 200000 text ≡ Some (causes.Bad f)
    → first_fault text ≡ Some f
unfolding stop_of_dump
bad_text text f e = bad_of (first_fault text) 200000 (samples_of text) f e

long_of : (fault : Option VcdFault) (limit : ℕ) (samples : List Sample)
    → fault_or fault (long_or limit samples None) ≡ Some causes.TooLong → (fault ≡ None) × (limit < length samples)
long_of None limit samples e =
    elim (cases_lt limit (length samples)) [
      | inl more ↦ (refl, more)
      | inr few ↦ let none : None ≡ Some causes.TooLong = rw (le-ltb limit (length samples) few) at e in absurd
          (let no : ⊥ = cc in no)
    ]
long_of (Some g) limit samples e = absurd (let no : ⊥ = cc in no)

-- a text that is refused for its length has no fault, and many samples
pub long_text : (text : List ℕ) → stop_of_dump 200000 text ≡ Some causes.TooLong → IsLongDump text
unfolding stop_of_dump
long_text text e =
    let h = long_of (first_fault text) 200000 (samples_of text) e in record { readable = h.0; many = h.1 }

-- the text that was read is all that was left
pub read_whole : (bytes text left : List ℕ) → bytes ≡ text → length bytes ≤ 268435456 → left ≡ []
    → IsReadToEnd text left
read_whole bytes text left e few all = record { short = subst (λ (b : List ℕ). length b ≤ 268435456) e few; all = all }

-- all of it was taken
pub took_all : (text left : List ℕ) → IsReadToEnd text left → TakesAtMost (268435456 + 1) text left
took_all text left whole = record {
  taken = text;
  whole = sym (ap (λ l. text ++ l) whole.all ∙ append-nil text);
  within = omega (arith, whole.short);
}

-- no more was taken
pub took_less : (old new : List ℕ) → TakesAtMost 268435456 old new → TakesAtMost (268435456 + 1) old new
took_less old new t = record { taken = t.taken; whole = t.whole; within = omega (arith, t.within) }

-- a stop says the same, whatever an answer would say
pub refused_alike : {X Y : Type 0} (is_as : X → List ℕ → Type 0) (other : Y → List ℕ
    → Type 0) (stop : ShowStop) (text left : List ℕ) → IsToldAs is_as (Err stop) text left
    → IsToldAs other (Err stop) text left
refused_alike is_as other stops.ReadFault text left h = h
refused_alike is_as other stops.Memory text left h = h
refused_alike is_as other (stops.Bad fault) text left h = h
refused_alike is_as other stops.TooLong text left h = h
