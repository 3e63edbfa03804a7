-- What a reader has refused with stays right of the whole text.
use Rattle.std.proofs.Common.{◌≡◌, ◌≤◌, ◌<◌, ◌++◌, ◌⊎◌, inl, inr, ℕ, List, true, nat_lt, Option, Some, None, length}
use Rattle.std.proofs.Common.{is_some, refl, ap, ◌∙◌, arith}
use Rattle.std.proofs.lemmas.Bool.{cases_Bool, lt-ltb, ltb-true, ltb-false, le-ltb}
use Rattle.fsb_signal.specs.declared.sample.Sample.{Sample}
use Rattle.vcd_grammar.specs.declared.fault.VcdFault.{VcdFault}
use Rattle.vcd_grammar.specs.Tokens.{Token, tokens_so_far, tokens_of, ended_at, open_run}
use Rattle.vcd_grammar.specs.Judging.{Mode, nothing, behind}
use Rattle.vcd_grammar.specs.Reading.{first_fault, fault_so_far, samples_so_far, samples_before_end, samples_of, or_cut}
use Rattle.vcd_read.specs.declared.stop.VcdStop.{VcdStop}
use Rattle.vcd_read.specs.declared.stop.VcdStop.TheVariants as stops
use Rattle.vcd_read.specs.Answers.{stop_so_far, stop_at_end, fault_or, long_or}
use Rattle.fsb_watch.proofs.MoreTokens.{decided, no_fewer, no_more, fault-stays, tokens_so_far-append}

-- why first bytes are refused: too many samples are decided; or there is a fault, with few before it
abbrev pub Refuses : ℕ → List Sample → Option VcdFault → VcdStop → Type 0
Refuses limit samples fault stops.TooLong = limit < length samples
Refuses limit samples fault (stops.Bad f) = (length samples ≤ limit) × (fault ≡ Some f)
Refuses limit samples fault stops.Memory = ⊥

refused-few : (limit : ℕ) (samples : List Sample) (fault : Option VcdFault) (stop : VcdStop)
    → length samples ≤ limit → fault_or fault None ≡ Some stop → Refuses limit samples fault stop
refused-few limit samples None stop few e = absurd (let no : ⊥ = cc in no)
refused-few limit samples (Some f) stops.TooLong few e = absurd (let no : ⊥ = cc in no)
refused-few limit samples (Some f) stops.Memory few e = absurd (let no : ⊥ = cc in no)
refused-few limit samples (Some f) (stops.Bad g) few e = (few, (let h : f ≡ g = cc in ap (λ x. Some x) h))

refused-many : (limit : ℕ) (samples : List Sample) (fault : Option VcdFault) (stop : VcdStop)
    → limit < length samples → Some stops.TooLong ≡ Some stop → Refuses limit samples fault stop
refused-many limit samples fault stops.TooLong many e = many
refused-many limit samples fault (stops.Bad f) many e = absurd (let no : ⊥ = cc in no)
refused-many limit samples fault stops.Memory many e = absurd (let no : ⊥ = cc in no)

refuses : (limit : ℕ) (samples : List Sample) (fault : Option VcdFault) (stop : VcdStop)
    → long_or limit samples (fault_or fault None) ≡ Some stop → Refuses limit samples fault stop
refuses limit samples fault stop e =
    elim (cases_Bool (nat_lt limit (length samples))) [
      | inl t ↦ refused-many limit samples fault stop (ltb-true limit (length samples) t) (rw t at e)
      | inr f ↦
          refused-few limit samples fault stop (let h = ltb-false limit (length samples) f in omega arith) (rw f at e)
    ]

refuses-back : (limit : ℕ) (samples : List Sample) (fault : Option VcdFault) (stop : VcdStop)
    (other : Option VcdStop) → Refuses limit samples fault stop
    → long_or limit samples (fault_or fault other) ≡ Some stop
refuses-back limit samples fault stops.TooLong other h = rw (lt-ltb limit (length samples) h) refl
refuses-back limit samples fault (stops.Bad f) other h = rw (h.1, le-ltb limit (length samples) h.0) refl
refuses-back limit samples fault stops.Memory other h = absurd h

some_fault : (k : Option VcdFault) (f : VcdFault) → k ≡ Some f → is_some k ≡ true
some_fault k f e = rw e refl

-- more tokens refuse in the same way
more-refuse : (limit : ℕ) (ts us : List Token) (stop : VcdStop)
    → Refuses limit (decided ts) (behind nothing ts).fault stop
    → Refuses limit (decided (ts ++ us)) (behind nothing (ts ++ us)).fault stop
more-refuse limit ts us stops.TooLong h = omega (arith, no_fewer ts us)
more-refuse limit ts us stops.Memory h = h
more-refuse limit ts us (stops.Bad f) h =
    let refused = some_fault (behind nothing ts).fault f h.1 in
    let same : length (decided (ts ++ us)) ≡ length (decided ts) = ap (λ ss. length ss) (no_more ts us refused) in
    (omega (arith, h.0), fault-stays ts us refused ∙ h.1)

-- a refusal stays, whatever else comes
pub refusal-stays : (limit : ℕ) (fed more : List ℕ) (stop : VcdStop) → stop_so_far limit fed ≡ Some stop
    → stop_so_far limit (fed ++ more) ≡ Some stop
unfolding stop_so_far samples_so_far fault_so_far
refusal-stays limit fed more stop e =
    let h = tokens_so_far-append fed more in
    let now = refuses limit (decided (tokens_so_far fed)) (behind nothing (tokens_so_far fed)).fault stop e in
    let later = more-refuse limit (tokens_so_far fed) h.0 stop now in
    refuses-back limit (decided (tokens_so_far (fed ++ more)))
    (behind nothing (tokens_so_far (fed ++ more))).fault stop None (rw (← h.1) at later)

or_cut-some : (fault : Option VcdFault) (mode : Mode) (place : ℕ) (f : VcdFault) → fault ≡ Some f
    → or_cut fault mode place ≡ Some f
or_cut-some fault mode place f e = rw e refl

at_end : (limit : ℕ) (text : List ℕ) (samples : List Sample) (fault : Option VcdFault) (stop : VcdStop)
    → Refuses limit samples fault stop → samples ≡ samples_before_end text
    → ((f : VcdFault) → fault ≡ Some f → first_fault text ≡ Some f) → stop_at_end limit text ≡ Some stop
unfolding stop_at_end
at_end limit text samples fault stops.TooLong h e g =
    refuses-back limit (samples_before_end text) (first_fault text) stops.TooLong
    (long_or limit (samples_of text) None) (rw e at h)
at_end limit text samples fault stops.Memory h e g = absurd h
at_end limit text samples fault (stops.Bad f) h e g =
    refuses-back limit (samples_before_end text) (first_fault text) (stops.Bad f)
    (long_or limit (samples_of text) None) ((rw e at h.0), g f h.1)

abbrev last_token : List ℕ → List Token
last_token text = ended_at (length text) (open_run text)

-- and at the end
pub refusal-at_end : (limit : ℕ) (text : List ℕ) (stop : VcdStop) → stop_so_far limit text ≡ Some stop
    → stop_at_end limit text ≡ Some stop
unfolding stop_so_far samples_so_far fault_so_far samples_before_end first_fault
refusal-at_end limit text stop e =
    let now = refuses limit (decided (tokens_so_far text)) (behind nothing (tokens_so_far text)).fault stop e in
    let later = more-refuse limit (tokens_so_far text) (last_token text) stop now in
    at_end limit text (decided (tokens_of text)) (behind nothing (tokens_of text)).fault stop later refl
    (λ f k. or_cut-some (behind nothing (tokens_of text)).fault (behind nothing (tokens_of text)).mode
    (length text) f k)

-- what a refusal at the end says: more samples than the limit are decided before the first fault, or by the whole
-- text; or
-- its first fault, with few samples before it
abbrev pub RefusesAtEnd : ℕ → List ℕ → VcdStop → Type 0
RefusesAtEnd limit text stops.TooLong =
    (limit < length (samples_before_end text)) ⊎ ((first_fault text ≡ None) × (limit < length (samples_of text)))
RefusesAtEnd limit text (stops.Bad f) = (length (samples_before_end text) ≤ limit) × (first_fault text ≡ Some f)
RefusesAtEnd limit text stops.Memory = ⊥

many_at_end : (limit : ℕ) (text : List ℕ) (stop : VcdStop) → limit < length (samples_before_end text)
    → Some stops.TooLong ≡ Some stop → RefusesAtEnd limit text stop
many_at_end limit text stops.TooLong many e = inl many
many_at_end limit text (stops.Bad f) many e = absurd (let no : ⊥ = cc in no)
many_at_end limit text stops.Memory many e = absurd (let no : ⊥ = cc in no)

many_in_all : (limit : ℕ) (text : List ℕ) (stop : VcdStop) → first_fault text ≡ None
    → limit < length (samples_of text) → Some stops.TooLong ≡ Some stop → RefusesAtEnd limit text stop
many_in_all limit text stops.TooLong none many e = inr (none, many)
many_in_all limit text (stops.Bad f) none many e = absurd (let no : ⊥ = cc in no)
many_in_all limit text stops.Memory none many e = absurd (let no : ⊥ = cc in no)

fault_at_end : (limit : ℕ) (text : List ℕ) (stop : VcdStop) (f : VcdFault)
    → length (samples_before_end text) ≤ limit → first_fault text ≡ Some f → Some (stops.Bad f) ≡ Some stop
    → RefusesAtEnd limit text stop
fault_at_end limit text (stops.Bad g) f few first e = (few, first ∙ (let h : f ≡ g = cc in ap (λ x. Some x) h))
fault_at_end limit text stops.TooLong f few first e = absurd (let no : ⊥ = cc in no)
fault_at_end limit text stops.Memory f few first e = absurd (let no : ⊥ = cc in no)

whole_at_end : (limit : ℕ) (text : List ℕ) (stop : VcdStop) → first_fault text ≡ None
    → long_or limit (samples_of text) None ≡ Some stop → RefusesAtEnd limit text stop
whole_at_end limit text stop none e =
    elim (cases_Bool (nat_lt limit (length (samples_of text)))) [
      | inl t ↦ many_in_all limit text stop none (ltb-true limit (length (samples_of text)) t) (rw t at e)
      | inr f ↦ absurd (let h : None ≡ Some stop = rw f at e in let no : ⊥ = cc in no)
    ]

few_at_end : (limit : ℕ) (text : List ℕ) (stop : VcdStop) (fault : Option VcdFault)
    → length (samples_before_end text) ≤ limit → first_fault text ≡ fault
    → fault_or fault (long_or limit (samples_of text) None) ≡ Some stop → RefusesAtEnd limit text stop
few_at_end limit text stop None few first e = whole_at_end limit text stop first e
few_at_end limit text stop (Some f) few first e = fault_at_end limit text stop f few first e

pub at_end-refuses : (limit : ℕ) (text : List ℕ) (stop : VcdStop) → stop_at_end limit text ≡ Some stop
    → RefusesAtEnd limit text stop
unfolding stop_at_end
at_end-refuses limit text stop e =
    elim (cases_Bool (nat_lt limit (length (samples_before_end text)))) [
      | inl t ↦ many_at_end limit text stop (ltb-true limit (length (samples_before_end text)) t) (rw t at e)
      | inr f ↦
          few_at_end limit text stop (first_fault text)
          (let h = ltb-false limit (length (samples_before_end text)) f in omega arith)
          refl (rw f at e)
    ]

-- without a refusal the text has no fault
no_fault : (limit : ℕ) (text : List ℕ) (fault : Option VcdFault) → first_fault text ≡ fault
    → fault_or fault (long_or limit (samples_of text) None) ≡ None → first_fault text ≡ None
no_fault limit text None first e = first
no_fault limit text (Some f) first e = absurd (let no : ⊥ = cc in no)

-- no more samples than the limit
few_in_all : (limit : ℕ) (text : List ℕ) → long_or limit (samples_of text) None ≡ None
    → length (samples_of text) ≤ limit
few_in_all limit text e =
    elim (cases_Bool (nat_lt limit (length (samples_of text)))) [
      | inl t ↦ absurd (let h : Some stops.TooLong ≡ None = rw t at e in let no : ⊥ = cc in no)
      | inr f ↦ (let h = ltb-false limit (length (samples_of text)) f in omega arith)
    ]

pub at_end-accepts : (limit : ℕ) (text : List ℕ) → stop_at_end limit text ≡ None → first_fault text ≡ None
unfolding stop_at_end
at_end-accepts limit text e =
    elim (cases_Bool (nat_lt limit (length (samples_before_end text)))) [
      | inl t ↦ absurd (let h : Some stops.TooLong ≡ None = rw t at e in let no : ⊥ = cc in no)
      | inr f ↦ no_fault limit text (first_fault text) refl (rw f at e)
    ]

few_of_accepted : (limit : ℕ) (text : List ℕ) (fault : Option VcdFault)
    → fault_or fault (long_or limit (samples_of text) None) ≡ None → length (samples_of text) ≤ limit
few_of_accepted limit text None e = few_in_all limit text e
few_of_accepted limit text (Some f) e = absurd (let no : ⊥ = cc in no)

pub at_end-few : (limit : ℕ) (text : List ℕ) → stop_at_end limit text ≡ None → length (samples_of text) ≤ limit
unfolding stop_at_end
at_end-few limit text e =
    elim (cases_Bool (nat_lt limit (length (samples_before_end text)))) [
      | inl t ↦ absurd (let h : Some stops.TooLong ≡ None = rw t at e in let no : ⊥ = cc in no)
      | inr f ↦ few_of_accepted limit text (first_fault text) (rw f at e)
    ]
