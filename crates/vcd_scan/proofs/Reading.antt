-- What further tokens make of a value reader.
use Rattle.std.proofs.Common.{◌≡◌, ℕ, ◌+◌, ◌-◌, true, if◌then◌else◌, is_some, List, [], ◌∷◌, ◌++◌, length, take, drop}
use Rattle.std.proofs.Common.{refl, sym, ap, ◌∙◌, arith, append_assoc, append-nil}
use Rattle.std.proofs.lemmas.List.{append_cancel_left, take-append-drop, take-take, drop-take, take_rest}
use Rattle.vcd_grammar.specs.Tokens.{Token, tokens_so_far, tokens_of, tokens_from, open_run, open_run_from, ended_at}
use Rattle.vcd_grammar.proofs.Interface.{tokens-append}
use Rattle.vcd_way.specs.Ways.{ValueRules, Way}
use Rattle.vcd_way.specs.Steps.{DumpState, step, reads_past, step_at, state_after, happenings_in}
use Rattle.vcd_way.specs.Events.{DumpEvent}
use Rattle.vcd_way.proofs.Interface.{state-append, tokens_longer, fault-behind}
use Rattle.vcd_course.specs.Opening.{after_happenings, told_in}
use Rattle.vcd_course.proofs.Interface.{after-append, told-append}
use Rattle.vcd_scan.specs.Wired.{Wiring, wired}
use Rattle.vcd_scan.specs.Begun.{begun}
use Rattle.vcd_scan.specs.Standing.{first_open_of, tokens_after, last_tokens_after, known_after, open_after, told_after, Appends}

-- ---- tokens

pub happenings-append : {W : Type 0} (way : Way W) (s : DumpState W) (ts us : List Token)
    → happenings_in way s (ts ++ us) ≡ happenings_in way s ts ++ happenings_in way (state_after way s ts) us
happenings-append way s [] us = refl
happenings-append way s (t ∷ ts) us =
    ap (λ hs. (step way s t).happenings ++ hs) (happenings-append way (step way s t).state ts us)
    ∙ sym (append_assoc (step way s t).happenings (happenings_in way (step way s t).state ts)
    (happenings_in way (state_after way (step way s t).state ts) us))

fault-step-state : {W : Type 0} (way : Way W) (s : DumpState W) (t : Token) → is_some s.fault ≡ true
    → step way s t ≡ reads_past s
unfolding step
fault-step-state way s t h = ap (λ b. if b then reads_past s else step_at way s.spot s t) h

-- after a fault nothing happens
pub fault-quiet : {W : Type 0} (way : Way W) (s : DumpState W) (ts : List Token) → is_some s.fault ≡ true
    → happenings_in way s ts ≡ []
fault-quiet way s [] h = refl
fault-quiet way s (t ∷ ts) h =
    ap (λ y. y.happenings ++ happenings_in way y.state ts) (fault-step-state way s t h) ∙ fault-quiet way s ts h

-- the tokens behind a header, where some more count
pub more_tokens : (head fed xs : List ℕ) (ts : List Token)
    → tokens_so_far ((head ++ fed) ++ xs) ≡ tokens_so_far (head ++ fed) ++ ts
    → tokens_after head (fed ++ xs) ≡ tokens_after head fed ++ ts
more_tokens head fed xs ts h =
    append_cancel_left (tokens_so_far head) (tokens_after head (fed ++ xs)) (tokens_after head fed ++ ts)
    (sym (tokens_longer head (fed ++ xs))
    ∙ ap tokens_so_far (sym (append_assoc head fed xs))
    ∙ h
    ∙ ap (λ us. us ++ ts) (tokens_longer head fed)
    ∙ append_assoc (tokens_so_far head) (tokens_after head fed) ts)

-- the tokens of a longer text
pub rest_tokens : (head fed xs : List ℕ)
    → tokens_after head (fed ++ xs)
    ≡ tokens_after head fed ++ tokens_from (length head + length fed) (open_run_from (open_run head) fed) xs
rest_tokens head fed xs = tokens-append (length head) (open_run head) fed xs

-- ---- what they make

pub known-append : (m : ValueRules) (w : Wiring) (ts us : List Token)
    → known_after m w (ts ++ us) ≡ state_after (wired m) (known_after m w ts) us
known-append m w ts us = state-append (wired m) (begun w) ts us

pub open-tokens : (m : ValueRules) (w : Wiring) (ts us : List Token)
    → open_after m w (ts ++ us)
    ≡ after_happenings (open_after m w ts) (happenings_in (wired m) (known_after m w ts) us)
open-tokens m w ts us =
    ap (after_happenings (first_open_of w)) (happenings-append (wired m) (begun w) ts us)
    ∙ after-append (first_open_of w) (happenings_in (wired m) (begun w) ts) (happenings_in (wired m) (known_after m w ts) us)

pub told-tokens : (m : ValueRules) (w : Wiring) (ts us : List Token)
    → told_after m w (ts ++ us)
    ≡ told_after m w ts ++ told_in m (open_after m w ts) (happenings_in (wired m) (known_after m w ts) us)
told-tokens m w ts us =
    ap (told_in m (first_open_of w)) (happenings-append (wired m) (begun w) ts us)
    ∙ told-append m (first_open_of w) (happenings_in (wired m) (begun w) ts) (happenings_in (wired m) (known_after m w ts) us)

-- after a fault they make nothing
pub known-faulty : (m : ValueRules) (w : Wiring) (ts us : List Token) → is_some (known_after m w ts).fault ≡ true
    → known_after m w (ts ++ us) ≡ known_after m w ts
known-faulty m w ts us h = known-append m w ts us ∙ fault-behind (wired m) (known_after m w ts) us h

pub told-faulty : (m : ValueRules) (w : Wiring) (ts us : List Token) → is_some (known_after m w ts).fault ≡ true
    → told_after m w (ts ++ us) ≡ told_after m w ts
told-faulty m w ts us h =
    told-tokens m w ts us
    ∙ ap (λ hs. told_after m w ts ++ told_in m (open_after m w ts) hs) (fault-quiet (wired m) (known_after m w ts) us h)
    ∙ append-nil (told_after m w ts)

-- ---- bytes of a piece

pub take_add : (m n : ℕ) (xs : List ℕ) → take (m + n) xs ≡ take m xs ++ take n (drop m xs)
take_add m n xs =
    sym (take-append-drop m (take (m + n) xs))
    ∙ (λ i. take-take m (m + n) xs (omega arith) i ++ drop-take m n xs i)

-- so many first bytes, and so many of the rest
pub two_parts : (piece : List ℕ) (used len : ℕ)
    → take (used + len) piece ≡ take used piece ++ take len (take (length piece - used) (drop used piece))
two_parts piece used len =
    take_add used len piece ∙ ap (λ x. take used piece ++ take len x) (sym (take_rest piece used))

pub more_of : (fed piece : List ℕ) (used len : ℕ)
    → (fed ++ take used piece) ++ take len (take (length piece - used) (drop used piece))
    ≡ fed ++ take (used + len) piece
more_of fed piece used len =
    ap (λ x. (fed ++ take used piece) ++ take len x) (take_rest piece used)
    ∙ append_assoc fed (take used piece) (take len (drop used piece))
    ∙ ap (λ x. fed ++ x) (sym (take_add used len piece))

pub whole_of : (fed piece : List ℕ) (used : ℕ) → fed ++ piece ≡ (fed ++ take used piece) ++ drop used piece
whole_of fed piece used =
    sym (append_assoc fed (take used piece) (drop used piece) ∙ ap (λ x. fed ++ x) (take-append-drop used piece))

-- ---- what was appended

pub appends_nothing : (told now : List DumpEvent) → Appends told told now now
appends_nothing told now =
    record { added = []; appended = sym (append-nil now); complete = sym (append-nil told) }

pub appends_more : (first middle last old between new : List DumpEvent) → Appends first middle old between
    → Appends middle last between new → Appends first last old new
appends_more first middle last old between new p q = record {
  added = p.added ++ q.added;
  appended = q.appended ∙ ap (λ x. x ++ q.added) p.appended ∙ append_assoc old p.added q.added;
  complete = q.complete ∙ ap (λ x. x ++ q.added) p.complete ∙ append_assoc first p.added q.added;
}

-- ---- the last token

pub last_tokens : (head fed : List ℕ) (ts : List Token) → tokens_of (head ++ fed) ≡ tokens_so_far (head ++ fed) ++ ts
    → last_tokens_after head fed ≡ tokens_after head fed ++ ts
last_tokens head fed ts h =
    ap (λ us. tokens_after head fed ++ us) (append_cancel_left (tokens_so_far (head ++ fed))
    (ended_at (length (head ++ fed)) (open_run (head ++ fed))) ts h)
