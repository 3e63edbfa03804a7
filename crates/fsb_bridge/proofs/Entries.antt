-- Each entry of a list that stands for the deferrals of a trace, and what a test finds among them.
use Rattle.std.proofs.Common.{ℕ, ◌≡◌, Bool, ◌&&◌, List, Option, Some, None, slice_index, sym, ◌∙◌}
use Rattle.std.specs.Option.{option_map}
use Rattle.std.specs.List.{find}
use Rattle.fsb_signal.specs.declared.lines.TheConstants.Lines.{HIT}
use Rattle.fsb_trace.specs.At.{Trace}
use Rattle.fsb_trace.specs.Requests.{live_count, live_request_of}
use Rattle.fsb_trace.specs.Snoop.{line_at_snoop_end}
use Rattle.fsb_trace.specs.Deferral.{is_answered, later_of}
use Rattle.fsb_count.specs.Clocks.{first_where}
use Rattle.fsb_bridge.specs.declared.deferral.Waiting.{Waiting}
use Rattle.fsb_bridge.specs.DeferralList.{AreEntriesOf, IsDeferralOf, IsThatOf, StandsFor, live_line_of}
use Rattle.fsb_bridge.specs.DeferralList.{request_number_of, response_before, waits, waiting_at}
use Rattle.fsb_bridge.proofs.Matched.{Alike, Matched, both-Matched, find-Matched, find-all_where, map-Matched}
use Rattle.fsb_bridge.proofs.Matched.{map-from_Matched}

-- the entry is that of live request i
pub record IsEntryOf (w : Trace) (turns : List ℕ) (c : ℕ) (e : Waiting) (i : ℕ) : Type 0 where
  pub deferral : IsDeferralOf w e.deferral i
  pub line : Some e.deferral.request.line ≡ live_line_of w i
  pub later : e.later ≡ later_of (slice_index turns i)
  pub answered : e.answered ≡ response_before w c i
  pub begun : e.begun ≡ is_answered w c i

pair-Matched : {X Y : Type 0} (R S : X → Y → Type 0) (xs : List X) (ys : List Y) → Matched R xs ys
    → Matched S xs ys → Matched (λ x y. R x y × S x y) xs ys
pair-Matched R S xs ys = both-Matched R S (λ x y. R x y × S x y) xs ys (λ x y h k. (h, k))

pub IsEntryOf-AreEntriesOf : (live : List ℕ) (list : List Waiting) (w : Trace) (turns : List ℕ) (c : ℕ)
    → AreEntriesOf live list w turns c → Matched (IsEntryOf w turns c) list live
IsEntryOf-AreEntriesOf live list w turns c h =
    let numbers = map-Matched (λ e. Some e.deferral.number) (request_number_of w) list live h.numbers in
    let requests = map-Matched (λ e. Some e.deferral.request) (live_request_of w) list live h.requests in
    let lines = map-Matched (λ e. Some e.deferral.request.line) (live_line_of w) list live h.lines in
    let shared = map-Matched (λ e. e.deferral.shared) (line_at_snoop_end HIT w) list live h.shared in
    let later = map-Matched (λ e. e.later) (λ i. later_of (slice_index turns i)) list live h.later in
    let answered = map-Matched (λ e. e.answered) (response_before w c) list live h.answered in
    let begun = map-Matched (λ e. e.begun) (is_answered w c) list live h.begun in
    both-Matched _ _ (IsEntryOf w turns c) list live
    (λ e i a b. record {
      deferral = record { number = sym a.0.0; request = sym a.0.1; shared = a.1 };
      line = b.0.0.0;
      later = b.0.0.1;
      answered = b.0.1;
      begun = b.1;
    })
    (pair-Matched _ _ list live (pair-Matched _ _ list live numbers requests) shared)
    (pair-Matched _ _ list live (pair-Matched _ _ list live (pair-Matched _ _ list live lines later) answered) begun)

pub IsEntryOf-StandsFor : (list : List Waiting) (w : Trace) (turns : List ℕ) (c : ℕ) → StandsFor list w turns c
    → Matched (IsEntryOf w turns c) list (waiting_at w turns c)
IsEntryOf-StandsFor list w turns c h = IsEntryOf-AreEntriesOf (waiting_at w turns c) list w turns c h

-- and a list whose entries are those of live requests is such a list
pub AreEntriesOf-IsEntryOf : (live : List ℕ) (list : List Waiting) (w : Trace) (turns : List ℕ) (c : ℕ)
    → Matched (IsEntryOf w turns c) list live → AreEntriesOf live list w turns c
AreEntriesOf-IsEntryOf live list w turns c h = record {
  numbers = map-from_Matched (IsEntryOf w turns c) _ _ list live (λ e i k. sym k.deferral.number) h;
  requests = map-from_Matched (IsEntryOf w turns c) _ _ list live (λ e i k. sym k.deferral.request) h;
  lines = map-from_Matched (IsEntryOf w turns c) _ _ list live (λ e i k. k.line) h;
  shared = map-from_Matched (IsEntryOf w turns c) _ _ list live (λ e i k. k.deferral.shared) h;
  later = map-from_Matched (IsEntryOf w turns c) _ _ list live (λ e i k. k.later) h;
  answered = map-from_Matched (IsEntryOf w turns c) _ _ list live (λ e i k. k.answered) h;
  begun = map-from_Matched (IsEntryOf w turns c) _ _ list live (λ e i k. k.begun) h;
}

that_of : (w : Trace) (turns : List ℕ) (c : ℕ) (o : Option Waiting) (p r : Option ℕ)
    → Alike (IsEntryOf w turns c) o p → p ≡ r → IsThatOf w (option_map (λ e. e.deferral) o) r
that_of w turns c None p r h e = sym e ∙ h
that_of w turns c (Some x) p r h e = (h.0, sym e ∙ h.1, h.2.deferral)

-- what a test finds in the list is of the least request that passes the same test and waits
pub find-StandsFor : (list : List Waiting) (w : Trace) (turns : List ℕ) (c : ℕ) (p : Waiting → Bool) (q : ℕ
    → Bool) (r : Option ℕ) → StandsFor list w turns c
    → ((e : Waiting) (i : ℕ) → IsEntryOf w turns c e i → p e ≡ q i)
    → first_where (λ i. q i && waits w turns c i) (live_count w) ≡ r
    → IsThatOf w (option_map (λ e. e.deferral) (find p list)) r
unfolding waiting_at
find-StandsFor list w turns c p q r h same e =
    that_of w turns c (find p list) (find q (waiting_at w turns c)) r
    (find-Matched (IsEntryOf w turns c) p q list (waiting_at w turns c) same (IsEntryOf-StandsFor list w turns c h))
    (find-all_where (waits w turns c) q (live_count w) ∙ e)
