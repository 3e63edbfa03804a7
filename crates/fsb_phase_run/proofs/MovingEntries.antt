-- The entry of a request whose data move, and what it has at the new clock.
use Rattle.fsb_phase_run.proofs.Words
use Words.{ℕ, ◌+◌, ◌*◌, ◌<◌, ◌≤◌, ◌≡◌, Bool, true, false, not, ◌&&◌, if◌then◌else◌, nat_le, nat_lt, Option, Some, None}
use Words.{List, length, is_some, refl, sym, ap, ◌∙◌, arith, inl, inr, subst, option_and_then, and_parts, and_right}
use Words.{cases_Bool, ltb-true, is_before, is_some_and, is_before-none, is_before-parts, does_move, response_clock_of}
use Words.{end_of, snoop_end_of, chunk_from, is_busy_from, end_of-response, response_clock_of-stays, snoop_end_of-clock}
use Words.{Entry, due_chunk, is_moving, keeps_busy, response_to_now, GrowsTo, Run, past_of, live_choice, has_data_at}
use Words.{is_busy_at, settled_of, settles_to_move, chunk-bounds, HoldsRequests}
use Rattle.fsb_phase_run.proofs.CodeDrive.{outcome-held, settled-same}
use Rattle.fsb_phase_run.proofs.Grown.{agree-grown, live-same}
use Rattle.fsb_phase_run.proofs.HeldEntries.{EntryOf, entry-flying}
use Rattle.fsb_phase_run.proofs.OnTheWay.{last-chunk}
use Rattle.fsb_phase_run.proofs.RespondsNow.{CodeShown, shown, shown-now}
use Rattle.fsb_phase_run.proofs.Unanswered.{responded-snoop}

-- where the data of a request move, its entry moves
moving-same : (r s : Run) (queue : List Entry) (i t : ℕ) (k : EntryOf r queue i) → GrowsTo r s → HoldsRequests queue r
    → CodeShown r s → response_clock_of s.trace i ≡ Some t → is_moving k.entry ≡ settles_to_move s (past_of s) i
unfolding settles_to_move
moving-same r s queue i t k grows f code e =
    let a = shown r s i t grows code e in
    let there = ap (λ j. snoop_end_of r.trace j) k.rank ∙ a.is_snoop in
    let outcome = outcome-held r s queue k.place k.entry a.snoop grows f k.at there in
    ap (λ o. is_some_and o does_move) (outcome ∙ ap (settled_of s (past_of s)) k.rank)

choice-same : (r s : Run) (queue : List Entry) (i t : ℕ) (k : EntryOf r queue i) → GrowsTo r s → CodeShown r s
    → response_clock_of s.trace i ≡ Some t → k.entry.choice ≡ live_choice s i
choice-same r s queue i t k grows code e =
    let a = shown r s i t grows code e in k.choice ∙ live-same r s i a.snoop grows a.is_snoop

pub busy-same : (r s : Run) (queue : List Entry) (i : ℕ) (k : EntryOf r queue i) → GrowsTo r s → HoldsRequests queue r
    → CodeShown r s → keeps_busy r.trace k.entry ≡ is_busy_at s (past_of s) (length r.trace) i
unfolding keeps_busy is_busy_at is_some_and
busy-same r s queue i k grows f code = by (response_clock_of s.trace i) refl
  where
    by : (o : Option ℕ) → response_clock_of s.trace i ≡ o
        → keeps_busy r.trace k.entry ≡ is_busy_at s (past_of s) (length r.trace) i
    by None e =
        let n = length r.trace in
        let now = shown-now r s queue i k grows code ∙ e in
        and_right (is_moving k.entry) _ (ap (λ o. is_some_and o (is_busy_from k.entry.choice.gap n)) now)
        ∙ sym (and_right (settles_to_move s (past_of s) i) _
        (ap (λ o. is_some_and o (is_busy_from (live_choice s i).gap n)) e))
    by (Some t) e =
        let n = length r.trace in
        let moves = moving-same r s queue i t k grows f code e in
        let choice = choice-same r s queue i t k grows code e in
        let now = shown-now r s queue i k grows code in
        λ j. moves j && is_some_and (now j) (is_busy_from (choice j).gap n)

if-some : (b : Bool) (o : Option ℕ) → is_some (if b then o else None) ≡ (b && is_some o)
if-some true o = refl
if-some false o = refl

pub chunk-same : (r s : Run) (queue : List Entry) (i : ℕ) (k : EntryOf r queue i) → GrowsTo r s → HoldsRequests queue r
    → CodeShown r s → is_some (due_chunk r.trace k.entry) ≡ has_data_at s (past_of s) (length r.trace) i
unfolding due_chunk has_data_at
chunk-same r s queue i k grows f code =
    let n = length r.trace in
    if-some (is_moving k.entry) (option_and_then (chunk_from k.entry.choice.gap n) (response_to_now r.trace k.entry))
    ∙ by (response_clock_of s.trace i) refl
  where
    by : (o : Option ℕ) → response_clock_of s.trace i ≡ o
        → (is_moving k.entry
        && is_some (option_and_then (chunk_from k.entry.choice.gap (length r.trace)) (response_to_now r.trace k.entry)))
        ≡ has_data_at s (past_of s) (length r.trace) i
    by None e =
        let n = length r.trace in
        let now = shown-now r s queue i k grows code ∙ e in
        and_right (is_moving k.entry) _ (ap (λ o. is_some (option_and_then (chunk_from k.entry.choice.gap n) o)) now)
        ∙ sym (and_right (settles_to_move s (past_of s) i) _
        (ap (λ o. is_some (option_and_then (chunk_from (live_choice s i).gap n) o)) e))
    by (Some t) e =
        let n = length r.trace in
        let moves = moving-same r s queue i t k grows f code e in
        let choice = choice-same r s queue i t k grows code e in
        let now = shown-now r s queue i k grows code in
        λ j. moves j && is_some (option_and_then (chunk_from (choice j).gap n) (now j))

-- a live request whose data are not past their last chunk has an entry
pub record OnItsWay (r s : Run) (i : ℕ) : Type 0 where
  pub response : ℕ
  pub is_response : response_clock_of s.trace i ≡ Some response
  pub moves : settles_to_move s (past_of s) i ≡ true
  pub few : length r.trace ≤ response + 3 * (1 + (live_choice s i).gap)

not-ended : (r s : Run) (i u : ℕ) (d : OnItsWay r s i) → GrowsTo r s → CodeShown r s → end_of r.trace i ≡ Some u
    → u < length r.trace → ⊥
unfolding settles_to_move
not-ended r s i u d grows code e l =
    let n = length r.trace in
    let p = end_of-response r.trace i u e in
    let early = p.2 in
    let stays = response_clock_of-stays n r.trace s.trace i p.0 (agree-grown r s grows) (omega arith) p.1 in
    let one = d.is_response in
    let same : p.0 ≡ d.response = cc in
    let a = shown r s i d.response grows code d.is_response in
    let first = subst (λ t. response_clock_of r.trace i ≡ Some t) same p.1 in
    let k = responded-snoop r i d.response grows.timely first in
    let low = k.2 in
    let moves = ap (λ o. is_some_and o does_move) (settled-same r s i k.0 grows k.1) ∙ d.moves in
    let late = last-chunk r i d.response u k.0 grows.timely l k.1 (omega arith) first e moves in
    let gap = ap (λ c. c.gap) (live-same r s i k.0 grows k.1) in
    let few = d.few in omega arith

pub way-entry : (r s : Run) (queue : List Entry) (i : ℕ) (d : OnItsWay r s i) → GrowsTo r s → HoldsRequests queue r
    → CodeShown r s → EntryOf r queue i
way-entry r s queue i d grows f code =
    let a = shown r s i d.response grows code d.is_response in
    let c = snoop_end_of-clock r.trace i a.snoop a.is_snoop in
    entry-flying r queue i c.clock f c.is_clock (by (end_of r.trace i) refl)
  where
    by : (o : Option ℕ) → end_of r.trace i ≡ o → not (is_before o (length r.trace)) ≡ true
    by None e = ap not (is_before-none (length r.trace))
    by (Some u) e = elim (cases_Bool (is_before (Some u) (length r.trace))) [
      | inr off ↦ ap not off
      | inl t ↦
          let p = is_before-parts (Some u) (length r.trace) t in
          let same : Some u ≡ Some p.0 = p.1 in
          absurd (not-ended r s i p.0 d grows code (e ∙ same) p.2)
    ]

pub busy-way : (r s : Run) (i : ℕ) (o : Option ℕ) → response_clock_of s.trace i ≡ o
    → is_busy_at s (past_of s) (length r.trace) i ≡ true → OnItsWay r s i
unfolding is_busy_at is_busy_from is_some_and
busy-way r s i None e t =
    let a = and_parts (settles_to_move s (past_of s) i) _ t in
    let none = ap (λ o. is_some_and o (is_busy_from (live_choice s i).gap (length r.trace))) e in
    let no : false ≡ true = sym none ∙ a.1 in
    absurd (cc no)
busy-way r s i (Some p) e t =
    let n = length r.trace in
    let gap = (live_choice s i).gap in
    let a = and_parts (settles_to_move s (past_of s) i) _ t in
    let b = sym (ap (λ o. is_some_and o (is_busy_from gap n)) e) ∙ a.1 in
    let c = and_parts (nat_le p n) (nat_lt n (p + 3 * (1 + gap))) b in
    let high = ltb-true n (p + 3 * (1 + gap)) c.1 in
    record { response = p; is_response = e; moves = a.0; few = omega arith }

pub chunk-way : (r s : Run) (i : ℕ) (o : Option ℕ) → response_clock_of s.trace i ≡ o
    → has_data_at s (past_of s) (length r.trace) i ≡ true → OnItsWay r s i
unfolding has_data_at
chunk-way r s i None e t =
    let n = length r.trace in
    let a = and_parts (settles_to_move s (past_of s) i) _ t in
    let no : false ≡ true = sym (ap (λ o. is_some (option_and_then (chunk_from (live_choice s i).gap n) o)) e) ∙ a.1 in
    absurd (cc no)
chunk-way r s i (Some p) e t =
    let n = length r.trace in
    let gap = (live_choice s i).gap in
    let a = and_parts (settles_to_move s (past_of s) i) _ t in
    let b = sym (ap (λ o. is_some (option_and_then (chunk_from gap n) o)) e) ∙ a.1 in
    let c = chunk-bounds gap p n b in
    record { response = p; is_response = e; moves = a.0; few = c.1 }
