-- Between two transfers of a line with no other transfer of it between them memory has the same bytes of it.
use Rattle.std.proofs.Common.{ℕ, zero, suc, ◌+◌, ◌*◌, ◌<◌, ◌≤◌, ◌≡◌, Bool, true, false, List, Option, Some, None}
use Rattle.std.proofs.Common.{length, slice_index, refl, sym, ap, ◌∙◌, arith, inl, inr, subst, add-one}
use Rattle.std.proofs.lemmas.Bool.{both_ways, cases_Bool, cases_lt, false_from_ne_true}
use Rattle.std.proofs.lemmas.Option.{same_Some}
use Rattle.std.specs.Option.{option_map, option_and_then}
use Rattle.fsb_count.specs.Clocks.{count_where, from_clock, nth_where}
use Rattle.fsb_count.specs.Options.{is_at}
use Rattle.fsb_count.proofs.Interface.{count_where-mono, count_where-passed, is_at-from, nth_where-found}
use Rattle.fsb_count.proofs.Interface.{nth_where-there}
use Rattle.fsb_encode.specs.Burst.{burst_order}
use Rattle.fsb_encode.specs.declared.request.Request.{Request}
use Rattle.fsb_signal.specs.declared.lines.TheConstants.Lines.{DRDY}
use Rattle.fsb_signal.specs.Samples.{line_at}
use Rattle.fsb_trace.specs.At.{Trace, responds_at}
use Rattle.fsb_trace.specs.Outcome.{moves_data, response_clock_of}
use Rattle.fsb_trace.specs.Requests.{live_request_of}
use Rattle.fsb_trace.specs.Response.{data_clock_of, end_of}
use Rattle.fsb_trace.proofs.Interface.{end_of-moving, end_of-response}
use Rattle.fsb_laws.specs.Orderly.{Orderly}
use Rattle.fsb_rules.proofs.Interface.{data_clock-from, data_clock-parts}
use Rattle.fsb_timely.specs.Carried.{memory_below}
use Rattle.fsb_timely.specs.Kept.{line_bytes}
use Rattle.fsb_timely.specs.Runs.{Run}
use Rattle.fsb_lawful.proofs.Interface.{and-then}
use Rattle.fsb_audit.specs.MovedChunks.{moved_at, namer_of, nth_chunk}
use Rattle.fsb_audit.proofs.Interface.{after_response, before_end}
use Rattle.fsb_clean.proofs.DataWays.{puts-else, puts-moves, puts-only}
use Rattle.fsb_clean.proofs.Follows.{MemoryFollows, gets_data, line_moved_by, puts_data}
use Rattle.fsb_clean.proofs.LineChunks.{chunk-place}
use Rattle.fsb_clean.proofs.Moved.{moved-from}
use Rattle.fsb_tied.proofs.Interface.{ended-before}

-- where the fourth of some clocks is there, the ones before it are
nth-before : (test : ℕ → Bool) (m e n : ℕ) → nth_where test 3 m ≡ Some e → n < 4
    → (d : ℕ) × (nth_where test n m ≡ Some d)
nth-before test m e n f l =
    let k = nth_where-found test 3 m e f in
    let below : e < m = k.0 in
    let count : count_where test e ≡ 3 = k.2 in
    let passed = count_where-passed test e k.1 in
    let more = count_where-mono test (e + 1) m (omega arith) in
    nth_where-there test n m (omega arith)

-- the request that names the line that live request i moves
named-line : (w : Trace) (i line : ℕ) → line_moved_by w i ≡ Some line
    → (namer : ℕ) × (request : Request) × (namer_of w i ≡ Some namer) × (live_request_of w namer ≡ Some request)
    × (request.line ≡ line)
unfolding line_moved_by
named-line w i line e = by-request (option_and_then (live_request_of w) (namer_of w i)) refl e
  where
    by-request : (o : Option Request) → option_and_then (live_request_of w) (namer_of w i) ≡ o
        → option_map (λ request. request.line) o ≡ Some line
        → (namer : ℕ) × (request : Request) × (namer_of w i ≡ Some namer) × (live_request_of w namer ≡ Some request)
        × (request.line ≡ line)
    by-request None f g = absurd (let no : ⊥ = cc in no)
    by-request (Some request) f g =
        let k = and-then (live_request_of w) (namer_of w i) request f in
        (k.0, request, k.1, k.2, same_Some _ _ g)

-- each chunk of the line of a request whose data move and that ended is moved, from its response up to its end
pub moves-each : (w : Trace) (i line chunk e : ℕ) → Orderly w → moves_data w i ≡ true → line_moved_by w i ≡ Some line
    → end_of w i ≡ Some e → chunk < 4
    → (d : ℕ) × (t : ℕ) × (moved_at w d ≡ Some (4 * line + chunk)) × (response_clock_of w i ≡ Some t) × (t ≤ d)
    × (d ≤ e)
unfolding nth_chunk
moves-each w i line chunk e o moves names ends few =
    let t = end_of-response w i e ends in
    let k = named-line w i line names in
    let request = k.1 in
    let last = sym (end_of-moving w i t.0 moves t.1) ∙ ends in
    let p = chunk-place request.chunk chunk few in
    let d = nth-before (from_clock t.0 (line_at DRDY w)) (length w) e p.at last p.few in
    let clock = data_clock-from w i p.at d.0
    (record { few = p.few; moves = moves; response = t.0; is_response = t.1; is_clock = d.1 }) in
    let parts = data_clock-parts w i p.at d.0 clock in
    let same : parts.response ≡ t.0 = same_Some _ _ (sym parts.is_response ∙ t.1) in
    let after = (after_response w i p.at d.0 parts).0 in
    let before = before_end w i p.at d.0 e parts ends in (
      d.0,
      t.0,
      moved-from w d.0 (4 * line + chunk) o (record {
        number = i;
        place = p.at;
        is_clock = clock;
        namer = k.0;
        names = k.2;
        request = request;
        asked = k.3;
        chunk = ap (λ l. 4 * l + slice_index (burst_order request.chunk) p.at) k.4 ∙ ap (λ c. 4 * line + c) p.comes;
      }),
      t.1,
      omega (arith, after),
      before,
    )

-- memory has what it had as long as nothing of the line is put there
stays : (r : Run) (memory : ℕ → ℕ → List ℕ) (line m n : ℕ) → MemoryFollows r memory → m ≤ n → n ≤ length r.trace
    → ((u k : ℕ) → m ≤ u → u < n → end_of r.trace k ≡ Some u → line_moved_by r.trace k ≡ Some line
    → puts_data r.trace k ≡ false)
    → memory line n ≡ memory line m
stays r memory line m zero f l e none = let same : m ≡ 0 = omega arith in ap (memory line) (sym same)
stays r memory line m (suc n) f l e none =
    elim (cases_lt n m) [
      | inl less ↦ let same : m ≡ suc n = omega arith in ap (memory line) (sym same)
      | inr more ↦
          ap (memory line) (sym (add-one n))
          ∙ f.kept line n (omega arith) (λ k ends names. none n k more (omega arith) ends names)
          ∙ stays r memory line m n f more (omega arith)
          (λ u k low high ends names. none u k low (omega arith) ends names)
    ]

-- live requests j and i move data of the line, one after the other, and no clock between b, at which data of j come,
-- and c, which is not before the response of i, moves this chunk of it
pub record Follow (w : Trace) (line chunk j i b c : ℕ) : Type 0 where
  pub less : j < i
  pub place : ℕ
  pub is_clock : data_clock_of w j place ≡ Some b
  pub earlier_line : line_moved_by w j ≡ Some line
  pub later_line : line_moved_by w i ≡ Some line
  pub earlier : ℕ
  pub later : ℕ
  pub is_earlier : response_clock_of w j ≡ Some earlier
  pub is_later : response_clock_of w i ≡ Some later
  pub within : later ≤ c
  pub few : chunk < 4
  pub unmoved : (d : ℕ) → b < d → d < c → is_at (moved_at w d) (4 * line + chunk) ≡ false

-- no request between them puts data of the line
none-between : (w : Trace) (line chunk j i b c k : ℕ) → Orderly w → Follow w line chunk j i b c → j < k → k < i
    → line_moved_by w k ≡ Some line → puts_data w k ≡ true → ⊥
none-between w line chunk j i b c k o f more less names puts =
    let e = ended-before w k i f.later o less f.is_later in
    let high : e.0 < f.later = e.2 in
    let within = f.within in
    let m = moves-each w k line chunk e.0 o (puts-moves w k puts) names e.1 f.few in
    let d : ℕ = m.0 in
    let t : ℕ = m.1 in
    let from : t ≤ d = m.4 in
    let to : d ≤ e.0 = m.5 in
    let before = ended-before w j k t o more m.3 in
    let ended : before.0 < t = before.2 in
    let low : b ≤ before.0 =
    before_end w j f.place b before.0 (data_clock-parts w j f.place b f.is_clock) before.1 in
    both_ways (is_at (moved_at w d) (4 * line + chunk)) (f.unmoved d (omega arith) (omega arith))
    (is_at-from (moved_at w d) (4 * line + chunk) m.2)

-- nor does one that ends from a clock m on, which is not before the response of j, if j itself is not that one
none-ends : (w : Trace) (line chunk j i b c m u k : ℕ) → Orderly w → (f : Follow w line chunk j i b c) → f.earlier ≤ m
    → m ≤ u → u < f.later → (puts_data w j ≡ true → end_of w j ≡ Some u → ⊥) → end_of w k ≡ Some u
    → line_moved_by w k ≡ Some line → puts_data w k ≡ false
none-ends w line chunk j i b c m u k o f after low high own ends names =
    false_from_ne_true (puts_data w k) (λ puts.
    let t = end_of-response w k u ends in
    let from : t.0 ≤ u = t.2 in
    elim (cases_lt k i) [
      | inl less ↦ elim (cases_lt j k) [
        | inl more ↦ none-between w line chunk j i b c k o f more less names puts
        | inr most ↦ elim (cases_lt k j) [
          | inl under ↦
              let e = ended-before w k j f.earlier o under f.is_earlier in
              let early : e.0 < f.earlier = e.2 in
              let same : e.0 ≡ u = same_Some _ _ (sym e.1 ∙ ends) in
              omega arith
          | inr over ↦
              let same : k ≡ j = omega arith in
              own (subst (λ n. puts_data w n ≡ true) same puts) (subst (λ n. end_of w n ≡ Some u) same ends)
        ]
      ]
      | inr more ↦ elim (cases_lt i k) [
        | inl less ↦
            let e = ended-before w i k t.0 o less t.1 in
            let early : e.0 < t.0 = e.2 in
            let p = end_of-response w i e.0 e.1 in
            let first : p.0 ≤ e.0 = p.2 in
            let same : p.0 ≡ f.later = same_Some _ _ (sym p.1 ∙ f.is_later) in
            omega arith
        | inr under ↦
            let one : k ≡ i = omega arith in
            let there : response_clock_of w i ≡ Some t.0 = subst (λ n. response_clock_of w n ≡ Some t.0) one t.1 in
            let same : t.0 ≡ f.later = same_Some _ _ (sym there ∙ f.is_later) in
            omega arith
      ]
    ])

response-below : (w : Trace) (i t : ℕ) → response_clock_of w i ≡ Some t → t < length w
unfolding response_clock_of
response-below w i t e = (nth_where-found (responds_at w) i (length w) t e).0

-- so where the data of i come from memory the line has the same bytes at both responses
pub same-between : (r : Run) (memory : ℕ → ℕ → List ℕ) (line chunk j i b c : ℕ) → Orderly r.trace
    → MemoryFollows r memory → (f : Follow r.trace line chunk j i b c) → gets_data r.trace i ≡ true
    → line_bytes (memory_below r f.earlier) line ≡ line_bytes (memory_below r f.later) line
same-between r memory line chunk j i b c o m f gets =
    let w = r.trace in
    let e = ended-before w j i f.later o f.less f.is_later in
    let high : e.0 < f.later = e.2 in
    let p = end_of-response w j e.0 e.1 in
    let first : p.0 ≤ e.0 = p.2 in
    let same : p.0 ≡ f.earlier = same_Some _ _ (sym p.1 ∙ f.is_earlier) in
    let l = response-below w i f.later f.is_later in
    let moves = (data_clock-parts w j f.place b f.is_clock).moves in
    let got = m.got line i f.later f.later_line gets f.is_later in
    elim (cases_Bool (gets_data w j)) [
      | inl from ↦
          let still = stays r memory line f.earlier f.later m (omega arith) (omega arith) (λ u k low under ends names.
          none-ends w line chunk j i b c f.earlier u k o f (omega arith) low under
          (λ puts own. puts-only w j puts from) ends names) in
          sym (m.got line j f.earlier f.earlier_line from f.is_earlier) ∙ sym still ∙ got
      | inr into ↦
          let puts = puts-else w j moves into in
          let still = stays r memory line (e.0 + 1) f.later m (omega arith) (omega arith) (λ u k low under ends names.
          none-ends w line chunk j i b c (e.0 + 1) u k o f (omega arith) low under
          (λ put own. let here : e.0 ≡ u = same_Some _ _ (sym e.1 ∙ own) in omega arith) ends names) in
          sym (m.put line j f.earlier e.0 f.earlier_line puts f.is_earlier e.1) ∙ sym still ∙ got
    ]
