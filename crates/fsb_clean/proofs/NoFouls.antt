-- Where memory follows the transfers of a run no clock of its trace is foul.
use Rattle.std.proofs.Common.{ℕ, ◌+◌, ◌*◌, ◌<◌, ◌≤◌, ◌≡◌, Bool, true, false, not, List, Some, length, sym, ap, ◌∙◌}
use Rattle.std.proofs.Common.{arith, inl, inr, subst}
use Rattle.std.proofs.lemmas.Bool.{and_parts, both_ways, cases_lt, eq-eqb, false_from_ne_true, not-true}
use Rattle.std.proofs.lemmas.Option.{same_Some}
use Rattle.std.specs.Option.{option_and_then}
use Rattle.fsb_count.specs.Clocks.{last_where}
use Rattle.fsb_count.specs.Options.{is_at, is_some_and}
use Rattle.fsb_count.proofs.Interface.{is_at-some}
use Rattle.fsb_signal.specs.Samples.{data_at}
use Rattle.fsb_trace.specs.At.{Trace}
use Rattle.fsb_trace.specs.Outcome.{outcome_of, response_clock_of}
use Rattle.fsb_laws.specs.Orderly.{Orderly}
use Rattle.fsb_rules.proofs.Interface.{data_clock-parts}
use Rattle.fsb_timely.specs.Carried.{Carried, chunk_value, memory_below}
use Rattle.fsb_timely.specs.Kept.{line_bytes}
use Rattle.fsb_timely.specs.Runs.{Run}
use Rattle.fsb_timely.specs.Timely.{Timely}
use Rattle.fsb_timely.proofs.Interface.{last_where-found, last_where-from}
use Rattle.fsb_lawful.proofs.Interface.{and-then, some-and}
use Rattle.fsb_audit.specs.Fouls.{have_same_data, is_foul_clock, is_stale, latest_move}
use Rattle.fsb_audit.specs.MovedChunks.{does_come_from_memory, is_from_memory, moved_at, mover_at}
use Rattle.fsb_audit.proofs.Interface.{after_response, before_end, mover_parts, one_mover}
use Rattle.fsb_clean.proofs.Between.{same-between}
use Rattle.fsb_clean.proofs.CarriedChunks.{CarriedChunk, carried-chunk}
use Rattle.fsb_clean.proofs.Follows.{MemoryFollows, gets_data}
use Rattle.fsb_clean.proofs.LineChunks.{same-chunk}
use Rattle.fsb_tied.proofs.Interface.{ended-before, orderly-whole}

-- a foul clock: data come there from memory, of a chunk that was moved before, the last time at b with other bits
pub record IsFoul (w : Trace) (c : ℕ) : Type 0 where
  pub number : ℕ
  pub moves : mover_at w c ≡ Some number
  pub gets : gets_data w number ≡ true
  pub chunk : ℕ
  pub moved : moved_at w c ≡ Some chunk
  pub before : ℕ
  pub latest : last_where (λ b. is_at (moved_at w b) chunk) c ≡ Some before
  pub other : have_same_data w before c ≡ false

foul-parts : (w : Trace) (c : ℕ) → is_foul_clock w c ≡ true → IsFoul w c
unfolding is_foul_clock is_from_memory is_stale latest_move gets_data is_some_and
foul-parts w c e =
    let parts = and_parts (is_from_memory w c) (is_some_and (moved_at w c) (is_stale w c)) e in
    let o = some-and (option_and_then (outcome_of w) (mover_at w c)) does_come_from_memory parts.0 in
    let i = and-then (outcome_of w) (mover_at w c) o.0 o.1 in
    let x = some-and (moved_at w c) (is_stale w c) parts.1 in
    let b = some-and (latest_move w x.0 c) (λ b. not (have_same_data w b c)) x.2 in
    record {
      number = i.0;
      moves = i.1;
      gets = ap (λ k. is_some_and k does_come_from_memory) i.2 ∙ o.2;
      chunk = x.0;
      moved = x.1;
      before = b.0;
      latest = b.1;
      other = not-true (have_same_data w b.0 c) b.2;
    }

-- no clock between the latest one and c passes
last-none : (test : ℕ → Bool) (c b d : ℕ) → last_where test c ≡ Some b → b < d → d < c → test d ≡ false
last-none test c b d e low high =
    false_from_ne_true (test d) (λ t.
    let k = last_where-from test c d high t in
    let at : d ≤ k.0 = k.2 in
    let same : k.0 ≡ b = same_Some _ _ (sym k.1 ∙ e) in
    omega arith)

-- the same chunk of two transfers is the same chunk of one line
one-line : (l m a b x : ℕ) → a < 4 → b < 4 → 4 * l + a ≡ x → 4 * m + b ≡ x → (l ≡ m) × (a ≡ b)
one-line l m a b x p q e f = let line : l ≡ m = omega arith in (line, omega arith)

-- data of one request, or of two, are the same bytes of the line
same-bytes : (r : Run) (memory : ℕ → ℕ → List ℕ) (c b x : ℕ) → Orderly r.trace → MemoryFollows r memory
    → (k : CarriedChunk r c x) (j : CarriedChunk r b x) → b < c → gets_data r.trace k.number ≡ true
    → ((d : ℕ) → b < d → d < c → is_at (moved_at r.trace d) x ≡ false) → j.line ≡ k.line
    → line_bytes (memory_below r j.response) k.line ≡ line_bytes (memory_below r k.response) k.line
same-bytes r memory c b x o m k j low gets none line =
    let w = r.trace in
    let d = data_clock-parts w k.number k.place c k.is_clock in
    let e = data_clock-parts w j.number j.place b j.is_clock in
    let after = after_response w k.number k.place c d in
    let from : d.response ≤ c = after.0 in
    let there : d.response ≡ k.response = same_Some _ _ (sym d.is_response ∙ k.is_response) in
    elim (cases_lt j.number k.number) [
      | inl less ↦
          same-between r memory k.line k.chunk j.number k.number b c o m (record {
            less = less;
            place = j.place;
            is_clock = j.is_clock;
            earlier_line = j.names ∙ ap Some line;
            later_line = k.names;
            earlier = j.response;
            later = k.response;
            is_earlier = j.is_response;
            is_later = k.is_response;
            within = omega arith;
            few = k.few;
            unmoved = λ n p q. ap (is_at (moved_at w n)) k.is_chunk ∙ none n p q;
          }) gets
      | inr more ↦ elim (cases_lt k.number j.number) [
        | inl less ↦
            let ended = ended-before w k.number j.number j.response o less j.is_response in
            let high : ended.0 < j.response = ended.2 in
            let last : c ≤ ended.0 = before_end w k.number k.place c ended.0 d ended.1 in
            let start : e.response ≤ b = (after_response w j.number j.place b e).0 in
            let here : e.response ≡ j.response = same_Some _ _ (sym e.is_response ∙ j.is_response) in
            absurd (omega arith)
        | inr same ↦
            let one : j.number ≡ k.number = omega arith in
            let response : j.response ≡ k.response =
            same_Some _ _ (sym j.is_response ∙ ap (λ n. response_clock_of w n) one ∙ k.is_response) in
            ap (λ t. line_bytes (memory_below r t) k.line) response
      ]
    ]

-- so no clock is foul
not-foul : (r : Run) (memory : ℕ → ℕ → List ℕ) (c : ℕ) → Timely r → Carried r → MemoryFollows r memory
    → is_foul_clock r.trace c ≡ true → ⊥
unfolding have_same_data
not-foul r memory c h carried m e =
    let w = r.trace in
    let f = foul-parts w c e in
    let p = mover_parts w c f.number f.moves in
    let d = data_clock-parts w f.number p.0 c p.1 in
    let l : c < length w = (after_response w f.number p.0 c d).1 in
    let o = orderly-whole r c h l in
    let latest = last_where-found (λ b. is_at (moved_at w b) f.chunk) c f.before f.latest in
    let low : f.before < c = latest.0 in
    let there = is_at-some (moved_at w f.before) f.chunk latest.1 in
    let k = carried-chunk r c f.chunk h carried l f.moved in
    let j = carried-chunk r f.before f.chunk h carried (omega arith) there in
    let one : k.number ≡ f.number = one_mover w f.number k.number p.0 k.place c o p.1 k.is_clock in
    let gets = subst (λ n. gets_data w n ≡ true) (sym one) f.gets in
    let place = one-line j.line k.line j.chunk k.chunk f.chunk j.few k.few j.is_chunk k.is_chunk in
    let bytes = same-bytes r memory c f.before f.chunk o m k j low gets
    (λ n before after. last-none (λ b. is_at (moved_at w b) f.chunk) c f.before n f.latest before after) place.0 in
    let same : (data_at w f.before).bits ≡ (data_at w c).bits =
    j.bits ∙ (λ i. chunk_value (memory_below r j.response) (place.0 i) (place.1 i))
    ∙ same-chunk (memory_below r j.response) (memory_below r k.response) k.line k.chunk k.few bytes ∙ sym k.bits in
    both_ways (have_same_data w f.before c) f.other (eq-eqb (data_at w f.before).bits (data_at w c).bits same)

pub no-fouls : (r : Run) (memory : ℕ → ℕ → List ℕ) (c : ℕ) → Timely r → Carried r → MemoryFollows r memory
    → is_foul_clock r.trace c ≡ false
no-fouls r memory c h carried m = false_from_ne_true (is_foul_clock r.trace c) (not-foul r memory c h carried m)
