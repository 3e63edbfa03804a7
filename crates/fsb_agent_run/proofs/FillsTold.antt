-- Fills of an agent's buffers, and what a sound agent tells by them of its requests and lines.
use Rattle.fsb_agent_run.proofs.Words
use Words.{ℕ, ◌+◌, ◌≡◌, ◌≢◌, Bool, true, cond, Some, None, List, [], ◌∷◌, ◌++◌, refl, sym, ap, ◌∙◌, inl, inr, arith}
use Words.{◌==◌, count_by, is_none, find, cases_Bool, eqb-true, sum_by-cons, slot_of, Fill, fill_on, fills_without}
use Words.{is_fill_on, promise_on, OwnRequest, AgentView, is_numbered, request_numbered, IsSound, is_only}
use Words.{is_sound_request, both_left, both_right, list_all-found, without_first-cons}
use Rattle.std.specs.Prelude.{◌||◌, is_some}
use Rattle.std.specs.Bool.{beq}

-- the fill of another line when one has ended
pub fill_on-without : (line other : ℕ) (fills : List Fill) → line ≢ other
    → fill_on line (fills_without other fills) ≡ fill_on line fills
fill_on-without line other [] apart = refl
fill_on-without line other (f ∷ fills) apart = grind (arith, fill_on-without line other fills apart)

-- how many are promised
abbrev pub promised_count : List Fill → ℕ
promised_count fills = count_by (λ fill. is_some fill.promise) fills

pub promised_count-cons : (f : Fill) (fills : List Fill)
    → promised_count (f ∷ fills) ≡ cond (is_some f.promise) 1 0 + promised_count fills
promised_count-cons f fills = sum_by-cons (λ fill. cond (is_some fill.promise) 1 0) f fills

pub promised_count-push : (line number : ℕ) (fills : List Fill)
    → promised_count (fills ++ record { line = line; number = number; promise = None } ∷ []) ≡ promised_count fills
promised_count-push line number [] = refl
promised_count-push line number (f ∷ fills) =
    promised_count-cons f (fills ++ record { line = line; number = number; promise = None } ∷ [])
    ∙ ap (λ n. cond (is_some f.promise) 1 0 + n) (promised_count-push line number fills)
    ∙ sym (promised_count-cons f fills)

-- what was promised of a fill that has ended
pub promised_count-without : (line : ℕ) (fills : List Fill)
    → promised_count (fills_without line fills) + cond (is_some (promise_on line fills)) 1 0 ≡ promised_count fills
promised_count-without line [] = refl
promised_count-without line (f ∷ fills) =
    elim (cases_Bool (f.line == line)) [
      | inl on ↦
          let rest : fills_without line (f ∷ fills) ≡ fills = grind arith in
          let promise : promise_on line (f ∷ fills) ≡ f.promise = rw on refl in
          omega (
            arith,
            ap promised_count rest,
            ap {B = ℕ} (λ o. cond
                (is_some o) 1 0) promise,
            promised_count-cons f fills,
          )
      | inr off ↦
          let rest : fills_without line (f ∷ fills) ≡ f ∷ fills_without line fills =
          without_first-cons (is_fill_on line) f fills ∙ ap (λ b. cond b fills (f ∷ fills_without line fills)) off in
          let promise : promise_on line (f ∷ fills) ≡ promise_on line fills = rw off refl in
          omega (
            arith,
            ap promised_count rest,
            ap {B = ℕ} (λ o. cond
                (is_some o) 1 0) promise,
            promised_count-cons f
                (fills_without line fills),
            promised_count-cons f fills,
            promised_count-without line fills,
          )
    ]

-- what is found passes
pub found-passes : {X : Type 0} (test : X → Bool) (xs : List X) (x : X) → find test xs ≡ Some x → test x ≡ true
found-passes test [] x found = absurd (let h : ⊥ = cc in h)
found-passes test (y ∷ ys) x found = grind (arith, found-passes test ys x)

-- a request that is found has that number, and is found by it
pub found_number : (number : ℕ) (outs : List OwnRequest) (out : OwnRequest)
    → request_numbered number outs ≡ Some out → out.number ≡ number
found_number number outs out found = eqb-true out.number number (found-passes (is_numbered number) outs out found)

-- what a request tells of its line
pub sound_out : (v : AgentView) (out : OwnRequest) → IsSound v → request_numbered out.number v.outs ≡ Some out
    → is_sound_request v.lines v.buffers.fills out ≡ true
sound_out v out s found = list_all-found (is_sound_request v.lines v.buffers.fills)
    (is_numbered out.number) v.outs out s.requests found

same_bool : (a b : Bool) → beq a b ≡ true → a ≡ b
same_bool a b h1 = grind arith

pub fill_out : (v : AgentView) (out : OwnRequest) → IsSound v → request_numbered out.number v.outs ≡ Some out
    → is_some (fill_on out.request.line v.buffers.fills) ≡ out.granted
fill_out v out s found =
    same_bool _ _ (both_right (is_only out.request.line (slot_of v.lines out.request.line)) _ (both_left _
    (out.granted || is_none out.kept) (sound_out v out s found)))
