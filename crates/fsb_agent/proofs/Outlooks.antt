-- An agent's outlook: what it wants by it, and what does not change it.
use Rattle.std.proofs.Common.{ℕ, ◌≡◌, ◌%◌, Bool, true, false, not, Option, Some, None, List, [], ◌∷◌, length, refl}
use Rattle.std.proofs.Common.{sym, ap, ◌∙◌, inl, inr}
use Rattle.std.specs.Prelude.{◌==◌, ◌&&◌, ◌||◌, if◌then◌else◌, nat_eq, nat_le}
use Rattle.std.specs.List.{list_any}
use Rattle.std.specs.Option.{option_map_or}
use Rattle.std.proofs.lemmas.Bool.{cases_Bool, cond_both, eq-eqb, eqb-true, or_left, or_right}
use Rattle.fsb_cache.specs.Sets.{CacheSets, is_one_set}
use Rattle.fsb_timely.specs.Scripts.{Need}
use Rattle.fsb_agent_view.specs.declared.want.Finished.{Finished}
use Rattle.fsb_agent_view.specs.declared.want.OwnRequest.{OwnRequest}
use Rattle.fsb_agent_view.specs.declared.want.Want.{Want}
use Rattle.fsb_agent_view.specs.AgentViews.{AgentView, is_finished_at, is_idle_by, is_met_by, number_at, number_by}
use Rattle.fsb_agent_view.specs.Arriving.{handed_on}
use Rattle.fsb_agent_view.specs.Completing.{is_hit_by, performed}
use Rattle.fsb_agent_view.specs.Idling.{is_idle_item}
use Rattle.fsb_agent_view.specs.Sound.{IsPlaced}
use Rattle.fsb_agent_view.specs.Wanting.{is_asked_by, is_missing_by, is_taken_by, want_by}
use Rattle.fsb_agent.specs.declared.outlook.Outlook.{Outlook}
use Rattle.fsb_agent.specs.Outlooks.{IsKnown, looked_ahead, next_want}

-- its item at a clock is not idle
pub item_busy : (v : AgentView) (clock : ℕ) → IsPlaced v.items v.place v.finished
    → is_idle_item v.items (number_by v clock) ≡ false
item_busy v clock placed = busy v.finished placed.before
  where
    busy : (finished : Option Finished)
        → option_map_or (λ last. is_idle_item v.items last.item) finished false ≡ false
        → is_idle_item v.items (number_at finished v.place clock) ≡ false
    busy None before = placed.next
    busy (Some last) before = cond_both
        (nat_eq last.clock clock) last.item v.place
        (λ n. is_idle_item v.items n ≡ false) (λ e. before) (λ e. placed.next)

-- where no item is completed at a clock, its item there is the next one
number_next : (finished : Option Finished) (place clock : ℕ) → is_finished_at finished clock ≡ false
    → number_at finished place clock ≡ place
number_next None place clock unfinished = refl
number_next (Some last) place clock unfinished = ap (λ b. if b then last.item else place) unfinished

-- a want, unless it has none
abbrev unless : Bool → Option Want → Option Want
unless silent want = elim silent [ true ↦ None | false ↦ want ]

-- where it idles it wants nothing
pub want-idling : (v : AgentView) (clock : ℕ) → is_idle_by v clock ≡ true → None ≡ want_by v clock
want-idling v clock idles = rw (idles, want_by) refl

-- and otherwise what it looked ahead to
pub want-foreseen : (v : AgentView) (clock : ℕ) → is_finished_at v.finished clock ≡ false
    → is_idle_by v clock ≡ false → next_want v ≡ want_by v clock
want-foreseen v clock unfinished works =
    let full = nat_le v.ahead (length v.outs) in
    ap (λ n. unless full (looked_ahead v n)) (sym (number_next v.finished v.place clock unfinished))
    ∙ ap (λ idle. unless (idle || full) (looked_ahead v (number_by v clock))) (sym works)

-- where it has no hit nothing changes
pub performed-none : (v : AgentView) (clock : ℕ) → is_hit_by v clock ≡ false → performed v clock ≡ v
performed-none v clock none = rw (none, performed) refl

-- bytes that it hands on
pub known-handed : (v : AgentView) (number : ℕ) (outlook : Option Outlook) → IsKnown v outlook
    → IsKnown (handed_on v number) outlook
known-handed v number None known = search
known-handed v number (Some outlook) known = record { ready = known.ready; want = known.want }

-- a line that it has asked for has its set taken
taken-asked : (lines : CacheSets) (line : ℕ) (outs : List OwnRequest)
    → list_any (λ out. out.request.line == line) outs ≡ true
    → list_any (λ out. is_one_set lines line out.request.line) outs ≡ true
taken-asked lines line [] asked = asked
taken-asked lines line (out ∷ outs) asked =
    let is = is_one_set lines line in
    elim (cases_Bool (out.request.line == line)) [
      | inl on ↦
          or_left (is out.request.line) (list_any (λ out. is out.request.line) outs)
          (eq-eqb (line % length lines) (out.request.line % length lines)
          (ap (λ n. n % length lines) (sym (eqb-true out.request.line line on))))
      | inr off ↦
          or_right (is out.request.line) (list_any (λ out. is out.request.line) outs)
          (taken-asked lines line outs (rw off at asked))
    ]

without_middle : (met asked taken : Bool) → (asked ≡ true → taken ≡ true)
    → (not met && not taken) ≡ (not met && not asked && not taken)
without_middle true asked taken implied = refl
without_middle false true taken implied = rw (implied refl) refl
without_middle false false taken implied = refl

-- so it needs no look of its own
pub missing-untaken : (v : AgentView) (need : Need)
    → (not (is_met_by v need) && not (is_taken_by v need.earlier need.line)) ≡ is_missing_by v need
missing-untaken v need =
    without_middle (is_met_by v need) (is_asked_by v need.line) (is_taken_by v need.earlier need.line)
    (λ asked. or_left (list_any (λ out. is_one_set v.lines need.line out.request.line) v.outs)
    (list_any (is_one_set v.lines need.line) need.earlier) (taken-asked v.lines need.line v.outs asked))
