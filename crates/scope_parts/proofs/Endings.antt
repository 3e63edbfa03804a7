-- A segment that ends before a reply has an event before its last one.
use Rattle.std.proofs.Common.{◌≡◌, ◌∙◌, ℕ, ◌≤◌, ◌+◌, ◌++◌, ◌∷◌, [], List, Option, Some, None, Bool, true, false, not, ◌⊎◌, inl, inr, length, refl, sym, arith, ◌&&◌, ◌==◌, nat_lt, if◌then◌else◌}
use Rattle.std.proofs.lemmas.Bool.{and_parts}
use Rattle.std.proofs.lemmas.List.{length-append}
use Rattle.fsb_signal.specs.declared.marks.Marks.{Marks}
use Rattle.fsb_trace.specs.At.{Trace}
use Rattle.vcd_way.specs.Events.{DumpEvent, samples_among}
use Rattle.scope_check.specs.declared.finding.Judged.{Judged}
use Rattle.scope_check.specs.declared.part.Part.{Part}
use Rattle.scope_check.specs.Findings.{IsFoundIn}
use Rattle.scope_check.specs.Parts.{is_sampled}
use Rattle.scope_check.specs.Replies.{answers_before}
use Rattle.scope_check.proofs.Interface.{counted-few}
use Rattle.scope_parts.specs.declared.finding.End.{End}
use Rattle.scope_parts.specs.declared.finding.End.TheVariants as ends
use Rattle.scope_parts.specs.declared.plan.Plan.{Plan}
use Rattle.scope_parts.specs.Endings.{breaks_18_last, breaks_one, ending, ends_at_reply, ends_broken, ends_at_hole, is_accepted}

-- the three tests of an end, one after another
abbrev pick : Bool → Bool → Bool → Option End
pick a b c = if a then Some ends.Reply else (if b then Some ends.Broken else (if c then Some ends.Hole else None))

first_of_three : (a b c : Bool) → pick a b c ≡ Some ends.Reply → a ≡ true
first_of_three true b c h = refl
first_of_three false true c h = grind (arith, h)
first_of_three false false true h = grind (arith, h)
first_of_three false false false h = grind (arith, h)

third : (a b c d : Bool) → (a && b && c && d) ≡ true → c ≡ true
third true true c d h = (and_parts c d h).0
third true false c d h = absurd (let no : ⊥ = cc in no)
third false b c d h = absurd (let no : ⊥ = cc in no)

-- what is known of a segment that ends so with this event, of which this was found up to it
abbrev pub EndsSo : Judged → DumpEvent → End → Type 0
EndsSo f e ends.Dump = ⊥
EndsSo f e ends.Hole = is_accepted f.verdict ≡ true
EndsSo f e ends.Broken = breaks_one f.verdict ≡ true
EndsSo f e ends.Reply = (is_sampled e ≡ true) × (breaks_18_last f.clocks f.verdict ≡ true)

picked : (a b c : Bool) (end : End) → pick a b c ≡ Some end
    → ((a ≡ true) × (end ≡ ends.Reply)) ⊎ (((b ≡ true) × (end ≡ ends.Broken)) ⊎ ((c ≡ true) × (end ≡ ends.Hole)))
picked true b c end h = inl (refl, let same : end ≡ ends.Reply = cc h in same)
picked false true c end h = inr (inl (refl, let same : end ≡ ends.Broken = cc h in same))
picked false false true end h = inr (inr (refl, let same : end ≡ ends.Hole = cc h in same))
picked false false false end h = absurd (let no : ⊥ = cc in no)

second : (a b c : Bool) → (a && b && c) ≡ true → b ≡ true
second true true c h = refl
second true false c h = absurd (let no : ⊥ = cc in no)
second false b c h = absurd (let no : ⊥ = cc in no)

fourth : (a b c d : Bool) → (a && b && c && d) ≡ true → (a ≡ true) × (d ≡ true)
fourth true true true d h = (refl, h)
fourth true true false d h = absurd (let no : ⊥ = cc in no)
fourth true false c d h = absurd (let no : ⊥ = cc in no)
fourth false b c d h = absurd (let no : ⊥ = cc in no)

pub ends-so : (end : End) (p : Plan) (n : ℕ) (f : Judged) (e : DumpEvent) → ending p n f e ≡ Some end → EndsSo f e end
ends-so end p n f e h = by (picked (ends_at_reply f e) (ends_broken p n f) (ends_at_hole f e) end h)
  where
    by : ((ends_at_reply f e ≡ true) × (end ≡ ends.Reply))
        ⊎ (((ends_broken p n f ≡ true) × (end ≡ ends.Broken)) ⊎ ((ends_at_hole f e ≡ true) × (end ≡ ends.Hole)))
        → EndsSo f e end
    by (inl x) =
        rw x.1 (fourth (is_sampled e) f.is_later f.answers_before (breaks_18_last f.clocks f.verdict) x.0)
    by (inr (inl x)) = rw x.1 (and_parts (breaks_one f.verdict) (nat_lt (n + 1) p.most) x.0).0
    by (inr (inr x)) =
        rw x.1 (second (not (is_sampled e)) (is_accepted f.verdict) (f.clocks == f.start + f.judged) x.0)

two-samples : (w : Trace) → answers_before w ≡ true → 2 ≤ length w
two-samples [] h = absurd (let no : ⊥ = cc in no)
two-samples (a ∷ []) h = absurd (let no : ⊥ = cc in no)
two-samples (a ∷ (b ∷ w)) h = omega arith

pub reply_behind_one : (p : Plan) (n : ℕ) (f : Judged) (part : Part) (m : Marks) (xs : List DumpEvent) (e : DumpEvent)
    → IsFoundIn f part m (xs ++ e ∷ []) → ending p n f e ≡ Some ends.Reply → 1 ≤ length xs
reply_behind_one p n f part m xs e found h =
    let reply = first_of_three (ends_at_reply f e) (ends_broken p n f) (ends_at_hole f e) h in
    let answers = third (is_sampled e) f.is_later f.answers_before (breaks_18_last f.clocks f.verdict) reply in
    let two = two-samples (samples_among found.part) (sym found.answers_before ∙ answers) in
    let few = counted-few part (xs ++ e ∷ []) found.before found.part found.behind found.parted in
    let size = length-append xs (e ∷ []) in
    omega (arith, two, few, size)
