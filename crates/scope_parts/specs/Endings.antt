-- When a segment ends, and why.
use Rattle.std.specs.Prelude.{ℕ, ◌+◌, Bool, true, false, not, ◌&&◌, ◌==◌, nat_lt, if◌then◌else◌, Option, Some, None}
use Rattle.vcd_way.specs.Events.{DumpEvent}
use Rattle.scope_check.specs.declared.finding.Judged.{Judged}
use Rattle.scope_check.specs.declared.finding.Verdict.{Verdict}
use Rattle.scope_check.specs.declared.finding.Verdict.TheVariants.{Nothing, Accepted, Broken}
use Rattle.scope_check.specs.Parts.{is_sampled}
use Rattle.scope_parts.specs.declared.finding.End.{End}
use Rattle.scope_parts.specs.declared.finding.End.TheVariants as ends
use Rattle.scope_parts.specs.declared.plan.Plan.{Plan}

-- clocks were judged, and no rule is broken
abbrev pub is_accepted : Verdict → Bool
is_accepted Nothing = false
is_accepted Accepted = true
is_accepted (Broken clock rule stamp) = false

-- a rule is broken
abbrev pub breaks_one : Verdict → Bool
breaks_one Nothing = false
breaks_one Accepted = false
breaks_one (Broken clock rule stamp) = true

-- rule 18, deferred IDs, is broken at the last of so many clocks
abbrev pub breaks_18_last : ℕ → Verdict → Bool
breaks_18_last clocks Nothing = false
breaks_18_last clocks Accepted = false
breaks_18_last clocks (Broken clock rule stamp) = (rule == 18) && (clock + 1 == clocks)

-- the dump stops or goes on with this event, and up to it this was found: a part had begun, and no clock lies behind it
abbrev pub ends_at_hole : Judged → DumpEvent → Bool
ends_at_hole f e = not (is_sampled e) && is_accepted f.verdict && (f.clocks == f.start + f.judged)

-- a rule is broken, and so many parts were broken before: fewer than are asked for, this one counted
abbrev pub ends_broken : Plan → ℕ → Judged → Bool
ends_broken plan broken f = breaks_one f.verdict && nat_lt (broken + 1) plan.most

-- the part began later, and rule 18 is broken with this event, the second clock of a reply whose ID no request of the part
-- has: what it answers may have been deferred before the part
abbrev pub ends_at_reply : Judged → DumpEvent → Bool
ends_at_reply f e = is_sampled e && f.is_later && f.answers_before && breaks_18_last f.clocks f.verdict

-- why a segment ends with this event, if it does: so many parts were broken before it, and this was found of the segment up
-- to the event
abbrev pub ending : Plan → ℕ → Judged → DumpEvent → Option End
ending plan broken f e =
    if ends_at_reply f e then Some ends.Reply
    else (if ends_broken plan broken f then Some ends.Broken
    else (if ends_at_hole f e then Some ends.Hole else None))
