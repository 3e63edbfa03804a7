-- The rules of ownership, as a judge looks at them: by the request that is decoded, and by a snoop end.
use Rattle.std.specs.Prelude.{ℕ, ◌-◌, nat_lt, Bool, false, ◌&&◌, ◌||◌, not, if◌then◌else◌, List, Option, Some, None}
use Rattle.fsb_signal.specs.declared.lines.TheConstants.Lines.{HIT, HITM}
use Rattle.fsb_signal.specs.Samples.{line_at}
use Rattle.fsb_trace.specs.At.{Trace}
use Rattle.fsb_owners.specs.Joint.{Joint}
use Rattle.fsb_owners.specs.Rules.{is_asked_in_vain, is_asked_twice, is_of_write_back, is_owned_elsewhere, is_upgrade_unfit}
use Rattle.fsb_owners.specs.Rules.{is_write_back_unfit, of_answer}
use Rattle.fsb_line.specs.declared.purpose.Purpose.{Purpose}
use Rattle.fsb_line.specs.declared.purpose.Purpose.TheVariants.{Own, Read, Upgrade, WriteBack}
use Rattle.fsb_owners.specs.Possible.{asking}
use Rattle.fsb_owners.specs.Rules.{is_none_left}
use Rattle.fsb_owner_judge.specs.declared.answered.Answered.{Answered}
use Rattle.fsb_owner_judge.specs.declared.sights.Asking.{Asking}
use Rattle.fsb_owner_judge.specs.declared.sights.LineEnd.{LineEnd}
use Rattle.fsb_owner_judge.specs.Sights.{is_of_write_back_end}

-- the least of the rules 21 to 24 that is broken at c
unfoldable pub begun_rule : List Joint → Trace → ℕ → Option ℕ
begun_rule first v c =
    if is_asked_twice first v c then Some 21
    else (if is_write_back_unfit first v c then Some 22
    else (if is_upgrade_unfit first v c then Some 23
    else (if is_asked_in_vain first v c then Some 24 else None)))

-- which of the rules 25 to 29 the snoop end at s breaks
unfoldable pub answered_at : List Joint → Trace → ℕ → Answered
answered_at first v s = record {
  owner_lacking = of_answer first v s (λ j line a. not (is_of_write_back v j) && line_at HITM v s);
  owner_silent = of_answer first v s (λ j line a. not (is_of_write_back v j) && not (line_at HITM v s)
      && is_owned_elsewhere first v s line a);
  holder_silent = of_answer first v s (λ j line a. not (is_of_write_back v j) && not (line_at HITM v s)
      && not (line_at HIT v s) && not (is_owned_elsewhere first v s line a));
  holder_lacking = of_answer first v s (λ j line a. not (is_of_write_back v j) && not (line_at HITM v s)
      && line_at HIT v s && not (is_owned_elsewhere first v s line a));
  written_when_lost = of_answer first v s (λ j line a. is_of_write_back v j);
}

-- no rule of snoop ends is broken
abbrev pub nothing_broken : Answered
nothing_broken = record {
  owner_lacking = false;
  owner_silent = false;
  holder_silent = false;
  holder_lacking = false;
  written_when_lost = false;
}

-- the rule that a snoop end breaks which fits no joint state; in each of them another agent has the line Modified, or not
unfoldable pub unfit_by : LineEnd → Bool → Answered
unfit_by end is_owned = record {
  owner_lacking = not (is_of_write_back_end end) && end.hitm;
  owner_silent = not (is_of_write_back_end end) && not end.hitm && is_owned;
  holder_silent = not (is_of_write_back_end end) && not end.hitm && not end.hit && not is_owned;
  holder_lacking = not (is_of_write_back_end end) && not end.hitm && end.hit && not is_owned;
  written_when_lost = is_of_write_back_end end;
}

-- joint states were possible before the request, and none of them lets its agent ask so
unfoldable pub is_unfit_asking : Asking → List Joint → Bool
is_unfit_asking request set = not (is_none_left set) && is_none_left (asking (Some request.agent) request.kind set)

-- the rule of requests that one of this kind breaks which is unfit, or is held back
unfoldable pub unfit_rule : Option Purpose → Bool → Bool → Option ℕ
unfit_rule None is_unfit is_held = None
unfit_rule (Some WriteBack) is_unfit is_held = if is_unfit || is_held then Some 22 else None
unfit_rule (Some Upgrade) is_unfit is_held = if is_unfit then Some 23 else None
unfit_rule (Some Read) is_unfit is_held = if is_unfit then Some 24 else None
unfit_rule (Some Own) is_unfit is_held = if is_unfit then Some 24 else None

-- the least of the rules 21 to 24 that the request breaks, where these joint states of its line were possible before it
unfoldable pub asking_rule : Asking → List Joint → Option ℕ
asking_rule request set =
    if request.is_asked_twice then Some 21
    else unfit_rule request.kind (is_unfit_asking request set) request.is_held_back

-- the rule that was found, or else this one where it is broken
abbrev pub or_rule : Option ℕ → Bool → ℕ → Option ℕ
or_rule None is_broken rule = if is_broken then Some rule else None
or_rule (Some found) is_broken rule = Some found

-- the least rule of those of the request, of the snoop ends now and a clock ago, and of the rules 30 and 31
unfoldable pub rule_by : Option ℕ → Answered → Answered → Bool → Bool → Option ℕ
rule_by begun now late is_hit_wrong is_given_again =
    or_rule (or_rule (or_rule (or_rule (or_rule (or_rule (or_rule begun
    (now.owner_lacking || late.owner_lacking) 25)
    (now.owner_silent || late.owner_silent) 26)
    (now.holder_silent || late.holder_silent) 27)
    (now.holder_lacking || late.holder_lacking) 28)
    (now.written_when_lost || late.written_when_lost) 29)
    is_hit_wrong 30)
    is_given_again 31

-- which of the rules 25 to 29 the snoop end of the clock before c breaks, if there is such a clock
unfoldable pub answered_before : List Joint → Trace → ℕ → Answered
answered_before first v c = if nat_lt 0 c then answered_at first v (c - 1) else nothing_broken
