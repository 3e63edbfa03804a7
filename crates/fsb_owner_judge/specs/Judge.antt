-- What a judge is told with a sample, and the samples for which it stands.
use Rattle.std.specs.Prelude.{◌≡◌, ◌<◌, ◌≤◌, ℕ, ◌+◌, ◌-◌, Bool, false, ◌||◌, List, Option, Some, None, length}
use Rattle.std.specs.Option.{option_map}
use Rattle.fsb_count.specs.Options.{is_at}
use Rattle.fsb_trace.specs.At.{Trace}
use Rattle.fsb_signal.specs.declared.sample.Sample.{Sample}
use Rattle.fsb_laws.specs.OneMore.{OneMore}
use Rattle.fsb_laws.specs.Orderly.{Orderly}
use Rattle.fsb_owners.specs.Joint.{Joint, is_after_drops, is_after_stores, reached_by}
use Rattle.fsb_owners.specs.Rules.{is_given_again, ownership_verdict}
use Rattle.fsb_owners.specs.Shown.{is_coming, is_for_line, is_spoiled, may_drop_at, names, snooped_at}
use Rattle.fsb_owner_judge.specs.declared.judge.OwnerBroken.{OwnerBroken}
use Rattle.fsb_owner_judge.specs.declared.judge.OwnerJudge.{OwnerJudge}
use Rattle.fsb_owner_judge.specs.declared.judge.Shown.{Shown}
use Rattle.fsb_owner_judge.specs.declared.sights.Waiting.{Waiting}
use Rattle.fsb_owner_judge.specs.declared.lines.OwnerLines.{OwnerLines}
use Rattle.fsb_owner_judge.specs.Lines.{Follows, KnowsSpoiled, ShowWaits, is_kept_spoiled, is_waiting}
use Rattle.fsb_owner_judge.specs.Sights.{asking_at, line_end_at}

-- a verdict as the judge tells it
unfoldable pub as_owner_broken : Option (ℕ × ℕ) → Option OwnerBroken
as_owner_broken found = option_map {U = OwnerBroken} (λ p. record { clock = p.0; rule = p.1 }) found

-- clock c shows nothing of the line, and the same agents may store and drop as at the clock before
pub record IsQuiet (v : Trace) (line c : ℕ) : Type 0 where
  pub unnamed : names v line c ≡ false
  pub unsnooped : (j : ℕ) → snooped_at v c ≡ Some j → is_for_line v line j ≡ false
  pub coming : 0 < c → (a : ℕ) → is_coming v line a (c + 1) ≡ is_coming v line a c
  pub dropping : 0 < c → (a : ℕ) → may_drop_at v line c a ≡ may_drop_at v line (c - 1) a

-- stores and drops add no joint state to these
abbrev pub IsSettled : List Joint → Type 0
IsSettled first = (ready may : ℕ → Bool) → reached_by (is_after_drops may) (reached_by (is_after_stores ready) first) ≡ first

-- v is h and then the sample x, and responses come in time in both: this is what v shows of its last clock, and of the one
-- before it, if there is one. Whether a line was given again is asked only where nothing was found in h
pub record Shows (first : List Joint) (h : Trace) (x : Sample) (v : Trace) (shown : Shown) (waits : List Waiting) : Type 0 where
  pub more : OneMore h x v
  pub before : Orderly h
  pub after : Orderly v
  pub begun : 0 < length h → shown.begun ≡ asking_at v (length h - 1)
  pub ended_before : 0 < length h → shown.ended_before ≡ line_end_at v (length h - 1)
  pub ended : shown.ended ≡ line_end_at v (length h)
  pub spoiled : (line : ℕ) → is_spoiled v line ≡ (is_at shown.failed line || is_spoiled h line)
  pub given_again : ownership_verdict first h ≡ None → shown.is_given_again ≡ is_given_again first v (length h)
  pub waiting : 0 < length h → ShowWaits v (length h - 1) waits
  pub quiet : 0 < length h → (line : ℕ) → is_waiting waits line ≡ false → IsQuiet v line (length h - 1)

-- of each line the joint states are kept that are possible before the last clock, and whether it is spoiled
pub record LinesStand (lines : OwnerLines) (first : List Joint) (h : Trace) : Type 0 where
  pub settled : IsSettled first
  pub follows : Follows lines first h (length h - 1)
  pub spoiled : KnowsSpoiled lines h

-- memory was lacking in a call
abbrev pub has_lacked_memory : OwnerJudge → Bool
has_lacked_memory judge = judge.has_lacked_memory

-- how many samples it took, until it found something
abbrev pub taken : OwnerJudge → ℕ
taken judge = judge.clock

-- the line is kept as spoiled
abbrev pub is_spoiled_for : OwnerJudge → ℕ → Bool
is_spoiled_for judge line = is_kept_spoiled judge.lines line

-- the judge began with these joint states and was told of these samples: unless memory was lacking it found their verdict,
-- and as long as there is none it keeps what is possible
pub record Stands (judge : OwnerJudge) (first : List Joint) (h : Trace) : Type 0 where
  pub found : has_lacked_memory judge ≡ false → judge.found ≡ as_owner_broken (ownership_verdict first h)
  pub lines : has_lacked_memory judge ≡ false → judge.found ≡ None → LinesStand judge.lines first h
  pub clock : has_lacked_memory judge ≡ false → judge.found ≡ None → judge.clock ≡ length h
  pub few : taken judge ≤ length h
