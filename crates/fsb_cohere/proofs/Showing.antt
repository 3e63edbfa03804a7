-- What the rows show with the last sample.
use Rattle.std.proofs.Common.{ℕ, ◌-◌, ◌<◌, ◌≡◌, Bool, ◌||◌, length, List, Option, None}
use Rattle.std.proofs.Common.{sym, ap, ◌∙◌, arith}
use Rattle.fsb_count.specs.Options.{is_at}
use Rattle.fsb_signal.specs.declared.sample.Sample.{Sample}
use Rattle.fsb_trace.specs.At.{Trace}
use Rattle.fsb_owners.specs.Joint.{Joint}
use Rattle.fsb_owners.specs.Rules.{is_given_again, ownership_verdict}
use Rattle.fsb_owners.specs.Shown.{is_spoiled}
use Rattle.fsb_owner_table.specs.declared.row.Row.{Row}
use Rattle.fsb_owner_rows.specs.Kept.{AreKeptAt}
use Rattle.fsb_owner_fails.specs.Fails.{fails_at}
use Rattle.fsb_owner_fails.proofs.Spoils.{spoils}
use Rattle.fsb_owner_judge.specs.declared.judge.OwnerJudge.{OwnerJudge}
use Rattle.fsb_owner_judge.specs.declared.sights.Asking.{Asking}
use Rattle.fsb_owner_judge.specs.declared.sights.LineEnd.{LineEnd}
use Rattle.fsb_owner_judge.specs.declared.sights.Waiting.{Waiting}
use Rattle.fsb_owner_judge.specs.Judge.{Shows}
use Rattle.fsb_owner_judge.specs.Sights.{asking_at, line_end_at}
use Rattle.fsb_owner_judge.proofs.Standing.{nothing_yet}
use Rattle.fsb_owner_again.specs.Pairs.{KnowsPast}
use Rattle.fsb_cohere.specs.Cohere.{IsOneOn, ShowsWaits}
use Rattle.fsb_cohere.proofs.QuietLines.{kept_at_clock, quiet}

module _ {first : List Joint} {h : Trace} {x : Sample} {v : Trace} {rows : List Row} {judge : OwnerJudge}
    (g : IsOneOn first h x v rows judge) where
  -- the rows tell of the last clock, and of the one before
  pub last : AreKeptAt rows v (length h)
  last = let n = g.more.size in kept_at_clock rows v (length h) g.kept g.after (omega (arith, n)) (omega (arith, n))

  pub before_last : 0 < length h → AreKeptAt rows v (length h - 1)
  before_last z = let n = g.more.size in kept_at_clock rows v (length h - 1) g.kept g.after (omega (arith, n, z)) (omega (arith, n, z))

  pub spoiled : (failed : Option ℕ) → ((line : ℕ) → is_at failed line ≡ fails_at v (length h) line) → (line : ℕ)
      → is_spoiled v line ≡ (is_at failed line || is_spoiled h line)
  spoiled failed f line =
      spoils h x v line g.more g.before g.after ∙ ap (λ b. b || is_spoiled h line) (sym (f line))

  pub past : (failed : Option ℕ) → ((line : ℕ) → is_at failed line ≡ fails_at v (length h) line) → ownership_verdict first h ≡ None
      → KnowsPast first h x v rows judge failed
  past failed f none = record {
    more = g.more;
    before = g.before;
    kept = last;
    unbroken = none;
    spoiled = λ line. (g.stands.lines g.room (nothing_yet judge first h g.room none g.stands)).spoiled line;
    fails = spoiled failed f;
  }

  pub shows : (begun : Option Asking) (earlier now : Option LineEnd) (failed : Option ℕ) (given : Bool) (waits : List Waiting)
      → (0 < length h → begun ≡ asking_at v (length h - 1))
      → (0 < length h → earlier ≡ line_end_at v (length h - 1))
      → now ≡ line_end_at v (length h)
      → ((line : ℕ) → is_at failed line ≡ fails_at v (length h) line)
      → (ownership_verdict first h ≡ None → given ≡ is_given_again first v (length h))
      → ShowsWaits v rows (length h) waits
      → Shows first h x v (record { begun = begun; ended_before = earlier; ended = now; failed = failed; is_given_again = given }) waits
  shows begun earlier now failed given waits b e n f again w = record {
    more = g.more;
    before = g.before;
    after = g.after;
    begun = b;
    ended_before = e;
    ended = n;
    spoiled = spoiled failed f;
    given_again = again;
    waiting = w.shown;
    quiet = λ z line none.
        let size = g.more.size in
        quiet rows v line (length h - 1) g.kept g.after (omega (arith, size, z)) (sym (w.lines line) ∙ none);
  }
