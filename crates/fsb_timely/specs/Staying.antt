-- What a clock must leave of an agent's outstanding requests, and of its script, so that its want stays.
use Rattle.std.specs.Prelude.{Bool, Some, false, length, slice_get, true, ℕ, ◌+◌, ◌≡◌, ◌≤◌}
use Rattle.std.specs.List.{list_any}
use Rattle.fsb_access.specs.declared.item.Item.{Item}
use Rattle.fsb_access.specs.declared.log.Done.{Done}
use Rattle.fsb_timely.specs.Past.{Owing, Past}
use Rattle.fsb_timely.specs.Grants.{is_granted}
use Rattle.fsb_timely.specs.Completions.{is_brought}
use Rattle.fsb_timely.specs.Scripts.{Need, is_logged, is_logged_at, items_of, last_done, needs_of, next_number}
use Rattle.fsb_timely.specs.Wants.{is_asked_for, is_missing, owed}

-- agent a begins nothing at c: its outstanding requests of the next clock are some of those of this one, and a line is
-- granted to it at c, or comes with the end of its grant at c, only where one of them is for it
pub record OwesNoMore (p : Past) (a c : ℕ) : Type 0 where
  pub among : (test : Owing → Bool) → list_any test (owed p a (c + 1)) ≡ true → list_any test (owed p a c) ≡ true
  pub fewer : length (owed p a (c + 1)) ≤ length (owed p a c)
  pub granted : (line : ℕ) → is_granted p a line c ≡ true → is_asked_for (owed p a c) line ≡ true
  pub brought : (need : Need) → is_brought p a c need ≡ true → is_asked_for (owed p a c) need.line ≡ true

-- agent a completes its next item at c, and nothing else: the item after it was not logged before, its last entry of c is
-- of that item, and the item has no need for which a might have asked at c
pub record CompletesNext (p : Past) (a c : ℕ) : Type 0 where
  pub number : ℕ
  pub item : Item
  pub next : next_number p a c ≡ Some number
  pub stands : slice_get (items_of p a) number ≡ Some item
  pub logged : is_logged_at p a c number ≡ true
  pub alone : (other : ℕ) → is_logged_at p a c other ≡ true → other ≡ number
  pub fresh : is_logged p a c (number + 1) ≡ false
  pub last : Done
  pub is_last : last_done p a (c + 1) ≡ Some last
  pub last_clock : last.clock ≡ c
  pub last_item : last.item ≡ number
  pub served : list_any (is_missing p a c (owed p a c)) (needs_of item) ≡ false
