-- A line that no row names shows nothing at the clock before the last one.
use Rattle.std.proofs.Common.{ℕ, ◌+◌, ◌-◌, ◌<◌, ◌≤◌, ◌≡◌, true, false, length, List}
use Rattle.std.proofs.Common.{refl, sym, ◌∙◌, arith}
use Rattle.fsb_trace.specs.At.{Trace}
use Rattle.fsb_laws.specs.Orderly.{Orderly}
use Rattle.fsb_owners.specs.Shown.{is_coming, is_upgrading, may_drop_at}
use Rattle.fsb_owner_table.specs.declared.row.Row.{Row}
use Rattle.fsb_owner_table.specs.Kept.{rows_of}
use Rattle.fsb_owner_rows.specs.Kept.{AreKeptAt}
use Rattle.fsb_owner_rows.specs.OfRow.{is_named_line}
use Rattle.fsb_owner_rows.proofs.QuietRows.{not_begun, not_coming, not_snooped, not_upgrading}
use Rattle.fsb_owner_judge.specs.Judge.{IsQuiet}

pub kept_at_clock : (rows : List Row) (v : Trace) (c : ℕ) → rows ≡ rows_of v → Orderly v → length v ≤ c + 3 → c < length v
    → AreKeptAt rows v c
kept_at_clock rows v c k o l m = record { kept = k; orderly = o; late = l; within = m }

none_drops : (v : Trace) (line a c : ℕ) → is_coming v line a c ≡ false → is_coming v line a (c + 1) ≡ false
    → is_upgrading v line a c ≡ false → may_drop_at v line c a ≡ true
unfolding may_drop_at
none_drops v line a c e f g = rw (e, f, g) refl

module _ (rows : List Row) (v : Trace) (line c : ℕ) (k : rows ≡ rows_of v) (o : Orderly v) (size : length v ≡ c + 2)
    (none : is_named_line rows line ≡ false) where
  still : (a d : ℕ) → length v ≤ d + 3 → d < length v → is_coming v line a d ≡ false
  still a d l m = not_coming rows v line a d (kept_at_clock rows v d k o l m) none

  idle : (a d : ℕ) → length v ≤ d + 3 → d + 1 < length v → is_upgrading v line a d ≡ false
  idle a d l m = not_upgrading rows v line a d (kept_at_clock rows v d k o l (omega (arith, m))) m none

  free : (a d : ℕ) → length v ≤ d + 3 → d + 1 < length v → may_drop_at v line d a ≡ true
  free a d l m =
      none_drops v line a d (still a d l (omega (arith, m))) (still a (d + 1) (omega (arith, l)) m) (idle a d l m)

  pub quiet : IsQuiet v line c
  quiet = record {
    unnamed = not_begun rows v line c (kept_at_clock rows v c k o (omega (arith, size)) (omega (arith, size))) (omega (arith, size)) none;
    unsnooped = λ j e. not_snooped rows v line c j (kept_at_clock rows v c k o (omega (arith, size)) (omega (arith, size))) none e;
    coming = λ z a. still a (c + 1) (omega (arith, size)) (omega (arith, size)) ∙ sym (still a c (omega (arith, size)) (omega (arith, size)));
    dropping = λ z a.
        free a c (omega (arith, size)) (omega (arith, size)) ∙ sym (free a (c - 1) (omega (arith, size, z)) (omega (arith, size, z)));
  }
