-- The samples before the first broken phase rule, with one sample more.
use Rattle.std.proofs.Common.{◌≡◌, ◌∙◌, ℕ, zero, suc, ◌+◌, ◌<◌, ◌≤◌, Bool, true, false, ◌^◌, Option, Some, None, List, [], ◌∷◌, ◌++◌, length, take, filter, refl, sym, ap, subst, arith, append_assoc, append-nil, length-append, Result, Ok, Err, OnOk, IfOk}
use Rattle.std.specs.Option.{is_some}
use Rattle.std.proofs.Math.Seq.{take-length}
use Rattle.std.proofs.lemmas.List.{take-append-le}
use Rattle.std.proofs.lemmas.Grind.{flat_map-append}
use Rattle.fsb_count.specs.Clocks.{first_where}
use Rattle.fsb_signal.specs.declared.marks.Marks.{Marks}
use Rattle.fsb_signal.specs.declared.sample.Sample.{Sample}
use Rattle.fsb_trace.specs.At.{Trace}
use Rattle.fsb_trace.specs.Verdict.{verdict}
use Rattle.fsb_trace.proofs.Interface.{AgreeTo-sym, verdict-least, verdict-stays}
use Rattle.fsb_laws.specs.Orderly.{Orderly}
use Rattle.fsb_laws.proofs.Interface.{one_more}
use Rattle.fsb_rules.specs.declared.broken.Broken.{Broken}
use Rattle.fsb_rules.specs.Checker.{Stands as CheckerStands, as_broken}
use Rattle.fsb_rules.proofs.Interface.{as_broken-none}
use Rattle.fsb_owner_feed.specs.Table.{Stands as TableStands, fed}
use Rattle.fsb_owner_table.specs.declared.row.Row.{Row}
use Rattle.std.proofs.lemmas.Bool.{leb-false}
use Rattle.fsb_owner_table.specs.Kept.{rows_of}
use Rattle.fsb_recent.specs.Over.{is_newly_over, newly_over, over_of, over_until}
use Rattle.row_texts.specs.declared.line.Form.{Form}
use Rattle.row_texts.specs.Lines.{head_text, line_text, lines_text}
use Rattle.request_lines.specs.declared.lines.RequestLines.{RequestLines}
use Rattle.request_lines.specs.Standing.{IsSound, Stands, is_full}
use Rattle.request_lines.specs.Tables.{before_verdict, over_text, sound_part}

-- no sample breaks no rule
pub none-first : (m : Marks) → verdict m [] ≡ None
unfolding verdict first_where
none-first m = refl

pub sound-first : (m : Marks) → sound_part m [] ≡ []
unfolding before_verdict
sound-first m = rw (none-first m) refl

pub head-only : (form : Form) (before : ℕ) (m : Marks) → over_text form before m [] ≡ head_text form
unfolding over_until
head-only form before m =
    ap (λ v. head_text form ++ lines_text form before (over_of v)) (sound-first m) ∙ append-nil (head_text form)

-- ---- which requests are over, one sample on

module _ (h : Trace) (x : Sample) where
  over-before : (n : ℕ) → n ≤ length h → over_until (h ++ x ∷ []) n ≡ over_until h n
  unfolding over_until
  over-before zero l = refl
  over-before (suc n) l =
      ap (λ rows. rows ++ newly_over (take (suc n) (h ++ x ∷ []))) (over-before n (omega (arith, l)))
      ∙ ap (λ v. over_until h n ++ newly_over v) (take-append-le (suc n) h (x ∷ []) l)

  size : length (h ++ x ∷ []) ≡ suc (length h)
  size = length-append h (x ∷ []) ∙ omega arith

  whole : take (suc (length h)) (h ++ x ∷ []) ≡ h ++ x ∷ []
  whole = ap (λ n. take n (h ++ x ∷ [])) (sym size) ∙ take-length (h ++ x ∷ [])

  over-last : over_until (h ++ x ∷ []) (suc (length h)) ≡ over_of h ++ newly_over (h ++ x ∷ [])
  unfolding over_until
  over-last =
      ap (λ rows. rows ++ newly_over (take (suc (length h)) (h ++ x ∷ []))) (over-before (length h) (omega arith))
      ∙ ap (λ v. over_of h ++ newly_over v) whole

  -- with the sample those are over that were, and those that are over with it
  over_more : over_of (h ++ x ∷ []) ≡ over_of h ++ newly_over (h ++ x ∷ [])
  over_more = ap (over_until (h ++ x ∷ [])) size ∙ over-last

-- ---- the samples before the first broken rule

-- where no rule is broken, these are all samples
pub sound-whole : (m : Marks) (w : Trace) → verdict m w ≡ None → sound_part m w ≡ w
unfolding before_verdict
sound-whole m w e = rw e refl

sound-some : (m : Marks) (w : Trace) (p : ℕ × ℕ) → verdict m w ≡ Some p → sound_part m w ≡ take p.0 w
unfolding before_verdict
sound-some m w p e = rw e refl

as_broken-some : (p : Option (ℕ × ℕ)) (b : Broken) → Some b ≡ as_broken p → p ≡ Some (b.clock, b.rule)
unfolding as_broken
as_broken-some None b e = absurd (let no : ⊥ = cc in no)
as_broken-some (Some p) b e =
    let same : b ≡ record { clock = p.0; rule = p.1 } = cc in rw same refl

module _ (m : Marks) (w : Trace) (x : Sample) where
  kept : (p : ℕ × ℕ) → verdict m w ≡ Some p → verdict m (w ++ x ∷ []) ≡ Some p
  kept p e = verdict-stays (length w) m w (w ++ x ∷ []) p.0 p.1 (one_more w x).agree (verdict-least m w p.0 p.1 e).0 e

  sound-kept : (p : ℕ × ℕ) → verdict m w ≡ Some p → sound_part m (w ++ x ∷ []) ≡ sound_part m w
  sound-kept p e =
      let low : p.0 < length w = (verdict-least m w p.0 p.1 e).0 in
      sound-some m (w ++ x ∷ []) p (kept p e) ∙ take-append-le p.0 w (x ∷ []) (omega (arith, low)) ∙ sym (sound-some m w p e)

  not-before : (p : ℕ × ℕ) → verdict m w ≡ None → verdict m (w ++ x ∷ []) ≡ Some p → p.0 < length w → ⊥
  not-before p none e less =
      let there : verdict m w ≡ Some p =
      verdict-stays (length w) m (w ++ x ∷ []) w p.0 p.1 (AgreeTo-sym (length w) w (w ++ x ∷ []) (one_more w x).agree) less e in
      let no : ⊥ = cc in no

  at-last : (n a b : ℕ) → a < b → b ≡ n + 1 → (a < n → ⊥) → a ≡ n
  at-last n a b low size never = omega (arith, low, size, never)

  last : (p : ℕ × ℕ) → verdict m w ≡ None → verdict m (w ++ x ∷ []) ≡ Some p → p.0 ≡ length w
  last p none e =
      at-last (length w) p.0 (length (w ++ x ∷ [])) (verdict-least m (w ++ x ∷ []) p.0 p.1 e).0 (one_more w x).size
      (not-before p none e)

  sound-now : (p : ℕ × ℕ) → verdict m w ≡ None → verdict m (w ++ x ∷ []) ≡ Some p → sound_part m (w ++ x ∷ []) ≡ w
  sound-now p none e =
      sound-some m (w ++ x ∷ []) p e ∙ ap (λ n. take n (w ++ x ∷ [])) (last p none e)
      ∙ take-append-le (length w) w (x ∷ []) (omega arith) ∙ take-length w

  -- where a rule was broken before, nothing changes
  pub stays : (o : Option (ℕ × ℕ)) (b : Option Broken) → verdict m w ≡ o → is_some b ≡ true → b ≡ as_broken (verdict m w)
      → (verdict m (w ++ x ∷ []) ≡ verdict m w) × (sound_part m (w ++ x ∷ []) ≡ sound_part m w)
  stays None None e on is = absurd (let no : ⊥ = cc in no)
  stays None (Some b) e on is =
      let p = as_broken-some (verdict m w) b is in absurd (let no : ⊥ = cc in no)
  stays (Some p) b e on is = (kept p e ∙ sym e, sound-kept p e)

  -- where one is broken first with the sample, the samples before it stay
  pub now-same : (b : Broken) → verdict m w ≡ None → Some b ≡ as_broken (verdict m (w ++ x ∷ []))
      → sound_part m (w ++ x ∷ []) ≡ sound_part m w
  now-same b none e =
      sound-now (b.clock, b.rule) none (as_broken-some (verdict m (w ++ x ∷ [])) b e) ∙ sym (sound-whole m w none)

  -- with a sample that breaks none the lines of the requests that are over with it come
  pub more-over : (form : Form) (before : ℕ) (text : List ℕ) → verdict m w ≡ None → verdict m (w ++ x ∷ []) ≡ None
      → text ≡ lines_text form before (newly_over (w ++ x ∷ []))
      → over_text form before m (w ++ x ∷ []) ≡ over_text form before m w ++ text
  more-over form before text none still is =
      let f = line_text form before in
      ap (λ v. head_text form ++ lines_text form before (over_of v)) (sound-whole m (w ++ x ∷ []) still)
      ∙ ap (λ rows. head_text form ++ lines_text form before rows) (over_more w x)
      ∙ ap (λ t. head_text form ++ t) (flat_map-append f (over_of w) (newly_over (w ++ x ∷ [])))
      ∙ sym (append_assoc (head_text form) (lines_text form before (over_of w)) (lines_text form before (newly_over (w ++ x ∷ []))))
      ∙ ap (λ t. (head_text form ++ lines_text form before (over_of w)) ++ t) (sym is)
      ∙ ap (λ v. (head_text form ++ lines_text form before (over_of v)) ++ text) (sym (sound-whole m w none))

  -- and else nothing comes
  pub no-more : (form : Form) (before : ℕ) → sound_part m (w ++ x ∷ []) ≡ sound_part m w
      → over_text form before m (w ++ x ∷ []) ≡ over_text form before m w ++ []
  no-more form before e =
      ap (λ v. head_text form ++ lines_text form before (over_of v)) e ∙ sym (append-nil (over_text form before m w))

pub found-first : (m : Marks) → None ≡ as_broken (verdict m [])
unfolding as_broken
found-first m = rw (none-first m) refl

-- a trace that the judge of the rules follows is orderly
pub orderly-of : (c : RequestLines) (m : Marks) (w : Trace) → CheckerStands c.checker m w → verdict m w ≡ None → Orderly w
unfolding as_broken
orderly-of c m w s e = (s.follows (s.found ∙ ap as_broken e)).orderly

-- ---- the machine

-- those of the rows that are newly over are the trace's
pub newly-is : (n : ℕ) (rows : List Row) (v : Trace) → n ≡ length v → rows ≡ rows_of v
    → filter (λ row. is_newly_over row n) rows ≡ newly_over v
newly-is n rows v e same =
    ap (filter (λ row. is_newly_over row n)) same ∙ ap (λ m. filter (λ row. is_newly_over row m) (rows_of v)) e

pub none-of : (o : Option Broken) → is_some o ≡ false → o ≡ None
none-of None e = refl
none-of (Some b) e = absurd (let no : ⊥ = cc in no)

pub some-is : (o : Option Broken) → is_some o ≡ true → o ≡ None → ⊥
some-is None on e = let no : ⊥ = cc in no
some-is (Some b) on e = let no : ⊥ = cc in no

-- where nothing was found, no rule is broken
pub unbroken : (x : RequestLines) (form : Form) (m : Marks) (w : Trace) → Stands x form m w → x.found ≡ None → verdict m w ≡ None
unbroken x form m w s e = as_broken-none (verdict m w) (sym s.found ∙ e)

pub table-whole : (x : RequestLines) (form : Form) (m : Marks) (w : Trace) → Stands x form m w → x.found ≡ None
    → TableStands x.table w
table-whole x form m w s e =
    subst (λ v. TableStands x.table v) (sound-whole m w (unbroken x form m w s e)) s.table

-- it is not full: it may take one more
pub room-of : (x : RequestLines) → is_full x ≡ false → x.found ≡ None → fed x.table < 4294967280
room-of x room e = leb-false 4294967280 (fed x.table) (rw e at room)

-- so many samples were fed to its judge
pub short-of : (x : RequestLines) (form : Form) (m : Marks) (w : Trace) → Stands x form m w → x.found ≡ None
    → fed x.table < 4294967280 → length w < 2 ^ 32
short-of x form m w s e low =
    let size = (table-whole x form m w s e).clock in omega (arith, low, size)

-- what it stands for, where a rule was broken before
pub still-stands : (x : RequestLines) (form : Form) (m : Marks) (w : Trace) (y : Sample) → Stands x form m w
    → is_some x.found ≡ true → Stands x form m (w ++ y ∷ [])
still-stands x form m w y s on =
    let e = stays m w y (verdict m w) x.found refl on s.found in
    record {
      formed = s.formed;
      found = s.found ∙ ap as_broken (sym e.0);
      checker = λ none. absurd (some-is x.found on none);
      table = subst (λ v. TableStands x.table v) (sym e.1) s.table;
      orderly = subst Orderly (sym e.1) s.orderly;
      few = s.few;
    }

pub still-over : (x : RequestLines) (form : Form) (before : ℕ) (m : Marks) (w : Trace) (y : Sample) → Stands x form m w
    → is_some x.found ≡ true → over_text form before m (w ++ y ∷ []) ≡ over_text form before m w ++ []
still-over x form before m w y s on = no-more m w y form before (stays m w y (verdict m w) x.found refl on s.found).1

some-none : (b : Broken) → Some b ≡ None → ⊥
some-none b e = cc

-- where one is broken first
pub broken-stands : (x now : RequestLines) (form : Form) (m : Marks) (w : Trace) (y : Sample) (b : Broken) → Stands x form m w
    → x.found ≡ None → Some b ≡ as_broken (verdict m (w ++ y ∷ [])) → now.form ≡ x.form → now.table ≡ x.table
    → now.found ≡ Some b → Stands now form m (w ++ y ∷ [])
broken-stands x now form m w y b s none e f t is =
    let same = now-same m w y b (unbroken x form m w s none) e in
    record {
      formed = f ∙ s.formed;
      found = is ∙ e;
      checker = λ no. absurd (some-none b (sym is ∙ no));
      table = subst (λ v. TableStands now.table v) (sym same) (subst (λ z. TableStands z (sound_part m w)) (sym t) s.table);
      orderly = subst Orderly (sym same) s.orderly;
      few = subst (λ z. fed z < 2 ^ 32) (sym t) s.few;
    }

pub broken-over : (x : RequestLines) (form : Form) (before : ℕ) (m : Marks) (w : Trace) (y : Sample) (b : Broken)
    → Stands x form m w → x.found ≡ None → Some b ≡ as_broken (verdict m (w ++ y ∷ []))
    → over_text form before m (w ++ y ∷ []) ≡ over_text form before m w ++ []
broken-over x form before m w y b s none e =
    no-more m w y form before (now-same m w y b (unbroken x form m w s none) e)

-- where none is
pub sound-of : (x fed-one : RequestLines) (form : Form) (m : Marks) (w : Trace) (y : Sample) → Stands x form m w
    → x.found ≡ None → None ≡ as_broken (verdict m (w ++ y ∷ [])) → CheckerStands fed-one.checker m (w ++ y ∷ [])
    → fed-one.form ≡ x.form → fed-one.table ≡ x.table → fed-one.found ≡ x.found → IsSound fed-one form m w y
sound-of x fed-one form m w y s none e c f t is =
    let before = unbroken x form m w s none in
    let after = as_broken-none (verdict m (w ++ y ∷ [])) (sym e) in
    record {
      formed = f ∙ s.formed;
      none = is ∙ none;
      before = before;
      after = after;
      checker = c;
      table = subst (λ z. TableStands z w) (sym t) (table-whole x form m w s none);
      orderly = subst Orderly (sound-whole m w before) s.orderly;
      still = orderly-of fed-one m (w ++ y ∷ []) c after;
    }

-- what it stands for behind a sample that the table took
pub taken-stands : (x now : RequestLines) (form : Form) (m : Marks) (w : Trace) (y : Sample) → IsSound x form m w y
    → TableStands now.table (w ++ y ∷ []) → now.form ≡ x.form → now.checker ≡ x.checker → now.found ≡ x.found
    → fed now.table < 2 ^ 32 → Stands now form m (w ++ y ∷ [])
unfolding as_broken
taken-stands x now form m w y s t f c is few =
    let whole = sound-whole m (w ++ y ∷ []) s.after in
    record {
      formed = f ∙ s.formed;
      found = is ∙ s.none ∙ sym (ap as_broken s.after);
      checker = λ none. subst (λ k. CheckerStands k m (w ++ y ∷ [])) (sym c) s.checker;
      table = subst (λ v. TableStands now.table v) (sym whole) t;
      orderly = subst Orderly (sym whole) s.still;
      few = few;
    }

-- ---- answers

pub always-ok : {T E : Type 0} (r : Result T E) (P : Type 0) → P → OnOk r P
always-ok (Ok t) P p = p
always-ok (Err e) P p = tt

pub weaker-if-ok : {T E : Type 0} (r : Result T E) (P Q : T → Type 0) → ((t : T) → P t → Q t) → IfOk r P → IfOk r Q
weaker-if-ok (Ok t) P Q f p = f t p
weaker-if-ok (Err e) P Q f p = tt

pub weaker-on-ok : {T E : Type 0} (r : Result T E) (P Q : Type 0) → (P → Q) → OnOk r P → OnOk r Q
weaker-on-ok (Ok t) P Q f p = f p
weaker-on-ok (Err e) P Q f p = tt
