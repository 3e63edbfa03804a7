-- Lists of lines on which somebody waits.
use Rattle.std.proofs.Common.{ℕ, ◌≡◌, Bool, true, false, cond, not, ◌&&◌, ◌||◌, nat_eq, List, [], ◌∷◌, ◌++◌, Option, Some, None, refl, sym, ap, ◌∙◌, arith}
use Rattle.std.specs.Prelude.{Result, Ok, Err, OnOk}
use Rattle.std.specs.List.{list_any}
use Rattle.std.proofs.lemmas.Bool.{and_right}
use Rattle.std.proofs.lemmas.List.Folds.{list_any-append}
use Rattle.fsb_count.proofs.Interface.{nat_eq-sym}
use Rattle.fsb_count.specs.Options.{is_at, is_some_and}
use Rattle.fsb_trace.specs.At.{Trace}
use Rattle.fsb_trace.specs.Requests.{is_reply}
use Rattle.fsb_owner_table.specs.declared.row.Row.{Row}
use Rattle.fsb_owner_rows.specs.OfRow.{row_line, row_names}
use Rattle.fsb_joint.specs.LineClock.{droppable_at, ready_at}
use Rattle.fsb_owner_judge.specs.declared.sights.Waiting.{Waiting}
use Rattle.fsb_owner_judge.specs.Lines.{ShowWaits, is_waiting}

or_off : (a b : Bool) → (a || b) ≡ false → (a ≡ false) × (b ≡ false)
or_off false false e = (refl, refl)
or_off false true e = absurd (let no : ⊥ = cc in no)
or_off true b e = absurd (let no : ⊥ = cc in no)

off_or : (a b : Bool) → a ≡ false → b ≡ false → (a || (b || false)) ≡ false
off_or a b e f = rw (e, f) refl

last_false : (b : Bool) → (b || false) ≡ b
last_false true = refl
last_false false = refl

-- one more line
pub waiting_more : (ws : List Waiting) (w : Waiting) (line : ℕ)
    → is_waiting (ws ++ w ∷ []) line ≡ (is_waiting ws line || nat_eq w.line line)
waiting_more ws w line =
    list_any-append (λ k. nat_eq k.line line) ws (w ∷ [])
    ∙ ap (λ b. is_waiting ws line || b) (last_false (nat_eq w.line line))

-- a line that is none of the others
pub shows_more : (v : Trace) (c : ℕ) (ws : List Waiting) (w : Waiting) → ShowWaits v c ws → is_waiting ws w.line ≡ false
    → w.ready ≡ ready_at v w.line c → w.may_drop ≡ droppable_at v w.line c → ShowWaits v c (ws ++ w ∷ [])
shows_more v c [] w s f r d = ((refl, r, d), tt)
shows_more v c (k ∷ ws) w s f r d =
    let o = or_off (nat_eq k.line w.line) (is_waiting ws w.line) f in
    let apart : is_waiting (ws ++ w ∷ []) k.line ≡ false =
    waiting_more ws w k.line ∙ (rw (s.0.0, nat_eq-sym w.line k.line, o.0) refl) in
    ((apart, s.0.1, s.0.2), shows_more v c ws w s.1 o.1 r d)

-- the line that was added
pub added : (v : Trace) (c : ℕ) (ws slice new : List Waiting) (w : Waiting) (line : ℕ) (b : Bool) → slice ≡ ws
    → b ≡ is_waiting slice line → b ≡ false → w.line ≡ line → new ≡ ws ++ w ∷ [] → w.ready ≡ ready_at v line c
    → w.may_drop ≡ droppable_at v line c → ShowWaits v c ws → ShowWaits v c new
added v c ws slice new w line b s i f l n r d shows =
    let none : is_waiting ws w.line ≡ false =
    ap (is_waiting ws) l ∙ ap (λ xs. is_waiting xs line) (sym s) ∙ sym i ∙ f in
    let ready : w.ready ≡ ready_at v w.line c = r ∙ ap (λ k. ready_at v k c) (sym l) in
    let drops : w.may_drop ≡ droppable_at v w.line c = d ∙ ap (λ k. droppable_at v k c) (sym l) in
    rw n (shows_more v c ws w shows none ready drops)

-- the line that a row names

names_cases : (row : Row) (line other : ℕ) (b : Bool) → is_reply row.seen.request ≡ b → Some line ≡ cond b None row.line
    → nat_eq line other ≡ row_names other row
unfolding is_at is_some_and
names_cases row line other true e s = absurd (let no : ⊥ = cc in no)
names_cases row line other false e s = rw (e, ← s) (sym (last_true (nat_eq line other)))
  where
    last_true : (b : Bool) → (b && true) ≡ b
    last_true true = refl
    last_true false = refl

pub names_some : (row : Row) (line other : ℕ) → Some line ≡ row_line row → nat_eq line other ≡ row_names other row
names_some row line other s = names_cases row line other (is_reply row.seen.request) refl s

none_cases : (row : Row) (other : ℕ) (b : Bool) → is_reply row.seen.request ≡ b → None ≡ cond b None row.line
    → row_names other row ≡ false
unfolding is_at is_some_and
none_cases row other true e s = and_right (is_at row.line other) (not (is_reply row.seen.request)) (rw e refl)
none_cases row other false e s = rw (← s) refl

pub names_none : (row : Row) (other : ℕ) (b : Bool) → None ≡ row_line row → b ≡ (b || row_names other row)
names_none row other b s = rw (none_cases row other (is_reply row.seen.request) refl s) (sym (last_false b))

pub ok_more : {T E : Type 0} (r : Result T E) {P Q : Type 0} → (P → Q) → OnOk r P → OnOk r Q
ok_more (Ok x) f p = f p
ok_more (Err e) f p = p
