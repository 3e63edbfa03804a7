-- The entries that are written, and what a reader knows of them: their lines and their codes.
use Rattle.std.proofs.Common.{◌≡◌, ◌≢◌, ℕ, zero, suc, ◌+◌, ◌<◌, ◌≤◌, Bool, true, false, List, [], ◌∷◌, ◌++◌, map}
use Rattle.std.proofs.Common.{Option, Some, None, refl, ap, ◌∙◌, arith}
use Rattle.std.proofs.Math.Path.{ap₂}
use Rattle.std.specs.Prelude.{◌==◌, ◌||◌, if◌then◌else◌}
use Rattle.std.proofs.lemmas.List.Folds.{list_any-append}
use Rattle.std.proofs.lemmas.Bool.{ne_eqb, eqb-true, eqb-false, eq-eqb}
use Rattle.fsb_signal.specs.Table.{table}
use Rattle.fsb_signal.specs.DumpText.{dump_code_of}
use Rattle.vcd_grammar.specs.Codes.{Code, with_code, lines_of}
use Rattle.vcd_grammar.specs.Judging.{Known, Header, Values, is_declared, missing_from}
use Rattle.scope_write.specs.Text.{is_needed, is_there, is_written}

-- an entry, if it is written
abbrev pub entry_if : Bool → ℕ → List ℕ
entry_if w number = if w then number ∷ [] else []

-- the numbers of the entries below one that are written
unfoldable pub numbers_below : List Bool → ℕ → List ℕ
numbers_below there zero = []
numbers_below there (suc n) = numbers_below there n ++ entry_if (is_written there n) n

-- an entry's code, which is its own
abbrev pub own_code : ℕ → Code
own_code number = record { code = dump_code_of number ∷ []; lines = number ∷ [] }

-- what is known in a header behind the declarations of the entries below a number
abbrev pub heading : List Bool → ℕ → Known
heading there n = record {
  fault = None;
  mode = Header;
  lines = numbers_below there n;
  codes = map own_code (numbers_below there n);
  time = None;
}

-- what is known among the values, at a time
abbrev pub shown : List Bool → Option ℕ → Known
shown there time = record {
  fault = None;
  mode = Values;
  lines = numbers_below there 22;
  codes = map own_code (numbers_below there 22);
  time = time;
}

-- ---- which are written

declared-one : (w : Bool) (n m : ℕ) → is_declared (entry_if w n) m ≡ (if n == m then w else false)
declared-one true n m = by (n == m)
  where
    by : (t : Bool) → (t || false) ≡ (if t then true else false)
    by true = refl
    by false = refl
declared-one false n m = by (n == m)
  where
    by : (t : Bool) → false ≡ (if t then false else false)
    by true = refl
    by false = refl

-- an entry from the number on is none below it
pub not_declared : (there : List Bool) (n m : ℕ) → n ≤ m → is_declared (numbers_below there n) m ≡ false
unfolding numbers_below
not_declared there zero m h = refl
not_declared there (suc n) m h =
    list_any-append (λ k. k == m) (numbers_below there n) (entry_if (is_written there n) n)
    ∙ ap₂ (λ a b. a || b) (not_declared there n m (omega (arith, h)))
    (declared-one (is_written there n) n m ∙ ap (λ t. if t then is_written there n else false)
    (ne_eqb n m (λ e. omega (arith, h, e))))

or_false : (a : Bool) → (a || false) ≡ a
or_false true = refl
or_false false = refl

-- an entry below the number is one exactly where it is written
pub declared-is : (there : List Bool) (n m : ℕ) → m < n → is_declared (numbers_below there n) m ≡ is_written there m
unfolding numbers_below
declared-is there zero m h = absurd (omega (arith, h))
declared-is there (suc n) m h =
    list_any-append (λ k. k == m) (numbers_below there n) (entry_if (is_written there n) n)
    ∙ ap (λ b. is_declared (numbers_below there n) m || b) (declared-one (is_written there n) n m)
    ∙ by (n == m) refl (λ k. declared-is there n m k)
  where
    by : (t : Bool) → (n == m) ≡ t → (m < n → is_declared (numbers_below there n) m ≡ is_written there m)
        → (is_declared (numbers_below there n) m || (if t then is_written there n else false))
        ≡ is_written there m
    by true e more =
        let same : n ≡ m = eqb-true n m e in
        ap (λ a. a || is_written there n) (not_declared there n m (omega (arith, same)))
        ∙ ap (is_written there) same
    by false e more =
        let other : n ≢ m = eqb-false n m e in
        ap (λ a. a || false) (more (omega (arith, h, other))) ∙ or_false (is_written there m)

-- ---- their codes

-- the codes of two entries are two
code-other : (x m : ℕ) → (x == m) ≡ false → (dump_code_of m == dump_code_of x) ≡ false
code-other x m e = let other : x ≢ m = eqb-false x m e in ne_eqb (33 + m) (33 + x) (λ s. other (omega (arith, s)))

-- the code of an entry that has none yet comes behind those of others
pub code-behind : (lines : List ℕ) (m : ℕ) → is_declared lines m ≡ false
    → with_code (map own_code lines) (dump_code_of m ∷ []) (m ∷ []) ≡ map own_code (lines ++ m ∷ [])
code-behind [] m h = refl
code-behind (x ∷ lines) m h = by (x == m) refl h (λ k. code-behind lines m k)
  where
    by : (t : Bool) → (x == m) ≡ t → (t || is_declared lines m) ≡ false
        → (is_declared lines m ≡ false
        → with_code (map own_code lines) (dump_code_of m ∷ []) (m ∷ []) ≡ map own_code (lines ++ m ∷ []))
        → with_code (map own_code (x ∷ lines)) (dump_code_of m ∷ []) (m ∷ []) ≡ map own_code (x ∷ lines ++ m ∷ [])
    by true e h more = cc
    by false e h more = rw (code-other x m e) (ap (λ cs. own_code x ∷ cs) (more h))

-- the code of an entry is its own
pub code-own : (lines : List ℕ) (m : ℕ) → is_declared lines m ≡ true
    → lines_of (map own_code lines) (dump_code_of m ∷ []) ≡ Some (m ∷ [])
code-own [] m h = cc
code-own (x ∷ lines) m h = by (x == m) refl h (λ k. code-own lines m k)
  where
    by : (t : Bool) → (x == m) ≡ t → (t || is_declared lines m) ≡ true
        → (is_declared lines m ≡ true → lines_of (map own_code lines) (dump_code_of m ∷ []) ≡ Some (m ∷ []))
        → lines_of (map own_code (x ∷ lines)) (dump_code_of m ∷ []) ≡ Some (m ∷ [])
    by true e h more =
        let same : x ≡ m = eqb-true x m e in
        rw (eq-eqb (33 + m) (33 + x) (omega (arith, same))) (ap (λ n. Some (n ∷ [])) same)
    by false e h more = rw (code-other x m e) (more h)

-- ---- what is needed

-- an entry that every dump must declare is written
pub needed-declared : (there : List Bool) (m : ℕ) → m < 22 → is_needed m ≡ true
    → is_declared (numbers_below there 22) m ≡ true
unfolding is_written
needed-declared there m h e = declared-is there 22 m h ∙ ap (λ a. a || is_there there m) e

-- nothing that is needed is missing
pub none_missing : (there : List Bool) → missing_from (numbers_below there 22) 0 table ≡ None
none_missing there =
    rw (need 0 (omega arith) refl)
    (rw (need 1 (omega arith) refl)
    (rw (need 8 (omega arith) refl)
    (rw (need 9 (omega arith) refl)
    (rw (need 10 (omega arith) refl)
    (rw (need 12 (omega arith) refl)
    (rw (need 13 (omega arith) refl)
    (rw (need 15 (omega arith) refl)
    (rw (need 16 (omega arith) refl)
    (rw (need 17 (omega arith) refl)
    (rw (need 18 (omega arith) refl)
    (rw (need 19 (omega arith) refl) refl)))))))))))
  where
    need : (m : ℕ) → m < 22 → is_needed m ≡ true → is_declared (numbers_below there 22) m ≡ true
    need m h e = needed-declared there m h e
