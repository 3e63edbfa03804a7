-- Settings of one line, put one after the other.
use Rattle.std.proofs.Common.{◌≡◌, ℕ, ◌+◌, ◌/◌, ◌%◌, ◌<◌, cond, ◌&&◌, ◌||◌, List, [], ◌∷◌, ◌++◌, length, get_or, set}
use Rattle.std.proofs.Common.{true, take, drop, Bool, sym, ap, ◌∙◌, ⊎_elim, arith, add-one}
use Rattle.std.proofs.lemmas.Bool.{cases_eq}
use Rattle.std.proofs.lemmas.Bool.Decides.{nat_tests}
use Rattle.std.proofs.lemmas.List.Sums.{fold_more, fold-append, prefix_len-drop_yes}
use Rattle.std.proofs.lemmas.List.Folds.{list_any-append}
use Rattle.std.proofs.Math.Bool.{or_comm}
use Rattle.std.proofs.Math.Seq.{take-suc, take-add}
use Rattle.std.specs.Prelude.{◌==◌, nat_lt}
use Rattle.std.specs.List.{list_any, prefix_len}
use Rattle.fsb_access.specs.declared.access.Setting.{Setting}
use Rattle.fsb_memory.specs.Controller.{is_in_line, set_byte, set_bytes}

-- the setting with which a list is looked up past its end
abbrev pub no_setting : Setting
no_setting = record { addr = 0; byte = 0 }

-- the bytes in hand are those of their line after the settings so far, and no other line has changed
abbrev pub BytesSoFar : (ℕ → List ℕ) → ℕ → List ℕ → List Setting → Type 0
BytesSoFar old line bytes settings = (other : ℕ)
    → cond (other == line) bytes (old other) ≡ set_bytes other (old other) settings

pub bytes_so_far-none : (old : ℕ → List ℕ) (line : ℕ) (bytes : List ℕ) → bytes ≡ old line → BytesSoFar old line bytes []
bytes_so_far-none old line bytes is other =
    ⊎_elim (λ same. rw same (grind (arith, nat_tests))) (λ apart. grind (arith, nat_tests)) (cases_eq other line)

pub bytes_so_far-more :
    (old : ℕ → List ℕ) (line : ℕ) (bytes : List ℕ) (settings : List Setting) (count : ℕ) (setting : Setting)
    → BytesSoFar old line bytes (take count settings) → count < length settings
    → setting ≡ get_or settings count no_setting → setting.addr / 32 ≡ line
    → BytesSoFar old line (set bytes (setting.addr % 32) setting.byte) (take (count + 1) settings)
bytes_so_far-more old line bytes settings count setting sofar below is of other =
    let more : set_bytes other (old other) (take (count + 1) settings)
    ≡ set_byte other (set_bytes other (old other) (take count settings)) setting =
    rw is (fold_more (set_byte other) (old other) settings count no_setting below) in
    rw (more, ← sofar other) (grind (arith, nat_tests))

-- the settings so far are of this one line, if there are any
abbrev pub NamesSoFar : ℕ → ℕ → List Setting → Type 0
NamesSoFar line count settings = (other : ℕ)
    → list_any (is_in_line other) settings ≡ (nat_lt 0 count && (other == line))

pub names_so_far-more :
    (line : ℕ) (settings : List Setting) (count : ℕ) (setting : Setting)
    → NamesSoFar line count (take count settings) → count < length settings
    → setting ≡ get_or settings count no_setting → setting.addr / 32 ≡ line
    → NamesSoFar line (count + 1) (take (count + 1) settings)
names_so_far-more line settings count setting sofar below is of other =
    let more : take (count + 1) settings ≡ take count settings ++ setting ∷ [] =
    ap (λ n. take n settings) (add-one count) ∙ take-suc settings count no_setting below
    ∙ ap (λ s. take count settings ++ s ∷ []) (sym is) in
    rw (more, list_any-append, sofar other) (grind (arith, nat_tests))

-- how many settings from a place on are of the line: one more than from the next place on
pub in_line-more :
    (line : ℕ) (settings : List Setting) (count : ℕ) → count < length settings
    → (get_or settings count no_setting).addr / 32 ≡ line
    → prefix_len (is_in_line line) (drop count settings) ≡ 1 + prefix_len (is_in_line line) (drop (count + 1) settings)
in_line-more line settings count below of =
    let here : is_in_line line (get_or settings count no_setting) ≡ true = grind (arith, nat_tests) in
    prefix_len-drop_yes (is_in_line line) settings count no_setting below here

-- a line, and whether it is named, after the settings so far and some more
pub bytes-more :
    (line : ℕ) (zeros before now : List ℕ) (settings : List Setting) (done count : ℕ)
    → before ≡ set_bytes line zeros (take done settings) → now ≡ set_bytes line before (take count (drop done settings))
    → now ≡ set_bytes line zeros (take (done + count) settings)
bytes-more line zeros before now settings done count stands more =
    more ∙ rw (stands, take-add done count settings)
    (sym (fold-append (set_byte line) zeros (take done settings) (take count (drop done settings))))

pub named-more :
    (line : ℕ) (before now : Bool) (settings : List Setting) (done count : ℕ)
    → before ≡ list_any (is_in_line line) (take done settings)
    → now ≡ (list_any (is_in_line line) (take count (drop done settings)) || before)
    → now ≡ list_any (is_in_line line) (take (done + count) settings)
named-more line before now settings done count stands more =
    more ∙ rw (stands, take-add done count settings, list_any-append)
    (or_comm (list_any (is_in_line line) (take count (drop done settings)))
    (list_any (is_in_line line) (take done settings)))
