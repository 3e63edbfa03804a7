-- The lines of memory read back.
use Rattle.std.proofs.Common.{◌≡◌, ℕ, ◌+◌, ◌/◌, ◌%◌, ◌^◌, ◌<◌, ◌≤◌, true, List, [], ◌∷◌, ◌++◌, Ok, refl, arith}
use Rattle.std.specs.Prelude.{codes}
use Rattle.std.specs.List.{list_all}
use Rattle.std.proofs.lemmas.Bool.{le-leb, lt-ltb}
use Rattle.std.proofs.lemmas.List.{append_assoc}
use Rattle.fsb_io.specs.NumberText.{hexadecimal}
use Rattle.fsb_script.specs.TextWords.{line_ended, address}
use Rattle.fsb_script.specs.Statements.{memory_of}
use Rattle.fsb_script.specs.Text.{setting_text, digit_text}
use Rattle.fsb_script_laws.proofs.Numbers.{byte_back}
use Rattle.fsb_script_laws.proofs.Split.{is_inner, plain_inner, hex_next, hex_inner, byte_word, next_behind}
use Rattle.fsb_script_laws.proofs.Split.{inner_append}

abbrev pub setting_words : ℕ → ℕ → List ℕ
setting_words addr byte = hexadecimal addr ++ (32 ∷ (digit_text (byte / 16) ∷ digit_text (byte % 16) ∷ []))

pub memory_back : (addr byte : ℕ) → addr < 2 ^ 36 → byte < 256
    → memory_of (32 ∷ setting_words addr byte) ≡ Ok (addr, byte ∷ [])
unfolding memory_of address line_ended
memory_back addr byte below small =
    let wide : addr < 16 ^ 16 = omega arith in
    let inside : addr + 1 ≤ 2 ^ 36 = omega arith in
    rw (hex_next addr (32 ∷ (digit_text (byte / 16) ∷ digit_text (byte % 16) ∷ [])) wide refl)
    (rw (lt-ltb addr (2 ^ 36) below)
    (rw (next_behind (digit_text (byte / 16) ∷ digit_text (byte % 16) ∷ []) []
    (byte_word (byte / 16) (byte % 16) (omega arith) (omega arith)) refl)
    (rw (byte_back byte small) (rw (le-leb (addr + 1) (2 ^ 36) inside) refl))))

pub setting_line : (addr byte : ℕ) (rest : List ℕ)
    → setting_text (record { addr = addr; byte = byte }) ++ rest ≡ (codes "mem " ++ setting_words addr byte)
    ++ (10 ∷ rest)
unfolding setting_text
setting_line addr byte rest = simp append_assoc

pub setting_inner : (addr byte : ℕ) → addr < 2 ^ 36 → byte < 256
    → list_all is_inner (codes "mem " ++ setting_words addr byte) ≡ true
setting_inner addr byte below small =
    let wide : addr < 16 ^ 16 = omega arith in
    inner_append (codes "mem ") (setting_words addr byte) refl
    (inner_append (hexadecimal addr) (32 ∷ (digit_text (byte / 16) ∷ digit_text (byte % 16) ∷ [])) (hex_inner addr wide)
    (plain_inner (digit_text (byte / 16) ∷ digit_text (byte % 16) ∷ [])
    (byte_word (byte / 16) (byte % 16) (omega arith) (omega arith)).plain))
