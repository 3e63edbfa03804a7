-- The text of a clock, of its edges.
use Rattle.std.proofs.Common.{◌≡◌, ◌≢◌, ℕ, ◌+◌, ◌-◌, ◌*◌, List, [], ◌++◌, refl, codes, decimal, append_assoc}
use Rattle.std.proofs.lemmas.Bool.{ne_eqb}
use Rattle.fsb_signal.specs.declared.sample.Sample.{Sample}
use Rattle.fsb_signal.specs.DumpText.{clock_text, texts_from, change_text, entries_in}

-- an edge behind t, at a time whose digits are d
abbrev pub with_edge : List ℕ → List ℕ → List ℕ → List ℕ
with_edge t d edge = t ++ (codes "#" ++ d ++ codes "\n" ++ edge)

rises : (d : List ℕ) → with_edge [] d (codes "1!\n") ≡ [] ++ codes "#" ++ d ++ codes "\n1!\n"
rises d = simp append_assoc refl

-- the same pieces, grouped by edges and in a row
in_a_row : (h d n f c e r : List ℕ)
    → [] ++ (h ++ d ++ n ++ f) ++ c ++ (h ++ e ++ n ++ r) ≡ (h ++ d ++ (n ++ f) ++ c) ++ h ++ e ++ (n ++ r)
in_a_row h d n f c e r = simp append_assoc refl

falls_and_rises : (d changes e : List ℕ) →
    with_edge (with_edge [] d (codes "0!\n") ++ changes) e (codes "1!\n")
    ≡ (codes "#" ++ d ++ codes "\n0!\n" ++ changes) ++ codes "#" ++ e ++ codes "\n1!\n"
falls_and_rises d changes e = in_a_row (codes "#") d (codes "\n") (codes "0!\n") changes e (codes "1!\n")

-- clock 0 is its rising edge
pub clock_text-zero : (profile clock : ℕ) (before now : Sample) → clock ≡ 0
    → with_edge [] (decimal (10 * clock + 5)) (codes "1!\n") ≡ clock_text profile clock before now
unfolding clock_text
clock_text-zero profile clock before now zero = rw zero (rises (decimal (10 * 0 + 5)))

-- a later clock is its falling edge, what changed, and its rising edge
pub clock_text-later : (profile clock : ℕ) (before now : Sample) → clock ≢ 0 →
    with_edge (with_edge [] (decimal (10 * clock))
    (codes "0!\n") ++ texts_from (change_text before now) 1 (entries_in profile - 1))
    (decimal (10 * clock + 5)) (codes "1!\n")
    ≡ clock_text profile clock before now
unfolding clock_text
clock_text-later profile clock before now later =
    rw (ne_eqb clock 0 later)
    (falls_and_rises (decimal (10 * clock)) (texts_from (change_text before now) 1 (entries_in profile - 1))
    (decimal (10 * clock + 5)))
