-- Texts that grow by one piece.
use Rattle.std.proofs.Common.{◌≡◌, ◌∙◌, ℕ, zero, suc, ◌-◌, ◌<◌, List, ◌++◌, append_assoc, arith, ap, sym}
use Rattle.scope_pick.specs.declared.variable.Variable.{Variable}
use Rattle.scope_wiring.specs.declared.wire.Wire.{Wire}
use Rattle.scope_save.specs.Bits.{pieces_text, word_text}

-- what stands behind some text, once three pieces were put
pub three-put : (old a b c x y z : List ℕ) → x ≡ old ++ a → y ≡ x ++ b → z ≡ y ++ c → z ≡ old ++ (a ++ b ++ c)
three-put old a b c x y z h k l =
    rw (l, k, h) (ap (λ t. t ++ c) (append_assoc old a b) ∙ append_assoc old (a ++ b) c)

-- what is left of a word, once the bits below its highest ones were put
pub word-step : (vs : List Variable) (ws : List Wire) (xs ys zs : List ℕ) (bit : ℕ) → 0 < bit
    → zs ≡ xs ++ pieces_text vs ws (bit - 1) → xs ++ word_text vs ws bit ≡ ys → zs ++ word_text vs ws (bit - 1) ≡ ys
word-step vs ws xs ys zs zero some put ahead = absurd (omega (arith, some))
word-step vs ws xs ys zs (suc bit) some put ahead =
    let less : suc bit - 1 ≡ bit = omega arith in
    let at : zs ≡ xs ++ pieces_text vs ws bit = put ∙ ap (λ n. xs ++ pieces_text vs ws n) less in
    rw less (rw at (append_assoc xs (pieces_text vs ws bit) (word_text vs ws bit) ∙ ahead))

-- the same of five
pub five-put : (old a b c d e v w x y z : List ℕ) → v ≡ old ++ a → w ≡ v ++ b → x ≡ w ++ c → y ≡ x ++ d → z ≡ y ++ e
    → z ≡ old ++ (a ++ b ++ c ++ d ++ e)
five-put old a b c d e v w x y z h i j k l =
    three-put old (a ++ b ++ c) d e x y z (three-put old a b c v w x h i j) k l
