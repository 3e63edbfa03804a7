-- Texts that grow by three pieces.
use Rattle.std.proofs.Common.{◌≡◌, ◌∙◌, ℕ, List, ◌++◌, append_assoc, ap}

-- what stands behind some text, once three pieces were put
pub three-put : (old a b c x y z : List ℕ) → x ≡ old ++ a → y ≡ x ++ b → z ≡ y ++ c → z ≡ old ++ (a ++ b ++ c)
three-put old a b c x y z h k l =
    rw (l, k, h) (ap (λ t. t ++ c) (append_assoc old a b) ∙ append_assoc old (a ++ b) c)
