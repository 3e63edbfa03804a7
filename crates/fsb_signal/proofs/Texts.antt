-- Texts one after another, as one more is put behind them.
use Rattle.std.proofs.Common.{◌≡◌, ℕ, ◌+◌, ◌-◌, ◌≤◌, List, ◌++◌, refl, append_assoc, arith, suc}
use Rattle.fsb_signal.specs.DumpText.{texts_from}

-- one more text
pub texts_from-next : (f : ℕ → List ℕ) (from n : ℕ) → texts_from f from (n + 1) ≡ texts_from f from n ++ f (from + n)
unfolding texts_from
texts_from-next f from n = let e : n + 1 ≡ suc n = omega arith in rw e refl

-- what stands behind xs, once the text of the number at is put behind those from `from` on
pub texts_from-step : (f : ℕ → List ℕ) (from at : ℕ) (xs ys zs : List ℕ)
    → from ≤ at → ys ≡ xs ++ texts_from f from (at - from)
    → zs ≡ ys ++ f at → zs ≡ xs ++ texts_from f from (at + 1 - from)
texts_from-step f from at xs ys zs low h k =
    let e : at + 1 - from ≡ (at - from) + 1 = omega (arith, low) in
    let at_is : from + (at - from) ≡ at = omega (arith, low) in
    rw (k, h, e, texts_from-next f from (at - from), at_is) (append_assoc xs (texts_from f from (at - from)) (f at))
