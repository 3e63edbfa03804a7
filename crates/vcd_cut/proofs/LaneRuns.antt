-- From the mask of a load to the bytes that pass a test.
use Rattle.std.proofs.Common.{◌≡◌, ℕ, ◌+◌, ◌%◌, ◌^◌, ◌<◌, ◌≤◌, zero, suc, Bool, true, not, List, []}
use Rattle.std.proofs.Common.{◌∷◌, map, length, get_or, take, Fits, w8, refl, sym, ap, ap₂, ◌∙◌, subst, arith}
use Rattle.std.proofs.lemmas.Bool.{agree_below, agree_below_at, not-true, not-false, and_from}
use Rattle.std.proofs.lemmas.Simd.{map-map, mask_l-mod, length-chunk, first_set_mask_l, run_in_chunk_le}
use Rattle.std.proofs.lemmas.Simd.{run_in_chunk_fails, run_in_chunk_stops, zip2-map}
use Rattle.std.proofs.lemmas.List.{length-map}
use Rattle.std.proofs.lemmas.List.Folds.{list_all_more}
use Rattle.std.specs.List.{prefix_len, list_all}
use lib.Lanes.{chunk, zip2, mask_l, top}
use Rattle.vcd_cut.specs.Lanes.{first_set, IsRunOf}

-- an operation on two vectors that were computed lane by lane from v
pub joined : (h : ℕ → ℕ → ℕ) (f g : ℕ → ℕ) (v : List ℕ) {a b : List ℕ} → a ≡ map f v → b ≡ map g v
    → zip2 h a b ≡ map (λ x. h (f x) (g x)) v
joined h f g v p q = ap₂ (zip2 h) p q ∙ zip2-map h f g v

pub itself : (v : List ℕ) → v ≡ map (λ x. x) v
itself [] = refl
itself (x ∷ xs) = ap (λ r. x ∷ r) (itself xs)

module _ (q : ℕ → Bool) (d : List ℕ) (i r : ℕ) (z : List ℕ) (room : i + 16 ≤ length d)
    (fits : (k : ℕ) → Fits w8 (get_or d k 0)) (found : r ≡ first_set (mask_l (map (top 7) z) % 2 ^ 64) 16)
    (f : ℕ → ℕ) (lanes : z ≡ map f (chunk i 16 d)) where
  abbrev stop : ℕ → Bool
  stop x = top 7 (f x)

  long : length (chunk i 16 d) ≡ 16
  long = length-chunk i 16 d room

  counted : r ≡ prefix_len (λ x. not (stop x)) (chunk i 16 d)
  counted =
      let v = chunk i 16 d in
      let mask = ap (λ l. mask_l l % 2 ^ 64) (ap (map (top 7)) lanes ∙ map-map (top 7) f v)
      ∙ mask_l-mod (map stop v) 64 (omega (arith, length-map v stop, long)) in
      found ∙ ap (λ m. first_set m 16) mask ∙ first_set_mask_l stop v 16 long (omega arith)

  -- a lane stops just where the test fails
  pub run_of : agree_below stop (λ x. not (q x)) 256 ≡ true → IsRunOf q d i r
  run_of all = record {
    few = run_in_chunk_le stop d i 16 r 0 room counted;
    passes = λ k from to. not-false _
        (sym (agree_below_at stop (λ x. not (q x)) 256 (get_or d k 0) all (fits k).fits)
        ∙ run_in_chunk_fails stop d i 16 r 0 room counted k from to);
    stops = λ short. not-true _
        (sym (agree_below_at stop (λ x. not (q x)) 256 (get_or d (i + r) 0) all (fits (i + r)).fits)
        ∙ run_in_chunk_stops stop d i 16 r 0 room counted short);
  }

-- first bytes that pass, and further ones
pub more_pass : (q : ℕ → Bool) (bytes : List ℕ) (at run : ℕ) → at + run ≤ length bytes
    → list_all q (take at bytes) ≡ true → ((k : ℕ) → at ≤ k → k < at + run → q (get_or bytes k 0) ≡ true)
    → list_all q (take (at + run) bytes) ≡ true
more_pass q bytes at zero room first further =
    let none : at ≡ at + 0 = omega arith in subst (λ n. list_all q (take n bytes) ≡ true) none first
more_pass q bytes at (suc run) room first further =
    let before = more_pass q bytes at run (omega (arith, room)) first
    (λ k from to. further k from (omega (arith, to))) in
    let one : at + run + 1 ≡ at + suc run = omega arith in
    subst (λ n. list_all q (take n bytes) ≡ true) one (list_all_more q bytes (at + run) 0 (omega (arith, room))
    ∙ and_from _ _ before (further (at + run) (omega arith) (omega arith)))
