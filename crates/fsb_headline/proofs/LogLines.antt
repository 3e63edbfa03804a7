-- What the printed lines of a log tell of it: of each entry its clock, its agent and its value, and how many there are.
use Rattle.std.proofs.Common.{◌≡◌, ◌++◌, ◌∙◌, ◌^◌, ◌<◌, ℕ, suc, List, [], ◌∷◌, arith, append_assoc, sym}
use Rattle.std.specs.Fmt.{decimal}
use Rattle.std.specs.List.{All, flat_map}
use Rattle.std.proofs.lemmas.Fmt.{decimal_injective}
use Rattle.fsb_access.specs.declared.access.Access.{Access}
use Rattle.fsb_access.specs.declared.access.Access.TheVariants.{Load, Store}
use Rattle.fsb_access.specs.declared.log.Done.{Done}
use Rattle.fsb_io.specs.NumberText.{hexadecimal}
use Rattle.fsb_report.specs.LogText.{log_line_text, logged_access_text}
use Rattle.fsb_headline.proofs.NumberSplit.{decimal-no_e, decimal-split, hex_blank-split, hex_line-split}

-- what is printed behind the number of an item, up to the blank in front of `=`
access_behind : Access → List ℕ → List ℕ
access_behind (Load size addr) rest = 32 ∷ 108 ∷ 100 ∷ 32 ∷ (decimal size ++ 32 ∷ (hexadecimal addr ++ 32 ∷ rest))
access_behind (Store size addr value) rest =
    32 ∷ 115 ∷ 116 ∷ 32 ∷ (decimal size ++ 32 ∷ (hexadecimal addr ++ 32 ∷ rest))

access-spelled : (access : Access) (rest : List ℕ)
    → logged_access_text access ++ 32 ∷ rest ≡ access_behind access rest
unfolding logged_access_text access_behind
access-spelled (Load size addr) rest = simp append_assoc
access-spelled (Store size addr value) rest = simp append_assoc

-- what begins with the clock of an entry, and goes on behind its line
line_then : Done → List ℕ → List ℕ
line_then done rest =
    decimal done.clock ++ 32 ∷ (decimal done.agent ++ 32 ∷ (decimal done.item
    ++ access_behind done.access (61 ∷ 32 ∷ (hexadecimal done.value ++ 10 ∷ rest))))

line-spelled : (done : Done) (rest : List ℕ) → log_line_text done ++ rest ≡ line_then done rest
unfolding log_line_text line_then
line-spelled done rest =
    rw (sym (access-spelled done.access (61 ∷ 32 ∷ (hexadecimal done.value ++ 10 ∷ rest)))) (simp append_assoc)

heads : (a b : ℕ) (s t : List ℕ) → a ∷ s ≡ b ∷ t → a ≡ b
heads a b s t e = cc

-- behind an access, what follows is known, and behind an item's number too
access-split : (x y : Access) (m n : ℕ) (s t : List ℕ)
    → decimal m ++ access_behind x s ≡ decimal n ++ access_behind y t → s ≡ t
unfolding access_behind
access-split (Load size addr) (Load size' addr') m n s t e =
    let same = (decimal-split m n _ _ e).1 in
    let behind : decimal size ++ 32 ∷ (hexadecimal addr ++ 32 ∷ s) ≡ decimal size' ++ 32 ∷ (hexadecimal addr' ++ 32 ∷ t)
    = cc in
    (hex_blank-split addr addr' s t (decimal-split size size' _ _ behind).1).1
access-split (Load size addr) (Store size' addr' value') m n s t e =
    let same = (decimal-split m n _ _ e).1 in
    absurd (omega (arith, heads 108 115 _ _ same))
access-split (Store size addr value) (Load size' addr') m n s t e =
    let same = (decimal-split m n _ _ e).1 in
    absurd (omega (arith, heads 115 108 _ _ same))
access-split (Store size addr value) (Store size' addr' value') m n s t e =
    let same = (decimal-split m n _ _ e).1 in
    let behind : decimal size ++ 32 ∷ (hexadecimal addr ++ 32 ∷ s) ≡ decimal size' ++ 32 ∷ (hexadecimal addr' ++ 32 ∷ t)
    = cc in
    (hex_blank-split addr addr' s t (decimal-split size size' _ _ behind).1).1

-- two entries have one clock, one agent and one text of their values
pub record AreAlike (x y : Done) : Type 0 where
  pub clock : x.clock ≡ y.clock
  pub agent : x.agent ≡ y.agent
  pub value : hexadecimal x.value ≡ hexadecimal y.value

-- the clock and the agent of an entry have at most 64 bits
pub record IsStamped (done : Done) : Type 0 where
  pub clock : done.clock < 2 ^ 64
  pub agent : done.agent < 2 ^ 64

then-split : (x y : Done) (s t : List ℕ) → IsStamped x → IsStamped y → line_then x s ≡ line_then y t
    → AreAlike x y × (s ≡ t)
unfolding line_then
then-split x y s t p q e =
    let clocks = decimal-split x.clock y.clock _ _ e in
    let agents = decimal-split x.agent y.agent _ _ clocks.1 in
    let same = access-split x.access y.access x.item y.item _ _ agents.1 in
    let behind : hexadecimal x.value ++ 10 ∷ s ≡ hexadecimal y.value ++ 10 ∷ t = cc in
    let values = hex_line-split x.value y.value s t behind in (
      record {
        clock = decimal_injective x.clock y.clock p.clock q.clock clocks.0;
        agent = decimal_injective x.agent y.agent p.agent q.agent agents.0;
        value = values.0;
      },
      values.1,
    )

line-split : (x y : Done) (s t : List ℕ) → IsStamped x → IsStamped y
    → log_line_text x ++ s ≡ log_line_text y ++ t → AreAlike x y × (s ≡ t)
line-split x y s t p q e = then-split x y s t p q (sym (line-spelled x s) ∙ e ∙ line-spelled y t)

-- two logs have as many entries, each alike
unfoldable pub AllAlike : List Done → List Done → Type 0
AllAlike [] [] = Unit {0}
AllAlike [] (y ∷ ys) = ⊥
AllAlike (x ∷ xs) [] = ⊥
AllAlike (x ∷ xs) (y ∷ ys) = AreAlike x y × AllAlike xs ys

no-line : (y : Done) (s r : List ℕ) → IsStamped y → 101 ∷ s ≡ log_line_text y ++ r → ⊥
unfolding line_then
no-line y s r q e = decimal-no_e y.clock s _ q.clock (e ∙ line-spelled y r)

-- what the lines tell, in front of a line that begins with an `e`
pub lines-alike : (xs ys : List Done) (s t : List ℕ) → All IsStamped xs → All IsStamped ys
    → flat_map log_line_text xs ++ 101 ∷ s ≡ flat_map log_line_text ys ++ 101 ∷ t → AllAlike xs ys
unfolding AllAlike
lines-alike [] [] s t p q e = tt
lines-alike [] (y ∷ ys) s t p q e =
    no-line y s (flat_map log_line_text ys ++ 101 ∷ t) (q 0 y (omega arith))
    (e ∙ append_assoc (log_line_text y) (flat_map log_line_text ys) (101 ∷ t))
lines-alike (x ∷ xs) [] s t p q e =
    no-line x t (flat_map log_line_text xs ++ 101 ∷ s) (p 0 x (omega arith))
    (sym e ∙ append_assoc (log_line_text x) (flat_map log_line_text xs) (101 ∷ s))
lines-alike (x ∷ xs) (y ∷ ys) s t p q e =
    let parts = line-split x y (flat_map log_line_text xs ++ 101 ∷ s) (flat_map log_line_text ys ++ 101 ∷ t)
    (p 0 x (omega arith)) (q 0 y (omega arith))
    (sym (append_assoc (log_line_text x) (flat_map log_line_text xs) (101 ∷ s)) ∙ e
    ∙ append_assoc (log_line_text y) (flat_map log_line_text ys) (101 ∷ t)) in
    (parts.0, lines-alike xs ys s t (λ k d h. p (suc k) d (omega arith)) (λ k d h. q (suc k) d (omega arith)) parts.1)
