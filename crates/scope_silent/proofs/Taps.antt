-- Changes of some lines leave the others as they are.
use Rattle.std.proofs.Common.{◌≡◌, ℕ, zero, suc, Bool, true, false, List, [], ◌∷◌, Option, Some, None, map, slice_set, ap, refl, sym, ◌∙◌}
use Rattle.std.specs.Prelude.{if◌then◌else◌}
use Rattle.std.specs.List.{list_all}
use Rattle.std.proofs.lemmas.Bool.{and_parts}
use Rattle.vcd_grammar.specs.Digits.{is_unknown}
use Rattle.vcd_grammar.specs.Values.{Values, at_first}
use Rattle.vcd_grammar.specs.Judging.{is_declared}
use Rattle.vcd_way.specs.declared.tap.Tap.{Tap}
use Rattle.vcd_way.specs.Pieces.{Stamp, TapChange}
use Rattle.vcd_way.specs.Events.{whole, digits_at, set_tap, set_taps, values_after, unknown_in, sampled, settled, settled_digits, at_first_edge}
use Rattle.scope_silent.proofs.Sample.{Idle}

-- the tap is one of a line among these
abbrev pub is_of : List ℕ → Tap → Bool
is_of ls tap = is_declared ls tap.line

-- a change has such taps alone
abbrev pub changes_of : List ℕ → TapChange → Bool
changes_of ls change = list_all (is_of ls) change.taps

-- ---- one line

-- the digits of a line are these, whether it was set to them or not
pub set-line : (v : Values) (k n : ℕ) (new ds : List ℕ) → digits_at v n ≡ ds → (k ≡ n → new ≡ ds)
    → digits_at (slice_set v k new) n ≡ ds
set-line [] k n new ds h e = h
set-line (x ∷ v) zero zero new ds h e = e refl
set-line (x ∷ v) zero (suc n) new ds h e = h
set-line (x ∷ v) (suc k) zero new ds h e = h
set-line (x ∷ v) (suc k) (suc n) new ds h e = set-line v k n new ds h (λ f. e (ap (λ m. suc m) f))

apart : (ls : List ℕ) (k n : ℕ) → is_declared ls k ≡ true → is_declared ls n ≡ false → k ≡ n → ⊥
apart ls k n there out e = by (sym there ∙ ap (is_declared ls) e ∙ out)
  where
    by : true ≡ false → ⊥
    by f = cc f

-- ---- taps

tap-idle : (ls : List ℕ) (v : Values) (tap : Tap) (ds : List ℕ) → is_of ls tap ≡ true → Idle ls v
    → Idle ls (set_tap v tap ds)
tap-idle ls v tap ds there h =
    λ n out. set-line v tap.line n _ _ (h n out) (λ e. absurd (apart ls tap.line n there out e))

pub taps-idle : (ls : List ℕ) (v : Values) (taps : List Tap) (ds : List ℕ) → list_all (is_of ls) taps ≡ true → Idle ls v
    → Idle ls (set_taps v taps ds)
taps-idle ls v [] ds there h = h
taps-idle ls v (tap ∷ taps) ds there h =
    let both = and_parts (is_of ls tap) (list_all (is_of ls) taps) there in
    taps-idle ls (set_tap v tap ds) taps ds both.1 (tap-idle ls v tap ds both.0 h)

pub after-idle : (ls : List ℕ) (v : Values) (block : List TapChange) → list_all (changes_of ls) block ≡ true → Idle ls v
    → Idle ls (values_after v block)
after-idle ls v [] there h = h
after-idle ls v (change ∷ block) there h =
    let both = and_parts (changes_of ls change) (list_all (changes_of ls) block) there in
    after-idle ls (set_taps v change.taps change.digits) block both.1
    (taps-idle ls v change.taps change.digits both.0 h)

pub whole-of : (ls lines : List ℕ) → list_all (is_declared ls) lines ≡ true → list_all (is_of ls) (map whole lines) ≡ true
whole-of ls [] there = refl
whole-of ls (n ∷ lines) there =
    let both = and_parts (is_declared ls n) (list_all (is_declared ls) lines) there in
    rw both.0 (whole-of ls lines both.1)

pub unknown-idle : (ls : List ℕ) (v : Values) (lines : List ℕ) → list_all (is_declared ls) lines ≡ true → Idle ls v
    → Idle ls (unknown_in v lines)
unknown-idle ls v lines there h = taps-idle ls v (map whole lines) (120 ∷ []) (whole-of ls lines there) h

-- ---- what is sampled

pub sampled-idle : (ls late : List ℕ) (before after : Values) → Idle ls before → Idle ls after
    → Idle ls (sampled late before after)
sampled-idle ls [] before after h k = h
sampled-idle ls (m ∷ late) before after h k =
    λ n out. set-line (sampled late before after) m n (digits_at after m) (digits_at at_first n)
    (sampled-idle ls late before after h k n out) (λ e. ap (digits_at after) e ∙ k n out)

settled-itself : (ds : List ℕ) → settled_digits ds ds ≡ ds
settled-itself [] = refl
settled-itself (b ∷ bs) = either (is_unknown b) ∙ ap (λ xs. b ∷ xs) (settled-itself bs)
  where
    either : (t : Bool) → (if t then b else b) ∷ settled_digits bs bs ≡ b ∷ settled_digits bs bs
    either true = refl
    either false = refl

settled-at : (before after : Values) (n : ℕ) (ds : List ℕ) → digits_at before n ≡ ds → digits_at after n ≡ ds
    → digits_at (settled before after) n ≡ ds
settled-at [] after n ds h k = h
settled-at (b ∷ before) [] n ds h k = h
settled-at (b ∷ before) (a ∷ after) zero ds h k = rw h (rw k (settled-itself ds))
settled-at (b ∷ before) (a ∷ after) (suc n) ds h k = settled-at before after n ds h k

settled-idle : (ls : List ℕ) (before after : Values) → Idle ls before → Idle ls after → Idle ls (settled before after)
settled-idle ls before after h k = λ n out. settled-at before after n (digits_at at_first n) (h n out) (k n out)

pub first-idle : (ls : List ℕ) (stamp : Option Stamp) (before after : Values) → Idle ls before → Idle ls after
    → Idle ls (at_first_edge stamp before after)
first-idle ls None before after h k = k
first-idle ls (Some stamp) before after h k = settled-idle ls before after h k
