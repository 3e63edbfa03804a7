-- The response of a clock, where it puts data of the line on the bus.
use Rattle.fsb_coherent.proofs.Words
use Words.{ℕ, ◌≡◌, Bool, true, false, ◌||◌, if◌then◌else◌, List, [], ◌∷◌, Option, Some, None, is_some, sym, ap, subst}
use Words.{◌∙◌, inl, inr, arith, or-false, cases_Bool, or_right, Link, Valued, AwaitsResponse, May, after, effect}
use Words.{responded, Responds, Bytes, MemoryLine, source, holds_line, is_exclusive, Past, RespondsAsOldest}
use Words.{does_respond_on, responds_on, Tied, is_dirty_below, is_moved_below}
use Rattle.fsb_coherent.proofs.TiedBetween.{Goes, TiedBetween, goes-same, open-from, open-to, tied-trimmed}

-- the line of the machine after the response, before the hits
abbrev pub AfterResponse : Past → ℕ → ℕ → MemoryLine → Type 0
AfterResponse p line n x =
    TiedBetween p line n n n
    (λ a. holds_line p a line n) (λ a. is_exclusive p a line n) (λ a. is_dirty_below p a line n) x

none-there : (o : Option Bytes) → is_some o ≡ false → o ≡ None
none-there o h1 = grind arith

responds-list : (p : Past) (line n : ℕ) (b : Bool) → does_respond_on p line n ≡ b
    → responds_on p line n ≡ (if b then Responds ∷ [] else [])
unfolding responds_on does_respond_on
responds-list p line n b e = ap (λ t. if t then Responds ∷ [] else []) e

-- with no response everything stays
unresponded : (p : Past) (line n : ℕ) (x : MemoryLine) → does_respond_on p line n ≡ false → Tied p line n x
    → AfterResponse p line n x
unresponded p line n x none t = record {
  held = t.held;
  sole = t.sole;
  modified = t.modified;
  asked = λ a request e. open-to p a line n request (t.asked a request e);
  opened = λ a request o. t.opened a request (open-from p a line n request o);
  chain = t.chain;
  deferral = t.deferral;
  moved = t.moved ∙ sym (ap (λ b. is_moved_below p line n || b) none ∙ or-false (is_moved_below p line n));
}

-- the response of the oldest link puts the bytes of the line on the bus
responded-tied : (p : Past) (line n : ℕ) (x : MemoryLine) (l : Link) (ls : List Link) → source x l ≡ Some x.now
    → does_respond_on p line n ≡ true → Tied p line n x → AfterResponse p line n (responded x (l ∷ ls))
unfolding responded
responded-tied p line n x l ls now there t = record {
  held = t.held;
  sole = t.sole;
  modified = t.modified;
  asked = λ a request e. open-to p a line n request (t.asked a request e);
  opened = λ a request o. t.opened a request (open-from p a line n request o);
  chain = t.chain;
  deferral = t.deferral;
  moved = ap is_some now ∙ sym (or_right (is_moved_below p line n) (does_respond_on p line n) there);
}

response : (p : Past) (line n : ℕ) (x : MemoryLine) → RespondsAsOldest p line n → Valued x
    → does_respond_on p line n ≡ true → Tied p line n x → Goes x (Responds ∷ []) (AfterResponse p line n)
unfolding May after effect
response p line n x h v there t =
    let oldest = h.oldest there in
    let l : Link = oldest.0 in
    let ls : List Link = oldest.1 in
    let chain : x.chain ≡ l ∷ ls = t.chain ∙ oldest.2 in
    let unmoved : x.moved ≡ None = none-there x.moved (t.moved ∙ h.unmoved there) in
    let may : AwaitsResponse x x.chain = subst (AwaitsResponse x) (sym chain) (oldest.3, unmoved) in
    let moved = responded-tied p line n x l ls (v.oldest l ls chain) there t in
    let done : AfterResponse p line n (responded x x.chain) =
    subst (λ links. AfterResponse p line n (responded x links)) (sym chain) moved in
    ((may, tt), tied-trimmed p line n n n _ _ _ (responded x x.chain) done)

-- the response may happen, and the line after it is that of the run with its response
pub responds-step : (p : Past) (line n : ℕ) (x : MemoryLine) → RespondsAsOldest p line n → Valued x → Tied p line n x
    → Goes x (responds_on p line n) (AfterResponse p line n)
responds-step p line n x h v t =
    elim (cases_Bool (does_respond_on p line n)) [
      | inl there ↦
          let step = response p line n x h v there t in
          goes-same x _ (Responds ∷ []) (AfterResponse p line n) (responds-list p line n true there) step
      | inr none ↦
          let step : Goes x [] (AfterResponse p line n) = (tt, unresponded p line n x none t) in
          goes-same x _ [] (AfterResponse p line n) (responds-list p line n false none) step
    ]
