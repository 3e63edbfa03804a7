-- How many clocks came before a part, with one more event.
use Rattle.std.proofs.Common.{◌≡◌, ◌∙◌, ℕ, ◌+◌, ◌<◌, ◌≤◌, ◌++◌, ◌∷◌, [], List, length, length-append, refl, sym, ap, subst, arith}
use Rattle.std.proofs.lemmas.Bool.{ne_eqb}
use Rattle.fsb_signal.specs.declared.marks.Marks.{Marks}
use Rattle.fsb_signal.specs.declared.sample.Sample.{Sample}
use Rattle.row_texts.specs.declared.line.Form.{Form}
use Rattle.request_lines.specs.Tables.{over_text}
use Rattle.request_lines.proofs.Sounds.{head-only}
use Rattle.vcd_way.specs.Events.{DumpEvent, Sampled, Hole, Resumed, samples_among}
use Rattle.scope_check.specs.declared.part.Part.{Part}
use Rattle.scope_check.specs.declared.parting.Parting.{Parting}
use Rattle.scope_check.specs.Parting.{HasParted}
use Rattle.scope_check.specs.Parts.{clocks_of}
use Rattle.scope_check.proofs.Counting.{clocks-few}
use Rattle.scope_table.specs.Standing.{start_after}
use Rattle.scope_table.proofs.Places.{all-before, begins-there, stays-there}

clocks-more : (es : List DumpEvent) (e : DumpEvent) → clocks_of (es ++ e ∷ []) ≡ clocks_of es + clocks_of (e ∷ [])
clocks-more [] e = omega arith
clocks-more (Sampled x u ∷ es) e = let h = clocks-more es e in omega (arith, h)
clocks-more (Hole u ∷ es) e = clocks-more es e
clocks-more (Resumed u ∷ es) e = clocks-more es e

after-none : (start n : ℕ) (e : DumpEvent) → n ≡ 0 → start_after start n e ≡ start + clocks_of (e ∷ [])
unfolding start_after
after-none start n e z = rw z refl

after-some : (start n : ℕ) (e : DumpEvent) → 0 < n → start_after start n e ≡ start
unfolding start_after
after-some start n e some = rw (ne_eqb n 0 (λ z. omega (arith, some, z))) refl

-- before the first event no clock came
pub none-came : {g : Parting} {p : Part} (s : HasParted g p [] []) (start : ℕ) → start ≡ 0 → start ≡ clocks_of s.before
none-came {g} {p} s start e = e ∙ sym (ap clocks_of (all-before s refl))

module _ {g h : Parting} {p : Part} {es : List DumpEvent} {w : List Sample} (s : HasParted g p es w) (e : DumpEvent) where
  started-by : (v : List Sample) → w ≡ v → (n : HasParted h p (es ++ e ∷ []) w) (old start : ℕ) → old ≡ clocks_of s.before
      → start ≡ start_after old (length w) e → start ≡ clocks_of n.before
  started-by [] none n old start is after =
      after ∙ after-none old (length w) e (ap length none)
      ∙ ap (λ k. k + clocks_of (e ∷ [])) (is ∙ ap clocks_of (all-before s none))
      ∙ sym (clocks-more es e) ∙ sym (ap clocks_of (all-before n none))
  started-by (y ∷ v) some n old start is after =
      let size : length w ≡ length (y ∷ v) = ap length some in
      let there : 0 < length w = omega (arith, size) in
      after ∙ after-some old (length w) e there ∙ is ∙ sym (ap clocks_of (stays-there s e n there))

  -- with an event that is no clock of the part
  pub started : (n : HasParted h p (es ++ e ∷ []) w) (old start : ℕ) → old ≡ clocks_of s.before
      → start ≡ start_after old (length w) e → start ≡ clocks_of n.before
  started n old start is after = started-by w refl n old start is after

  goes-on-by : (x : Sample) (v : List Sample) → w ≡ v → (n : HasParted h p (es ++ e ∷ []) (w ++ x ∷ []))
      → n.before ≡ s.before
  goes-on-by x [] none n =
      begins-there s e n (omega (arith, length-append w (x ∷ []))) none ∙ sym (all-before s none)
  goes-on-by x (y ∷ v) some n =
      let size : length w ≡ length (y ∷ v) = ap length some in
      stays-there s e n (omega (arith, size))

  -- with one that is
  pub goes-on : (x : Sample) (n : HasParted h p (es ++ e ∷ []) (w ++ x ∷ [])) (start : ℕ) → start ≡ clocks_of s.before
      → start ≡ clocks_of n.before
  goes-on x n start is = is ∙ sym (ap clocks_of (goes-on-by x w refl n))

-- where none came, the events are no fewer than the clocks before the part
pub many-came : {g : Parting} {p : Part} {es : List DumpEvent} {w : List Sample} (s : HasParted g p es w) (e : DumpEvent)
    (most start : ℕ) → most ≤ start → start ≡ clocks_of s.before → w ≡ [] → most ≤ length (es ++ e ∷ [])
many-came {g} {p} {es} {w} s e most start many is none =
    let few = clocks-few es in
    let here : start ≡ clocks_of es = is ∙ ap clocks_of (all-before s none) in
    omega (arith, many, here, few, length-append es (e ∷ []))

pub empty-list : (w : List Sample) → length w ≡ 0 → w ≡ []
empty-list [] e = refl
empty-list (x ∷ w) e = absurd (omega (arith, e))

same-by : (form : Form) (a b : ℕ) (m : Marks) (e : DumpEvent) (w v : List Sample) → w ≡ v → b ≡ start_after a (length w) e
    → over_text form a m w ≡ over_text form b m w
same-by form a b m e w [] none after =
    ap (over_text form a m) none ∙ head-only form a m ∙ sym (head-only form b m) ∙ ap (over_text form b m) (sym none)
same-by form a b m e w (y ∷ v) some after =
    let size : length w ≡ length (y ∷ v) = ap length some in
    ap (λ n. over_text form n m w) (sym (after ∙ after-some a (length w) e (omega (arith, size))))

-- the lines do not change with an event that is no clock of the part: none stands there before its first clock
pub same-lines : (form : Form) (a b : ℕ) (m : Marks) (e : DumpEvent) (w : List Sample) → b ≡ start_after a (length w) e
    → over_text form a m w ≡ over_text form b m w
same-lines form a b m e w after = same-by form a b m e w w refl after
