-- The end of a clock: its event may happen, and the line of the machine behind it is that of the run, but for the
-- accesses that come with the end of another line.
use Rattle.fsb_coherent.proofs.Words
use Words.{ℕ, ◌+◌, ◌≡◌, true, false, not, ◌&&◌, ◌||◌, ◌++◌, if◌then◌else◌, nat_eq, is_some, List, [], ◌∷◌, Option, Some}
use Words.{None, refl, sym, ap, subst, ◌∙◌, inl, inr, arith, and_right, cases_Bool, option_map_or, is_some_and, Link}
use Words.{Event, HasArrived, May, after, arrived, effect, oldest_ended, Ends, Bytes, MemoryLine, brought, trimmed}
use Words.{carries, MayRun, run, is_modified, Past, SnoopEnd, ended_requests, snooped_at, Awaited, awaited_at}
use Words.{EndsInOrder, does_end_on, does_respond_on, awaited_events, awaiting_stores, changes_of, end_events, ends_on}
use Words.{events_of_ends, chain_below, is_moved_below, link_left, links_left}
use Rattle.fsb_coherent.proofs.Behind.{TiedBehind, TiedButDirty, is_dirty_behind, links_new, links_of}
use Rattle.fsb_coherent.proofs.Steps.{chain-more}

-- these events may happen; after them the line is that of the run, but for who is dirty: that is who was so behind the
-- snoop end
pub record BringsEnd (p : Past) (line n : ℕ) (y : MemoryLine) (es : List Event) : Type 0 where
  pub may : MayRun y es
  pub tied : TiedButDirty p line n (run y es)
  pub dirty : (a : ℕ) → is_modified ((run y es).state a) ≡ is_dirty_behind p a line n

-- the link of the snoop end of n is left behind the end
fresh : (p : Past) (line n : ℕ) → EndsInOrder p line n → (o : Option SnoopEnd) → snooped_at p n ≡ o
    → option_map_or (link_left p line (n + 1) n) o [] ≡ option_map_or (links_of p line n) o []
unfolding link_left
fresh p line n h1 o h2 = grind arith

chain-behind : (p : Past) (line n : ℕ) → EndsInOrder p line n
    → chain_below p line (n + 1) ≡ links_left p line (n + 1) n ++ links_new p line n
chain-behind p line n h = grind (arith, chain-more, fresh)

-- no end is awaited on the line
no-end : (p : Past) (line n : ℕ) (y : MemoryLine) → EndsInOrder p line n → TiedBehind p line n y
    → does_end_on p line n ≡ false → BringsEnd p line n y []
no-end p line n y h t none = grind (arith, chain-behind)

-- the end of the oldest link of the line, which has its data if it carries
pub record IsOldestEnd (p : Past) (line n : ℕ) (link : Link) : Type 0 where
  pub ends : does_end_on p line n ≡ true
  pub oldest : chain_below p line n ≡ link ∷ links_left p line (n + 1) n
  pub moved : carries link ≡ true → is_moved_below p line n ≡ true

chain-there : (p : Past) (line n : ℕ) (y : MemoryLine) (link : Link) → EndsInOrder p line n → TiedBehind p line n y
    → IsOldestEnd p line n link
    → y.chain ≡ link ∷ chain_below p line (n + 1)
chain-there p line n y link h t o = grind (arith, chain-behind)

ended : (p : Past) (line n : ℕ) (y : MemoryLine) (link : Link) (change : Bytes → Bytes) → EndsInOrder p line n
    → TiedBehind p line n y → IsOldestEnd p line n link
    → TiedButDirty p line n (trimmed (oldest_ended y (link ∷ chain_below p line (n + 1)) change))
unfolding oldest_ended arrived trimmed
ended p line n y link change h t o = record {
  held = t.held;
  sole = t.sole;
  asked = t.asked;
  opened = t.opened;
  chain = refl;
  deferral = t.deferral;
  moved = sym (h.moved ∙ ap (λ b. (is_moved_below p line n || does_respond_on p line n) && not b) o.ends
      ∙ and_right (is_moved_below p line n || does_respond_on p line n) false refl);
}

ended-dirty : (p : Past) (line n : ℕ) (y : MemoryLine) (link : Link) (ls : List Link) (change : Bytes → Bytes)
    → TiedBehind p line n y
    → (a : ℕ) → is_modified ((trimmed (oldest_ended y (link ∷ ls) change)).state a) ≡ is_dirty_behind p a line n
unfolding oldest_ended arrived trimmed
ended-dirty p line n y link ls change t a = t.modified a

one-end : (p : Past) (line n : ℕ) (y : MemoryLine) (link : Link) (change : Bytes → Bytes) → EndsInOrder p line n
    → TiedBehind p line n y → IsOldestEnd p line n link
    → BringsEnd p line n y (Ends change ∷ [])
unfolding May after effect
one-end p line n y link change h t o =
    let chain = chain-there p line n y link h t o in
    let has : is_some (brought y link) ≡ true = grind arith in
    record {
      may = (subst (HasArrived y) (sym chain) has, tt);
      tied = subst (λ ls. TiedButDirty p line n (trimmed (oldest_ended y ls change))) (sym chain)
          (ended p line n y link change h t o);
      dirty = λ a.
          subst (λ ls. is_modified ((trimmed (oldest_ended y ls change)).state a) ≡ is_dirty_behind p a line n)
          (sym chain)
          (ended-dirty p line n y link (chain_below p line (n + 1)) change t a);
    }

oldest-end : (p : Past) (line n q : ℕ) (awaited : Awaited) → EndsInOrder p line n → ended_requests p n ≡ q ∷ []
    → awaited_at p n q ≡ Some awaited → nat_eq awaited.line line ≡ true
    → (link : Link) × IsOldestEnd p line n link
unfolding does_end_on is_some_and
oldest-end p line n q awaited h e f same = grind arith

does-end-none : (p : Past) (line n q : ℕ) → ended_requests p n ≡ q ∷ [] → awaited_at p n q ≡ None
    → does_end_on p line n ≡ false
unfolding does_end_on is_some_and
does-end-none p line n q e f = rw (e, f) refl

does-end-other : (p : Past) (line n q : ℕ) (awaited : Awaited) → ended_requests p n ≡ q ∷ []
    → awaited_at p n q ≡ Some awaited → nat_eq awaited.line line ≡ false → does_end_on p line n ≡ false
unfolding does_end_on is_some_and
does-end-other p line n q awaited e f off = rw (e, f, off) refl

does-end-no : (p : Past) (line n : ℕ) → ended_requests p n ≡ [] → does_end_on p line n ≡ false
unfolding does_end_on
does-end-no p line n e = rw e refl

end-of : (p : Past) (line n q : ℕ) (y : MemoryLine) (o : Option Awaited) → EndsInOrder p line n
    → TiedBehind p line n y → ended_requests p n ≡ q ∷ [] → awaited_at p n q ≡ o
    → BringsEnd p line n y (option_map_or (awaited_events p line n) o [] ++ [])
unfolding awaited_events
end-of p line n q y None h t e f = no-end p line n y h t (does-end-none p line n q e f)
end-of p line n q y (Some awaited) h t e f =
    elim (cases_Bool (nat_eq awaited.line line)) [
      | inl same ↦
          let change : Bytes → Bytes = changes_of (awaiting_stores p line n awaited.agent) in
          let oldest = oldest-end p line n q awaited h e f same in
          subst (BringsEnd p line n y) (ap (λ b. (if b then Ends change ∷ [] else []) ++ []) (sym same))
          (one-end p line n y oldest.0 change h t oldest.1)
      | inr off ↦
          let change : Bytes → Bytes = changes_of (awaiting_stores p line n awaited.agent) in
          subst (BringsEnd p line n y) (ap (λ b. (if b then Ends change ∷ [] else []) ++ []) (sym off))
          (no-end p line n y h t (does-end-other p line n q awaited e f off))
    ]

ends-of : (p : Past) (line n : ℕ) (y : MemoryLine) (qs : List ℕ) → EndsInOrder p line n → TiedBehind p line n y
    → ended_requests p n ≡ qs
    → BringsEnd p line n y (events_of_ends p line n qs)
unfolding events_of_ends end_events
ends-of p line n y [] h t e = no-end p line n y h t (does-end-no p line n e)
ends-of p line n y (q ∷ []) h t e = end-of p line n q y (awaited_at p n q) h t e refl
ends-of p line n y (q ∷ r ∷ qs) h t e = absurd (h.few q r qs e)

-- the end of the clock
pub ends-step : (p : Past) (line n : ℕ) (y : MemoryLine) → EndsInOrder p line n → TiedBehind p line n y
    → BringsEnd p line n y (ends_on p line n)
unfolding ends_on
ends-step p line n y h t = ends-of p line n y (ended_requests p n) h t refl
