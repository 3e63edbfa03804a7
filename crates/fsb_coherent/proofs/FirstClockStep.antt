-- The request that begins at a clock: it is for the line, or its agent drops the line for another one of the cache set.
use Rattle.fsb_coherent.proofs.Words
use Words.{ℕ, ◌+◌, ◌≡◌, true, false, not, nat_eq, [], ◌∷◌, Option, Some, None, is_some, refl, sym, ap, subst, ◌∙◌, inl}
use Words.{inr, arith, and_right, cases_Bool, eqb-true, option_map_or, is_some_and, Purpose, May, MayBegin, after}
use Words.{effect, Begins, MemoryLine, OpenRequest, put, is_linked, is_held_off, suits, Claim, Past, begun_at}
use Words.{holds_line, is_evicted, is_exclusive, is_rival, set_of, purpose_wanted, BeginsInOrder, IsBegunRightly}
use Words.{suits_holder, begin_events, begins_on, IsOpen}
use Rattle.fsb_line.specs.declared.purpose.Purpose.TheVariants as purposes
use Rattle.fsb_coherent.proofs.HitSteps.{AfterHits}
use Rattle.fsb_coherent.proofs.TiedBetween.{Goes, IsOpenTo, goes-same, open-from, put-cases, tied-trimmed}
use Rattle.fsb_coherent.proofs.WordsTo.{GoesOnAt, purpose-to}
use Rattle.fsb_coherent.proofs.Begun.{BeginsIt, WithBegun, agent_of, earlier, evicted-by, kept, later, same-line}
use Rattle.fsb_coherent.proofs.DropStep.{other-begins}

nobody : (o : Option OpenRequest) → ((request : OpenRequest) → o ≡ Some request → ⊥) → o ≡ None
nobody o h1 = grind arith

suited-state : (p : Past) (line n a : ℕ) (kind : Purpose) (x : MemoryLine) → suits_holder p a line n kind ≡ true
    → AfterHits p line n x → suits kind (x.state a) ≡ true
unfolding suits_holder
suited-state p line n a kind x h1 h2 = grind arith

free : (kind : Purpose) (o : Option OpenRequest) → (kind ≡ purposes.WriteBack → o ≡ None)
    → is_held_off kind (is_some o) ≡ false
free kind o h1 = grind arith

may-begin : (p : Past) (line n a : ℕ) (x : MemoryLine) (b : IsBegunRightly p line n a) → AfterHits p line n x
    → MayBegin x a b.kind n
may-begin p line n a x b t =
    let is_open : (c : ℕ) (request : OpenRequest) → x.ask c ≡ Some request → IsOpen p c line n request = λ c request e.
    open-from p c line n request (t.asked c request e) in
    record {
      no_ask = nobody (x.ask a) (λ request e. b.no_ask request (is_open a request e));
      no_link = ap (is_linked a) t.chain ∙ b.no_link;
      no_deferral = λ d e. b.no_deferral d (sym t.deferral ∙ e);
      suited = suited-state p line n a b.kind x b.suited t;
      newest = λ c request e. (t.asked c request e).before;
      not_held_off = λ c differs. free b.kind (x.ask c) (λ back. nobody (x.ask c) (λ request e.
          differs (b.not_held_off back c request (is_open c request e))));
    }

-- the request for the line that begins, as it is open
begun-open : (p : Past) (line n a : ℕ) (b : IsBegunRightly p line n a) → GoesOnAt p n → BeginsIt p line n a
    → IsOpenTo p a line n (n + 1) n (record { kind = b.kind; number = n })
begun-open p line n a b h e = grind (arith, purpose-to)

-- an open request of its agent is that one
only-open : (p : Past) (line n a : ℕ) (b : IsBegunRightly p line n a) (request : OpenRequest) → GoesOnAt p n
    → IsOpenTo p a line n (n + 1) n request → record { kind = b.kind; number = n } ≡ request
only-open p line n a b request h o = grind (arith, purpose-to)

begun-line : (p : Past) (line n a : ℕ) (x : MemoryLine) (b : IsBegunRightly p line n a) → GoesOnAt p n
    → BeginsIt p line n a
    → ((c : ℕ) → is_evicted p c line n ≡ false) → AfterHits p line n x
    → Goes x (Begins a b.kind n ∷ []) (WithBegun p line n n)
unfolding May after effect
begun-line p line n a x b h e stays t =
    let new : OpenRequest = record { kind = b.kind; number = n } in
    let y : MemoryLine = record x { ask = put x.ask a (Some new) } in
    let opens : (c : ℕ) (request : OpenRequest) → c ≡ a → Some new ≡ Some request
    → IsOpenTo p c line n (n + 1) n request = λ c request same f.
    let mine : IsOpenTo p c line n (n + 1) n new =
    subst (λ k. IsOpenTo p k line n (n + 1) n new) (sym same) (begun-open p line n a b h e) in
    subst (λ r. IsOpenTo p c line n (n + 1) n r) (ap (λ w. option_map_or (λ r. r) w new) f) mine in
    let only : (c : ℕ) (request : OpenRequest) → c ≡ a → IsOpenTo p c line n (n + 1) n request
    → new ≡ request = λ c request same o.
    only-open p line n a b request h (subst (λ k. IsOpenTo p k line n (n + 1) n request) same o) in
    let begun : WithBegun p line n n y = record {
      held = λ c. t.held c ∙ kept (holds_line p c line n) (is_evicted p c line n) (stays c);
      sole = λ c. t.sole c ∙ kept (is_exclusive p c line n) (is_evicted p c line n) (stays c);
      modified = t.modified;
      asked = λ c request. put-cases x.ask a (Some new) c
          (λ o. o ≡ Some request → IsOpenTo p c line n (n + 1) n request)
          (opens c request) (λ other f. later p c line n request (t.asked c request f));
      opened = λ c request o. put-cases x.ask a (Some new) c (λ w. w ≡ Some request)
          (λ same. ap Some (only c request same o))
          (λ other. t.opened c request (earlier p c line n request (λ f. other (ap agent_of (sym f ∙ e))) o));
      chain = t.chain;
      deferral = t.deferral;
      moved = t.moved;
    } in
    ((may-begin p line n a x b t, tt), tied-trimmed p line n (n + 1) n _ _ _ y begun)

begun-list : (p : Past) (line n : ℕ) (claim : Claim) (kind : Purpose) → nat_eq claim.line line ≡ true
    → purpose_wanted p claim.agent n ≡ Some kind → begin_events p line n claim ≡ Begins claim.agent kind n ∷ []
unfolding begin_events
begun-list p line n claim kind same wanted = grind arith

no-rival : (p : Past) (line other : ℕ) → nat_eq other line ≡ true → is_rival p other line ≡ false
unfolding is_rival
no-rival p line other same = and_right (nat_eq (set_of p other) (set_of p line)) (not (nat_eq other line)) (ap not same)

-- a request for the line
line-begins : (p : Past) (line n : ℕ) (claim : Claim) (x : MemoryLine) → BeginsInOrder p line n → GoesOnAt p n
    → begun_at p n ≡ Some claim → nat_eq claim.line line ≡ true → AfterHits p line n x
    → Goes x (begin_events p line n claim) (WithBegun p line n n)
unfolding is_some_and
line-begins p line n claim x h g e same t =
    let there : claim.line ≡ line = eqb-true claim.line line same in
    let b : IsBegunRightly p line n claim.agent = h.begun claim e there in
    let first = h.first claim e in
    let begins : BeginsIt p line n claim.agent =
    e ∙ (λ i. Some (record { first = first i; agent = claim.agent; line = there i })) in
    let apart = no-rival p line claim.line same in
    let stays : (c : ℕ) → is_evicted p c line n ≡ false = grind (arith, evicted-by) in
    goes-same x _ (Begins claim.agent b.kind n ∷ []) (WithBegun p line n n)
    (begun-list p line n claim b.kind same b.wanted) (begun-line p line n claim.agent x b g begins stays t)

begins-by : (p : Past) (line n : ℕ) (x : MemoryLine) → BeginsInOrder p line n → GoesOnAt p n → AfterHits p line n x
    → (o : Option Claim) → begun_at p n ≡ o
    → Goes x (option_map_or (begin_events p line n) o []) (WithBegun p line n n)
unfolding is_some_and
begins-by p line n x h g t None e = grind (arith, same-line, evicted-by)
begins-by p line n x h g t (Some claim) e =
    elim (cases_Bool (nat_eq claim.line line)) [
      | inl same ↦ line-begins p line n claim x h g e same t
      | inr other ↦ other-begins p line n claim x h e other t
    ]

-- the request that begins may, and the line after it is that of the run with it
pub begins-step : (p : Past) (line n : ℕ) (x : MemoryLine) → BeginsInOrder p line n → GoesOnAt p n
    → AfterHits p line n x → Goes x (begins_on p line n) (WithBegun p line n n)
unfolding begins_on
begins-step p line n x h g t = begins-by p line n x h g t (begun_at p n) refl
