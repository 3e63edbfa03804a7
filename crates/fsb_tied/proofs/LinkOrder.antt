-- In a timely run responses and ends come in the order of the links of each line.
use Rattle.fsb_tied.proofs.Words
use Words.{ℕ, ◌+◌, ◌<◌, ◌≤◌, ◌≡◌, Bool, true, false, List, [], ◌∷◌, Option, Some, length, refl, sym, ap, ◌∙◌, arith}
use Words.{both_ways, eq-eqb, ne_eqb, Link, carries, ended_requests, is_end_at, is_ended, snooped_at, Past, SnoopEnd}
use Words.{Run, past_of, Timely, is_ended-more, Awaited, awaited_by, responded_in, EndsInOrder, RespondsAsOldest}
use Words.{does_end_on, chain_below, is_moved_below, link_left, link_for, links_left}
use Rattle.fsb_tied.proofs.AnswersInOrder.{AnswersInOrder, answers-in-order}
use Rattle.fsb_tied.proofs.Awaiting.{awaited-there}
use Rattle.fsb_tied.proofs.CarryingRuns.{carries-awaited}
use Rattle.fsb_tied.proofs.Chains.{at-gone, at-there, first-left, link_of, links_at, none-left, others-left}
use Rattle.fsb_tied.proofs.Chains.{same-left}
use Rattle.fsb_tied.proofs.InTurn.{HasAwaited, earlier-ended, ended-by, ended-later, ended-parts, has-awaited, not-so}
use Rattle.fsb_tied.proofs.InTurn.{snooped-before, snooped-before-end, unended-at-end, unended-at-response}
use Rattle.fsb_tied.proofs.MovedOn.{moved-more, unmoved}
use Rattle.fsb_tied.proofs.Moving.{Moves, end-on, moved-from, moved-parts, moves-parts}

-- the first link of a line
pub record IsFirst (p : Past) (line n : ℕ) (link : Link) : Type 0 where
  pub links : List Link
  pub chain : chain_below p line n ≡ link ∷ links

pub first-link : (p : Past) (m line n t : ℕ) (s : SnoopEnd) (awaited : Awaited) → AnswersInOrder p m → n < m
    → snooped_at p t ≡ Some s → responded_in p n ≡ Some s.first → awaited_by s ≡ Some awaited → awaited.line ≡ line
    → IsFirst p line n (link_of p line t s awaited)
unfolding chain_below
first-link p m line n t s awaited a l e responds awaits names =
    let gap = snooped-before p m n t s a l e responds in
    let none = none-left p line n t (λ u x low f. a.in_turn u t n x s f e low l responds) in
    let here = at-there p line n t s awaited e (unended-at-response p m n s.first a l responds) awaits names in
    let first = first-left p line n t n (link_of p line t s awaited) none here (omega arith) in
    record { links = first.0; chain = first.1 }

responds-oldest : (r : Run) (line n : ℕ) → Timely r → n < length r.trace → Moves (past_of r) line n
    → (link : Link) × (links : List Link) × (chain_below (past_of r) line n ≡ link ∷ links) × (carries link ≡ true)
responds-oldest r line n h l k =
    let p : Past = past_of r in
    let e = k.awaits in
    let a = answers-in-order r h in
    let responds : responded_in p n ≡ Some e.end.first = k.responds ∙ ap Some (sym e.first) in
    let first = first-link p (length r.trace) line n e.at e.end k.awaited a l e.there responds e.awaits k.names in
    let fits = (carries-awaited r e.at e.end k.awaited h e.there e.awaits).fits in (
      link_of p line e.at e.end k.awaited,
      first.links,
      first.chain,
      ap (λ x. carries (link_of p x e.at e.end k.awaited)) (sym k.names) ∙ fits ∙ k.carried,
    )

-- the response of a clock, where it puts data on the bus, is that of the oldest link
pub responds-in-order : (r : Run) (line n : ℕ) → Timely r → n < length r.trace → RespondsAsOldest (past_of r) line n
responds-in-order r line n h l = record {
  oldest = λ e. responds-oldest r line n h l (moves-parts (past_of r) line n e);
  unmoved = λ e. not-so (is_moved_below (past_of r) line n)
      (λ t. unmoved (past_of r) (length r.trace) line n (answers-in-order r h) l (moves-parts (past_of r) line n e)
      (moved-parts (past_of r) line n t));
}

-- what does not end at a clock is left there
unended-same : (p : Past) (line n t : ℕ) (s : SnoopEnd) → snooped_at p t ≡ Some s → is_end_at p n s.first ≡ false
    → links_at p line n t ≡ links_at p line (n + 1) t
unfolding link_left
unended-same p line n t s e none = grind (arith, is_ended-more)

quiet-same : (p : Past) (line n t : ℕ) (o : Option SnoopEnd) → snooped_at p t ≡ o
    → ((s : SnoopEnd) → snooped_at p t ≡ Some s → links_at p line n t ≡ links_at p line (n + 1) t)
    → links_at p line n t ≡ links_at p line (n + 1) t
quiet-same p line n t o h1 h2 = grind arith

-- a snoop end after which no end on the line is awaited makes no link of it
other-line : (p : Past) (line n t : ℕ) (s : SnoopEnd) (o : Option Awaited) → awaited_by s ≡ o → snooped_at p t ≡ Some s
    → ((awaited : Awaited) → o ≡ Some awaited → awaited.line ≡ line → ⊥) → links_at p line n t ≡ []
unfolding link_left link_for
other-line p line n t s o h1 h2 h3 = grind arith

pub listed-alone : (p : Past) (n q : ℕ) → ended_requests p n ≡ q ∷ [] → is_end_at p n q ≡ true
unfolding is_end_at
listed-alone p n q e = rw (e, eq-eqb q q refl) refl

others-unended : (p : Past) (n q x : ℕ) → ended_requests p n ≡ q ∷ [] → (x ≡ q → ⊥) → is_end_at p n x ≡ false
unfolding is_end_at
others-unended p n q x e other = rw (e, ne_eqb x q other) refl

-- the request that ends at a clock is the oldest link of its line, and with it the others are left
pub oldest-ends : (p : Past) (m line n t : ℕ) (s : SnoopEnd) (awaited : Awaited) → AnswersInOrder p m → n < m
    → snooped_at p t ≡ Some s → ended_requests p n ≡ s.first ∷ [] → awaited_by s ≡ Some awaited → awaited.line ≡ line
    → chain_below p line n ≡ link_of p line t s awaited ∷ links_left p line (n + 1) n
unfolding chain_below
oldest-ends p m line n t s awaited a l e ends awaits names =
    let ended = listed-alone p n s.first ends in
    let gap = snooped-before-end p m n t s a l e ended in
    let early : (u : ℕ) (x : SnoopEnd) → u < t → snooped_at p u ≡ Some x → is_ended p n x.first ≡ true =
    λ u x low f. earlier-ended p m n u t x s a l f e low ended in
    let now : is_ended p (n + 1) s.first ≡ true = ended-by p (n + 1) n s.first (omega arith) ended in
    others-left p line n (n + 1) t n (link_of p line t s awaited)
    (none-left p line n t early)
    (at-there p line n t s awaited e (unended-at-end p m n s.first a l ended) awaits names)
    (none-left p line (n + 1) t (λ u x low f. ended-later p n (n + 1) x.first (omega arith) (early u x low f)))
    (at-gone p line (n + 1) t s e now)
    (λ u more less. quiet-same p line n u (snooped_at p u) refl
    (λ x f. unended-same p line n u x f
    (others-unended p n s.first x.first ends (λ same. let one : u ≡ t = a.one_snoop u t x s f e same in omega arith))))
    (omega arith)

-- data that are awaited are on the bus below the end
moved-there : (p : Past) (m line n t : ℕ) (s : SnoopEnd) (awaited : Awaited) → AnswersInOrder p m → n < m
    → snooped_at p t ≡ Some s → is_end_at p n s.first ≡ true → awaited_by s ≡ Some awaited → awaited.line ≡ line
    → awaited.carries ≡ true → ((u : ℕ) → u ≤ n → responded_in p u ≡ Some s.first → u < n)
    → is_moved_below p line n ≡ true
moved-there p m line n t s awaited a l e ends awaits names carried later =
    grind (arith, snooped-before-end, moved-from, unended-at-end)

-- where no end is awaited on the line its links are left
all-left : (p : Past) (m line n : ℕ) → AnswersInOrder p m → n < m → does_end_on p line n ≡ false
    → links_left p line (n + 1) n ≡ chain_below p line n
unfolding chain_below
all-left p m line n a l none =
    sym (same-left p line n (n + 1) n
    (λ t low. quiet-same p line n t (snooped_at p t) refl (λ s e. at-clock t low s e (is_end_at p n s.first) refl)))
  where
    at-clock : (t : ℕ) → t < n → (s : SnoopEnd) → snooped_at p t ≡ Some s → (b : Bool) → is_end_at p n s.first ≡ b
        → links_at p line n t ≡ links_at p line (n + 1) t
    at-clock t low s e false f = unended-same p line n t s e f
    at-clock t low s e true f =
        let elsewhere : (awaited : Awaited) → awaited_by s ≡ Some awaited → awaited.line ≡ line → ⊥ =
        λ awaited g names. both_ways (does_end_on p line n) none
        (end-on p line n s.first awaited f (awaited-there p m n t s a (omega arith) e ∙ g) names) in
        other-line p line n t s (awaited_by s) refl e elsewhere
        ∙ sym (other-line p line (n + 1) t s (awaited_by s) refl e elsewhere)

-- the request of the snoop end of a clock has not ended there
newest-left : (p : Past) (m n : ℕ) (s : SnoopEnd) → AnswersInOrder p m → n < m → snooped_at p n ≡ Some s
    → is_ended p (n + 1) s.first ≡ false
newest-left p m n s a l e = grind (arith, ended-parts, snooped-before-end)

ends-oldest : (r : Run) (line n q : ℕ) (awaited : Awaited) → Timely r → n < length r.trace
    → ended_requests (past_of r) n ≡ q ∷ [] → HasAwaited (past_of r) n q awaited → awaited.line ≡ line
    → (link : Link) × (chain_below (past_of r) line n ≡ link ∷ links_left (past_of r) line (n + 1) n)
    × (link.agent ≡ awaited.agent) × (carries link ≡ awaited.carries)
    × (awaited.carries ≡ true → is_moved_below (past_of r) line n ≡ true)
ends-oldest r line n q awaited h l ends k names =
    let p : Past = past_of r in
    let m : ℕ = length r.trace in
    let a = answers-in-order r h in
    let here : ended_requests p n ≡ k.end.first ∷ [] = ends ∙ ap (λ x. x ∷ []) (sym k.first) in
    let ended = listed-alone p n k.end.first here in
    let fit = carries-awaited r k.at k.end awaited h k.there k.awaits in (
      link_of p line k.at k.end awaited,
      oldest-ends p m line n k.at k.end awaited a l k.there here k.awaits names,
      refl,
      ap (λ x. carries (link_of p x k.at k.end awaited)) (sym names) ∙ fit.fits,
      λ carried. moved-there p m line n k.at k.end awaited a l k.there ended k.awaits names carried
          (λ u low f. a.moves k.at u n k.end k.there (fit.moves carried) (omega arith) l f ended),
    )

-- the end of a clock, where it is awaited on the line, is that of the oldest link
pub ends-in-order : (r : Run) (line n : ℕ) → Timely r → n < length r.trace → EndsInOrder (past_of r) line n
ends-in-order r line n h l =
    let p : Past = past_of r in
    let m : ℕ = length r.trace in
    let a = answers-in-order r h in
    record {
      few = λ q u qs e. a.few n q u qs l e;
      oldest = λ q awaited ends e names. ends-oldest r line n q awaited h l ends (has-awaited p n q awaited e) names;
      others = λ none. all-left p m line n a l none;
      newest = λ s e. newest-left p m n s a l e;
      moved = moved-more p m line n a l;
    }
