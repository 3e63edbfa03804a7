-- The events of a clock, which are told by the past up to it, are those told by the whole past.
use Rattle.fsb_coherent.proofs.Words
use Words.{ℕ, ◌+◌, ◌≤◌, ◌≡◌, if◌then◌else◌, nat_eq, List, [], ◌∷◌, ◌++◌, Option, Some, is_some, refl, ap, ◌∙◌, arith}
use Words.{append_assoc, option_and_then, option_map_or, Purpose, Begins, Drops, IsDeferred, IsGranted, IsHanded}
use Words.{IsLost, IsRetried, IsUpgraded, IsWritten, begun_at, ended_requests, holds_line, is_rival, is_dirty, Claim}
use Words.{Past, SnoopEnd, past_to, is_held_elsewhere, going-alike, rival-same, cancelled_in, owner_at, purpose_wanted}
use Words.{BeginsInOrder, awaited_events, awaiting_stores, begin_events, begins_on, cancel_events, cancels_on}
use Words.{claimed_events, end_events, ends_on, events_at, events_of_clock, events_of_ends, hits_on, is_brought_to}
use Words.{is_of_other_line, others_on, responds_on, settled_events, snoop_events, snoops_on, events_before_snoop}
use Words.{events_from_snoop}
use Rattle.fsb_trace.specs.declared.outcome.Outcome.TheVariants as outcomes
use Rattle.fsb_coherent.proofs.QuietClocks.{begun-to, cancelled-to, ended-to, responded-to, snooped-to}
use Rattle.fsb_coherent.proofs.WordsTo.{GoesOnAt, awaited-to, begun-behind, begun-below, dirty-to, entries-to, hit-to}
use Rattle.fsb_coherent.proofs.WordsTo.{holds-to, purpose-to}

-- the response, the hits and the request that begins
responds-to : (p : Past) (line n : ℕ) → responds_on (past_to p n) line n ≡ responds_on p line n
unfolding responds_on
responds-to p line n = grind (arith, responded-to, awaited-to)

hits-to : (p : Past) (line n : ℕ) → GoesOnAt p n → hits_on (past_to p n) line n ≡ hits_on p line n
unfolding hits_on
hits-to p line n h = grind (arith, hit-to, entries-to)

begins-to : (p : Past) (line n : ℕ) → GoesOnAt p n → begins_on (past_to p n) line n ≡ begins_on p line n
unfolding begins_on begin_events
begins-to p line n h =
    let begun = begun-to p n in
    let purpose : (a : ℕ) → purpose_wanted (past_to p n) a n ≡ purpose_wanted p a n = purpose-to p n h in
    let rival : (other : ℕ) → is_rival (past_to p n) other line ≡ is_rival p other line =
    λ other. rival-same (n + 1) (past_to p n) p other line (going-alike (n + 1) (past_to p n) p h) in
    λ i.
    option_map_or (λ claim.
    if nat_eq claim.line line
    then option_map_or (λ kind. Begins claim.agent kind n ∷ []) (purpose claim.agent i) []
    else (if rival claim.line i then Drops claim.agent ∷ [] else [])) (begun i) []

-- the cancellation: the request that is cancelled was open, and so it began below n
unbegun : (p : Past) (line n q : ℕ) → BeginsInOrder p line n → cancelled_in p n ≡ Some q → n + 1 ≤ q
    → (o : Option Claim) → begun_at p q ≡ o → option_map_or (cancel_events line) o [] ≡ []
unfolding cancel_events
unbegun p line n q h1 h2 h3 o h4 = grind arith

cancels-by : (p : Past) (line n : ℕ) → BeginsInOrder p line n → (o : Option ℕ) → cancelled_in p n ≡ o
    → option_map_or (cancel_events line) (option_and_then (begun_at (past_to p n)) o) []
    ≡ option_map_or (cancel_events line) (option_and_then (begun_at p) o) []
cancels-by p line n h1 o h2 = grind (arith, begun-below, begun-behind, unbegun)

cancels-to : (p : Past) (line n : ℕ) → BeginsInOrder p line n → cancels_on (past_to p n) line n ≡ cancels_on p line n
unfolding cancels_on
cancels-to p line n b = grind (arith, cancelled-to, cancels-by)

-- the snoop end
settled-to : (p : Past) (line n : ℕ) → GoesOnAt p n → (s : SnoopEnd) (a : ℕ) (kind : Purpose)
    → settled_events (past_to p n) line n s a kind ≡ settled_events p line n s a kind
unfolding settled_events is_held_elsewhere owner_at
settled-to p line n h s a kind =
    let holds : (b : ℕ) → holds_line (past_to p n) b line n ≡ holds_line p b line n = λ b. holds-to p n h b line in
    let dirty : (b : ℕ) → is_dirty (past_to p n) b line n ≡ is_dirty p b line n = λ b. dirty-to p n h b line in
    let shared : is_held_elsewhere (past_to p n) a line n ≡ is_held_elsewhere p a line n = grind arith in
    let owner : owner_at (past_to p n) a line n ≡ owner_at p a line n = grind arith in
    λ i. elim s.outcome [
      | outcomes.Granted ↦ IsGranted a kind (shared i) ∷ []
      | outcomes.Handed ↦ option_map_or (λ b. IsHanded a kind b ∷ []) (owner i) []
      | outcomes.Retried ↦ IsRetried a kind ∷ []
      | outcomes.Deferred ↦ IsDeferred a kind (shared i) ∷ []
      | outcomes.Written ↦ IsWritten a ∷ []
      | outcomes.Replied ↦ []
      | outcomes.Failed ↦ []
      | outcomes.Upgraded ↦ (if is_some s.grant then IsUpgraded a else IsLost a) ∷ []
    ]

pub snoop_events-to : (p : Past) (line n : ℕ) → GoesOnAt p n → (s : SnoopEnd)
    → snoop_events (past_to p n) line n s ≡ snoop_events p line n s
unfolding snoop_events claimed_events
snoop_events-to p line n h s = grind (arith, settled-to)

snoops-to : (p : Past) (line n : ℕ) → GoesOnAt p n → snoops_on (past_to p n) line n ≡ snoops_on p line n
unfolding snoops_on
snoops-to p line n h = grind (arith, snooped-to, snoop_events-to)

-- the ends
awaiting-to : (p : Past) (line n : ℕ) → GoesOnAt p n → (a : ℕ)
    → awaiting_stores (past_to p n) line n a ≡ awaiting_stores p line n a
unfolding awaiting_stores
awaiting-to p line n h a = grind (arith, hit-to, entries-to)

end-to : (p : Past) (line n : ℕ) → GoesOnAt p n → (q : ℕ) → end_events (past_to p n) line n q ≡ end_events p line n q
unfolding end_events awaited_events
end-to p line n h q = grind (arith, awaited-to, awaiting-to)

ends-of : (p : Past) (line n : ℕ) → GoesOnAt p n → (qs : List ℕ)
    → events_of_ends (past_to p n) line n qs ≡ events_of_ends p line n qs
unfolding events_of_ends
ends-of p line n h [] = refl
ends-of p line n h (q ∷ qs) = grind (arith, end-to)

ends-to : (p : Past) (line n : ℕ) → GoesOnAt p n → ends_on (past_to p n) line n ≡ ends_on p line n
unfolding ends_on
ends-to p line n h = ap (events_of_ends (past_to p n) line n) (ended-to p n) ∙ ends-of p line n h (ended_requests p n)

-- the accesses that come with the end of another line
others-to : (p : Past) (line n : ℕ) → GoesOnAt p n → others_on (past_to p n) line n ≡ others_on p line n
unfolding others_on is_of_other_line is_brought_to
others-to p line n h = grind (arith, hit-to, awaited-to, ended-to, entries-to)

two-parts : {X : Type 0} (first s e o : List X) → first ++ s ++ e ++ o ≡ first ++ (s ++ e ++ o)
two-parts first s e o = ap (λ t. t ++ o) (append_assoc first s e) ∙ append_assoc first (s ++ e) o

-- the events of a clock are those before its snoop end and those from it on
pub events-in-two : (p : Past) (line n : ℕ) → GoesOnAt p n → BeginsInOrder p line n
    → events_at p line n ≡ events_before_snoop p line n ++ events_from_snoop p line n
unfolding events_at events_of_clock events_before_snoop events_from_snoop
events-in-two p line n h b =
    grind (arith, responds-to, hits-to, begins-to, cancels-to, snoops-to, ends-to, others-to, two-parts)
