-- What caches and memory hold at the end of ten runs of one line: the state at each agent, the line's bytes, and
-- memory's.
use Rattle.std.proofs.Common.{◌≡◌, ◌<◌, ℕ, zero, suc, false, refl, sym, ap, ◌∙◌, subst, List, ◌∷◌, length}
use Rattle.std.proofs.Common.{replicate, nat_le, true, IsTrue, arith}
use Rattle.std.proofs.lemmas.Bool.{leb-true}
use Rattle.std.proofs.lemmas.Bool.Decides.{nat_tests}
use Rattle.fsb_line.specs.declared.state.Mesi.{Mesi}
use Rattle.fsb_line.specs.declared.state.Mesi.TheVariants.{Invalid, Exclusive, Modified}
use Rattle.fsb_timely.specs.Runs.{Run, past_of}
use Rattle.fsb_timely.specs.Grants.{holds_line}
use Rattle.fsb_timely.specs.Hits.{line_state_of}
use Rattle.fsb_timely.specs.Kept.{Kept, is_named, bytes_now, bytes_put}
use Rattle.rows_timely.proofs.Opened.{opened}
use Rattle.rows_timely.proofs.RetriedLoad.{run as retried_run}
use Rattle.rows_timely.proofs.StalledSnoop.{run as stalled_run}
use Rattle.rows_timely.proofs.CancelledByAddressError.{run as cancelled_run}
use Rattle.rows_timely.proofs.StoreHandedOverBeforeArrival.{run as handed_run}
use Rattle.rows_timely.proofs.ThreeStoresChained.{run as chained_run}
use Rattle.rows_timely.proofs.ModifiedOverridesRetry.{run as overriding_run}
use Rattle.rows_timely.proofs.ParityOfALoad.{run as parity_run}
use Rattle.rows_timely.proofs.UpgradeOfASharedLine.{run as upgraded_run}
use Rattle.rows_timely.proofs.UpgradeLostAndHanded.{run as lost_run}
use Rattle.rows_timely.proofs.UpgradeLostAndMadeAgain.{run as again_run}

-- a line that is not held is Invalid
not_held : (r : Run) (a line : ℕ) → holds_line (past_of r) a line (length r.trace) ≡ false
    → line_state_of (past_of r) a line (length r.trace) ≡ Invalid
unfolding line_state_of
not_held r a line e = rw (e, line_state_of) refl

-- the state of the one line at each agent, its bytes, and those of memory
kept_if : (r : Run) (only : ℕ) (state : ℕ → Mesi) (bytes memory : List ℕ)
    → ((line : ℕ) → IsTrue (is_named r line) → line ≡ only)
    → ((a : ℕ) → a < length r.plan.scripts → state a ≡ line_state_of (past_of r) a only (length r.trace))
    → bytes ≡ bytes_now r only → memory ≡ bytes_put r only
    → Kept r (λ a line. state a) (λ a line. bytes) (λ line. memory)
kept_if r only state bytes memory named states copies put = record {
  invalid = λ a line l n e.
      let same : line ≡ only = named line n in
      states a l ∙ not_held r a only (subst (λ k. holds_line (past_of r) a k (length r.trace) ≡ false) same e);
  states = λ a line l n held ready. states a l
      ∙ ap (λ k. line_state_of (past_of r) a k (length r.trace)) (sym (named line n));
  copies = λ a line l n held ready. copies ∙ ap (bytes_now r) (sym (named line n));
  put = λ line n. put ∙ ap (bytes_put r) (sym (named line n));
}

-- the state at agent 0, at agent 1, and at agent 2
abbrev three : Mesi → Mesi → Mesi → ℕ → Mesi
three s t u zero = s
three s t u (suc zero) = t
three s t u (suc (suc a)) = u

-- 32 bytes of which the first is given
abbrev first_byte : ℕ → List ℕ
first_byte n = n ∷ replicate 31 0

-- the same for line 2 and up to three agents, each clause computed
three_kept : (r : Run) (s t u : Mesi) (bytes memory : List ℕ)
    → ((line : ℕ) → IsTrue (is_named r line) → line ≡ 2)
    → nat_le (length r.plan.scripts) 3 ≡ true
    → s ≡ line_state_of (past_of r) 0 2 (length r.trace)
    → t ≡ line_state_of (past_of r) 1 2 (length r.trace)
    → u ≡ line_state_of (past_of r) 2 2 (length r.trace)
    → bytes ≡ bytes_now r 2 → memory ≡ bytes_put r 2
    → Kept r (λ a line. three s t u a) (λ a line. bytes) (λ line. memory)
three_kept r s t u bytes memory named few at_0 at_1 at_2 = kept_if r 2 (three s t u) bytes memory named states
  where
    states : (a : ℕ) → a < length r.plan.scripts → three s t u a ≡ line_state_of (past_of r) a 2 (length r.trace)
    states zero l = at_0
    states (suc zero) l = at_1
    states (suc (suc zero)) l = at_2
    states (suc (suc (suc a))) l = absurd (let m = leb-true (length r.plan.scripts) 3 few in omega arith)

-- a load that was retried once
pub retried_is_kept : Kept retried_run (λ a line. three Exclusive Invalid Invalid a) (λ a line. first_byte 0)
    (λ line. first_byte 0)
unfolding opened
retried_is_kept = three_kept retried_run Exclusive Invalid Invalid (first_byte 0) (first_byte 0)
    (λ line n. grind (arith, nat_tests)) refl refl refl refl refl refl

-- a load whose snoop was stalled
pub stalled_is_kept : Kept stalled_run (λ a line. three Exclusive Invalid Invalid a) (λ a line. first_byte 0)
    (λ line. first_byte 0)
unfolding opened
stalled_is_kept = three_kept stalled_run Exclusive Invalid Invalid (first_byte 0) (first_byte 0)
    (λ line n. grind (arith, nat_tests)) refl refl refl refl refl refl

-- a load that was cancelled once
pub cancelled_is_kept : Kept cancelled_run (λ a line. three Exclusive Invalid Invalid a) (λ a line. first_byte 0)
    (λ line. first_byte 0)
unfolding opened
cancelled_is_kept = three_kept cancelled_run Exclusive Invalid Invalid (first_byte 0) (first_byte 0)
    (λ line n. grind (arith, nat_tests)) refl refl refl refl refl refl

-- a store into a line that was handed over: memory took the line on its way
pub handed_is_kept : Kept handed_run (λ a line. three Invalid Modified Invalid a) (λ a line. first_byte 2)
    (λ line. first_byte 1)
unfolding opened
handed_is_kept = three_kept handed_run Invalid Modified Invalid (first_byte 2) (first_byte 1)
    (λ line n. grind (arith, nat_tests)) refl refl refl refl refl refl

-- three stores: memory has the second one
pub chained_is_kept : Kept chained_run (λ a line. three Invalid Invalid Modified a) (λ a line. first_byte 3)
    (λ line. first_byte 2)
unfolding opened
chained_is_kept = three_kept chained_run Invalid Invalid Modified (first_byte 3) (first_byte 2)
    (λ line n. grind (arith, nat_tests)) refl refl refl refl refl refl

-- a line that was handed over though a retry was chosen
pub overriding_is_kept : Kept overriding_run (λ a line. three Invalid Modified Invalid a) (λ a line. first_byte 2)
    (λ line. first_byte 1)
unfolding opened
overriding_is_kept = three_kept overriding_run Invalid Modified Invalid (first_byte 2) (first_byte 1)
    (λ line n. grind (arith, nat_tests)) refl refl refl refl refl refl

-- a load and a store that hits, in profile 2
pub parity_is_kept : Kept parity_run (λ a line. three Modified Invalid Invalid a) (λ a line. 7 ∷ 5 ∷ replicate 30 0)
    (λ line. first_byte 7)
unfolding opened
parity_is_kept = three_kept parity_run Modified Invalid Invalid (7 ∷ 5 ∷ replicate 30 0) (first_byte 7)
    (λ line n. grind (arith, nat_tests)) refl refl refl refl refl refl

-- an upgrade that won: memory has nothing of the store
pub upgraded_is_kept : Kept upgraded_run (λ a line. three Modified Invalid Invalid a) (λ a line. first_byte 1)
    (λ line. first_byte 0)
unfolding opened
upgraded_is_kept = three_kept upgraded_run Modified Invalid Invalid (first_byte 1) (first_byte 0)
    (λ line n. grind (arith, nat_tests)) refl refl refl refl refl refl

-- an upgrade that lost and was handed the line
pub lost_is_kept : Kept lost_run (λ a line. three Invalid Modified Invalid a) (λ a line. first_byte 2)
    (λ line. first_byte 1)
unfolding opened
lost_is_kept = three_kept lost_run Invalid Modified Invalid (first_byte 2) (first_byte 1)
    (λ line n. grind (arith, nat_tests)) refl refl refl refl refl refl

-- an upgrade that lost and was made again
pub again_is_kept : Kept again_run (λ a line. three Invalid Modified Invalid a) (λ a line. first_byte 2)
    (λ line. first_byte 1)
unfolding opened
again_is_kept = three_kept again_run Invalid Modified Invalid (first_byte 2) (first_byte 1)
    (λ line n. grind (arith, nat_tests)) refl refl refl refl refl refl
