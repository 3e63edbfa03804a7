-- The hits of agents, one after the other, where nobody else holds what one of them holds alone: their entries are
-- served, and each agent has the bytes of the one byte memory behind them.
use Rattle.fsb_bench_values.proofs.Words
use Words.{ℕ, zero, suc, ◌+◌, ◌≡◌, ◌≢◌, true, false, List, [], ◌∷◌, ◌++◌, Some, refl, sym, ap, subst, ◌∙◌, arith}
use Words.{slice_get, Done, ReplayState, replay, served_state, replayed_values-append, is_held, line_bytes, Performed}
use Words.{AgentView, line_state_by, performed, performed_entries, agents_told, for_all, hit_entries}
use Rattle.std.proofs.lemmas.List.{map-append}
use Rattle.fsb_bench_values.proofs.HandServed.{AreServed}
use Rattle.fsb_bench_values.proofs.ItemsServed.{CompletesTo, HasLawfulItems, HitServed, IsAgentAt, alone_by}
use Rattle.fsb_bench_values.proofs.ItemsServed.{hit-served}

-- the agents, the first of which has this number, have the bytes of the state
abbrev pub AreAgentsAt : ReplayState → ℕ → List AgentView → Type 0
AreAgentsAt state k vs = (j : ℕ) (w : AgentView) → slice_get vs j ≡ Some w → IsAgentAt state (k + j) w

-- they have their numbers, and lawful scripts
pub record IsNumbered (k : ℕ) (w : AgentView) : Type 0 where
  pub number : w.number ≡ k
  pub lawful : HasLawfulItems w

abbrev pub AreNumbered : ℕ → List AgentView → Type 0
AreNumbered k vs = (j : ℕ) (w : AgentView) → slice_get vs j ≡ Some w → IsNumbered (k + j) w

-- agent b holds no line that one of these has alone, and is none of them
pub record IsOutside (b : ℕ) (u : AgentView) (k : ℕ) (vs : List AgentView) : Type 0 where
  pub apart : (j : ℕ) (w : AgentView) (line : ℕ) → slice_get vs j ≡ Some w → alone_by w line ≡ true
      → is_held (line_state_by u line) ≡ true → ⊥
  pub other : (j : ℕ) (w : AgentView) → slice_get vs j ≡ Some w → b ≢ k + j

-- each is apart from the ones behind it, and they from it
pub record AreApart (vs : List AgentView) : Type 0 where
  pub alone : (i j : ℕ) (u w : AgentView) (line : ℕ) → slice_get vs i ≡ Some u → slice_get vs j ≡ Some w → i ≢ j
      → alone_by w line ≡ true → is_held (line_state_by u line) ≡ true → ⊥

-- what is completed by another leaves an agent's bytes as they have to be
pub beside-kept : (state after : ReplayState) (a b : ℕ) (w next u : AgentView)
    → CompletesTo state after a (alone_by w) w next
    → b ≢ a → ((line : ℕ) → alone_by w line ≡ true → is_held (line_state_by u line) ≡ true → ⊥)
    → IsAgentAt state b u → IsAgentAt after b u
beside-kept state after a b w next u c other apart k = grind arith

-- served one after the other
pub replay-append : (state : ReplayState) (xs ys : List Done) → replay state (xs ++ ys) ≡ replay (replay state xs) ys
replay-append state [] ys = refl
replay-append state (x ∷ xs) ys = replay-append (served_state state x.agent x.access) xs ys

pub served-append : (state : ReplayState) (xs ys : List Done) → AreServed state xs → AreServed (replay state xs) ys
    → AreServed state (xs ++ ys)
served-append state xs ys first second = grind (arith, map-append, replayed_values-append)

-- the hits of agents that have the bytes of the state
pub record HitsServed (state : ReplayState) (k clock : ℕ) (vs : List AgentView) : Type 0 where
  pub served : AreServed state (hit_entries clock vs)
  pub beside : (line : ℕ) → ((j : ℕ) (w : AgentView) → slice_get vs j ≡ Some w → alone_by w line ≡ false)
      → line_bytes (replay state (hit_entries clock vs)).memory line ≡ line_bytes state.memory line
  pub agents : AreAgentsAt (replay state (hit_entries clock vs)) k (agents_told (for_all (Performed clock)) k vs)
  pub outside : (b : ℕ) (u : AgentView) → IsOutside b u k vs → IsAgentAt state b u
      → IsAgentAt (replay state (hit_entries clock vs)) b u

pub hits-served : (state : ReplayState) (k clock : ℕ) (vs : List AgentView) → AreNumbered k vs → AreApart vs
    → AreAgentsAt state k vs → HitsServed state k clock vs
hits-served state k clock [] are apart at = record {
  served = refl;
  beside = λ line off. refl;
  agents = λ j w e. absurd (let no : ⊥ = cc in no);
  outside = λ b u o h. h;
}
hits-served state k clock (w ∷ ws) are apart at =
    let own : k + 0 ≡ k = omega arith in
    let numbered = are 0 w refl in
    let hit = hit-served state k clock w (numbered.number ∙ own) numbered.lawful
    (subst (λ n. IsAgentAt state n w) own (at 0 w refl)) in
    let middle = replay state (performed_entries w clock) in
    let ends : replay state (hit_entries clock (w ∷ ws)) ≡ replay middle (hit_entries clock ws) =
    replay-append state (performed_entries w clock) (hit_entries clock ws) in
    let rest = hits-served middle (k + 1) clock ws
    (λ j u e. subst (λ n. IsNumbered n u) (shift j) (are (suc j) u e))
    (record {
      alone = λ i j u x line e f ne. apart.alone (suc i) (suc j) u x line e f (λ same. ne
          (suc-same i j same));
    })
    (λ j u e. subst (λ n. IsAgentAt middle n u) (shift j)
    (beside-kept state middle k (k + suc j) w (performed w clock) u hit.completes (omega arith)
    (λ line. apart.alone (suc j) 0 u w line e refl (λ same. suc-not j same)) (at (suc j) u e))) in
    record {
      served = served-append state (performed_entries w clock) (hit_entries clock ws) hit.served rest.served;
      beside = λ line off. ap (λ (s : ReplayState). line_bytes s.memory line) ends
          ∙ rest.beside line (λ j u e. off (suc j) u e) ∙ hit.completes.beside line (off 0 w refl);
      agents = λ j u e. subst (λ s. IsAgentAt s (k + j) u) (sym ends) (told j u e hit rest);
      outside = λ b u o h. subst (λ s. IsAgentAt s b u) (sym ends)
          (rest.outside b u
          (record {
            apart = λ j x line e. o.apart (suc j) x line e;
            other = λ j x e. subst (λ n. b ≢ n) (shift j) (o.other (suc j) x e);
          })
          (beside-kept state middle k b w (performed w clock) u hit.completes
          (subst (λ n. b ≢ n) own (o.other 0 w refl)) (λ line. o.apart 0 w line refl) h));
    }
  where
    shift : (j : ℕ) → k + suc j ≡ k + 1 + j
    shift j = omega arith

    suc-same : (i j : ℕ) → suc i ≡ suc j → i ≡ j
    suc-same i j e = omega (arith, e)

    suc-not : (j : ℕ) → suc j ≡ 0 → ⊥
    suc-not j e = omega (arith, e)

    told : (j : ℕ) (u : AgentView)
        → slice_get (performed w clock ∷ agents_told (for_all (Performed clock)) (k + 1) ws) j ≡ Some u
        → HitServed state k clock w → HitsServed (replay state (performed_entries w clock)) (k + 1) clock ws
        → IsAgentAt (replay (replay state (performed_entries w clock)) (hit_entries clock ws)) (k + j) u
    told zero u e hit rest =
        let middle = replay state (performed_entries w clock) in
        let is : performed w clock ≡ u = cc in
        subst (λ x. IsAgentAt (replay middle (hit_entries clock ws)) (k + 0) x) is
        (rest.outside (k + 0) (performed w clock)
        (record {
          apart = λ j x line f sole held.
              apart.alone 0 (suc j) w x line refl f (λ same. suc-not j (sym same)) sole (hit.completes.lower line held);
          other = λ j x f. omega arith;
        })
        (subst (λ n. IsAgentAt middle n (performed w clock)) (let own : k ≡ k + 0 = omega arith in own)
        hit.completes.agent))
    told (suc j) u e hit rest = grind arith
