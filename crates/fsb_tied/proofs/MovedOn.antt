-- Data of one request at most are on the bus, from its response up to its end.
use Rattle.fsb_tied.proofs.Words
use Words.{ℕ, ◌+◌, ◌<◌, ◌≡◌, true, false, not, ◌&&◌, ◌||◌, Some, sym, ap, subst, ◌∙◌, arith, inl, inr, and_from}
use Words.{both_ways, cases_lt, or_left, or_right, is_end_at, is_ended, snooped_at, Past, SnoopEnd, responded_in}
use Words.{does_end_on, does_respond_on, is_moved_below}
use Rattle.fsb_tied.proofs.AnswersInOrder.{AnswersInOrder}
use Rattle.fsb_tied.proofs.Awaiting.{awaited-there}
use Rattle.fsb_tied.proofs.InTurn.{earlier-ended, ended-by, ended-later, ended-parts, not-so, snooped-before}
use Rattle.fsb_tied.proofs.InTurn.{unended-at-response}
use Rattle.fsb_tied.proofs.Moving.{EndsOn, IsMoved, Moves, end-on, ends-on, moved-from, moved-parts, moves-from}
use Rattle.fsb_tied.proofs.Moving.{moves-parts}

both-firsts : (p : Past) (t u : ℕ) (s e : SnoopEnd) → snooped_at p t ≡ Some s → snooped_at p u ≡ Some e → t ≡ u
    → s.first ≡ e.first
both-firsts p t u s e f g same = grind arith

-- where data are put on the bus none are there
pub unmoved : (p : Past) (m line n : ℕ) → AnswersInOrder p m → n < m → Moves p line n → IsMoved p line n → ⊥
unmoved p m line n a l h k =
    let e = h.awaits in
    let before = k.before in
    let responds : responded_in p n ≡ Some e.end.first = h.responds ∙ ap Some (sym e.first) in
    elim (cases_lt k.at e.at) [
      | inl less ↦
          let ended = a.in_turn k.at e.at n k.end e.end k.there e.there less l responds in
          both_ways (is_ended p n k.end.first) k.unended ended
      | inr more ↦ elim (cases_lt e.at k.at) [
        | inl less ↦
            let ended = a.in_turn e.at k.at k.response e.end k.end e.there k.there less (omega arith) k.responds in
            let none = unended-at-response p m n e.end.first a l responds in
            both_ways (is_ended p n e.end.first) none (ended-later p k.response n e.end.first (omega arith) ended)
        | inr other ↦
            let first = both-firsts p k.at e.at k.end e.end k.there e.there (omega arith) in
            let same : k.response ≡ n = grind arith in
            omega arith
      ]
    ]

-- where an end is awaited on the line none are left
clash : (p : Past) (m line n : ℕ) → AnswersInOrder p m → n < m → IsMoved p line (n + 1) → EndsOn p line n → ⊥
clash p m line n a l k h =
    let e = h.awaits in
    let before = k.before in
    let ends : is_end_at p n e.end.first ≡ true = subst (λ q. is_end_at p n q ≡ true) (sym e.first) h.ends in
    elim (cases_lt k.at e.at) [
      | inl less ↦
          let ended = earlier-ended p m n k.at e.at k.end e.end a l k.there e.there less ends in
          both_ways (is_ended p (n + 1) k.end.first) k.unended (ended-later p n (n + 1) k.end.first (omega arith) ended)
      | inr more ↦ elim (cases_lt e.at k.at) [
        | inl less ↦
            let ended = a.in_turn e.at k.at k.response e.end k.end e.there k.there less (omega arith) k.responds in
            let v = ended-parts p k.response e.end.first ended in
            let low : v.0 < k.response = v.1 in
            let same : v.0 ≡ n = a.one_end v.0 n e.end.first (omega arith) l v.2 ends in
            omega arith
        | inr other ↦
            let first = both-firsts p k.at e.at k.end e.end k.there e.there (omega arith) in
            let here : is_end_at p n k.end.first ≡ true = subst (λ q. is_end_at p n q ≡ true) (sym first) ends in
            both_ways (is_ended p (n + 1) k.end.first) k.unended (ended-by p (n + 1) n k.end.first (omega arith) here)
      ]
    ]

still : (p : Past) (n q : ℕ) → is_ended p n q ≡ false → (is_end_at p n q ≡ true → ⊥) → is_ended p (n + 1) q ≡ false
still p n q none now = grind (arith, ended-parts, ended-by)

-- what stays on the bus, or is put there, while no end is awaited on the line
moved-on : (p : Past) (m line n : ℕ) → AnswersInOrder p m → n < m → IsMoved p line (n + 1)
    → ((is_moved_below p line n || does_respond_on p line n) && not (does_end_on p line n)) ≡ true
moved-on p m line n a l k =
    let before = k.before in
    let none = not-so (does_end_on p line n) (λ e. clash p m line n a l k (ends-on p line n e)) in
    let gap = snooped-before p m k.response k.at k.end a (omega arith) k.there k.responds in
    and_from (is_moved_below p line n || does_respond_on p line n) (not (does_end_on p line n))
    (elim (cases_lt k.response n) [
      | inl less ↦
          or_left (is_moved_below p line n) (does_respond_on p line n)
          (moved-from p line n (record {
            at = k.at;
            end = k.end;
            there = k.there;
            below = omega arith;
            awaited = k.awaited;
            awaits = k.awaits;
            names = k.names;
            carried = k.carried;
            response = k.response;
            responds = k.responds;
            before = less;
            unended = not-so (is_ended p n k.end.first)
                (λ t. both_ways (is_ended p (n + 1) k.end.first) k.unended
                (ended-later p n (n + 1) k.end.first (omega arith) t));
          }))
      | inr more ↦
          let same : k.response ≡ n = omega arith in
          or_right (is_moved_below p line n) (does_respond_on p line n)
          (moves-from p line n k.end.first k.awaited (subst (λ t. responded_in p t ≡ Some k.end.first) same k.responds)
          (awaited-there p m n k.at k.end a (omega arith) k.there ∙ k.awaits) k.names k.carried)
    ])
    (ap not none)

stays-moved : (p : Past) (m line n : ℕ) → AnswersInOrder p m → n < m → does_end_on p line n ≡ false → IsMoved p line n
    → is_moved_below p line (n + 1) ≡ true
stays-moved p m line n a l none k =
    let before = k.before in
    let below = k.below in
    moved-from p line (n + 1) (record {
      at = k.at;
      end = k.end;
      there = k.there;
      below = omega arith;
      awaited = k.awaited;
      awaits = k.awaits;
      names = k.names;
      carried = k.carried;
      response = k.response;
      responds = k.responds;
      before = omega arith;
      unended = still p n k.end.first k.unended
          (λ e. both_ways (does_end_on p line n) none
          (end-on p line n k.end.first k.awaited e
          (awaited-there p m n k.at k.end a (omega arith) k.there ∙ k.awaits) k.names));
    })

gets-moved : (p : Past) (m line n : ℕ) → AnswersInOrder p m → n < m → does_end_on p line n ≡ false → Moves p line n
    → is_moved_below p line (n + 1) ≡ true
gets-moved p m line n a l none h =
    let e = h.awaits in
    let responds : responded_in p n ≡ Some e.end.first = h.responds ∙ ap Some (sym e.first) in
    let low = e.below in
    moved-from p line (n + 1) (record {
      at = e.at;
      end = e.end;
      there = e.there;
      below = omega arith;
      awaited = h.awaited;
      awaits = e.awaits;
      names = h.names;
      carried = h.carried;
      response = n;
      responds = responds;
      before = omega arith;
      unended = still p n e.end.first (unended-at-response p m n e.end.first a l responds)
          (λ t. both_ways (does_end_on p line n) none
          (end-on p line n e.end.first h.awaited t (awaited-there p m n e.at e.end a low e.there ∙ e.awaits) h.names));
    })

-- data of the line are on the bus one clock on where they were, or are put there, and no end is awaited on the line
pub moved-more : (p : Past) (m line n : ℕ) → AnswersInOrder p m → n < m
    → is_moved_below p line (n + 1)
    ≡ ((is_moved_below p line n || does_respond_on p line n) && not (does_end_on p line n))
moved-more p m line n a l = grind (arith, moved-on, moved-parts, stays-moved, gets-moved, moves-parts)
