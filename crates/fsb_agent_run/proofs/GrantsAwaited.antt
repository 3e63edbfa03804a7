-- A line is granted only to who awaits no earlier grant of it; so an end that comes is that of the latest grant.
use Rattle.fsb_agent_run.proofs.Words
use Words.{ℕ, zero, suc, ◌+◌, ◌<◌, ◌≤◌, ◌≡◌, Bool, true, false, ◌||◌, List, [], ◌∷◌, ◌++◌, Option, Some, None, refl}
use Words.{sym, ap, subst, ◌∙◌, inl, inr, arith, if◌then◌else◌, ◌==◌, option_and_then, both_ways, cases_lt}
use Words.{any_where-found, Link, is_linked, Claim, Grant, Past, SnoopEnd, grant_at, is_end_at, is_ended, is_granted}
use Words.{latest_grant, snooped_at, Run, past_of, last_where-found, last_where-from, Awaited, awaited_by}
use Words.{awaited_by_grant, chain_below, link_for, link_left, links_left, some-there, awaits-grant, clock-facts}
use Words.{ended-number, events-may-happen, grant-first, granted-parts, live-at, Reaches, is_awaited}

linked-append : (a : ℕ) (xs ys : List Link) → is_linked a (xs ++ ys) ≡ (is_linked a xs || is_linked a ys)
linked-append a [] ys = refl
linked-append a (x ∷ xs) ys =
    ap (λ b. (x.agent == a) || b) (linked-append a xs ys) ∙ grouped (x.agent == a) (is_linked a xs) (is_linked a ys)
  where
    grouped : (u v w : Bool) → (u || (v || w)) ≡ ((u || v) || w)
    grouped u v w = grind arith

-- an end that is awaited by an agent is a link of it, as long as it has not come
link-there : (p : Past) (a line n t : ℕ) (s : SnoopEnd) (awaited : Awaited) → is_ended p n s.first ≡ false
    → awaited_by s ≡ Some awaited → awaited.line ≡ line → awaited.agent ≡ a
    → is_linked a (link_left p line n t s) ≡ true
unfolding link_left link_for
link-there p a line n t s awaited unended awaits names mine = grind arith

pub unlinked-ended : (p : Past) (a line n b t : ℕ) (s : SnoopEnd) (awaited : Awaited)
    → is_linked a (links_left p line n b) ≡ false → t < b → snooped_at p t ≡ Some s → awaited_by s ≡ Some awaited
    → awaited.line ≡ line → awaited.agent ≡ a → is_ended p n s.first ≡ true
unfolding links_left
unlinked-ended p a line n zero t s awaited none l there awaits names mine = absurd (omega arith)
unlinked-ended p a line n (suc b) t s awaited none l there awaits names mine =
    grind (arith, linked-append, link-there, unlinked-ended p a line n b t s awaited)

made : (b : Bool) (mine grant : Grant) → (if b then Some mine else None) ≡ Some grant → mine ≡ grant
made true mine grant e = (let same : mine ≡ grant = cc in same)
made false mine grant e = absurd (let no : ⊥ = cc in no)

-- who is granted a line awaits no end on it
pub granted-unlinked : (r : Run) (a line t : ℕ) → Reaches r (t + 1) → is_granted (past_of r) a line t ≡ true
    → is_linked a (chain_below (past_of r) line t) ≡ false
granted-unlinked r a line t h granted =
    let p = past_of r in
    let long = h.long in
    let g = granted-parts p a line t granted in
    by g.0 g.1 g.2 g.3 g.4 g.5 g.0.claim refl
  where
    by : (s : SnoopEnd) (grant : Grant) → snooped_at (past_of r) t ≡ Some s → s.grant ≡ Some grant → grant.agent ≡ a
        → grant.line ≡ line → (o : Option Claim) → s.claim ≡ o → is_linked a (chain_below (past_of r) line t) ≡ false
    by s grant there grants agent names (Some claim) claims =
        let p = past_of r in
        let long = h.long in
        let tied = (events-may-happen r line t [] h.timely h.bounds (omega arith)).1 in
        let settles = (clock-facts r line t h.timely h.bounds (omega arith)).settles in
        let on = sym (settles.elsewhere s claim grant there claims grants) ∙ names in
        let settled = settles.settled s claim there claims on in
        let fits = settled.fits in
        let mine : fits.agent ≡ a = ap (λ (g : Grant). g.agent) (made _ _ grant (sym fits.granted ∙ grants)) ∙ agent in
        let ask = tied.tied.opened fits.agent _ settled.opened in
        let off = tied.ordered.apart fits.agent _ ask in
        subst (λ b. is_linked b (chain_below p line t) ≡ false) mine
        (sym (ap (is_linked fits.agent) tied.tied.chain) ∙ off)
    by s grant there grants agent names None none =
        let p = past_of r in
        let long = h.long in
        let tied = (events-may-happen r line t [] h.timely h.bounds (omega arith)).1 in
        let settles = (clock-facts r line t h.timely h.bounds (omega arith)).settles in
        let replied = settles.replied s grant there none grants names in
        let off = (tied.ordered.pending replied.deferral (tied.tied.deferral ∙ replied.pending)).no_link in
        subst (λ b. is_linked b (chain_below p line t) ≡ false) (sym replied.agent ∙ agent)
        (sym (ap (is_linked replied.deferral.agent) tied.tied.chain) ∙ off)

-- an earlier grant of the line has ended
pub earlier-ended : (r : Run) (a line t u : ℕ) (s : SnoopEnd) (grant : Grant) → Reaches r (u + 1) → t < u
    → is_granted (past_of r) a line u ≡ true → snooped_at (past_of r) t ≡ Some s → s.grant ≡ Some grant
    → grant.agent ≡ a → grant.line ≡ line → is_ended (past_of r) u s.first ≡ true
unfolding awaited_by_grant chain_below
earlier-ended r a line t u s grant h l granted there grants agent names =
    unlinked-ended (past_of r) a line u u t s (awaited_by_grant s.outcome grant)
    (granted-unlinked r a line u h granted) l there (awaits-grant s grant grants) names agent

-- the latest grant below a clock
pub latest-says : (p : Past) (a line n : ℕ) (grant : Grant) → latest_grant p a line n ≡ Some grant
    → (t : ℕ) × (t < n) × (is_granted p a line t ≡ true) × (grant_at p t ≡ Some grant)
unfolding latest_grant
latest-says p a line n grant e = grind (arith, last_where-found)

grant-is : (p : Past) (t : ℕ) (s : SnoopEnd) (grant other : Grant) → snooped_at p t ≡ Some s → s.grant ≡ Some grant
    → grant_at p t ≡ Some other → grant ≡ other
unfolding grant_at
grant-is p t s grant other there grants e = grind arith

-- a line is granted only to who awaits no earlier grant of it
pub granted-unawaited : (r : Run) (a line u : ℕ) → Reaches r (u + 1) → is_granted (past_of r) a line u ≡ true
    → is_awaited (past_of r) a line u u ≡ false
unfolding is_awaited
granted-unawaited r a line u h granted =
    grind (arith, some-there, latest-says, granted-parts, grant-is, grant-first, earlier-ended)

-- a request ends once
pub end-once : (r : Run) (x c q : ℕ) → Reaches r (c + 1) → x ≤ c → is_end_at (past_of r) x q ≡ true
    → is_end_at (past_of r) c q ≡ true → x ≡ c
end-once r x c q h l first second =
    let long = h.long in
    let i = ended-number r x q h.timely (omega arith) first in
    let j = ended-number r c q h.timely (omega arith) second in
    let one = (live-at r.trace i.0 q i.1.first).number in
    let two = (live-at r.trace j.0 q j.1.first).number in
    let same : i.0 ≡ j.0 = sym one ∙ two in
    let here = i.1.end in
    let there = j.1.end in
    cc

pub not-ended : (r : Run) (c n q : ℕ) → Reaches r (c + 1) → n ≤ c → is_end_at (past_of r) c q ≡ true
    → is_ended (past_of r) n q ≡ false
unfolding is_ended
not-ended r c n q h l e = grind (arith, any_where-found, end-once)

-- the end of a grant that comes is that of the latest one
pub latest-ends : (r : Run) (a line t c : ℕ) (s : SnoopEnd) (grant : Grant) → Reaches r (c + 1) → t ≤ c
    → snooped_at (past_of r) t ≡ Some s → s.grant ≡ Some grant → is_granted (past_of r) a line t ≡ true
    → is_end_at (past_of r) c s.first ≡ true → latest_grant (past_of r) a line (c + 1) ≡ Some grant
unfolding latest_grant grant_at
latest-ends r a line t c s grant h l there grants granted ends =
    let p = past_of r in
    let long = h.long in
    let last = last_where-from (is_granted p a line) (c + 1) t (omega arith) granted in
    let found = last_where-found (is_granted p a line) (c + 1) last.0 last.1 in
    let upto = found.0 in
    let from = last.2 in
    let g = granted-parts p a line t granted in
    let here = g.2 in
    let own : g.0 ≡ s = cc in
    let agent = g.4 in
    let names = g.5 in
    let gives = g.3 in
    let is : g.1 ≡ grant = (let e = sym (sym (ap (λ (x : SnoopEnd). x.grant) own) ∙ gives) ∙ grants in cc) in
    elim (cases_lt t last.0) [
      | inr m ↦
          let same : last.0 ≡ t = omega arith in
          ap (λ o. option_and_then (λ k. option_and_then (λ (x : SnoopEnd). x.grant) (snooped_at p k)) o)
          (last.1 ∙ ap Some same)
          ∙ ap (option_and_then (λ (x : SnoopEnd). x.grant)) there ∙ grants
      | inl m ↦
          let more : Reaches r (last.0 + 1) = record { timely = h.timely; bounds = h.bounds; long = omega arith } in
          let ended = earlier-ended r a line t last.0 s grant more m found.1 there grants
          (sym (ap (λ (x : Grant). x.agent) is) ∙ agent) (sym (ap (λ (x : Grant). x.line) is) ∙ names) in
          absurd (both_ways (is_ended p last.0 s.first) (not-ended r c last.0 s.first h (omega arith) ends) ended)
    ]
