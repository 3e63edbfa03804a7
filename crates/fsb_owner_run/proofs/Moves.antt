-- From the snoop end of a clock to the next clock, agent by agent: nothing happens that an agent may not do unseen.
use Rattle.std.proofs.Common.{ℕ, ◌+◌, ◌≡◌, Bool, true, false, ◌&&◌, ◌||◌, not, nat_eq}
use Rattle.std.proofs.Common.{List, [], ◌∷◌, Option, Some, None, refl, sym, ap, subst, ◌∙◌, arith, inl, inr, if◌then◌else◌}
use Rattle.std.proofs.lemmas.Bool.{and_parts, both_ways, cases_Bool, eqb-true, false_from_ne_true}
use Rattle.std.specs.List.{list_any}
use Rattle.fsb_count.specs.Options.{is_some_and}
use Rattle.fsb_count.proofs.Interface.{any_where-found}
use Rattle.fsb_line.specs.declared.state.Mesi.{Mesi}
use Rattle.fsb_line.specs.declared.state.Mesi.TheVariants.{Exclusive, Invalid, Modified, Shared}
use Rattle.fsb_line.specs.Links.{is_linked}
use Rattle.fsb_line.specs.States.{is_modified}
use Rattle.fsb_access.specs.declared.log.Done.{Done}
use Rattle.fsb_trace.specs.At.{request_at}
use Rattle.fsb_trace.specs.Flight.{is_outstanding}
use Rattle.fsb_trace.specs.Requests.{is_upgrade}
use Rattle.fsb_timely.specs.Past.{Claim, Grant, Past}
use Rattle.fsb_timely.specs.Grants.{begun_at, has_arrived, holds_line, is_ended, is_evicted, is_exclusive, is_granted, is_ready}
use Rattle.fsb_timely.specs.Grants.{is_rival, latest_grant}
use Rattle.fsb_timely.specs.Hits.{is_dirty, is_hit, is_store_on, line_state_of}
use Rattle.fsb_timely.specs.Runs.{Run, past_of}
use Rattle.fsb_timely.specs.Wants.{is_asked_for, owed}
use Rattle.fsb_lawful.proofs.Interface.{grants-are-owed, some-and}
use Rattle.fsb_coherent.specs.Relation.{chain_below, is_dirty_below}
use Rattle.fsb_tied.proofs.Interface.{asked-unevicted, clock-facts, rival-other}
use Rattle.fsb_tied.proofs.Linked.{link-owed}
use Rattle.fsb_run_laws.specs.Reaches.{Reaches}
use Rattle.fsb_run_laws.specs.RunStates.{state_below, state_of_tests, state_stored, state_through, stores_at}
use Rattle.fsb_run_laws.proofs.Interface.{state-by-stores}
use Rattle.fsb_run_laws.proofs.LineStates.{state-by-hits}
use Rattle.fsb_owners.specs.Shown.{asks, is_coming, is_upgrading, may_drop_at}
use Rattle.fsb_owner_run.proofs.Claims.{asks-parts, shown-begun, shown-owed}
use Rattle.fsb_owner_run.proofs.Coming.{coming-next, not-coming}
use Rattle.fsb_owner_run.proofs.States.{state-modified}
use Rattle.fsb_owner_run.proofs.Unseen.{is_moved, moved-on, moved-same, moved-store}

-- an agent that stores has the line ready
stored-ready : (p : Past) (a line n : ℕ) → stores_at p a line n ≡ true → is_ready p a line n ≡ true
unfolding stores_at has_arrived is_some_and
stored-ready p a line n e = by-latest (latest_grant p a line n) e
  where
    ended-by : (n q : ℕ) (log : List Done)
        → list_any (λ done. is_store_on a line done && is_ended p done.clock q && nat_eq done.clock n) log ≡ true
        → is_ended p n q ≡ true
    ended-by n q [] h = absurd (let no : ⊥ = cc in no)
    ended-by n q (done ∷ log) h = grind (arith, ended-by n q log)

    by-latest : (o : Option Grant)
        → is_some_and o (λ grant. list_any (λ done. is_store_on a line done && is_ended p done.clock grant.first
        && nat_eq done.clock n) p.log) ≡ true
        → is_some_and o (λ grant. is_ended p n grant.first) ≡ true
    by-latest None h = h
    by-latest (Some grant) h = ended-by n grant.first p.log h

-- so it awaits no end
stored-unlinked : (r : Run) (a line n : ℕ) → Reaches r (n + 1) → holds_line (past_of r) a line n ≡ true
    → stores_at (past_of r) a line n ≡ true → is_linked a (chain_below (past_of r) line n) ≡ false
stored-unlinked r a line n h held stores =
    let long = h.long in
    (clock-facts r line n h.timely h.bounds (omega arith)).accesses.unlinked a held (stored-ready (past_of r) a line n stores)

below-held : (p : Past) (a line n : ℕ) → state_below p a line n ≡ Exclusive → holds_line p a line n ≡ true
unfolding state_below state_of_tests
below-held p a line n e =
    by-held (holds_line p a line n) (is_exclusive p a line n) (is_dirty_below p a line n) e
  where
    by-held : (held own dirty : Bool)
        → (if held then (if own then (if dirty then Modified else Exclusive) else Shared) else Invalid) ≡ Exclusive
        → held ≡ true
    by-held true own dirty h = refl
    by-held false own dirty h = absurd (let no : ⊥ = cc in no)

-- what is seen of no store: an agent that had the line Exclusive and has it Modified was ready
abbrev pub Ready : Run → ℕ → ℕ → ℕ → Bool
Ready r line a n = not (is_coming r.trace line a (n + 1))

abbrev pub May : Run → ℕ → ℕ → ℕ → Bool
May r line a n = may_drop_at r.trace line n a

stored-move : (ready may stores : Bool) (below : Mesi) → (below ≡ Exclusive → stores ≡ true → ready ≡ true)
    → is_moved ready may below (if stores then state_stored below else below) ≡ true
unfolding state_stored
stored-move ready may false below h = moved-same ready may below
stored-move ready may true Invalid h = moved-same ready may Invalid
stored-move ready may true Shared h = moved-same ready may Shared
stored-move ready may true Exclusive h = moved-store ready may (h refl refl)
stored-move ready may true Modified h = moved-same ready may Modified

-- the stores of a clock that are no hits come behind its snoop end
pub through-moved : (r : Run) (a line n : ℕ) → Reaches r (n + 1) → is_granted (past_of r) a line n ≡ false
    → is_moved (Ready r line a n) (May r line a n) (line_state_of (past_of r) a line n) (state_through (past_of r) a line n)
    ≡ true
through-moved r a line n h none =
    let p = past_of r in
    let ready = Ready r line a n in
    let may = May r line a n in
    let below = state_below p a line n in
    let through = state_through p a line n in
    elim (cases_Bool (is_hit p a n)) [
      | inl hit ↦
          let same : line_state_of p a line n ≡ through =
          state-by-hits p a line n ∙ ap (λ b. if b then through else below) hit in
          subst (λ s. is_moved ready may s through ≡ true) (sym same) (moved-same ready may through)
      | inr miss ↦
          let same : line_state_of p a line n ≡ below =
          state-by-hits p a line n ∙ ap (λ b. if b then through else below) miss in
          let move = stored-move ready may (stores_at p a line n) below (λ e stores.
          ap not (false_from_ne_true _ (λ t. elim (coming-next r line a n h t) [
            | inl granted ↦ both_ways (is_granted p a line n) none granted
            | inr linked ↦ both_ways (is_linked a (chain_below p line n))
                (stored-unlinked r a line n h (below-held p a line n e) stores) linked
          ]))) in
          subst (λ s. is_moved ready may s through ≡ true) (sym same)
          (subst (λ s. is_moved ready may below s ≡ true) (sym (state-by-stores p a line n)) move)
    ]

more-stored : (ready may stores hit : Bool) (from below through : Mesi) → is_moved ready may from below ≡ true
    → through ≡ (if stores then state_stored below else below)
    → (below ≡ Exclusive → stores ≡ true → ready ≡ true)
    → is_moved ready may from (if hit then through else below) ≡ true
unfolding state_stored
more-stored ready may stores false from below through e f h = e
more-stored ready may stores true from below through e f h =
    subst (λ s. is_moved ready may from s ≡ true) (sym f) (by-store stores below e h)
  where
    by-store : (stores : Bool) (below : Mesi) → is_moved ready may from below ≡ true
        → (below ≡ Exclusive → stores ≡ true → ready ≡ true)
        → is_moved ready may from (if stores then state_stored below else below) ≡ true
    by-store false below e h = e
    by-store true Invalid e h = e
    by-store true Shared e h = e
    by-store true Exclusive e h = moved-on ready may from Modified e (h refl refl)
    by-store true Modified e h = e

-- the hits of the next clock come before its sample
pub hits-moved : (r : Run) (a line n : ℕ) (from : Mesi) → Reaches r (n + 2)
    → is_moved (Ready r line a n) (May r line a n) from (state_below (past_of r) a line (n + 1)) ≡ true
    → is_moved (Ready r line a n) (May r line a n) from (line_state_of (past_of r) a line (n + 1)) ≡ true
hits-moved r a line n from h move =
    let p = past_of r in
    let long = h.long in
    let ready = Ready r line a n in
    let may = May r line a n in
    let now : Reaches r (n + 1 + 1) = record { timely = h.timely; bounds = h.bounds; long = omega arith } in
    let next : Reaches r (n + 1) = record { timely = h.timely; bounds = h.bounds; long = omega arith } in
    subst (λ s. is_moved ready may from s ≡ true) (sym (state-by-hits p a line (n + 1)))
    (more-stored ready may (stores_at p a line (n + 1)) (is_hit p a (n + 1)) from (state_below p a line (n + 1))
    (state_through p a line (n + 1)) move (state-by-stores p a line (n + 1)) (λ e stores.
    ap not (not-coming r line a (n + 1) next
    (stored-unlinked r a line (n + 1) now (below-held p a line (n + 1) e) stores))))

-- an agent that drops a line for another one of its set awaits nothing of it
unasked : (r : Run) (a line n : ℕ) → Reaches r (n + 1) → is_evicted (past_of r) a line n ≡ true
    → is_asked_for (owed (past_of r) a n) line ≡ false
unasked r a line n h gone =
    let long = h.long in
    false_from_ne_true _ (λ t.
    both_ways (is_evicted (past_of r) a line n) (asked-unevicted r a line n h.timely h.bounds (omega arith) t) gone)

-- what an agent begins for another line of the set is not for the line
evicts-other : (p : Past) (a line n : ℕ) (claim : Claim) → is_evicted p a line n ≡ true → begun_at p n ≡ Some claim
    → claim.line ≡ line → ⊥
unfolding is_evicted is_some_and
evicts-other p a line n claim e begun same =
    let here = rw begun at e in
    let rival = (and_parts (nat_eq claim.agent a) (is_rival p claim.line line) here).1 in
    rival-other p claim.line line rival same

linked-asked : (r : Run) (a line n : ℕ) → Reaches r (n + 1) → is_linked a (chain_below (past_of r) line n) ≡ true
    → is_asked_for (owed (past_of r) a n) line ≡ true
linked-asked r a line n h t = let long = h.long in link-owed r a line n h.timely h.bounds (omega arith) t

not-upgrading : (r : Run) (a line n : ℕ) → Reaches r (n + 1) → is_evicted (past_of r) a line n ≡ true
    → is_upgrading r.trace line a n ≡ false
unfolding is_upgrading
not-upgrading r a line n h gone =
    let p = past_of r in
    let w = r.trace in
    let long = h.long in
    let short : Reaches r n = record { timely = h.timely; bounds = h.bounds; long = omega arith } in
    false_from_ne_true _ (λ t.
    let f = any_where-found (λ q. asks w line a q && is_upgrade (request_at w q) && (nat_eq q n || is_outstanding w n q))
    (n + 1) t in
    let o = and_parts _ (nat_eq f.0 n || is_outstanding w n f.0) f.2 in
    let s = and_parts (asks w line a f.0) (is_upgrade (request_at w f.0)) o.0 in
    elim (cases_Bool (nat_eq f.0 n)) [
      | inl here ↦
          let same = eqb-true f.0 n here in
          let k = asks-parts w line a f.0 s.0 in
          let begun = subst (λ q. begun_at p n ≡ Some (record { first = q; agent = a; line = line })) same
          (subst (λ c. begun_at p c ≡ Some (record { first = f.0; agent = a; line = line })) same
          (shown-begun r line a f.0 k.0 k.1).1) in
          evicts-other p a line n (record { first = n; agent = a; line = line }) gone begun refl
      | inr other ↦
          both_ways (is_asked_for (owed p a n) line) (unasked r a line n h gone)
          (shown-owed r line a n f.0 short s.0 (rest-of (nat_eq f.0 n) (is_outstanding w n f.0) other o.1))
    ])
  where
    rest-of : (a b : Bool) → a ≡ false → (a || b) ≡ true → b ≡ true
    rest-of a b h1 h2 = grind arith

pub evicted-may : (r : Run) (a line n : ℕ) → Reaches r (n + 1) → is_evicted (past_of r) a line n ≡ true
    → May r line a n ≡ true
unfolding may_drop_at
evicted-may r a line n h gone =
    let p = past_of r in
    let long = h.long in
    let short : Reaches r n = record { timely = h.timely; bounds = h.bounds; long = omega arith } in
    let none = unasked r a line n h gone in
    let now = not-coming r line a n short (false_from_ne_true _ (λ t.
    both_ways (is_asked_for (owed p a n) line) none (linked-asked r a line n h t))) in
    let next : is_coming r.trace line a (n + 1) ≡ false = false_from_ne_true _ (λ t.
    elim (coming-next r line a n h t) [
      | inl granted ↦
          both_ways (is_asked_for (owed p a n) line) none
          ((grants-are-owed r h.timely).granted a n line (omega arith) granted)
      | inr linked ↦
          both_ways (is_asked_for (owed p a n) line) none (linked-asked r a line n h linked)
    ]) in
    rw (now, next, not-upgrading r a line n h gone) refl

-- and it is not dirty on it
pub evicted-clean : (r : Run) (a line n : ℕ) → Reaches r (n + 1) → is_evicted (past_of r) a line n ≡ true
    → is_modified (line_state_of (past_of r) a line n) ≡ false
unfolding is_evicted
evicted-clean r a line n h gone =
    let p = past_of r in
    let long = h.long in
    let f = some-and (begun_at p n) (λ claim. nat_eq claim.agent a && is_rival p claim.line line) gone in
    let k = and_parts (nat_eq f.0.agent a) (is_rival p f.0.line line) f.2 in
    let same = eqb-true f.0.agent a k.0 in
    state-modified p a line n
    ∙ subst (λ b. is_dirty p b line n ≡ false) same
    ((clock-facts r line n h.timely h.bounds (omega arith)).begins.dropped f.0 f.1 k.1)
