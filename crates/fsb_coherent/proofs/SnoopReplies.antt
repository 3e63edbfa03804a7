-- The snoop end of a reply that grants a line: its event may happen, and the line of the machine behind it is that of
-- the run.
use Rattle.fsb_coherent.proofs.Words
use Words.{ℕ, ◌+◌, ◌≡◌, ◌==◌, Bool, true, false, cond, not, ◌&&◌, ◌||◌, ◌++◌, if◌then◌else◌, nat_eq, is_some, [], ◌∷◌}
use Words.{Option, Some, None, refl, sym, ap, subst, ◌∙◌, arith, and-true, eq-eqb, is_some_and, nat_eq-sym, Ordered}
use Words.{Purpose, Mesi, May, after, effect, linked, replied, settled, IsReplied, LineDeferral, MemoryLine}
use Words.{OpenRequest, put, trimmed, MayRun, run, gets_line, granted, is_held, is_modified, is_sole, kind_owns}
use Words.{granted_owns, Grant, Past, SnoopEnd, grant_at, is_granted, is_named_by_other, is_snooped, is_sole_grant}
use Words.{is_taken_away, is_written_back, snooped_at, is_snoop_of, awaited_by, awaited_by_grant, IsRepliedOn}
use Words.{SettlesInOrder, deferral_below, defers_line, giver_at, link_for, purpose_at, purpose_granted, replies_line}
use Words.{IsOpenThrough, TiedThrough}
use Rattle.fsb_coherent.proofs.Behind.{TiedBehind, links_new}
use Rattle.fsb_coherent.proofs.FromThrough.{dirty-from, exclusive-from, holds-from, open-behind, open-through}
use Rattle.fsb_coherent.proofs.SnoopElsewhere.{not-its-own}
use Rattle.fsb_coherent.proofs.Steps.{deferral-more}

-- what is known at the snoop end of a reply that grants the line
pub record IsAnswered (p : Past) (line n : ℕ) (x : MemoryLine) (s : SnoopEnd) (grant : Grant) : Type 0 where
  pub settles : SettlesInOrder p line n
  pub ordered : Ordered x
  pub tied : TiedThrough p line n x
  pub there : snooped_at p n ≡ Some s
  pub unclaimed : s.claim ≡ None
  pub grants : s.grant ≡ Some grant
  pub on_line : grant.line ≡ line
  pub answers : IsRepliedOn p line n s grant

pending-there : (p : Past) (line n : ℕ) (x : MemoryLine) (s : SnoopEnd) (grant : Grant)
    (h : IsAnswered p line n x s grant) → x.deferral ≡ Some h.answers.deferral
pending-there p line n x s grant h = h.tied.deferral ∙ h.answers.pending

-- the line is granted to the agent that was deferred, and lost and named by nobody
grant-there : (p : Past) (line n : ℕ) (x : MemoryLine) (s : SnoopEnd) (grant : Grant) → IsAnswered p line n x s grant
    → grant_at p n ≡ Some grant
unfolding grant_at
grant-there p line n x s grant h = rw h.there h.grants

granted-there : (p : Past) (line n : ℕ) (x : MemoryLine) (s : SnoopEnd) (grant : Grant)
    (h : IsAnswered p line n x s grant) (b : ℕ)
    → is_granted p b line n ≡ (b == h.answers.deferral.agent)
unfolding is_granted is_some_and
granted-there p line n x s grant h b =
    ap (λ o. is_some_and o (λ g. nat_eq g.agent b && nat_eq g.line line)) (grant-there p line n x s grant h)
    ∙ ap (λ t. nat_eq grant.agent b && t) (eq-eqb grant.line line h.on_line)
    ∙ and-true (nat_eq grant.agent b)
    ∙ ap (λ a. nat_eq a b) h.answers.agent
    ∙ nat_eq-sym h.answers.deferral.agent b

written-there : (p : Past) (line n : ℕ) (x : MemoryLine) (s : SnoopEnd) (grant : Grant)
    → IsAnswered p line n x s grant → (b : ℕ)
    → (is_written_back p b line n || is_taken_away p b line n) ≡ false
unfolding is_written_back is_taken_away is_snooped is_some_and
written-there p line n x s grant h b = rw (h.there, h.unclaimed) refl

named-there : (p : Past) (line n : ℕ) (x : MemoryLine) (s : SnoopEnd) (grant : Grant) → IsAnswered p line n x s grant
    → (b : ℕ) → is_named_by_other p b line n ≡ false
unfolding is_named_by_other is_some_and
named-there p line n x s grant h b = rw (h.there, h.unclaimed) refl

held-granted : (m : Bool) (kind : Purpose) (shared : Bool) (s : Mesi) → gets_line kind ≡ true
    → is_held (cond m (granted kind shared) s) ≡ (m || (is_held s && not false))
held-granted m kind shared s h1 = grind arith

sole-granted : (kind : Purpose) (shared seen owns : Bool) → gets_line kind ≡ true → owns ≡ kind_owns kind
    → (owns ≡ false → seen ≡ shared)
    → is_sole (granted kind shared) ≡ (owns || not seen)
sole-granted kind shared seen owns h1 h2 h3 = grind arith

tested : (test : Mesi → Bool) (m s : Bool) (own other : Mesi) → test own ≡ s
    → test (cond m own other) ≡ (if m then s else (test other && (not false && not false)))
tested test m s own other h1 = grind arith

kind-granted : (kind : Purpose) (grant : Grant) → gets_line kind ≡ true → grant.owns ≡ kind_owns kind
    → kind ≡ purpose_granted (Some grant)
unfolding purpose_granted is_some_and
kind-granted kind grant h1 h2 = grind arith

-- the link of the reply
links-there : (p : Past) (line n : ℕ) (x : MemoryLine) (s : SnoopEnd) (grant : Grant)
    (h : IsAnswered p line n x s grant)
    → gets_line h.answers.deferral.kind ≡ true
    → record { agent = h.answers.deferral.agent; kind = h.answers.deferral.kind; giver = None } ∷ []
    ≡ links_new p line n
unfolding awaited_by awaited_by_grant link_for giver_at purpose_at
links-there p line n x s grant h gets =
    let on : nat_eq grant.line line ≡ true = eq-eqb grant.line line h.on_line in
    let kind : h.answers.deferral.kind ≡ purpose_granted
    (Some grant) = kind-granted h.answers.deferral.kind grant gets h.answers.owns in
    rw (h.there, h.grants, on, h.answers.replied, h.answers.no_kind)
    (λ i. record { agent = sym h.answers.agent i; kind = kind i; giver = None } ∷ [])

-- the deferral is answered
deferral-there : (p : Past) (line n : ℕ) (x : MemoryLine) (s : SnoopEnd) (grant : Grant)
    → IsAnswered p line n x s grant → deferral_below p line (n + 1) ≡ None
unfolding defers_line replies_line is_some_and
deferral-there p line n x s grant h = grind (arith, deferral-more)

-- the reply's own request is no symmetric agent's
others-there : (p : Past) (line n : ℕ) (x : MemoryLine) (s : SnoopEnd) (grant : Grant)
    → IsAnswered p line n x s grant → (b : ℕ) (request : OpenRequest)
    → IsOpenThrough p b line n request → is_some_and (snooped_at p n) (is_snoop_of request.number) ≡ false
others-there p line n x s grant h b request o = grind (arith, not-its-own)

put-apart : (f : ℕ → Option OpenRequest) (a b : ℕ) → f a ≡ None → put f a None b ≡ f b
unfolding put
put-apart f a b e = grind arith

-- the line after the reply is that of the run
behind-replied : (p : Past) (line n : ℕ) (x : MemoryLine) (s : SnoopEnd) (grant : Grant)
    (h : IsAnswered p line n x s grant)
    → TiedBehind p line n (trimmed (replied x (Some h.answers.deferral)))
unfolding replied settled linked trimmed is_sole_grant is_some_and
behind-replied p line n x s grant h =
    let d : LineDeferral = h.answers.deferral in
    let pending = h.ordered.pending d (pending-there p line n x s grant h) in
    let gets : gets_line d.kind ≡ true = pending.gets in
    let granted_is : (b : ℕ) → is_granted p b line n ≡ (b == d.agent) = granted-there p line n x s grant h in
    let lost : (b : ℕ) → (is_written_back p b line n || is_taken_away p b line n)
    ≡ false = written-there p line n x s grant h in
    let named : (b : ℕ) → is_named_by_other p b line n ≡ false = named-there p line n x s grant h in
    let the_grant = grant-there p line n x s grant h in
    let asks : (b : ℕ) → put x.ask d.agent None b ≡ x.ask b = λ b. put-apart x.ask d.agent b pending.no_ask in
    record {
      held = λ b.
          held-granted (b == d.agent) d.kind d.shared (x.state b) gets
          ∙ sym (holds-from p line n x h.tied b ∙ (λ i. granted_is b i || (is_held (x.state b) && not (lost b i))));
      sole = λ b.
          tested is_sole (b == d.agent) (grant.owns || not grant.shared) (granted d.kind d.shared) (x.state b)
          (sole-granted d.kind d.shared grant.shared grant.owns gets h.answers.owns h.answers.seen)
          ∙ sym (exclusive-from p line n x h.tied b
          ∙ (λ i. if granted_is b i then is_some_and (the_grant i) is_sole_grant else (is_sole (x.state b) &&
          (not (lost b i) && not (named b i)))));
      modified = λ b.
          tested is_modified (b == d.agent) grant.owns (granted d.kind d.shared) (x.state b)
          (granted_owns d.kind d.shared ∙ sym h.answers.owns)
          ∙ sym (dirty-from p line n x h.tied b
          ∙ (λ i. if granted_is b i then is_some_and (the_grant i)
          (λ g. g.owns) else (is_modified (x.state b) && (not (lost b i) && not (named b i)))));
      asked = λ b request e.
          let o = h.tied.asked b request (sym (asks b) ∙ e) in
          open-behind p b line n request o (others-there p line n x s grant h b request o);
      opened = λ b request o. asks b ∙ h.tied.opened b request (open-through p b line n request o).0;
      chain = (λ i. h.tied.chain i ++ links-there p line n x s grant h gets i);
      deferral = sym (deferral-there p line n x s grant h);
      moved = h.tied.moved;
    }

-- the event of the snoop end, which may happen, and the line after it
pub replies-made : (p : Past) (line n : ℕ) (x : MemoryLine) (s : SnoopEnd) (grant : Grant)
    → IsAnswered p line n x s grant
    → MayRun x (IsReplied ∷ []) × TiedBehind p line n (run x (IsReplied ∷ []))
unfolding May after effect
replies-made p line n x s grant h =
    let pending = pending-there p line n x s grant h in (
      (ap is_some pending, tt),
      subst (λ od. TiedBehind p line n (trimmed (replied x od))) (sym pending) (behind-replied p line n x s grant h),
    )
