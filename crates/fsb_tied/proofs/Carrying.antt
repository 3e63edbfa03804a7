-- Where an end is awaited after a snoop end, its link carries data exactly where data are awaited; and then data move.
use Rattle.fsb_tied.proofs.Words
use Words.{ℕ, ◌≡◌, Bool, true, false, not, ◌&&◌, ◌||◌, Option, Some, None, is_some, refl, ap, subst, ◌∙◌, arith}
use Words.{option_map, is_some_and, Kind, Invalidate, Read, Reply, Upgrade, WriteBack, Request, Turn, Defer, Keep}
use Words.{Retry, carries, upgrades, Outcome, Deferred, Granted, Handed, Replied, Retried, Upgraded, Written, does_move}
use Words.{outcome_by_kind, is_upgrade_kind, is_got, is_upgraded, makes_grant, Claim, Grant, Past, SnoopEnd, past_to}
use Words.{Awaited, is_written, owner_at, purpose_of, giver_at, purpose_at, purpose_granted, is_always_kept}
use Words.{outcome_by_turn, outcome_under}

-- the link of agent a after a snoop end at t carries data where it is no upgrade that was won; and then data move
pub record Carries (p : Past) (line t a : ℕ) (s : SnoopEnd) : Type 0 where
  pub fits : carries (record { agent = a; kind = purpose_at s; giver = giver_at p line t a s })
      ≡ not (is_upgraded s.outcome)
  pub moves : not (is_upgraded s.outcome) ≡ true → does_move s.outcome ≡ true

reply-plain : (grant : Option Grant) → upgrades (purpose_granted grant) ≡ false
unfolding purpose_granted
reply-plain grant = grind arith

-- the purpose is that of an upgrade where the kind is
purpose-kind : (s : SnoopEnd) (kind : Kind) → s.kind ≡ Some kind → upgrades (purpose_at s) ≡ is_upgrade_kind kind
unfolding purpose_at purpose_of is_upgrade_kind
purpose-kind s kind h1 = grind (arith, reply-plain)

purpose-none : (s : SnoopEnd) → s.kind ≡ None → upgrades (purpose_at s) ≡ false
unfolding purpose_at
purpose-none s e = rw e (reply-plain s.grant)

by-plain : (p : Past) (line t a : ℕ) (s : SnoopEnd) (outcome : Outcome) → s.outcome ≡ outcome
    → upgrades (purpose_at s) ≡ false → is_upgraded outcome ≡ false → does_move outcome ≡ true → Carries p line t a s
by-plain p line t a s outcome e plain not_won moves = grind arith

without : (x y : Bool) → y ≡ false → not (x && y) ≡ true
without x y h1 = grind arith

-- where another agent hands the line over it is known
by-owner : (p : Past) (line t a : ℕ) (s : SnoopEnd) → s.outcome ≡ Handed
    → is_some (owner_at (past_to p t) a line t) ≡ true → Carries p line t a s
unfolding giver_at is_upgraded does_move purpose_at
by-owner p line t a s e owner = grind arith

by-upgrade : (p : Past) (line t a : ℕ) (s : SnoopEnd) → s.outcome ≡ Upgraded → upgrades (purpose_at s) ≡ true
    → Carries p line t a s
unfolding giver_at is_upgraded purpose_at
by-upgrade p line t a s e won = grind arith

-- what makes a grant
pub record Gives (r : Option Request) (turn : Turn) (outcome : Outcome) : Type 0 where
  pub gives : (is_some_and r (λ x. makes_grant x.kind outcome) || is_upgraded outcome) ≡ true
  pub kept : is_always_kept r ≡ true → turn ≡ Keep

-- what is retried or put off makes none
held-off : (o : Option Request) (turn : Turn) (outcome : Outcome) → Gives o turn outcome → is_got outcome ≡ false
    → is_upgraded outcome ≡ false → (turn ≡ Keep → ⊥) → ⊥
unfolding is_some_and makes_grant is_always_kept
held-off o turn outcome h1 h2 h3 h4 = grind arith

-- a snoop end that makes a grant
pub settled-carries : (p : Past) (line t a : ℕ) (s : SnoopEnd) (handed : Bool) (turn : Turn) (o : Option Request)
    → s.outcome ≡ outcome_under handed turn o → s.kind ≡ option_map (λ x. x.kind) o → Gives o turn s.outcome
    → (s.outcome ≡ Handed → s.kind ≡ Some Upgrade → is_some (owner_at (past_to p t) a line t) ≡ true)
    → Carries p line t a s
unfolding outcome_under outcome_by_turn outcome_by_kind is_upgraded does_move is_got is_upgrade_kind
settled-carries p line t a s true turn None e k g owner = by-plain p line t a s Handed e (purpose-none s k) refl refl
settled-carries p line t a s true turn (Some request) e k g owner = handed request.kind k
  where
    handed : (kind : Kind) → s.kind ≡ Some kind → Carries p line t a s
    handed Reply f = by-plain p line t a s Handed e (purpose-kind s Reply f) refl refl
    handed Invalidate f = by-plain p line t a s Handed e (purpose-kind s Invalidate f) refl refl
    handed Read f = by-plain p line t a s Handed e (purpose-kind s Read f) refl refl
    handed WriteBack f = by-plain p line t a s Handed e (purpose-kind s WriteBack f) refl refl
    handed Upgrade f = by-owner p line t a s e (owner e f)
settled-carries p line t a s false Keep None e k g owner = by-plain p line t a s Granted e (purpose-none s k) refl refl
settled-carries p line t a s false Keep (Some request) e k g owner = plain request.kind refl
  where
    plain : (kind : Kind) → request.kind ≡ kind → Carries p line t a s
    plain Reply f = by-plain p line t a s Replied (rw f at e) (purpose-kind s Reply (k ∙ ap Some f)) refl refl
    plain Invalidate f = by-plain p line t a s Granted (rw f at e) (purpose-kind s Invalidate (k ∙ ap Some f)) refl refl
    plain Read f = by-plain p line t a s Granted (rw f at e) (purpose-kind s Read (k ∙ ap Some f)) refl refl
    plain WriteBack f = by-plain p line t a s Written (rw f at e) (purpose-kind s WriteBack (k ∙ ap Some f)) refl refl
    plain Upgrade f = by-upgrade p line t a s (rw f at e) (purpose-kind s Upgrade (k ∙ ap Some f))
settled-carries p line t a s false Retry o e k g owner =
    absurd (held-off o Retry Retried (subst (λ x. Gives o Retry x) e g) refl refl (λ same. let no : ⊥ = cc in no))
settled-carries p line t a s false (Defer later) o e k g owner =
    absurd (held-off o (Defer later) Deferred (subst (λ x. Gives o (Defer later) x) e g) refl refl
    (λ same. let no : ⊥ = cc in no))

-- a write-back gives its line itself
pub by-write-back : (p : Past) (line t a : ℕ) (s : SnoopEnd) → s.outcome ≡ Written → Carries p line t a s
unfolding giver_at is_upgraded does_move purpose_at
by-write-back p line t a s e = grind arith

pub written-is : (outcome : Outcome) → is_written outcome ≡ true → outcome ≡ Written
unfolding is_written
written-is outcome h1 = grind arith

-- an end is awaited by a grant, or by a write-back
pub record ByGrant (s : SnoopEnd) (awaited : Awaited) : Type 0 where
  pub grant : Grant
  pub granted : s.grant ≡ Some grant
  pub agent : grant.agent ≡ awaited.agent
  pub names : grant.line ≡ awaited.line
  pub carried : not (is_upgraded s.outcome) ≡ awaited.carries

pub record ByWriteBack (s : SnoopEnd) (awaited : Awaited) : Type 0 where
  pub written : s.outcome ≡ Written
  pub claim : Claim
  pub claimed : s.claim ≡ Some claim
  pub agent : claim.agent ≡ awaited.agent
  pub names : claim.line ≡ awaited.line
  pub carried : true ≡ awaited.carries
