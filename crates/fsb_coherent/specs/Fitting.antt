-- Which outcomes a request of a symmetric agent may have, and what its snoop end leaves of a line.
use Rattle.std.specs.Prelude.{◌≡◌, ◌≢◌, ℕ, ◌&&◌, ◌||◌, Bool, true, false, nat_eq, is_some, if◌then◌else◌, Some, None}
use Rattle.fsb_encode.specs.declared.request.Kind.{Kind}
use Rattle.fsb_encode.specs.declared.request.Kind.TheVariants as kinds
use Rattle.fsb_trace.specs.declared.outcome.Outcome.{Outcome}
use Rattle.fsb_trace.specs.declared.outcome.Outcome.TheVariants.{Granted, Handed, Retried, Deferred, Written, Replied, Failed, Upgraded}
use Rattle.fsb_count.specs.Options.{is_some_and}
use Rattle.fsb_trace.specs.Requests.{is_write_back_kind}
use Rattle.fsb_timely.specs.Grants.{is_claim_of, is_claim_of_other, is_owning, is_snooped}
use Rattle.fsb_timely.specs.Moments.{is_upgraded, makes_grant}
use Rattle.fsb_timely.specs.Past.{Past, SnoopEnd}
use Rattle.fsb_timely.specs.Runs.{past_to}
use Rattle.fsb_coherent.specs.Awaits.{owner_at}

-- a line that is asked for with its bytes is got, handed over, retried or deferred
unfoldable pub fits_getting : Outcome → Bool
fits_getting Granted = true
fits_getting Handed = true
fits_getting Retried = true
fits_getting Deferred = true
fits_getting Written = false
fits_getting Replied = false
fits_getting Failed = false
fits_getting Upgraded = false

-- an upgrade is settled without data, handed over or retried
unfoldable pub fits_upgrade : Outcome → Bool
fits_upgrade Granted = false
fits_upgrade Handed = true
fits_upgrade Retried = true
fits_upgrade Deferred = false
fits_upgrade Written = false
fits_upgrade Replied = false
fits_upgrade Failed = false
fits_upgrade Upgraded = true

-- a line is written back
unfoldable pub fits_write_back : Outcome → Bool
fits_write_back Granted = false
fits_write_back Handed = false
fits_write_back Retried = false
fits_write_back Deferred = false
fits_write_back Written = true
fits_write_back Replied = false
fits_write_back Failed = false
fits_write_back Upgraded = false

-- a request of a symmetric agent of this kind may have this outcome
unfoldable pub fits_kind : Kind → Outcome → Bool
fits_kind kinds.Reply outcome = false
fits_kind kinds.Invalidate outcome = fits_getting outcome
fits_kind kinds.Read outcome = fits_getting outcome
fits_kind kinds.WriteBack outcome = fits_write_back outcome
fits_kind kinds.Upgrade outcome = fits_upgrade outcome

-- a write-back meets no HITM#: that no other agent is dirty on its line is a matter of coherence
abbrev pub IsUncontested : Kind → Outcome → Type 0
IsUncontested kind outcome = kind ≡ kinds.WriteBack → outcome ≢ Handed

-- a snoop end of a request for the line as it may be: whose, of which kind, and whether an upgrade is won; the outcome
-- fits the kind, unless a write-back meets HITM#; the grant is the one that they make, and a line that is handed over has
-- an owner
pub record IsSnoopOn (p : Past) (line n : ℕ) (s : SnoopEnd) : Type 0 where
  pub agent : ℕ
  pub kind : Kind
  pub won : Bool
  pub owns : Bool
  pub shared : Bool
  pub claimed : s.claim ≡ Some (record { first = s.first; agent = agent; line = line })
  pub known : s.kind ≡ Some kind
  pub fits : IsUncontested kind s.outcome → fits_kind kind s.outcome ≡ true
  pub granted : s.grant
      ≡ (if makes_grant kind s.outcome || (is_upgraded s.outcome && won)
      then Some (record { first = s.first; agent = agent; line = line; owns = owns; shared = shared }) else None)
  pub owned : s.outcome ≡ Handed → is_some (owner_at (past_to p n) agent line n) ≡ true

-- the snoop end grants the line to agent a
unfoldable pub is_granted_by : SnoopEnd → ℕ → ℕ → Bool
is_granted_by s a line = is_some_and s.grant (λ grant. nat_eq grant.agent a && nat_eq grant.line line)

-- agent a loses the line at the snoop end, if it has it: it writes the line back, or another agent asks to own it
unfoldable pub is_lost_by : SnoopEnd → ℕ → ℕ → Bool
is_lost_by s a line =
    is_snooped (is_claim_of a line) is_write_back_kind s || is_snooped (is_claim_of_other a line) is_owning s
