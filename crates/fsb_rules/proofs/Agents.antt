-- The symmetric agents: a winner is one of four, and a request with an ID of its own is of the agent of its ID.
use Rattle.std.proofs.Common.{ℕ, zero, suc, ◌+◌, ◌-◌, ◌/◌, ◌%◌, ◌<◌, ◌≡◌, Bool, true, false, nat_lt, Option, Some, None}
use Rattle.std.proofs.Common.{lit<, sym, ap, arith, cond}
use Rattle.std.specs.Option.{option_map}
use Rattle.std.proofs.Math.Nat.{mod-lt}
use Rattle.std.proofs.lemmas.Bool.{eqb-true}
use Rattle.std.proofs.lemmas.Option.{cond_some}
use Rattle.fsb_count.specs.Options.{is_some_and}
use Rattle.fsb_count.specs.Clocks.{first_where}
use Rattle.fsb_signal.specs.declared.lines.TheConstants.Lines.{ADS, LOCK, BPRI}
use Rattle.fsb_signal.specs.Samples.{line_at}
use Rattle.fsb_encode.specs.declared.request.Request.{Request}
use Rattle.fsb_trace.specs.declared.who.Who.{Who}
use Rattle.fsb_trace.specs.declared.who.Who.TheVariants.{Symmetric, Priority}
use Rattle.fsb_trace.specs.At.{Trace}
use Rattle.fsb_trace.specs.Requests.{is_reply, is_reply_kind}
use Rattle.fsb_trace.specs.Winner.{Requesters, agent_in_order, asks_in_order, first_asking, first_in_order, is_agent}
use Rattle.fsb_trace.specs.Winner.{is_same_agent, last_if_asking, no_requesters, request_line_of, requesters_before}
use Rattle.fsb_trace.specs.Winner.{then_begun, winner_after, winner_at, winner_by}
use Rattle.fsb_trace.specs.Rules.{is_identified, is_own_id}

-- there is no such agent, or it is the priority agent, or one of the four
abbrev IsOneOfFour : Option Who → Type 0
IsOneOfFour who = (a : ℕ) → who ≡ Some (Symmetric a) → a < 4

-- the agent of the last request is none, or the priority agent, or one of the four
abbrev IsLastOfFour : Requesters → Type 0
IsLastOfFour requesters = IsOneOfFour requesters.0

no_agent : IsOneOfFour None
no_agent a e = absurd (let no : ⊥ = cc in no)

priority : IsOneOfFour (Some Priority)
priority a e = absurd (let no : ⊥ = cc in no)

either : (t : Bool) (p q : Option Who) → IsOneOfFour p → IsOneOfFour q
    → IsOneOfFour (elim t [ true ↦ p | false ↦ q ])
either true p q f g = f
either false p q f g = g

in_order : (first : ℕ) (o : Option ℕ) → IsOneOfFour (option_map Symmetric (option_map (agent_in_order first) o))
unfolding agent_in_order
in_order first None = no_agent
in_order first (Some n) = λ a e.
    let below : (first + n) % 4 < 4 = mod-lt (first + n) (lit< tt) in
    let same : (first + n) % 4 ≡ a = cc in
    omega arith

asking : (w : Trace) (d : ℕ) (last : Option Who) → IsOneOfFour last → IsOneOfFour (last_if_asking w d last)
unfolding last_if_asking
asking w d None f = no_agent
asking w d (Some who) f = λ a e.
    f a (ap (λ x. Some x) (cond_some (line_at (request_line_of who) w d) who (Symmetric a) e).1)

won : (w : Trace) (c : ℕ) (turns : Requesters) → IsLastOfFour turns → IsOneOfFour (winner_after w c turns)
unfolding winner_after winner_by first_asking
won w c turns f =
    either (nat_lt c 2) None _ no_agent
    (either (line_at LOCK w (c - 2)) (last_if_asking w (c - 2) turns.0) _ (asking w (c - 2) turns.0 f)
    (either (line_at BPRI w (c - 2)) (Some Priority) _ priority
    (in_order (first_in_order turns.1) (first_where (asks_in_order w (c - 2) (first_in_order turns.1)) 4))))

either_last : (t : Bool) (p q : Requesters) → IsLastOfFour p → IsLastOfFour q
    → IsLastOfFour (elim t [ true ↦ p | false ↦ q ])
either_last true p q f g = f
either_last false p q f g = g

last_requester : (w : Trace) (c : ℕ) → IsLastOfFour (requesters_before w c)
unfolding requesters_before no_requesters then_begun
last_requester w zero = no_agent
last_requester w (suc c) =
    either_last (line_at ADS w c) (then_begun (requesters_before w c) (winner_after w c (requesters_before w c)))
    (requesters_before w c) (won w c (requesters_before w c) (last_requester w c)) (last_requester w c)

pub winner_four : (w : Trace) (c a : ℕ) → winner_at w c ≡ Some (Symmetric a) → a < 4
unfolding winner_at
winner_four w c = won w c (requesters_before w c) (last_requester w c)

-- the agent of a request with an ID of its own
own_agent : (winner : Option Who) (r : Request) → is_own_id winner r ≡ true → winner ≡ Some (Symmetric (r.did / 16))
unfolding is_own_id is_some_and is_same_agent
own_agent None r t = absurd (let no : ⊥ = cc in no)
own_agent (Some Priority) r t = absurd (let no : ⊥ = cc in no)
own_agent (Some (Symmetric a)) r t = ap (λ n. Some (Symmetric n)) (sym (eqb-true (r.did / 16) a t))

-- a request that is no reply has an ID of its own
own_part : (winner : Option Who) (s : Request) (b : Bool) → b ≡ false
    → cond b (is_agent winner Priority) (is_own_id winner s) ≡ true → is_own_id winner s ≡ true
own_part winner s false e t = t
own_part winner s true e t = absurd (let no : ⊥ = cc in no)

pub owned : (winner : Option Who) (s : Request) → is_identified winner (Some s) ≡ true
    → is_reply_kind s.kind ≡ false → winner ≡ Some (Symmetric (s.did / 16))
unfolding is_identified is_reply is_some_and
owned winner s t f = own_agent winner s (own_part winner s (is_reply_kind s.kind) f t)
