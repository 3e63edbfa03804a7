-- The states of an agent, the kinds of requests, and what a snoop end makes of a state.
use Rattle.std.specs.Prelude.{not, Bool, true, false, cond}
use Rattle.fsb_line.specs.declared.purpose.Purpose.{Purpose}
use Rattle.fsb_line.specs.declared.purpose.Purpose.TheVariants.{Own, Read, Upgrade, WriteBack}
use Rattle.fsb_line.specs.declared.purpose.Ruling.{Ruling}
use Rattle.fsb_line.specs.declared.purpose.Ruling.TheVariants.{Defer, Keep, Retry}
use Rattle.fsb_line.specs.declared.state.Answer.{Answer}
use Rattle.fsb_line.specs.declared.state.Answer.TheVariants as answers
use Rattle.fsb_line.specs.declared.state.Mesi.{Mesi}
use Rattle.fsb_line.specs.declared.state.Mesi.TheVariants.{Exclusive, Invalid, Modified, Shared}
use Rattle.fsb_line.specs.declared.purpose.Settled.{Settled}
use Rattle.fsb_line.specs.declared.purpose.Settled.TheVariants.{Deferred, Granted, Handed, Replied, Retried, Upgraded, Written}

-- the agent has the line in any state but Invalid
abbrev pub is_held : Mesi → Bool
is_held Invalid = false
is_held Shared = true
is_held Exclusive = true
is_held Modified = true

-- the agent has the line Exclusive or Modified
abbrev pub is_sole : Mesi → Bool
is_sole Invalid = false
is_sole Shared = false
is_sole Exclusive = true
is_sole Modified = true

-- the agent has the line Modified
abbrev pub is_modified : Mesi → Bool
is_modified Invalid = false
is_modified Shared = false
is_modified Exclusive = false
is_modified Modified = true

-- a request of this kind makes its agent the owner of the line
abbrev pub kind_owns : Purpose → Bool
kind_owns Read = false
kind_owns Own = true
kind_owns Upgrade = true
kind_owns WriteBack = false

-- the state suits a request: a read asks for a line that isn't held, an upgrade or an own for one that isn't sole, and what is written back is Modified
abbrev pub suits : Purpose → Mesi → Bool
suits Read state = not (is_held state)
suits Own state = not (is_sole state)
suits Upgrade state = not (is_sole state)
suits WriteBack state = is_modified state

-- a request that gets the line with its bytes
abbrev pub gets_line : Purpose → Bool
gets_line Read = true
gets_line Own = true
gets_line Upgrade = false
gets_line WriteBack = false

-- a request other than a write-back
abbrev pub asks_line : Purpose → Bool
asks_line Read = true
asks_line Own = true
asks_line Upgrade = true
asks_line WriteBack = false

-- the state in which a request of this kind gets its line, where another agent was seen to hold it or not
abbrev pub granted : Purpose → Bool → Mesi
granted Read shared = cond shared Shared Exclusive
granted Own shared = Modified
granted Upgrade shared = Modified
granted WriteBack shared = Invalid

-- the state after the snoop end of another agent's request of this kind
abbrev pub after_snoop : Mesi → Purpose → Mesi
after_snoop state Read = cond (is_held state) Shared Invalid
after_snoop state Own = Invalid
after_snoop state Upgrade = Invalid
after_snoop state WriteBack = state

-- the state of an agent after the snoop end of its own request
abbrev pub after_own : Mesi → Purpose → Settled → Bool → Mesi
after_own state kind Granted shared = granted kind shared
after_own state kind Handed shared = granted kind true
after_own state kind Upgraded shared = cond (is_held state) Modified Invalid
after_own state kind Retried shared = state
after_own state kind Deferred shared = state
after_own state kind Written shared = Invalid
after_own state kind Replied shared = granted kind shared

-- the state of an agent after the snoop end of another agent's request; a reply snoops nobody
abbrev pub after_other : Mesi → Purpose → Settled → Mesi
after_other state kind Granted = after_snoop state kind
after_other state kind Handed = after_snoop state kind
after_other state kind Upgraded = after_snoop state kind
after_other state kind Retried = after_snoop state kind
after_other state kind Deferred = after_snoop state kind
after_other state kind Written = after_snoop state kind
after_other state kind Replied = state

-- the state of an agent after a snoop end: of its own request where `mine`, else of another's
abbrev pub state_after : Mesi → Bool → Purpose → Settled → Bool → Mesi
state_after state mine kind settled shared = cond mine (after_own state kind settled shared) (after_other state kind settled)

-- what an agent answers at the snoop end of another's request: that it has the line Modified, that it holds it, or neither
abbrev pub answer_of : Mesi → Answer
answer_of Invalid = answers.Clean
answer_of Shared = answers.Hit
answer_of Exclusive = answers.Hit
answer_of Modified = answers.Modified

-- a request is held off while another agent's is open: a write-back
abbrev pub is_held_off : Purpose → Bool → Bool
is_held_off Read other_is_open = false
is_held_off Own other_is_open = false
is_held_off Upgrade other_is_open = false
is_held_off WriteBack other_is_open = other_is_open

-- how a request is settled that nothing keeps from being served
abbrev pub served : Purpose → Settled
served Read = Granted
served Own = Granted
served Upgrade = Upgraded
served WriteBack = Written

-- how one is settled that is to be answered later
abbrev pub put_off : Purpose → Settled
put_off Read = Deferred
put_off Own = Deferred
put_off Upgrade = Upgraded
put_off WriteBack = Written

-- how one is settled that is to be made again
abbrev pub sent_back : Purpose → Settled
sent_back Read = Retried
sent_back Own = Retried
sent_back Upgrade = Retried
sent_back WriteBack = Written

-- how one is settled by its turn
abbrev pub settled_by_turn : Purpose → Ruling → Settled
settled_by_turn kind Keep = served kind
settled_by_turn kind Retry = sent_back kind
settled_by_turn kind Defer = put_off kind

-- how a request is settled: its line is handed over where another agent has it Modified; a pending line is given to nobody; else its turn decides
abbrev pub settled_as : Purpose → Bool → Bool → Ruling → Settled
settled_as kind owned pending turn = cond owned Handed (cond pending (sent_back kind) (settled_by_turn kind turn))
