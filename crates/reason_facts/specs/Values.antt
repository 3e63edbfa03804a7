-- What stands for the numbers of a reason in JSON.
use Rattle.std.specs.Prelude.{ℕ, Bool, List, Option, Some, None, codes}
use Rattle.serde_json.specs.Data.{Data, null, boolean, number, string, unsigned, Members, put}
use Rattle.fsb_reasons.specs.declared.reason.Concerned.{Concerned}
use Rattle.fsb_reasons.specs.declared.reason.SnoopLines.{SnoopLines}
use Rattle.fsb_reasons.specs.declared.reason.Wait.{Wait}
use Rattle.fsb_reasons.specs.declared.reason.Wait.TheVariants.{NoSnoopEnd, SnoopEnd, NotClear}
use Rattle.fsb_trace.specs.declared.who.Who.{Who}
use Rattle.fsb_trace.specs.declared.who.Who.TheVariants.{Symmetric, Priority}

-- a number
abbrev pub count : ℕ → Data
count n = number (unsigned n)

-- a number, or null where there is none
abbrev pub maybe : Option ℕ → Data
maybe None = null
maybe (Some n) = count n

-- an agent: the number of a symmetric one, or a word for the priority agent
abbrev pub agent : Who → Data
agent (Symmetric n) = count n
agent Priority = string (codes "priority")

-- an agent, or null where it is nobody
abbrev pub maybe_agent : Option Who → Data
maybe_agent None = null
maybe_agent (Some who) = agent who

-- with a number of this name
abbrev pub with_count : List ℕ → ℕ → Members → Members
with_count name n ms = put name (count n) ms

-- with a number of this name, or null
abbrev pub with_maybe : List ℕ → Option ℕ → Members → Members
with_maybe name n ms = put name (maybe n) ms

-- with a yes or no of this name
abbrev pub with_flag : List ℕ → Bool → Members → Members
with_flag name flag ms = put name (boolean flag) ms

-- with the request that the reason is about: its number and first clock
abbrev pub with_request : Concerned → Members → Members
with_request r ms = with_count (codes "first_clock") r.clock (with_count (codes "request") r.number ms)

-- with the three lines that tell of a snoop
abbrev pub with_snoop : SnoopLines → Members → Members
with_snoop l ms =
    with_flag (codes "defer") l.defer (with_flag (codes "hitm") l.hitm (with_flag (codes "hit") l.hit ms))

-- with what a request waits for: a word, its snoop end, and the end of the request before it, where they are known
unfoldable pub with_wait : Wait → Members → Members
with_wait NoSnoopEnd ms = put (codes "wait") (string (codes "no_snoop_end")) ms
with_wait (SnoopEnd clock) ms =
    with_count (codes "snoop_end") clock (put (codes "wait") (string (codes "snoop_end")) ms)
with_wait (NotClear clock) ms =
    with_maybe (codes "end_before") clock (put (codes "wait") (string (codes "request_before")) ms)
