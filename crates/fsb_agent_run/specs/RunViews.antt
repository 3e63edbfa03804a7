-- What an agent's record has of a run: of its script, of its lines, and of its requests.
use Rattle.std.specs.Prelude.{◌≡◌, ◌<◌, ◌≤◌, ℕ, ◌+◌, ◌&&◌, Bool, true, false, not, if◌then◌else◌, List, length, map, count_by, Option, Some, is_some, nat_eq, slice_get}
use Rattle.std.specs.List.{filter}
use Rattle.std.specs.Option.{option_map, option_map_or}
use Rattle.fsb_access.specs.declared.item.Item.{Item}
use Rattle.fsb_access.specs.declared.log.Done.{Done}
use Rattle.fsb_access.specs.ScriptOrder.{steps_of, steps_of_item}
use Rattle.fsb_cache.specs.Sets.{slot_of}
use Rattle.fsb_count.specs.Options.{is_some_and}
use Rattle.fsb_line.specs.declared.state.Mesi.{Mesi}
use Rattle.fsb_line.specs.declared.state.Mesi.TheVariants.{Invalid, Shared, Exclusive, Modified}
use Rattle.fsb_linebuf.specs.Buffers.{is_fill_on}
use Rattle.fsb_timely.specs.Past.{Grant, Owing, Past}
use Rattle.fsb_timely.specs.Grants.{grant_at, holds_line, is_end_at, is_ended, is_evicted, is_exclusive, latest_grant}
use Rattle.fsb_timely.specs.Hits.{is_dirty}
use Rattle.fsb_timely.specs.Moments.{is_upgraded}
use Rattle.fsb_timely.specs.Scripts.{idle_clocks, idle_start, is_logged, is_logged_at, items_of, last_done, next_item, next_number, number_after}
use Rattle.fsb_timely.specs.Wants.{want_of}
use Rattle.fsb_coherent.specs.Awaits.{snoop_end_below}
use Rattle.fsb_agent_view.specs.declared.want.Finished.{Finished}
use Rattle.fsb_agent_view.specs.declared.want.OwnRequest.{OwnRequest}
use Rattle.fsb_agent_view.specs.AgentViews.{AgentView, is_finished_at, line_state_by, number_by}
use Rattle.fsb_agent_view.specs.Sound.{is_in_set}

-- the state of a line that is held or not, held alone or not, and dirty or not
abbrev pub state_told : Bool → Bool → Bool → Mesi
state_told false alone dirty = Invalid
state_told true false dirty = Shared
state_told true true false = Exclusive
state_told true true true = Modified

-- the item of an entry, as what was completed last
abbrev pub finished_by : Done → Finished
finished_by done = record { clock = done.clock; item = done.item }

-- the place in a script whose next item has this number: its end where there is none
abbrev pub place_of : List Item → Option ℕ → ℕ
place_of items next = option_map_or (λ n. n) next (length items)

-- the clock up to which agent a idles before its next item at c
abbrev pub idle_end : Past → ℕ → ℕ → ℕ
idle_end p a c =
    idle_start p a c + idle_clocks (items_of p a) (number_after p a c) (place_of (items_of p a) (next_number p a c))

-- an outstanding request of agent a, as the past knows it: its number is the clock at which it began
abbrev pub owing_by : ℕ → OwnRequest → Owing
owing_by a out = record {
  claim = record { first = out.number; agent = a; line = out.request.line };
  did = out.request.did;
}

-- what stays as it is: the record is that of agent a of the plan
pub record IsAgentOf (p : Past) (a : ℕ) (v : AgentView) : Type 0 where
  pub number : v.number ≡ a
  pub items : v.items ≡ items_of p a
  pub ahead : v.ahead ≡ p.plan.ahead
  pub profile : v.profile ≡ p.plan.profile
  pub cache : length v.lines ≡ p.plan.cache

-- the record is where agent a is in its script at c, before it completes anything there: its next item, the clock up to
-- which it idles, and the item of its last entry
pub record IsPlacedIn (p : Past) (a c : ℕ) (v : AgentView) : Type 0 where
  pub place : v.place ≡ place_of (items_of p a) (next_number p a c)
  pub idle_to : v.idle_to ≡ idle_end p a c
  pub finished : v.finished ≡ option_map finished_by (last_done p a c)

-- the record has agent a's item at c, and tells whether that was completed there; if not, it idles up to where the
-- agent does
pub record IsAtItem (p : Past) (a c : ℕ) (completed : Bool) (v : AgentView) : Type 0 where
  pub item : number_by v c ≡ place_of (items_of p a) (next_number p a c)
  pub finished : is_finished_at v.finished c ≡ completed
  pub idle_to : completed ≡ false → v.idle_to ≡ idle_end p a c

-- how many fills of the line are under way
abbrev pub fill_count : AgentView → ℕ → ℕ
fill_count v line = count_by (is_fill_on line) v.buffers.fills

-- one where it is so, else none
abbrev pub one_if : Bool → ℕ
one_if b = if b then 1 else 0

-- agent a awaits the bytes of the line: the end of its latest grant to a below n is not below c
unfoldable pub is_awaited : Past → ℕ → ℕ → ℕ → ℕ → Bool
is_awaited p a line n c = is_some_and (latest_grant p a line n) (λ grant. not (is_ended p c grant.first))

-- the record has the lines so: each is in the state of one that is held or not, held alone or not, and dirty or not; it
-- has one fill where its bytes are awaited, and none elsewhere; and what a set has is a line of that set
pub record HasLines (held alone dirty awaited : ℕ → Bool) (v : AgentView) : Type 0 where
  pub states : (line : ℕ) → line_state_by v line ≡ state_told (held line) (alone line) (dirty line)
  pub fills : (line : ℕ) → fill_count v line ≡ one_if (awaited line)
  pub in_sets : (line : ℕ) → is_in_set (length v.lines) line (slot_of v.lines line) ≡ true

-- the record has the lines as agent a has them at n, where these are dirty, and the ends below c have come
abbrev pub HasLinesOf : Past → ℕ → ℕ → ℕ → (ℕ → Bool) → AgentView → Type 0
HasLinesOf p a n c dirty v =
    HasLines (λ line. holds_line p a line n) (λ line. is_exclusive p a line n) dirty (λ line. is_awaited p a line n c) v

-- the record has the lines as agent a has them at c with its hits, without those that it drops for what it begins there
abbrev pub HasLinesKept : Past → ℕ → ℕ → AgentView → Type 0
HasLinesKept p a c v =
    HasLines (λ line. holds_line p a line c && not (is_evicted p a line c))
    (λ line. is_exclusive p a line c && not (is_evicted p a line c))
    (λ line. is_dirty p a line c) (λ line. is_awaited p a line c c) v

-- an upgrade is won that begins at q: its snoop end lies below n, and makes a grant without data
unfoldable pub is_won_below : Past → ℕ → ℕ → Bool
is_won_below p n q = is_some_and (snoop_end_below p n q) (λ s. is_upgraded s.outcome && is_some s.grant)

-- the record has these outstanding requests of agent a, in order, each as what a wanted when it began; and it keeps bytes
-- for the upgrades that were won below n
pub record HasRequestsOf (p : Past) (a n : ℕ) (owings : List Owing) (v : AgentView) : Type 0 where
  pub owed : map (owing_by a) v.outs ≡ owings
  pub wanted : (k : ℕ) (out : OwnRequest) → slice_get v.outs k ≡ Some out → want_of p a out.number ≡ Some out.request
  pub kept : (k : ℕ) (out : OwnRequest) → slice_get v.outs k ≡ Some out → is_some out.kept ≡ is_won_below p n out.number

-- agent a completes the item of this number at c, its next one, and nothing else there: no item behind it was logged
-- before, and a's last entry of c is of this item
pub record CompletesItem (p : Past) (a c number : ℕ) : Type 0 where
  pub next : next_number p a c ≡ Some number
  pub logged : is_logged_at p a c number ≡ true
  pub alone : (other : ℕ) → is_logged_at p a c other ≡ true → other ≡ number
  pub behind : (other : ℕ) → number < other → is_logged p a c other ≡ false
  pub last : Done
  pub is_last : last_done p a (c + 1) ≡ Some last
  pub last_clock : last.clock ≡ c
  pub last_item : last.item ≡ number

-- the bytes of this line come to agent a at c, by a grant that owns the line or not: the grant was made at a clock
-- up to c, its end is c, and no other grant to a has its end there
pub record IsComing (p : Past) (a c line : ℕ) (owns : Bool) : Type 0 where
  pub at : ℕ
  pub grant : Grant
  pub before : at ≤ c
  pub granted : grant_at p at ≡ Some grant
  pub to : grant.agent ≡ a
  pub of_line : grant.line ≡ line
  pub owning : grant.owns ≡ owns
  pub ends : is_end_at p c grant.first ≡ true
  pub only : (t : ℕ) (other : Grant) → t ≤ c → grant_at p t ≡ Some other → other.agent ≡ a
      → is_end_at p c other.first ≡ true → t ≡ at

-- agent a completes its next item at c, and its entries of c are the accesses of that item
pub record LogsItem (p : Past) (a c : ℕ) : Type 0 where
  pub number : ℕ
  pub item : Item
  pub completes : CompletesItem p a c number
  pub next : next_item p a c ≡ Some item
  pub steps : steps_of a (filter (λ done. nat_eq done.clock c) p.log) ≡ steps_of_item number item
