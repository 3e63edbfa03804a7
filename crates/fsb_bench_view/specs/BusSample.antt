-- The sample of a clock.
use Rattle.std.specs.Prelude.{ℕ, ◌+◌, ◌*◌, ◌/◌, ◌%◌, ◌^◌, ◌==◌, ◌&&◌, ◌||◌, Bool, true, false, not, is_some, if◌then◌else◌, List, [], ◌∷◌, ◌++◌, Option, Some, None}
use Rattle.std.specs.List.{list_any}
use Rattle.std.specs.Int.RustNames.{count_ones}
use Rattle.std.specs.Option.{option_map_or}
use Rattle.fsb_count.specs.Options.{is_some_and}
use Rattle.fsb_encode.specs.declared.request.Pair.{Pair}
use Rattle.fsb_encode.specs.Request.{pairs_of}
use Rattle.fsb_phase.specs.declared.drive.Drive.{Drive}
use Rattle.fsb_signal.specs.Parity.{is_even}
use Rattle.fsb_signal.specs.Samples.{known_sample}
use Rattle.fsb_signal.specs.declared.sample.Sample.{Sample}
use Rattle.fsb_timely.specs.Snoops.{is_keep}
use Rattle.fsb_timely.specs.Starts.{no_pair}
use Rattle.fsb_trace.specs.declared.who.Who.{Who}
use Rattle.fsb_trace.specs.declared.who.Who.TheVariants.{Symmetric, Priority}
use Rattle.fsb_bench_view.specs.declared.beginning.Latest.{Latest}
use Rattle.fsb_bench_view.specs.declared.beginning.Starting.{Starting}
use Rattle.fsb_bench_view.specs.declared.decided.Decided.{Decided}
use Rattle.fsb_bench_view.specs.BusViews.{BusView}
use Rattle.fsb_bench_view.specs.BytesFetched.{data_driven}
use Rattle.fsb_bench_view.specs.BusStarting.{want_in}

-- the number whose bits these are, the lowest first
abbrev pub bits_of : List Bool → ℕ
bits_of [] = 0
bits_of (bit ∷ bits) = (if bit then 1 else 0) + 2 * bits_of bits

-- two agents are one
abbrev pub is_same_who : Who → Who → Bool
is_same_who (Symmetric a) (Symmetric b) = a == b
is_same_who (Symmetric a) Priority = false
is_same_who Priority (Symmetric b) = false
is_same_who Priority Priority = true

-- the request that began last began at the clock before
abbrev pub is_latest_before : ℕ → Latest → Bool
is_latest_before clock latest = latest.clock + 1 == clock

-- this agent began a request at the clock before
abbrev pub began_by : Option Latest → ℕ → Who → Bool
began_by latest clock who = is_some_and latest (λ last. is_latest_before clock last && is_same_who last.who who)

-- the address and REQ words of the clock: the first pair of the request that begins, the second pair of the one that began
-- at the clock before, or nothing
abbrev pub pair_driven : Option Latest → ℕ → Option Starting → Pair
pair_driven latest clock (Some starting) = (pairs_of starting.request).0
pair_driven latest clock None =
    option_map_or (λ last. if is_latest_before clock last then (pairs_of last.request).1 else no_pair) latest no_pair

-- the agent asks for the bus: it wants something, and began no request at the clock before
abbrev pub is_asking : BusView → ℕ → Decided → ℕ → Bool
is_asking bus clock decided n = is_some (want_in decided.asked n) && not (began_by bus.latest clock (Symmetric n))

-- the bridge asks for the bus: a reply is due, and none began at the clock before
abbrev pub is_bridge_asking : BusView → ℕ → Decided → Bool
is_bridge_asking bus clock decided = is_some decided.asked.due && not (began_by bus.latest clock Priority)

-- LOCK# is asserted: an agent keeps the bus locked, or begins a locked request
abbrev pub is_lock_driven : BusView → Option Starting → Bool
is_lock_driven bus starting = list_any (λ kept. kept) bus.kept || is_some_and starting (λ s. s.locked)

-- HIT#, HITM# and DEFER#
abbrev pub snoop_bits : Decided → List Bool
snoop_bits decided =
    elim decided.snooped [
      | Some snooped ↦ snooped.hit ∷ (snooped.hitm ∷ (not (is_keep snooped.turn) ∷ []))
      | None ↦ decided.drive.stall ∷ (decided.drive.stall ∷ (false ∷ []))
    ]

-- RS0#, RS1#, RS2#, TRDY#, DBSY# and DRDY#
abbrev pub drive_bits : Drive → List Bool
drive_bits drive =
    (drive.rs % 2 == 1) ∷ ((drive.rs / 2 % 2 == 1) ∷ ((drive.rs / 4 % 2 == 1)
    ∷ (drive.trdy ∷ (drive.dbsy ∷ (is_some drive.chunk ∷ [])))))

-- AP0#, AP1# and RP#: in profile 2 they make each count even, and in profile 1 they are not driven
abbrev pub parity_bits : ℕ → Pair → Bool → List Bool
parity_bits profile pair ads =
    if profile == 2
    then not (is_even (count_ones (pair.addr % 2 ^ 21)))
    ∷ (not (is_even (count_ones (pair.addr / 2 ^ 21)))
    ∷ (not (is_even ((if ads then 1 else 0) + count_ones pair.req)) ∷ []))
    else false ∷ (false ∷ (false ∷ []))

-- BREQ0# to BREQ3#, BPRI#, LOCK#, BNR#, ADS# and AERR#
abbrev pub request_bits : BusView → ℕ → Decided → List Bool
request_bits bus clock decided =
    is_asking bus clock decided 0 ∷ (is_asking bus clock decided 1
    ∷ (is_asking bus clock decided 2 ∷ (is_asking bus clock decided 3
    ∷ (is_bridge_asking bus clock decided ∷ (is_lock_driven bus decided.starting
    ∷ (decided.hold ∷ (is_some decided.starting ∷ (is_some decided.cancelled ∷ []))))))))

-- which control lines are asserted at the clock, in the order of their bits
abbrev pub bits_driven : BusView → ℕ → ℕ → Decided → Pair → List Bool
bits_driven bus clock profile decided pair =
    request_bits bus clock decided ++ (snoop_bits decided ++ (drive_bits decided.drive
    ++ parity_bits profile pair (is_some decided.starting)))

-- the sample of the clock, on a bus of this profile
abbrev pub sample_by : BusView → ℕ → ℕ → Decided → Sample
sample_by bus clock profile decided =
    let pair = pair_driven bus.latest clock decided.starting in
    known_sample (bits_of (bits_driven bus clock profile decided pair)) pair.req pair.addr (data_driven bus decided.drive)
