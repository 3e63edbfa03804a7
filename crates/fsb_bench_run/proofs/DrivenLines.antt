-- The lines of the sample that a bench makes.
use Rattle.fsb_bench_run.proofs.Words
use Words.{ℕ, ◌+◌, ◌*◌, ◌/◌, ◌%◌, ◌^◌, ◌<◌, ◌≤◌, ◌≡◌, Bool, false, not, Option, Some, None, List, [], ◌∷◌, ◌++◌, length}
use Words.{is_some, if◌then◌else◌, eqb, sym, ap, ◌∙◌, arith, subst, bit_and, Pair, line_at-new, one_more, has_line}
use Words.{line_at, response_of, Lines, ADS, AERR, AP0, AP1, BNR, BPRI, BREQ0, BREQ1, BREQ2, BREQ3, DBSY, DEFER, DRDY}
use Words.{HIT, HITM, LOCK, RP, RS0, RS1, RS2, TRDY, Done, Choice, is_keep, Decided, SnoopSettled, step_run}
use Words.{step_sample, bits_driven, bits_of, drive_bits, is_asking, is_bridge_asking, is_lock_driven, pair_driven}
use Words.{parity_bits, request_bits, sample_by, BenchView, BusView, next_clock_of}
use Rattle.fsb_bench_run.proofs.RunWith.{run_with}
use Rattle.fsb_bench_run.proofs.SampleBits.{bit_in, line-bit}

-- HIT#, HITM# and DEFER# of a clock that is this snoop end, or none, where a snoop is stalled or not
abbrev pub hit_driven : Option SnoopSettled → Bool → Bool
hit_driven None stall = stall
hit_driven (Some s) stall = s.hit

abbrev pub hitm_driven : Option SnoopSettled → Bool → Bool
hitm_driven None stall = stall
hitm_driven (Some s) stall = s.hitm

abbrev pub defer_driven : Option SnoopSettled → Bool
defer_driven None = false
defer_driven (Some s) = not (is_keep s.turn)

-- the parity bits in order
abbrev pub parity_driven : ℕ → Pair → Bool → ℕ → Bool
parity_driven profile pair ads k = bit_in (parity_bits profile pair ads) k

three : (b : Bool) (x y z : Bool) (k : ℕ)
    → (if b then x ∷ (y ∷ (z ∷ [])) else false ∷ (false ∷ (false ∷ [])))
    ≡ bit_in (if b then x ∷ (y ∷ (z ∷ [])) else false ∷ (false ∷ (false ∷ []))) 0
    ∷ (bit_in (if b then x ∷ (y ∷ (z ∷ [])) else false ∷ (false ∷ (false ∷ []))) 1
    ∷ (bit_in (if b then x ∷ (y ∷ (z ∷ [])) else false ∷ (false ∷ (false ∷ []))) 2 ∷ []))
three b x y z k = grind arith

-- the bits, those of the snoop and of the parity one by one
abbrev driven : BusView → ℕ → ℕ → Decided → Pair → List Bool
driven bus clock profile decided pair =
    request_bits bus clock decided
    ++ ((hit_driven decided.snooped decided.drive.stall ∷ (hitm_driven decided.snooped decided.drive.stall
    ∷ (defer_driven decided.snooped ∷ [])))
    ++ (drive_bits decided.drive ++ (parity_driven profile pair (is_some decided.starting) 0
    ∷ (parity_driven profile pair (is_some decided.starting) 1
    ∷ (parity_driven profile pair (is_some decided.starting) 2 ∷ [])))))

all-driven : (bus : BusView) (clock profile : ℕ) (decided : Decided) (pair : Pair)
    → bits_driven bus clock profile decided pair ≡ driven bus clock profile decided pair
all-driven bus clock profile decided pair = grind arith

-- a line of the sample by the place of its bit
abbrev pub pair_of_clock : BusView → ℕ → Decided → Pair
pair_of_clock bus clock decided = pair_driven bus.latest clock decided.starting

bit-driven : (bus : BusView) (clock profile : ℕ) (decided : Decided) (pair : Pair) (k : ℕ)
    → eqb (bit_and (bits_of (bits_driven bus clock profile decided pair) % 2 ^ 21) (2 ^ k)) (2 ^ k)
    ≡ bit_in (driven bus clock profile decided pair) k
bit-driven bus clock profile decided pair k =
    let all = all-driven bus clock profile decided pair in
    line-bit (bits_driven bus clock profile decided pair) k
    (subst (λ bits. length bits ≤ 21) (sym all) (omega arith)) ∙ ap (λ bits. bit_in bits k) all

pub line-with : (v : BenchView) (hold : Bool) (choice : Choice) (entries : List Done) (line : Lines)
    → line_at line (run_with v hold choice entries).trace (next_clock_of v) ≡ has_line (step_sample v hold) line
line-with v hold choice entries line =
    line_at-new line v.run.trace (step_sample v hold) _ (one_more v.run.trace (step_sample v hold))

pub line-new : (v : BenchView) (hold : Bool) (choice : Choice) (line : Lines)
    → line_at line (step_run v hold choice).trace (next_clock_of v) ≡ has_line (step_sample v hold) line
line-new v hold choice line = line_at-new line v.run.trace (step_sample v hold) _ (one_more v.run.trace
    (step_sample v hold))

pub bnr-driven : (bus : BusView) (clock profile : ℕ) (decided : Decided)
    → has_line (sample_by bus clock profile decided) BNR ≡ decided.hold
bnr-driven bus clock profile decided = bit-driven bus clock profile decided (pair_of_clock bus clock decided) 6

pub ads-driven : (bus : BusView) (clock profile : ℕ) (decided : Decided)
    → has_line (sample_by bus clock profile decided) ADS ≡ is_some decided.starting
ads-driven bus clock profile decided = bit-driven bus clock profile decided (pair_of_clock bus clock decided) 7

pub aerr-driven : (bus : BusView) (clock profile : ℕ) (decided : Decided)
    → has_line (sample_by bus clock profile decided) AERR ≡ is_some decided.cancelled
aerr-driven bus clock profile decided = bit-driven bus clock profile decided (pair_of_clock bus clock decided) 8

pub lock-driven : (bus : BusView) (clock profile : ℕ) (decided : Decided)
    → has_line (sample_by bus clock profile decided) LOCK ≡ is_lock_driven bus decided.starting
lock-driven bus clock profile decided = bit-driven bus clock profile decided (pair_of_clock bus clock decided) 5

pub bpri-driven : (bus : BusView) (clock profile : ℕ) (decided : Decided)
    → has_line (sample_by bus clock profile decided) BPRI ≡ is_bridge_asking bus clock decided
bpri-driven bus clock profile decided = bit-driven bus clock profile decided (pair_of_clock bus clock decided) 4

pub breq0-driven : (bus : BusView) (clock profile : ℕ) (decided : Decided)
    → has_line (sample_by bus clock profile decided) BREQ0 ≡ is_asking bus clock decided 0
breq0-driven bus clock profile decided = bit-driven bus clock profile decided (pair_of_clock bus clock decided) 0

pub breq1-driven : (bus : BusView) (clock profile : ℕ) (decided : Decided)
    → has_line (sample_by bus clock profile decided) BREQ1 ≡ is_asking bus clock decided 1
breq1-driven bus clock profile decided = bit-driven bus clock profile decided (pair_of_clock bus clock decided) 1

pub breq2-driven : (bus : BusView) (clock profile : ℕ) (decided : Decided)
    → has_line (sample_by bus clock profile decided) BREQ2 ≡ is_asking bus clock decided 2
breq2-driven bus clock profile decided = bit-driven bus clock profile decided (pair_of_clock bus clock decided) 2

pub breq3-driven : (bus : BusView) (clock profile : ℕ) (decided : Decided)
    → has_line (sample_by bus clock profile decided) BREQ3 ≡ is_asking bus clock decided 3
breq3-driven bus clock profile decided = bit-driven bus clock profile decided (pair_of_clock bus clock decided) 3

pub hit-driven : (bus : BusView) (clock profile : ℕ) (decided : Decided)
    → has_line (sample_by bus clock profile decided) HIT ≡ hit_driven decided.snooped decided.drive.stall
hit-driven bus clock profile decided = bit-driven bus clock profile decided (pair_of_clock bus clock decided) 9

pub hitm-driven : (bus : BusView) (clock profile : ℕ) (decided : Decided)
    → has_line (sample_by bus clock profile decided) HITM ≡ hitm_driven decided.snooped decided.drive.stall
hitm-driven bus clock profile decided = bit-driven bus clock profile decided (pair_of_clock bus clock decided) 10

pub defer-driven : (bus : BusView) (clock profile : ℕ) (decided : Decided)
    → has_line (sample_by bus clock profile decided) DEFER ≡ defer_driven decided.snooped
defer-driven bus clock profile decided = bit-driven bus clock profile decided (pair_of_clock bus clock decided) 11

pub trdy-driven : (bus : BusView) (clock profile : ℕ) (decided : Decided)
    → has_line (sample_by bus clock profile decided) TRDY ≡ decided.drive.trdy
trdy-driven bus clock profile decided = bit-driven bus clock profile decided (pair_of_clock bus clock decided) 15

pub dbsy-driven : (bus : BusView) (clock profile : ℕ) (decided : Decided)
    → has_line (sample_by bus clock profile decided) DBSY ≡ decided.drive.dbsy
dbsy-driven bus clock profile decided = bit-driven bus clock profile decided (pair_of_clock bus clock decided) 16

pub drdy-driven : (bus : BusView) (clock profile : ℕ) (decided : Decided)
    → has_line (sample_by bus clock profile decided) DRDY ≡ is_some decided.drive.chunk
drdy-driven bus clock profile decided = bit-driven bus clock profile decided (pair_of_clock bus clock decided) 17

pub ap0-driven : (bus : BusView) (clock profile : ℕ) (decided : Decided)
    → has_line (sample_by bus clock profile decided) AP0
    ≡ parity_driven profile (pair_of_clock bus clock decided) (is_some decided.starting) 0
ap0-driven bus clock profile decided = bit-driven bus clock profile decided (pair_of_clock bus clock decided) 18

pub ap1-driven : (bus : BusView) (clock profile : ℕ) (decided : Decided)
    → has_line (sample_by bus clock profile decided) AP1
    ≡ parity_driven profile (pair_of_clock bus clock decided) (is_some decided.starting) 1
ap1-driven bus clock profile decided = bit-driven bus clock profile decided (pair_of_clock bus clock decided) 19

pub rp-driven : (bus : BusView) (clock profile : ℕ) (decided : Decided)
    → has_line (sample_by bus clock profile decided) RP
    ≡ parity_driven profile (pair_of_clock bus clock decided) (is_some decided.starting) 2
rp-driven bus clock profile decided = bit-driven bus clock profile decided (pair_of_clock bus clock decided) 20

-- the three bits of a code make the code
eight : (n : ℕ) (b0 b1 b2 : Bool) → n < 8 → eqb (n % 2) 1 ≡ b0 → eqb (n / 2 % 2) 1 ≡ b1 → eqb (n / 4 % 2) 1 ≡ b2
    → 4 * (if b2 then 1 else 0) + 2 * (if b1 then 1 else 0) + (if b0 then 1 else 0) ≡ n
eight n b0 b1 b2 l e0 e1 e2 = grind arith

pub code-driven : (bus : BusView) (clock profile : ℕ) (decided : Decided) → decided.drive.rs < 8
    → response_of (sample_by bus clock profile decided) ≡ decided.drive.rs
code-driven bus clock profile decided l =
    let pair = pair_of_clock bus clock decided in
    let x = sample_by bus clock profile decided in
    let low : has_line x RS0 ≡ eqb (decided.drive.rs % 2) 1 = bit-driven bus clock profile decided pair 12 in
    let mid : has_line x RS1 ≡ eqb (decided.drive.rs / 2 % 2) 1 = bit-driven bus clock profile decided pair 13 in
    let high : has_line x RS2 ≡ eqb (decided.drive.rs / 4 % 2) 1 = bit-driven bus clock profile decided pair 14 in
    eight decided.drive.rs (has_line x RS0) (has_line x RS1) (has_line x RS2) l (sym low) (sym mid) (sym high)
