-- The parity of large words, computed digit by digit.
use Rattle.std.proofs.Common.{ℕ, zero, suc, ◌+◌, ◌/◌, ◌%◌, ◌^◌, ◌≡◌, ◌&&◌, Bool, true, nat_eq, slice_get, Option, Some}
use Rattle.std.proofs.Common.{None, refl, ap, ◌∙◌}
use Rattle.std.specs.Int.Count.{ones, ones_in, ones_step}
use Rattle.std.proofs.lemmas.Bool.{and_parts, eqb-true}
use Rattle.fsb_count.specs.Options.{is_some_and}
use Rattle.fsb_signal.specs.Parity.{is_even}
use Rattle.fsb_signal.specs.Samples.{bit_of}
use Rattle.fsb_signal.specs.declared.lines.TheConstants.Lines.{ADS, AP0, AP1, RP}
use Rattle.fsb_signal.specs.declared.sample.Sample.{Sample}
use Rattle.fsb_timely.specs.BusLock.{drives_lock}
use Rattle.fsb_timely.specs.Carried.{carries_data}
use Rattle.fsb_timely.specs.Completions.{logs_completions}
use Rattle.fsb_timely.specs.ParityLines.{is_even_sample, drives_parity}
use Rattle.fsb_timely.specs.Past.{Past}
use Rattle.fsb_timely.specs.Runs.{Run, run_to, past_of, past_to}
use Rattle.fsb_timely.specs.Snoops.{drives_hazards, has_snoop_result}
use Rattle.fsb_timely.specs.Starts.{starts_requests, drives_request_lines}
use Rattle.fsb_timely.specs.Timely.{Part, holds_in, holds_at, keeps}
use Rattle.fsb_timely.specs.Transfers.{drives_responses}
use Rattle.fsb_timely.proofs.Interface.{keeps-at, keeps-all}
use Rattle.rows_timely.proofs.LaidOut.{every_part}
use Rattle.rows_timely.proofs.Opened.{opened}

-- a number has at most so many digits
unfoldable pub has_digits : ℕ → ℕ → Bool
has_digits zero n = nat_eq n 0
has_digits (suc k) n = has_digits k (n / 2)

nothing : (n : ℕ) → n ≡ 0 → ones n ≡ 0
unfolding ones ones_in
nothing n e = ap ones e

-- its digits, counted one by one
by_digits : (k n : ℕ) → has_digits k n ≡ true → ones n ≡ ones_in k n
unfolding has_digits ones_in
by_digits zero n e = nothing n (eqb-true n 0 e)
by_digits (suc k) n e = ones_step n ∙ ap (λ m. n % 2 + m) (by_digits k (n / 2) e)

-- a count is even, where the number has at most k digits
unfoldable pub is_even_in : ℕ → ℕ → ℕ → Bool
is_even_in k b n = has_digits k n && is_even (b + ones_in k n)

even_from : (k b n : ℕ) → is_even_in k b n ≡ true → is_even (b + ones n) ≡ true
unfolding is_even_in
even_from k b n e =
    let parts = and_parts (has_digits k n) (is_even (b + ones_in k n)) e in
    ap (λ m. is_even (b + m)) (by_digits k n parts.0) ∙ parts.1

-- the parity lines make each count even
unfoldable pub is_even_by_digits : Sample → Bool
is_even_by_digits s =
    is_even_in 21 (bit_of s AP0) (s.addr.bits % 2 ^ 21) && is_even_in 12 (bit_of s AP1) (s.addr.bits / 2 ^ 21)
    && is_even_in 5 (bit_of s RP + bit_of s ADS) s.req.bits

both : (x y : Bool) → x ≡ true → y ≡ true → (x && y) ≡ true
both x y e f = rw (e, f) refl

even_sample : (s : Sample) → is_even_by_digits s ≡ true → is_even_sample s ≡ true
unfolding is_even_by_digits is_even_sample
even_sample s e =
    let outer = and_parts (is_even_in 21 (bit_of s AP0) (s.addr.bits % 2 ^ 21)
    && is_even_in 12 (bit_of s AP1) (s.addr.bits / 2 ^ 21))
    (is_even_in 5 (bit_of s RP + bit_of s ADS) s.req.bits) e in
    let inner = and_parts (is_even_in 21 (bit_of s AP0) (s.addr.bits % 2 ^ 21))
    (is_even_in 12 (bit_of s AP1) (s.addr.bits / 2 ^ 21)) outer.0 in
    both _ _ (both _ _ (even_from 21 (bit_of s AP0) (s.addr.bits % 2 ^ 21) inner.0)
    (even_from 12 (bit_of s AP1) (s.addr.bits / 2 ^ 21) inner.1))
    (even_from 5 (bit_of s RP + bit_of s ADS) s.req.bits outer.1)

-- parity in profile 2, by digits
unfoldable pub drives_digits : Run → Past → ℕ → Bool
drives_digits r p c = is_some_and (slice_get r.trace c) is_even_by_digits

even_some : (o : Option Sample) → is_some_and o is_even_by_digits ≡ true → is_some_and o is_even_sample ≡ true
unfolding is_some_and
even_some None e = e
even_some (Some s) e = even_sample s e

parity_from : (r : Run) (p : Past) (c : ℕ) → r.plan.profile ≡ 2 → drives_digits r p c ≡ true
    → drives_parity r p c ≡ true
unfolding drives_digits drives_parity
parity_from r p c two e = rw two (even_some (slice_get r.trace c) e)

-- the eight parts together, and the data, where parity is computed digit by digit
abbrev pub every_part_by_digits : Part
every_part_by_digits r p c =
    starts_requests r p c
    && (drives_request_lines r p c
    && (drives_hazards r p c
    && (has_snoop_result r p c
    && (drives_responses r p c
    && (logs_completions r p c && (drives_lock r p c && (drives_digits r p c && carries_data r p c)))))))

under : (x u v : Bool) → (u ≡ true → v ≡ true) → (x && u) ≡ true → (x && v) ≡ true
under x u v f e = let parts = and_parts x u e in both x v parts.0 (f parts.1)

beside : (u v y : Bool) → (u ≡ true → v ≡ true) → (u && y) ≡ true → (v && y) ≡ true
beside u v y f e = let parts = and_parts u y e in both v y (f parts.0) parts.1

every_from : (r : Run) (p : Past) (c : ℕ) → r.plan.profile ≡ 2 → every_part_by_digits r p c ≡ true
    → every_part r p c ≡ true
every_from r p c two e =
    under (starts_requests r p c) _ _
    (under (drives_request_lines r p c) _ _
    (under (drives_hazards r p c) _ _
    (under (has_snoop_result r p c) _ _
    (under (drives_responses r p c) _ _
    (under (logs_completions r p c) _ _
    (under (drives_lock r p c) _ _ (beside (drives_digits r p c) (drives_parity r p c) (carries_data r p c)
    (parity_from r p c two)))))))) e

-- a run of profile 2 that keeps every part by digits keeps every part
pub keeps_by_digits : (r : Run) → r.plan.profile ≡ 2 → keeps every_part_by_digits r ≡ true → keeps every_part r ≡ true
unfolding holds_at holds_in run_to
keeps_by_digits r two e =
    let h = keeps-at every_part_by_digits r e in
    keeps-all every_part r (record { at = λ c l. every_from (run_to r c) (past_to (past_of r) c) c two (h.at c l) })

-- all that a run of profile 2 computes with, where parity is computed by digits
unfoldable pub opened_by_digits : Bool
unfolding opened ones_in has_digits is_even_in is_even_by_digits drives_digits
opened_by_digits = true
