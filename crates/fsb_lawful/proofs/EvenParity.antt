-- Rules 19 and 20: the parity of a timely run of profile 2 is even; in profile 1 no parity is declared.
use Rattle.fsb_lawful.proofs.Words
use Words.{ℕ, ◌+◌, ◌<◌, ◌≡◌, Bool, true, false, Option, length, take, nat_eq, arith, slice_get, option_map_or}
use Words.{is_some_and, Sample, marks_in, is_address_odd, is_request_odd, is_address_parity_wrong}
use Words.{is_request_parity_wrong, is_marked_address_wrong, is_marked_request_wrong, breaks-19, breaks-20, Past, Run}
use Words.{run_to, past_of, past_to, holds_in, holds_at, Timely, Keeps}
use Rattle.fsb_timely.specs.ParityLines.{is_even_sample, drives_parity}
use Rattle.fsb_lawful.proofs.Keeping.{keeps}

not_odd-address : (s : Sample) → is_even_sample s ≡ true → is_address_odd s ≡ false
unfolding is_even_sample is_address_odd
not_odd-address s e = grind arith

not_odd-request : (s : Sample) → is_even_sample s ≡ true → is_request_odd s ≡ false
unfolding is_even_sample is_request_odd
not_odd-request s e = grind arith

-- a test that the sample rules out, of a sample that may not be there
not_odd : (odd : Sample → Bool) (o : Option Sample) → ((s : Sample) → is_even_sample s ≡ true → odd s ≡ false)
    → is_some_and o is_even_sample ≡ true → option_map_or odd o false ≡ false
unfolding is_some_and
not_odd odd o h1 h2 = grind arith

even-at : (r : Run) (p : Past) (c : ℕ) → nat_eq r.plan.profile 2 ≡ true → drives_parity r p c ≡ true
    → is_some_and (slice_get r.trace c) is_even_sample ≡ true
unfolding drives_parity
even-at r p c two e = let e' = rw two at e in e'

even-there : (r : Run) (c : ℕ) → Timely r → c < length r.trace → nat_eq r.plan.profile 2 ≡ true
    → is_some_and (slice_get (take (c + 1) r.trace) c) is_even_sample ≡ true
unfolding holds_at holds_in run_to
even-there r c h l two = even-at (run_to r c) (past_to (past_of r) c) c two (h.parity.at c l)

address-kept : (r : Run) (c : ℕ) → Timely r → c < length r.trace → nat_eq r.plan.profile 2 ≡ true
    → is_address_parity_wrong (take (c + 1) r.trace) c ≡ false
unfolding is_address_parity_wrong
address-kept r c h l two = grind (arith, not_odd, not_odd-address, even-there)

request-kept : (r : Run) (c : ℕ) → Timely r → c < length r.trace → nat_eq r.plan.profile 2 ≡ true
    → is_request_parity_wrong (take (c + 1) r.trace) c ≡ false
unfolding is_request_parity_wrong
request-kept r c h l two = grind (arith, not_odd, not_odd-request, even-there)

-- rule 19
pub keeps-19 : (r : Run) → Timely r → Keeps (marks_in r.plan.profile) 19 r.trace
unfolding is_marked_address_wrong
keeps-19 r h = grind (arith, keeps, breaks-19, address-kept)

-- rule 20
pub keeps-20 : (r : Run) → Timely r → Keeps (marks_in r.plan.profile) 20 r.trace
unfolding is_marked_request_wrong
keeps-20 r h = grind (arith, keeps, breaks-20, request-kept)
