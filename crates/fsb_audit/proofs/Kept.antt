-- What is kept of responses, of the words of a clock and of the moved chunks, one sample on.
use Rattle.std.proofs.Common.{ℕ, zero, suc, ◌+◌, ◌-◌, ◌≤◌, ◌≡◌, Bool, true, false, cond, ◌&&◌, ◌||◌, not}
use Rattle.std.proofs.Common.{nat_eq, nat_le, nat_lt, Option, Some, None, is_some, length, refl, sym, ap, ◌∙◌}
use Rattle.std.proofs.Common.{arith, add-one}
use Rattle.std.specs.Option.{option_map}
use Rattle.std.proofs.lemmas.Bool.{and_parts, eqb-true, le-leb, not-false}
use Rattle.fsb_count.specs.Options.{is_some_and, is_at}
use Rattle.fsb_count.specs.Clocks.{count_where, last_where}
use Rattle.fsb_count.proofs.Interface.{count_where-more, count_where-same, last_where-failed, last_where-passed}
use Rattle.fsb_signal.specs.declared.lines.TheConstants.Lines.{ADS, HITM, DEFER}
use Rattle.fsb_signal.specs.declared.sample.Sample.{Sample}
use Rattle.fsb_signal.specs.Samples.{data_at, response_of}
use Rattle.fsb_encode.specs.declared.request.Kind.{Kind}
use Rattle.fsb_encode.specs.declared.request.Kind.TheVariants.{Reply, Invalidate, Read, WriteBack, Upgrade}
use Rattle.fsb_encode.specs.declared.request.Request.{Request}
use Rattle.fsb_trace.specs.At.{Trace, known_pair_at, line_back}
use Rattle.fsb_trace.specs.Requests.{live_count, live_request_of, is_write_back, is_write_back_kind, is_upgrade}
use Rattle.fsb_trace.specs.Requests.{is_upgrade_kind}
use Rattle.fsb_trace.specs.Snoop.{line_at_snoop_end}
use Rattle.fsb_trace.specs.declared.outcome.Outcome.TheVariants.{Granted, Handed, Retried, Deferred, Written, Replied}
use Rattle.fsb_trace.specs.declared.outcome.Outcome.TheVariants.{Failed, Upgraded}
use Rattle.fsb_trace.specs.Outcome.{outcome_by_kind, outcome_of, response_code_of}
use Rattle.fsb_trace.specs.Outcome.{told_by}
use Rattle.fsb_trace.specs.Rules.{has_code_at, has_den, is_code_for, is_code_wrong, responds_soundly}
use Rattle.fsb_trace.proofs.Interface.{live_response_of-there}
use Rattle.fsb_laws.specs.OneMore.{OneMore, responds}
use Rattle.fsb_laws.specs.Orderly.{Orderly}
use Rattle.fsb_laws.specs.Progress.{response_count}
use Rattle.fsb_laws.proofs.Interface.{line_at-new, next_response-new, responds_at-new, response_clock_of-new}
use Rattle.fsb_laws.proofs.Interface.{response_code_at-new, response_count-kept, response_count-more, response_there}
use Rattle.fsb_audit.specs.MovedChunks.{does_come_from_memory, moved_at, moved_count}
use Rattle.fsb_audit.specs.Fouls.{latest_move}
use Rattle.fsb_audit.specs.AuditRegisters.{ChunkMap, Puts, data_in, first_after, from_memory_after}
use Rattle.fsb_audit.specs.Audit.{comes_after, first_back, latest_data}
use Rattle.fsb_audit.proofs.Movers.{GoesOnFrom, responded, same_outcome}
use Rattle.fsb_audit.proofs.Moves.{last_where-below, same_data, same_latest, same_moved}

-- the words of a request that begins
pub first_goes : (h : Trace) (x : Sample) (v : Trace) → OneMore h x v → first_after x ≡ first_back v
unfolding first_after first_back line_back known_pair_at
first_goes h x v m =
    let back : length v - 1 ≡ length h = (let size = m.size in omega arith) in
    let one : nat_le 1 (length v) ≡ true = le-leb 1 (length v) (let size = m.size in omega arith) in
    sym (rw (back, one, line_at-new ADS h x v m, m.last) refl)

-- by the kind of a request that nothing hands on
wrote : (o : Option Request) → (is_write_back o || is_upgrade o) ≡ true
    → does_come_from_memory (outcome_by_kind o) ≡ false
unfolding is_write_back is_upgrade is_some_and outcome_by_kind does_come_from_memory is_write_back_kind is_upgrade_kind
wrote None t = absurd (let no : ⊥ = cc in no)
wrote (Some r) t = kinds r.kind t
  where
    kinds : (k : Kind) → (is_write_back_kind k || is_upgrade_kind k) ≡ true
        → does_come_from_memory (elim k [
          | WriteBack ↦ Written
          | Upgrade ↦ Upgraded
          | Reply ↦ Replied
          | Read ↦ Granted
          | Invalidate ↦ Granted
        ]) ≡ false
    kinds Reply t = absurd (let no : ⊥ = cc in no)
    kinds Invalidate t = absurd (let no : ⊥ = cc in no)
    kinds Read t = absurd (let no : ⊥ = cc in no)
    kinds WriteBack t = refl
    kinds Upgrade t = refl

gave : (o : Option Request) → is_write_back o ≡ false → is_upgrade o ≡ false
    → does_come_from_memory (outcome_by_kind o) ≡ true
unfolding is_write_back is_upgrade is_some_and outcome_by_kind does_come_from_memory is_write_back_kind is_upgrade_kind
gave None e f = refl
gave (Some r) e f = kinds r.kind e f
  where
    kinds : (k : Kind) → is_write_back_kind k ≡ false → is_upgrade_kind k ≡ false
        → does_come_from_memory (elim k [
          | WriteBack ↦ Written
          | Upgrade ↦ Upgraded
          | Reply ↦ Replied
          | Read ↦ Granted
          | Invalidate ↦ Granted
        ]) ≡ true
    kinds Reply e f = refl
    kinds Invalidate e f = refl
    kinds Read e f = refl
    kinds WriteBack e f = absurd (let no : ⊥ = cc in no)
    kinds Upgrade e f = absurd (let no : ⊥ = cc in no)

-- what the code tells, where it is the one for the request
abbrev told : Bool → ℕ → Option Request → Bool
told hitm code o =
    does_come_from_memory
    (cond (nat_eq code 4) Failed
    (cond hitm Handed (cond (nat_eq code 1) Retried (cond (nat_eq code 2) Deferred (outcome_by_kind o)))))

abbrev fits : Bool → Bool → Bool → ℕ → Option Request → Bool
fits hitm defer den code o =
    cond hitm (nat_eq code 6)
    (cond (is_write_back o) (nat_eq code 5)
    (cond defer (nat_eq code 1 || den && nat_eq code 2) (cond (is_upgrade o) (nat_eq code 5) (nat_eq code 7))))

retried_told : (den b : Bool) (code : ℕ) (o : Option Request) → nat_eq code 1 ≡ b
    → (nat_eq code 1 || den && nat_eq code 2) ≡ true → told false code o ≡ nat_eq code 7
unfolding does_come_from_memory
retried_told den true code o k s = let one : code ≡ 1 = eqb-true code 1 k in rw one refl
retried_told den false code o k s =
    let a : (den && nat_eq code 2) ≡ true = (let b = rw k at s in b) in
    let two : code ≡ 2 = eqb-true code 2 (and_parts den (nat_eq code 2) a).1 in
    rw two refl

fits_told : (hitm defer den wrote_back upgrades : Bool) (code : ℕ) (o : Option Request)
    → is_write_back o ≡ wrote_back → is_upgrade o ≡ upgrades → fits hitm defer den code o ≡ true
    → told hitm code o ≡ nat_eq code 7
unfolding does_come_from_memory
fits_told true defer den w u code o e f t = let six : code ≡ 6 = eqb-true code 6 t in rw six refl
fits_told false defer den true u code o e f t =
    let five : code ≡ 5 = eqb-true code 5 (let a = rw e at t in a) in
    rw five (wrote o (ap (λ b. b || is_upgrade o) e))
fits_told false true den false u code o e f t =
    let g : (nat_eq code 1 || den && nat_eq code 2) ≡ true = (let a = rw e at t in a) in
    retried_told den (nat_eq code 1) code o refl g
fits_told false false den false true code o e f t =
    let five : code ≡ 5 = eqb-true code 5 (let a = rw (e, f) at t in a) in
    let upgrades : (is_write_back o || is_upgrade o) ≡ true = ap (λ b. b || is_upgrade o) e ∙ f in
    rw five (wrote o upgrades)
fits_told false false den false false code o e f t =
    let seven : code ≡ 7 = eqb-true code 7 (let a = rw (e, f) at t in a) in
    rw seven (gave o e f)

failed_told : (hitm : Bool) (code : ℕ) (o : Option Request) → nat_eq code 4 ≡ true → told hitm code o ≡ nat_eq code 7
unfolding does_come_from_memory
failed_told hitm code o t = let four : code ≡ 4 = eqb-true code 4 t in rw four refl

code_told : (v : Trace) (i code : ℕ) → is_code_for v i code ≡ true
    → does_come_from_memory (told_by v i code) ≡ nat_eq code 7
unfolding is_code_for told_by response_code_of
code_told v i code t =
    fits_told (line_at_snoop_end HITM v i) (line_at_snoop_end DEFER v i) (has_den (live_request_of v i))
    (is_write_back (live_request_of v i)) (is_upgrade (live_request_of v i)) code (live_request_of v i) refl refl t

sound_code : (h : Trace) (x : Sample) (v : Trace) → OneMore h x v → is_code_wrong v (length h) ≡ false
    → responds x ≡ true → nat_eq (response_of x) 4 ≡ false → is_code_for v (response_count h) (response_of x) ≡ true
unfolding is_code_wrong responds_soundly has_code_at response_code_of
sound_code h x v m f t e =
    let a : not (nat_lt (response_count h) (live_count v) && is_code_for v (response_count h) (response_of x))
    ≡ false = (let b = rw (
      responds_at-new h x v m,
      t,
      response_code_at-new h x v m,
      e,
      next_response-new h x v m,
    ) at f in b) in
    (and_parts _ _ (not-false _ a)).1

-- the response of the newest clock tells whether the data come from memory
newest_told : (h : Trace) (x : Sample) (v : Trace) (b : Bool) → OneMore h x v
    → is_code_wrong v (length h) ≡ false → responds x ≡ true → nat_eq (response_of x) 4 ≡ b
    → does_come_from_memory (told_by v (response_count h) (response_of x)) ≡ nat_eq (response_of x) 7
unfolding told_by response_code_of
newest_told h x v true m f t e = failed_told (line_at_snoop_end HITM v (response_count h)) (response_of x)
    (live_request_of v (response_count h)) e
newest_told h x v false m f t e = code_told v (response_count h) (response_of x) (sound_code h x v m f t e)

newest_outcome : (h : Trace) (x : Sample) (v : Trace) → OneMore h x v → Orderly v → responds x ≡ true
    → outcome_of v (response_count h) ≡ Some (told_by v (response_count h) (response_of x))
unfolding outcome_of
newest_outcome h x v m o t =
    let clock = response_clock_of-new h x v m t in
    let r = responded v (response_count h) (length h) o clock in
    rw (live_response_of-there v (response_count h) r.snoop r.is_snoop, clock, response_code_at-new h x v m) refl

from_kept : (h v : Trace) (n : ℕ) → GoesOnFrom h v → n ≤ response_count h → comes_after v n ≡ comes_after h n
unfolding comes_after
from_kept h v zero g l = refl
from_kept h v (suc i) g l =
    let there = response_there h i (omega arith) in
    ap (λ k. is_some_and k does_come_from_memory) (same_outcome h v i g (responded h i there.0 g.orderly there.1))

from_begun : (h : Trace) (x : Sample) (v : Trace) → OneMore h x v → Orderly v
    → is_code_wrong v (length h) ≡ false → responds x ≡ true
    → nat_eq (response_of x) 7 ≡ comes_after v (suc (response_count h))
unfolding comes_after is_some_and
from_begun h x v m o f t =
    sym (rw (newest_outcome h x v m o t) (newest_told h x v (nat_eq (response_of x) 4) m f t refl))

from_cases : (from : Bool) (h : Trace) (x : Sample) (v : Trace) (b : Bool) → OneMore h x v → Orderly h
    → Orderly v → is_code_wrong v (length h) ≡ false → from ≡ comes_after h (response_count h) → responds x ≡ b
    → from_memory_after from x ≡ comes_after v (response_count v)
unfolding from_memory_after response_code_of
from_cases from h x v true m o ov f is t =
    let count : response_count v ≡ suc (response_count h) =
    (let more : response_count v ≡ response_count h + 1 = rw t at (response_count-more h x v m) in omega arith) in
    rw (t, count) (from_begun h x v m ov f t)
from_cases from h x v false m o ov f is t =
    rw (t, response_count-kept h x v m t) (is
    ∙ sym (from_kept h v (response_count h) (record { agree = m.agree; orderly = o }) (omega arith)))

pub from_goes : (from : Bool) (h : Trace) (x : Sample) (v : Trace) → OneMore h x v → Orderly h → Orderly v
    → is_code_wrong v (length h) ≡ false → from ≡ comes_after h (response_count h)
    → from_memory_after from x ≡ comes_after v (response_count v)
from_goes from h x v m o ov f is = from_cases from h x v (responds x) m o ov f is refl

-- how many chunks were moved
pub count_goes : (h : Trace) (x : Sample) (v : Trace) (b : Bool) → OneMore h x v → Orderly h
    → is_some (moved_at v (length h)) ≡ b → moved_count v ≡ moved_count h + cond b 1 0
unfolding moved_count
count_goes h x v b m o e =
    let g : GoesOnFrom h v = record { agree = m.agree; orderly = o } in
    rw m.size (count_where-more (λ c. is_some (moved_at v c)) (length h)
    ∙ ap (λ k. count_where (λ c. is_some (moved_at v c)) (length h) + cond k 1 0) e
    ∙ ap (λ k. k + cond b 1 0) (count_where-same (λ c. is_some (moved_at v c)) (λ c. is_some (moved_at h c)) (length h)
    (record { same = λ c l. ap (λ k. is_some k) (same_moved h v c g l) })))

-- the data of a chunk when it was moved last
latest_more : (v : Trace) (chunk n : ℕ) → length v ≡ n + 1
    → latest_data v chunk ≡ option_map (λ b. (data_at v b).bits) (last_where (λ b. is_at (moved_at v b) chunk) (suc n))
unfolding latest_data latest_move
latest_more v chunk n e =
    ap (λ k. option_map (λ b. (data_at v b).bits) (last_where (λ b. is_at (moved_at v b) chunk) k)) (e ∙ add-one n)

data_by : (h v : Trace) (chunk : ℕ) (o : Option ℕ) → GoesOnFrom h v → latest_move h chunk (length h) ≡ o
    → option_map (λ b. (data_at v b).bits) o ≡ option_map (λ b. (data_at h b).bits) o
unfolding latest_move
data_by h v chunk None g e = refl
data_by h v chunk (Some b) g e =
    let below = last_where-below (λ d. is_at (moved_at h d) chunk) (length h) b e in
    ap (λ d. Some d.bits) (same_data h v b g below)

pub latest_kept : (h v : Trace) (chunk : ℕ) → GoesOnFrom h v
    → option_map (λ b. (data_at v b).bits) (latest_move v chunk (length h)) ≡ latest_data h chunk
unfolding latest_data
latest_kept h v chunk g =
    ap (option_map (λ b. (data_at v b).bits)) (same_latest h v chunk (length h) g (omega arith))
    ∙ data_by h v chunk (latest_move h chunk (length h)) g refl

not_moved : (h : Trace) (x : Sample) (v : Trace) (chunk : ℕ) → OneMore h x v → Orderly h
    → is_at (moved_at v (length h)) chunk ≡ false → latest_data v chunk ≡ latest_data h chunk
unfolding latest_move
not_moved h x v chunk m o f =
    latest_more v chunk (length h) m.size
    ∙ ap (option_map (λ b. (data_at v b).bits)) (last_where-failed (λ b. is_at (moved_at v b) chunk) (length h) f)
    ∙ latest_kept h v chunk (record { agree = m.agree; orderly = o })

just_moved : (h : Trace) (x : Sample) (v : Trace) (chunk : ℕ) → OneMore h x v
    → is_at (moved_at v (length h)) chunk ≡ true → latest_data v chunk ≡ Some x.dbus.bits
just_moved h x v chunk m t =
    latest_more v chunk (length h) m.size
    ∙ ap (option_map (λ b. (data_at v b).bits)) (last_where-passed (λ b. is_at (moved_at v b) chunk) (length h) t)
    ∙ newest_bits h x v m
  where
    newest_bits : (h : Trace) (x : Sample) (v : Trace) → OneMore h x v
        → Some ((data_at v (length h)).bits) ≡ Some x.dbus.bits
    newest_bits h x v m = rw m.last refl

moved_to : (h : Trace) (x : Sample) (v : Trace) (k chunk : ℕ) (b : Bool) → OneMore h x v → Orderly h
    → moved_at v (length h) ≡ Some k → nat_eq k chunk ≡ b
    → latest_data v chunk ≡ cond b (Some x.dbus.bits) (latest_data h chunk)
unfolding is_at is_some_and
moved_to h x v k chunk true m o e t = just_moved h x v chunk m (rw e t)
moved_to h x v k chunk false m o e f = not_moved h x v chunk m o (rw e f)

pub map_goes : (old new : ChunkMap) (h : Trace) (x : Sample) (v : Trace) (k : ℕ) → OneMore h x v → Orderly h
    → moved_at v (length h) ≡ Some k → Puts old new k x.dbus.bits
    → ((chunk : ℕ) → data_in old chunk ≡ latest_data h chunk) → (chunk : ℕ) → data_in new chunk ≡ latest_data v chunk
map_goes old new h x v k m o e puts had chunk =
    puts chunk ∙ ap (cond (nat_eq k chunk) (Some x.dbus.bits)) (had chunk)
    ∙ sym (moved_to h x v k chunk (nat_eq k chunk) m o e refl)

pub map_stays : (old : ChunkMap) (h : Trace) (x : Sample) (v : Trace) → OneMore h x v → Orderly h
    → moved_at v (length h) ≡ None → ((chunk : ℕ) → data_in old chunk ≡ latest_data h chunk) → (chunk : ℕ)
    → data_in old chunk ≡ latest_data v chunk
unfolding is_at is_some_and
map_stays old h x v m o e had chunk = had chunk ∙ sym (not_moved h x v chunk m o (rw e refl))
