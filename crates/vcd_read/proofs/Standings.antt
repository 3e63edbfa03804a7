-- What a reader stands for, as bytes come and as they end.
use Rattle.std.proofs.Common.{◌≡◌, ℕ, ◌+◌, ◌-◌, ◌≤◌, Bool, true, false, List, [], ◌∷◌, ◌++◌, length, take, nat_lt}
use Rattle.std.proofs.Common.{if◌then◌else◌, Option, Some, None, Result, Ok, Err, refl, sym, ap, ◌∙◌, subst, arith}
use Rattle.std.proofs.Common.{append_assoc, suc, zero}
use Rattle.std.specs.Result.{OnOk}
use Rattle.std.proofs.lemmas.Bool.{ltb-false}
use Rattle.std.proofs.lemmas.List.{append-nil, take_all}
use Rattle.fsb_signal.specs.declared.sample.Sample.{Sample}
use Rattle.vcd_grammar.specs.Reading.{samples_so_far, fault_so_far}
use Rattle.vcd_grammar.specs.declared.fault.VcdFault.{VcdFault}
use Rattle.vcd_read.specs.declared.scan.Scan.{Scan}
use Rattle.vcd_read.specs.declared.stop.VcdStop.{VcdStop}
use Rattle.vcd_read.specs.declared.stop.VcdStop.TheVariants as stops
use Rattle.vcd_read.specs.Taking.{pushed}
use Rattle.vcd_read.specs.Scanning.{Reading, reading, unread, after_bytes, samples_in_bytes, Fits, Part}
use Rattle.vcd_read.specs.Standing.{Scanned}
use Rattle.vcd_read.specs.Answers.{fault_or, stop_so_far, Answers, AppendsUpTo, AppendsSome, AppendsBy, result_of}
use Rattle.vcd_read.proofs.Readings.{pushed-is, behind_taken, behind_samples, behind_decided, behind_fits}
use Rattle.vcd_read.proofs.Law.{samples_so_far_law, fault_so_far_law}

-- before the first byte there is room
pub fits_unread : Fits unread
fits_unread = record { few = omega arith }

pub scanned_reading : (s : Scan) (fed : List ℕ) → Scanned s fed → reading s ≡ after_bytes unread fed
scanned_reading s fed h =
    let at : s.at ≡ 0 + length fed = omega (arith, h.at) in
    λ i. record { taken = h.machine i; at = at i; run = h.run i }

pub reading_scanned : (s : Scan) (fed : List ℕ) → reading s ≡ after_bytes unread fed → Scanned s fed
reading_scanned s fed h = record {
  machine = ap (λ (r : Reading). r.taken) h;
  at = omega (arith, ap (λ (r : Reading). r.at) h);
  run = ap (λ (r : Reading). r.run) h;
}

pub scanned_fits : (s : Scan) (fed : List ℕ) → Scanned s fed → Fits (reading s)
scanned_fits s fed h = behind_fits unread (reading s) fed (scanned_reading s fed h) fits_unread

-- so many samples were decided as the bytes fed decide
pub scanned_decided : (s : Scan) (fed : List ℕ) → Scanned s fed → s.machine.decided ≡ length (samples_so_far fed)
scanned_decided s fed h =
    let none : 0 + length (samples_in_bytes unread fed) ≡ length (samples_in_bytes unread fed) = omega arith in
    behind_decided unread (reading s) fed (scanned_reading s fed h) ∙ none ∙ ap length (sym (samples_so_far_law fed))

pub scanned_fault : (s : Scan) (fed : List ℕ) → Scanned s fed → s.machine.fault ≡ fault_so_far fed
scanned_fault s fed h = ap (λ t. t.known.fault) h.machine ∙ sym (fault_so_far_law fed)

-- further bytes
pub scanned_more : (s t : Scan) (fed piece : List ℕ) → Scanned s fed → reading t ≡ after_bytes (reading s) piece
    → Scanned t (fed ++ piece)
scanned_more s t fed piece h k =
    reading_scanned t (fed ++ piece) (behind_taken unread (reading s) (reading t) fed piece (scanned_reading s fed h) k)

-- the samples of the bytes fed, and of those that follow
fed_samples : (s : Scan) (fed piece : List ℕ) → Scanned s fed
    → samples_so_far (fed ++ piece) ≡ samples_so_far fed ++ samples_in_bytes (reading s) piece
fed_samples s fed piece h =
    samples_so_far_law (fed ++ piece) ∙ behind_samples unread (reading s) fed piece (scanned_reading s fed h)
    ∙ ap (λ xs. xs ++ samples_in_bytes (reading s) piece) (sym (samples_so_far_law fed))

-- the first of two lists
pub take_both : {X : Type 0} (n : ℕ) (xs ys : List X) → take n (xs ++ ys) ≡ take n xs ++ take (n - length xs) ys
take_both {X} n [] ys = let e : n - 0 ≡ n = omega arith in sym (rw e (no_take n))
  where
    no_take : (m : ℕ) → take {A = X} m [] ++ take n ys ≡ take n ys
    no_take zero = refl
    no_take (suc m) = refl
take_both zero (x ∷ xs) ys = let e : 0 - suc (length xs) ≡ 0 = omega arith in rw e refl
take_both (suc n) (x ∷ xs) ys = let e : suc n - suc (length xs) ≡ n - length xs = omega arith in
    rw e (ap (λ w. x ∷ w) (take_both n xs ys))

-- the samples that were few enough, and what follows of them up to the limit
pub take_behind : (limit : ℕ) (xs ys : List Sample) → length xs ≤ limit
    → take limit (xs ++ ys) ≡ xs ++ take (limit - length xs) ys
take_behind limit xs ys few = take_both limit xs ys ∙ ap (λ w. w ++ take (limit - length xs) ys) (take_all limit xs few)

-- what was appended goes up to the limit
pub appends_all : (limit decided : ℕ) (before more old new : List Sample) → decided ≡ length before
    → length before ≤ limit → new ≡ pushed limit decided old more
    → AppendsUpTo before (take limit (before ++ more)) old new
appends_all limit decided before more old new is few h = record {
  added = take (limit - length before) more;
  appended = h ∙ pushed-is limit decided old more ∙ ap (λ n. old ++ take (limit - n) more) is;
  complete = sym (take_behind limit before more few);
}

-- or to a first part of that
pub appends_some : (limit decided : ℕ) (before more old new : List Sample) → decided ≡ length before
    → length before ≤ limit → Part limit decided more old new → AppendsSome before (take limit (before ++ more)) old new
appends_some limit decided before more old new is few p =
    let room = limit - length before in
    record {
      added = take room p.first;
      rest = take (room - length p.first) p.rest;
      appended = p.appended ∙ pushed-is limit decided old p.first ∙ ap (λ n. old ++ take (limit - n) p.first) is;
      partial =
          append_assoc before (take room p.first) (take (room - length p.first) p.rest)
          ∙ ap (λ w. before ++ w) (sym (take_both room p.first p.rest) ∙ ap (take room) p.split)
          ∙ sym (take_behind limit before more few);
    }

-- what a refusal or none gives is that refusal or none
pub answers_of : (stop : Option VcdStop) → Answers (result_of stop) stop
answers_of None = refl
answers_of (Some stops.TooLong) = refl
answers_of (Some stops.Memory) = tt
answers_of (Some (stops.Bad fault)) = refl

-- all is a first part
appends_part : (before after old new : List Sample) → AppendsUpTo before after old new
    → AppendsSome before after old new
appends_part before after old new a = record {
  added = a.added;
  rest = [];
  appended = a.appended;
  partial = append-nil (before ++ a.added) ∙ a.complete;
}

pub appends_of : (stop : Option VcdStop) (before after old new : List Sample) → AppendsUpTo before after old new
    → AppendsBy (result_of stop) before after old new
appends_of None before after old new a = a
appends_of (Some stops.TooLong) before after old new a = a
appends_of (Some stops.Memory) before after old new a = appends_part before after old new a
appends_of (Some (stops.Bad fault)) before after old new a = a

-- the refusal of the first bytes, by what the scan has counted
pub stop_is : (limit : ℕ) (s : Scan) (fed : List ℕ) → Scanned s fed
    → (if nat_lt limit s.machine.decided then Some stops.TooLong else fault_or s.machine.fault None)
    ≡ stop_so_far limit fed
unfolding stop_so_far
stop_is limit s fed h = λ i. if nat_lt limit (scanned_decided s fed h i) then Some stops.TooLong
    else fault_or (scanned_fault s fed h i) None

-- where nothing is refused, the samples are few enough
pub few_where_none : (limit : ℕ) (s : Scan) (fed : List ℕ) → Scanned s fed
    → (if nat_lt limit s.machine.decided then Some stops.TooLong else fault_or s.machine.fault None) ≡ None
    → length (samples_so_far fed) ≤ limit
few_where_none limit s fed h none = by (nat_lt limit s.machine.decided) refl
  where
    by : (b : Bool) → nat_lt limit s.machine.decided ≡ b → length (samples_so_far fed) ≤ limit
    by true t = absurd cc
    by false t = omega (arith, ltb-false limit s.machine.decided t, scanned_decided s fed h)

-- where nothing is refused, there is no fault
pub faultless_where_none : (limit : ℕ) (s : Scan) (fed : List ℕ) → Scanned s fed
    → (if nat_lt limit s.machine.decided then Some stops.TooLong else fault_or s.machine.fault None) ≡ None
    → fault_so_far fed ≡ None
faultless_where_none limit s fed h none = sym (scanned_fault s fed h)
    ∙ by (nat_lt limit s.machine.decided) s.machine.fault none
  where
    by : (b : Bool) (fault : Option VcdFault) → (if b then Some stops.TooLong else fault_or fault None) ≡ None
        → fault ≡ None
    by true fault t = absurd cc
    by false None t = refl
    by false (Some fault) t = absurd cc

-- the samples that further bytes decide were appended
pub fed_appends : (limit : ℕ) (s : Scan) (fed piece : List ℕ) (old new : List Sample) → Scanned s fed
    → length (samples_so_far fed) ≤ limit
    → new ≡ pushed limit s.machine.decided old (samples_in_bytes (reading s) piece)
    → AppendsUpTo (samples_so_far fed) (take limit (samples_so_far (fed ++ piece))) old new
fed_appends limit s fed piece old new h few k =
    subst (λ w. AppendsUpTo (samples_so_far fed) (take limit w) old new) (sym (fed_samples s fed piece h))
    (appends_all limit s.machine.decided (samples_so_far fed) (samples_in_bytes (reading s) piece) old new
    (scanned_decided s fed h) few k)

pub fed_part : (limit : ℕ) (s : Scan) (fed piece : List ℕ) (old new : List Sample) → Scanned s fed
    → length (samples_so_far fed) ≤ limit
    → Part limit s.machine.decided (samples_in_bytes (reading s) piece) old new
    → AppendsSome (samples_so_far fed) (take limit (samples_so_far (fed ++ piece))) old new
fed_part limit s fed piece old new h few p =
    subst (λ w. AppendsSome (samples_so_far fed) (take limit w) old new) (sym (fed_samples s fed piece h))
    (appends_some limit s.machine.decided (samples_so_far fed) (samples_in_bytes (reading s) piece) old new
    (scanned_decided s fed h) few p)

-- what follows where nothing is refused
pub ok_of : {P : Type 0} (r : Result Unit VcdStop) (stop : Option VcdStop) → r ≡ result_of stop
    → (stop ≡ None → P) → OnOk r P
ok_of (Ok x) None h f = f refl
ok_of (Ok x) (Some stop) h f = absurd cc
ok_of (Err e) stop h f = tt
