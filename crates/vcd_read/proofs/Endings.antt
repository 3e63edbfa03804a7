-- The end of a text: what is answered, and which samples are appended.
use Rattle.std.proofs.Common.{◌≡◌, ℕ, ◌+◌, ◌-◌, ◌≤◌, Bool, true, false, not, ◌&&◌, ◌||◌, ◌==◌, List, [], ◌∷◌, ◌++◌}
use Rattle.std.proofs.Common.{length, take, nat_lt, if◌then◌else◌, Option, Some, None, is_some, refl, sym, ap, ◌∙◌}
use Rattle.std.proofs.Common.{subst, arith, append_assoc, length-append}
use Rattle.std.proofs.Math.Bool.{or-false}
use Rattle.std.proofs.lemmas.Bool.{ltb-true, ltb-false, lt-ltb, le-ltb, eqb-true, eqb-false}
use Rattle.std.proofs.lemmas.List.{append-nil, take_all, take-append-le}
use Rattle.fsb_signal.specs.declared.sample.Sample.{Sample}
use Rattle.vcd_grammar.specs.declared.fault.VcdFault.{VcdFault}
use Rattle.vcd_grammar.specs.Tokens.{tokens_so_far, tokens_of, open_run, ended_at}
use Rattle.vcd_grammar.specs.Reading.{samples_so_far, samples_of, samples_before_end, first_fault, or_cut}
use Rattle.vcd_read.specs.declared.scan.Scan.{Scan}
use Rattle.vcd_read.specs.declared.stop.VcdStop.{VcdStop}
use Rattle.vcd_read.specs.declared.stop.VcdStop.TheVariants as stops
use Rattle.vcd_read.specs.Lines.{sample_of_end, rises}
use Rattle.vcd_read.specs.Taking.{untaken, take_tokens, samples_in_tokens, pushed}
use Rattle.vcd_read.specs.Scanning.{reading, unread, samples_in_bytes, ended_taken, ended_samples, end_fault}
use Rattle.vcd_read.specs.Scanning.{open_samples, open_rises, decided_in_reading, Part}
use Rattle.vcd_read.specs.Standing.{Scanned}
use Rattle.vcd_read.specs.Answers.{fault_or, long_or, stop_at_end, stop_of_dump, end_stop, dump_stop, AppendsUpTo}
use Rattle.vcd_read.specs.Answers.{AppendsSome, AppendsAtEnd, result_of}
use Rattle.vcd_read.proofs.Readings.{take_tokens-append, samples_in_tokens-append, ended_decided, pushed-append}
use Rattle.vcd_read.proofs.Readings.{pushed-is}
use Rattle.vcd_read.proofs.Law.{samples_so_far_law, samples_before_end_law, samples_of_law, first_fault_law}
use Rattle.vcd_read.proofs.Standings.{scanned_decided, appends_all, appends_some, take_both}

-- the text's tokens are those that count before its end, and the last one
pub ended_is : (s : Scan) (fed : List ℕ) → Scanned s fed → ended_taken (reading s) ≡ take_tokens untaken (tokens_of fed)
ended_is s fed h =
    (λ i. take_tokens (h.machine i) (ended_at (h.at i) (h.run i)))
    ∙ sym (take_tokens-append untaken (tokens_so_far fed) (ended_at (length fed) (open_run fed)))

-- the first fault
pub end_fault_is : (s : Scan) (fed : List ℕ) → Scanned s fed → end_fault (reading s) ≡ first_fault fed
end_fault_is s fed h =
    (λ i. or_cut (ended_is s fed h i).known.fault (ended_is s fed h i).known.mode (h.at i)) ∙ sym (first_fault_law fed)

-- the samples that a greater time has decided
pub before_end_is : (s : Scan) (fed : List ℕ) → Scanned s fed
    → samples_before_end fed ≡ samples_so_far fed ++ ended_samples (reading s)
before_end_is s fed h =
    samples_before_end_law fed
    ∙ samples_in_tokens-append untaken (tokens_so_far fed) (ended_at (length fed) (open_run fed))
    ∙ (λ i. sym (samples_so_far_law fed) i ++ samples_in_tokens (sym h.machine i) (ended_at (sym h.at i) (sym h.run i)))

-- all samples
pub all_is : (s : Scan) (fed : List ℕ) → Scanned s fed
    → samples_of fed ≡ samples_before_end fed ++ sample_of_end (ended_taken (reading s)).lines
all_is s fed h =
    samples_of_law fed ∙ (λ i. sym (samples_before_end_law fed) i ++ sample_of_end (sym (ended_is s fed h) i).lines)

-- the count of the samples that a greater time has decided
pub end_decided : (s : Scan) (fed : List ℕ) → Scanned s fed
    → (ended_taken (reading s)).lines.decided ≡ length (samples_before_end fed)
end_decided s fed h =
    let n : s.machine.decided + length (ended_samples (reading s))
    ≡ length (samples_so_far fed ++ ended_samples (reading s)) =
    omega (arith, scanned_decided s fed h, length-append (samples_so_far fed) (ended_samples (reading s))) in
    ended_decided (reading s) ∙ n ∙ ap length (sym (before_end_is s fed h))

-- one sample, if the clock rises
abbrev pub one_if : Bool → Sample → List Sample
one_if b x = if b then x ∷ [] else []

-- one more than a count that is not above the limit is above it exactly where the count is the limit
at_limit : (n limit : ℕ) → nat_lt limit n ≡ false → (n == limit) ≡ nat_lt limit (n + 1)
at_limit n limit h = by (n == limit) refl
  where
    by : (b : Bool) → (n == limit) ≡ b → b ≡ nat_lt limit (n + 1)
    by true t = sym (lt-ltb limit (n + 1) (omega (arith, eqb-true n limit t)))
    by false t = sym (le-ltb limit (n + 1) (omega (arith, eqb-false n limit t, ltb-false limit n h)))

-- what a reader answers at the end
pub end_stop_is : (limit : ℕ) (before : List Sample) (fault : Option VcdFault) (b : Bool) (x : Sample)
    → end_stop limit (length before) fault (not (is_some fault) && b)
    ≡ long_or limit before (fault_or fault (long_or limit (before ++ one_if b x) None))
unfolding end_stop
end_stop_is limit before (Some fault) b x = refl
end_stop_is limit before None false x = by (nat_lt limit (length before)) refl
  where
    by : (t : Bool) → nat_lt limit (length before) ≡ t
        → (if t then Some stops.TooLong else None)
        ≡ (if t then Some stops.TooLong else long_or limit (before ++ []) None)
    by true t = refl
    by false t = sym (ap (λ (w : List Sample). long_or limit w None) (append-nil before)
        ∙ ap (λ c. if c then Some stops.TooLong else None) t)
end_stop_is limit before None true x = by (nat_lt limit (length before)) refl
  where
    n : length (before ++ x ∷ []) ≡ length before + 1
    n = length-append before (x ∷ [])

    by : (t : Bool) → nat_lt limit (length before) ≡ t
        → (if t then Some stops.TooLong else (if length before == limit then Some stops.TooLong else None))
        ≡ (if t then Some stops.TooLong else long_or limit (before ++ x ∷ []) None)
    by true t = refl
    by false t = ap (λ c. if c then Some stops.TooLong else None) (at_limit (length before) limit t
        ∙ ap (nat_lt limit) (sym n))

-- what reading a whole dump answers
pub dump_stop_is : (limit : ℕ) (before : List Sample) (fault : Option VcdFault) (b : Bool) (x : Sample)
    → dump_stop limit (length before) fault (not (is_some fault) && b)
    ≡ fault_or fault (long_or limit (before ++ one_if b x) None)
unfolding dump_stop
dump_stop_is limit before (Some fault) b x = refl
dump_stop_is limit before None false x =
    ap (λ c. if c then Some stops.TooLong else None) (or-false (nat_lt limit (length before))
    ∙ ap (λ (w : List Sample). nat_lt limit (length w)) (sym (append-nil before)))
dump_stop_is limit before None true x =
    ap (λ c. if c then Some stops.TooLong else None) (by (nat_lt limit (length before)) refl
    ∙ ap (nat_lt limit) (sym n))
  where
    n : length (before ++ x ∷ []) ≡ length before + 1
    n = length-append before (x ∷ [])

    by : (t : Bool) → nat_lt limit (length before) ≡ t
        → (t || (length before == limit)) ≡ nat_lt limit (length before + 1)
    by true t = sym (lt-ltb limit (length before + 1) (omega (arith, ltb-true limit (length before) t)))
    by false t = at_limit (length before) limit t

-- what was appended of these samples and of those of the last block
with_last : (limit decided : ℕ) (before more last : List Sample) (old new : List Sample)
    → decided ≡ length before → length before ≤ limit → new ≡ pushed limit decided old (more ++ last)
    → AppendsUpTo before (take limit ((before ++ more) ++ last)) old new
with_last limit decided before more last old new is few h =
    subst (λ w. AppendsUpTo before (take limit w) old new) (sym (append_assoc before more last))
    (appends_all limit decided before (more ++ last) old new is few h)

-- where there is no sample of a last block
without_last : (limit decided : ℕ) (before more : List Sample) (old new : List Sample) → decided ≡ length before
    → length before ≤ limit → new ≡ pushed limit decided old (more ++ [])
    → AppendsUpTo before (take limit (before ++ more)) old new
without_last limit decided before more old new is few h =
    subst (λ w. AppendsUpTo before (take limit w) old new) (append-nil (before ++ more))
    (with_last limit decided before more [] old new is few h)

-- where the samples before it reach the limit
past_last : (limit decided : ℕ) (before more last : List Sample) (old new : List Sample)
    → decided ≡ length before → length before ≤ limit → new ≡ pushed limit decided old (more ++ last)
    → limit ≤ length (before ++ more) → AppendsUpTo before (take limit (before ++ more)) old new
past_last limit decided before more last old new is few h past =
    subst (λ w. AppendsUpTo before w old new) (take-append-le limit (before ++ more) last past)
    (with_last limit decided before more last old new is few h)

-- where all are no more than the limit
all_last : (limit decided : ℕ) (before more last : List Sample) (old new : List Sample)
    → decided ≡ length before → length before ≤ limit → new ≡ pushed limit decided old (more ++ last)
    → length ((before ++ more) ++ last) ≤ limit → AppendsUpTo before ((before ++ more) ++ last) old new
all_last limit decided before more last old new is few h within =
    subst (λ w. AppendsUpTo before w old new) (take_all limit ((before ++ more) ++ last) within)
    (with_last limit decided before more last old new is few h)

-- what is appended at the end
pub end_appends : (limit decided : ℕ) (before more : List Sample) (fault : Option VcdFault) (b : Bool)
    (x : Sample) (old new : List Sample)
    → decided ≡ length before → length before ≤ limit
    → new ≡ pushed limit decided old (more ++ (if is_some fault then [] else one_if b x))
    → AppendsAtEnd (result_of (end_stop limit (length (before ++ more)) fault (not (is_some fault) && b))) limit
    before (before ++ more) ((before ++ more) ++ one_if b x) old new
unfolding end_stop
end_appends limit decided before more (Some fault) b x old new is few h = by (nat_lt limit (length (before ++ more)))
  where
    by : (t : Bool)
        → AppendsAtEnd (result_of (if t then Some stops.TooLong else Some (stops.Bad fault))) limit before
        (before ++ more) ((before ++ more) ++ one_if b x) old new
    by true = without_last limit decided before more old new is few h
    by false = without_last limit decided before more old new is few h
end_appends limit decided before more None false x old new is few h = by (nat_lt limit (length (before ++ more))) refl
  where
    by : (t : Bool) → nat_lt limit (length (before ++ more)) ≡ t
        → AppendsAtEnd (result_of (if t then Some stops.TooLong else None)) limit before (before ++ more)
        ((before ++ more) ++ []) old new
    by true t = without_last limit decided before more old new is few h
    by false t = all_last limit decided before more [] old new is few h
        (omega (arith, ltb-false limit (length (before ++ more)) t, length-append (before ++ more) []))
end_appends limit decided before more None true x old new is few h =
    by (nat_lt limit (length (before ++ more))) (length (before ++ more) == limit) refl refl
  where
    by : (t u : Bool) → nat_lt limit (length (before ++ more)) ≡ t → (length (before ++ more) == limit) ≡ u
        → AppendsAtEnd (result_of (if t then Some stops.TooLong else (if u then Some stops.TooLong else None)))
        limit before (before ++ more) ((before ++ more) ++ x ∷ []) old new
    by true u t e = past_last limit decided before more (x ∷ []) old new is few h
        (omega (arith, ltb-true limit (length (before ++ more)) t))
    by false true t e = past_last limit decided before more (x ∷ []) old new is few h
        (omega (arith, eqb-true (length (before ++ more)) limit e))
    by false false t e =
        all_last limit decided before more (x ∷ []) old new is few h
        (omega (
          arith,
          ltb-false limit (length (before ++ more)) t,
          eqb-false (length (before ++ more)) limit e,
          length-append (before ++ more) (x ∷ []),
        ))

-- a first part of samples is one of these and more
part_with : (limit : ℕ) (before xs ys : List Sample) (old new : List Sample)
    → AppendsSome before (take limit xs) old new → AppendsSome before (take limit (xs ++ ys)) old new
part_with limit before xs ys old new p = record {
  added = p.added;
  rest = p.rest ++ take (limit - length xs) ys;
  appended = p.appended;
  partial = sym (append_assoc (before ++ p.added) p.rest (take (limit - length xs) ys))
      ∙ ap (λ w. w ++ take (limit - length xs) ys) p.partial ∙ sym (take_both limit xs ys);
}

-- what is appended at the end for want of memory
pub end_part : (limit decided : ℕ) (before more : List Sample) (fault : Option VcdFault) (b : Bool) (x : Sample)
    (old new : List Sample)
    → decided ≡ length before → length before ≤ limit
    → Part limit decided (more ++ (if is_some fault then [] else one_if b x)) old new
    → AppendsSome before (take limit ((before ++ more) ++ one_if b x)) old new
end_part limit decided before more (Some fault) b x old new is few p =
    part_with limit before (before ++ more) (one_if b x) old new
    (subst (λ w. AppendsSome before (take limit w) old new) (ap (λ w. before ++ w) (append-nil more))
    (appends_some limit decided before (more ++ []) old new is few p))
end_part limit decided before more None b x old new is few p =
    subst (λ w. AppendsSome before (take limit w) old new) (sym (append_assoc before more (one_if b x)))
    (appends_some limit decided before (more ++ one_if b x) old new is few p)

-- what was appended, said with other names
moved : (limit : ℕ) (before decided decided' all all' : List Sample) (stop stop' : Option VcdStop)
    (old new : List Sample) → stop ≡ stop' → decided ≡ decided' → all ≡ all'
    → AppendsAtEnd (result_of stop) limit before decided all old new
    → AppendsAtEnd (result_of stop') limit before decided' all' old new
moved limit before decided decided' all all' stop stop' old new e f g a =
    subst (λ s. AppendsAtEnd (result_of s) limit before decided' all' old new) e
    (subst (λ d. AppendsAtEnd (result_of stop) limit before d all' old new) f
    (subst (λ w. AppendsAtEnd (result_of stop) limit before decided w old new) g a))

-- the same, at a scan that has read the text
pub scan_stop_is : (s : Scan) (text : List ℕ) (limit decided : ℕ) (fault : Option VcdFault) (more : Bool)
    → Scanned s text
    → fault ≡ end_fault (reading s) → decided ≡ (ended_taken (reading s)).lines.decided
    → more ≡ open_rises (end_fault (reading s)) (ended_taken (reading s)).lines
    → end_stop limit decided fault more ≡ stop_at_end limit text
unfolding stop_at_end
scan_stop_is s text limit decided fault more h f d m =
    let lines = (ended_taken (reading s)).lines in
    let count : decided ≡ length (samples_before_end text) = d ∙ end_decided s text h in
    (λ i. end_stop limit (count i) (f i) (m i))
    ∙ end_stop_is limit (samples_before_end text) (end_fault (reading s)) (rises lines) lines.block.sample_before
    ∙ (λ i. long_or limit (samples_before_end text)
    (fault_or (end_fault_is s text h i) (long_or limit (sym (all_is s text h) i) None)))

pub scan_dump_is : (s : Scan) (text : List ℕ) (limit decided : ℕ) (fault : Option VcdFault) (more : Bool)
    → Scanned s text
    → fault ≡ end_fault (reading s) → decided ≡ (ended_taken (reading s)).lines.decided
    → more ≡ open_rises (end_fault (reading s)) (ended_taken (reading s)).lines
    → dump_stop limit decided fault more ≡ stop_of_dump limit text
unfolding stop_of_dump
scan_dump_is s text limit decided fault more h f d m =
    let lines = (ended_taken (reading s)).lines in
    let count : decided ≡ length (samples_before_end text) = d ∙ end_decided s text h in
    (λ i. dump_stop limit (count i) (f i) (m i))
    ∙ dump_stop_is limit (samples_before_end text) (end_fault (reading s)) (rises lines) lines.block.sample_before
    ∙ (λ i. fault_or (end_fault_is s text h i) (long_or limit (sym (all_is s text h) i) None))

pub scan_appends : (s : Scan) (text : List ℕ) (limit decided : ℕ) (fault : Option VcdFault) (more : Bool)
    (old new : List Sample) → Scanned s text → length (samples_so_far text) ≤ limit
    → fault ≡ end_fault (reading s) → decided ≡ (ended_taken (reading s)).lines.decided
    → more ≡ open_rises (end_fault (reading s)) (ended_taken (reading s)).lines
    → new ≡ pushed limit s.machine.decided old
    (ended_samples (reading s) ++ open_samples (end_fault (reading s)) (ended_taken (reading s)).lines)
    → AppendsAtEnd (result_of (end_stop limit decided fault more)) limit (samples_so_far text)
    (samples_before_end text) (samples_of text) old new
scan_appends s text limit decided fault more old new h few f d m k =
    let lines = (ended_taken (reading s)).lines in
    let before = before_end_is s text h in
    let count : length (samples_so_far text ++ ended_samples (reading s)) ≡ decided = ap length (sym before)
    ∙ sym (d ∙ end_decided s text h) in
    let all : (samples_so_far text ++ ended_samples (reading s)) ++ sample_of_end lines ≡ samples_of text =
    ap (λ w. w ++ sample_of_end lines) (sym before) ∙ sym (all_is s text h) in
    let base = end_appends limit s.machine.decided (samples_so_far text) (ended_samples (reading s))
    (end_fault (reading s)) (rises lines) lines.block.sample_before old new (scanned_decided s text h) few k in
    let stop : end_stop limit (length (samples_so_far text ++ ended_samples (reading s)))
    (end_fault (reading s)) (open_rises (end_fault (reading s)) lines) ≡ end_stop limit decided fault more =
    λ i. end_stop limit (count i) (sym f i) (sym m i) in
    moved limit (samples_so_far text) _ _ _ _ _ _ old new stop (sym before) all base

pub scan_part : (s : Scan) (text : List ℕ) (limit : ℕ) (old new : List Sample) → Scanned s text
    → length (samples_so_far text) ≤ limit
    → Part limit s.machine.decided
    (ended_samples (reading s) ++ open_samples (end_fault (reading s)) (ended_taken (reading s)).lines) old new
    → AppendsSome (samples_so_far text) (take limit (samples_of text)) old new
scan_part s text limit old new h few p =
    let lines = (ended_taken (reading s)).lines in
    let all : (samples_so_far text ++ ended_samples (reading s)) ++ sample_of_end lines ≡ samples_of text =
    ap (λ w. w ++ sample_of_end lines) (sym (before_end_is s text h)) ∙ sym (all_is s text h) in
    subst (λ w. AppendsSome (samples_so_far text) (take limit w) old new) all
    (end_part limit s.machine.decided (samples_so_far text) (ended_samples (reading s)) (end_fault (reading s))
    (rises lines) lines.block.sample_before old new (scanned_decided s text h) few p)

-- where a dump is not refused, it has no fault, and no more samples than the limit
none_of_dump : (fault : Option VcdFault) (limit : ℕ) (w : List Sample)
    → fault_or fault (long_or limit w None) ≡ None → (fault ≡ None) × (length w ≤ limit)
none_of_dump (Some fault) limit w h = absurd cc
none_of_dump None limit w h = (refl, by (nat_lt limit (length w)) refl)
  where
    by : (t : Bool) → nat_lt limit (length w) ≡ t → length w ≤ limit
    by true t = absurd cc
    by false t = ltb-false limit (length w) t

-- a dump that is not refused was read, and its samples are all there
pub dump_read : (start s : Scan) (text : List ℕ) (limit : ℕ) (none to new : List Sample)
    → reading start ≡ unread → none ≡ [] → Scanned s text
    → to ≡ pushed limit start.machine.decided none (samples_in_bytes (reading start) text)
    → new ≡ pushed limit s.machine.decided to
    (ended_samples (reading s) ++ open_samples (end_fault (reading s)) (ended_taken (reading s)).lines)
    → stop_of_dump limit text ≡ None → (first_fault text ≡ None) × (new ≡ samples_of text)
unfolding stop_of_dump
dump_read start s text limit none to new begun empty h k l lawful =
    let lines = (ended_taken (reading s)).lines in
    let found = none_of_dump (first_fault text) limit (samples_of text) lawful in
    let so_far = samples_so_far text in
    let last = ended_samples (reading s) ++ open_samples (end_fault (reading s)) lines in
    let to_is : to ≡ pushed limit 0 [] so_far = k
    ∙ (λ i. pushed limit (decided_in_reading (begun i)) (empty i) (samples_in_bytes (begun i) text))
    ∙ ap (pushed limit 0 []) (sym (samples_so_far_law text)) in
    let count : s.machine.decided ≡ 0 + length so_far = omega (arith, scanned_decided s text h) in
    let room : limit - 0 ≡ limit = omega arith in
    let fault : end_fault (reading s) ≡ None = end_fault_is s text h ∙ found.0 in
    let all : so_far ++ last ≡ samples_of text =
    ap (λ f. so_far ++ (ended_samples (reading s) ++ open_samples f lines)) fault
    ∙ sym (append_assoc so_far (ended_samples (reading s)) (sample_of_end lines))
    ∙ ap (λ w. w ++ sample_of_end lines) (sym (before_end_is s text h))
    ∙ sym (all_is s text h) in (
      found.0,
      l ∙ (λ i. pushed limit (count i) (to_is i) last)
          ∙ sym (pushed-append limit 0 [] so_far last)
          ∙ pushed-is limit 0 [] (so_far ++ last)
          ∙ (λ i. take (room i) (all i))
          ∙ take_all limit (samples_of text) found.1,
    )
