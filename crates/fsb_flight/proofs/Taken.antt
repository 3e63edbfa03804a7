-- The steps of a clock make of the queue what it has to hold.
use Rattle.std.proofs.Common.{ℕ, zero, suc, ◌+◌, ◌<◌, ◌≡◌, Bool, true, false, not, cond, ◌&&◌, ◌||◌, nat_eq, Option}
use Rattle.std.proofs.Common.{Some, None, List, [], ◌∷◌, ◌++◌, map, filter, drop, length, is_none, is_some, refl, sym}
use Rattle.std.proofs.Common.{ap, ◌∙◌, inl, inr, arith}
use Rattle.std.specs.List.{slice_get, find}
use Rattle.std.specs.Option.{option_map}
use Rattle.std.proofs.lemmas.Bool.{cases_Bool, eqb-true, eq-eqb, ne_eqb}
use Rattle.std.proofs.lemmas.Option.{slice_get-map}
use Rattle.std.proofs.Math.Bool.{or-false}
use Rattle.fsb_count.specs.Options.{is_at}
use Rattle.fsb_signal.specs.declared.lines.TheConstants.Lines.{AERR}
use Rattle.fsb_signal.specs.declared.sample.Sample.{Sample}
use Rattle.fsb_signal.specs.Samples.{has_line}
use Rattle.fsb_trace.specs.declared.outcome.Outcome.{Outcome}
use Rattle.fsb_trace.specs.At.{Trace}
use Rattle.fsb_trace.specs.Requests.{is_live, live_number_of}
use Rattle.fsb_trace.specs.Response.{end_of}
use Rattle.fsb_trace.proofs.Interface.{live_clock_of-rises}
use Rattle.fsb_laws.specs.OneMore.{cancels}
use Rattle.fsb_laws.specs.Leaving.{leaves}
use Rattle.fsb_heads.specs.Heads.{snooped_count}
use Rattle.fsb_queue.specs.declared.entry.Entry.{Entry}
use Rattle.fsb_queue.specs.Entries.{with_outcome, settled_at, without}
use Rattle.fsb_phase.specs.declared.drive.Phased.{Phased}
use Rattle.fsb_phase.specs.declared.phases.Phases.{Phases}
use Rattle.fsb_phase.specs.Due.{rank_of}
use Rattle.fsb_phase.specs.Drive.{ends_snoop_at, has_end_at, phased_at}
use Rattle.fsb_phase.specs.Phases.{Stands, MayTake}
use Rattle.fsb_phase.proofs.Interface.{Found, if_passes, find-cases, find-place, find-off, find-first, placed}
use Rattle.fsb_phase.proofs.Interface.{outcome_reached, reached_before, not_reached_from, number_stays, Step, no_end}
use Rattle.fsb_phase.proofs.Interface.{unended_after}
use Rattle.fsb_flight.specs.GoesOn.{settles, stays_in_flight, goes_on, Rising}
use Rattle.fsb_flight.specs.Steps.{settle_first, number_before, without_if, cancel_before, begun_list, queue_after}
use Rattle.fsb_flight.proofs.QueueStep.{map_from, is_next, step_at, settles_clock, settles_not, settles_now}
use Rattle.fsb_flight.proofs.ListSteps.{settle_first-at}

-- a function that changes no entry
unchanged : (f : Entry → Entry) (es : List Entry) → ((j : ℕ) (y : Entry) → slice_get es j ≡ Some y → f y ≡ y)
    → es ≡ map f es
unchanged f [] same = refl
unchanged f (z ∷ zs) same =
    ap (λ w. w ∷ zs) (sym (same 0 z refl)) ∙ ap (λ ws. f z ∷ ws) (unchanged f zs (λ j y g. same (suc j) y g))

-- a function that changes one place alone
changed_at : (f : Entry → Entry) (o : Outcome) (es : List Entry) (k : ℕ) (e : Entry) → slice_get es k ≡ Some e
    → f e ≡ with_outcome o e → ((j : ℕ) (y : Entry) → (j ≡ k → ⊥) → slice_get es j ≡ Some y → f y ≡ y)
    → settled_at k o es ≡ map f es
unfolding settled_at
changed_at f o [] k e g s same = absurd (let none : ⊥ = cc in none)
changed_at f o (z ∷ zs) zero e g s same =
    let one : z ≡ e = cc in
    let first : f z ≡ with_outcome o z = ap f one ∙ s ∙ ap (with_outcome o) (sym one) in
    ap (λ w. w ∷ zs) (sym first) ∙ ap (λ ws. f z ∷ ws) (unchanged f zs (λ j y g. same (suc j) y (λ q. omega arith) g))
changed_at f o (z ∷ zs) (suc k) e g s same =
    ap (λ w. w ∷ settled_at k o zs) (sym (same 0 z (λ q. omega arith) refl))
    ∙ ap (λ ws. f z ∷ ws) (changed_at f o zs k e g s (λ j y other h. same (suc j) y (λ q. other (omega arith)) h))

not_both : (v : Trace) (n : ℕ) (y : Entry) → (ends_snoop_at v n y ≡ true → ⊥) → ends_snoop_at v n y ≡ false
not_both v n y f = elim (cases_Bool (ends_snoop_at v n y)) [ inl t ↦ absurd (f t) | inr g ↦ g ]

-- the entry whose snoop ends is the first without an outcome
settled_one : (p : Phases) (h : Trace) (x : Sample) (queue : List Entry) (o : Outcome) (e s : ℕ)
    → Step p h x (h ++ x ∷ []) queue e s → (k : Found (ends_snoop_at (h ++ x ∷ []) (length h)) queue)
    → settle_first o queue ≡ map (settles h x o) queue
settled_one p h x queue o e s st k =
    let v : Trace = h ++ x ∷ [] in
    let here = placed h queue e k.place k.item st.meets.flight st.meets.ends k.at in
    let same : e + k.place ≡ s = is_next p h x queue e s k.place k.item st here k.passes in
    let set = st.meets.flight.settled k.place k.item k.at in
    let none : is_none k.item.outcome ≡ true =
    outcome_reached h k.item set.0 (e + k.place) set.1 here.number
    ∙ not_reached_from h s (e + k.place) st.meets.snoops (omega arith) in
    settle_first-at o queue k.place k.item k.at none
    (λ j y l g.
    let there = placed h queue e j y st.meets.flight st.meets.ends g in
    let set' = st.meets.flight.settled j y g in
    outcome_reached h y set'.0 (e + j) set'.1 there.number ∙ reached_before h s (e + j) st.meets.snoops (omega arith))
    ∙ changed_at (settles h x o) o queue k.place k.item k.at (settles_now h x o k.item k.passes)
    (λ j y other g.
    let there = placed h queue e j y st.meets.flight st.meets.ends g in
    settles_not h x o y
    (not_both v (length h) y (λ t. other (let two : e + j ≡ s = is_next p h x queue e s j y st there t in
    omega arith))))

some_number : (o : Option Entry) → is_some (option_map (λ e. e.number) o) ≡ is_some o
some_number None = refl
some_number (Some e) = refl

settle_is : (p : Phases) (h : Trace) (x : Sample) (queue : List Entry) (o : Outcome) (e s : ℕ)
    → Step p h x (h ++ x ∷ []) queue e s
    → cond (is_some (find (ends_snoop_at (h ++ x ∷ []) (length h)) queue)) (settle_first o queue) queue
    ≡ map (settles h x o) queue
settle_is p h x queue o e s st =
    let v : Trace = h ++ x ∷ [] in
    elim (find-cases (ends_snoop_at v (length h)) queue) [
      | inl k ↦
          ap (λ a. cond (is_some a) (settle_first o queue) queue)
          (find-place (ends_snoop_at v (length h)) queue k.place k.item k.at k.passes k.before)
          ∙ settled_one p h x queue o e s st k
      | inr f ↦
          ap (λ a. cond (is_some a) (settle_first o queue) queue) (find-off (ends_snoop_at v (length h)) queue f)
          ∙ unchanged (settles h x o) queue (λ j y g. settles_not h x o y (f j y g))
    ]

-- the entry that ends is the first
ends_later : (p : Phases) (h : Trace) (x : Sample) (queue : List Entry) (e s j : ℕ) (y : Entry)
    → Step p h x (h ++ x ∷ []) queue e s → 0 < j → slice_get queue j ≡ Some y
    → has_end_at (h ++ x ∷ []) (length h) y ≡ false
ends_later p h x queue e s j y st l g =
    let v : Trace = h ++ x ∷ [] in
    let here = placed h queue e j y st.meets.flight st.meets.ends g in
    let number : rank_of v y ≡ e + j = number_stays h x v e j y st.more st.stands.orderly.spaced here in
    no_end v (length h) y (ap (end_of v) number ∙ unended_after st (e + j) (omega arith))

-- whether the request that begins at q ends at n
abbrev ends_clock : Trace → ℕ → ℕ → Bool
ends_clock v n q = is_live v q && is_at (end_of v (live_number_of v q)) n

keep_one : (t : Entry → Bool) (z : Entry) (zs : List Entry) → t z ≡ true → filter t (z ∷ zs) ≡ z ∷ filter t zs
keep_one t z zs e = ap (λ b. cond b (z ∷ filter t zs) (filter t zs)) e

drop_one : (t : Entry → Bool) (z : Entry) (zs : List Entry) → t z ≡ false → filter t (z ∷ zs) ≡ filter t zs
drop_one t z zs e = ap (λ b. cond b (z ∷ filter t zs) (filter t zs)) e

mapped_stay : (r : ℕ → Bool) (f : Entry → Entry) (es : List Entry) → ((y : Entry) → (f y).clock ≡ y.clock)
    → ((j : ℕ) (y : Entry) → slice_get es j ≡ Some y → r y.clock ≡ false)
    → filter (λ e. not (r e.clock)) (map f es) ≡ map f es
mapped_stay r f [] c g = refl
mapped_stay r f (z ∷ zs) c g =
    keep_one (λ e. not (r e.clock)) (f z) (map f zs) (ap (λ q. not (r q)) (c z) ∙ ap not (g 0 z refl))
    ∙ ap (λ w. f z ∷ w) (mapped_stay r f zs c (λ j y a. g (suc j) y a))

head_leaves : (r : ℕ → Bool) (f : Entry → Entry) (es : List Entry) → ((y : Entry) → (f y).clock ≡ y.clock)
    → ((j : ℕ) (y : Entry) → 0 < j → slice_get es j ≡ Some y → r y.clock ≡ false)
    → cond (is_some (if_passes (λ y. r y.clock) (slice_get es 0))) (drop 1 (map f es)) (map f es)
    ≡ filter (λ e. not (r e.clock)) (map f es)
head_leaves r f [] c later = refl
head_leaves r f (z ∷ zs) c later =
    let rest : filter (λ e. not (r e.clock)) (map f zs) ≡ map f zs =
    mapped_stay r f zs c (λ j y g. later (suc j) y (omega arith) g) in
    let test : not (r (f z).clock) ≡ not (r z.clock) = ap (λ q. not (r q)) (c z) in
    elim (cases_Bool (r z.clock)) [
      | inl t ↦
          ap (λ b. cond (is_some (cond b (Some z) None)) (map f zs) (f z ∷ map f zs)) t
          ∙ sym (drop_one (λ e. not (r e.clock)) (f z) (map f zs) (test ∙ ap not t) ∙ rest)
      | inr u ↦
          ap (λ b. cond (is_some (cond b (Some z) None)) (map f zs) (f z ∷ map f zs)) u
          ∙ sym (keep_one (λ e. not (r e.clock)) (f z) (map f zs) (test ∙ ap not u) ∙ ap (λ w. f z ∷ w) rest)
    ]

leave_is : (p : Phases) (h : Trace) (x : Sample) (queue : List Entry) (o : Outcome) (e s : ℕ)
    → Step p h x (h ++ x ∷ []) queue e s
    → cond (is_some (find (has_end_at (h ++ x ∷ []) (length h)) queue)) (drop 1 (map (settles h x o) queue))
    (map (settles h x o) queue) ≡ filter (λ y. not (ends_clock (h ++ x ∷ []) (length h) y.clock))
    (map (settles h x o) queue)
unfolding has_end_at
leave_is p h x queue o e s st =
    let v : Trace = h ++ x ∷ [] in
    ap (λ a. cond (is_some a) (drop 1 (map (settles h x o) queue)) (map (settles h x o) queue))
    (find-first (has_end_at v (length h)) queue (λ j y l g. ends_later p h x queue e s j y st l g))
    ∙ head_leaves (ends_clock v (length h)) (settles h x o) queue (settles_clock h x o)
    (λ j y l g. ends_later p h x queue e s j y st l g)

-- clocks and numbers that rise
record Apart (es : List Entry) : Type 0 where
  clock : (j k : ℕ) (e f : Entry) → j < k → slice_get es j ≡ Some e → slice_get es k ≡ Some f → e.clock < f.clock
  number : (j k : ℕ) (e f : Entry) → j < k → slice_get es j ≡ Some e → slice_get es k ≡ Some f → e.number < f.number

apart_tail : (z : Entry) (zs : List Entry) → Apart (z ∷ zs) → Apart zs
apart_tail z zs a = record {
  clock = λ j k e f l g h. a.clock (suc j) (suc k) e f (omega arith) g h;
  number = λ j k e f l g h. a.number (suc j) (suc k) e f (omega arith) g h;
}

-- the first entry that began three clocks before n is the only one
found_later : (n k : ℕ) (es : List Entry) → number_before n es ≡ Some k
    → (j : ℕ) × (e : Entry) × (slice_get es j ≡ Some e) × (e.number ≡ k)
unfolding number_before
found_later n k [] e = absurd (let none : ⊥ = cc in none)
found_later n k (z ∷ zs) e =
    elim (cases_Bool (nat_eq (z.clock + 3) n)) [
      | inl t ↦ (
        0,
        z,
        refl,
        (let one : Some z.number ≡ Some k = sym (ap (λ b. cond b (Some z.number) (number_before n zs)) t) ∙ e in cc),
      )
      | inr f ↦
          let r = found_later n k zs (sym (ap (λ b. cond b (Some z.number) (number_before n zs)) f) ∙ e) in
          (suc r.0, r.1, r.2, r.3)
    ]

none_before : (n : ℕ) (es : List Entry) → number_before n es ≡ None → filter (λ e. not (nat_eq (e.clock + 3) n)) es ≡ es
unfolding number_before
none_before n [] e = refl
none_before n (z ∷ zs) e =
    elim (cases_Bool (nat_eq (z.clock + 3) n)) [
      | inl t ↦ absurd (let one : Some z.number ≡ None =
          sym (ap (λ b. cond b (Some z.number) (number_before n zs)) t) ∙ e in (let none : ⊥ = cc in none))
      | inr f ↦
          keep_one (λ y. not (nat_eq (y.clock + 3) n)) z zs (ap not f)
          ∙ ap (λ w. z ∷ w) (none_before n zs (sym (ap (λ b. cond b (Some z.number) (number_before n zs)) f) ∙ e))
    ]

others_stay : (n : ℕ) (es : List Entry)
    → ((j : ℕ) (y : Entry) → slice_get es j ≡ Some y → nat_eq (y.clock + 3) n ≡ false)
    → filter (λ e. not (nat_eq (e.clock + 3) n)) es ≡ es
others_stay n [] f = refl
others_stay n (z ∷ zs) f =
    keep_one (λ y. not (nat_eq (y.clock + 3) n)) z zs (ap not (f 0 z refl))
    ∙ ap (λ w. z ∷ w) (others_stay n zs (λ j y g. f (suc j) y g))

one_before : (n k : ℕ) (es : List Entry) → Apart es → number_before n es ≡ Some k
    → without k es ≡ filter (λ e. not (nat_eq (e.clock + 3) n)) es
unfolding number_before without
one_before n k [] a e = refl
one_before n k (z ∷ zs) a e =
    elim (cases_Bool (nat_eq (z.clock + 3) n)) [
      | inl t ↦
          let own : z.number ≡ k =
          (let one : Some z.number ≡ Some k = sym (ap (λ b. cond b (Some z.number) (number_before n zs)) t)
          ∙ e in cc) in
          let at : z.clock + 3 ≡ n = eqb-true (z.clock + 3) n t in
          ap (λ b. cond b zs (z ∷ without k zs)) (eq-eqb z.number k own)
          ∙ sym (drop_one (λ y. not (nat_eq (y.clock + 3) n)) z zs (ap not t)
          ∙ others_stay n zs
          (λ j y g. ne_eqb (y.clock + 3) n
          (λ same. (let more = a.clock 0 (suc j) z y (omega arith) refl g in omega arith))))
      | inr f ↦
          let later : number_before n zs ≡ Some k = sym (ap (λ b. cond b (Some z.number) (number_before n zs)) f) ∙ e in
          let r = found_later n k zs later in
          let more = a.number 0 (suc r.0) z r.1 (omega arith) refl r.2 in
          ap (λ b. cond b zs (z ∷ without k zs)) (ne_eqb z.number k (λ same. omega (arith, r.3, more)))
          ∙ ap (λ w. z ∷ w) (one_before n k zs (apart_tail z zs a) later)
          ∙ sym (keep_one (λ y. not (nat_eq (y.clock + 3) n)) z zs (ap not f))
    ]

cancel_cases : (n : ℕ) (es : List Entry) (o : Option ℕ) → Apart es → number_before n es ≡ o
    → without_if o es ≡ filter (λ e. not (nat_eq (e.clock + 3) n)) es
unfolding without_if
cancel_cases n es None a e = sym (none_before n es e)
cancel_cases n es (Some k) a e = one_before n k es a e

cancel_is : (n : ℕ) (es : List Entry) → Apart es → cancel_before n es ≡ filter (λ e. not (nat_eq (e.clock + 3) n)) es
unfolding cancel_before
cancel_is n es a = cancel_cases n es (number_before n es) a refl

-- at an address error, or without one
no_error : (n : ℕ) (es : List Entry) → es ≡ filter (λ e. not (false && nat_eq (e.clock + 3) n)) es
no_error n [] = refl
no_error n (z ∷ zs) = ap (λ w. z ∷ w) (no_error n zs)

error_is : (b : Bool) (n : ℕ) (es : List Entry) → Apart es
    → cond b (cancel_before n es) es ≡ filter (λ e. not (b && nat_eq (e.clock + 3) n)) es
error_is true n es a = cancel_is n es a
error_is false n es a = no_error n es

or_top : (b : Bool) → not (b || true) ≡ false
or_top true = refl
or_top false = refl

both_kept : (t u : Entry → Bool) (z : Entry) (zs : List Entry)
    → filter (λ e. not (t e)) (filter (λ e. not (u e)) zs) ≡ filter (λ e. not (t e || u e)) zs → u z ≡ false
    → filter (λ e. not (t e)) (z ∷ filter (λ e. not (u e)) zs) ≡ filter (λ e. not (t e || u e)) (z ∷ zs)
both_kept t u z zs ih b =
    let test : (t z || u z) ≡ t z = ap (λ c. t z || c) b ∙ or-false (t z) in
    elim (cases_Bool (t z)) [
      | inl y ↦
          drop_one (λ e. not (t e)) z (filter (λ e. not (u e)) zs) (ap not y) ∙ ih
          ∙ sym (drop_one (λ e. not (t e || u e)) z zs (ap not (test ∙ y)))
      | inr n ↦
          keep_one (λ e. not (t e)) z (filter (λ e. not (u e)) zs) (ap not n) ∙ ap (λ w. z ∷ w) ih
          ∙ sym (keep_one (λ e. not (t e || u e)) z zs (ap not (test ∙ n)))
    ]

-- two filters in turn
both : (t u : Entry → Bool) (es : List Entry)
    → filter (λ e. not (t e)) (filter (λ e. not (u e)) es) ≡ filter (λ e. not (t e || u e)) es
both t u [] = refl
both t u (z ∷ zs) =
    elim (cases_Bool (u z)) [
      | inl a ↦
          ap (filter (λ e. not (t e))) (drop_one (λ e. not (u e)) z zs (ap not a)) ∙ both t u zs
          ∙ sym (drop_one (λ e. not (t e || u e)) z zs (ap (λ b. not (t z || b)) a
          ∙ (let top : not (t z || true) ≡ false = or_top (t z) in top)))
      | inr b ↦
          ap (filter (λ e. not (t e))) (keep_one (λ e. not (u e)) z zs (ap not b)) ∙ both_kept t u z zs (both t u zs) b
    ]

-- the entries of the queue lie apart, and so they do after the first steps
apart_queue : (p : Phases) (h : Trace) (x : Sample) (queue : List Entry) (e s : ℕ)
    → Step p h x (h ++ x ∷ []) queue e s → Rising queue → Apart queue
apart_queue p h x queue e s st r = record {
  clock = λ j k y z l g a.
      let one = placed h queue e j y st.meets.flight st.meets.ends g in
      let two = placed h queue e k z st.meets.flight st.meets.ends a in
      live_clock_of-rises h (e + j) (e + k) y.clock z.clock (omega arith) one.clock two.clock;
  number = r.rise;
}

pub settles_number : (h : Trace) (x : Sample) (o : Outcome) (e : Entry) → (settles h x o e).number ≡ e.number
unfolding settles
settles_number h x o e =
    elim (cases_Bool (ends_snoop_at (h ++ x ∷ []) (length h) e)) [ inl t ↦ (rw t refl) | inr f ↦ (rw f refl) ]

-- less, along two equations
pub less_along : (a b c d : ℕ) → a ≡ b → c ≡ d → b < d → a < c
less_along a b c d e f l = omega arith

apart_settled : (h : Trace) (x : Sample) (o : Outcome) (es : List Entry) → Apart es → Apart (map (settles h x o) es)
apart_settled h x o es a = record {
  clock = λ j k y z l g b.
      let one = map_from (settles h x o) es j y (slice_get es j) refl (sym (slice_get-map (settles h x o) es j) ∙ g) in
      let two = map_from (settles h x o) es k z (slice_get es k) refl (sym (slice_get-map (settles h x o) es k) ∙ b) in
      less_along _ _ _ _ (ap (λ w. w.clock) (sym one.2) ∙ settles_clock h x o one.0)
      (ap (λ w. w.clock) (sym two.2) ∙ settles_clock h x o two.0) (a.clock j k one.0 two.0 l one.1 two.1);
  number = λ j k y z l g b.
      let one = map_from (settles h x o) es j y (slice_get es j) refl (sym (slice_get-map (settles h x o) es j) ∙ g) in
      let two = map_from (settles h x o) es k z (slice_get es k) refl (sym (slice_get-map (settles h x o) es k) ∙ b) in
      less_along _ _ _ _ (ap (λ w. w.number) (sym one.2) ∙ settles_number h x o one.0)
      (ap (λ w. w.number) (sym two.2) ∙ settles_number h x o two.0) (a.number j k one.0 two.0 l one.1 two.1);
}

apart_left : (b : Bool) (es : List Entry) → Apart es → Apart (cond b (drop 1 es) es)
apart_left true [] a = a
apart_left true (z ∷ zs) a = apart_tail z zs a
apart_left false es a = a

stays_form : (h : Trace) (x : Sample) (es : List Entry)
    → filter (λ e. not ((has_line x AERR && nat_eq (e.clock + 3) (length h))
    || ends_clock (h ++ x ∷ []) (length h) e.clock)) es ≡ filter (stays_in_flight h x) es
unfolding stays_in_flight leaves cancels
stays_form h x es = refl

kept_by : (h : Trace) (x : Sample) (ys left : List Entry) → Apart left
    → left ≡ filter (λ y. not (ends_clock (h ++ x ∷ []) (length h) y.clock)) ys
    → cond (has_line x AERR) (cancel_before (length h) left) left ≡ filter (stays_in_flight h x) ys
kept_by h x ys left a e =
    error_is (has_line x AERR) (length h) left a
    ∙ ap (filter (λ y. not (has_line x AERR && nat_eq (y.clock + 3) (length h)))) e
    ∙ both (λ y. has_line x AERR && nat_eq (y.clock + 3) (length h))
    (λ y. ends_clock (h ++ x ∷ []) (length h) y.clock) ys
    ∙ stays_form h x ys

steps_are : (p : Phases) (h : Trace) (x : Sample) (queue : List Entry) (o : Outcome) (begun : Option Entry)
    (e s : ℕ) → Step p h x (h ++ x ∷ []) queue e s → Rising queue
    → queue_after (length h) (phased_at (h ++ x ∷ []) (length h) queue) o (has_line x AERR) begun queue
    ≡ goes_on h x o queue ++ begun_list begun
unfolding queue_after phased_at goes_on
steps_are p h x queue o begun e s st r =
    let v : Trace = h ++ x ∷ [] in
    let n : ℕ = length h in
    let sn : Bool = is_some (find (ends_snoop_at v n) queue) in
    let en : Bool = is_some (find (has_end_at v n) queue) in
    let ys : List Entry = map (settles h x o) queue in
    let first : cond sn (settle_first o queue) queue ≡ ys = settle_is p h x queue o e s st in
    let left : List Entry = cond en (drop 1 ys) ys in
    ap (λ b. cond (has_line x AERR)
    (cancel_before n (cond (is_some (option_map (λ y. y.number) (find (has_end_at v n) queue)))
    (drop 1 (cond b (settle_first o queue) queue)) (cond b (settle_first o queue) queue)))
    (cond (is_some (option_map (λ y. y.number) (find (has_end_at v n) queue)))
    (drop 1 (cond b (settle_first o queue) queue)) (cond b (settle_first o queue) queue))
    ++ begun_list begun) (some_number (find (ends_snoop_at v n) queue))
    ∙ ap (λ b. cond (has_line x AERR)
    (cancel_before n (cond b (drop 1 (cond sn (settle_first o queue) queue))
    (cond sn (settle_first o queue) queue)))
    (cond b (drop 1 (cond sn (settle_first o queue) queue)) (cond sn (settle_first o queue) queue))
    ++ begun_list begun) (some_number (find (has_end_at v n) queue))
    ∙ ap (λ w. cond (has_line x AERR) (cancel_before n (cond en (drop 1 w) w)) (cond en (drop 1 w) w)
    ++ begun_list begun) first
    ∙ ap (λ w. w ++ begun_list begun)
    (kept_by h x ys left (apart_left en ys (apart_settled h x o queue (apart_queue p h x queue e s st r)))
    (leave_is p h x queue o e s st))

-- the steps of a clock make of the queue what it has to hold
pub queue_after-is : (p : Phases) (h : Trace) (clock : ℕ) (x : Sample) (queue : List Entry) (turns : List ℕ)
    (phased : Phased) (o : Outcome) (error : Bool) (begun : Option Entry) → Stands p h
    → MayTake clock x queue turns h → Rising queue → phased ≡ phased_at (h ++ x ∷ []) clock queue
    → error ≡ has_line x AERR → queue_after clock phased o error begun queue ≡ goes_on h x o queue ++ begun_list begun
queue_after-is p h clock x queue turns phased o error begun k t r f e =
    let st = step_at p h x queue turns k t.flight t.answers t.spaced in
    ap (λ q. queue_after clock q o error begun queue) f
    ∙ ap (λ b. queue_after clock (phased_at (h ++ x ∷ []) clock queue) o b begun queue) e
    ∙ ap (λ n. queue_after n (phased_at (h ++ x ∷ []) n queue) o (has_line x AERR) begun queue) t.clock_is
    ∙ steps_are p h x queue o begun st.0 (snooped_count h) st.1 r
