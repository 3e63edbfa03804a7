-- The numbers of the entries rise, one clock on.
use Rattle.std.proofs.Common.{ℕ, zero, suc, ◌<◌, ◌≡◌, Bool, cond, Option, Some, None, List, [], ◌∷◌, ◌++◌, map, filter}
use Rattle.std.proofs.Common.{refl, sym, ap, ◌∙◌, inl, inr, arith, subst}
use Rattle.std.specs.List.{slice_get}
use Rattle.std.proofs.lemmas.Bool.{cases_Bool}
use Rattle.std.proofs.lemmas.List.{append-nil}
use Rattle.std.proofs.lemmas.Option.{slice_get-map}
use Rattle.fsb_signal.specs.declared.sample.Sample.{Sample}
use Rattle.fsb_trace.specs.declared.outcome.Outcome.{Outcome}
use Rattle.fsb_trace.specs.At.{Trace}
use Rattle.fsb_queue.specs.declared.entry.Entry.{Entry}
use Rattle.fsb_flight.specs.GoesOn.{settles, stays_in_flight, goes_on, Rising, IsLater}
use Rattle.fsb_flight.specs.Steps.{begun_list}
use Rattle.fsb_flight.proofs.QueueStep.{filter_from, map_from, append_from}
use Rattle.fsb_flight.proofs.Taken.{settles_number, less_along}

rising_none : Rising []
rising_none = record { rise = λ j k e f l g h. absurd (let none : ⊥ = cc in none) }

rising_tail : (z : Entry) (zs : List Entry) → Rising (z ∷ zs) → Rising zs
rising_tail z zs r = record { rise = λ j k e f l g h. r.rise (suc j) (suc k) e f (omega arith) g h }

-- an entry in front of others with greater numbers
rise_with : (z : Entry) (zs : List Entry)
    → ((k : ℕ) (f : Entry) → slice_get zs k ≡ Some f → z.number < f.number) → Rising zs
    → (j k : ℕ) (e f : Entry) → j < k → slice_get (z ∷ zs) j ≡ Some e → slice_get (z ∷ zs) k ≡ Some f
    → e.number < f.number
rise_with z zs low r j zero e f l g h = absurd (omega arith)
rise_with z zs low r zero (suc k) e f l g h =
    let same : z ≡ e = cc in
    subst (λ w. w.number < f.number) same (low k f h)
rise_with z zs low r (suc j) (suc k) e f l g h = r.rise j k e f (omega arith) g h

rising_with : (z : Entry) (zs : List Entry)
    → ((k : ℕ) (f : Entry) → slice_get zs k ≡ Some f → z.number < f.number) → Rising zs → Rising (z ∷ zs)
rising_with z zs low r = record { rise = λ j k e f l g h. rise_with z zs low r j k e f l g h }

rising_filter : (t : Entry → Bool) (es : List Entry) → Rising es → Rising (filter t es)
rising_filter t [] r = rising_none
rising_filter t (z ∷ zs) r =
    let rest : Rising (filter t zs) = rising_filter t zs (rising_tail z zs r) in
    elim (cases_Bool (t z)) [
      | inl y ↦
          subst (λ b. Rising (cond b (z ∷ filter t zs) (filter t zs))) (sym y)
          (rising_with z (filter t zs) (λ k f g. let p = filter_from t zs k f g in
          r.rise 0 (suc p.0) z f (omega arith) refl p.1) rest)
      | inr n ↦ subst (λ b. Rising (cond b (z ∷ filter t zs) (filter t zs))) (sym n) rest
    ]

rising_settled : (h : Trace) (x : Sample) (o : Outcome) (es : List Entry) → Rising es → Rising (map (settles h x o) es)
rising_settled h x o es r = record {
  rise = λ j k y z l g b.
      let one = map_from (settles h x o) es j y (slice_get es j) refl (sym (slice_get-map (settles h x o) es j) ∙ g) in
      let two = map_from (settles h x o) es k z (slice_get es k) refl (sym (slice_get-map (settles h x o) es k) ∙ b) in
      less_along _ _ _ _ (ap (λ w. w.number) (sym one.2) ∙ settles_number h x o one.0)
      (ap (λ w. w.number) (sym two.2) ∙ settles_number h x o two.0)
      (r.rise j k one.0 two.0 l one.1 two.1);
}

last_one : (j : ℕ) (z e f : Entry) → z.number < e.number → slice_get (e ∷ []) j ≡ Some f → z.number < f.number
last_one zero z e f l g = let same : e ≡ f = cc in subst (λ w. z.number < w.number) same l
last_one (suc j) z e f l g = absurd (let none : ⊥ = cc in none)

rising_end : (es : List Entry) (e : Entry) → Rising es
    → ((j : ℕ) (f : Entry) → slice_get es j ≡ Some f → f.number < e.number) → Rising (es ++ e ∷ [])
rising_end [] e r low = rising_with e [] (λ k f g. absurd (let none : ⊥ = cc in none)) rising_none
rising_end (z ∷ zs) e r low =
    rising_with z (zs ++ e ∷ [])
    (λ k f g. elim (append_from zs (e ∷ []) k f g) [
      | inl old ↦ r.rise 0 (suc k) z f (omega arith) refl old
      | inr new ↦ last_one new.0 z e f (low 0 z refl) new.1
    ])
    (rising_end zs e (rising_tail z zs r) (λ j f g. low (suc j) f g))

-- each entry that goes on has the number of one of the queue
number_of_old : (h : Trace) (x : Sample) (o : Outcome) (queue : List Entry) (j : ℕ) (f : Entry)
    → slice_get (goes_on h x o queue) j ≡ Some f → (k : ℕ) × (z : Entry) × (slice_get queue k ≡ Some z)
    × (f.number ≡ z.number)
unfolding goes_on
number_of_old h x o queue j f g =
    let a = filter_from (stays_in_flight h x) (map (settles h x o) queue) j f g in
    let z = map_from (settles h x o) queue a.0 f (slice_get queue a.0) refl
    (sym (slice_get-map (settles h x o) queue a.0) ∙ a.1) in
    (a.0, z.0, z.1, ap (λ w. w.number) (sym z.2) ∙ settles_number h x o z.0)

rising_old : (h : Trace) (x : Sample) (o : Outcome) (queue : List Entry) → Rising queue → Rising (goes_on h x o queue)
unfolding goes_on
rising_old h x o queue r = rising_filter (stays_in_flight h x) (map (settles h x o) queue)
    (rising_settled h x o queue r)

-- and so they do after a clock
pub rising-goes_on : (h : Trace) (x : Sample) (o : Outcome) (begun : Option Entry) (queue : List Entry)
    → Rising queue → IsLater begun queue → Rising (goes_on h x o queue ++ begun_list begun)
unfolding begun_list
rising-goes_on h x o None queue r l = subst Rising (sym (append-nil (goes_on h x o queue))) (rising_old h x o queue r)
rising-goes_on h x o (Some e) queue r l =
    rising_end (goes_on h x o queue) e (rising_old h x o queue r)
    (λ j f g.
    let z = number_of_old h x o queue j f g in
    let low = l.later e z.1 z.0 refl z.2 in
    less_along _ _ _ _ z.3 refl low)
