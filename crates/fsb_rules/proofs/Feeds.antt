-- The checker stands for the empty history, and for a history with a new sample.
use Rattle.std.proofs.Common.{ℕ, ◌≡◌, true, false, cond, Option, Some, None, [], length, nat_lt, refl, sym}
use Rattle.std.proofs.Common.{subst, ap, ◌∙◌, arith, ◌+◌, not, ◌&&◌, nat_eq, ◌∷◌, ◌++◌, inl, inr}
use Rattle.std.proofs.Common.{is_some}
use Rattle.std.proofs.lemmas.Bool.{both_ways, cases_Bool, and_parts, not-false, ne_eqb}
use Rattle.std.specs.Option.{option_map}
use Rattle.fsb_count.specs.Clocks.{first_where}
use Rattle.fsb_count.specs.Options.{is_some_and}
use Rattle.fsb_count.proofs.Interface.{nth_where-found, first_where-off}
use Rattle.fsb_signal.specs.declared.lines.TheConstants.Lines.{ADS}
use Rattle.fsb_signal.specs.declared.marks.Marks.{Marks}
use Rattle.fsb_signal.specs.Samples.{line_at}
use Rattle.fsb_signal.proofs.Interface.{line_at-past}
use Rattle.fsb_signal.specs.declared.sample.Sample.{Sample}
use Rattle.fsb_trace.specs.At.{line_back, Trace, responds_at, response_code_at}
use Rattle.fsb_trace.specs.Verdict.{verdict, is_broken, least_rule, breaks_a_rule}
use Rattle.fsb_trace.proofs.Interface.{breaks-14, breaks-18, breaks-3}
use Rattle.fsb_trace.proofs.Interface.{live_response_of-is}
use Rattle.fsb_trace.proofs.Interface.{AgreeTo-less, breaks_a_rule-agree, verdict-least, verdict-none, verdict-stays}
use Rattle.fsb_trace.specs.Requests.{live_request_of, is_reply, live_count}
use Rattle.fsb_trace.specs.Outcome.{outcome_of, is_deferred, is_deferral, told_by, response_code_of}
use Rattle.fsb_trace.specs.Outcome.{response_clock_of, live_response_of}
use Rattle.fsb_trace.specs.Rules.{is_code_wrong, responds_soundly, has_code_at}
use Rattle.fsb_trace.specs.Rules.{is_code_for, next_response}
use Rattle.fsb_arbiter.specs.Arbiter.{Stands as ArbiterStands}
use Rattle.fsb_laws.proofs.Interface.{orderly-empty, response_counted, response_count-empty}
use Rattle.fsb_laws.proofs.Interface.{deferred_response, one_more, next_response-new}
use Rattle.fsb_laws.proofs.Interface.{live_request_of-old, newly_deferred, first_where-next}
use Rattle.fsb_laws.specs.OneMore.{OneMore}
use Rattle.fsb_rules.specs.declared.checker.Checker.{Checker}
use Rattle.fsb_rules.specs.Recent.{RecentStands}
use Rattle.fsb_rules.specs.InFlight.{Brings, InFlightStands}
use Rattle.fsb_rules.specs.Outstanding.{Few, Happens, OutstandingStands, Takes}
use Rattle.fsb_rules.specs.Checker.{Comes, Follows, Stands, as_broken, beginner_of, Identified, Deferrable}
use Rattle.fsb_rules.proofs.OpenRoom.{few_empty, few_fit, few_goes}
use Rattle.fsb_rules.specs.declared.live.LiveRequest.{LiveRequest}
use Rattle.fsb_rules.specs.declared.outstanding.Happened.{Happened}
use Rattle.fsb_rules.specs.LeastRule.{begun_at}
use Rattle.fsb_rules.proofs.LeastRule.{IsUnbroken, brings, own_unbroken}
use Rattle.fsb_rules.proofs.LeastRule.{told_deferral as told_deferral_parts, deferral_no_reply}
use Rattle.fsb_rules.proofs.LeastRule.{unbroken}
use Rattle.fsb_laws.specs.Orderly.{Orderly}
use Rattle.fsb_rules.proofs.QueueRules.{orderly_after}
use Rattle.fsb_rules.specs.declared.broken.Broken.{Broken}
use Rattle.fsb_rules.proofs.StartRules.{decoded_goes, identified_goes}

-- what the code makes
pub record IsNew (k : Checker) : Type 0 where
  pub found : k.found ≡ None
  pub clock : k.clock ≡ 0
  pub recent : RecentStands k.recent []
  pub arbiter : ArbiterStands k.arbiter []
  pub beginner : k.beginner ≡ None
  pub queue : InFlightStands k.queue []
  pub outstanding : OutstandingStands k.outstanding []

no_ads : (q : ℕ) → line_at ADS [] q ≡ true → ⊥
no_ads q t = both_ways _ (line_at-past ADS [] q (omega arith)) t

new_follows : (k : Checker) → IsNew k → Follows k []
unfolding beginner_of line_back
new_follows k n =
    record {
      orderly = orderly-empty;
      decoded = record { there = λ q t l. absurd (no_ads q t) };
      identified = record { own = λ q r t e. absurd (no_ads q t) };
      deferrable =
          record {
            no_reply = λ i t. absurd (let d = deferred_response [] i t in
                let l = response_counted [] i d.0 d.1 in let z = response_count-empty in omega arith);
          };
      few = few_empty;
      clock = n.clock;
      recent = n.recent;
      arbiter = n.arbiter;
      beginner = n.beginner;
      queue = n.queue;
      outstanding = n.outstanding;
    }

nothing_found : (marks : Marks) → None ≡ as_broken (verdict marks [])
unfolding as_broken verdict first_where
nothing_found marks = refl

pub new_stands : (k : Checker) (marks : Marks) → IsNew k → k.marks ≡ marks → Stands k marks []
new_stands k marks n e = record { marked = e; found = n.found ∙ nothing_found marks; follows = λ e. new_follows k n }

-- The checker follows the history with a sample that breaks no rule.

-- what the code leaves in the checker
pub record Absorbed (n : ℕ) (h : Trace) (x : Sample) (new : Checker) : Type 0 where
  pub clock : new.clock ≡ n + 1
  pub recent : RecentStands new.recent (h ++ x ∷ [])
  pub arbiter : ArbiterStands new.arbiter (h ++ x ∷ [])
  pub beginner : new.beginner ≡ beginner_of (h ++ x ∷ [])
  pub queue : InFlightStands new.queue (h ++ x ∷ [])
  pub outstanding : OutstandingStands new.outstanding (h ++ x ∷ [])

-- and no reply among them is Deferred
code_fits : (v : Trace) (n i : ℕ) → is_code_wrong v n ≡ false → next_response v n ≡ i → responds_at v n ≡ true
    → nat_eq (response_code_at v n) 4 ≡ false → is_code_for v i (response_code_at v n) ≡ true
unfolding is_code_wrong responds_soundly response_code_of has_code_at
code_fits v n i f e t c =
    let g : ((true && not false) && not (nat_lt i (live_count v) && is_code_for v i (response_code_at v n)))
    ≡ false = rw (e, t, c) at f in
    (and_parts _ _ (not-false _ g)).1

told_cases : (v : Trace) (n i : ℕ) (o : Option ℕ) → live_response_of v i ≡ o → response_clock_of v i ≡ Some n
    → is_deferred v i ≡ true → is_deferral (told_by v i (response_code_at v n)) ≡ true
unfolding is_deferred outcome_of is_some_and
told_cases v n i None f e t = absurd (let g : false ≡ true = rw f at t in let no : ⊥ = cc in no)
told_cases v n i (Some r) f e t =
    let there = live_response_of-is v i r f in
    let same : r ≡ n = cc in
    subst (λ c. is_deferral (told_by v i (response_code_at v c)) ≡ true) same (let g = rw f at t in g)

told_deferral : (v : Trace) (n i : ℕ) → response_clock_of v i ≡ Some n → is_deferred v i ≡ true
    → is_deferral (told_by v i (response_code_at v n)) ≡ true
told_deferral v n i e t = told_cases v n i (live_response_of v i) refl e t

no_failure : (v : Trace) (i code : ℕ) → is_deferral (told_by v i code) ≡ true → nat_eq code 4 ≡ false
no_failure v i code t = let p = (told_deferral_parts v i code t).1 in ne_eqb code 4 (λ e. omega arith)

responds_there : (v : Trace) (i n : ℕ) → response_clock_of v i ≡ Some n → responds_at v n ≡ true
unfolding response_clock_of
responds_there v i n e = (nth_where-found (responds_at v) i (length v) n e).1

newly_no_reply : (v : Trace) (n i : ℕ) → response_clock_of v i ≡ Some n → is_deferred v i ≡ true
    → is_code_wrong v n ≡ false → next_response v n ≡ i → is_reply (live_request_of v i) ≡ false
newly_no_reply v n i e t f next =
    let told = told_deferral v n i e t in
    deferral_no_reply v i (response_code_at v n) told
    (code_fits v n i f next (responds_there v i n e) (no_failure v i (response_code_at v n) told))

module _ {k : Checker} {h : Trace} {x : Sample} {v : Trace} (f : Follows k h) (m : OneMore h x v) where
  deferrable_goes : is_code_wrong v (length h) ≡ false → Deferrable v
  deferrable_goes code =
      record {
        no_reply = λ i t.
            elim (cases_Bool (is_deferred h i)) [
              | inl old ↦
                  let d = deferred_response h i old in
                  ap is_reply (live_request_of-old h x v i m f.orderly
                  (response_counted h i d.0 d.1)) ∙ f.deferrable.no_reply i old
              | inr new ↦
                  let n = newly_deferred h x v i m f.orderly new t in
                  newly_no_reply v (length h) i n.response t code (next_response-new h x v m ∙ sym n.number)
            ];
      }

-- a sample that comes and breaks no rule
module _ {k : Checker} {h : Trace} {x : Sample} {n : ℕ} {b : Option LiveRequest} (c : Comes k n x b h)
    (e : least_rule k.marks (h ++ x ∷ []) (length h) ≡ None) where
  still : IsUnbroken k.marks (h ++ x ∷ []) (length h)
  still = unbroken k.marks (h ++ x ∷ []) (length h) (one_more h x).size e

  pub brings_now : Brings k.queue n x b h
  brings_now = brings c still

  after : Orderly (h ++ x ∷ [])
  after = orderly_after brings_now.in_time

  identified_after : Identified (h ++ x ∷ [])
  identified_after =
      identified_goes (one_more h x) c.follows.identified (own_unbroken k.marks (h ++ x ∷ []) (length h) still)

  few_after : Few (h ++ x ∷ [])
  few_after =
      few_goes (one_more h x) c.follows.orderly after
      (sym (breaks-18 k.marks (h ++ x ∷ []) (length h)) ∙ still.sound 18 (omega arith))
      c.follows.few

  pub outstanding_takes : (w : Happened) → Happens h x (h ++ x ∷ []) w → Takes k.outstanding h x w
  outstanding_takes w happens = record {
    stands = c.follows.outstanding;
    happens = happens;
    room = few_fit (h ++ x ∷ []) identified_after few_after;
  }

  pub checker_follows : (new : Checker) → Absorbed n h x new → Follows new (h ++ x ∷ [])
  checker_follows new r =
      record {
        orderly = after;
        decoded = decoded_goes (one_more h x) c.follows.decoded
            (sym (breaks-3 k.marks (h ++ x ∷ []) (length h)) ∙ still.sound 3 (omega arith));
        identified = identified_after;
        deferrable = deferrable_goes c.follows (one_more h x)
            (sym (breaks-14 k.marks (h ++ x ∷ []) (length h)) ∙ still.sound 14 (omega arith));
        few = few_after;
        clock = r.clock ∙ ap (λ i. i + 1) c.clock ∙ sym (one_more h x).size;
        recent = r.recent;
        arbiter = r.arbiter;
        beginner = r.beginner;
        queue = r.queue;
        outstanding = r.outstanding;
      }

-- What the checker answers, and what it stands for, after one sample more.

-- a verdict stays
pub verdict_kept : (marks : Marks) (h : Trace) (x : Sample) (v : Trace) (p : Option (ℕ × ℕ)) → OneMore h x v
    → verdict marks h ≡ p → is_some p ≡ true → verdict marks v ≡ p
verdict_kept marks h x v None m e t = absurd (let no : ⊥ = cc in no)
verdict_kept marks h x v (Some p) m e t =
    let l = (verdict-least marks h p.0 p.1 e).0 in verdict-stays (length h) marks h v p.0 p.1 m.agree l e

-- without one, the new clock decides
not_foul : (marks : Marks) (h : Trace) (c : ℕ) → verdict marks h ≡ None → breaks_a_rule marks h c ≡ false
unfolding breaks_a_rule least_rule
not_foul marks h c e = ap (λ o. is_some o)
    (first_where-off (is_broken marks h c) 21 (λ j l. verdict-none marks h e c j l))

foul_next : (marks : Marks) (h : Trace) (x : Sample) (v : Trace) → OneMore h x v → verdict marks h ≡ None
    → first_where (breaks_a_rule marks v) (length v) ≡ cond (breaks_a_rule marks v (length h)) (Some (length h)) None
foul_next marks h x v m e =
    let none : first_where (breaks_a_rule marks v) (length h) ≡ None =
    first_where-off (breaks_a_rule marks v) (length h)
    (λ c l. sym (breaks_a_rule-agree marks h v c
    (AgreeTo-less (length h) (c + 1) h v (omega arith) m.agree)) ∙ not_foul marks h c e) in
    ap (first_where (breaks_a_rule marks v)) m.size ∙ first_where-next (breaks_a_rule marks v) (length h) none

next_cases : (marks : Marks) (v : Trace) (n : ℕ) (o : Option ℕ) → least_rule marks v n ≡ o
    → first_where (breaks_a_rule marks v) (length v) ≡ cond (is_some o) (Some n) None
    → verdict marks v ≡ option_map {U = ℕ × ℕ} (λ j. (n, j)) o
unfolding verdict
next_cases marks v n None e f = rw f refl
next_cases marks v n (Some j) e f = rw (f, e) refl

foul_form : (marks : Marks) (v : Trace) (n : ℕ)
    → cond (breaks_a_rule marks v n) (Some n) None ≡ cond (is_some (least_rule marks v n)) (Some n) None
unfolding breaks_a_rule
foul_form marks v n = refl

pub verdict_next : (marks : Marks) (h : Trace) (x : Sample) (v : Trace) → OneMore h x v → verdict marks h ≡ None
    → verdict marks v ≡ option_map {U = ℕ × ℕ} (λ j. (length h, j)) (least_rule marks v (length h))
verdict_next marks h x v m e = next_cases marks v (length h) (least_rule marks v (length h)) refl
    (foul_next marks h x v m e ∙ foul_form marks v (length h))

-- what was found
some_broken : (p : Option (ℕ × ℕ)) (b : Broken) → as_broken p ≡ Some b → is_some p ≡ true
unfolding as_broken
some_broken None b e = absurd (let no : ⊥ = cc in no)
some_broken (Some p) b e = refl

-- where nothing is told broken there is no verdict
pub as_broken-none : (p : Option (ℕ × ℕ)) → as_broken p ≡ None → p ≡ None
unfolding as_broken
as_broken-none None e = refl
as_broken-none (Some p) e = absurd (let no : ⊥ = cc in no)

told : (o : Option ℕ) (n : ℕ) → as_broken (option_map {U = ℕ × ℕ} (λ j. (n, j)) o)
    ≡ option_map {U = Broken} (λ j. record { clock = n; rule = j }) o
unfolding as_broken
told None n = refl
told (Some j) n = refl

-- what was found stays
found_cases : {marks : Marks} {k : Checker} {h : Trace} (x : Sample) (o : Option Broken) → Stands k marks h
    → k.found ≡ o → is_some o ≡ true → Stands k marks (h ++ x ∷ [])
found_cases x None s e t = absurd (let no : ⊥ = cc in no)
found_cases {marks} {k} {h} x (Some b) s e t =
    record {
      marked = s.marked;
      found = s.found
          ∙ ap as_broken
          (sym (verdict_kept marks h x (h ++ x ∷ []) (verdict marks h) (one_more h x) refl
          (some_broken (verdict marks h) b (sym s.found ∙ e))));
      follows = λ n. absurd (let no : ⊥ = cc in no);
    }

pub was_found : {marks : Marks} {k : Checker} {h : Trace} (x : Sample) → Stands k marks h
    → is_some k.found ≡ true → Stands k marks (h ++ x ∷ [])
was_found {marks} {k} x s t = found_cases x k.found s refl t

module _ {marks : Marks} {k : Checker} {h : Trace} (x : Sample) (s : Stands k marks h) (none : k.found ≡ None) where
  pub comes : (b : Option LiveRequest) → b ≡ begun_at (h ++ x ∷ []) (length h) → Comes k k.clock x b h
  comes b e = record { follows = s.follows none; clock = (s.follows none).clock; begun = e }

  verdict_now : (o : Option ℕ) → least_rule k.marks (h ++ x ∷ []) (length h) ≡ o
      → as_broken (verdict marks (h ++ x ∷ []))
      ≡ option_map {U = Broken} (λ j. record { clock = length h; rule = j }) o
  verdict_now o e =
      ap as_broken (verdict_next marks h x (h ++ x ∷ []) (one_more h x)
      (as_broken-none (verdict marks h) (sym s.found ∙ none))
      ∙ ap (option_map {U = ℕ × ℕ} (λ j. (length h, j)))
      (ap (λ m. least_rule m (h ++ x ∷ []) (length h)) (sym s.marked) ∙ e))
      ∙ told o (length h)

  -- no rule is broken with the sample
  pub absorb_stands : (new : Checker) → least_rule k.marks (h ++ x ∷ []) (length h) ≡ None → new.marks ≡ k.marks
      → new.found ≡ k.found → Follows new (h ++ x ∷ []) → Stands new marks (h ++ x ∷ [])
  absorb_stands new e same found f = record {
    marked = same ∙ s.marked;
    found = found ∙ none ∙ sym (verdict_now None e);
    follows = λ n. f;
  }

  -- a rule that is broken with the sample
  pub broken_stands : (new : Checker) (j : ℕ) → least_rule k.marks (h ++ x ∷ []) (length h) ≡ Some j
      → new.marks ≡ k.marks → new.found ≡ Some (record { clock = k.clock; rule = j })
      → Stands new marks (h ++ x ∷ [])
  broken_stands new j e same found = record {
    marked = same ∙ s.marked;
    found = found ∙ ap (λ n. Some (record { clock = n; rule = j })) (s.follows none).clock
        ∙ sym (verdict_now (Some j) e);
    follows = λ n. absurd (let no : ⊥ = cc in no);
  }
