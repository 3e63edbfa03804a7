-- The verdict of a judge, one sample on.
use Rattle.std.proofs.Common.{ℕ, ◌+◌, ◌≡◌, true, false, length, List, [], Option, Some, None, is_some, refl, sym, ap, ◌∙◌, ◌≤◌, arith}
use Rattle.std.proofs.Common.{Result, Ok, Err, IfOk, OnOk}
use Rattle.std.proofs.lemmas.Bool.{both_ways}
use Rattle.std.specs.Option.{option_map}
use Rattle.fsb_count.specs.Clocks.{any_where, count_where, first_where}
use Rattle.fsb_trace.specs.At.{Trace}
use Rattle.fsb_signal.specs.declared.sample.Sample.{Sample}
use Rattle.fsb_laws.specs.OneMore.{OneMore}
use Rattle.fsb_owners.specs.Joint.{Joint}
use Rattle.fsb_owners.specs.Least.{least_at}
use Rattle.fsb_owners.specs.Rules.{is_ownership_broken, ownership_verdict}
use Rattle.fsb_owner_laws.specs.OneClock.{or_at}
use Rattle.fsb_owner_laws.proofs.Interface.{verdict-more}
use Rattle.fsb_owner_judge.specs.declared.judge.OwnerBroken.{OwnerBroken}
use Rattle.fsb_owners.specs.Least.{least_broken}
use Rattle.fsb_owners.specs.Possible.{possible}
use Rattle.fsb_owners.specs.Shown.{is_spoiled}
use Rattle.fsb_trace.specs.Requests.{live_count}
use Rattle.fsb_owner_judge.specs.declared.judge.OwnerJudge.{OwnerJudge}
use Rattle.fsb_owner_judge.specs.Lines.{is_kept_spoiled, kept_of}
use Rattle.fsb_owner_judge.specs.Judge.{IsSettled, LinesStand, Stands, as_owner_broken}

stays_by : (first : List Joint) (h : Trace) (x : Sample) (v : Trace) (f : OwnerBroken) (o : Option (ℕ × ℕ)) → OneMore h x v
    → ownership_verdict first h ≡ o → Some f ≡ as_owner_broken o → Some f ≡ as_owner_broken (ownership_verdict first v)
unfolding as_owner_broken
stays_by first h x v f None m e s = absurd (let no : ⊥ = cc in no)
stays_by first h x v f (Some p) m e s =
    s ∙ sym (ap as_owner_broken (verdict-more first h x v m ∙ ap (or_at (is_ownership_broken first v) 32 (length h)) e))

-- what was found stays found
pub found-stays : (first : List Joint) (h : Trace) (x : Sample) (v : Trace) (f : OwnerBroken) → OneMore h x v
    → Some f ≡ as_owner_broken (ownership_verdict first h) → Some f ≡ as_owner_broken (ownership_verdict first v)
found-stays first h x v f m s = stays_by first h x v f (ownership_verdict first h) m refl s

none_by : (o : Option (ℕ × ℕ)) → None ≡ as_owner_broken o → o ≡ None
unfolding as_owner_broken
none_by None e = refl
none_by (Some p) e = absurd (let no : ⊥ = cc in no)

told_by : (n : ℕ) (o : Option ℕ)
    → option_map {U = OwnerBroken} (λ j. record { clock = n; rule = j }) o
    ≡ as_owner_broken (option_map {U = ℕ × ℕ} (λ j. (n, j)) o)
unfolding as_owner_broken
told_by n None = refl
told_by n (Some j) = refl

-- where nothing was found there is no verdict yet
pub unfound : (judge : OwnerJudge) (first : List Joint) (h : Trace) → judge.has_lacked_memory ≡ false → judge.found ≡ None
    → Stands judge first h → ownership_verdict first h ≡ None
unfound judge first h r n s = none_by (ownership_verdict first h) (sym n ∙ s.found r)

no_verdict : as_owner_broken None ≡ None
unfolding as_owner_broken
no_verdict = refl

-- and where there is no verdict nothing was found
pub nothing_yet : (judge : OwnerJudge) (first : List Joint) (h : Trace) → judge.has_lacked_memory ≡ false
    → ownership_verdict first h ≡ None → Stands judge first h → judge.found ≡ None
nothing_yet judge first h r n s = s.found r ∙ ap as_owner_broken n ∙ no_verdict

-- and else it is what the sample breaks
pub found-next : (first : List Joint) (h : Trace) (x : Sample) (v : Trace) (rule : Option ℕ) → OneMore h x v
    → None ≡ as_owner_broken (ownership_verdict first h) → rule ≡ least_at (is_ownership_broken first v) 32 (length h)
    → option_map {U = OwnerBroken} (λ j. record { clock = length h; rule = j }) rule ≡ as_owner_broken (ownership_verdict first v)
found-next first h x v rule m e r =
    told_by (length h) rule
    ∙ ap (λ o. as_owner_broken (option_map {U = ℕ × ℕ} (λ j. (length h, j)) o)) r
    ∙ sym (ap as_owner_broken (verdict-more first h x v m
    ∙ ap (or_at (is_ownership_broken first v) 32 (length h)) (none_by (ownership_verdict first h) e)))

-- where memory was lacking a judge stands for anything
pub lacked : (judge : OwnerJudge) (first : List Joint) (v : Trace) → judge.has_lacked_memory ≡ true → judge.clock ≤ length v
    → Stands judge first v
lacked judge first v t l = record {
  found = λ f. absurd (both_ways judge.has_lacked_memory f t);
  lines = λ f n. absurd (both_ways judge.has_lacked_memory f t);
  clock = λ f n. absurd (both_ways judge.has_lacked_memory f t);
  few = l;
}

apart : (o : Option OwnerBroken) → is_some o ≡ true → o ≡ None → ⊥
apart None t e = let no : ⊥ = cc in no
apart (Some f) t e = let no : ⊥ = cc in no

pub stays_of : (first : List Joint) (h : Trace) (x : Sample) (v : Trace) (o : Option OwnerBroken) → OneMore h x v → is_some o ≡ true
    → o ≡ as_owner_broken (ownership_verdict first h) → o ≡ as_owner_broken (ownership_verdict first v)
stays_of first h x v None m t s = absurd (let no : ⊥ = cc in no)
stays_of first h x v (Some f) m t s = found-stays first h x v f m s

-- once something was found it stands as it is
pub kept : (judge : OwnerJudge) (first : List Joint) (h : Trace) (x : Sample) (v : Trace) → OneMore h x v
    → judge.has_lacked_memory ≡ false → is_some judge.found ≡ true → Stands judge first h → Stands judge first v
kept judge first h x v m r t s = record {
  found = λ f. stays_of first h x v judge.found m t (s.found r);
  lines = λ f n. absurd (apart judge.found t n);
  clock = λ f n. absurd (apart judge.found t n);
  few = let l = s.few in let n = m.size in omega (arith, l, n);
}

pub nothing-found : (o : Option OwnerBroken) → is_some o ≡ false → o ≡ None
nothing-found None e = refl
nothing-found (Some f) e = absurd (let no : ⊥ = cc in no)

-- a sample is taken
pub told-next : (old : OwnerJudge) (first : List Joint) (h : Trace) (x : Sample) (v : Trace) (clock : ℕ) (rule : Option ℕ)
    → OneMore h x v → old.has_lacked_memory ≡ false → old.found ≡ None → Stands old first h → clock ≡ length h
    → rule ≡ least_at (is_ownership_broken first v) 32 (length h)
    → option_map {U = OwnerBroken} (λ j. record { clock = clock; rule = j }) rule ≡ as_owner_broken (ownership_verdict first v)
told-next old first h x v clock rule m r n s e l =
    ap (λ d. option_map {U = OwnerBroken} (λ j. record { clock = d; rule = j }) rule) e
    ∙ found-next first h x v rule m (sym n ∙ s.found r) l

pub stepped : (on : OwnerJudge) (first : List Joint) (h : Trace) (x : Sample) (v : Trace) (clock : ℕ) → OneMore h x v
    → clock ≡ length h → on.found ≡ as_owner_broken (ownership_verdict first v) → LinesStand on.lines first v
    → on.clock ≡ clock + 1 → Stands on first v
stepped on first h x v clock m e f k c = record {
  found = λ _. f;
  lines = λ _ _. k;
  clock = λ _ _. c ∙ ap (λ d. d + 1) e ∙ sym m.size;
  few = let n = m.size in omega (arith, c, e, n);
}

pub if_ok : {A E : Type 0} {P Q : A → Type 0} (r : Result A E) → ((a : A) → P a → Q a) → IfOk r P → IfOk r Q
if_ok (Ok a) f p = f a p
if_ok (Err e) f p = tt

pub on_ok : {A E P Q : Type 0} (r : Result A E) → (P → Q) → OnOk r P → OnOk r Q
on_ok (Ok a) f p = f p
on_ok (Err e) f p = tt

-- before the first sample
pub at_start : (judge : OwnerJudge) (first : List Joint) → IsSettled first → judge.found ≡ None
    → ((line : ℕ) → kept_of judge.lines line ≡ first) → ((line : ℕ) → is_kept_spoiled judge.lines line ≡ false)
    → judge.clock ≡ 0 → Stands judge first []
unfolding possible is_spoiled ownership_verdict as_owner_broken least_broken live_count first_where any_where count_where
at_start judge first s n k o c = record {
  found = λ _. n;
  lines = λ _ _. record { settled = s; follows = λ line. k line; spoiled = λ line. o line };
  clock = λ _ _. c;
  few = omega (arith, c);
}
