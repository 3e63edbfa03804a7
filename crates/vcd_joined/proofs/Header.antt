-- In a header, a way that chooses its lines at the end knows what is gathered.
use Rattle.std.proofs.Common.{◌≡◌, ℕ, Bool, true, false, ◌&&◌, if◌then◌else◌, is_some, List, [], ◌∷◌, ◌++◌}
use Rattle.std.proofs.Common.{Option, Some, None, refl, sym, ap, subst, ◌∙◌, append_assoc, append-nil}
use Rattle.vcd_grammar.specs.declared.fault.VcdFault.{VcdFault}
use Rattle.vcd_grammar.specs.declared.fault.VcdCause.TheVariants as causes
use Rattle.vcd_grammar.specs.Tokens.{Token, is_long}
use Rattle.vcd_grammar.specs.Words.{HeaderWord, Declares, Finishes, Ends, Opens, Bare, header_word, is_dollar, is_end}
use Rattle.vcd_way.specs.Declarations.{DumpSection, Declaration, declaration_of, with_word}
use Rattle.vcd_way.specs.Ways.{ValueRules, Way}
use Rattle.vcd_way.specs.Steps.{Spot, AtPreface, AtHeader, InSection, AtValues, AtCode, AtOtherCode, InRemark, DumpState}
use Rattle.vcd_way.specs.Steps.{first_state, Step, reads_past, moves_to, breaks, if_short, header_step, unknown_from_here}
use Rattle.vcd_way.specs.Steps.{declared_step, section_end, section_kept, is_declaring, step_at, step, state_after}
use Rattle.vcd_way.specs.Steps.{happenings_in, is_past_header_at}
use Rattle.vcd_way.specs.Answers.{state_of}
use Rattle.vcd_way.proofs.Interface.{state-append, past-behind}
use Rattle.vcd_header.specs.Gathering.{gathering}
use Rattle.vcd_scan.specs.Wired.{Wiring}
use Rattle.vcd_scan.specs.Begun.{begun}
use Rattle.vcd_joined.specs.Choosing.{Choice, choosing, happened_by_header}
use Rattle.vcd_joined.specs.Behind.{gathered_in, IsHeader, behind}

-- what a header makes known
abbrev Declared : Type 0
Declared = DumpState (List Declaration)

-- the state at a spot
abbrev placed : {W : Type 0} → DumpState W → Spot → DumpState W
placed s spot = record s { spot = spot }

-- no time has come; and where the header is over, it just was
pub record Calm (s : Declared) : Type 0 where
  pub time : s.time ≡ None
  pub is_off : s.is_off ≡ false
  pub fault : is_past_header_at s.spot ≡ true → s.fault ≡ None
  pub spot : is_past_header_at s.spot ≡ true → s.spot ≡ AtValues

-- a token of the header does the same
record Same (c : Choice) (y z : Step (List Declaration)) : Type 0 where
  state : y.state ≡ z.state
  happens : y.happenings ≡ happened_by_header c z.state
  calm : Calm z.state

same-if : (c : Choice) (b : Bool) (x y z w : Step (List Declaration)) → Same c x y → Same c z w
    → Same c (if b then x else z) (if b then y else w)
same-if c true x y z w p q = p
same-if c false x y z w p q = q

-- one after which the header is not over
abbrev quietly : Declared → Step (List Declaration)
quietly s = record { state = s; happenings = [] }

open-calm : (s : Declared) → s.time ≡ None → s.is_off ≡ false → is_past_header_at s.spot ≡ false → Calm s
open-calm s t o h = record {
  time = t;
  is_off = o;
  fault = λ e. let wrong = sym e ∙ h in cc wrong;
  spot = λ e. let wrong = sym e ∙ h in cc wrong;
}

same-quietly : (c : Choice) (s : Declared) → s.time ≡ None → s.is_off ≡ false → is_past_header_at s.spot ≡ false
    → Same c (quietly s) (quietly s)
same-quietly c s t o h = record {
  state = refl;
  happens = sym (ap (λ b. if b then unknown_from_here (c.lines s.header) else []) h);
  calm = open-calm s t o h;
}

same-word : (c : Choice) (s : Declared) (t : Token) (w : HeaderWord) → s.time ≡ None → s.is_off ≡ false
    → is_past_header_at s.spot ≡ false → Same c (header_step s t w) (header_step s t w)
same-word c s t Declares e o h = same-quietly c (header_step s t Declares).state e o refl
same-word c s t Finishes e o h = same-quietly c (header_step s t Finishes).state e o refl
same-word c s t Ends e o h = same-quietly c (header_step s t Ends).state e o refl
same-word c s t Opens e o h = same-quietly c (header_step s t Opens).state e o refl
same-word c s t Bare e o h = same-quietly c (header_step s t Bare).state e o h

same-declared : (c : Choice) (m : ValueRules) (s : Declared) (place : ℕ) (d : Option Declaration) → s.time ≡ None
    → s.is_off ≡ false → is_past_header_at s.spot ≡ false
    → Same c (declared_step (choosing c m) s place d) (declared_step (gathering m) s place d)
same-declared c m s place None e o h = same-quietly c (breaks s place causes.Header).state e o h
same-declared c m s place (Some d) e o h = same-quietly c (record s { header = s.header ++ d ∷ [] }) e o h

same-end : (c : Choice) (m : ValueRules) (s : Declared) (section : DumpSection) (w : HeaderWord) → s.fault ≡ None
    → s.time ≡ None → s.is_off ≡ false
    → Same c (section_end (choosing c m) s section w) (section_end (gathering m) s section w)
same-end c m s section Declares f e o =
    same-declared c m (placed s AtHeader) section.place (declaration_of m.widest s.path section) e o refl
same-end c m s section Finishes f e o = record {
  state = refl;
  happens = refl;
  calm = record { time = e; is_off = o; fault = λ h. f; spot = λ h. refl };
}
same-end c m s section Ends f e o = same-quietly c (placed (section_kept s section) AtHeader) e o refl
same-end c m s section Opens f e o = same-quietly c (placed (section_kept s section) AtHeader) e o refl
same-end c m s section Bare f e o = same-quietly c (placed (section_kept s section) AtHeader) e o refl

same-short : (c : Choice) (s : Declared) (t : Token) (w : HeaderWord) → s.time ≡ None → s.is_off ≡ false
    → is_past_header_at s.spot ≡ false
    → Same c (if_short s t (header_step s t w)) (if_short s t (header_step s t w))
same-short c s t w e o h =
    same-if c (is_long t.word) (breaks s t.place causes.Token) (breaks s t.place causes.Token) (header_step s t w)
    (header_step s t w) (same-quietly c (breaks s t.place causes.Token).state e o h) (same-word c s t w e o h)

same-at : (c : Choice) (m : ValueRules) (spot : Spot) (s : Declared) (t : Token) → is_past_header_at spot ≡ false
    → s.fault ≡ None → s.time ≡ None → s.is_off ≡ false
    → Same c (step_at (choosing c m) spot (placed s spot) t) (step_at (gathering m) spot (placed s spot) t)
same-at c m AtPreface s t h f e o =
    let p = placed s AtPreface in
    let x = if_short p t (header_step p t (header_word t.word)) in
    same-if c (is_dollar t.word) x x (reads_past p) (reads_past p) (same-short c p t (header_word t.word) e o refl)
    (same-quietly c p e o refl)
same-at c m AtHeader s t h f e o = same-short c (placed s AtHeader) t (header_word t.word) e o refl
same-at c m (InSection section) s t h f e o =
    let p = placed s (InSection section) in
    let w = header_word section.keyword in
    let more = moves_to p (InSection (with_word section t.word)) in
    same-if c (is_long t.word && is_declaring w) (breaks p t.place causes.Token) (breaks p t.place causes.Token)
    (if is_end t.word then section_end (choosing c m) p section w else more)
    (if is_end t.word then section_end (gathering m) p section w else more)
    (same-quietly c (breaks p t.place causes.Token).state e o refl)
    (same-if c (is_end t.word) (section_end (choosing c m) p section w) (section_end (gathering m) p section w) more more
    (same-end c m p section w f e o) (same-quietly c more.state e o refl))
same-at c m AtValues s t h f e o = cc h
same-at c m (AtCode from digits) s t h f e o = cc h
same-at c m (AtOtherCode from) s t h f e o = cc h
same-at c m (InRemark section) s t h f e o = cc h

same-fault : (c : Choice) (s : Declared) (y z : Step (List Declaration)) (f : Option VcdFault)
    → Same c (reads_past s) (reads_past s) → (f ≡ None → Same c y z)
    → Same c (if is_some f then reads_past s else y) (if is_some f then reads_past s else z)
same-fault c s y z None p q = q refl
same-fault c s y z (Some fault) p q = p

same-step : (c : Choice) (m : ValueRules) (s : Declared) (t : Token) → is_past_header_at s.spot ≡ false → Calm s
    → Same c (step (choosing c m) s t) (step (gathering m) s t)
unfolding step
same-step c m s t h k =
    same-fault c s (step_at (choosing c m) s.spot s t) (step_at (gathering m) s.spot s t) s.fault
    (same-quietly c s k.time k.is_off h) (λ f. same-at c m s.spot s t h f k.time k.is_off)

-- ---- tokens

-- tokens after which the header is not over
record Open (c : Choice) (m : ValueRules) (s : Declared) (ts : List Token) : Type 0 where
  state : state_after (choosing c m) s ts ≡ state_after (gathering m) s ts
  quiet : happenings_in (choosing c m) s ts ≡ []
  calm : Calm (state_after (gathering m) s ts)

-- where it is not over after them all, it is not over after the first
not-yet : (m : ValueRules) (s : Declared) (ts : List Token) → is_past_header_at (state_after (gathering m) s ts).spot ≡ false
    → is_past_header_at s.spot ≡ false
not-yet m s ts h = by (is_past_header_at s.spot) refl
  where
    by : (b : Bool) → is_past_header_at s.spot ≡ b → b ≡ false
    by true e = let wrong = sym (past-behind (gathering m) s ts e) ∙ h in cc wrong
    by false e = refl

open-after : (c : Choice) (m : ValueRules) (s : Declared) (ts : List Token) → Calm s
    → is_past_header_at (state_after (gathering m) s ts).spot ≡ false → Open c m s ts
open-after c m s [] k h = record { state = refl; quiet = refl; calm = k }
open-after c m s (t ∷ ts) k h =
    let one = same-step c m s t (not-yet m s (t ∷ ts) h) k in
    let next = (step (gathering m) s t).state in
    let rest = open-after c m next ts one.calm h in
    let none = ap (λ b. if b then unknown_from_here (c.lines next.header) else []) (not-yet m next ts h) in
    record {
      state = ap (λ r. state_after (choosing c m) r ts) one.state ∙ rest.state;
      quiet = (λ i. (one.happens ∙ none) i ++ happenings_in (choosing c m) (one.state i) ts) ∙ rest.quiet;
      calm = rest.calm;
    }

first-open : (b : Bool) → is_past_header_at (if b then AtPreface else AtHeader) ≡ false
first-open true = refl
first-open false = refl

first-calm : (m : ValueRules) → Calm (first_state (gathering m))
first-calm m = open-calm (first_state (gathering m)) refl refl (first-open m.skips_preface)

-- from the first token on
open-tokens : (c : Choice) (m : ValueRules) (ts : List Token) → is_past_header_at (gathered_in m ts).spot ≡ false
    → Open c m (first_state (gathering m)) ts
open-tokens c m ts h = open-after c m (first_state (gathering m)) ts (first-calm m) h

pub known-open : (c : Choice) (m : ValueRules) (ts : List Token) → is_past_header_at (gathered_in m ts).spot ≡ false
    → state_of (choosing c m) ts ≡ gathered_in m ts
known-open c m ts h = (open-tokens c m ts h).state

pub quiet-open : (c : Choice) (m : ValueRules) (ts : List Token) → is_past_header_at (gathered_in m ts).spot ≡ false
    → happenings_in (choosing c m) (first_state (choosing c m)) ts ≡ []
quiet-open c m ts h = (open-tokens c m ts h).quiet

-- ---- the end of the header

pub happenings-append : {W : Type 0} (way : Way W) (s : DumpState W) (ts us : List Token)
    → happenings_in way s (ts ++ us) ≡ happenings_in way s ts ++ happenings_in way (state_after way s ts) us
happenings-append way s [] us = refl
happenings-append way s (t ∷ ts) us =
    ap (λ hs. (step way s t).happenings ++ hs) (happenings-append way (step way s t).state ts us)
    ∙ sym (append_assoc (step way s t).happenings (happenings_in way (step way s t).state ts)
    (happenings_in way (state_after way (step way s t).state ts) us))

-- the last token of a header does the same
last-same : (c : Choice) (m : ValueRules) (before : List Token) (last : Token)
    → is_past_header_at (gathered_in m before).spot ≡ false
    → Same c (step (choosing c m) (gathered_in m before) last) (step (gathering m) (gathered_in m before) last)
last-same c m before last h = same-step c m (gathered_in m before) last h (open-tokens c m before h).calm

-- what a header's last token leaves
abbrev left : ValueRules → List Token → Token → Declared
left m before last = (step (gathering m) (gathered_in m before) last).state

left-is : (m : ValueRules) (ts : List Token) (h : IsHeader m ts) → gathered_in m ts ≡ left m h.before h.last
left-is m ts h =
    ap (gathered_in m) h.whole ∙ state-append (gathering m) (first_state (gathering m)) h.before (h.last ∷ [])

pub known-at-end : (c : Choice) (m : ValueRules) (ts : List Token) → IsHeader m ts
    → state_of (choosing c m) ts ≡ gathered_in m ts
known-at-end c m ts h =
    ap (state_of (choosing c m)) h.whole
    ∙ state-append (choosing c m) (first_state (choosing c m)) h.before (h.last ∷ [])
    ∙ ap (λ s. (step (choosing c m) s h.last).state) (known-open c m h.before h.not_over)
    ∙ (last-same c m h.before h.last h.not_over).state
    ∙ sym (left-is m ts h)

pub unknown-at-end : (c : Choice) (m : ValueRules) (ts : List Token) → IsHeader m ts
    → happenings_in (choosing c m) (first_state (choosing c m)) ts
    ≡ unknown_from_here (c.lines (gathered_in m ts).header)
unknown-at-end c m ts h =
    let first = first_state (choosing c m) in
    ap (happenings_in (choosing c m) first) h.whole
    ∙ happenings-append (choosing c m) first h.before (h.last ∷ [])
    ∙ (λ i. quiet-open c m h.before h.not_over i
    ++ happenings_in (choosing c m) (known-open c m h.before h.not_over i) (h.last ∷ []))
    ∙ append-nil (step (choosing c m) (gathered_in m h.before) h.last).happenings
    ∙ (last-same c m h.before h.last h.not_over).happens
    ∙ ap (happened_by_header c) (sym (left-is m ts h))
    ∙ ap (λ b. if b then unknown_from_here (c.lines (gathered_in m ts).header) else []) h.over

-- nothing is chosen
abbrev nothing : Choice
nothing = record { lines = λ ds. []; taps = λ ds code. None }

pub begins-at-end : (m : ValueRules) (w : Wiring) (ts : List Token) → IsHeader m ts
    → gathered_in m ts ≡ behind (gathered_in m ts) (begun w)
begins-at-end m w ts h =
    let g = gathered_in m ts in
    let k : Calm g = subst Calm (sym (left-is m ts h)) (last-same nothing m h.before h.last h.not_over).calm in
    λ i. record {
      fault = k.fault h.over i;
      spot = k.spot h.over i;
      path = g.path;
      header = g.header;
      time = k.time i;
      is_off = k.is_off i;
      remarks = sym (append-nil g.remarks) i;
    }
