-- The text before the first `$`, for a reader of headers.
use Rattle.std.proofs.Common.{◌≡◌, ℕ, ◌+◌, ◌≤◌, ◌<◌, ◌-◌, Bool, true, false, ◌&&◌, ◌||◌, ◌==◌, if◌then◌else◌, List, [], ◌∷◌, ◌++◌, length, nat_le}
use Rattle.std.proofs.Common.{None, refl, sym, ap, subst, ◌∙◌, append-nil, append_assoc, length-append, arith, ◌^◌, leb-false, leb-true, le-leb, ◌⊎◌, inl, inr, eqb-true, take, take_all, get_or}
use Rattle.std.proofs.lemmas.List.{take_more}
use Rattle.std.proofs.lemmas.Bool.{false≢true}
use Rattle.vcd_grammar.specs.declared.fault.VcdFault.{VcdFault}
use Rattle.vcd_grammar.specs.Tokens.{Token, is_white, is_long, longest, ended_at, grown_at, counted, run_behind, tokens_from, tokens_so_far}
use Rattle.vcd_grammar.specs.Words.{is_dollar, header_word}
use Rattle.vcd_way.specs.Declarations.{Declaration}
use Rattle.vcd_way.specs.Ways.{ValueRules}
use Rattle.vcd_way.specs.Wide.{wide_rules}
use Rattle.vcd_way.specs.Steps.{AtPreface, AtHeader, DumpState, Step, step, step_at, first_state, state_after, reads_past, if_short, header_step, is_past_header_at}
use Rattle.vcd_way.proofs.Interface.{sound-step}
use Rattle.vcd_header.specs.Gathering.{FitsRules, gathering, gathered_so_far, header_fault_so_far}
use Rattle.vcd_joined.specs.Behind.{IsHeader}
use Rattle.scope_watch.specs.declared.preface.PrefaceReader.{PrefaceReader}
use Rattle.scope_watch.specs.Heading.{any_header, ShowsFault}
use Rattle.scope_watch.specs.Prefaces.{preface_from, preface_of, preface_limit, is_no_dump, HasRead}

-- ---- tokens without a `$`

-- none of the tokens begins with `$`
abbrev NoDollar : List Token → Type 0
NoDollar [] = Unit {0}
NoDollar (t ∷ ts) = (is_dollar t.word ≡ false) × NoDollar ts

no-dollars : (xs ys : List Token) → NoDollar xs → NoDollar ys → NoDollar (xs ++ ys)
no-dollars [] ys h k = k
no-dollars (t ∷ xs) ys h k = (h.0, no-dollars xs ys h.1 k)

if-none : (b : Bool) (t : Token) → is_dollar t.word ≡ false → NoDollar (if b then [] else t ∷ [])
if-none true t h = tt
if-none false t h = (h, tt)

if-one : (b : Bool) (t : Token) → (b ≡ true → is_dollar t.word ≡ false) → NoDollar (if b then t ∷ [] else [])
if-one true t h = (h refl, tt)
if-one false t h = tt

-- no byte
abbrev is_empty : List ℕ → Bool
is_empty [] = true
is_empty (b ∷ bs) = false

-- a run stands open in which no word begins with `$`: a word may begin behind it where it is empty
record IsQuiet (starts : Bool) (run : List ℕ) : Type 0 where
  none : is_empty run ≡ starts
  quiet : is_dollar run ≡ false

-- the run with one more byte
quiet-grown : (starts : Bool) (run : List ℕ) (b : ℕ) → IsQuiet starts run → (starts && (b == 36)) ≡ false
    → is_dollar (run ++ b ∷ []) ≡ false
quiet-grown starts [] b q h = by starts q.none h
  where
    by : (s : Bool) → true ≡ s → (s && (b == 36)) ≡ false → (b == 36) ≡ false
    by true e k = k
    by false e k = absurd (false≢true (sym e))
quiet-grown starts (r ∷ run) b q h = q.quiet

grown-some : (run : List ℕ) (b : ℕ) → is_empty (run ++ b ∷ []) ≡ false
grown-some [] b = refl
grown-some (r ∷ run) b = refl

-- a run that is too long is not empty
long-some : (run : List ℕ) → is_long run ≡ true → is_empty run ≡ false
long-some [] h = absurd (false≢true h)
long-some (r ∷ run) h = refl

quiet-behind : (starts : Bool) (run : List ℕ) (b : ℕ) → IsQuiet starts run → (starts && (b == 36)) ≡ false
    → IsQuiet (is_white b) (run_behind run b)
quiet-behind starts run b q h = by (is_white b)
  where
    dark : (l : Bool) → is_long run ≡ l → IsQuiet false (if l then run else run ++ b ∷ [])
    dark true e = record { none = long-some run e; quiet = q.quiet }
    dark false e = record { none = grown-some run b; quiet = quiet-grown starts run b q h }

    by : (w : Bool) → IsQuiet w (if w then [] else (if is_long run then run else run ++ b ∷ []))
    by true = record { none = refl; quiet = refl }
    by false = dark (is_long run) refl

quiet-counted : (at : ℕ) (starts : Bool) (run : List ℕ) (b : ℕ) → IsQuiet starts run → (starts && (b == 36)) ≡ false
    → NoDollar (counted at run b)
unfolding ended_at grown_at
quiet-counted at starts run b q h = by (is_white b)
  where
    by : (w : Bool) → NoDollar (if w then ended_at at run else grown_at at run b)
    by true = if-none ((length run == 0) || is_long run) (record { place = at - length run; word = run }) q.quiet
    by false = if-one (length run == longest) (record { place = at - longest; word = run ++ b ∷ [] })
        (λ e. quiet-grown starts run b q h)

-- ---- bytes without one

-- bytes that are all before the first `$` go on so behind their first one
no-first : (starts : Bool) (b : ℕ) (bs : List ℕ) → preface_from starts (b ∷ bs) ≡ b ∷ bs → (starts && (b == 36)) ≡ false
no-first starts b bs h = by (starts && (b == 36)) h
  where
    by : (d : Bool) → (if d then [] else b ∷ preface_from (is_white b) bs) ≡ b ∷ bs → d ≡ false
    by true e = absurd (let no : ⊥ = cc in no)
    by false e = refl

no-more : (starts : Bool) (b : ℕ) (bs : List ℕ) → preface_from starts (b ∷ bs) ≡ b ∷ bs
    → preface_from (is_white b) bs ≡ bs
no-more starts b bs h = by (starts && (b == 36)) h
  where
    by : (d : Bool) → (if d then [] else b ∷ preface_from (is_white b) bs) ≡ b ∷ bs → preface_from (is_white b) bs ≡ bs
    by true e = absurd (let no : ⊥ = cc in no)
    by false e = cc

quiet-tokens : (at : ℕ) (starts : Bool) (run bs : List ℕ) → IsQuiet starts run → preface_from starts bs ≡ bs
    → NoDollar (tokens_from at run bs)
quiet-tokens at starts run [] q h = tt
quiet-tokens at starts run (b ∷ bs) q h =
    let first = no-first starts b bs h in
    no-dollars (counted at run b) (tokens_from (at + 1) (run_behind run b) bs) (quiet-counted at starts run b q first)
    (quiet-tokens (at + 1) (is_white b) (run_behind run b) bs (quiet-behind starts run b q first) (no-more starts b bs h))

-- the first ones of them are so too
quiet-first : (starts : Bool) (some more : List ℕ) → preface_from starts (some ++ more) ≡ some ++ more
    → preface_from starts some ≡ some
quiet-first starts [] more h = refl
quiet-first starts (b ∷ some) more h =
    ap (λ d. if d then [] else b ∷ preface_from (is_white b) some) (no-first starts b (some ++ more) h)
    ∙ ap (λ x. b ∷ x) (quiet-first (is_white b) some more (no-more starts b (some ++ more) h))

-- ---- what is known after them

-- tokens without a `$` are read past
pub read-past : (m : ValueRules) (s : DumpState (List Declaration)) (ts : List Token) → s.fault ≡ None → s.spot ≡ AtPreface
    → NoDollar ts → state_after (gathering m) s ts ≡ s
read-past m s [] n at h = refl
read-past m s (t ∷ ts) n at h =
    let past : (step (gathering m) s t).state ≡ s =
    ap (λ (x : Step (List Declaration)). x.state) (sound-step (gathering m) s t n
    ∙ ap (λ x. step_at (gathering m) x s t) at
    ∙ ap (λ d. if d then if_short s t (header_step s t (header_word t.word)) else reads_past s) h.0) in
    ap (λ x. state_after (gathering m) x ts) past ∙ read-past m s ts n at h.1

quiet-known : (m : ValueRules) (some : List ℕ) → FitsRules m any_header → preface_of some ≡ some
    → gathered_so_far m some ≡ first_state (gathering m)
quiet-known m some f h =
    read-past m (first_state (gathering m)) (tokens_so_far some) refl (ap (λ b. if b then AtPreface else AtHeader) f.skips_preface)
    (quiet-tokens 0 true [] some (record { none = refl; quiet = refl }) h)

-- such bytes hold no whole header
quiet-early : (m : ValueRules) (some : List ℕ) → FitsRules m any_header → preface_of some ≡ some
    → is_past_header_at (gathered_so_far m some).spot ≡ false
quiet-early m some f h =
    ap (λ (s : DumpState (List Declaration)). is_past_header_at s.spot) (quiet-known m some f h)
    ∙ ap (λ b. is_past_header_at (if b then AtPreface else AtHeader)) f.skips_preface

-- and show no fault
quiet-sound : (m : ValueRules) (some : List ℕ) → FitsRules m any_header → preface_of some ≡ some
    → header_fault_so_far m some ≡ None
quiet-sound m some f h = by (is_past_header_at (gathered_so_far m some).spot) (quiet-early m some f h)
  where
    by : (b : Bool) → b ≡ false → (if b then None else (gathered_so_far m some).fault) ≡ None
    by true e = absurd (false≢true (sym e))
    by false e = ap (λ (s : DumpState (List Declaration)). s.fault) (quiet-known m some f h)

-- ---- a reader

wide-fits : FitsRules wide_rules any_header
wide-fits = record { widest = refl; skips_preface = refl }

-- while its `$` has not come, all that was read is before it
all-quiet : (p : PrefaceReader) (fed : List ℕ) → HasRead p fed → p.is_over ≡ false → preface_of fed ≡ fed
all-quiet p fed h early =
    ap preface_of (sym (append-nil fed)) ∙ h.goes_on early [] ∙ append-nil fed

-- with bytes that hold a whole header it has come
pub over-header : (p : PrefaceReader) (fed head more : List ℕ) → HasRead p fed → fed ≡ head ++ more
    → IsHeader wide_rules (tokens_so_far head) → p.is_over ≡ true
over-header p fed head more h e header = by p.is_over refl
  where
    by : (o : Bool) → p.is_over ≡ o → o ≡ true
    by true k = refl
    by false k =
        let all : preface_of (head ++ more) ≡ head ++ more = ap preface_of (sym e) ∙ all-quiet p fed h k ∙ e in
        sym (quiet-early wide_rules head wide-fits (quiet-first true head more all)) ∙ header.over

-- and with bytes that show a fault
pub over-fault : (p : PrefaceReader) (fed : List ℕ) (fault : VcdFault) → HasRead p fed → ShowsFault fed fault
    → p.is_over ≡ true
over-fault p fed fault h shown = by p.is_over refl
  where
    by : (o : Bool) → p.is_over ≡ o → o ≡ true
    by true k = refl
    by false k =
        let all : preface_of (shown.some ++ shown.more) ≡ shown.some ++ shown.more =
        ap preface_of (sym shown.whole) ∙ all-quiet p fed h k ∙ shown.whole in
        let none = sym (quiet-sound wide_rules shown.some wide-fits (quiet-first true shown.some shown.more all))
        ∙ shown.first wide_rules wide-fits in
        absurd (let no : ⊥ = cc in no)

-- ---- whether a text is a dump

dump-few : (a b : ℕ) → a ≡ b → nat_le preface_limit b ≡ false → nat_le preface_limit a ≡ false
dump-few a b e h = ap (λ n. nat_le preface_limit n) e ∙ h

-- a preface that is too long so far stays so
pub no-dump : (p : PrefaceReader) (fed text left : List ℕ) → HasRead p fed → text ≡ fed ++ left
    → nat_le preface_limit p.count ≡ true → is_no_dump text ≡ true
no-dump p fed text left h e many = by p.is_over refl
  where
    by : (o : Bool) → p.is_over ≡ o → is_no_dump text ≡ true
    by true k =
        ap (λ n. nat_le preface_limit n) (ap (λ x. length (preface_of x)) e ∙ ap length (h.over k left) ∙ sym h.count) ∙ many
    by false k =
        let size : length (preface_of text) ≡ length fed + length (preface_from p.starts left) =
        ap (λ x. length (preface_of x)) e ∙ ap length (h.goes_on k left) ∙ length-append fed (preface_from p.starts left) in
        le-leb preface_limit (length (preface_of text))
        (omega (arith, size, h.few, leb-true preface_limit p.count many))

-- one that is over is no longer in the whole text
pub is-dump-over : (p : PrefaceReader) (fed text left : List ℕ) → HasRead p fed → text ≡ fed ++ left → p.is_over ≡ true
    → nat_le preface_limit p.count ≡ false → is_no_dump text ≡ false
is-dump-over p fed text left h e over few =
    dump-few (length (preface_of text)) p.count
    (ap (λ x. length (preface_of x)) e ∙ ap length (h.over over left) ∙ sym h.count) few

-- so it is where first bytes show a fault
pub fault-dump : (p : PrefaceReader) (fed piece text left : List ℕ) (fault : VcdFault) → HasRead p (fed ++ piece)
    → ShowsFault (fed ++ piece) fault → text ≡ (fed ++ piece) ++ left → nat_le preface_limit p.count ≡ false
    → is_no_dump text ≡ false
fault-dump p fed piece text left fault h shown e few =
    is-dump-over p (fed ++ piece) text left h e (over-fault p (fed ++ piece) fault h shown) few

-- with so many bytes the `$` of a preface that is not too long has come
pub late-over : (p : PrefaceReader) (fed : List ℕ) (taken : ℕ) → HasRead p fed → nat_le preface_limit p.count ≡ false
    → length fed ≡ taken → 2 ^ 40 < taken + 2 ^ 20 → p.is_over ≡ true
late-over p fed taken h few size late = by p.is_over refl
  where
    by : (o : Bool) → p.is_over ≡ o → o ≡ true
    by true k = refl
    by false k =
        let all : p.count ≡ length fed = h.count ∙ ap length (all-quiet p fed h k) in
        let less : p.count < 1048576 = leb-false preface_limit p.count few in
        absurd (omega (arith, all, less, size, late))

-- nor at the end of a text
pub is-dump-end : (p : PrefaceReader) (fed : List ℕ) → HasRead p fed → nat_le preface_limit p.count ≡ false
    → is_no_dump fed ≡ false
is-dump-end p fed h few = dump-few (length (preface_of fed)) p.count (sym h.count) few

-- ---- one more byte

-- of a piece
pub byte-taken : (p : PrefaceReader) (fed piece : List ℕ) (at b d : ℕ) → at < length piece → b ≡ get_or piece at d
    → HasRead p ((fed ++ take at piece) ++ b ∷ []) → HasRead p (fed ++ take (at + 1) piece)
byte-taken p fed piece at b d less same h =
    subst (λ x. HasRead p x)
    (append_assoc fed (take at piece) (b ∷ [])
    ∙ ap (λ x. fed ++ x) (ap (λ y. take at piece ++ y ∷ []) same ∙ sym (take_more piece at d less))) h

-- all bytes of a piece
pub piece-taken : (p : PrefaceReader) (fed piece : List ℕ) (at : ℕ) → length piece ≤ at
    → HasRead p (fed ++ take at piece) → HasRead p (fed ++ piece)
piece-taken p fed piece at all h = subst (λ x. HasRead p (fed ++ x)) (take_all at piece all) h

-- a `$` that begins a word
pub with-dollar : (old new : PrefaceReader) (fed : List ℕ) (b : ℕ) → HasRead old fed → old.is_over ≡ false
    → (old.starts && (b == 36)) ≡ true → new.is_over ≡ true → new.count ≡ old.count → HasRead new (fed ++ b ∷ [])
with-dollar old new fed b h early dollar over same = record {
  over = λ k more. ap preface_of (append_assoc fed (b ∷ []) more) ∙ ends more ∙ sym (ends []);
  goes_on = λ k. absurd (false≢true (sym k ∙ over));
  count = same ∙ h.count ∙ ap length (all-quiet old fed h early ∙ sym (ends []));
  few = (let size = length-append fed (b ∷ []) in omega (arith, size, h.few, same));
}
  where
    ends : (more : List ℕ) → preface_of (fed ++ b ∷ more) ≡ fed
    ends more =
        h.goes_on early (b ∷ more)
        ∙ ap (λ d. fed ++ (if d then [] else b ∷ preface_from (is_white b) more)) dollar ∙ append-nil fed

-- a byte that is no such `$`
pub no-dollar : (starts : Bool) (b : ℕ) → ((starts ≡ true) × (b ≡ 36 → ⊥)) ⊎ (starts ≡ false) → (starts && (b == 36)) ≡ false
no-dollar starts b (inl h) = by (b == 36) refl
  where
    by : (d : Bool) → (b == 36) ≡ d → (starts && (b == 36)) ≡ false
    by true e = absurd (h.1 (eqb-true b 36 e))
    by false e = ap (λ x. x && (b == 36)) h.0 ∙ e
no-dollar starts b (inr h) = ap (λ x. x && (b == 36)) h

-- another byte
pub with-byte : (old new : PrefaceReader) (fed : List ℕ) (b : ℕ) → HasRead old fed → old.is_over ≡ false
    → (old.starts && (b == 36)) ≡ false → new.is_over ≡ false → new.count ≡ old.count + 1 → new.starts ≡ is_white b
    → HasRead new (fed ++ b ∷ [])
with-byte old new fed b h early other still same white = record {
  over = λ k. absurd (false≢true (sym still ∙ k));
  goes_on = λ k more.
      ap preface_of (append_assoc fed (b ∷ []) more) ∙ goes_on more
      ∙ sym (append_assoc fed (b ∷ []) (preface_from (is_white b) more))
      ∙ ap (λ w. (fed ++ b ∷ []) ++ preface_from w more) (sym white);
  count = same ∙ ap (λ n. n + 1) (h.count ∙ ap length (all-quiet old fed h early)) ∙ sym size
      ∙ ap length (sym (goes_on []));
  few = omega (arith, size, h.few, same);
}
  where
    size : length (fed ++ b ∷ []) ≡ length fed + 1
    size = length-append fed (b ∷ [])

    goes_on : (more : List ℕ) → preface_of (fed ++ b ∷ more) ≡ fed ++ b ∷ preface_from (is_white b) more
    goes_on more =
        h.goes_on early (b ∷ more) ∙ ap (λ d. fed ++ (if d then [] else b ∷ preface_from (is_white b) more)) other

-- behind the `$`
pub behind-dollar : (old : PrefaceReader) (fed : List ℕ) (b : ℕ) → HasRead old fed → old.is_over ≡ true
    → HasRead old (fed ++ b ∷ [])
behind-dollar old fed b h over = record {
  over = λ k more.
      ap preface_of (append_assoc fed (b ∷ []) more) ∙ h.over over (b ∷ more) ∙ sym (h.over over (b ∷ []));
  goes_on = λ k. absurd (false≢true (sym k ∙ over));
  count = h.count ∙ ap length (sym (h.over over (b ∷ [])));
  few = (let size = length-append fed (b ∷ []) in omega (arith, size, h.few));
}
