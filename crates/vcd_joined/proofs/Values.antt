-- Behind a header, a way that has chosen its lines goes on as a reader of the wires.
use Rattle.std.proofs.Common.{◌≡◌, ℕ, Bool, true, false, not, ◌&&◌, if◌then◌else◌, is_some, List, [], ◌∷◌, ◌++◌}
use Rattle.std.proofs.Common.{codes, nat_lt, Option, Some, None, refl, sym, ap, subst, ◌∙◌, append_assoc}
use Rattle.vcd_grammar.specs.declared.fault.VcdCause.{VcdCause}
use Rattle.vcd_grammar.specs.declared.fault.VcdCause.TheVariants as causes
use Rattle.vcd_grammar.specs.Tokens.{Token, is_long}
use Rattle.vcd_grammar.specs.Words.{ValueWord, Stamp, Scalar, Vector, Foreign, Mark, Section, Wrong, same, is_end}
use Rattle.vcd_way.specs.Declarations.{DumpSection, Declaration, with_word}
use Rattle.vcd_way.specs.declared.tap.Tap.{Tap}
use Rattle.vcd_way.specs.Ways.{ValueRules}
use Rattle.vcd_way.specs.Pieces.{Off, On, Switches}
use Rattle.vcd_way.specs.Steps.{Spot, AtPreface, AtHeader, InSection, AtValues, AtCode, AtOtherCode, InRemark, DumpState}
use Rattle.vcd_way.specs.Steps.{first_state, Step, reads_past, moves_to, breaks, if_short, unknown_from_here}
use Rattle.vcd_way.specs.Steps.{digits_by, one_more, value_word_by, comes, stamp_step, given, scalar_step, is_too_wide_for}
use Rattle.vcd_way.specs.Steps.{is_unreadable, vector_digits, vector_step, other_step, stops, resumes, mark_step, value_step}
use Rattle.vcd_way.specs.Steps.{may_be_long, word_step, step_at, step, state_after, happenings_in, is_past_header_at}
use Rattle.vcd_way.specs.Answers.{state_of}
use Rattle.vcd_way.proofs.Interface.{state-append, past-behind}
use Rattle.vcd_scan.specs.Wired.{Wiring, wired, taps_in}
use Rattle.vcd_scan.specs.Begun.{begun}
use Rattle.vcd_scan.specs.Standing.{known_after}
use Rattle.vcd_joined.specs.Choosing.{Choice, choosing, IsTaken, of_values}
use Rattle.vcd_joined.specs.Behind.{gathered_in, IsHeader, behind}
use Rattle.vcd_joined.proofs.Header.{happenings-append, known-at-end, unknown-at-end, begins-at-end}

-- what a header makes known
abbrev Declared : Type 0
Declared = DumpState (List Declaration)

-- a token behind a header does the same
record Follows (g : Declared) (w : Wiring) (y : Step (List Declaration)) (z : Step Wiring) : Type 0 where
  state : y.state ≡ behind g z.state
  happens : y.happenings ≡ z.happenings
  header : z.state.header ≡ w

follows-if : (g : Declared) (w : Wiring) (b : Bool) (x y : Step (List Declaration)) (p q : Step Wiring)
    → Follows g w x p → Follows g w y q → Follows g w (if b then x else y) (if b then p else q)
follows-if g w true x y p q f h = f
follows-if g w false x y p q f h = h

follows-breaks : (g : Declared) (w : Wiring) (r : DumpState Wiring) (place : ℕ) (cause : VcdCause) → r.header ≡ w
    → Follows g w (breaks (behind g r) place cause) (breaks r place cause)
follows-breaks g w r place cause h = record { state = refl; happens = refl; header = h }

follows-past : (g : Declared) (w : Wiring) (r : DumpState Wiring) → r.header ≡ w
    → Follows g w (reads_past (behind g r)) (reads_past r)
follows-past g w r h = record { state = refl; happens = refl; header = h }

follows-stamp : (g : Declared) (w : Wiring) (r : DumpState Wiring) (place time : ℕ) (last : Option ℕ) → r.header ≡ w
    → Follows g w (stamp_step (behind g r) place time last) (stamp_step r place time last)
follows-stamp g w r place time None h = record { state = refl; happens = refl; header = h }
follows-stamp g w r place time (Some last) h =
    let s = behind g r in
    follows-if g w (nat_lt time last) (breaks s place causes.TimeBack)
    (if nat_lt last time then comes s place time else reads_past s) (breaks r place causes.TimeBack)
    (if nat_lt last time then comes r place time else reads_past r) (follows-breaks g w r place causes.TimeBack h)
    (follows-if g w (nat_lt last time) (comes s place time) (reads_past s) (comes r place time) (reads_past r)
    (record { state = refl; happens = refl; header = h }) (follows-past g w r h))

follows-given : (g : Declared) (w : Wiring) (r : DumpState Wiring) (place : ℕ) (taps : List Tap)
    (digits : Option (List ℕ)) → r.header ≡ w
    → Follows g w (given (behind g r) place taps digits) (given r place taps digits)
follows-given g w r place taps (Some digits) h = record { state = refl; happens = refl; header = h }
follows-given g w r place [] None h = record { state = refl; happens = refl; header = h }
follows-given g w r place (tap ∷ taps) None h = follows-breaks g w r place causes.Token h

follows-scalar : (c : Choice) (m : ValueRules) (g : Declared) (w : Wiring) (r : DumpState Wiring) (place digit : ℕ)
    (taps : Option (List Tap)) → r.header ≡ w
    → Follows g w (scalar_step (choosing c m) (behind g r) place digit taps)
    (scalar_step (wired (of_values m)) r place digit taps)
follows-scalar c m g w r place digit None h = follows-breaks g w r place causes.Code h
follows-scalar c m g w r place digit (Some taps) h = follows-given g w r place taps (digits_by m (digit ∷ [])) h

digits-alike : (m : ValueRules) (bs : List ℕ) → digits_by m bs ≡ digits_by (of_values m) bs
digits-alike m [] = refl
digits-alike m (b ∷ bs) = ap (one_more (m.digit b)) (digits-alike m bs)

vector-alike : (m : ValueRules) (bs : List ℕ) → vector_digits m bs ≡ vector_digits (of_values m) bs
vector-alike m bs = ap (λ x. if m.takes_any && is_unreadable bs then None else x) (digits-alike m bs)

follows-vector : (c : Choice) (m : ValueRules) (g : Declared) (w : Wiring) (r : DumpState Wiring) (place from : ℕ)
    (digits : List ℕ) (taps : Option (List Tap)) → r.header ≡ w
    → Follows g w (vector_step (choosing c m) (behind g r) place from digits taps)
    (vector_step (wired (of_values m)) r place from digits taps)
follows-vector c m g w r place from digits None h = follows-breaks g w r place causes.Code h
follows-vector c m g w r place from digits (Some taps) h =
    let values = vector_digits (of_values m) digits in
    subst (λ x. Follows g w
    (if is_too_wide_for taps digits then breaks (behind g r) from causes.Width else given (behind g r) from taps x)
    (if is_too_wide_for taps digits then breaks r from causes.Width else given r from taps values))
    (sym (vector-alike m digits))
    (follows-if g w (is_too_wide_for taps digits) (breaks (behind g r) from causes.Width)
    (given (behind g r) from taps values) (breaks r from causes.Width) (given r from taps values)
    (follows-breaks g w r from causes.Width h) (follows-given g w r from taps values h))

follows-other : (g : Declared) (w : Wiring) (r : DumpState Wiring) (place : ℕ) (taps : Option (List Tap)) → r.header ≡ w
    → Follows g w (other_step (behind g r) place taps) (other_step r place taps)
follows-other g w r place None h = follows-breaks g w r place causes.Code h
follows-other g w r place (Some taps) h = record { state = refl; happens = refl; header = h }

-- the lines are those of the wires
lines-alike : (c : Choice) (g : Declared) (w : Wiring) (r : DumpState Wiring) → IsTaken c g.header w → r.header ≡ w
    → c.lines g.header ≡ r.header.lines
lines-alike c g w r k h = sym k.lines ∙ ap (λ (x : Wiring). x.lines) (sym h)

-- and so are the taps of a code
taps-alike : (c : Choice) (g : Declared) (w : Wiring) (r : DumpState Wiring) (code : List ℕ) → IsTaken c g.header w
    → r.header ≡ w → taps_in r.header.codes code ≡ c.taps g.header code
taps-alike c g w r code k h = ap (λ (x : Wiring). taps_in x.codes code) h ∙ k.taps code

follows-mark : (c : Choice) (m : ValueRules) (g : Declared) (w : Wiring) (r : DumpState Wiring) (word : List ℕ)
    → IsTaken c g.header w → r.header ≡ w
    → Follows g w (mark_step (choosing c m) (behind g r) word) (mark_step (wired (of_values m)) r word)
follows-mark c m g w r word k h =
    let way = choosing c m in
    let wires = wired (of_values m) in
    let s = behind g r in
    let on = m.tells_holes && (r.is_off && same (codes "$dumpon") word) in
    follows-if g w (m.tells_holes && same (codes "$dumpoff") word) (stops way s)
    (if on then resumes way s else reads_past s) (stops wires r) (if on then resumes wires r else reads_past r)
    (record { state = refl; happens = ap (λ l. Switches Off l ∷ []) (lines-alike c g w r k h); header = h })
    (follows-if g w on (resumes way s) (reads_past s) (resumes wires r) (reads_past r)
    (record { state = refl; happens = ap (λ l. Switches On l ∷ []) (lines-alike c g w r k h); header = h })
    (follows-past g w r h))

follows-value : (c : Choice) (m : ValueRules) (g : Declared) (w : Wiring) (r : DumpState Wiring) (t : Token)
    (v : ValueWord) → IsTaken c g.header w → r.header ≡ w
    → Follows g w (value_step (choosing c m) (behind g r) t v) (value_step (wired (of_values m)) r t v)
follows-value c m g w r t (Stamp time) k h = follows-stamp g w r t.place time r.time h
follows-value c m g w r t (Scalar digit code) k h =
    subst (λ x. Follows g w (scalar_step (choosing c m) (behind g r) t.place digit x)
    (value_step (wired (of_values m)) r t (Scalar digit code))) (taps-alike c g w r code k h)
    (follows-scalar c m g w r t.place digit (taps_in r.header.codes code) h)
follows-value c m g w r t (Vector digits) k h = record { state = refl; happens = refl; header = h }
follows-value c m g w r t Foreign k h = record { state = refl; happens = refl; header = h }
follows-value c m g w r t Mark k h = follows-mark c m g w r t.word k h
follows-value c m g w r t Section k h = record { state = refl; happens = refl; header = h }
follows-value c m g w r t Wrong k h = follows-breaks g w r t.place causes.Token h

words-alike : (m : ValueRules) (word : List ℕ) → value_word_by m word ≡ value_word_by (of_values m) word
unfolding value_word_by
words-alike m [] = refl
words-alike m (b ∷ []) = refl
words-alike m (b ∷ a ∷ bs) = refl

follows-word : (c : Choice) (m : ValueRules) (g : Declared) (w : Wiring) (r : DumpState Wiring) (t : Token)
    (v : ValueWord) → IsTaken c g.header w → r.header ≡ w
    → Follows g w (word_step (choosing c m) (behind g r) t v) (word_step (wired (of_values m)) r t v)
follows-word c m g w r t v k h =
    follows-if g w (not (m.takes_any && may_be_long v) && is_long t.word) (breaks (behind g r) t.place causes.Token)
    (value_step (choosing c m) (behind g r) t v) (breaks r t.place causes.Token)
    (value_step (wired (of_values m)) r t v) (follows-breaks g w r t.place causes.Token h)
    (follows-value c m g w r t v k h)

follows-short : (g : Declared) (w : Wiring) (r : DumpState Wiring) (t : Token) (y : Step (List Declaration))
    (z : Step Wiring) → r.header ≡ w → Follows g w y z → Follows g w (if_short (behind g r) t y) (if_short r t z)
follows-short g w r t y z h p =
    follows-if g w (is_long t.word) (breaks (behind g r) t.place causes.Token) y (breaks r t.place causes.Token) z
    (follows-breaks g w r t.place causes.Token h) p

-- a section behind the header is one more
follows-section : (g : Declared) (w : Wiring) (r : DumpState Wiring) (section : DumpSection) → r.header ≡ w
    → Follows g w
    (moves_to (record (behind g r) { remarks = (g.remarks ++ r.remarks) ++ section ∷ [] }) AtValues)
    (moves_to (record r { remarks = r.remarks ++ section ∷ [] }) AtValues)
follows-section g w r section h = record {
  state = λ i. record (behind g r) {
    spot = AtValues;
    remarks = append_assoc g.remarks r.remarks (section ∷ []) i;
  };
  happens = refl;
  header = h;
}

-- the state at a spot
abbrev placed : DumpState Wiring → Spot → DumpState Wiring
placed s spot = record s { spot = spot }

follows-at : (c : Choice) (m : ValueRules) (g : Declared) (w : Wiring) (spot : Spot) (r : DumpState Wiring) (t : Token)
    → IsTaken c g.header w → r.header ≡ w → is_past_header_at spot ≡ true
    → Follows g w (step_at (choosing c m) spot (behind g (placed r spot)) t)
    (step_at (wired (of_values m)) spot (placed r spot) t)
follows-at c m g w AtPreface r t k h e = cc e
follows-at c m g w AtHeader r t k h e = cc e
follows-at c m g w (InSection section) r t k h e = cc e
follows-at c m g w AtValues r t k h e =
    let p = placed r AtValues in
    let v = value_word_by (of_values m) t.word in
    subst (λ x. Follows g w (word_step (choosing c m) (behind g p) t x) (word_step (wired (of_values m)) p t v))
    (sym (words-alike m t.word)) (follows-word c m g w p t v k h)
follows-at c m g w (AtCode from digits) r t k h e =
    let p = placed r (AtCode from digits) in
    let taps = taps_in r.header.codes t.word in
    subst (λ x. Follows g w (if_short (behind g p) t (vector_step (choosing c m) (behind g p) t.place from digits x))
    (if_short p t (vector_step (wired (of_values m)) p t.place from digits taps))) (taps-alike c g w p t.word k h)
    (follows-short g w p t (vector_step (choosing c m) (behind g p) t.place from digits taps)
    (vector_step (wired (of_values m)) p t.place from digits taps) h
    (follows-vector c m g w p t.place from digits taps h))
follows-at c m g w (AtOtherCode from) r t k h e =
    let p = placed r (AtOtherCode from) in
    let taps = taps_in r.header.codes t.word in
    subst (λ x. Follows g w (if_short (behind g p) t (other_step (behind g p) t.place x))
    (if_short p t (other_step p t.place taps))) (taps-alike c g w p t.word k h)
    (follows-short g w p t (other_step (behind g p) t.place taps) (other_step p t.place taps) h
    (follows-other g w p t.place taps h))
follows-at c m g w (InRemark section) r t k h e =
    let p = placed r (InRemark section) in
    let s = behind g p in
    follows-if g w (is_end t.word)
    (moves_to (record s { remarks = s.remarks ++ section ∷ [] }) AtValues) (moves_to s (InRemark (with_word section t.word)))
    (moves_to (record p { remarks = p.remarks ++ section ∷ [] }) AtValues) (moves_to p (InRemark (with_word section t.word)))
    (follows-section g w p section h) (record { state = refl; happens = refl; header = h })

follows-step : (c : Choice) (m : ValueRules) (g : Declared) (w : Wiring) (r : DumpState Wiring) (t : Token)
    → IsTaken c g.header w → r.header ≡ w → is_past_header_at r.spot ≡ true
    → Follows g w (step (choosing c m) (behind g r) t) (step (wired (of_values m)) r t)
unfolding step
follows-step c m g w r t k h e =
    follows-if g w (is_some r.fault) (reads_past (behind g r)) (step_at (choosing c m) r.spot (behind g r) t)
    (reads_past r) (step_at (wired (of_values m)) r.spot r t) (follows-past g w r h)
    (follows-at c m g w r.spot r t k h e)

-- ---- tokens

-- tokens behind a header do the same
record Goes (c : Choice) (m : ValueRules) (g : Declared) (r : DumpState Wiring) (ts : List Token) : Type 0 where
  state : state_after (choosing c m) (behind g r) ts ≡ behind g (state_after (wired (of_values m)) r ts)
  happens : happenings_in (choosing c m) (behind g r) ts ≡ happenings_in (wired (of_values m)) r ts

going : (c : Choice) (m : ValueRules) (g : Declared) (w : Wiring) (r : DumpState Wiring) (ts : List Token)
    → IsTaken c g.header w → r.header ≡ w → is_past_header_at r.spot ≡ true → Goes c m g r ts
going c m g w r [] k h e = record { state = refl; happens = refl }
going c m g w r (t ∷ ts) k h e =
    let one = follows-step c m g w r t k h e in
    let next = (step (wired (of_values m)) r t).state in
    let rest = going c m g w next ts k one.header (past-behind (wired (of_values m)) r (t ∷ []) e) in
    record {
      state = ap (λ s. state_after (choosing c m) s ts) one.state ∙ rest.state;
      happens = (λ i. one.happens i ++ happenings_in (choosing c m) (one.state i) ts)
          ∙ ap (λ hs. (step (wired (of_values m)) r t).happenings ++ hs) rest.happens;
    }

-- a header's end is where the wires begin
at-begin : (c : Choice) (m : ValueRules) (w : Wiring) (hs : List Token) → IsHeader m hs
    → state_of (choosing c m) hs ≡ behind (gathered_in m hs) (begun w)
at-begin c m w hs e = known-at-end c m hs e ∙ begins-at-end m w hs e

pub known-behind : (c : Choice) (m : ValueRules) (w : Wiring) (hs ts : List Token) → IsHeader m hs
    → IsTaken c (gathered_in m hs).header w
    → state_of (choosing c m) (hs ++ ts) ≡ behind (gathered_in m hs) (known_after (of_values m) w ts)
known-behind c m w hs ts e k =
    state-append (choosing c m) (first_state (choosing c m)) hs ts
    ∙ ap (λ s. state_after (choosing c m) s ts) (at-begin c m w hs e)
    ∙ (going c m (gathered_in m hs) w (begun w) ts k refl refl).state

pub happened-behind : (c : Choice) (m : ValueRules) (w : Wiring) (hs ts : List Token) → IsHeader m hs
    → IsTaken c (gathered_in m hs).header w
    → happenings_in (choosing c m) (first_state (choosing c m)) (hs ++ ts)
    ≡ unknown_from_here w.lines ++ happenings_in (wired (of_values m)) (begun w) ts
happened-behind c m w hs ts e k =
    happenings-append (choosing c m) (first_state (choosing c m)) hs ts
    ∙ (λ i. unknown-at-end c m hs e i ++ happenings_in (choosing c m) (at-begin c m w hs e i) ts)
    ∙ (λ i. unknown_from_here (sym k.lines i)
    ++ (going c m (gathered_in m hs) w (begun w) ts k refl refl).happens i)
