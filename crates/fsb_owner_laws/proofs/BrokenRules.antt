-- Which rule is broken where a set loses its last joint state at a request or at a snoop end.
use Rattle.std.proofs.Common.{ℕ, ◌-◌, ◌<◌, ◌≡◌, Bool, true, false, ◌&&◌, ◌||◌, not, nat_le, nat_lt, List, Option, Some, None}
use Rattle.std.proofs.Common.{refl, sym, ap, ◌∙◌, arith, if◌then◌else◌}
use Rattle.std.proofs.lemmas.Bool.{and_parts, both_ways}
use Rattle.std.proofs.lemmas.Bool.Decides.{nat_tests}
use Rattle.fsb_count.specs.Options.{is_at, is_some_and}
use Rattle.fsb_signal.specs.declared.lines.TheConstants.Lines.{ADS, HIT, HITM}
use Rattle.fsb_signal.specs.Samples.{line_at}
use Rattle.fsb_line.specs.declared.purpose.Purpose.{Purpose}
use Rattle.fsb_line.specs.declared.purpose.Purpose.TheVariants.{Own, Read, Upgrade, WriteBack}
use Rattle.fsb_line.specs.Links.{upgrades}
use Rattle.fsb_line.specs.States.{gets_line}
use Rattle.fsb_trace.specs.At.{Trace, line_back, request_at}
use Rattle.fsb_trace.specs.Requests.{is_reply, line_of}
use Rattle.fsb_owners.specs.Joint.{Joint}
use Rattle.fsb_owners.specs.Possible.{after_answer, after_begin, asking, left_by, possible, possible_begun, possible_shown}
use Rattle.fsb_owners.specs.Rules.{at_answer, at_decoding, is_answer_unfit, is_asked_in_vain, is_begun_unfit, is_holder_lacking}
use Rattle.fsb_owners.specs.Rules.{is_holder_silent, is_none_left, is_of_write_back, is_owned_elsewhere, is_owner_lacking}
use Rattle.fsb_owners.specs.Rules.{is_owner_silent, is_upgrade_unfit, is_write_back_purpose, is_write_back_unfit}
use Rattle.fsb_owners.specs.Rules.{is_written_when_lost, of_answer, of_request}
use Rattle.fsb_owners.specs.Shown.{agent_at, is_for_line, is_held_back, is_spoiled, names, origin_clock_of, purpose_at}
use Rattle.fsb_owners.specs.Shown.{snooped_at}
use Rattle.fsb_owner_laws.proofs.Emptied.{Ender, at_ender, ender, step_by, with_agent, with_clock, with_kind, with_line}
use Rattle.fsb_owner_laws.proofs.Emptied.{with_number}

either_first : (a b : Bool) → a ≡ true → (a || b) ≡ true
either_first a b e = rw e refl

either_second : (a b : Bool) → b ≡ true → (a || b) ≡ true
either_second true b e = refl
either_second false b e = e

of_line : (o : Option ℕ) (line : ℕ) → is_at o line ≡ true → o ≡ Some line
unfolding is_at is_some_and
of_line None line e = absurd (let no : ⊥ = cc in no)
of_line (Some m) line e = ap (λ k. Some k) (let s : m ≡ line = grind (arith, nat_tests) in s)

-- the request that begins at q names the line, and the line is its
pub named : (v : Trace) (line q : ℕ) → names v line q ≡ true → (line_at ADS v q ≡ true) × (line_of v q ≡ Some line)
unfolding names
named v line q e =
    let outer = and_parts (line_at ADS v q && is_at (line_of v q) line) (not (is_reply (request_at v q))) e in
    let inner = and_parts (line_at ADS v q) (is_at (line_of v q) line) outer.0 in
    (inner.0, of_line (line_of v q) line inner.1)

-- the test of a request is the test of its line and its agent
pub of_request-at : (v : Trace) (line q a : ℕ) (test : ℕ → ℕ → Bool) → names v line q ≡ true → is_spoiled v line ≡ false
    → agent_at v q ≡ Some a → of_request v q test ≡ test line a
unfolding of_request is_some_and
of_request-at v line q a test n s g =
    let l : line_of v q ≡ Some line = (named v line q n).1 in
    rw (l, n, s, g) refl

-- a request that leaves none names the line, and its agent and kind are known
record Begun (b : Bool) (o : Option ℕ) (k : Option Purpose) : Type 0 where
  pub names_line : b ≡ true
  pub agent : ℕ
  pub has_agent : o ≡ Some agent
  pub kind : Purpose
  pub has_kind : k ≡ Some kind

begun_parts : (set : List Joint) (b : Bool) (o : Option ℕ) (k : Option Purpose) → is_none_left set ≡ false
    → is_none_left (if b then asking o k set else set) ≡ true → Begun b o k
unfolding asking
begun_parts set false o k n e = absurd (both_ways (is_none_left set) n e)
begun_parts set true None k n e = absurd (both_ways (is_none_left set) n e)
begun_parts set true (Some a) None n e = absurd (both_ways (is_none_left set) n e)
begun_parts set true (Some a) (Some kind) n e =
    record { names_line = refl; agent = a; has_agent = refl; kind = kind; has_kind = refl }

pub decoded : (v : Trace) (line d a : ℕ) (test : ℕ → ℕ → ℕ → Bool) → 0 < d → names v line (d - 1) ≡ true
    → is_spoiled v line ≡ false
    → agent_at v (d - 1) ≡ Some a → test (d - 1) line a ≡ true → at_decoding v d test ≡ true
unfolding at_decoding line_back
decoded v line d a test l n s g t =
    let later : nat_le 1 d ≡ true = grind (arith, nat_tests) in
    rw (later, (named v line (d - 1) n).0, of_request-at v line (d - 1) a (test (d - 1)) n s g, t) refl

begun_unfit : (first : List Joint) (is_kind : Purpose → Bool) (v : Trace) (q line : ℕ) (kind : Purpose)
    → purpose_at v q ≡ Some kind → is_kind kind ≡ true → is_none_left (possible first v line q) ≡ false
    → is_none_left (possible_begun first v line q) ≡ true → is_begun_unfit first is_kind v q line ≡ true
unfolding is_begun_unfit is_some_and
begun_unfit first is_kind v q line kind k t n e = rw (k, t, n, e) refl

one_broken : (first : List Joint) (v : Trace) (line d a : ℕ) (kind : Purpose) → 0 < d → is_spoiled v line ≡ false
    → names v line (d - 1) ≡ true → agent_at v (d - 1) ≡ Some a → purpose_at v (d - 1) ≡ Some kind
    → is_none_left (possible first v line (d - 1)) ≡ false → is_none_left (possible_begun first v line (d - 1)) ≡ true
    → (is_write_back_unfit first v d || is_upgrade_unfit first v d || is_asked_in_vain first v d) ≡ true
unfolding is_write_back_unfit is_upgrade_unfit is_asked_in_vain is_write_back_purpose is_some_and
one_broken first v line d a WriteBack l s n g k f e =
    either_first (is_write_back_unfit first v d || is_upgrade_unfit first v d) (is_asked_in_vain first v d)
    (either_first (is_write_back_unfit first v d) (is_upgrade_unfit first v d)
    (decoded v line d a (λ q line a. is_some_and (purpose_at v q) is_write_back_purpose
    && (is_begun_unfit first is_write_back_purpose v q line || is_held_back v line a q)) l n s g
    (rw (k, begun_unfit first is_write_back_purpose v (d - 1) line WriteBack k refl f e) refl)))
one_broken first v line d a Upgrade l s n g k f e =
    either_first (is_write_back_unfit first v d || is_upgrade_unfit first v d) (is_asked_in_vain first v d)
    (either_second (is_write_back_unfit first v d) (is_upgrade_unfit first v d)
    (decoded v line d a (λ q line a. is_begun_unfit first upgrades v q line) l n s g
    (begun_unfit first upgrades v (d - 1) line Upgrade k refl f e)))
one_broken first v line d a Read l s n g k f e =
    either_second (is_write_back_unfit first v d || is_upgrade_unfit first v d) (is_asked_in_vain first v d)
    (decoded v line d a (λ q line a. is_begun_unfit first gets_line v q line) l n s g
    (begun_unfit first gets_line v (d - 1) line Read k refl f e))
one_broken first v line d a Own l s n g k f e =
    either_second (is_write_back_unfit first v d || is_upgrade_unfit first v d) (is_asked_in_vain first v d)
    (decoded v line d a (λ q line a. is_begun_unfit first gets_line v q line) l n s g
    (begun_unfit first gets_line v (d - 1) line Own k refl f e))

pub begun_breaks : (first : List Joint) (v : Trace) (line d : ℕ) → 0 < d → is_spoiled v line ≡ false
    → is_none_left (possible first v line (d - 1)) ≡ false → is_none_left (possible_begun first v line (d - 1)) ≡ true
    → (is_write_back_unfit first v d || is_upgrade_unfit first v d || is_asked_in_vain first v d) ≡ true
unfolding possible_begun after_begin
begun_breaks first v line d l s f e =
    let p = begun_parts (possible first v line (d - 1)) (names v line (d - 1)) (agent_at v (d - 1)) (purpose_at v (d - 1)) f e in
    one_broken first v line d p.agent p.kind l s p.names_line p.has_agent p.has_kind f e

-- the request whose snoop ends at c, by its parts
pub record IsEnder (v : Trace) (line c : ℕ) (e : Ender) : Type 0 where
  pub number : snooped_at v c ≡ Some e.0
  pub for_line : is_for_line v line e.0 ≡ true
  pub clock : ℕ
  pub begins : origin_clock_of v e.0 ≡ Some clock
  pub agent : agent_at v clock ≡ Some e.1.0
  pub kind : purpose_at v clock ≡ Some e.1.1

kind_parts : (j a : ℕ) (o : Option Purpose) (e : Ender) → with_kind j a o ≡ Some e
    → (j ≡ e.0) × (a ≡ e.1.0) × (o ≡ Some e.1.1)
kind_parts j a None e h = absurd (let no : ⊥ = cc in no)
kind_parts j a (Some kind) e h =
    let s : (j, (a, kind)) ≡ e = cc in
    (ap (λ (t : Ender). t.0) s, ap (λ (t : Ender). t.1.0) s, ap (λ (t : Ender). Some t.1.1) s)

agent_parts : (j : ℕ) (o : Option ℕ) (k : Option Purpose) (e : Ender) → with_agent j o k ≡ Some e
    → (j ≡ e.0) × (o ≡ Some e.1.0) × (k ≡ Some e.1.1)
agent_parts j None k e h = absurd (let no : ⊥ = cc in no)
agent_parts j (Some a) k e h = let p = kind_parts j a k e h in (p.0, ap (λ n. Some n) p.1, p.2)

clock_parts : (v : Trace) (j : ℕ) (o : Option ℕ) (e : Ender) → with_clock v j o ≡ Some e
    → (q : ℕ) × (j ≡ e.0) × (o ≡ Some q) × (agent_at v q ≡ Some e.1.0) × (purpose_at v q ≡ Some e.1.1)
clock_parts v j None e h = absurd (let no : ⊥ = cc in no)
clock_parts v j (Some q) e h =
    let p = agent_parts j (agent_at v q) (purpose_at v q) e h in (q, p.0, refl, p.1, p.2)

line_parts : (b : Bool) (o : Option Ender) (e : Ender) → with_line b o ≡ Some e → (b ≡ true) × (o ≡ Some e)
line_parts true o e h = (refl, h)
line_parts false o e h = absurd (let no : ⊥ = cc in no)

number_parts : (v : Trace) (line c : ℕ) (o : Option ℕ) (e : Ender) → snooped_at v c ≡ o → with_number v line o ≡ Some e
    → IsEnder v line c e
number_parts v line c None e n h = absurd (let no : ⊥ = cc in no)
number_parts v line c (Some j) e n h =
    let l = line_parts (is_for_line v line j) (with_clock v j (origin_clock_of v j)) e h in
    let p = clock_parts v j (origin_clock_of v j) e l.1 in
    record {
      number = n ∙ ap (λ i. Some i) p.1;
      for_line = ap (is_for_line v line) (sym p.1) ∙ l.0;
      clock = p.0;
      begins = ap (origin_clock_of v) (sym p.1) ∙ p.2;
      agent = p.3;
      kind = p.4;
    }

pub ender_parts : (v : Trace) (line c : ℕ) (e : Ender) → ender v line c ≡ Some e → IsEnder v line c e
unfolding ender
ender_parts v line c e h = number_parts v line c (snooped_at v c) e refl h

pub named_by : (v : Trace) (line q : ℕ) (o : Option ℕ) → o ≡ Some q → is_some_and o (names v line) ≡ true → names v line q ≡ true
unfolding is_some_and
named_by v line q o e h = let t = rw e at h in t

-- the test of a snoop end that fits no joint state is that of its request
pub answered : (first : List Joint) (v : Trace) (line c : ℕ) (e : Ender) (test : ℕ → ℕ → ℕ → Bool) → IsEnder v line c e
    → is_spoiled v line ≡ false → is_none_left (possible_begun first v line c) ≡ false
    → is_none_left (possible_shown first v line c) ≡ true → of_answer first v c test ≡ test e.0 line e.1.0
unfolding of_answer is_some_and is_answer_unfit is_for_line
answered first v line c e test p s f g =
    let n : names v line p.clock ≡ true = named_by v line p.clock (origin_clock_of v e.0) p.begins p.for_line in
    rw (
      p.number,
      p.begins,
      of_request-at v line p.clock e.1.0 (λ line a. not (is_none_left (possible_begun first v line c))
          && is_none_left (possible_shown first v line c) && test e.0 line a) n s p.agent,
      f,
      g,
    ) refl

one_of_five : (w m h o r s t u x : Bool)
    → (((not w && m) || r) || ((not w && not m && o) || s) || ((not w && not m && not h && not o) || t)
    || ((not w && not m && h && not o) || u) || (w || x)) ≡ true
one_of_five true m h o r s t u x =
    either_second (((not true && m) || r) || ((not true && not m && o) || s) || ((not true && not m && not h && not o) || t)
    || ((not true && not m && h && not o) || u)) (true || x) refl
one_of_five false true h o r s t u x = refl
one_of_five false false h true r s t u x = grind (arith)
one_of_five false false true false r s t u x = grind (arith)
one_of_five false false false false r s t u x = grind (arith)

rules_of_answer : (first : List Joint) (v : Trace) (line c : ℕ) (e : Ender) → IsEnder v line c e
    → is_spoiled v line ≡ false → is_none_left (possible_begun first v line c) ≡ false
    → is_none_left (possible_shown first v line c) ≡ true
    → (is_owner_lacking first v c || is_owner_silent first v c || is_holder_silent first v c
    || is_holder_lacking first v c || is_written_when_lost first v c) ≡ true
unfolding is_owner_lacking is_owner_silent is_holder_silent is_holder_lacking is_written_when_lost at_answer
rules_of_answer first v line c e p s f g =
    let w = is_of_write_back v e.0 in
    let m = line_at HITM v c in
    let h = line_at HIT v c in
    let o = is_owned_elsewhere first v c line e.1.0 in
    rw (
      answered first v line c e (λ j line a. not (is_of_write_back v j) && line_at HITM v c) p s f g,
      answered first v line c e (λ j line a. not (is_of_write_back v j) && not (line_at HITM v c) && is_owned_elsewhere first v c line a) p s f g,
      answered first v line c e (λ j line a. not (is_of_write_back v j) && not (line_at HITM v c) && not (line_at HIT v c) && not (is_owned_elsewhere first v c line a)) p s f g,
      answered first v line c e (λ j line a. not (is_of_write_back v j) && not (line_at HITM v c) && line_at HIT v c && not (is_owned_elsewhere first v c line a)) p s f g,
      answered first v line c e (λ j line a. is_of_write_back v j) p s f g,
    )
    (one_of_five w m h o
    (nat_lt 0 c && of_answer first v (c - 1) (λ j line a. not (is_of_write_back v j) && line_at HITM v (c - 1)))
    (nat_lt 0 c && of_answer first v (c - 1) (λ j line a. not (is_of_write_back v j) && not (line_at HITM v (c - 1)) && is_owned_elsewhere first v (c - 1) line a))
    (nat_lt 0 c && of_answer first v (c - 1) (λ j line a. not (is_of_write_back v j) && not (line_at HITM v (c - 1)) && not (line_at HIT v (c - 1)) && not (is_owned_elsewhere first v (c - 1) line a)))
    (nat_lt 0 c && of_answer first v (c - 1) (λ j line a. not (is_of_write_back v j) && not (line_at HITM v (c - 1)) && line_at HIT v (c - 1) && not (is_owned_elsewhere first v (c - 1) line a)))
    (nat_lt 0 c && of_answer first v (c - 1) (λ j line a. is_of_write_back v j)))

broken_by : (first : List Joint) (v : Trace) (line c : ℕ) (o : Option Ender) → ender v line c ≡ o → is_spoiled v line ≡ false
    → is_none_left (possible_begun first v line c) ≡ false → is_none_left (possible_shown first v line c) ≡ true
    → is_none_left (step_by (left_by v c) o (possible_begun first v line c)) ≡ true
    → (is_owner_lacking first v c || is_owner_silent first v c || is_holder_silent first v c
    || is_holder_lacking first v c || is_written_when_lost first v c) ≡ true
broken_by first v line c None h s f g n = absurd (both_ways (is_none_left (possible_begun first v line c)) f n)
broken_by first v line c (Some e) h s f g n = rules_of_answer first v line c e (ender_parts v line c e h) s f g

pub shown_by : (first : List Joint) (v : Trace) (line c : ℕ)
    → possible_shown first v line c ≡ step_by (left_by v c) (ender v line c) (possible_begun first v line c)
unfolding possible_shown after_answer
shown_by first v line c = at_ender v line c (left_by v c) (possible_begun first v line c)

pub shown_breaks : (first : List Joint) (v : Trace) (line c : ℕ) → is_spoiled v line ≡ false
    → is_none_left (possible_begun first v line c) ≡ false → is_none_left (possible_shown first v line c) ≡ true
    → (is_owner_lacking first v c || is_owner_silent first v c || is_holder_silent first v c
    || is_holder_lacking first v c || is_written_when_lost first v c) ≡ true
shown_breaks first v line c s f g =
    broken_by first v line c (ender v line c) refl s f g
    (ap (λ set. is_none_left set) (sym (shown_by first v line c)) ∙ g)
