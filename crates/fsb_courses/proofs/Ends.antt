-- The joint states that are possible before a clock are those with which a course ends.
use Rattle.std.proofs.Common.{ℕ, zero, suc, ◌+◌, ◌<◌, ◌≤◌, ◌≡◌, false, nat_lt, List, cond, ◌↔◌}
use Rattle.std.proofs.Common.{refl, sym, subst, add-one, arith, inl, inr}
use Rattle.std.specs.List.{Contains}
use Rattle.std.proofs.lemmas.Bool.{cases_lt, le-ltb, lt-ltb}
use Rattle.std.proofs.lemmas.List.Elements.{All-contains}
use Rattle.fsb_trace.specs.At.{Trace}
use Rattle.fsb_owners.specs.Joint.{Joint, every_joint, state_at}
use Rattle.fsb_owners.specs.Possible.{after_answer, after_begin, after_clock, after_snoop_end, possible, possible_begun, possible_shown}
use Rattle.fsb_owners.specs.Rules.{is_none_left}
use Rattle.fsb_owner_laws.specs.Losses.{AreCoherent}
use Rattle.fsb_owner_laws.proofs.Emptied.{coherent_possible}
use Rattle.fsb_owner_laws.proofs.Members.{Has}
use Rattle.fsb_courses.specs.Courses.{HasCourse, HasCourseTo, HasOneWriter, IsCourse, IsStep, MayMove, joint_after_snoop, line_snoop_at}
use Rattle.fsb_courses.proofs.Sets.{left_one, some_left}
use Rattle.fsb_courses.proofs.Writers.{from_writer, to_writer}
use Rattle.fsb_courses.proofs.Begins.{begin_in, begin_out}
use Rattle.fsb_courses.proofs.Snoops.{answer_in, answer_out, end_in, end_out}
use Rattle.fsb_courses.proofs.Unseen.{unseen_in, unseen_out}

-- one clock

-- where a joint state came from
pub record IsTakenOn (v : Trace) (line c : ℕ) (set : List Joint) (to : Joint) : Type 0 where
  pub from : Joint
  pub within : Contains set from
  pub step : IsStep v line c from to
  pub coherent : Contains every_joint to

pub clock_out : (v : Trace) (line c : ℕ) (set : List Joint) (y : Joint) → Has (Contains every_joint) set
    → Contains (after_clock v line c set) y → IsTakenOn v line c set y
unfolding after_clock
clock_out v line c set y a h =
    let begun = after_begin v line c set in
    let answered = after_answer v line c begun in
    let u = unseen_out v line c (after_snoop_end v line c answered) y h in
    let all = λ (x : Joint) (d : Contains answered x). a x (begin_out v line c set x (answer_out v line c begun x d).0).0 in
    let e = end_out v line c answered u.from all u.within in
    let w = answer_out v line c begun e.from e.within in
    let b = begin_out v line c set e.from w.0 in
    record {
      from = e.from;
      within = b.0;
      step = record {
        asked = b.1;
        answered = w.1;
        one_writer = subst (λ z. HasOneWriter z) (sym e.turned) (to_writer u.from e.coherent);
        moves = λ d l. subst (λ (z : Joint). MayMove v line c d (state_at z d) (state_at y d)) (sym e.turned) (u.moves d l);
      };
      coherent = u.coherent;
    }

-- what a joint state passes in the clock

pub begun_by : (v : Trace) (line c : ℕ) (set : List Joint) (x y : Joint) → Contains set x → IsStep v line c x y
    → Contains (after_begin v line c set) x
begun_by v line c set x y h s = begin_in v line c set x h s.asked

pub answered_by : (v : Trace) (line c : ℕ) (set : List Joint) (x y : Joint) → Contains set x → IsStep v line c x y
    → Contains (after_answer v line c (after_begin v line c set)) x
answered_by v line c set x y h s =
    answer_in v line c (after_begin v line c set) x (begun_by v line c set x y h s) s.answered

pub clock_in : (v : Trace) (line c : ℕ) (set : List Joint) (x y : Joint) → Contains set x → IsStep v line c x y
    → Contains every_joint y → Contains (after_clock v line c set) y
unfolding after_clock
clock_in v line c set x y h s cy =
    let answered = after_answer v line c (after_begin v line c set) in
    let z = joint_after_snoop v c (line_snoop_at v line c) x in
    let cz = from_writer z s.one_writer in
    unseen_in v line c (after_snoop_end v line c answered) z y
    (end_in v line c answered x (answered_by v line c set x y h s) cz) cz cy s.moves

-- a course, one clock on

extended : (ℕ → Joint) → ℕ → Joint → ℕ → Joint
extended course n y c = cond (nat_lt n c) y (course c)

extended-low : (course : ℕ → Joint) (n c : ℕ) (y : Joint) → c ≤ n → extended course n y c ≡ course c
unfolding extended
extended-low course n c y l = rw (le-ltb n c l) refl

extended-high : (course : ℕ → Joint) (n c : ℕ) (y : Joint) → n < c → extended course n y c ≡ y
unfolding extended
extended-high course n c y l = rw (lt-ltb n c l) refl

step_between : (v : Trace) (line c : ℕ) (x y s t : Joint) → x ≡ s → y ≡ t → IsStep v line c s t → IsStep v line c x y
step_between v line c x y s t e f h =
    subst (λ z. IsStep v line c z y) (sym e) (subst (λ z. IsStep v line c s z) (sym f) h)

one_more : (first : List Joint) (v : Trace) (line n : ℕ) (course : ℕ → Joint) (y : Joint) → IsCourse first v line n course
    → IsStep v line n (course n) y → HasOneWriter y → IsCourse first v line (suc n) (extended course n y)
one_more first v line n course y k s w = record {
  begins = subst (λ z. Contains first z) (sym (extended-low course n 0 y (omega arith))) k.begins;
  one_writer = λ c l.
      elim (cases_lt n c) [
        | inl high ↦ subst (λ z. HasOneWriter z) (sym (extended-high course n c y high)) w
        | inr low ↦ subst (λ z. HasOneWriter z) (sym (extended-low course n c y low)) (k.one_writer c low)
      ];
  goes_on = λ c l.
      elim (cases_lt c n) [
        | inl before ↦ step_between v line c (extended course n y c) (extended course n y (c + 1)) (course c) (course (c + 1))
            (extended-low course n c y (omega (arith, before))) (extended-low course n (c + 1) y (omega (arith, before)))
            (k.goes_on c before)
        | inr last ↦
            let same : c ≡ n = omega (arith, l, last) in
            step_between v line c (extended course n y c) (extended course n y (c + 1)) (course c) y
            (extended-low course n c y (omega (arith, same))) (extended-high course n (c + 1) y (omega (arith, same)))
            (subst (λ m. IsStep v line m (course m) y) (sym same) s)
      ];
}

shorter : (first : List Joint) (v : Trace) (line m n : ℕ) (course : ℕ → Joint) → m ≤ n → IsCourse first v line n course
    → IsCourse first v line m course
shorter first v line m n course l k = record {
  begins = k.begins;
  one_writer = λ c b. k.one_writer c (omega (arith, b, l));
  goes_on = λ c b. k.goes_on c (omega (arith, b, l));
}

-- the sets are the ends of courses

all_coherent : (first : List Joint) (v : Trace) (line c : ℕ) → AreCoherent first
    → Has (Contains every_joint) (possible first v line c)
all_coherent first v line c a x h =
    All-contains (Contains every_joint) (possible first v line c) x (coherent_possible first v line c a) h

pub course_out : (first : List Joint) (v : Trace) (line c : ℕ) (x : Joint) → AreCoherent first
    → Contains (possible first v line c) x → HasCourseTo first v line c x
unfolding possible
course_out first v line zero x a h = record {
  course = λ c. x;
  is_course = record {
    begins = h;
    one_writer = λ c l. to_writer x (All-contains (Contains every_joint) first x a h);
    goes_on = λ c l. absurd (omega (arith, l));
  };
  ends = refl;
}
course_out first v line (suc c) x a h =
    let t = clock_out v line c (possible first v line c) x (all_coherent first v line c a) h in
    let k = course_out first v line c t.from a t.within in
    record {
      course = extended k.course c x;
      is_course = one_more first v line c k.course x k.is_course
          (subst (λ z. IsStep v line c z x) (sym k.ends) t.step) (to_writer x t.coherent);
      ends = extended-high k.course c (suc c) x (omega arith);
    }

pub course_in : (first : List Joint) (v : Trace) (line c : ℕ) (course : ℕ → Joint) → IsCourse first v line c course
    → Contains (possible first v line c) (course c)
unfolding possible
course_in first v line zero course k = k.begins
course_in first v line (suc c) course k =
    clock_in v line c (possible first v line c) (course c) (course (suc c))
    (course_in first v line c course (shorter first v line c (suc c) course (omega arith) k))
    (subst (λ m. IsStep v line c (course c) (course m)) (add-one c) (k.goes_on c (omega arith)))
    (from_writer (course (suc c)) (k.one_writer (suc c) (omega arith)))

pub ends_courses : (first : List Joint) (v : Trace) (line c : ℕ) (x : Joint) → AreCoherent first
    → Contains (possible first v line c) x ↔ HasCourseTo first v line c x
ends_courses first v line c x a = (
  λ h. course_out first v line c x a h,
  λ k. subst (λ z. Contains (possible first v line c) z) k.ends (course_in first v line c k.course k.is_course),
)

-- something is possible exactly where there is a course

pub some_course : (first : List Joint) (v : Trace) (line c : ℕ) → AreCoherent first
    → is_none_left (possible first v line c) ≡ false → HasCourse first v line c
some_course first v line c a e =
    let m = left_one (possible first v line c) e in
    let k = course_out first v line c m.0 a m.1 in
    record { course = k.course; is_course = k.is_course }

pub course_left : (first : List Joint) (v : Trace) (line n c : ℕ) → HasCourse first v line n → c ≤ n
    → is_none_left (possible first v line c) ≡ false
course_left first v line n c k l =
    some_left (possible first v line c) (k.course c)
    (course_in first v line c k.course (shorter first v line c n k.course l k.is_course))

pub course_begun : (first : List Joint) (v : Trace) (line n c : ℕ) → HasCourse first v line n → c < n
    → is_none_left (possible_begun first v line c) ≡ false
unfolding possible_begun
course_begun first v line n c k l =
    some_left (after_begin v line c (possible first v line c)) (k.course c)
    (begun_by v line c (possible first v line c) (k.course c) (k.course (c + 1))
    (course_in first v line c k.course (shorter first v line c n k.course (omega (arith, l)) k.is_course)) (k.is_course.goes_on c l))

pub course_shown : (first : List Joint) (v : Trace) (line n c : ℕ) → HasCourse first v line n → c < n
    → is_none_left (possible_shown first v line c) ≡ false
unfolding possible_begun possible_shown
course_shown first v line n c k l =
    some_left (after_answer v line c (after_begin v line c (possible first v line c))) (k.course c)
    (answered_by v line c (possible first v line c) (k.course c) (k.course (c + 1))
    (course_in first v line c k.course (shorter first v line c n k.course (omega (arith, l)) k.is_course)) (k.is_course.goes_on c l))
