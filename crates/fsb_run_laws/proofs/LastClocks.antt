-- The last clock at which a request is outstanding shows in the samples up to it.
use Rattle.fsb_run_laws.proofs.Words
use Words.{ℕ, ◌+◌, ◌<◌, ◌≤◌, ◌≡◌, true, Some, length, sym, ap, ◌∙◌, inl, inr, arith, option_and_then, and_parts}
use Words.{cases_Bool, is_before, is_before-parts, AgreeTo, Trace, is_finished, last_clock_of, reply_end_of}
use Words.{reply_number_of, is_deferred, response_clock_of, is_live, live_clock_of, live_number_of, end_of}
use Words.{snoop_end_of, end_of-response, end_of-stays, is_deferred-stays, is_live-agree, live_clock_of-number}
use Words.{live_clock_of-stays, Orderly, deferred_response, end_after_clock, has_answer, last_clock_of-deferred}
use Words.{last_clock_of-plain, and-then, has-reply, live-at, reply-stays}

-- the end x of live request i, with its first clock, its snoop end and its response
pub record HasEnd (w : Trace) (i x : ℕ) : Type 0 where
  pub clock : ℕ
  pub is_clock : live_clock_of w i ≡ Some clock
  pub early : clock + 6 ≤ x
  pub response : ℕ
  pub is_response : response_clock_of w i ≡ Some response
  pub upto : response ≤ x
  pub snoop : ℕ
  pub is_snoop : snoop_end_of w i ≡ Some snoop
  pub before : snoop + 2 ≤ response

pub has-end : (w : Trace) (i x : ℕ) → Orderly w → end_of w i ≡ Some x → HasEnd w i x
has-end w i x o e =
    let k = end_after_clock w i x o e in
    let p = end_of-response w i x e in
    let a = has_answer w p.0 i (o.timely i p.0 p.1) in
    grind arith

-- an end below n stays, and so does whether its request is Deferred
end-carried : (n : ℕ) (a b : Trace) (i x : ℕ) → AgreeTo n a b → Orderly a → end_of a i ≡ Some x → x < n
    → (end_of b i ≡ Some x) × (is_deferred a i ≡ is_deferred b i)
end-carried n a b i x agree o e l =
    let k = has-end a i x o e in
    let upto = k.upto in
    let before = k.before in (
      end_of-stays n a b i k.snoop x agree (omega arith) k.is_snoop (omega arith) e,
      is_deferred-stays n a b i k.snoop k.response agree (omega arith) k.is_snoop (omega arith) k.is_response,
    )

-- the last clock x of live request i as outstanding: its first clock lies before, and it is its last clock wherever the
-- samples below n agree
pub record IsCarried (n : ℕ) (a b : Trace) (i x : ℕ) : Type 0 where
  pub clock : ℕ
  pub is_clock : live_clock_of a i ≡ Some clock
  pub early : clock + 6 ≤ x
  pub last : last_clock_of b i ≡ Some x

pub last-carried : (n : ℕ) (a b : Trace) (i x : ℕ) → AgreeTo n a b → Orderly a → last_clock_of a i ≡ Some x → x < n
    → IsCarried n a b i x
unfolding reply_end_of
last-carried n a b i x agree o e l =
    elim (cases_Bool (is_deferred a i)) [
      | inr plain ↦
          let end = sym (last_clock_of-plain a i plain) ∙ e in
          let k = has-end a i x o end in
          let c = end-carried n a b i x agree o end l in
          record {
            clock = k.clock;
            is_clock = k.is_clock;
            early = k.early;
            last = last_clock_of-plain b i (sym c.1 ∙ plain) ∙ c.0;
          }
      | inl deferred ↦
          let p = deferred_response a i deferred in
          let k = has-end a i p.0 o p.2 in
          let j = and-then (end_of a) (reply_number_of a i) x (sym (last_clock_of-deferred a i deferred) ∙ e) in
          let reply = has-reply a i j.0 j.1 in
          let m = has-end a j.0 x o j.2 in
          let late = m.early in
          let early = k.early in
          let first = reply.first in
          let is = m.is_clock in
          let same : reply.clock ≡ m.clock = cc in
          let answers = reply.is_response in
          let responds = p.1 in
          let there : reply.response ≡ p.0 = cc in
          let after = reply.after in
          let c = end-carried n a b i p.0 agree o p.2 (omega arith) in
          let number = reply-stays n a b i j.0 k.clock m.clock agree k.is_clock (omega arith) is (omega arith) j.1 in
          let end = (end-carried n a b j.0 x agree o j.2 l).0 in
          record {
            clock = k.clock;
            is_clock = k.is_clock;
            early = omega arith;
            last = last_clock_of-deferred b i (sym c.1 ∙ deferred) ∙ ap (option_and_then (end_of b)) number ∙ end;
          }
    ]

-- so does whether a request is finished
pub finished-carried : (n : ℕ) (a b : Trace) (q : ℕ) → AgreeTo n a b → Orderly a → q < length a
    → is_finished a n q ≡ true → is_finished b n q ≡ true
unfolding is_finished
finished-carried n a b q agree o within e =
    let i = live_number_of a q in
    let parts = and_parts (is_live a q) (is_before (last_clock_of a i) n) e in
    let x = is_before-parts (last_clock_of a i) n parts.1 in
    let k = last-carried n a b i x.0 agree o x.1 x.2 in
    let clock = live_clock_of-number a q within parts.0 in
    let same : k.clock ≡ q = cc in
    let there = live_clock_of-stays n a b i q agree (omega arith) clock in
    let number : live_number_of b q ≡ i = (live-at b i q there).number in
    grind (arith, is_live-agree)

-- what is finished began six clocks before at least
pub finished-late : (w : Trace) (n q : ℕ) → AgreeTo n w w → Orderly w → q < length w → is_finished w n q ≡ true
    → q + 6 < n
unfolding is_finished
finished-late w n q agree o within e =
    let i = live_number_of w q in
    let parts = and_parts (is_live w q) (is_before (last_clock_of w i) n) e in
    let x = is_before-parts (last_clock_of w i) n parts.1 in
    let k = last-carried n w w i x.0 agree o x.1 x.2 in
    let clock = live_clock_of-number w q within parts.0 in
    grind arith
