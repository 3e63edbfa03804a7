-- The five request lines, held where no request began.
use Rattle.std.proofs.Common.{ℕ, zero, suc, ◌-◌, ◌*◌, ◌^◌, ◌<◌, ◌≡◌, ◌==◌, ◌&&◌, not, min}
use Rattle.std.proofs.Common.{None, length, refl, sym, ◌∙◌, arith, w32}
use Rattle.std.specs.Int.{bit_at}
use Rattle.std.specs.Int.RustNames.{bit_and}
use Rattle.std.proofs.lemmas.Nat.{pow_pos}
use Rattle.std.proofs.lemmas.Nat.Bits.{and_pow, bit_at_and, bit_at_not}
use Rattle.fsb_count.specs.Options.{is_some_and}
use Rattle.fsb_signal.specs.declared.lines.Lines.{Lines}
use Rattle.fsb_signal.specs.declared.sample.Sample.{Sample}
use Rattle.fsb_trace.specs.declared.who.Who.{Who}
use Rattle.fsb_trace.specs.declared.who.Who.TheVariants.{Symmetric, Priority}
use Rattle.fsb_trace.specs.At.{Trace}
use Rattle.fsb_trace.specs.Winner.{is_agent, request_line_of, bus_request_of}
use Rattle.fsb_trace.specs.Rules.{is_asked_wrongly, is_some_asked_wrongly}
use Rattle.fsb_laws.specs.OneMore.{OneMore}
use Rattle.fsb_rules.specs.declared.checker.Checker.{Checker}
use Rattle.fsb_rules.specs.RequestLines.{has_request_line_by, is_dropped_by, is_some_dropped_by}
use Rattle.fsb_rules.specs.Recent.{asserted_back}
use Rattle.fsb_rules.specs.Checker.{Follows}
use Rattle.fsb_rules.proofs.Lines.{asserted_back-is}
use Rattle.fsb_rules.proofs.StartRules.{any_asked, asked}

values : (a m p : ℕ) → a < 2 → m < 2 → 0 < p → (min a (1 - m) * p == p) ≡ (a * p == p && not (m * p == p))
values zero zero (suc p) la lm l = grind arith
values zero (suc zero) (suc p) la lm l = grind arith
values (suc zero) zero (suc p) la lm l = grind arith
values (suc zero) (suc zero) (suc p) la lm l = grind arith
values a m zero la lm l = absurd (let no : ⊥ = omega arith in no)
values (suc (suc a)) m p la lm l = absurd (let no : ⊥ = omega arith in no)
values a (suc (suc m)) p la lm l = absurd (let no : ⊥ = omega arith in no)

-- a bit of `a & !m`
one_line : (a m j : ℕ) → m < 2 ^ 32 → j < 32
    → (bit_and (bit_and a (4294967295 - m)) (2 ^ j) == 2 ^ j)
    ≡ (bit_and a (2 ^ j) == 2 ^ j && not (bit_and m (2 ^ j) == 2 ^ j))
one_line a m j lm lj =
    let n : bit_at (4294967295 - m) j ≡ 1 - bit_at m j = bit_at_not w32 m j lm lj in
    rw (
      and_pow (bit_and a (4294967295 - m)) j,
      bit_at_and a (4294967295 - m) j,
      n,
      and_pow a j,
      and_pow m j,
    )
    (values (bit_at a j) (bit_at m j) (2 ^ j) (omega arith) (omega arith) (pow_pos j))

-- the lines of a clock that are not among those of the next are those that are dropped
pub gone_lines : (was now : Lines) → now.0 < 2 ^ 32
    → has_request_line_by (record { 0 = bit_and was.0 (4294967295 - now.0) }) ≡ is_some_dropped_by was now
unfolding has_request_line_by is_some_dropped_by is_dropped_by
gone_lines was now l =
    rw (
      one_line was.0 now.0 0 l (omega arith),
      one_line was.0 now.0 1 l (omega arith),
      one_line was.0 now.0 2 l (omega arith),
      one_line was.0 now.0 3 l (omega arith),
      one_line was.0 now.0 4 l (omega arith),
    )
    refl

-- an agent has a request line
pub request_line-some : (who : Who) → 0 < (request_line_of who).0
unfolding request_line_of bus_request_of
request_line-some (Symmetric zero) = let l : 0 < 1 = omega arith in l
request_line-some (Symmetric (suc zero)) = let l : 0 < 2 = omega arith in l
request_line-some (Symmetric (suc (suc zero))) = let l : 0 < 4 = omega arith in l
request_line-some (Symmetric (suc (suc (suc n)))) = let l : 0 < 8 = omega arith in l
request_line-some Priority = let l : 0 < 16 = omega arith in l

-- where no request began they are to be held
not_held : {k : Checker} {h : Trace} {x : Sample} {v : Trace} → Follows k h → OneMore h x v → k.beginner ≡ None
    → (who : Who) → is_asked_wrongly v (length h) who
    ≡ is_dropped_by (asserted_back h 1) x.lines (request_line_of who)
unfolding is_agent is_some_and is_dropped_by
not_held {k} {h} {x} {v} f m e who =
    asked f m who ∙ (rw (e, asserted_back-is (request_line_of who) h 1 (request_line-some who)) refl)

pub none_begun : {k : Checker} {h : Trace} {x : Sample} {v : Trace} → Follows k h → OneMore h x v
    → k.beginner ≡ None
    → is_some_dropped_by (asserted_back h 1) x.lines ≡ is_some_asked_wrongly v (length h)
unfolding request_line_of bus_request_of is_some_dropped_by
none_begun {k} {h} {x} {v} f m e =
    sym (any_asked v (length h) ∙ (rw (
      not_held f m e (Symmetric 0),
      not_held f m e (Symmetric 1),
      not_held f m e (Symmetric 2),
      not_held f m e (Symmetric 3),
      not_held f m e Priority,
    ) refl))
