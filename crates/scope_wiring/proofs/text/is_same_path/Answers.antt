use Rattle.std.proofs.Common.{◌≡◌, ℕ, List, [], ◌∷◌, length, arith, refl}
use Rattle.scope_wiring.proofs.SamePaths.{bare_begins, bare_within, begun, on_both, apart, shorter, at_end}
use Rattle.scope_wiring.proofs.text.is_same_path.Goals as goal

empty : (l : List ℕ) → length l ≡ 0 → l ≡ []
empty [] h = refl
empty (b ∷ l) h = absurd (omega (arith, h))

pub loop-byte-init : goal.loop-byte-init
loop-byte-init c =
    rw c.bare_from-left.ensures rw c.bare_from-right.ensures
    (begun c.args.one.now c.args.other.now, bare_begins c.args.one.now, bare_begins c.args.other.now)

pub loop-byte-smaller : goal.loop-byte-smaller
loop-byte-smaller c =
    let within = bare_within c.in-Some.more.now in
    let one = c.bare_from-left-in-Some-split_first.ensures in
    let first = c.in-Some.ensures.cases.1 in
    rw one (omega (arith, within, first))

pub loop-byte-preserved : goal.loop-byte-preserved
loop-byte-preserved c =
    rw c.bare_from-left-in-Some-split_first.ensures rw c.bare_from-right-in-Some-split_first.ensures (
      on_both c.args.one.now c.args.other.now c.loop-byte.left.now c.loop-byte.right.now c.in-Some.more.now
          c.in-Some-split_first.rest.now c.in-Some.byte.now c.in-Some-split_first.same.now c.in-Some.ensures.cases.0
          c.in-Some-split_first.ensures.cases.0 c.loop-byte.invariant.1 c.loop-byte.invariant.2 c.loop-byte.invariant.0
          c.if-byte-same.false,
      bare_begins c.in-Some.more.now,
      bare_begins c.in-Some-split_first.rest.now,
    )

pub returns-in-None : goal.returns-in-None
returns-in-None c =
    shorter c.args.one.now c.args.other.now c.loop-byte.left.now c.loop-byte.right.now c.in-Some.more.now
    c.in-Some.byte.now c.in-Some.ensures.cases.0 (empty c.loop-byte.right.now c.in-None.ensures.cases)
    c.loop-byte.invariant.1 c.loop-byte.invariant.0

pub returns-then-byte-same : goal.returns-then-byte-same
returns-then-byte-same c =
    apart c.args.one.now c.args.other.now c.loop-byte.left.now c.loop-byte.right.now c.in-Some.more.now
    c.in-Some-split_first.rest.now c.in-Some.byte.now c.in-Some-split_first.same.now c.in-Some.ensures.cases.0
    c.in-Some-split_first.ensures.cases.0 c.loop-byte.invariant.1 c.loop-byte.invariant.2 c.loop-byte.invariant.0
    (let t = c.if-byte-same.true in grind (arith, t))

pub returns : goal.returns
returns c =
    let is = c.is_empty.ensures in
    let end =
    at_end c.args.one.now c.args.other.now c.loop-byte.left.now c.loop-byte.right.now
    (empty c.loop-byte.left.now c.in_default.ensures.cases) c.loop-byte.invariant.2 c.loop-byte.invariant.0 in
    grind (arith, is, end)
