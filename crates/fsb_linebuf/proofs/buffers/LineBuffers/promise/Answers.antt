use Rattle.std.proofs.Common.{◌+◌, ◌++◌, ◌≡◌, ◌<◌, Bool, true, false, if◌then◌else◌, Some, None, length, drop, take}
use Rattle.std.proofs.Common.{map, set, get_or, sym, ap, ◌∙◌, arith, subst}
use Rattle.std.specs.List.{refill}
use Rattle.std.proofs.lemmas.Bool.{eq-eqb, ne_eqb}
use Rattle.std.proofs.lemmas.List.{get_or_default}
use Rattle.std.proofs.lemmas.List.Edits.{map_over_more}
use Rattle.fsb_linebuf.specs.Buffers.{OneALine, is_fill_on, promised_to, with_promise}
use Rattle.fsb_linebuf.specs.declared.entry.Fill.{Fill}
use Rattle.fsb_linebuf.proofs.FillLists.{one_a_line-promised, promised-all}
use Rattle.fsb_linebuf.proofs.buffers.LineBuffers.promise.Goals as goal
use Rattle.fsb_linebuf.proofs.buffers.LineBuffers.promise.Goals.{then-fill-line, else-fill-line}

pub loop-fill-preserved : goal.loop-fill-preserved
loop-fill-preserved c =
    let f = with_promise c.args.line c.args.to in
    let fills = c.as_mut_slice-fill-items.result.now in
    let items = c.loop-fill.fill-items in
    let k = c.loop-fill.fill-index in
    let x : Fill = get_or items k record { line = 0; number = 0; promise = None } in
    let within : k < length items = omega (arith, c.loop-fill.auto.fill-items) in
    let more : set items k (f x) ≡ map f (take (k + 1) fills) ++ drop (k + 1) fills =
    map_over_more f fills items k x c.loop-fill-test.true c.loop-fill.invariant (get_or_default items k _ x within) in
    let put : (b : Bool) → is_fill_on c.args.line x ≡ b
    → set items k (if b then record x { promise = Some c.args.to } else x) ≡ set items k (f x) =
    λ b e. ap (λ b. set items k (if b then record x { promise = Some c.args.to } else x)) (sym e) in
    elim c.if-fill-line.branch [
      | then-fill-line w ↦ w.fill-items-is ∙ put true (eq-eqb _ _ w.if-fill-line.true) ∙ more
      | else-fill-line w ↦ w.fill-items-is ∙ put false (ne_eqb _ _ w.if-fill-line.false) ∙ more
    ]

pub invariant_of-self : goal.invariant_of-self
invariant_of-self c =
    let fills = c.self.inside.fills.items in
    let start : c.as_mut_slice-fill-items.result.now ≡ fills = c.as_mut_slice-fill-items.ensures.value in
    let all : refill (length fills) fills c.loop-fill.fill-items ≡ promised_to c.args.line c.args.to fills =
    promised-all c.args.line c.args.to c.loop-fill.fill-index fills c.loop-fill.fill-items
    (c.loop-fill.invariant
    ∙ ap (λ xs. promised_to c.args.line c.args.to (take c.loop-fill.fill-index xs)
    ++ drop c.loop-fill.fill-index xs) start)
    (omega (arith, ap length start)) in
    subst OneALine (sym all) (one_a_line-promised c.args.line c.args.to fills c.self.invariant)
