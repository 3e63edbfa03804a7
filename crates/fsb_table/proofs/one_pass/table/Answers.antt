use Rattle.std.proofs.Common.{◌≡◌, ℕ, ◌+◌, ◌<◌, ◌++◌, ◌∷◌, [], true, false, length, take, sym, ap, subst, ◌∙◌, arith}
use Rattle.fsb_signal.specs.declared.lines.TheConstants.Lines.{ADS}
use Rattle.fsb_signal.specs.Samples.{line_at}
use Rattle.fsb_arbiter.specs.Arbiter.{Stands as ArbiterStands}
use Rattle.fsb_trace.specs.Requests.{live_number_of}
use Rattle.fsb_trace.specs.At.{Trace}
use Rattle.fsb_table.specs.Going.{Stands}
use Rattle.fsb_table.proofs.Requests.{line-of, number-idle, number-start, rows_before, rows_before-begun}
use Rattle.fsb_table.proofs.Requests.{rows_before-end, rows_before-kept, rows_before-start, taken-more, winner-before}
use Rattle.fsb_table.proofs.one_pass.table.Goals as goal
use Rattle.fsb_table.proofs.one_pass.table.Goals.{then-has+in_ok-push, else-has}

pub loop-q-init : goal.loop-q-init
loop-q-init c = record {
  rows = c.new-rows.ensures.items ∙ sym (rows_before-start c.args.w.now);
  arbiter = c.new-arbiter.ensures;
  going = subst (λ (n : ℕ). Stands c.new-going.result c.args.w.now n) (sym (number-start c.args.w.now))
      (c.new-going.ensures c.args.w.now);
}

pub seen_at-seen-requires-clause-winner : goal.seen_at-seen-requires-clause-winner
seen_at-seen-requires-clause-winner c =
    let w = c.args.w.now in
    let q = c.loop-q.q in
    let below : q < length w = c.loop-q-test.true in
    c.winner.ensures (take q w) c.loop-q.invariant.arbiter ∙ winner-before w q (omega (arith, below))

pub loop-q-preserved : goal.loop-q-preserved
loop-q-preserved c =
    let w = c.args.w.now in
    let q = c.loop-q.q in
    let below : q < length w = c.loop-q-test.true in
    let x = c.index-w-q.result in
    let line = line-of w q x below c.index-w-q.is in
    record {
      rows = elim c.if-has.branch [
        | then-has+in_ok-push b ↦
            let asks : line_at ADS w q ≡ true = line ∙ sym c.has.ensures ∙ b.if-has.true in
            ap (λ r. r.items) b.rows-is ∙ b.in_ok-push.ensures.items
            ∙ ap (λ l. l ++ b.row.result ∷ []) c.loop-q.invariant.rows
            ∙ ap (λ r. rows_before w q ++ r ∷ [])
            (b.row.ensures.row q b.seen_at-seen.ensures asks c.loop-q.invariant.going)
            ∙ sym (rows_before-begun w q asks)
        | else-has b ↦ ap (λ r. r.items) b.rows-is ∙ c.loop-q.invariant.rows
            ∙ sym (rows_before-kept w q (line ∙ sym c.has.ensures ∙ b.if-has.false))
      ];
      arbiter = subst (λ (h : Trace). ArbiterStands c.absorb.new.self h)
          (sym (taken-more w q x below c.index-w-q.is)) (c.absorb.ensures (take q w) c.loop-q.invariant.arbiter);
      going = elim c.if-has.branch [
        | then-has+in_ok-push b ↦
            let asks : line_at ADS w q ≡ true = line ∙ sym c.has.ensures ∙ b.if-has.true in
            subst (λ g. Stands g w (live_number_of w (q + 1))) (sym b.going-is)
            (b.row.ensures.stands q b.seen_at-seen.ensures asks c.loop-q.invariant.going)
        | else-has b ↦
            let idle : line_at ADS w q ≡ false = line ∙ sym c.has.ensures ∙ b.if-has.false in
            subst (λ g. Stands g w (live_number_of w (q + 1))) (sym b.going-is)
            (subst (λ (n : ℕ). Stands c.loop-q.going w n) (sym (number-idle w q idle)) c.loop-q.invariant.going)
      ];
    }

pub returns : goal.returns
returns c =
    let end : c.loop-q.q ≡ length c.args.w.now = omega (arith, c.loop-q-test.false) in
    c.loop-q.invariant.rows ∙ ap (rows_before c.args.w.now) end ∙ rows_before-end c.args.w.now
