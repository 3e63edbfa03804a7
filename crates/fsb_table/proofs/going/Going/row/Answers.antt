use Rattle.std.proofs.Common.{◌≡◌, ℕ, Some, true, false, sym, ap, subst, ◌∙◌}
use Rattle.fsb_trace.specs.At.{request_at}
use Rattle.fsb_trace.specs.Requests.{is_cancelled, is_live, live_clock_of, live_number_of}
use Rattle.fsb_table.specs.Going.{Stands}
use Rattle.fsb_table.proofs.Requests.{cancelled-seen, clock-live, clock-seen, live-begun, number-cancelled, number-live}
use Rattle.fsb_table.proofs.Requests.{request-seen, row-cancelled, row-live}
use Rattle.fsb_table.proofs.going.Going.row.Goals as goal

pub returns-then-seen-clause-row : goal.returns-then-seen-clause-row
returns-then-seen-clause-row c q seen asks stands =
    let w = c.args.w.now in
    c.cancelled_row.ensures
    ∙ row-cancelled w q c.args.seen seen (sym (cancelled-seen w q c.args.seen seen) ∙ c.if-seen.true)

pub returns-then-seen-clause-stands : goal.returns-then-seen-clause-stands
returns-then-seen-clause-stands c q seen asks stands =
    let w = c.args.w.now in
    subst (λ (n : ℕ). Stands c.args.self.now w n)
    (sym (number-cancelled w q (sym (cancelled-seen w q c.args.seen seen) ∙ c.if-seen.true))) stands

pub returns-else-seen-clause-row : goal.returns-else-seen-clause-row
returns-else-seen-clause-row c q seen asks stands =
    let w = c.args.w.now in
    let kept : is_cancelled w q ≡ false = sym (cancelled-seen w q c.args.seen seen) ∙ c.if-seen.false in
    let clock : c.args.seen.clock ≡ q = clock-seen w q c.args.seen seen in
    let live : live_clock_of w (live_number_of w q) ≡ Some c.args.seen.clock =
    clock-live w q asks (live-begun w q asks kept) ∙ ap (λ n. Some n) (sym clock) in
    c.live_row.ensures.row (live_number_of w q) stands live (request-seen w q c.args.seen seen
    ∙ ap (request_at w) (sym clock))
    ∙ row-live w q c.args.seen seen kept

pub returns-else-seen-clause-stands : goal.returns-else-seen-clause-stands
returns-else-seen-clause-stands c q seen asks stands =
    let w = c.args.w.now in
    let kept : is_cancelled w q ≡ false = sym (cancelled-seen w q c.args.seen seen) ∙ c.if-seen.false in
    let clock : c.args.seen.clock ≡ q = clock-seen w q c.args.seen seen in
    let alive : is_live w q ≡ true = live-begun w q asks kept in
    let live : live_clock_of w (live_number_of w q) ≡ Some c.args.seen.clock =
    clock-live w q asks alive ∙ ap (λ n. Some n) (sym clock) in
    subst (λ (n : ℕ). Stands c.live_row.new.self w n) (sym (number-live w q alive))
    (c.live_row.ensures.stands (live_number_of w q) stands live)
