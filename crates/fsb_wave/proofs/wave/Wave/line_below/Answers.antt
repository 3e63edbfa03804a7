use Rattle.std.proofs.Common.{◌≡◌, ◌-◌, length, slice_get, sym, ap, ◌∙◌, arith}
use Rattle.fsb_wave.specs.WaveText.{has_request, request_text, text_at, requests, lines_behind}
use Rattle.fsb_wave.specs.Wave.{kept_at, shown}
use Rattle.fsb_wave.proofs.Texts.{length-texts, line-request, line-behind}
use Rattle.fsb_wave.proofs.wave.Wave.line_below.Goals as goal

pub returns-then-i-requests : goal.returns-then-i-requests
returns-then-i-requests c =
    let clocks = kept_at c.args.self.now in
    let from = c.args.self.now.range.from in
    let n = shown c.args.self.now in
    let all = length-texts (has_request clocks) (text_at request_text clocks) from n in
    c.request.ensures
    ∙ sym (line-request clocks from n c.args.self.now.count c.args.i
    (omega (arith, all, c.requests-requests.ensures, c.if-i-requests.true)))

pub returns-else-i-requests : goal.returns-else-i-requests
returns-else-i-requests c =
    let clocks = kept_at c.args.self.now in
    let from = c.args.self.now.range.from in
    let n = shown c.args.self.now in
    let all = length-texts (has_request clocks) (text_at request_text clocks) from n in
    let count : c.requests-requests.result ≡ length (requests clocks from n) = c.requests-requests.ensures ∙ sym all in
    c.line_behind.ensures
    ∙ ap (λ k. slice_get (lines_behind clocks from n c.args.self.now.count) (c.args.i - k)) count
    ∙ sym (line-behind clocks from n c.args.self.now.count c.args.i (omega (arith, count, c.if-i-requests.false)))
