use Rattle.fsb_signal.specs.declared.lines.TheConstants.Lines.{DRDY}
use Rattle.std.proofs.Common.{◌+◌, arith}
use Rattle.fsb_wave.specs.WaveText.{has_request, request_text, data_text, asserts_at, text_at}
use Rattle.fsb_wave.specs.Wave.{kept_at, shown}
use Rattle.fsb_wave.proofs.Kept.{few_where}
use Rattle.fsb_wave.proofs.Texts.{length-lines, length-texts}
use Rattle.fsb_wave.proofs.wave.Wave.length.Goals as goal

pub returns-clause-value : goal.returns-clause-value
returns-clause-value c =
    let clocks = kept_at c.args.self.now in
    let from = c.args.self.now.range.from in
    let n = shown c.args.self.now in
    let a = length-texts (has_request clocks) (text_at request_text clocks) from n in
    let b = length-texts (asserts_at clocks DRDY) (text_at data_text clocks) from n in
    omega (arith, a, b, length-lines clocks from n c.args.self.now.count, c.requests.ensures, c.transfers.ensures)

pub overflow_add-result : goal.overflow_add-result
overflow_add-result c =
    let a = few_where c.args.self.now
    (λ place. has_request (kept_at c.args.self.now) (c.args.self.now.range.from + place)) in
    let b = few_where c.args.self.now
    (λ place. asserts_at (kept_at c.args.self.now) DRDY (c.args.self.now.range.from + place)) in
    omega (arith, a, b, c.requests.ensures)

pub overflow_add-result-2 : goal.overflow_add-result-2
overflow_add-result-2 c =
    let a = few_where c.args.self.now
    (λ place. has_request (kept_at c.args.self.now) (c.args.self.now.range.from + place)) in
    let b = few_where c.args.self.now
    (λ place. asserts_at (kept_at c.args.self.now) DRDY (c.args.self.now.range.from + place)) in
    omega (arith, a, b, c.requests.ensures, c.transfers.ensures)

pub overflow_add-result-3 : goal.overflow_add-result-3
overflow_add-result-3 c =
    let a = few_where c.args.self.now
    (λ place. has_request (kept_at c.args.self.now) (c.args.self.now.range.from + place)) in
    let b = few_where c.args.self.now
    (λ place. asserts_at (kept_at c.args.self.now) DRDY (c.args.self.now.range.from + place)) in
    omega (arith, a, b, c.requests.ensures, c.transfers.ensures)

pub returns-clause-few : goal.returns-clause-few
returns-clause-few c =
    let a = few_where c.args.self.now
    (λ place. has_request (kept_at c.args.self.now) (c.args.self.now.range.from + place)) in
    let b = few_where c.args.self.now
    (λ place. asserts_at (kept_at c.args.self.now) DRDY (c.args.self.now.range.from + place)) in
    omega (arith, a, b, c.requests.ensures, c.transfers.ensures)
