use Rattle.fsb_signal.specs.declared.lines.TheConstants.Lines.{DRDY}
use Rattle.std.proofs.Common.{◌≡◌, ◌<◌, Some, length, slice_get, sym, ap, ◌∙◌, arith}
use Rattle.fsb_wave.specs.WaveText.{data_text, asserts_at, text_at, transfers, lines_behind}
use Rattle.fsb_wave.specs.Wave.{kept_at, shown}
use Rattle.fsb_wave.proofs.Texts.{length-texts, line-transfer, line-last, line-past}
use Rattle.fsb_wave.proofs.wave.Wave.line_behind.Goals as goal

pub returns-then-i-transfers : goal.returns-then-i-transfers
returns-then-i-transfers c =
    let clocks = kept_at c.args.self.now in
    let from = c.args.self.now.range.from in
    let n = shown c.args.self.now in
    let all = length-texts (asserts_at clocks DRDY) (text_at data_text clocks) from n in
    c.transfer.ensures
    ∙ sym (line-transfer clocks from n c.args.self.now.count c.args.i
    (omega (arith, all, c.transfers-transfers.ensures, c.if-i-transfers.true)))

pub returns-then-i-transfers-2 : goal.returns-then-i-transfers-2
returns-then-i-transfers-2 c =
    let clocks = kept_at c.args.self.now in
    let from = c.args.self.now.range.from in
    let n = shown c.args.self.now in
    let all = length-texts (asserts_at clocks DRDY) (text_at data_text clocks) from n in
    let place : c.args.i ≡ length (transfers clocks from n) =
    omega (arith, all, c.transfers-transfers.ensures, c.if-i-transfers-2.true) in
    ap Some c.clocks_line.ensures
    ∙ sym (ap (slice_get (lines_behind clocks from n c.args.self.now.count)) place
    ∙ line-last clocks from n c.args.self.now.count)

pub returns-else-i-transfers-2 : goal.returns-else-i-transfers-2
returns-else-i-transfers-2 c =
    let clocks = kept_at c.args.self.now in
    let from = c.args.self.now.range.from in
    let n = shown c.args.self.now in
    let all = length-texts (asserts_at clocks DRDY) (text_at data_text clocks) from n in
    let past : length (transfers clocks from n) < c.args.i =
    omega (arith, all, c.transfers-transfers.ensures, c.if-i-transfers.false, c.if-i-transfers-2.false) in
    sym (line-past clocks from n c.args.self.now.count c.args.i past)
