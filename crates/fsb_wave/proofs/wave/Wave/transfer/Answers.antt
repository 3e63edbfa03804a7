use Rattle.fsb_signal.specs.declared.lines.TheConstants.Lines.{DRDY}
use Rattle.fsb_wave.specs.WaveText.{data_text, asserts_at, text_at}
use Rattle.fsb_wave.specs.Wave.{kept_at, shown}
use Rattle.fsb_wave.proofs.Texts.{texts-some, texts-none}
use Rattle.fsb_wave.proofs.wave.Wave.transfer.Goals as goal

pub returns-in-Some : goal.returns-in-Some
returns-in-Some c =
    texts-some (asserts_at (kept_at c.args.self.now) DRDY) (text_at data_text (kept_at c.args.self.now))
    c.args.self.now.range.from (shown c.args.self.now)
    c.args.k c.in-Some.place c.data_at.result.items c.in-Some.ensures.value c.data_at.ensures

pub returns-in-None : goal.returns-in-None
returns-in-None c =
    texts-none (asserts_at (kept_at c.args.self.now) DRDY) (text_at data_text (kept_at c.args.self.now))
    c.args.self.now.range.from (shown c.args.self.now)
    c.args.k c.in-None.ensures.value
