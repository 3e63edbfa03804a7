use Rattle.fsb_wave.specs.WaveText.{has_request, request_text, text_at}
use Rattle.fsb_wave.specs.Wave.{kept_at, shown}
use Rattle.fsb_wave.proofs.Texts.{texts-some, texts-none}
use Rattle.fsb_wave.proofs.wave.Wave.request.Goals as goal

pub returns-in-Some : goal.returns-in-Some
returns-in-Some c =
    texts-some (has_request (kept_at c.args.self.now)) (text_at request_text (kept_at c.args.self.now))
    c.args.self.now.range.from (shown c.args.self.now)
    c.args.k c.in-Some.place c.request_at.result.items c.in-Some.ensures.value c.request_at.ensures

pub returns-in-None : goal.returns-in-None
returns-in-None c =
    texts-none (has_request (kept_at c.args.self.now)) (text_at request_text (kept_at c.args.self.now))
    c.args.self.now.range.from (shown c.args.self.now)
    c.args.k c.in-None.ensures.value
