use Rattle.fsb_why.proofs.Beginning.{coded-well, coded-faulty, coded-second, coded-first}
use Rattle.fsb_reasons.proofs.Interface.{back_parts}
use Rattle.fsb_signal.specs.declared.lines.TheConstants.Lines.{ADS}
use Rattle.fsb_why.proofs.look.Look.unlawful.Goals as goal

pub returns-in-Ok : goal.returns-in-Ok
returns-in-Ok c = λ m v s t.
    let l = (back_parts ADS v c.args.self.now.clock 1 t).0 in
    coded-well m v c.args.self.now.clock _ _ _ t (c.in-Some.ensures m v s l) (c.in-Some-second_words.ensures m v s)
    c.in-Ok.ensures.request

pub returns-in-Err : goal.returns-in-Err
returns-in-Err c = λ m v s t.
    let l = (back_parts ADS v c.args.self.now.clock 1 t).0 in
    coded-faulty m v c.args.self.now.clock _ _ _ t (c.in-Some.ensures m v s l) (c.in-Some-second_words.ensures m v s)
    c.in-Err.ensures.request c.in-Err.ensures.value

pub returns-in-None-second_words : goal.returns-in-None-second_words
returns-in-None-second_words c = λ m v s t.
    let l = (back_parts ADS v c.args.self.now.clock 1 t).0 in
    coded-second m v c.args.self.now.clock _ t (c.in-Some.ensures m v s l) (c.in-None-second_words.ensures m v s)

pub returns-in-None : goal.returns-in-None
returns-in-None c = λ m v s t.
    let l = (back_parts ADS v c.args.self.now.clock 1 t).0 in
    coded-first m v c.args.self.now.clock _ c.saturating_sub.ensures t (c.in-None.ensures m v s l)
