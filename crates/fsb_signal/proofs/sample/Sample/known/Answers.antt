use Rattle.std.proofs.Common.{sym, ◌∙◌, refl, ap}
use Rattle.std.proofs.Math.Nat.{mod-eq_of_lt}
use Rattle.fsb_signal.specs.Samples.{known_word}
use Rattle.fsb_signal.proofs.SameSample.{same_sample}
use Rattle.fsb_signal.proofs.sample.Sample.known.Goals as goal

pub returns : goal.returns
returns c =
    same_sample _ _
    (ap (λ n. record { 0 = n }) (sym (mod-eq_of_lt c.requires.lines)))
    refl
    (c.known.ensures ∙ ap known_word (c.from.ensures ∙ sym (mod-eq_of_lt c.requires.req)))
    (c.known-2.ensures ∙ ap known_word (sym (mod-eq_of_lt c.requires.addr)))
    c.known-3.ensures
