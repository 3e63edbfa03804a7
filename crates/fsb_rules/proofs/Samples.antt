-- What a sample says at the new clock.
use Rattle.std.proofs.Common.{◌≡◌, [], ◌∷◌, ◌++◌, length}
use Rattle.fsb_signal.specs.declared.sample.Sample.{Sample}
use Rattle.fsb_signal.specs.Samples.{response_of}
use Rattle.fsb_trace.specs.At.{Trace, responds_at, response_code_at}
use Rattle.fsb_laws.specs.OneMore.{responds}
use Rattle.fsb_laws.proofs.Interface.{one_more, responds_at-new, response_code_at-new}

pub responds-last : (h : Trace) (x : Sample) → responds_at (h ++ x ∷ []) (length h) ≡ responds x
responds-last h x = responds_at-new h x (h ++ x ∷ []) (one_more h x)

pub code-last : (h : Trace) (x : Sample) → response_code_at (h ++ x ∷ []) (length h) ≡ response_of x
code-last h x = response_code_at-new h x (h ++ x ∷ []) (one_more h x)

pub ruleset new_response = (responds-last, code-last)
