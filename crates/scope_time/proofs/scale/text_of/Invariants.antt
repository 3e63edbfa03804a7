-- The text is that of the words so far.
use Rattle.std.proofs.Common.{◌≡◌, take}
use Rattle.scope_time.specs.Scales.{text_of}
use Rattle.scope_time.proofs.scale.text_of.Given as goal

abbrev pub invariant-loop-word : goal.invariant-loop-word
invariant-loop-word l = l.text.items ≡ text_of (take l.word-index l.words)
