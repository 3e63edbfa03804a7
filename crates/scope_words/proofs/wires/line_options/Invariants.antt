-- The options so far are what the words so far say.
use Rattle.std.proofs.Common.{◌≡◌, Some, map, take}
use Rattle.scope_wiring.specs.Settling.{said_by}
use Rattle.scope_wiring.specs.Texts.{said}
use Rattle.scope_words.proofs.wires.line_options.Given as goal

abbrev pub invariant-loop-word : goal.invariant-loop-word
invariant-loop-word l =
    map (λ o. Some (said_by o)) l.options.items ≡ map (λ w. said w.now) (take l.word-index l.words)
