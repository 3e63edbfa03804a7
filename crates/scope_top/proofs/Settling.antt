-- The part that words name in a dump whose header was read.
use Rattle.std.proofs.Common.{ℕ, List, Ok, inr}
use Rattle.scope_watch.specs.declared.header.Begun.{Begun}
use Rattle.scope_watch.specs.Heading.{IsHeaded}
use Rattle.scope_words.specs.declared.order.Part.{Part as Words}
use Rattle.scope_top.specs.declared.settled.Settled.{Settled}
use Rattle.scope_top.specs.declared.settled.Settled.TheVariants as settlings
use Rattle.scope_top.specs.Performing.{EndsNamed, EndsScaled}

pub scaled_named : (words : Words) (dumped : List ℕ) (begun : Begun) (left : List ℕ) → IsHeaded (Ok begun) dumped left
    → (s : Settled) → EndsScaled words begun.header s → EndsNamed words dumped s
scaled_named words dumped begun left h (settlings.Part part) e = inr (record {
  begun = begun;
  has_header = record { left = left; is_headed = h };
  part_is = e;
})
scaled_named words dumped begun left h (settlings.Unsettled answer) e = inr (
  record {
    begun = begun;
    has_header = record { left = left; is_headed = h };
    part_is = e.0;
  },
  e.1,
)
