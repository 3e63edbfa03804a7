-- What is so of each command that reads a dump in pieces.
use Rattle.std.proofs.Common.{◌≡◌, ◌-◌, ◌^◌, ℕ, List, Option, subst}
use Rattle.fsb_command.specs.Form.{Form, ask, gen, run}
use Rattle.fsb_calls.specs.FileSays.{FromLook, HasLookedAs, OfKind}
use Rattle.fsb_command.specs.Form.{Asked}
use Rattle.fsb_signal.specs.declared.marks.Marks.{Marks}
use Rattle.fsb_signal.specs.declared.sample.Sample.{Sample}
use Rattle.fsb_top.specs.Complete.{IsDumpWithin}
use Rattle.fsb_top.specs.FileRead.{DumpKind, file_of, in_pieces, kept_whole}
use Rattle.fsb_top.specs.Looks.{look_at}
use Rattle.fsb_top.specs.declared.status.Status.{Status}
use Rattle.fsb_headline.specs.Refusals.{IsNamedInPieces, IsReadInPieces, WasReadWhole}
use Rattle.std.proofs.Common.{Some}

of_kind : (kind : DumpKind) (dump name : List ℕ) (P Q : List ℕ → Type 0) → IsNamedInPieces kind dump name
    → OfKind kind (P dump) (Q dump) → P name
of_kind in_pieces dump name P Q same h = subst P same h
of_kind kept_whole dump name P Q same h = absurd same

pub pieces-of : (form : Form) (name : List ℕ) (P Q : List ℕ → Type 0) → IsReadInPieces form name
    → FromLook (Some form) P Q → P name
pieces-of (run bench dump) name P Q same h = absurd same
pieces-of (ask dump asked) name P Q same h = of_kind (look_at asked).kind dump name P Q same h
pieces-of (gen seed agents items) name P Q same h = absurd same

-- a dump that was looked at in pieces was read whole
whole_by : (kind : DumpKind) (Tells : Status → Marks → List Sample → Type 0) (status : Status)
    (dump name held left : List ℕ) (begun_as : Option (List ℕ)) → IsNamedInPieces kind dump name
    → HasLookedAs (file_of kind) Tells status dump held left begun_as
    → WasReadWhole (2 ^ 40) name held left begun_as × IsDumpWithin (2 ^ 40) (2 ^ 32 - 1) held
whole_by in_pieces Tells status dump name held left begun_as same h = (
  subst (λ (n : List ℕ). WasReadWhole (2 ^ 40) n held left begun_as) same
      (record { named = h.read.named; all = h.read.all; short = h.read.short }),
  record { short = h.read.short; marks = h.marks; trace = h.trace; reads = h.reads; few = h.few },
)
whole_by kept_whole Tells status dump name held left begun_as same h = absurd same

pub whole-of : (words : Option Form) (form : Form) (name held left : List ℕ) (begun_as : Option (List ℕ))
    (status : Status) (Tells : Asked → Status → Marks → List Sample → Type 0)
    → ((dump : List ℕ) (asked : Asked) → words ≡ Some (ask dump asked)
    → HasLookedAs (file_of (look_at asked).kind) (Tells asked) status dump held left begun_as)
    → IsReadInPieces form name → words ≡ Some form
    → WasReadWhole (2 ^ 40) name held left begun_as × IsDumpWithin (2 ^ 40) (2 ^ 32 - 1) held
whole-of words (run bench dump) name held left begun_as status Tells looked same e = absurd same
whole-of words (ask dump asked) name held left begun_as status Tells looked same e =
    whole_by (look_at asked).kind (Tells asked) status dump name held left begun_as same (looked dump asked e)
whole-of words (gen seed agents items) name held left begun_as status Tells looked same e = absurd same
