-- What was copied to an empty sink reads back.
use Rattle.std.proofs.Common.{◌≡◌, ℕ, List, [], Bool, Ok, subst, sym}
use Rattle.fsb_signal.specs.declared.sample.Sample.{Sample}
use Rattle.vcd_grammar.specs.Reading.{Reads}
use Rattle.scope_wiring.specs.declared.wiring.Choice.{Choice}
use Rattle.scope_wiring.specs.declared.wiring.Wiring.{Wiring}
use Rattle.scope_way.specs.Wired.{wired_lines}
use Rattle.scope_check.specs.declared.part.Part.{Part}
use Rattle.scope_watch.specs.declared.header.Header.{Header}
use Rattle.scope_watch.specs.declared.values.Sampling.{Sampling}
use Rattle.scope_watch.specs.Watching.{rules_for}
use Rattle.scope_write.specs.Samples.{AreShown, marks_there}
use Rattle.scope_write.specs.Text.{shown_dump}
use Rattle.scope_silent.specs.Lines.{there_in}
use Rattle.scope_copy.specs.declared.copy.Copied.{Copied}
use Rattle.scope_copy.specs.declared.copy.CopiedText.{CopiedText}
use Rattle.scope_copy.specs.declared.copy.CopyFinding.{CopyFinding}
use Rattle.scope_copy.specs.declared.copy.CopyFinding.TheVariants as findings
use Rattle.scope_copy.specs.Copying.{IsCopiedText, IsCopyFinding, IsCopied, ReadsAsPart}

-- what reads back, for all lines and samples
abbrev ReadBack : Type 0
ReadBack = (there : List Bool) (w : List Sample) → AreShown there w → Reads (shown_dump there w) (marks_there there) w

text-reads : ReadBack → (told : CopiedText) (w : Wiring) (p : Part) (s : Sampling) (text dump : List ℕ)
    → IsCopiedText told p w.wires.items (rules_for s) text [] dump → ReadsAsPart dump told w p s text
text-reads back told w p s text dump h = record {
  samples = h.put.samples;
  of_part = h.put.of_part;
  clocks = h.put.clocks;
  reads = subst (λ x. Reads x (marks_there (there_in (wired_lines w.wires.items))) h.put.samples) (sym h.put.put)
      (back (there_in (wired_lines w.wires.items)) h.put.samples h.shown);
}

found-reads : ReadBack → (found : CopyFinding) (w : Wiring) (told : CopiedText) (choice : Choice) (p : Part) (s : Sampling)
    (h : Header) (text dump : List ℕ) → IsCopyFinding found choice p s h text [] dump
    → found ≡ findings.Copied w told → ReadsAsPart dump told w p s text
found-reads back found w told choice p s h text dump is e =
    text-reads back told w p s text dump (subst (λ x. IsCopyFinding x choice p s h text [] dump) e is).1

pub copied-reads : ReadBack → (copied : Copied) (w : Wiring) (told : CopiedText) (choice : Choice) (p : Part)
    (s : Sampling) (text dump : List ℕ) → IsCopied (Ok copied) choice p s text [] dump
    → copied.finding ≡ findings.Copied w told → ReadsAsPart dump told w p s text
copied-reads back copied w told choice p s text dump is e =
    found-reads back copied.finding w told choice p s copied.header text dump is e
