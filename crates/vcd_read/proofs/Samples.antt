-- When the sample before a block is kept.
use Rattle.std.proofs.Common.{◌≡◌, Bool, List, [], ◌∷◌, slice_set, refl, sym, ◌∙◌}
use Rattle.fsb_signal.specs.declared.sample.Sample.{Sample}
use Rattle.fsb_signal.proofs.Interface.{same_sample}
use Rattle.vcd_grammar.specs.declared.level.Level.{Level}
use Rattle.vcd_grammar.specs.Levels.{control_of}
use Rattle.vcd_grammar.specs.Values.{sample_at}
use Rattle.vcd_read.specs.Lines.{SampleKept}

-- a sample takes nothing of the clock
pub sample_at-clock : (levels : List Level) (x : Level) → sample_at (slice_set levels 0 x) ≡ sample_at levels
unfolding sample_at control_of
sample_at-clock [] x = refl
sample_at-clock (y ∷ levels) x = same_sample (sample_at (x ∷ levels)) (sample_at (y ∷ levels)) refl refl refl refl refl

-- a clock's change keeps the sample
pub kept_by-clock : (changed : Bool) (sample : Sample) (levels : List Level) (x : Level)
    → SampleKept changed sample levels → SampleKept changed sample (slice_set levels 0 x)
kept_by-clock changed sample levels x h = record { same = λ e. h.same e ∙ sym (sample_at-clock levels x) }
