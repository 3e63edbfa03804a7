-- What a wave keeps of the samples that it was fed.
use Rattle.std.proofs.Common.{◌≡◌, ◌≤◌, ◌-◌, ℕ, Bool, List, length, slice_get, ap, ◌∙◌, arith}
use Rattle.fsb_count.specs.Clocks.{count_where}
use Rattle.fsb_signal.specs.declared.sample.Sample.{Sample}
use Rattle.fsb_wave.specs.declared.wave.Wave.{Wave}
use Rattle.fsb_wave.specs.WaveText.{first_kept, reached, lines_over, wave_lines}
use Rattle.fsb_wave.specs.Wave.{Stands, kept_at, shown}
use Rattle.fsb_wave.proofs.Few.{count_few}
use Rattle.fsb_wave.proofs.Texts.{SameClocks, lines-same}

-- at most 64 clocks are drawn, so no more of them pass
pub few_where : (wave : Wave) (p : ℕ → Bool) → count_where p (shown wave) ≤ 64
few_where wave p = let few = wave.range.few in omega (arith, few, count_few p (shown wave))

-- the lines by what is kept are those of the history
pub kept_lines : (wave : Wave) (from to : ℕ) (h : List Sample) → Stands wave from to h
    → lines_over (kept_at wave) wave.range.from (shown wave) wave.count ≡ wave_lines h from to
unfolding kept_at
kept_lines wave from to h k =
    let n : ℕ = reached from to (length h) in
    let same : SameClocks from n (λ c. slice_get wave.kept (c - first_kept from)) (slice_get h) =
    (record {
      same = λ c some above below. k.keeps c above (omega (arith, some, below))
          (omega (arith, some, below));
    }) in
    ap (λ f. lines_over (λ c. slice_get wave.kept (c - first_kept f)) f (reached f wave.range.to wave.count)
    wave.count) k.begins
    ∙ ap (λ t. lines_over (λ c. slice_get wave.kept (c - first_kept from)) from (reached from t wave.count)
    wave.count) k.ends
    ∙ ap (λ m. lines_over (λ c. slice_get wave.kept (c - first_kept from)) from (reached from to m) m) k.counts
    ∙ lines-same (λ c. slice_get wave.kept (c - first_kept from)) (slice_get h) from n (length h) same
