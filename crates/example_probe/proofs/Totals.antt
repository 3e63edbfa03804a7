-- The total of a trace with one sample more.
use Rattle.std.proofs.Common.{◌≡◌, ◌+◌, ◌<◌, ◌≤◌, ◌∷◌, ◌++◌, [], ℕ, List, Some, arith, ap, ◌∙◌, length, length-append, refl, sym}
use Rattle.std.proofs.lemmas.Grind.{common_steps}
use Rattle.std.proofs.lemmas.List.Sums.{sum_by-append}
use Rattle.std.proofs.lemmas.Option.{slice_get-get_or}
use Rattle.std.specs.List.{sum_by}
use Rattle.std.specs.Prelude.{slice_get, slice_index_or}
use Rattle.fsb_signal.specs.declared.sample.Sample.{Sample}
use Rattle.fsb_probe.specs.Weights.{total_weight}
use Rattle.example_probe.specs.Responses.{response_weight}

alone : (x : Sample) → sum_by response_weight (x ∷ []) ≡ response_weight x
alone x = grind (arith, common_steps)

-- one sample more adds its weight
pub one_more : (w : List Sample) (x : Sample)
    → total_weight response_weight (w ++ x ∷ []) ≡ total_weight response_weight w + response_weight x
one_more w x = sum_by-append response_weight w (x ∷ [])
    ∙ ap (λ n. total_weight response_weight w + n) (alone x)

-- a sample has one response at most
pub one_light : (x : Sample) → response_weight x ≤ 1
one_light x = grind (arith, common_steps)

at_end : (w : List Sample) (x : Sample) → slice_get (w ++ x ∷ []) (length w) ≡ Some x
at_end [] x = refl
at_end (y ∷ w) x = at_end w x

-- the sample that is read behind a trace is the one that was added
pub read_behind : (w v : List Sample) (s x : Sample) (at : ℕ) → v ≡ w ++ s ∷ [] → at ≡ length w
    → x ≡ slice_index_or v at x → v ≡ w ++ x ∷ []
read_behind w v s x at more same read =
    let longer : length v ≡ length w + 1 = ap length more ∙ length-append w (s ∷ []) in
    let there : at < length v = omega (arith, same, longer) in
    let here : slice_get v at ≡ Some x = slice_get-get_or v at x there ∙ ap Some (sym read) in
    let end : slice_get v at ≡ Some s = ap (λ u. slice_get u at) more
    ∙ ap (λ n. slice_get (w ++ s ∷ []) n) same ∙ at_end w s in
    let both : Some s ≡ Some x = sym end ∙ here in
    let e : s ≡ x = cc in
    more ∙ ap (λ y. w ++ y ∷ []) e
