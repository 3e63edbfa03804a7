-- The request that begins is what its agent wants, and has the ID of that want.
use Rattle.fsb_run_laws.proofs.Words
use Words.{ℕ, ◌+◌, ◌<◌, ◌≤◌, ◌≡◌, Bool, Some, length, refl, sym, ap, ◌∙◌, arith, ADS, line_at, Trace, begun_with}
use Words.{moment_at, owing_for, Owing, Past, moments_below, past_of, past_with, Run, run_to, free_id, owed, want_of}
use Words.{Alike, moment-at, owed-same, want-few, begun-want, Reaches, owing_begun}
use Rattle.fsb_encode.specs.declared.request.Request.{Request}
use Rattle.fsb_run_laws.proofs.OwedRequests.{begun-field, owing-claim}

-- the past below a clock is that of the whole run so far
below-alike : (r : Run) (n : ℕ) → n ≤ length r.trace → Alike n (past_with r (moments_below r n) n) (past_of r)
unfolding past_of
below-alike r n l = grind (arith, moment-at)

-- a request that begins has the free ID
begun-free : (p : Past) (w : Trace) (n : ℕ) (owing : Owing) (b : Bool) → line_at ADS w n ≡ b
    → begun_with p w n ≡ Some owing
    → owing.did ≡ free_id owing.claim.agent (owed p owing.claim.agent n)
unfolding begun_with owing_for
begun-free p w n owing b h1 h2 = grind arith

pub begun-wanted : (r : Run) (n : ℕ) (owing : Owing) → Reaches r (n + 1) → owing_begun (past_of r) n ≡ Some owing
    → (request : Request) × (want_of (past_of r) owing.claim.agent n ≡ Some request) × (owing.did ≡ request.did)
    × (owing.claim.line ≡ request.line) × (owing.claim.first ≡ n)
unfolding moment_at past_of
begun-wanted r n owing h e =
    let long = h.long in
    let l : n < length r.trace = omega arith in
    let p = past_of r in
    let below = past_with r (moments_below r n) n in
    let a = owing.claim.agent in
    let k = begun-want r n owing.claim h.timely h.bounds l (owing-claim p n owing e) in
    let w = (run_to r n).trace in
    let free = begun-free below w n owing (line_at ADS w n) refl (begun-field r n l ∙ e) in
    let same = owed-same n below p a n (below-alike r n (omega arith)) (omega arith) in
    let want = want-few p a n k.request h.bounds.few_ahead k.want in
    (k.request, k.want, free ∙ ap (free_id a) same ∙ sym want.1, sym k.line, k.first)
