-- Which chunk is moved at a clock, in parts.
use Rattle.std.proofs.Common.{ℕ, ◌≡◌, Bool, true, false, cond, Option, Some, None, refl, ap, subst}
use Rattle.std.proofs.lemmas.Option.{same_Some}
use Rattle.std.specs.Option.{option_map, option_and_then}
use Rattle.fsb_count.specs.Clocks.{first_where}
use Rattle.fsb_count.proofs.Interface.{first_where-found}
use Rattle.fsb_encode.specs.declared.request.Request.{Request}
use Rattle.fsb_trace.specs.At.{Trace}
use Rattle.fsb_trace.specs.Requests.{is_reply, live_count, live_request_of}
use Rattle.fsb_trace.specs.Response.{data_clock_of}
use Rattle.fsb_laws.specs.Orderly.{Orderly}
use Rattle.fsb_laws.proofs.Interface.{deferred_response}
use Rattle.fsb_lawful.proofs.Interface.{and-then}
use Rattle.fsb_audit.specs.MovedChunks.{chunk_moved_at, chunk_moved_by, data_place_at, is_named_by_reply, moved_at}
use Rattle.fsb_audit.specs.MovedChunks.{mover_at, namer_of, nth_chunk}
use Rattle.fsb_audit.proofs.Interface.{Responded, answer_parts, mover_is, place_found, place_is, responded}

-- chunk x is moved at c: it comes as data of a live request, in a place of the burst of the request that names its line
pub record IsMoved (w : Trace) (c x : ℕ) : Type 0 where
  pub number : ℕ
  pub place : ℕ
  pub is_clock : data_clock_of w number place ≡ Some c
  pub namer : ℕ
  pub names : namer_of w number ≡ Some namer
  pub request : Request
  pub asked : live_request_of w namer ≡ Some request
  pub chunk : nth_chunk place request ≡ x

mapped : {A B : Type 0} (f : A → B) (o : Option A) (y : B) → option_map f o ≡ Some y
    → (x : A) × (o ≡ Some x) × (f x ≡ y)
mapped f None y e = absurd (let no : ⊥ = cc in no)
mapped f (Some x) y e = (x, refl, same_Some _ _ e)

pub moved-parts : (w : Trace) (c x : ℕ) → moved_at w c ≡ Some x → IsMoved w c x
unfolding moved_at chunk_moved_at chunk_moved_by
moved-parts w c x e =
    let j = and-then (chunk_moved_at w c) (mover_at w c) x e in
    let n = and-then (chunk_moved_by w j.0) (data_place_at w c j.0) x j.2 in
    let r = mapped (nth_chunk n.0) (option_and_then (live_request_of w) (namer_of w j.0)) x n.2 in
    let k = and-then (live_request_of w) (namer_of w j.0) r.0 r.1 in
    record {
      number = j.0;
      place = n.0;
      is_clock = place_found w c j.0 n.0 n.1;
      namer = k.0;
      names = k.1;
      request = r.0;
      asked = k.2;
      chunk = r.2;
    }

pub moved-from : (w : Trace) (c x : ℕ) → Orderly w → IsMoved w c x → moved_at w c ≡ Some x
unfolding moved_at chunk_moved_at chunk_moved_by
moved-from w c x o k =
    rw (mover_is w c k.number k.place o k.is_clock, place_is w c k.number k.place k.is_clock, k.names, k.asked)
    (ap Some k.chunk)

namer-by : (w : Trace) (j i : ℕ) (b : Bool) → Orderly w → Responded w j
    → cond b (first_where (is_named_by_reply w j) (live_count w)) (Some j) ≡ Some i → Responded w i
namer-by w j i true o k e =
    let found = first_where-found (is_named_by_reply w j) (live_count w) i e in
    let a = answer_parts w j i found.1 in
    let d = deferred_response w i a.deferred in
    responded w i d.0 o d.1
namer-by w j i false o k e = subst (Responded w) (same_Some _ _ e) k

-- the request that names the line has responded
pub namer-responded : (w : Trace) (j i : ℕ) → Orderly w → Responded w j → namer_of w j ≡ Some i → Responded w i
unfolding namer_of
namer-responded w j i o k e = namer-by w j i (is_reply (live_request_of w j)) o k e
