-- What an audit stands for after one sample more.
use Rattle.std.proofs.Common.{ℕ, zero, suc, ◌+◌, ◌<◌, ◌≤◌, ◌≡◌, ◌^◌, Bool, true, false, cond, Option, Some, None}
use Rattle.std.proofs.Common.{IfSome, is_some, [], ◌∷◌, ◌++◌, length, refl, sym, ap, ◌∙◌, arith, inl, inr, subst}
use Rattle.std.proofs.Common.{Result, Ok, Err, OnErr}
use Rattle.std.proofs.lemmas.Option.{same_Some}
use Rattle.fsb_count.specs.Clocks.{count_where}
use Rattle.fsb_count.proofs.Interface.{cond-most, is_some-none}
use Rattle.fsb_signal.specs.declared.marks.Marks.{Marks}
use Rattle.fsb_signal.specs.declared.sample.Sample.{Sample}
use Rattle.fsb_trace.specs.At.{Trace}
use Rattle.fsb_trace.specs.Response.{data_clock_of}
use Rattle.fsb_trace.specs.Rules.{is_code_wrong, is_outstanding_wrong}
use Rattle.fsb_trace.specs.Verdict.{verdict}
use Rattle.fsb_trace.proofs.Interface.{breaks-14, breaks-18, verdict-least}
use Rattle.fsb_laws.specs.OneMore.{OneMore}
use Rattle.fsb_laws.specs.Orderly.{Orderly}
use Rattle.fsb_laws.proofs.Interface.{one_more}
use Rattle.fsb_rules.specs.declared.broken.Broken.{Broken}
use Rattle.fsb_rules.specs.declared.checker.Checker.{Checker}
use Rattle.fsb_rules.specs.declared.coming.Coming.{Coming}
use Rattle.fsb_rules.specs.Checker.{Decoded, Deferrable, Stands as CheckerStands, as_broken}
use Rattle.fsb_rules.specs.ComingChunks.{HasData}
use Rattle.fsb_rules.proofs.Interface.{as_broken-none, data_clock-parts, found_none, unbroken_now}
use Rattle.fsb_audit.specs.declared.finding.Finding.{Finding}
use Rattle.fsb_audit.specs.declared.finding.Finding.TheVariants.{Broken as BrokenFirst}
use Rattle.fsb_audit.specs.declared.audit.Audit.{Audit}
use Rattle.fsb_audit.specs.MovedChunks.{moved_at, moved_count}
use Rattle.fsb_audit.specs.Fouls.{broken_at, foul_at, is_foul_clock}
use Rattle.fsb_audit.specs.AuditRegisters.{HasMoved, asked_after, chunk_by, count_after, data_in, first_after}
use Rattle.fsb_audit.specs.AuditRegisters.{found_after, from_memory_after}
use Rattle.fsb_audit.specs.Audit.{KeepsUp, HasAsked, IsFoundForGood, Stands}
use Rattle.fsb_audit.specs.Audit.{has_lacked_memory, latest_data}
use Rattle.fsb_audit.proofs.Asked.{asked_goes}
use Rattle.fsb_audit.proofs.Answering.{answering_goes}
use Rattle.fsb_audit.proofs.Newest.{Comes}
use Rattle.fsb_audit.proofs.NewestChunk.{from_now, moved_now, none_moved}
use Rattle.fsb_audit.proofs.Kept.{count_goes, first_goes, from_goes, map_goes, map_stays}
use Rattle.fsb_audit.proofs.Findings.{clean_goes, foul_first, foul_some, found_now, none_foul, settled_stays}
use Rattle.fsb_audit.proofs.Findings.{stands_following, stands_settled}

-- a sample that breaks no rule, after a history that breaks none
pub record Moment (m : Marks) (h : Trace) (x : Sample) (v : Trace) : Type 0 where
  pub more : OneMore h x v
  pub before : Orderly h
  pub after : Orderly v
  pub decoded : Decoded v
  pub deferrable : Deferrable h
  pub begun : is_outstanding_wrong v (length h) ≡ false
  pub code : is_code_wrong v (length h) ≡ false
  pub sound : verdict m v ≡ None

found_now_none : (m : Marks) (k : Checker) (h : Trace) → CheckerStands k m h → verdict m h ≡ None → k.found ≡ None
unfolding as_broken
found_now_none m k h s e = s.found ∙ ap as_broken e

moment : (m : Marks) (old new : Checker) (h : Trace) (x : Sample) → CheckerStands old m h
    → CheckerStands new m (h ++ x ∷ []) → verdict m (h ++ x ∷ []) ≡ None → Moment m h x (h ++ x ∷ [])
moment m old new h x s t e =
    let f = s.follows (found_none m old h x s e) in
    let g = t.follows (found_now_none m new (h ++ x ∷ []) t e) in
    let u = unbroken_now m h x e in
    record {
      more = one_more h x;
      before = f.orderly;
      after = g.orderly;
      decoded = g.decoded;
      deferrable = f.deferrable;
      begun = sym (breaks-18 m (h ++ x ∷ []) (length h)) ∙ u.sound 18 (omega arith);
      code = sym (breaks-14 m (h ++ x ∷ []) (length h)) ∙ u.sound 14 (omega arith);
      sound = e;
    }

-- what the code leaves of a sample that breaks no rule
pub record Absorbs (m : Marks) (a : Audit) (n : ℕ) (h : Trace) (x : Sample) (coming : Option Coming)
    (new : Audit) : Type 0 where
  pub checker : CheckerStands new.checker m (h ++ x ∷ [])
  pub clock : new.clock ≡ n + 1
  pub first : new.first ≡ first_after x
  pub asked : new.asked ≡ asked_after a.asked (h ++ x ∷ []) (length h)
  pub from_memory : new.from_memory ≡ from_memory_after a.from_memory x
  pub count : new.count ≡ count_after a.count coming
  pub moved : HasMoved a.moved.entries new.moved.entries a.asked coming x.dbus.bits
  pub found : new.found ≡ found_after a.found (from_memory_after a.from_memory x) n a.moved.entries a.asked
      coming x.dbus.bits

-- what the checker tells of the data that come
abbrev pub Told : Trace → ℕ → Option Coming → Type 0
Told v n None = (i k : ℕ) → data_clock_of v i k ≡ Some n → ⊥
Told v n (Some coming) = HasData v n coming

pub told_of : (v : Trace) (n : ℕ) (coming : Option Coming) → IfSome coming (λ c. HasData v n c)
    → (coming ≡ None → (i k : ℕ) → data_clock_of v i k ≡ Some n → ⊥) → Told v n coming
told_of v n None some none = none refl
told_of v n (Some c) some none = some

-- the audit follows the history with the sample, where its clock is not foul
following : (m : Marks) (a : Audit) (h : Trace) (x : Sample) (coming : Option Coming) (new : Audit)
    → KeepsUp a m h → Moment m h x (h ++ x ∷ []) → Absorbs m a (length h) h x coming new
    → is_foul_clock (h ++ x ∷ []) (length h) ≡ false → new.count ≡ moved_count (h ++ x ∷ [])
    → ((chunk : ℕ) → data_in new.moved.entries chunk ≡ latest_data (h ++ x ∷ []) chunk) → KeepsUp new m (h ++ x ∷ [])
following m a h x coming new f k r clean count moved =
    let v : Trace = h ++ x ∷ [] in
    record {
      checker = r.checker;
      sound = k.sound;
      clean = clean_goes h x v k.more k.before f.clean clean;
      clock = r.clock ∙ sym k.more.size;
      first = r.first ∙ first_goes h x v k.more;
      asked = subst (λ xs. HasAsked xs v) (sym r.asked)
          (asked_goes a.asked h x v k.more k.before k.after k.decoded k.begun f.asked);
      answering = answering_goes h x v k.more k.before k.begun f.answering;
      from_memory = r.from_memory ∙ from_goes a.from_memory h x v k.more k.before k.after k.code f.from_memory;
      count = count;
      moved = moved;
    }

-- no data come
without_data : (m : Marks) (a : Audit) (h : Trace) (x : Sample) (new : Audit) → a.found ≡ None → KeepsUp a m h
    → Moment m h x (h ++ x ∷ []) → Absorbs m a (length h) h x None new
    → ((i k : ℕ) → data_clock_of (h ++ x ∷ []) i k ≡ Some (length h) → ⊥) → Stands new m (h ++ x ∷ [])
unfolding found_after count_after
without_data m a h x new e f k r none =
    let v : Trace = h ++ x ∷ [] in
    let still = none_moved v (length h) none in
    let count : moved_count v ≡ moved_count h + 0 =
    count_goes h x v false k.more k.before (ap (λ o. is_some o) still.0) in
    let same : new.count ≡ a.count = r.count in
    stands_following m new v (r.found ∙ e)
    (following m a h x None new f k r (none_foul v (length h) still.1) (same ∙ f.count ∙ (omega (arith, count)))
    (λ chunk. ap (λ xs. data_in xs chunk) r.moved
    ∙ map_stays a.moved.entries h x v k.more k.before still.0 f.moved chunk))

-- a chunk comes, and is foul or not
settled_now : (m : Marks) (h : Trace) (x : Sample) (v : Trace) (f : Finding) → Moment m h x v
    → ((c : ℕ) → c < length h → is_foul_clock h c ≡ false) → is_foul_clock v (length h) ≡ true
    → foul_at v (length h) ≡ Some f → IsFoundForGood m v f
settled_now m h x v f k clean t e = record {
  past = v;
  agree = record { left = omega arith; right = omega arith; same = λ c l. refl };
  orderly = k.after;
  sound = k.sound;
  first = inr (record { clock = length h; foul = foul_first h x v k.more k.before clean t; told = e });
}

by_foul : (m : Marks) (a : Audit) (h : Trace) (x : Sample) (coming : Coming) (new : Audit) (b : Bool)
    → KeepsUp a m h → Moment m h x (h ++ x ∷ []) → Absorbs m a (length h) h x (Some coming) new
    → moved_at (h ++ x ∷ []) (length h) ≡ Some (chunk_by a.asked coming)
    → is_foul_clock (h ++ x ∷ []) (length h) ≡ b → new.found ≡ cond b (foul_at (h ++ x ∷ []) (length h)) None
    → Stands new m (h ++ x ∷ [])
unfolding count_after
by_foul m a h x coming new true f k r moved t e =
    let v : Trace = h ++ x ∷ [] in
    let some = foul_some v (length h) (chunk_by a.asked coming) moved in
    stands_settled m new v some.0 (e ∙ some.1) (settled_now m h x v some.0 k f.clean t some.1)
by_foul m a h x coming new false f k r moved t e =
    let v : Trace = h ++ x ∷ [] in
    let count : moved_count v ≡ moved_count h + 1 = count_goes h x v true k.more k.before (ap (λ o. is_some o) moved) in
    let same : new.count ≡ a.count + 1 = r.count in
    stands_following m new v e
    (following m a h x (Some coming) new f k r t (same ∙ ap (λ n. n + 1) f.count ∙ sym count)
    (map_goes a.moved.entries new.moved.entries h x v (chunk_by a.asked coming) k.more k.before moved r.moved f.moved))

with_data : (m : Marks) (a : Audit) (h : Trace) (x : Sample) (coming : Coming) (new : Audit) → KeepsUp a m h
    → Moment m h x (h ++ x ∷ []) → Absorbs m a (length h) h x (Some coming) new
    → HasData (h ++ x ∷ []) (length h) coming → Stands new m (h ++ x ∷ [])
unfolding found_after
with_data m a h x coming new f k r d =
    let v : Trace = h ++ x ∷ [] in
    let comes : Comes h x v d.number coming.place d.request = record {
      more = k.more;
      before = k.before;
      after = k.after;
      deferrable = k.deferrable;
      answering = f.answering;
      clock = data_clock-parts v d.number coming.place (length h) d.clock;
      request = d.is_request;
    } in
    let moved = moved_now a.asked h x v coming d comes f.asked in
    let from = from_now v d.number coming.place (length h) k.after k.more.size d.clock in
    let kept = from_goes a.from_memory h x v k.more k.before k.after k.code f.from_memory in
    by_foul m a h x coming new (is_foul_clock v (length h)) f k r moved refl
    (r.found ∙ found_now a.moved.entries h x v (chunk_by a.asked coming) (from_memory_after a.from_memory x)
    k.more k.before (f.moved (chunk_by a.asked coming)) moved (from ∙ sym kept))

either : (m : Marks) (a : Audit) (h : Trace) (x : Sample) (coming : Option Coming) (new : Audit)
    → a.found ≡ None → KeepsUp a m h → Moment m h x (h ++ x ∷ []) → Absorbs m a (length h) h x coming new
    → Told (h ++ x ∷ []) (length h) coming → Stands new m (h ++ x ∷ [])
either m a h x None new e f k r t = without_data m a h x new e f k r t
either m a h x (Some c) new e f k r t = with_data m a h x c new f k r t

-- a sample that breaks no rule
pub absorb_stands : (m : Marks) (a new : Audit) (h : Trace) (x : Sample) (coming : Option Coming)
    → a.found ≡ None → KeepsUp a m h → Absorbs m a a.clock h x coming new → Told (h ++ x ∷ []) (length h) coming
    → verdict m (h ++ x ∷ []) ≡ None → Stands new m (h ++ x ∷ [])
absorb_stands m a new h x coming e f r t s =
    either m a h x coming new e f (moment m a.checker new.checker h x f.checker r.checker s)
    (subst (λ n. Absorbs m a n h x coming new) f.clock r) t

-- a sample that breaks a rule
broken_parts : (o : Option (ℕ × ℕ)) (b : Broken) → as_broken o ≡ Some b
    → (p : ℕ × ℕ) × (o ≡ Some p) × (record { clock = p.0; rule = p.1 } ≡ b)
unfolding as_broken
broken_parts None b e = absurd (let no : ⊥ = cc in no)
broken_parts (Some p) b e = (p, refl, same_Some _ _ e)

settled_broken : (m : Marks) (a : Audit) (h : Trace) (x : Sample) (b : Broken) (p : ℕ × ℕ) → KeepsUp a m h
    → Orderly h → verdict m (h ++ x ∷ []) ≡ Some p → record { clock = p.0; rule = p.1 } ≡ b
    → IsFoundForGood m (h ++ x ∷ []) (BrokenFirst b)
unfolding broken_at
settled_broken m a h x b p f o e same =
    let more = one_more h x in
    let size : length (h ++ x ∷ []) ≡ length h + 1 = more.size in
    let below = (verdict-least m (h ++ x ∷ []) p.0 p.1 e).0 in
    record {
      past = h;
      agree = more.agree;
      orderly = o;
      sound = f.sound;
      first = inl (record {
        clean = f.clean;
        rule = p;
        broken = e;
        behind = omega arith;
        told = ap (λ k. BrokenFirst k) same;
      });
    }

pub broken_stands : (m : Marks) (a new : Audit) (h : Trace) (x : Sample) (b : Broken) → KeepsUp a m h
    → as_broken (verdict m (h ++ x ∷ [])) ≡ Some b → new.found ≡ Some (BrokenFirst b) → Stands new m (h ++ x ∷ [])
broken_stands m a new h x b f e t =
    let p = broken_parts (verdict m (h ++ x ∷ [])) b e in
    let o = (f.checker.follows (found_now_none m a.checker h f.checker f.sound)).orderly in
    stands_settled m new (h ++ x ∷ []) (BrokenFirst b) t (settled_broken m a h x b p.0 f o p.1 p.2)

-- what was found before
found_cases : (m : Marks) (a : Audit) (h : Trace) (x : Sample) (o : Option Finding) → Stands a m h
    → has_lacked_memory a ≡ false → a.found ≡ o → is_some o ≡ true → Stands a m (h ++ x ∷ [])
found_cases m a h x None s room e t = absurd (let no : ⊥ = cc in no)
found_cases m a h x (Some f) s room e t =
    stands_settled m a (h ++ x ∷ []) f e (settled_stays m h x (h ++ x ∷ []) f (one_more h x) (s.settled room f e))

pub found_stands : (m : Marks) (a : Audit) (h : Trace) (x : Sample) → Stands a m h → has_lacked_memory a ≡ false
    → is_some a.found ≡ true → Stands a m (h ++ x ∷ [])
found_stands m a h x s room t = found_cases m a h x a.found s room refl t

-- what the audit keeps where nothing was found
pub follows_now : (m : Marks) (a : Audit) (h : Trace) → Stands a m h → has_lacked_memory a ≡ false
    → is_some a.found ≡ false → KeepsUp a m h
follows_now m a h s room e = s.follows room (is_some-none a.found e)

pub no_verdict : (m : Marks) (w : Trace) (told : Option Broken) → told ≡ as_broken (verdict m w) → told ≡ None
    → verdict m w ≡ None
no_verdict m w told e f = as_broken-none (verdict m w) (sym e ∙ f)

count_most : (p : ℕ → Bool) (n : ℕ) → count_where p n ≤ n
unfolding count_where
count_most p zero = omega arith
count_most p (suc n) = let l = count_most p n in let c : cond (p n) 1 0 ≤ 1 = cond-most (p n) in omega arith

pub count_below : (m : Marks) (a : Audit) (h : Trace) → KeepsUp a m h → length h < 2 ^ 32 → a.count < 2 ^ 32
unfolding moved_count
count_below m a h f l =
    let most : count_where (λ c. is_some (moved_at h c)) (length h) ≤ length h =
    count_most (λ c. is_some (moved_at h c)) (length h) in
    let same : a.count ≡ count_where (λ c. is_some (moved_at h c)) (length h) = f.count in
    omega arith

pub err_anyway : {A E P : Type 0} (r : Result A E) → P → OnErr r P
err_anyway (Ok a) p = tt
err_anyway (Err e) p = p
