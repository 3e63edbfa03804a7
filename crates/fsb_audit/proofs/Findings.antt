-- What is found stays found, and what is found with the newest clock.
use Rattle.std.proofs.Common.{ℕ, ◌+◌, ◌*◌, ◌<◌, ◌≤◌, ◌≡◌, ◌⊎◌, Bool, true, false, cond, ◌&&◌, not, nat_eq, Option, Some}
use Rattle.std.proofs.Common.{None, length, refl, sym, ap, ◌∙◌, arith, inl, inr, subst}
use Rattle.std.specs.Option.{option_map, option_and_then}
use Rattle.std.proofs.lemmas.Bool.{cases_lt}
use Rattle.std.proofs.lemmas.Option.{same_Some}
use Rattle.fsb_count.specs.Options.{is_some_and}
use Rattle.fsb_count.specs.Clocks.{AgreeBelow, first_where}
use Rattle.fsb_count.proofs.Interface.{first_where-at, first_where-carried, first_where-found, first_where-off}
use Rattle.fsb_signal.specs.declared.marks.Marks.{Marks}
use Rattle.fsb_signal.specs.declared.sample.Sample.{Sample}
use Rattle.fsb_signal.specs.Samples.{data_at}
use Rattle.fsb_trace.specs.At.{Trace}
use Rattle.fsb_trace.specs.Agree.{AgreeTo}
use Rattle.fsb_trace.specs.Verdict.{verdict}
use Rattle.fsb_trace.proofs.Interface.{AgreeTo-sym, verdict-least, verdict-stays}
use Rattle.fsb_laws.specs.OneMore.{OneMore}
use Rattle.fsb_laws.specs.Orderly.{Orderly}
use Rattle.fsb_audit.specs.declared.finding.Finding.{Finding}
use Rattle.fsb_audit.specs.declared.finding.Finding.TheVariants.{Foul as FoulFirst}
use Rattle.fsb_audit.specs.declared.audit.Audit.{Audit}
use Rattle.fsb_audit.specs.MovedChunks.{is_from_memory, moved_at}
use Rattle.fsb_audit.specs.Fouls.{finding_of, found_below, found_with, first_foul, foul_at, have_same_data}
use Rattle.fsb_audit.specs.Fouls.{is_foul_clock, is_stale, latest_move}
use Rattle.fsb_audit.specs.AuditRegisters.{ChunkMap, data_in, foul_by}
use Rattle.fsb_audit.specs.Audit.{BreaksFirst, KeepsUp, FoulsFirst, IsFoundForGood, Stands, has_lacked_memory, latest_data}
use Rattle.fsb_audit.proofs.Movers.{GoesOnFrom}
use Rattle.fsb_audit.proofs.Moves.{same_foul, same_foul_at}
use Rattle.fsb_audit.proofs.Kept.{latest_kept}

-- nothing is found where no rule is broken and no clock is foul
pub nothing : (m : Marks) (w : Trace) → verdict m w ≡ None
    → ((c : ℕ) → c < length w → is_foul_clock w c ≡ false) → finding_of m w ≡ None
unfolding finding_of found_with first_foul
nothing m w e clean =
    ap (found_with w) e ∙ ap (option_and_then (foul_at w)) (first_where-off (is_foul_clock w) (length w) clean)

-- a foul clock of a past that breaks no rule
same_fouls : (u h : Trace) (c : ℕ) → GoesOnFrom u h → c < length u
    → AgreeBelow (c + 1) (is_foul_clock u) (is_foul_clock h)
same_fouls u h c g l = record { same = λ k m. sym (same_foul u h k g (omega arith)) }

foul_below : (u h : Trace) (c n : ℕ) → GoesOnFrom u h → first_foul u (length u) ≡ Some c → c < n
    → first_foul h n ≡ Some c
unfolding first_foul
foul_below u h c n g e l =
    let p = first_where-found (is_foul_clock u) (length u) c e in
    first_where-carried (is_foul_clock u) (is_foul_clock h) (length u) n c (same_fouls u h c g p.0) l e

below_past : (u : Trace) (c : ℕ) → first_foul u (length u) ≡ Some c → c < length u
unfolding first_foul
below_past u c e = (first_where-found (is_foul_clock u) (length u) c e).0

-- a rule is not broken within a past that breaks none
past_sound : (m : Marks) (u h : Trace) (p : ℕ × ℕ) → AgreeTo (length u) u h → verdict m u ≡ None
    → verdict m h ≡ Some p → length u ≤ p.0
past_sound m u h p a e f =
    elim (cases_lt p.0 (length u)) [
      | inr l ↦ l
      | inl l ↦ let g : verdict m u ≡ Some p =
          verdict-stays (length u) m h u p.0 p.1 (AgreeTo-sym (length u) u h a) l f in absurd (let no : ⊥ = cc in no)
    ]

foul_found : (m : Marks) (u h : Trace) (c : ℕ) (f : Finding) (o : Option (ℕ × ℕ)) → GoesOnFrom u h
    → verdict m u ≡ None → first_foul u (length u) ≡ Some c → foul_at u c ≡ Some f → verdict m h ≡ o
    → finding_of m h ≡ Some f
unfolding finding_of found_with found_below
foul_found m u h c f None g e k t v =
    let below = below_past u c k in
    ap (found_with h) v
    ∙ ap (option_and_then (foul_at h)) (foul_below u h c (length h) g k (omega (arith, g.agree.right)))
    ∙ same_foul_at u h c g below ∙ t
foul_found m u h c f (Some p) g e k t v =
    let below = below_past u c k in
    let past = past_sound m u h p g.agree e v in
    ap (found_with h) v ∙ ap (found_below h p) (foul_below u h c p.0 g k (omega arith)) ∙ same_foul_at u h c g below ∙ t

broken_found : (m : Marks) (u h : Trace) (f : Finding) → GoesOnFrom u h → BreaksFirst m u h f → finding_of m h ≡ Some f
unfolding finding_of found_with found_below first_foul
broken_found m u h f g b =
    let none : first_where (is_foul_clock h) b.rule.0 ≡ None =
    first_where-off (is_foul_clock h) b.rule.0 (λ c l. same_foul u h c g (omega (arith, b.behind))
    ∙ b.clean c (omega (arith, b.behind))) in
    ap (found_with h) b.broken ∙ ap (found_below h b.rule) none ∙ ap (λ k. Some k) b.told

either_found : (m : Marks) (u h : Trace) (f : Finding) → GoesOnFrom u h → verdict m u ≡ None
    → BreaksFirst m u h f ⊎ FoulsFirst u f → finding_of m h ≡ Some f
either_found m u h f g e (inl b) = broken_found m u h f g b
either_found m u h f g e (inr k) = foul_found m u h k.clock f (verdict m h) g e k.foul k.told refl

pub settled_found : (m : Marks) (h : Trace) (f : Finding) → IsFoundForGood m h f → finding_of m h ≡ Some f
settled_found m h f s = either_found m s.past h f (record { agree = s.agree; orderly = s.orderly }) s.sound s.first

-- what was found stays so with one sample more
agree_on : (u h v : Trace) → AgreeTo (length u) u h → AgreeTo (length h) h v → AgreeTo (length u) u v
agree_on u h v a b = record {
  left = omega arith;
  right = omega (arith, a.right, b.right);
  same = λ c l. a.same c l ∙ b.same c (omega (arith, a.right));
}

either_stays : (m : Marks) (u h v : Trace) (f : Finding) → AgreeTo (length h) h v
    → BreaksFirst m u h f ⊎ FoulsFirst u f → BreaksFirst m u v f ⊎ FoulsFirst u f
either_stays m u h v f a (inl b) = inl (record {
  clean = b.clean;
  rule = b.rule;
  broken = verdict-stays (length h) m h v b.rule.0 b.rule.1 a (verdict-least m h b.rule.0 b.rule.1 b.broken).0 b.broken;
  behind = b.behind;
  told = b.told;
})
either_stays m u h v f a (inr k) = inr k

pub settled_stays : (m : Marks) (h : Trace) (x : Sample) (v : Trace) (f : Finding) → OneMore h x v
    → IsFoundForGood m h f → IsFoundForGood m v f
settled_stays m h x v f more s = record {
  past = s.past;
  agree = agree_on s.past h v s.agree more.agree;
  orderly = s.orderly;
  sound = s.sound;
  first = either_stays m s.past h v f more.agree s.first;
}

-- the audit stands for its history where it follows it, and where what it found is settled
pub stands_following : (m : Marks) (a : Audit) (h : Trace) → a.found ≡ None → KeepsUp a m h → Stands a m h
stands_following m a h e f = record {
  found = λ room. e ∙ sym (nothing m h f.sound f.clean);
  follows = λ room none. f;
  settled = λ room found some. absurd (let no : ⊥ = cc in no);
}

pub stands_settled : (m : Marks) (a : Audit) (h : Trace) (f : Finding) → a.found ≡ Some f → IsFoundForGood m h f
    → Stands a m h
stands_settled m a h f e s = record {
  found = λ room. e ∙ sym (settled_found m h f s);
  follows = λ room none. absurd (let no : ⊥ = cc in no);
  settled = λ room found some. subst (IsFoundForGood m h) (same_Some _ _ (sym e ∙ some)) s;
}

pub stands_full : (m : Marks) (a : Audit) (h : Trace) → has_lacked_memory a ≡ true → Stands a m h
stands_full m a h full = record {
  found = λ room. absurd (let no : ⊥ = cc in no);
  follows = λ room none. absurd (let no : ⊥ = cc in no);
  settled = λ room found some. absurd (let no : ⊥ = cc in no);
}

-- whether the newest clock is foul, by what is kept
kept_stale : (v : Trace) (n : ℕ) (x : Sample) (o : Option ℕ) → data_at v n ≡ x.dbus
    → is_some_and (option_map (λ b. (data_at v b).bits) o) (λ b. not (nat_eq b x.dbus.bits))
    ≡ is_some_and o (λ b. not (have_same_data v b n))
unfolding is_some_and have_same_data
kept_stale v n x None e = refl
kept_stale v n x (Some b) e = rw e refl

newest_data : (h : Trace) (x : Sample) (v : Trace) → OneMore h x v → data_at v (length h) ≡ x.dbus
newest_data h x v m = rw m.last refl

stale_now : (old : ChunkMap) (h : Trace) (x : Sample) (v : Trace) (k : ℕ) → OneMore h x v → Orderly h
    → data_in old k ≡ latest_data h k → is_some_and (data_in old k) (λ b. not (nat_eq b x.dbus.bits))
    ≡ is_stale v (length h) k
unfolding is_stale
stale_now old h x v k m o e =
    ap (λ d. is_some_and d (λ b. not (nat_eq b x.dbus.bits))) (e
    ∙ sym (latest_kept h v k (record { agree = m.agree; orderly = o })))
    ∙ kept_stale v (length h) x (latest_move v k (length h)) (newest_data h x v m)

foul_is : (v : Trace) (n k : ℕ) (from : Bool) → moved_at v n ≡ Some k → is_from_memory v n ≡ from
    → is_foul_clock v n ≡ (from && is_stale v n k)
unfolding is_foul_clock is_some_and
foul_is v n k from e f = rw (e, f) refl

foul_told : (v : Trace) (n k : ℕ) (from : Bool) (before : Option ℕ) (bits : ℕ) (b : Bool)
    → moved_at v n ≡ Some k → (from && is_some_and before (λ d. not (nat_eq d bits))) ≡ b
    → foul_by from n k before bits ≡ cond b (foul_at v n) None
unfolding foul_by foul_at
foul_told v n k from before bits b e f = rw (f, e) refl

pub found_now : (old : ChunkMap) (h : Trace) (x : Sample) (v : Trace) (k : ℕ) (from : Bool) → OneMore h x v
    → Orderly h → data_in old k ≡ latest_data h k → moved_at v (length h) ≡ Some k
    → is_from_memory v (length h) ≡ from
    → foul_by from (length h) k (data_in old k) x.dbus.bits
    ≡ cond (is_foul_clock v (length h)) (foul_at v (length h)) None
found_now old h x v k from m o e moved comes =
    foul_told v (length h) k from (data_in old k) x.dbus.bits (is_foul_clock v (length h)) moved
    (ap (λ b. from && b) (stale_now old h x v k m o e) ∙ sym (foul_is v (length h) k from moved comes))

pub foul_some : (v : Trace) (n k : ℕ) → moved_at v n ≡ Some k → (f : Finding) × (foul_at v n ≡ Some f)
unfolding foul_at
foul_some v n k e = (FoulFirst (record { clock = n; addr = k * 8 }), rw e refl)

pub none_foul : (v : Trace) (n : ℕ) → is_from_memory v n ≡ false → is_foul_clock v n ≡ false
unfolding is_foul_clock
none_foul v n e = rw e refl

-- a clock is foul first where none of the history is
pub foul_first : (h : Trace) (x : Sample) (v : Trace) → OneMore h x v → Orderly h
    → ((c : ℕ) → c < length h → is_foul_clock h c ≡ false) → is_foul_clock v (length h) ≡ true
    → first_foul v (length v) ≡ Some (length h)
unfolding first_foul
foul_first h x v m o clean t =
    first_where-at (is_foul_clock v) (length v) (length h) (omega (arith, m.size)) t
    (λ c l. same_foul h v c (record { agree = m.agree; orderly = o }) l ∙ clean c l)

pub clean_goes : (h : Trace) (x : Sample) (v : Trace) → OneMore h x v → Orderly h
    → ((c : ℕ) → c < length h → is_foul_clock h c ≡ false) → is_foul_clock v (length h) ≡ false → (c : ℕ)
    → c < length v → is_foul_clock v c ≡ false
clean_goes h x v m o clean f c l =
    elim (cases_lt c (length h)) [
      | inl old ↦ same_foul h v c (record { agree = m.agree; orderly = o }) old ∙ clean c old
      | inr new ↦ subst (λ d. is_foul_clock v d ≡ false) (let same : length h ≡ c = omega (arith, m.size) in same) f
    ]
