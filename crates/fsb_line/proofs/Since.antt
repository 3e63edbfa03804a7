-- The state of an agent is told by its grants and losses in the past.
use Rattle.std.proofs.Common.{◌≡◌, ℕ, Bool, true, false, not, ◌&&◌, ◌||◌, Option, Some, None, List, [], ◌∷◌, refl, sym}
use Rattle.std.proofs.Common.{◌∙◌, arith}
use Rattle.std.proofs.Math.Bool.{and-true}
use Rattle.std.proofs.lemmas.Bool.{false_from_ne_true}
use Rattle.std.proofs.lemmas.Bool.Decides.{nat_tests}
use Rattle.fsb_line.specs.Coherence.{IsPending, Ordered}
use Rattle.fsb_line.specs.Events.{Event, May, after, arrived, effect, oldest_ended, given, linked, replied, responded}
use Rattle.fsb_line.specs.Events.{settled}
use Rattle.fsb_line.specs.Events.Event.{Begins, Drops, Ends, IsCancelled, IsDeferred, IsGranted, IsHanded, IsLost}
use Rattle.fsb_line.specs.Events.Event.{IsReplied, IsRetried, IsUpgraded, IsWritten, Loads, Responds, Stores}
use Rattle.fsb_line.specs.History.{any_event, gained_and_kept, is_alone_since, ends_alone, is_dirtied, is_dirty_since}
use Rattle.fsb_line.specs.History.{is_grant, is_grant_alone, is_held_since, is_loss, replies_alone_to, replies_owned_to}
use Rattle.fsb_line.specs.History.{replies_to, state_by}
use Rattle.fsb_line.specs.Line.{Bytes, LineDeferral, MemoryLine, put, trimmed, unheld}
use Rattle.fsb_line.specs.LineRuns.{MayRun, run}
use Rattle.fsb_line.specs.States.{after_snoop, asks_line, granted, is_held, is_modified, is_sole, kind_owns}
use Rattle.fsb_line.specs.declared.purpose.Purpose.{Purpose}
use Rattle.fsb_line.specs.declared.purpose.Purpose.TheVariants.{Own, Read, Upgrade, WriteBack}
use Rattle.fsb_line.specs.declared.link.Link.{Link}
use Rattle.fsb_line.specs.declared.state.Mesi.{Mesi}
use Rattle.fsb_line.specs.declared.state.Mesi.TheVariants.{Exclusive, Invalid, Modified, Shared}
use Rattle.fsb_line.proofs.StateFacts.{asker_not_sole, gets_asks, granted_owns, modified_is_sole, snoop_not_sole}
use Rattle.fsb_line.proofs.StateFacts.{sole_is_held, unheld_unmodified}
use Rattle.fsb_line.proofs.Theorem.{ordered_after, ordered_unheld}

-- a test that is gained and lost event by event is gained and kept over a run
kept_run : (p : MemoryLine → Bool) (gain loss : MemoryLine → Event → Bool)
    → ((x : MemoryLine) (e : Event) → Ordered x → May x e → p (after x e) ≡ (gain x e || (p x && not (loss x e))))
    → (x : MemoryLine) (es : List Event) → Ordered x → MayRun x es
    → p (run x es) ≡ (gained_and_kept gain loss x es || (p x && not (any_event loss x es)))
kept_run p gain loss step x [] o m = sym (and-true (p x))
kept_run p gain loss step x (e ∷ es) o m =
    kept_run p gain loss step (after x e) es (ordered_after x e o m.0) m.1
    ∙ rw (step x e o m.0) (more (gained_and_kept gain loss (after x e) es) (gain x e) (p x) (loss x e)
    (any_event loss (after x e) es))
  where
    more : (k g b l a : Bool) → (k || ((g || (b && not l)) && not a)) ≡ (((g && not a) || k) || (b && not (l || a)))
    more true true b l true = refl
    more true true b l false = refl
    more true false b l a = refl
    more false true true true true = refl
    more false true true false true = refl
    more false true false l true = refl
    more false true b l false = refl
    more false false true true a = refl
    more false false true false true = refl
    more false false true false false = refl
    more false false false l a = refl

snoop_keeps : (s : Mesi) (k : Purpose) → asks_line k ≡ true
    → is_held (after_snoop s k) ≡ (is_held s && not (kind_owns k))
snoop_keeps Invalid Read h = refl
snoop_keeps Shared Read h = refl
snoop_keeps Exclusive Read h = refl
snoop_keeps Modified Read h = refl
snoop_keeps Invalid Own h = refl
snoop_keeps Shared Own h = refl
snoop_keeps Exclusive Own h = refl
snoop_keeps Modified Own h = refl
snoop_keeps Invalid Upgrade h = refl
snoop_keeps Shared Upgrade h = refl
snoop_keeps Exclusive Upgrade h = refl
snoop_keeps Modified Upgrade h = refl
snoop_keeps s WriteBack h = absurd (cc)

granted_held : (k : Purpose) (shared : Bool) → asks_line k ≡ true → is_held (granted k shared) ≡ true
granted_held Read true h = refl
granted_held Read false h = refl
granted_held Own shared h = refl
granted_held Upgrade shared h = refl
granted_held WriteBack shared h = absurd (cc)

unheld_not_sole : (s : Mesi) → is_held s ≡ false → is_sole s ≡ false
unheld_not_sole s h = false_from_ne_true (is_sole s) (λ g. let f = sole_is_held s g in cc)

not_sole_unmodified : (s : Mesi) → is_sole s ≡ false → is_modified s ≡ false
not_sole_unmodified s h = false_from_ne_true (is_modified s) (λ g. let f = modified_is_sole s g in cc)

granted_sole_is : (k : Purpose) (shared : Bool) → asks_line k ≡ true
    → is_sole (granted k shared) ≡ (kind_owns k || not shared)
granted_sole_is Read true h = refl
granted_sole_is Read false h = refl
granted_sole_is Own shared h = refl
granted_sole_is Upgrade shared h = refl
granted_sole_is WriteBack shared h = absurd (cc)

responded-state : (x : MemoryLine) (ls : List Link) → (responded x ls).state ≡ x.state
unfolding responded
responded-state x [] = refl
responded-state x (l ∷ ls) = refl

oldest_ended-state : (x : MemoryLine) (ls : List Link) (change : Bytes → Bytes)
    → (oldest_ended x ls change).state ≡ x.state
unfolding oldest_ended arrived
oldest_ended-state x [] change = refl
oldest_ended-state x (l ∷ ls) change = refl

after-state : (x : MemoryLine) (e : Event) → (after x e).state ≡ (effect x e).state
unfolding after trimmed
after-state x e = refl

replied_held : (a : ℕ) (x : MemoryLine) (od : Option LineDeferral) → x.deferral ≡ od → Ordered x
    → is_held ((replied x od).state a) ≡ (replies_to od a || (is_held (x.state a) && not false))
unfolding replied settled linked
replied_held a x None e o = sym (and-true (is_held (x.state a)))
replied_held a x (Some d) e o =
    let p : IsPending x d = o.pending d e in
    grind (arith, nat_tests, granted_held d.kind d.shared (gets_asks d.kind p.gets))

replied_sole : (a : ℕ) (x : MemoryLine) (od : Option LineDeferral) → x.deferral ≡ od → Ordered x
    → is_sole ((replied x od).state a) ≡ (replies_alone_to od a || (is_sole (x.state a) && not false))
unfolding replied settled linked
replied_sole a x None e o = sym (and-true (is_sole (x.state a)))
replied_sole a x (Some d) e o =
    let p : IsPending x d = o.pending d e in
    grind (arith, nat_tests, granted_sole_is d.kind d.shared (gets_asks d.kind p.gets), p.nobody_sole a)

replied_modified : (a : ℕ) (x : MemoryLine) (od : Option LineDeferral) → x.deferral ≡ od → Ordered x
    → is_modified ((replied x od).state a) ≡ (replies_owned_to od a || (is_modified (x.state a) && not false))
unfolding replied settled linked
replied_modified a x None e o = sym (and-true (is_modified (x.state a)))
replied_modified a x (Some d) e o =
    let p : IsPending x d = o.pending d e in
    grind (arith, nat_tests, granted_owns d.kind d.shared, not_sole_unmodified (x.state a) (p.nobody_sole a))

held_step : (a : ℕ) (x : MemoryLine) (e : Event) → Ordered x → May x e
    → is_held ((effect x e).state a) ≡ (is_grant a x e || (is_held (x.state a) && not (is_loss a x e)))
unfolding May effect is_grant is_loss settled linked given put
held_step a x (Loads b) o m = sym (and-true (is_held (x.state a)))
held_step a x (Stores b change) o m = grind (arith, nat_tests, m.0.held)
held_step a x (Drops b) o m = grind (arith, nat_tests)
held_step a x (Begins b kind number) o m = sym (and-true (is_held (x.state a)))
held_step a x (IsCancelled b) o m = sym (and-true (is_held (x.state a)))
held_step a x (IsWritten b) o m = grind (arith, nat_tests)
held_step a x (IsHanded b kind owner) o m =
    grind (arith, nat_tests, snoop_keeps (x.state a) kind m.asks, granted_held kind true m.asks)
held_step a x (IsGranted b kind shared) o m =
    grind (
      arith,
      nat_tests,
      snoop_keeps (x.state a) kind (gets_asks kind m.gets),
      granted_held kind shared (gets_asks kind m.gets),
    )
held_step a x (IsUpgraded b) o m = grind (arith, nat_tests, m.held)
held_step a x (IsLost b) o m = grind (arith, nat_tests, m.lost)
held_step a x (IsRetried b kind) o m = grind (arith, nat_tests, snoop_keeps (x.state a) kind m.1)
held_step a x (IsDeferred b kind shared) o m =
    grind (arith, nat_tests, snoop_keeps (x.state a) kind (gets_asks kind m.gets))
held_step a x IsReplied o m = replied_held a x x.deferral refl o
held_step a x Responds o m = rw (responded-state x x.chain) (sym (and-true (is_held (x.state a))))
held_step a x (Ends change) o m = rw (oldest_ended-state x x.chain change) (sym (and-true (is_held (x.state a))))

sole_step : (a : ℕ) (x : MemoryLine) (e : Event) → Ordered x → May x e
    → is_sole ((effect x e).state a) ≡ (is_grant_alone a x e || (is_sole (x.state a) && not (ends_alone a x e)))
unfolding May effect is_grant_alone ends_alone settled linked given put
sole_step a x (Loads b) o m = sym (and-true (is_sole (x.state a)))
sole_step a x (Stores b change) o m = grind (arith, nat_tests, m.1)
sole_step a x (Drops b) o m = grind (arith, nat_tests)
sole_step a x (Begins b kind number) o m = sym (and-true (is_sole (x.state a)))
sole_step a x (IsCancelled b) o m = sym (and-true (is_sole (x.state a)))
sole_step a x (IsWritten b) o m =
    let sole = modified_is_sole (x.state b) (o.suited b _ m.asked) in
    grind (arith, nat_tests, o.alone b sole a, unheld_not_sole)
sole_step a x (IsHanded b kind owner) o m =
    let own = asker_not_sole kind (x.state b) m.asks (o.suited b _ m.oldest.asked) in
    grind (arith, nat_tests, snoop_not_sole (x.state a) kind m.asks, granted_sole_is kind true m.asks, own)
sole_step a x (IsGranted b kind shared) o m =
    let asks = gets_asks kind m.gets in
    let own = asker_not_sole kind (x.state b) asks (o.suited b _ m.settles.oldest.asked) in
    grind (arith, nat_tests, snoop_not_sole (x.state a) kind asks, granted_sole_is kind shared asks, own)
sole_step a x (IsUpgraded b) o m = grind (arith, nat_tests, m.held)
sole_step a x (IsLost b) o m = grind (arith, nat_tests, m.lost, unheld_not_sole)
sole_step a x (IsRetried b kind) o m = grind (arith, nat_tests, snoop_not_sole (x.state a) kind m.1)
sole_step a x (IsDeferred b kind shared) o m =
    grind (arith, nat_tests, snoop_not_sole (x.state a) kind (gets_asks kind m.gets))
sole_step a x IsReplied o m = replied_sole a x x.deferral refl o
sole_step a x Responds o m = rw (responded-state x x.chain) (sym (and-true (is_sole (x.state a))))
sole_step a x (Ends change) o m = rw (oldest_ended-state x x.chain change) (sym (and-true (is_sole (x.state a))))

modified_step : (a : ℕ) (x : MemoryLine) (e : Event) → Ordered x → May x e
    → is_modified ((effect x e).state a) ≡ (is_dirtied a x e || (is_modified (x.state a) && not (ends_alone a x e)))
unfolding May effect is_dirtied ends_alone settled linked given put
modified_step a x (Loads b) o m = sym (and-true (is_modified (x.state a)))
modified_step a x (Stores b change) o m = grind (arith, nat_tests, m.1)
modified_step a x (Drops b) o m = grind (arith, nat_tests)
modified_step a x (Begins b kind number) o m = sym (and-true (is_modified (x.state a)))
modified_step a x (IsCancelled b) o m = sym (and-true (is_modified (x.state a)))
modified_step a x (IsWritten b) o m =
    let sole = modified_is_sole (x.state b) (o.suited b _ m.asked) in
    grind (arith, nat_tests, o.alone b sole a, unheld_unmodified)
modified_step a x (IsHanded b kind owner) o m =
    let own = not_sole_unmodified (x.state b) (asker_not_sole kind (x.state b) m.asks (o.suited b _ m.oldest.asked)) in
    let other = not_sole_unmodified _ (snoop_not_sole (x.state a) kind m.asks) in
    grind (arith, nat_tests, other, granted_owns kind true, own)
modified_step a x (IsGranted b kind shared) o m =
    let asks = gets_asks kind m.gets in
    let own = not_sole_unmodified (x.state b)
    (asker_not_sole kind (x.state b) asks (o.suited b _ m.settles.oldest.asked)) in
    let other = not_sole_unmodified _ (snoop_not_sole (x.state a) kind asks) in
    grind (arith, nat_tests, other, granted_owns kind shared, own)
modified_step a x (IsUpgraded b) o m = grind (arith, nat_tests, m.held)
modified_step a x (IsLost b) o m = grind (arith, nat_tests, m.lost, unheld_unmodified)
modified_step a x (IsRetried b kind) o m =
    let other = not_sole_unmodified _ (snoop_not_sole (x.state a) kind m.1) in
    grind (arith, nat_tests, other)
modified_step a x (IsDeferred b kind shared) o m =
    let other = not_sole_unmodified _ (snoop_not_sole (x.state a) kind (gets_asks kind m.gets)) in
    grind (arith, nat_tests, other)
modified_step a x IsReplied o m = replied_modified a x x.deferral refl o
modified_step a x Responds o m = rw (responded-state x x.chain) (sym (and-true (is_modified (x.state a))))
modified_step a x (Ends change) o m =
    rw (oldest_ended-state x x.chain change) (sym (and-true (is_modified (x.state a))))

-- a state is told by whether the line is held, alone and dirty
state_by-tests : (s : Mesi) → s ≡ state_by (is_held s) (is_sole s) (is_modified s)
state_by-tests Invalid = refl
state_by-tests Shared = refl
state_by-tests Exclusive = refl
state_by-tests Modified = refl

or_false : (b c : Bool) → (b || (false && c)) ≡ b
or_false true c = refl
or_false false c = refl

since_run : (p : Mesi → Bool) (gain loss : ℕ → MemoryLine → Event → Bool) (a : ℕ) (bytes : Bytes) (es : List Event)
    → p Invalid ≡ false
    → ((x : MemoryLine) (e : Event) → Ordered x → May x e
    → p ((effect x e).state a) ≡ (gain a x e || (p (x.state a) && not (loss a x e))))
    → MayRun (unheld bytes) es
    → p ((run (unheld bytes) es).state a) ≡ gained_and_kept (gain a) (loss a) (unheld bytes) es
since_run p gain loss a bytes es none step m =
    kept_run (λ x. p (x.state a)) (gain a) (loss a) (λ x e o h. trimmed_step x e o h) (unheld bytes) es
    (ordered_unheld bytes) m
    ∙ (rw none (or_false (gained_and_kept (gain a) (loss a) (unheld bytes) es)
    (not (any_event (loss a) (unheld bytes) es))))
  where
    trimmed_step : (x : MemoryLine) (e : Event) → Ordered x → May x e
        → p ((after x e).state a) ≡ (gain a x e || (p (x.state a) && not (loss a x e)))
    trimmed_step x e o h = rw (after-state x e) (step x e o h)

-- an agent holds the line since a grant with no loss after it
pub held_since : (bytes : Bytes) (es : List Event) (a : ℕ) → MayRun (unheld bytes) es
    → is_held ((run (unheld bytes) es).state a) ≡ is_held_since a (unheld bytes) es
held_since bytes es a m = since_run is_held is_grant is_loss a bytes es refl (held_step a) m

pub alone_since : (bytes : Bytes) (es : List Event) (a : ℕ) → MayRun (unheld bytes) es
    → is_sole ((run (unheld bytes) es).state a) ≡ is_alone_since a (unheld bytes) es
alone_since bytes es a m = since_run is_sole is_grant_alone ends_alone a bytes es refl (sole_step a) m

pub dirty_since : (bytes : Bytes) (es : List Event) (a : ℕ) → MayRun (unheld bytes) es
    → is_modified ((run (unheld bytes) es).state a) ≡ is_dirty_since a (unheld bytes) es
dirty_since bytes es a m = since_run is_modified is_dirtied ends_alone a bytes es refl (modified_step a) m

pub state_since : (bytes : Bytes) (es : List Event) (a : ℕ) → MayRun (unheld bytes) es
    → (run (unheld bytes) es).state a ≡ state_by (is_held_since a (unheld bytes) es)
    (is_alone_since a (unheld bytes) es) (is_dirty_since a (unheld bytes) es)
state_since bytes es a m =
    rw (← held_since bytes es a m, ← alone_since bytes es a m, ← dirty_since bytes es a m)
    (state_by-tests ((run (unheld bytes) es).state a))
