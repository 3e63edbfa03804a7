-- Every event that may happen keeps the order and the bytes of a line, and meets what it owes.
use Rattle.std.proofs.Common.{◌≡◌, ℕ, Bool, true, false, cond, Option, Some, None, is_some, List, [], ◌∷◌, refl, ◌∙◌}
use Rattle.std.proofs.Common.{ap, unwrap_or}
use Rattle.fsb_line.specs.Coherence.{EndsOldest, IsCoherent, MovesNow, Ordered, Owes, Valued}
use Rattle.fsb_line.specs.Events.{AwaitsResponse, Event, HasArrived, IsDecidedEnd, May, after, arrived, effect}
use Rattle.fsb_line.specs.Events.{oldest_ended, given, linked, replied, responded, settled, stored, stored_at_end}
use Rattle.fsb_line.specs.Events.Event.{Begins, Drops, Ends, IsCancelled, IsDeferred, IsGranted, IsHanded, IsLost}
use Rattle.fsb_line.specs.Events.Event.{IsReplied, IsRetried, IsUpgraded, IsWritten, Loads, Responds, Stores}
use Rattle.fsb_line.specs.Line.{Bytes, LineDeferral, MemoryLine, brought, has_copy, trimmed, unheld}
use Rattle.fsb_line.specs.LineRuns.{MayRun, OwesAll, stored_by_all, run}
use Rattle.fsb_line.specs.States.{asks_line, gets_line, put_off, sent_back, served}
use Rattle.fsb_line.specs.declared.purpose.Purpose.{Purpose}
use Rattle.fsb_line.specs.declared.purpose.Purpose.TheVariants.{Own, Read, Upgrade, WriteBack}
use Rattle.fsb_line.specs.declared.purpose.Settled.{Settled}
use Rattle.fsb_line.specs.declared.purpose.Settled.TheVariants.{Deferred, Granted, Retried, Written}
use Rattle.fsb_line.specs.declared.purpose.Ruling.TheVariants.{Defer, Keep, Retry}
use Rattle.fsb_line.specs.declared.link.Link.{Link}
use Rattle.fsb_line.proofs.Order.{Ordered-IsRetried, Ordered-trimmed}
use Rattle.fsb_line.proofs.OrderEnds.{Ordered-Ends, Ordered-Responds}
use Rattle.fsb_line.proofs.OrderHits.{Ordered-Begins, Ordered-Drops, Ordered-IsCancelled, Ordered-Stores}
use Rattle.fsb_line.proofs.OrderSnoops.{Ordered-IsDeferred, Ordered-IsGranted, Ordered-IsHanded, Ordered-IsLost}
use Rattle.fsb_line.proofs.OrderSnoops.{Ordered-IsReplied, Ordered-IsUpgraded, Ordered-IsWritten}
use Rattle.fsb_line.proofs.StateFacts.{modified_is_sole}
use Rattle.fsb_line.proofs.ValueEnds.{Valued-Ends, Valued-Responds, brought_now, no_copies}
use Rattle.fsb_line.proofs.ValueSnoops.{Valued-IsGranted, Valued-IsHanded, Valued-IsReplied, Valued-IsUpgraded}
use Rattle.fsb_line.proofs.ValueSnoops.{Valued-IsWritten}
use Rattle.fsb_line.proofs.Values.{Valued-Begins, Valued-Drops, Valued-IsCancelled, Valued-IsDeferred, Valued-IsLost}
use Rattle.fsb_line.proofs.Values.{Valued-IsRetried, Valued-Stores, Valued-trimmed, ready_has_copy}

-- what the end of the oldest link brings
brought_some : (x : MemoryLine) (l : Link) (ls : List Link) → x.chain ≡ l ∷ ls → Valued x
    → is_some (brought x l) ≡ true → brought x l ≡ Some x.now
brought_some x l ls e v h = one (brought x l) refl h
  where
    one : (b : Option Bytes) → brought x l ≡ b → is_some b ≡ true → brought x l ≡ Some x.now
    one None f g = absurd (cc)
    one (Some bytes) f g = f ∙ ap Some (brought_now x l ls bytes e v f)

Ordered-oldest_ended : (x : MemoryLine) (ls : List Link) (change : Bytes → Bytes) → x.chain ≡ ls → Ordered x
    → Ordered (oldest_ended x ls change)
unfolding oldest_ended
Ordered-oldest_ended x [] change e o = o
Ordered-oldest_ended x (l ∷ ls) change e o = Ordered-Ends x l ls change (unwrap_or (brought x l) []) e o

Valued-oldest_ended : (x : MemoryLine) (ls : List Link) (change : Bytes → Bytes) → x.chain ≡ ls
    → HasArrived x ls → Ordered x → Valued x → Valued (oldest_ended x ls change)
unfolding oldest_ended
Valued-oldest_ended x [] change e h o v = v
Valued-oldest_ended x (l ∷ ls) change e h o v =
    Valued-Ends x l ls change (unwrap_or (brought x l) []) e (rw (brought_some x l ls e v h)) o v

ordered_effect : (x : MemoryLine) (e : Event) → Ordered x → May x e → Ordered (effect x e)
unfolding May
ordered_effect x (Loads a) o m = unfold effect in o
ordered_effect x (Stores a change) o m = Ordered-Stores x a change o m
ordered_effect x (Drops a) o m = Ordered-Drops x a o m
ordered_effect x (Begins a kind number) o m = Ordered-Begins x a kind number o m
ordered_effect x (IsCancelled a) o m = Ordered-IsCancelled x a o
ordered_effect x (IsWritten a) o m = Ordered-IsWritten x a o m
ordered_effect x (IsHanded a kind owner) o m = Ordered-IsHanded x a kind owner o m
ordered_effect x (IsGranted a kind shared) o m = Ordered-IsGranted x a kind shared o m
ordered_effect x (IsUpgraded a) o m = Ordered-IsUpgraded x a o m
ordered_effect x (IsLost a) o m = Ordered-IsLost x a o m
ordered_effect x (IsRetried a kind) o m = Ordered-IsRetried x a kind o m
ordered_effect x (IsDeferred a kind shared) o m = Ordered-IsDeferred x a kind shared o m
ordered_effect x IsReplied o m = unfold effect in Ordered-IsReplied x x.deferral refl m o
ordered_effect x Responds o m = unfold effect in Ordered-Responds x x.chain o
ordered_effect x (Ends change) o m = unfold effect in Ordered-oldest_ended x x.chain change refl o

valued_effect : (x : MemoryLine) (e : Event) → Ordered x → Valued x → May x e → Valued (effect x e)
unfolding May
valued_effect x (Loads a) o v m = unfold effect in v
valued_effect x (Stores a change) o v m = Valued-Stores x a change o v m
valued_effect x (Drops a) o v m = Valued-Drops x a v m
valued_effect x (Begins a kind number) o v m = Valued-Begins x a kind number v
valued_effect x (IsCancelled a) o v m = Valued-IsCancelled x a v
valued_effect x (IsWritten a) o v m = Valued-IsWritten x a o v m
valued_effect x (IsHanded a kind owner) o v m = Valued-IsHanded x a kind owner o v m
valued_effect x (IsGranted a kind shared) o v m = Valued-IsGranted x a kind shared o v m
valued_effect x (IsUpgraded a) o v m = Valued-IsUpgraded x a o v m
valued_effect x (IsLost a) o v m = Valued-IsLost x a v m
valued_effect x (IsRetried a kind) o v m = Valued-IsRetried x a kind v m
valued_effect x (IsDeferred a kind shared) o v m = Valued-IsDeferred x a kind shared v m
valued_effect x IsReplied o v m = unfold effect in Valued-IsReplied x x.deferral refl m o v
valued_effect x Responds o v m = unfold effect in Valued-Responds x x.chain refl v
valued_effect x (Ends change) o v m = unfold effect in Valued-oldest_ended x x.chain change refl m o v

-- every event that may happen keeps the order of a line
pub ordered_after : (x : MemoryLine) (e : Event) → Ordered x → May x e → Ordered (after x e)
unfolding after
ordered_after x e o m = Ordered-trimmed (effect x e) (ordered_effect x e o m)

-- and the bytes
pub valued_after : (x : MemoryLine) (e : Event) → Ordered x → Valued x → May x e → Valued (after x e)
unfolding after
valued_after x e o v m = Valued-trimmed (effect x e) (valued_effect x e o v m)

responds_now : (x : MemoryLine) (ls : List Link) → x.chain ≡ ls → Valued x → AwaitsResponse x ls → MovesNow x ls
responds_now x [] e v h = h
responds_now x (l ∷ ls) e v h = v.oldest l ls e

ends_now : (x : MemoryLine) (ls : List Link) → x.chain ≡ ls → HasArrived x ls → Ordered x → Valued x → EndsOldest x ls
ends_now x [] e h o v = h
ends_now x (l ∷ ls) e h o v = record {
  value = brought_some x l ls e v h;
  alone = λ w a n. no_copies x l ls a e o w n;
}

-- every event meets what it owes
pub owes_met : (x : MemoryLine) (e : Event) → Ordered x → Valued x → May x e → Owes x e
unfolding May Owes
owes_met x (Loads a) o v m = record { value = v.copies a (ready_has_copy x a m.held m.no_link) }
owes_met x (Stores a change) o v m = record {
  value = v.copies a (ready_has_copy x a m.0.held m.0.no_link);
  alone = o.alone a m.1;
}
owes_met x (Drops a) o v m = tt
owes_met x (Begins a kind number) o v m = tt
owes_met x (IsCancelled a) o v m = tt
owes_met x (IsWritten a) o v m = record {
  modified = o.suited a _ m.asked;
  alone = o.alone a (modified_is_sole (x.state a) (o.suited a _ m.asked));
}
owes_met x (IsHanded a kind owner) o v m =
    record { modified = m.modified; alone = o.alone owner (modified_is_sole (x.state owner) m.modified) }
owes_met x (IsGranted a kind shared) o v m = tt
owes_met x (IsUpgraded a) o v m =
    record { value = v.copies a (ready_has_copy x a m.held (o.apart a _ m.settles.oldest.asked)) }
owes_met x (IsLost a) o v m = tt
owes_met x (IsRetried a kind) o v m = tt
owes_met x (IsDeferred a kind shared) o v m = tt
owes_met x IsReplied o v m = tt
owes_met x Responds o v m = responds_now x x.chain refl v m
owes_met x (Ends change) o v m = ends_now x x.chain refl m o v

-- a line that nobody holds or asks for is in order, and has its bytes
pub ordered_unheld : (bytes : Bytes) → Ordered (unheld bytes)
ordered_unheld bytes = record {
  alone = λ a h. absurd (cc);
  suited = λ a k e. absurd (cc);
  apart = λ a k e. absurd (cc);
  first = λ a b j k e f. absurd (cc);
  pending = λ d e. absurd (cc);
  sole_is_newest = λ a l h e. absurd (cc);
  modified_owns = λ a l h e. absurd (cc);
  newest_owner = λ l e h. absurd (cc);
  chained = tt;
  holds_on = λ a h. refl;
  no_late_upgrade = refl;
}

pub valued_unheld : (bytes : Bytes) → Valued (unheld bytes)
valued_unheld bytes = record {
  copies = λ a h. absurd (cc);
  rests = λ e f. refl;
  oldest = λ l ls e. absurd (cc);
  carried = λ b e. absurd (cc);
  quiet = λ e. refl;
}

pub ordered_run : (x : MemoryLine) (es : List Event) → Ordered x → MayRun x es → Ordered (run x es)
ordered_run x [] o m = o
ordered_run x (e ∷ es) o m = ordered_run (after x e) es (ordered_after x e o m.0) m.1

pub valued_run : (x : MemoryLine) (es : List Event) → Ordered x → Valued x → MayRun x es → Valued (run x es)
valued_run x [] o v m = v
valued_run x (e ∷ es) o v m = valued_run (after x e) es (ordered_after x e o m.0) (valued_after x e o v m.0) m.1

pub owes_run : (x : MemoryLine) (es : List Event) → Ordered x → Valued x → MayRun x es → OwesAll x es
owes_run x [] o v m = tt
owes_run x (e ∷ es) o v m =
    (owes_met x e o v m.0, owes_run (after x e) es (ordered_after x e o m.0) (valued_after x e o v m.0) m.1)

pub coherent : (x : MemoryLine) → Ordered x → Valued x → IsCoherent x
coherent x o v = record {
  one_writer = o.alone;
  ready_copies = λ a r. v.copies a (ready_has_copy x a r.held r.no_link);
  memory = v.rests;
  bus = v.carried;
  pending = λ d e. (o.pending d e).nobody_sole;
}

-- over every list of events that may happen, from a line that nobody holds, each event meets what it owes
pub owes_from_unheld : (bytes : Bytes) (es : List Event) → MayRun (unheld bytes) es → OwesAll (unheld bytes) es
owes_from_unheld bytes es m = owes_run (unheld bytes) es (ordered_unheld bytes) (valued_unheld bytes) m

-- and the line is coherent
pub coherent_from_unheld : (bytes : Bytes) (es : List Event) → MayRun (unheld bytes) es
    → IsCoherent (run (unheld bytes) es)
coherent_from_unheld bytes es m =
    coherent (run (unheld bytes) es)
    (ordered_run (unheld bytes) es (ordered_unheld bytes) m)
    (valued_run (unheld bytes) es (ordered_unheld bytes) (valued_unheld bytes) m)

responded-now : (x : MemoryLine) (ls : List Link) → (responded x ls).now ≡ x.now
unfolding responded
responded-now x [] = refl
responded-now x (l ∷ ls) = refl

oldest_ended-now : (x : MemoryLine) (ls : List Link) (change : Bytes → Bytes)
    → (oldest_ended x ls change).now ≡ stored_at_end ls change x.now
unfolding oldest_ended arrived
oldest_ended-now x [] change = refl
oldest_ended-now x (l ∷ ls) change = refl

replied-now : (x : MemoryLine) (od : Option LineDeferral) → (replied x od).now ≡ x.now
unfolding replied settled linked
replied-now x None = refl
replied-now x (Some d) = refl

after-now : (x : MemoryLine) (e : Event) → (after x e).now ≡ stored x e x.now
unfolding after trimmed effect stored settled linked given
after-now x (Loads a) = refl
after-now x (Stores a change) = refl
after-now x (Drops a) = refl
after-now x (Begins a kind number) = refl
after-now x (IsCancelled a) = refl
after-now x (IsWritten a) = refl
after-now x (IsHanded a kind owner) = refl
after-now x (IsGranted a kind shared) = refl
after-now x (IsUpgraded a) = refl
after-now x (IsLost a) = refl
after-now x (IsRetried a kind) = refl
after-now x (IsDeferred a kind shared) = refl
after-now x IsReplied = replied-now x x.deferral
after-now x Responds = responded-now x x.chain
after-now x (Ends change) = oldest_ended-now x x.chain change

-- the line in the one flat memory is what the stores make of it
pub run-now : (x : MemoryLine) (es : List Event) → (run x es).now ≡ stored_by_all x es x.now
run-now x [] = refl
run-now x (e ∷ es) = run-now (after x e) es ∙ ap (stored_by_all (after x e) es) (after-now x e)

-- an agent that has no bytes has none
pub after-copy : (x : MemoryLine) (e : Event) (a : ℕ) → has_copy (after x e) a ≡ false → (after x e).copy a ≡ []
unfolding after trimmed
after-copy x e a h = rw h

sent_back_asker : (k : Purpose) → asks_line k ≡ true → sent_back k ≡ Retried
sent_back_asker Read h = refl
sent_back_asker Own h = refl
sent_back_asker Upgrade h = refl
sent_back_asker WriteBack h = absurd (cc)

put_off_getter : (k : Purpose) → gets_line k ≡ true → put_off k ≡ Deferred
put_off_getter Read h = refl
put_off_getter Own h = refl
put_off_getter Upgrade h = absurd (cc)
put_off_getter WriteBack h = absurd (cc)

served_getter : (k : Purpose) → gets_line k ≡ true → served k ≡ Granted
served_getter Read h = refl
served_getter Own h = refl
served_getter Upgrade h = absurd (cc)
served_getter WriteBack h = absurd (cc)

cond_alike : (b : Bool) (s t : Settled) → s ≡ t → cond b t s ≡ t
cond_alike true s t h = refl
cond_alike false s t h = h

-- each snoop end comes out as the bus decides
pub snoop_end_decided : (x : MemoryLine) (e : Event) → May x e → IsDecidedEnd x e
unfolding May IsDecidedEnd
snoop_end_decided x (Loads a) m = tt
snoop_end_decided x (Stores a change) m = tt
snoop_end_decided x (Drops a) m = tt
snoop_end_decided x (Begins a kind number) m = tt
snoop_end_decided x (IsCancelled a) m = tt
snoop_end_decided x (IsWritten a) m = (Keep, cond_alike (is_some x.deferral) Written Written refl)
snoop_end_decided x (IsHanded a kind owner) m = (Keep, refl)
snoop_end_decided x (IsGranted a kind shared) m = (Keep, rw m.not_pending (served_getter kind m.gets))
snoop_end_decided x (IsUpgraded a) m = (Keep, rw m.not_pending)
snoop_end_decided x (IsLost a) m = (Keep, rw m.not_pending)
snoop_end_decided x (IsRetried a kind) m =
    (Retry, rw (sent_back_asker kind m.1) (cond_alike (is_some x.deferral) Retried Retried refl))
snoop_end_decided x (IsDeferred a kind shared) m = (Defer, rw m.not_pending (put_off_getter kind m.gets))
snoop_end_decided x IsReplied m = tt
snoop_end_decided x Responds m = tt
snoop_end_decided x (Ends change) m = tt
