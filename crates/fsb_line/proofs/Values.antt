-- The events that make no link keep the bytes of a line.
use Rattle.std.proofs.Common.{◌≡◌, ℕ, Bool, true, false, [], ap, arith}
use Rattle.std.proofs.Math.Bool.{or-true}
use Rattle.std.proofs.lemmas.Bool.Decides.{nat_tests}
use Rattle.fsb_line.specs.Coherence.{Ordered, Valued}
use Rattle.fsb_line.specs.Events.{IsReady, MayLose, MaySettle, MayGrant, effect, settled}
use Rattle.fsb_line.specs.Events.Event.{Begins, Drops, IsCancelled, IsDeferred, IsLost, IsRetried, Stores}
use Rattle.fsb_line.specs.Line.{Bytes, MemoryLine, has_copy, put, trimmed}
use Rattle.fsb_line.specs.Links.{has_won, is_linked}
use Rattle.fsb_line.specs.States.{asks_line, is_held, is_modified, is_sole}
use Rattle.fsb_line.specs.declared.purpose.Purpose.{Purpose}
use Rattle.fsb_line.proofs.OrderHits.{sole_unlinked}
use Rattle.fsb_line.proofs.StateFacts.{cond-same, snoop_held, unheld_unmodified}

-- to lose the bytes of an agent that has none changes nothing that counts
pub Valued-trimmed : (x : MemoryLine) → Valued x → Valued (trimmed x)
unfolding trimmed
Valued-trimmed x v = record {
  copies = λ a h. rw h (v.copies a h);
  rests = v.rests;
  oldest = v.oldest;
  carried = v.carried;
  quiet = v.quiet;
}

-- a ready copy is a copy
pub ready_has_copy : (x : MemoryLine) (a : ℕ) → is_held (x.state a) ≡ true → is_linked a x.chain ≡ false
    → has_copy x a ≡ true
ready_has_copy x a h u = rw (h, u) (or-true (has_won a x.chain))

pub Valued-Stores : (x : MemoryLine) (a : ℕ) (change : Bytes → Bytes) → Ordered x → Valued x
    → IsReady x a × (is_sole (x.state a) ≡ true) → Valued (effect x (Stores a change))
unfolding effect put
Valued-Stores x a change o v m =
    let empty : x.chain ≡ [] = sole_unlinked x a o m.1 m.0.no_link in
    let e : x.copy a ≡ x.now = v.copies a (ready_has_copy x a m.0.held m.0.no_link) in
    let none : (b : ℕ) → has_won b x.chain ≡ false = λ b. ap (has_won b) empty in
    record {
      copies = λ b h. grind (arith, nat_tests, o.alone a m.1 b, none b, e);
      rests = λ f g. absurd (let h = g a in let k = cond-same a true (is_modified (x.state a)) in
          grind (arith, nat_tests));
      oldest = λ l ls f. absurd (cc);
      carried = λ bytes f. absurd (let q = v.quiet empty in cc);
      quiet = v.quiet;
    }

pub Valued-Drops : (x : MemoryLine) (a : ℕ) → Valued x → is_modified (x.state a) ≡ false → Valued (effect x (Drops a))
unfolding effect put
Valued-Drops x a v m = record {
  copies = λ b h. v.copies b (grind (arith, nat_tests));
  rests = λ f g. v.rests f (λ b. grind (arith, nat_tests, g b, m));
  oldest = v.oldest;
  carried = v.carried;
  quiet = v.quiet;
}

pub Valued-Begins : (x : MemoryLine) (a : ℕ) (kind : Purpose) (number : ℕ) → Valued x
    → Valued (effect x (Begins a kind number))
unfolding effect
Valued-Begins x a kind number v = record {
  copies = v.copies;
  rests = v.rests;
  oldest = v.oldest;
  carried = v.carried;
  quiet = v.quiet;
}

pub Valued-IsCancelled : (x : MemoryLine) (a : ℕ) → Valued x → Valued (effect x (IsCancelled a))
unfolding effect
Valued-IsCancelled x a v = record {
  copies = v.copies;
  rests = v.rests;
  oldest = v.oldest;
  carried = v.carried;
  quiet = v.quiet;
}

pub Valued-IsRetried : (x : MemoryLine) (a : ℕ) (kind : Purpose) → Valued x
    → MaySettle x a kind × (asks_line kind ≡ true) → Valued (effect x (IsRetried a kind))
unfolding effect settled
Valued-IsRetried x a kind v m = record {
  copies = λ b h. v.copies b (grind (arith, nat_tests, snoop_held));
  rests = λ f g. v.rests f (λ b. grind (arith, nat_tests, g b, m.0.clean b));
  oldest = v.oldest;
  carried = v.carried;
  quiet = v.quiet;
}

pub Valued-IsLost : (x : MemoryLine) (a : ℕ) → Valued x → MayLose x a → Valued (effect x (IsLost a))
unfolding effect settled
Valued-IsLost x a v m =
    let lost : is_held (x.state a) ≡ false = m.lost in
    record {
      copies = λ b h. v.copies b (grind (arith, nat_tests, snoop_held));
      rests = λ f g. v.rests f (λ b. grind (arith, nat_tests, m.settles.clean b, unheld_unmodified));
      oldest = v.oldest;
      carried = v.carried;
      quiet = v.quiet;
    }

pub Valued-IsDeferred : (x : MemoryLine) (a : ℕ) (kind : Purpose) (shared : Bool) → Valued x
    → MayGrant x a kind shared → Valued (effect x (IsDeferred a kind shared))
unfolding effect settled
Valued-IsDeferred x a kind shared v m = record {
  copies = λ b h. v.copies b (grind (arith, nat_tests, snoop_held));
  rests = λ f g. v.rests f (λ b. grind (arith, nat_tests, g b, m.settles.clean b));
  oldest = v.oldest;
  carried = v.carried;
  quiet = v.quiet;
}
