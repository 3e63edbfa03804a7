-- Samples in which no line tells of a snoop, a response or data.
use Rattle.std.proofs.Common.{◌≡◌, true, false, refl}
use Rattle.std.proofs.lemmas.Bool.{and_parts, not-true}
use Rattle.fsb_signal.specs.declared.lines.TheConstants.Lines.{HIT, HITM, DEFER, RS0, RS1, RS2, TRDY, DBSY, DRDY, AERR}
use Rattle.fsb_signal.specs.declared.sample.Sample.{Sample}
use Rattle.fsb_signal.specs.Samples.{has_line}
use Rattle.fsb_laws.specs.OneMore.{responds}
use Rattle.fsb_rules.specs.Still.{is_still}

-- none of the lines is asserted
pub record Stillness (x : Sample) : Type 0 where
  pub hit : has_line x HIT ≡ false
  pub hitm : has_line x HITM ≡ false
  pub defer : has_line x DEFER ≡ false
  pub low : has_line x RS0 ≡ false
  pub middle : has_line x RS1 ≡ false
  pub high : has_line x RS2 ≡ false
  pub trdy : has_line x TRDY ≡ false
  pub dbsy : has_line x DBSY ≡ false
  pub drdy : has_line x DRDY ≡ false
  pub aerr : has_line x AERR ≡ false

pub stillness : (x : Sample) → is_still x ≡ true → Stillness x
unfolding is_still
stillness x t =
    let a = and_parts _ _ t in
    let b = and_parts _ _ a.0 in
    let c = and_parts _ _ b.0 in
    let d = and_parts _ _ c.0 in
    let e = and_parts _ _ d.0 in
    let f = and_parts _ _ e.0 in
    let g = and_parts _ _ f.0 in
    let h = and_parts _ _ g.0 in
    let i = and_parts _ _ h.0 in
    record {
      hit = not-true _ i.0;
      hitm = not-true _ i.1;
      defer = not-true _ h.1;
      low = not-true _ g.1;
      middle = not-true _ f.1;
      high = not-true _ e.1;
      trdy = not-true _ d.1;
      dbsy = not-true _ c.1;
      drdy = not-true _ b.1;
      aerr = not-true _ a.1;
    }

pub silent : (x : Sample) → Stillness x → responds x ≡ false
unfolding responds
silent x s = rw (s.low, s.middle, s.high) refl
