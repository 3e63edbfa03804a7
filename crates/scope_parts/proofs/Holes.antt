-- The clocks and holes of events with one more.
use Rattle.std.proofs.Common.{◌≡◌, ◌∙◌, ℕ, ◌+◌, ◌==◌, ◌++◌, ◌∷◌, [], List, Option, Bool, true, false, if◌then◌else◌, refl, sym, ap, add_assoc, add-zero, zero-add, rules}
use Rattle.fsb_signal.specs.declared.sample.Sample.{Sample}
use Rattle.vcd_way.specs.Pieces.{Stamp as TimeStamp}
use Rattle.vcd_way.specs.Events.{DumpEvent, Sampled, Hole, Resumed}
use Rattle.vcd_course.specs.declared.event.Stamp.{Stamp}
use Rattle.vcd_course.specs.Told.{last_told}
use Rattle.scope_check.specs.Parts.{clocks_of}
use Rattle.scope_parts.specs.declared.counts.Counts.{Counts}
use Rattle.scope_parts.specs.Holes.{holes_in, first_hole_in}
use Rattle.scope_parts.specs.Standing.{Counted}
use Rattle.scope_parts.proofs.Clocks.{clocks_of-append}

holes-append : (es fs : List DumpEvent) → holes_in (es ++ fs) ≡ holes_in es + holes_in fs
holes-append [] fs = sym (zero-add (holes_in fs))
holes-append (Sampled s t ∷ es) fs = holes-append es fs
holes-append (Hole t ∷ es) fs = ap (λ n. 1 + n) (holes-append es fs) ∙ sym (add_assoc 1 (holes_in es) (holes_in fs))
holes-append (Resumed t ∷ es) fs = holes-append es fs

first-sampled : (es : List DumpEvent) (s : Sample) (t : Option TimeStamp)
    → first_hole_in (es ++ Sampled s t ∷ []) ≡ first_hole_in es
first-sampled [] s t = refl
first-sampled (Sampled a u ∷ es) s t = first-sampled es s t
first-sampled (Hole u ∷ es) s t = refl
first-sampled (Resumed u ∷ es) s t = first-sampled es s t

first-resumed : (es : List DumpEvent) (t : Option TimeStamp) → first_hole_in (es ++ Resumed t ∷ []) ≡ first_hole_in es
first-resumed [] t = refl
first-resumed (Sampled a u ∷ es) t = first-resumed es t
first-resumed (Hole u ∷ es) t = refl
first-resumed (Resumed u ∷ es) t = first-resumed es t

some_now : (n : ℕ) → ((1 + n) == 0) ≡ false
some_now n = search rules

first-hole : (es : List DumpEvent) (t : Option TimeStamp)
    → first_hole_in (es ++ Hole t ∷ []) ≡ (if holes_in es == 0 then t else first_hole_in es)
first-hole [] t = refl
first-hole (Sampled a u ∷ es) t = first-hole es t
first-hole (Hole u ∷ es) t = ap (λ b. if b then t else u) (sym (some_now (holes_in es)))
first-hole (Resumed u ∷ es) t = first-hole es t

told_either : (b : Bool) (s u : Option Stamp)
    → last_told (if b then s else u) ≡ (if b then last_told s else last_told u)
told_either true s u = refl
told_either false s u = refl

pub counted_hole : (c k : Counts) (es : List DumpEvent) (stamp : Option Stamp) → Counted c es
    → k.clocks ≡ c.clocks → k.holes ≡ c.holes + 1 → k.first_hole ≡ (if c.holes == 0 then stamp else c.first_hole)
    → Counted k (es ++ Hole (last_told stamp) ∷ [])
counted_hole c k es stamp h clocks holes first = record {
  clocks = clocks ∙ h.clocks ∙ sym (clocks_of-append es (Hole (last_told stamp) ∷ []) ∙ add-zero (clocks_of es));
  holes = holes ∙ ap (λ n. n + 1) h.holes ∙ sym (holes-append es (Hole (last_told stamp) ∷ []));
  first_hole = ap last_told first ∙ told_either (c.holes == 0) stamp c.first_hole
      ∙ ap (λ n. if n == 0 then last_told stamp else last_told c.first_hole) h.holes
      ∙ ap (λ t. if holes_in es == 0 then last_told stamp else t) h.first_hole ∙ sym (first-hole es (last_told stamp));
}

pub counted_sample : (c k : Counts) (es : List DumpEvent) (s : Sample) (t : Option TimeStamp) → Counted c es
    → k.clocks ≡ c.clocks + 1 → k.holes ≡ c.holes → k.first_hole ≡ c.first_hole → Counted k (es ++ Sampled s t ∷ [])
counted_sample c k es s t h clocks holes first = record {
  clocks = clocks ∙ ap (λ n. n + 1) h.clocks ∙ sym (clocks_of-append es (Sampled s t ∷ []));
  holes = holes ∙ h.holes ∙ sym (holes-append es (Sampled s t ∷ []) ∙ add-zero (holes_in es));
  first_hole = ap last_told first ∙ h.first_hole ∙ sym (first-sampled es s t);
}

pub counted_resumed : (c : Counts) (es : List DumpEvent) (t : Option TimeStamp) → Counted c es
    → Counted c (es ++ Resumed t ∷ [])
counted_resumed c es t h = record {
  clocks = h.clocks ∙ sym (clocks_of-append es (Resumed t ∷ []) ∙ add-zero (clocks_of es));
  holes = h.holes ∙ sym (holes-append es (Resumed t ∷ []) ∙ add-zero (holes_in es));
  first_hole = h.first_hole ∙ sym (first-resumed es t);
}
