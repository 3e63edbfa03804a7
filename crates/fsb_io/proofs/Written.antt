-- How far a text is written, piece by piece.
use Rattle.std.proofs.Common.{◌≡◌, List, [], ℕ, ◌++◌, refl, sym, ap, ◌∙◌, append_assoc, append-nil}
use Rattle.fsb_io.specs.Appends.{AppendsPart}

-- the front of the text was appended, and the rest is still to write
pub record Written (text rest old now : List ℕ) : Type 0 where
  pub part : List ℕ
  pub whole : text ≡ part ++ rest
  pub appended : now ≡ old ++ part

-- before any piece
pub written_none : (text old : List ℕ) → Written text text old old
written_none text old = record { part = []; whole = refl; appended = sym (append-nil old) }

-- after one more piece
pub written_more : (text ahead piece rest old mid now : List ℕ)
    → Written text ahead old mid → ahead ≡ piece ++ rest → now ≡ mid ++ piece → Written text rest old now
written_more text ahead piece rest old mid now w next more = record {
  part = w.part ++ piece;
  whole = w.whole ∙ ap (λ l. w.part ++ l) next ∙ sym (append_assoc w.part piece rest);
  appended = more ∙ ap (λ l. l ++ piece) w.appended ∙ append_assoc old w.part piece;
}

-- after a piece that was appended in part
pub written_part : (text ahead piece rest old mid now : List ℕ)
    → Written text ahead old mid → ahead ≡ piece ++ rest → AppendsPart piece mid now → AppendsPart text old now
written_part text ahead piece rest old mid now w next p = record {
  part = w.part ++ p.part;
  rest = p.rest ++ rest;
  whole = w.whole ∙ ap (λ l. w.part ++ l) (next ∙ ap (λ l. l ++ rest) p.whole) ∙ simp append_assoc refl;
  appended = p.appended ∙ ap (λ l. l ++ p.part) w.appended ∙ append_assoc old w.part p.part;
}

-- after the last piece
pub written_all : (text rest old now : List ℕ) → Written text rest old now → rest ≡ [] → now ≡ old ++ text
written_all text rest old now w end =
    w.appended ∙ ap (λ l. old ++ l) (sym (w.whole ∙ ap (λ l. w.part ++ l) end ∙ append-nil w.part))
