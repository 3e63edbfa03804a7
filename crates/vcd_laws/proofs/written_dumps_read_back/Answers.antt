use Rattle.std.proofs.Common.{◌≡◌, ℕ, ◌⊎◌, inl, inr, ap, sym, ◌∙◌}
use Rattle.fsb_signal.specs.Parity.{marks_in}
use Rattle.vcd_grammar.specs.Reading.{marks_of, samples_of}
use Rattle.vcd_laws.proofs.Whole.{reads-back}
use Rattle.vcd_laws.proofs.written_dumps_read_back.Goals as goal

pub returns-clause-reads : goal.returns-clause-reads
returns-clause-reads c p w h = reads-back p w h

pub returns-clause-own_text : goal.returns-clause-own_text
returns-clause-own_text c p q v w h k same = (reads-back p v h).2 ∙ ap samples_of same ∙ sym (reads-back q w k).2

-- the two profiles have different marks
one_profile : (p q : ℕ) → (p ≡ 1) ⊎ (p ≡ 2) → (q ≡ 1) ⊎ (q ≡ 2) → marks_in p ≡ marks_in q → p ≡ q
one_profile p q (inl a) (inl b) same = a ∙ sym b
one_profile p q (inr a) (inr b) same = a ∙ sym b
one_profile p q (inl a) (inr b) same = let differ : marks_in 1 ≡ marks_in 2 = sym (ap marks_in a) ∙ same
    ∙ ap marks_in b in cc (ap (λ m. m.ap) differ)
one_profile p q (inr a) (inl b) same = let differ : marks_in 2 ≡ marks_in 1 = sym (ap marks_in a) ∙ same
    ∙ ap marks_in b in cc (ap (λ m. m.ap) differ)

pub returns-clause-own_profile : goal.returns-clause-own_profile
returns-clause-own_profile c p q v w h k same =
    one_profile p q h.profile k.profile ((reads-back p v h).1 ∙ ap marks_of same ∙ sym (reads-back q w k).1)
