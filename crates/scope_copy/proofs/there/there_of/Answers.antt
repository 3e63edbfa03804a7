use Rattle.std.proofs.Common.{◌∷◌, []}
use Rattle.scope_copy.proofs.there.there_of.Goals as goal

pub returns : goal.returns
returns c = (λ i.
    c.is_there.ensures i ∷ c.is_there-2.ensures i ∷ c.is_there-3.ensures i ∷ c.is_there-4.ensures i ∷
    c.is_there-5.ensures i ∷ c.is_there-6.ensures i ∷ c.is_there-7.ensures i ∷ c.is_there-8.ensures i ∷
    c.is_there-9.ensures i ∷ c.is_there-10.ensures i ∷ c.is_there-11.ensures i ∷ c.is_there-12.ensures i ∷
    c.is_there-13.ensures i ∷ c.is_there-14.ensures i ∷ c.is_there-15.ensures i ∷ c.is_there-16.ensures i ∷
    c.is_there-17.ensures i ∷ c.is_there-18.ensures i ∷ c.is_there-19.ensures i ∷ c.is_there-20.ensures i ∷
    c.is_there-21.ensures i ∷ c.is_there-22.ensures i ∷
    [])
