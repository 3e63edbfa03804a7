-- What a call of `begin` leaves behind.
use Rattle.std.specs.Prelude.{◌≡◌, ℕ, List, [], Option, Some}

-- a source was begun: all that it holds is left to read, and this is the name begun last
pub record IsBegun (held left name : List ℕ) (begun_as : Option (List ℕ)) : Type 0 where
  pub all_left : left ≡ held
  pub named : begun_as ≡ Some name

-- a sink was begun: it holds nothing, and this is the name begun last
pub record IsEmptied (held name : List ℕ) (begun_as : Option (List ℕ)) : Type 0 where
  pub empty : held ≡ []
  pub named : begun_as ≡ Some name
