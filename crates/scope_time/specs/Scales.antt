-- How long a step of a dump's time is.
use Rattle.std.specs.Prelude.{ℕ, ◌*◌, ◌^◌, Bool, nat_eq, nat_lt, ◌||◌, if◌then◌else◌, Option, Some, None, List, [], ◌∷◌, Vec, map, take, drop, codes}
use Rattle.std.specs.List.{concat, position}
use Rattle.std.specs.Cmp.Lexicographic.{pointwise}
use Rattle.vcd_header.specs.declared.declared.Section.{Section}
use Rattle.vcd_header.specs.Told.{words_told}
use Rattle.scope_words.specs.declared.moment.Unit.{Unit}
use Rattle.scope_words.specs.declared.moment.Unit.TheVariants as units
use Rattle.scope_words.specs.Moments.{unit_in}
use Rattle.scope_time.specs.declared.scale.Factor.{Factor}
use Rattle.scope_time.specs.declared.scale.Factor.TheVariants as factors
use Rattle.scope_time.specs.declared.scale.Scale.{Scale}

-- the number that a factor is
abbrev pub factor_of : Factor → ℕ
factor_of factors.One = 1
factor_of factors.Ten = 10
factor_of factors.Hundred = 100

-- how many femtoseconds a unit has
abbrev pub femtoseconds : Unit → ℕ
femtoseconds units.Second = 10 ^ 15
femtoseconds units.Millisecond = 10 ^ 12
femtoseconds units.Microsecond = 10 ^ 9
femtoseconds units.Nanosecond = 10 ^ 6
femtoseconds units.Picosecond = 10 ^ 3
femtoseconds units.Femtosecond = 1

-- how many femtoseconds a step has
abbrev pub step_of : Scale → ℕ
step_of scale = factor_of scale.factor * femtoseconds scale.unit

-- the factor that a word is
unfoldable pub factor_in : List ℕ → Option Factor
factor_in word =
    if pointwise nat_eq word (codes "1") then Some factors.One
    else if pointwise nat_eq word (codes "10") then Some factors.Ten
    else if pointwise nat_eq word (codes "100") then Some factors.Hundred
    else None

-- the scale of this factor and unit, where both are there
unfoldable pub scale_with : Option Factor → Option Unit → Option Scale
scale_with None unit = None
scale_with (Some factor) None = None
scale_with (Some factor) (Some unit) = Some (record { factor = factor; unit = unit })

-- the scale of a text whose unit begins at this place
unfoldable pub scale_at : List ℕ → Option ℕ → Option Scale
scale_at text None = None
scale_at text (Some place) = scale_with (factor_in (take place text)) (unit_in (drop place text))

-- where the digits at the front of a text end
abbrev pub place_of : List ℕ → Option ℕ
place_of text = position (λ b. nat_lt b 48 || nat_lt 57 b) text

-- the scale that a text is: 1, 10 or 100, and a unit right behind
unfoldable pub scale_in : List ℕ → Option Scale
scale_in text = scale_at text (place_of text)

-- the section is a time scale
abbrev pub is_scale : Section → Bool
is_scale section = pointwise nat_eq section.keyword.items (codes "$timescale")

-- words, one right behind the other
abbrev pub text_of : {A : Type 0} → List (Vec ℕ A) → List ℕ
text_of words = concat (words_told words)

-- the scale of a header with these sections: what the first time scale among them says
abbrev pub scale_of : List Section → Option Scale
scale_of [] = None
scale_of (section ∷ sections) =
    if is_scale section then scale_in (text_of section.words.items) else scale_of sections
