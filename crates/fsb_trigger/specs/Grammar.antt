-- Which words are triggers, and of which steps.
use Rattle.std.specs.Prelude.{ℕ, ◌+◌, ◌-◌, ◌*◌, ◌/◌, ◌%◌, ◌^◌, ◌==◌, ◌&&◌, nat_eq, nat_le, nat_lt, if◌then◌else◌, Option, Some, None, option_map, option_and_then, List, [], ◌∷◌, ◌++◌, codes, length, map}
use Rattle.std.specs.Cmp.Lexicographic.{pointwise}
use Rattle.fsb_signal.specs.ControlLines.{line_named}
use Rattle.fsb_trigger.specs.declared.test.Test.{Test}
use Rattle.fsb_trigger.specs.declared.test.Test.TheVariants.{Asserted, NotAsserted, Request, Address, Data}
use Rattle.fsb_trigger.specs.TriggerSteps.{StepView}

-- a byte before the first of some parts
unfoldable pub onto_first : ℕ → List (List ℕ) → List (List ℕ)
onto_first c [] = (c ∷ []) ∷ []
onto_first c (part ∷ rest) = (c ∷ part) ∷ rest

-- the parts of a text that a byte divides
unfoldable pub parts : ℕ → List ℕ → List (List ℕ)
parts byte [] = [] ∷ []
parts byte (c ∷ cs) = if c == byte then [] ∷ parts byte cs else onto_first c (parts byte cs)

-- the text before the first such byte and the text behind it, where there is one
unfoldable pub cut_of : ℕ → List ℕ → Option (List ℕ × List ℕ)
cut_of byte [] = None
cut_of byte (c ∷ cs) =
    if c == byte then Some ([], cs) else option_map (λ cut. (c ∷ cut.0, cut.1)) (cut_of byte cs)

-- what stands behind this first byte
unfoldable pub behind_first : ℕ → List ℕ → Option (List ℕ)
behind_first byte [] = None
behind_first byte (c ∷ text) = if c == byte then Some text else None

-- two values, where both are there, put together
unfoldable pub both : {X Y Z : Type 0} → (X → Y → Z) → Option X → Option Y → Option Z
both f None y = None
both f (Some x) y = option_map (f x) y

-- the values of a list, where each is there
unfoldable pub all_there : {X : Type 0} → List (Option X) → Option (List X)
all_there [] = Some []
all_there (x ∷ rest) = both (λ x xs. x ∷ xs) x (all_there rest)

-- a list, where it has no more than 8 elements
unfoldable pub up_to_eight : {X : Type 0} → List X → Option (List X)
up_to_eight xs = if nat_le (length xs) 8 then Some xs else None

-- the list and one more value, read of a text, where it is there and the list has room for it
unfoldable pub next_of : {X : Type 0} → (List ℕ → Option X) → List X → List ℕ → Option (List X)
next_of read xs text =
    if nat_lt (length xs) 8 then option_map (λ x. xs ++ x ∷ []) (read text) else None

-- the value of a decimal digit
unfoldable pub decimal_value : ℕ → Option ℕ
decimal_value c = if nat_le 48 c && nat_le c 57 then Some (c - 48) else None

-- the value of a hexadecimal digit of either case
unfoldable pub hex_value : ℕ → Option ℕ
hex_value c =
    if nat_le 48 c && nat_le c 57 then Some (c - 48)
    else if nat_le 97 c && nat_le c 102 then Some (c - 87)
    else if nat_le 65 c && nat_le c 70 then Some (c - 55)
    else None

-- the number that digits make behind those that were read
abbrev pub number_behind : ℕ → (ℕ → Option ℕ) → ℕ → List ℕ → Option ℕ
number_behind base value n [] = Some n
number_behind base value n (c ∷ text) =
    option_and_then (λ d. number_behind base value (n * base + d) text) (value c)

-- a number of 1 to 16 hexadecimal digits
unfoldable pub hex_number : List ℕ → Option ℕ
hex_number text =
    if nat_le 1 (length text) && nat_le (length text) 16
    then number_behind 16 hex_value 0 text else None

-- a number of 1 to 6 decimal digits
unfoldable pub short_number : List ℕ → Option ℕ
short_number text =
    if nat_le 1 (length text) && nat_le (length text) 6
    then number_behind 10 decimal_value 0 text else None

-- a bound is not 0
unfoldable pub not_zero : ℕ → Option ℕ
not_zero n = if n == 0 then None else Some n

-- a bound: 1 to 6 decimal digits, and not 0
unfoldable pub bound_of : List ℕ → Option ℕ
bound_of text = option_and_then not_zero (short_number text)

-- a request word below 20, hexadecimal
unfoldable pub request_test : ℕ → Option Test
request_test n = if nat_lt n 32 then Some (Request n) else None

-- an address below 2 ^ 36 that is a multiple of 8; its word is the address divided by 8
unfoldable pub address_test : ℕ → Option Test
address_test n = if nat_lt n (2 ^ 36) && (n % 8 == 0) then Some (Address (n / 8)) else None

-- a test of the word of this name
unfoldable pub word_test : List ℕ → ℕ → Option Test
word_test name n =
    if pointwise nat_eq name (codes "REQ") then request_test n
    else if pointwise nat_eq name (codes "A") then address_test n
    else if pointwise nat_eq name (codes "D") then Some (Data n)
    else None

-- a test of a line or of a word: `X`, `REQ=h`, `A=h` or `D=h`
unfoldable pub plain_test : List ℕ → Option Test
plain_test text =
    elim (cut_of 61 text) [
      | Some cut ↦ option_and_then (word_test cut.0) (hex_number cut.1)
      | None ↦ option_map Asserted (line_named text)
    ]

-- a test: `!X` or one of those
unfoldable pub test_of : List ℕ → Option Test
test_of text =
    elim (behind_first 33 text) [
      | Some name ↦ option_map NotAsserted (line_named name)
      | None ↦ plain_test text
    ]

-- 1 to 8 tests, divided by commas
unfoldable pub tests_of : List ℕ → Option (List Test)
tests_of text = option_and_then up_to_eight (all_there (map test_of (parts 44 text)))

-- a step of these tests, within so many clocks
abbrev pub step_within : Option ℕ → List Test → StepView
step_within bound tests = record { bound = bound; tests = tests }

-- a bound, a colon and the tests of a step
unfoldable pub bounded_step : List ℕ → Option StepView
bounded_step text =
    elim (cut_of 58 text) [
      | Some cut ↦ both (λ n tests. step_within (Some n) tests) (bound_of cut.0) (tests_of cut.1)
      | None ↦ None
    ]

-- a step: its tests, and before them `<n:` where it has a bound
unfoldable pub step_read : List ℕ → Option StepView
step_read text =
    elim (behind_first 60 text) [
      | Some rest ↦ bounded_step rest
      | None ↦ option_map (step_within None) (tests_of text)
    ]

-- 1 to 8 steps, divided by `/`
unfoldable pub steps_read : List ℕ → Option (List StepView)
steps_read text = option_and_then up_to_eight (all_there (map step_read (parts 47 text)))

-- the steps, where the first of them has no bound
unfoldable pub first_unbound : List StepView → Option (List StepView)
first_unbound [] = None
first_unbound (first ∷ rest) = elim first.bound [ Some n ↦ None | None ↦ Some (first ∷ rest) ]

-- the steps of a trigger, and none where the word is no trigger
unfoldable pub trigger_of : List ℕ → Option (List StepView)
trigger_of word = option_and_then first_unbound (steps_read word)
