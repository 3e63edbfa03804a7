-- What is known behind the header of a written dump, in each profile.
use Rattle.std.proofs.Common.{◌≡◌, ℕ, zero, suc, ◌-◌, ◌<◌, ◌≤◌, Bool, true, false, not, List, [], ◌∷◌, ◌++◌, map}
use Rattle.std.proofs.Common.{Option, Some, None, refl, ap, arith, codes}
use Rattle.std.specs.Prelude.{◌==◌, ◌&&◌, nat_le}
use Rattle.std.specs.Fmt.{digits}
use Rattle.std.proofs.lemmas.Bool.{eqb-true, leb-true, and_parts}
use Rattle.fsb_signal.specs.Table.{signal_number}
use Rattle.fsb_signal.specs.DumpText.{dump_code_of, width_of, entries_in, texts_from, declaration_text, range_text}
use Rattle.vcd_grammar.specs.Tokens.{is_white, tokens_from, open_run_from, ended_at, grown_at}
use Rattle.vcd_grammar.specs.Digits.{number_up_to, time_in}
use Rattle.vcd_grammar.specs.Words.{header_word, value_word, is_read_past, is_foreign_type}
use Rattle.vcd_grammar.specs.Codes.{Code, lines_of}
use Rattle.vcd_grammar.specs.Blocks.{Change, BlockEvent, Later, Changed}
use Rattle.vcd_grammar.specs.Judging.{Known, Values, nothing, turn, drafted, declared, closed, behind, events_in}
use Rattle.vcd_laws.proofs.Pieces.{Word}

-- the profiles
pub data Profile : Type 0 where
  One : Profile
  Two : Profile

abbrev pub number_of_profile : Profile → ℕ
number_of_profile One = 1
number_of_profile Two = 2

-- how many entries of the table a dump of the profile has
abbrev pub entries : Profile → ℕ
entries p = entries_in (number_of_profile p)

-- the last of them
abbrev pub last_entry : Profile → ℕ
last_entry p = entries p - 1

-- the numbers of these entries
abbrev pub numbers : Profile → List ℕ
numbers One = 0 ∷ 1 ∷ 2 ∷ 3 ∷ 4 ∷ 5 ∷ 6 ∷ 7 ∷ 8 ∷ 9 ∷ 10 ∷ 11 ∷ 12 ∷ 13 ∷ 14 ∷ 15 ∷ 16 ∷ 17 ∷ 18 ∷ 19 ∷ []
numbers Two = 0 ∷ 1 ∷ 2 ∷ 3 ∷ 4 ∷ 5 ∷ 6 ∷ 7 ∷ 8 ∷ 9 ∷ 10 ∷ 11 ∷ 12 ∷ 13 ∷ 14 ∷ 15 ∷ 16 ∷ 17 ∷ 18 ∷ 19 ∷ 20 ∷ 21 ∷ []

-- each has a code of its own
abbrev pub written_codes : Profile → List Code
written_codes p = map (λ number. record { code = dump_code_of number ∷ []; lines = number ∷ [] }) (numbers p)

-- what is known among the values of a written dump, at a time
abbrev pub written : Profile → ℕ → Known
written p time = record { fault = None; mode = Values; lines = numbers p; codes = written_codes p; time = Some time }

-- one line gets these digits
abbrev pub sets : ℕ → List ℕ → Change
sets number digits = record { lines = number ∷ []; digits = digits }

-- changes as events
abbrev pub changed : List Change → List BlockEvent
changed changes = map Changed changes

-- ---- the fixed part of the header: the declarations, the first time, and the clock's first value

abbrev pub fixed_text : Profile → List ℕ
fixed_text p =
    codes "$version p6bench 1 $end\n$timescale 1 ns $end\n$scope module fsb $end\n"
    ++ texts_from declaration_text 0 (entries p)
    ++ codes "$upscope $end\n$enddefinitions $end\n#0\n$dumpvars\n0!\n"

-- each line is unknown once it was declared
abbrev pub unknown_lines : Profile → List Change
unknown_lines p = map (λ number. sets number (120 ∷ [])) (numbers p)

pub fixed-closes : (p : Profile) → open_run_from [] (fixed_text p) ≡ []
unfolding digits texts_from declaration_text range_text
fixed-closes One = refl
fixed-closes Two = refl

pub fixed-known : (p : Profile) → behind nothing (tokens_from 0 [] (fixed_text p)) ≡ written p 0
unfolding digits texts_from declaration_text range_text ended_at grown_at number_up_to time_in header_word
    value_word is_read_past is_foreign_type signal_number turn drafted declared closed
fixed-known One = refl
fixed-known Two = refl

pub fixed-happens : (p : Profile)
    → events_in nothing (tokens_from 0 [] (fixed_text p)) ≡ changed (unknown_lines p)
    ++ Later ∷ changed (sets 0 (48 ∷ []) ∷ [])
unfolding digits texts_from declaration_text range_text ended_at grown_at number_up_to time_in header_word
    value_word is_read_past is_foreign_type signal_number turn drafted declared closed
fixed-happens One = refl
fixed-happens Two = refl

-- ---- each number of a dump

-- what holds of 0 and of the next ones
pub next : (P : ℕ → Type 0) (k : ℕ) → P zero → ((n : ℕ) → n < k → P (suc n)) → (n : ℕ) → n < suc k → P n
next P k here more zero h = here
next P k here more (suc n) h = more n (omega (arith, h))

pub none : (P : ℕ → Type 0) (n : ℕ) → n < 0 → P n
none P n h = absurd (omega (arith, h))

-- these are the lines of a code that has this one
is_alone : Option (List ℕ) → ℕ → Bool
is_alone None number = false
is_alone (Some []) number = false
is_alone (Some (n ∷ [])) number = n == number
is_alone (Some (n ∷ m ∷ ns)) number = false

alone : (o : Option (List ℕ)) (number : ℕ) → is_alone o number ≡ true → o ≡ Some (number ∷ [])
unfolding is_alone
alone None number h = cc
alone (Some []) number h = cc
alone (Some (n ∷ [])) number h = ap (λ x. Some (x ∷ [])) (eqb-true n number h)
alone (Some (n ∷ m ∷ ns)) number h = cc

is_listed : Profile → ℕ → Bool
is_listed p number =
    is_alone (lines_of (written_codes p) (dump_code_of number ∷ [])) number
    && ((nat_le 1 (width_of number) && nat_le (width_of number) 64) && not (is_white (dump_code_of number)))

listed_test : (p : Profile) (n : ℕ) → n < entries p → is_listed p n ≡ true
unfolding is_listed is_alone
listed_test One =
    next _ 19 refl
    (next _ 18 refl
    (next _ 17 refl
    (next _ 16 refl (next _ 15 refl (next _ 14 refl (next _ 13 refl (next _ 12 refl (next _ 11 refl (next _ 10 refl
    (next _ 9 refl
    (next _ 8 refl
    (next _ 7 refl
    (next _ 6 refl
    (next _ 5 refl
    (next _ 4 refl (next _ 3 refl (next _ 2 refl (next _ 1 refl (next _ 0 refl (none _))))))))))))))))))))
listed_test Two =
    next _ 21 refl (next _ 20 refl
    (next _ 19 refl
    (next _ 18 refl
    (next _ 17 refl
    (next _ 16 refl (next _ 15 refl (next _ 14 refl (next _ 13 refl (next _ 12 refl (next _ 11 refl (next _ 10 refl
    (next _ 9 refl
    (next _ 8 refl
    (next _ 7 refl
    (next _ 6 refl
    (next _ 5 refl
    (next _ 4 refl (next _ 3 refl (next _ 2 refl (next _ 1 refl (next _ 0 refl (none _))))))))))))))))))))))

-- a number of a dump: the lines of its code, its width, and its code as a token
pub record Listed (p : Profile) (number : ℕ) : Type 0 where
  pub lines : lines_of (written_codes p) (dump_code_of number ∷ []) ≡ Some (number ∷ [])
  pub some : 1 ≤ width_of number
  pub few : width_of number ≤ 64
  pub code : Word (dump_code_of number ∷ [])

code_word : (code : ℕ) → not (is_white code) ≡ true → Word (code ∷ [])
code_word code dark = record { some = omega arith; few = omega arith; plain = ap (λ t. t && true) dark }

pub listed : (p : Profile) (number : ℕ) → number < entries p → Listed p number
unfolding is_listed
listed p number h =
    let test = listed_test p number h in
    let rest = (and_parts _ _ test).1 in
    let widths = (and_parts _ _ rest).0 in
    record {
      lines = alone _ number (and_parts _ _ test).0;
      some = leb-true 1 (width_of number) (and_parts _ _ widths).0;
      few = leb-true (width_of number) 64 (and_parts _ _ widths).1;
      code = code_word (dump_code_of number) (and_parts _ _ rest).1;
    }
