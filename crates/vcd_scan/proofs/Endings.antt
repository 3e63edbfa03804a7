-- How a text ends, from the fault at its end.
use Rattle.std.proofs.Common.{◌≡◌, ℕ, Bool, true, false, not, ◌&&◌, if◌then◌else◌, is_some, List, ◌++◌, length, Option, Some, None}
use Rattle.std.proofs.Common.{option_map, refl, ap}
use Rattle.vcd_grammar.specs.declared.fault.VcdFault.{VcdFault}
use Rattle.vcd_way.specs.Ways.{ValueRules}
use Rattle.vcd_way.specs.Steps.{hides_stamp, open_from}
use Rattle.vcd_way.specs.Answers.{EarlyEnd}
use Rattle.vcd_scan.specs.Wired.{Wiring}
use Rattle.vcd_scan.specs.Standing.{tokens_after, last_tokens_after, known_after, told_after, all_told_after, fault_behind}
use Rattle.vcd_scan.specs.Ending.{ends_early_after, early_end_after, fault_to_end, told_to_end}

-- the fault at the end of a text
abbrev pub fault_of : ValueRules → Wiring → List ℕ → List ℕ → Option VcdFault
fault_of m w head fed = fault_behind m w (last_tokens_after head fed) (length (head ++ fed))

-- the rules let a fault pass there
abbrev pub lets_end : ValueRules → Wiring → List ℕ → List ℕ → Bool
lets_end m w head fed = m.ends_early && not (hides_stamp (known_after m w (last_tokens_after head fed)).spot)

none-is : (a b c : Bool) (f : Option VcdFault) → f ≡ None → (a && b && c && is_some f) ≡ false
none-is true true true f h = ap is_some h
none-is true true false f h = refl
none-is true false c f h = refl
none-is false b c f h = refl

some-is : (a c : Bool) (o f : Option VcdFault) (fault : VcdFault) → o ≡ None → f ≡ Some fault
    → (a && not (is_some o) && c && is_some f) ≡ (a && c)
some-is false c o f fault h k = refl
some-is true true o f fault h k = λ i. true && not (is_some (h i)) && true && is_some (k i)
some-is true false o f fault h k = λ i. true && not (is_some (h i)) && false && is_some (k i)

-- ---- no fault

pub well-is : (m : ValueRules) (w : Wiring) (head fed : List ℕ) → fault_of m w head fed ≡ None
    → ends_early_after m w head fed ≡ false
well-is m w head fed h =
    none-is m.ends_early (not (is_some (known_after m w (tokens_after head fed)).fault))
    (not (hides_stamp (known_after m w (last_tokens_after head fed)).spot)) (fault_of m w head fed) h

-- ---- a fault

pub early-is : (m : ValueRules) (w : Wiring) (head fed : List ℕ) (fault : VcdFault)
    → (known_after m w (tokens_after head fed)).fault ≡ None → fault_of m w head fed ≡ Some fault
    → ends_early_after m w head fed ≡ lets_end m w head fed
early-is m w head fed fault n h =
    some-is m.ends_early (not (hides_stamp (known_after m w (last_tokens_after head fed)).spot))
    (known_after m w (tokens_after head fed)).fault (fault_of m w head fed) fault n h

-- ---- answers

pub fault-where : (m : ValueRules) (w : Wiring) (head fed : List ℕ) → ends_early_after m w head fed ≡ false
    → fault_to_end m w head fed ≡ fault_of m w head fed
fault-where m w head fed h = ap (λ b. if b then None else fault_of m w head fed) h

pub fault-early : (m : ValueRules) (w : Wiring) (head fed : List ℕ) → ends_early_after m w head fed ≡ true
    → fault_to_end m w head fed ≡ None
fault-early m w head fed h = ap (λ b. if b then None else fault_of m w head fed) h

pub end-where : (m : ValueRules) (w : Wiring) (head fed : List ℕ) → ends_early_after m w head fed ≡ false
    → early_end_after m w head fed ≡ None
end-where m w head fed h =
    let early : Option EarlyEnd = option_map
    (λ fault. record { fault = fault; open_from = open_from (known_after m w (last_tokens_after head fed)).spot })
    (fault_of m w head fed) in
    ap (λ b. if b then early else None) h

pub end-early : (m : ValueRules) (w : Wiring) (head fed : List ℕ) (fault : VcdFault) → ends_early_after m w head fed ≡ true
    → fault_of m w head fed ≡ Some fault
    → early_end_after m w head fed
    ≡ Some (record { fault = fault; open_from = open_from (known_after m w (last_tokens_after head fed)).spot })
end-early m w head fed fault h k =
    let early : Option VcdFault → Option EarlyEnd = option_map
    (λ fault. record { fault = fault; open_from = open_from (known_after m w (last_tokens_after head fed)).spot }) in
    (λ i. if h i then early (k i) else None)

pub told-where : (m : ValueRules) (w : Wiring) (head fed : List ℕ) → ends_early_after m w head fed ≡ false
    → told_to_end m w head fed ≡ all_told_after m w (last_tokens_after head fed)
told-where m w head fed h =
    ap (λ b. if b then told_after m w (tokens_after head fed) else all_told_after m w (last_tokens_after head fed)) h

pub told-early : (m : ValueRules) (w : Wiring) (head fed : List ℕ) → ends_early_after m w head fed ≡ true
    → told_to_end m w head fed ≡ told_after m w (tokens_after head fed)
told-early m w head fed h =
    ap (λ b. if b then told_after m w (tokens_after head fed) else all_told_after m w (last_tokens_after head fed)) h
