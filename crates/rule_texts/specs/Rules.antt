-- The numbers of the rules.
use Rattle.std.specs.Prelude.{ℕ, Bool, nat_le, ◌&&◌}

-- there is a rule of this number: 1 to 31
unfoldable pub is_rule : ℕ → Bool
is_rule rule = nat_le 1 rule && nat_le rule 31
