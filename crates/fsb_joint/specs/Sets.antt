-- Sets of joint states as numbers of 24 bits: bit n says whether the n-th joint state of `every_joint` is in the set.
use Rattle.std.specs.Prelude.{ℕ, ◌/◌, ◌%◌, ◌^◌, nat_eq, Bool, List, map, slice_get, unwrap_or}
use Rattle.fsb_count.specs.Clocks.{all_where}
use Rattle.fsb_owners.specs.Joint.{Joint, every_joint, unheld}
use Rattle.fsb_joint.specs.declared.set.JointSet.{JointSet}

-- the n-th joint state, from 0
unfoldable pub joint_at : ℕ → Joint
joint_at n = unwrap_or (slice_get every_joint n) unheld

-- bit n of the mask is 1
unfoldable pub has_bit : ℕ → ℕ → Bool
has_bit mask n = nat_eq (mask / 2 ^ n % 2) 1

-- the joint states whose bits are 1, in the order of `every_joint`
unfoldable pub joints_in : ℕ → List Joint
joints_in mask = map joint_at (all_where (has_bit mask) 24)

-- the joint states of a set, in the order of `every_joint`
abbrev pub joints_of : JointSet → List Joint
joints_of set = joints_in set.mask
