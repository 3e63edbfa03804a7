-- A locked item with no access has no two lines of one cache set; that it is no lawful item is since it has no access.
use Rattle.std.proofs.Common.{◌≡◌, true, [], refl}
use Rattle.fsb_script.specs.Bounds.{is_lock_apart}

pub no_access_is_apart : is_lock_apart 1 [] ≡ true
unfolding is_lock_apart
no_access_is_apart = refl
