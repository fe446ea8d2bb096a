-- What stands behind references is there where they are.
use Rattle.std.proofs.Common.{◌≡◌, ℕ, List, refl}
use Rattle.std.specs.Prelude.{Option, Some, None, is_some}
use Rattle.std.specs.Borrow.{Bor}
use Rattle.std.specs.Option.{option_copied}
use Rattle.th_pool.specs.PoolView.{member_view}

pub is_some-copied : (o : Option (Bor (List ℕ))) → is_some o ≡ is_some (option_copied o)
is_some-copied None = refl
is_some-copied (Some x) = refl

pub is_some-member : (o : Option (ℕ × Bor (List ℕ) × Bor (List ℕ) × Bor (List ℕ))) → is_some o ≡ is_some (member_view o)
is_some-member None = refl
is_some-member (Some x) = refl
