-- The modes of an import. Assumes nothing.
use Rattle.std.specs.Prelude.{ℕ, Bool, eqb}
use Rattle.sizes.specs.Sizes.{full}

-- 1 incremental, 2 full
unfoldable pub is_full : ℕ → Bool
is_full mode = eqb mode full
