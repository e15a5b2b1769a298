-- An offset in range as a natural number: by how many minutes it is ahead of -720. Assumes nothing.
use Rattle.std.specs.Prelude.{ℕ, suc, ◌+◌, ◌-◌, ℤ, pos, negsuc}
use Rattle.std.proofs.Math.IntN.{sub_ℕ}

-- the most that an offset is ahead, and what it is ahead of
abbrev pub ahead_most : ℕ
ahead_most = 1560

abbrev pub behind_utc : ℕ
behind_utc = 720

-- -60, which is negsuc 59, is 660 ahead
unfoldable pub ahead_of : ℤ → ℕ
ahead_of (pos n) = n + behind_utc
ahead_of (negsuc n) = behind_utc - suc n

-- and back
unfoldable pub offset_of : ℕ → ℤ
offset_of a = sub_ℕ a behind_utc
