-- What the functions of this crate cite. Assumes nothing.
use mathlib.Core.Path.{◌≡◌, sym}
use mathlib.Core.List.{List}
use Prim.Native.Nat.{ℕ, ◌-◌, ◌<◌}
use native.Mathlib.Omega.{arith}
use lib.ListN.{length, take, drop, length-drop, drop_of_length-le}
use lib.Seq.{take_all}
use Rattle.sizes.specs.Sizes.{hgc_header_length}
use Rattle.answers.specs.Layout.{behind_head}

module _ (g : List ℕ) where
  -- the lines as the code lends them
  pub lines_none : length g < hgc_header_length → take 0 (drop 0 g) ≡ behind_head g
  unfolding behind_head
  lines_none l = sym (drop_of_length-le g {i = hgc_header_length} (omega arith))

  pub lines_lent : take (length g - hgc_header_length) (drop hgc_header_length g) ≡ behind_head g
  unfolding behind_head
  lines_lent = take_all (length g - hgc_header_length) (drop hgc_header_length g) (rw length-drop (omega arith))
