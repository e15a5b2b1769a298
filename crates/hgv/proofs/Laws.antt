-- The body as the code lends it. Assumes nothing.
use mathlib.Core.Path.{◌≡◌}
use mathlib.Core.List.{List}
use Prim.Native.Nat.{ℕ, ◌+◌, ◌-◌, ◌<◌}
use native.Mathlib.Omega.{arith}
use lib.ListN.{length, take, drop}
use Rattle.sizes.specs.Sizes.{header_length, footer_length}
use Rattle.hgv.specs.Layout.{body}

module _ (h : List ℕ) where
  pub body_none : length h < header_length + footer_length → take 0 (drop 0 h) ≡ body h
  unfolding body
  body_none l = let e : length h - (header_length + footer_length) ≡ 0 = omega arith in rw e

  pub body_lent : take (length h - footer_length - header_length) (drop header_length h) ≡ body h
  unfolding body
  body_lent = let e : length h - footer_length - header_length ≡ length h - (header_length + footer_length) = omega arith in rw e
