-- Laws of the layout and the lines, for those who read an HGV. Assumes nothing.
use Rattle.std.specs.Prelude.{◌≡◌, Bool, true, ◌&&◌, List, ℕ, ◌+◌, ◌*◌, ◌%◌, ◌≤◌, eqb, leb, length}
use native.Mathlib.Omega.{arith}
use Rattle.std.proofs.Math.Nat.{div-add-mod'}
use Rattle.std.proofs.Common.{length-take, length-drop}
use borrow.Author.Tests.{eqb-true, leb-true}
use Rattle.theory.specs.laws.Truth.{and_left, and_right}
use Rattle.theory.specs.laws.Parts.{length_chop}
use Rattle.theory.specs.Each.{Each}
use Rattle.theory.specs.laws.Join.{each_chop}
use Rattle.sizes.specs.Sizes.{header_length, line_length, line_most, footer_length, lines_most}
use Rattle.hgv.specs.Layout.{body_length, width_of, lines_in, length_holds, body, lines_of}

-- the three tests of the length
abbrev long : List ℕ → Bool
long h = leb (header_length + footer_length) (length h)

abbrev lined : List ℕ → Bool
lined h = eqb (body_length h % width_of h) 0

abbrev few : List ℕ → Bool
few h = leb (lines_in h) lines_most

-- a width that lines may have: every column of the document's table has its place, and none is wider
abbrev pub IsWidth : ℕ → Type 0
IsWidth w = (line_length ≤ w) × (w ≤ line_most)

module _ (h : List ℕ) where
  -- every column of the document's table has its place in a line
  pub width_least : line_length ≤ width_of h
  unfolding width_of
  width_least = omega arith

  pub is_width : IsWidth (width_of h)
  unfolding width_of
  is_width = (omega arith, omega arith)

  pub width_has : (k : ℕ) → k ≤ line_length → k ≤ width_of h
  unfolding width_of
  width_has k l = omega arith

  pub length_body : length (body h) ≡ body_length h
  unfolding body
  length_body = simp (length-take, length-drop) (omega arith)

  -- the lines lie within the body
  pub lines_room : lines_in h * width_of h ≤ length (body h)
  unfolding lines_in
  lines_room = omega (arith, length_body, div-add-mod' (body_length h) (width_of h))

  pub length_lines : length (lines_of h) ≡ lines_in h
  unfolding lines_of
  length_lines = length_chop (width_of h) (lines_in h) (body h)

  pub each_line : Each (λ l. length l ≡ width_of h) (lines_of h)
  unfolding lines_of lines_in
  each_line = each_chop (width_of h) (lines_in h) (body h) (omega (arith, length_body, div-add-mod' (body_length h) (width_of h)))

  module _ (e : length_holds h ≡ true) where
    pub length_least : header_length + footer_length ≤ length h
    unfolding length_holds
    length_least = leb-true (header_length + footer_length) (length h) (and_left (long h) (lined h) (and_left (long h && lined h) (few h) e))

    -- no byte is left over
    pub length_lined : length (body h) ≡ lines_in h * width_of h
    unfolding length_holds lines_in
    length_lined =
        let z : body_length h % width_of h ≡ 0 = eqb-true (body_length h % width_of h) 0 (and_right (long h) (lined h) (and_left (long h && lined h) (few h) e)) in
        omega (arith, length_body, div-add-mod' (body_length h) (width_of h))

    pub length_whole : length h ≡ header_length + footer_length + lines_in h * width_of h
    unfolding length_holds lines_in
    length_whole =
        let z : body_length h % width_of h ≡ 0 = eqb-true (body_length h % width_of h) 0 (and_right (long h) (lined h) (and_left (long h && lined h) (few h) e)) in
        omega (arith, length_least, div-add-mod' (body_length h) (width_of h))

    pub lines_most_lem : lines_in h ≤ lines_most
    unfolding length_holds
    lines_most_lem = leb-true (lines_in h) lines_most (and_right (long h && lined h) (few h) e)
