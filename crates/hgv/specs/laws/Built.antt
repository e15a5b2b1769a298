-- A file built of a header, lines of one width and a footer: its length, its header's fields, its lines, its footer. For
-- those who write one. Assumes nothing.
use Rattle.std.specs.Prelude.{◌≡◌, true, ℕ, ◌+◌, ◌-◌, ◌*◌, ◌≤◌}
use Rattle.std.proofs.Common.{◌∙◌, arith, mul-div_cancel, take_at}
use mathlib.Core.List.{List, ◌++◌, append_assoc}
use Rattle.std.proofs.Math.Nat.{mul-mod_left}
use Rattle.std.proofs.Math.ListN.{length, length-append}
use Rattle.std.proofs.Math.Seq.{drop_at}
use borrow.Author.Tests.{le-leb}
use Rattle.theory.specs.Each.{Each}
use Rattle.theory.specs.Join.{flat}
use Rattle.theory.specs.laws.Join.{length_flat, chop_flat}
use Rattle.sizes.specs.Sizes.{header_length, footer_length, lines_most}
use Rattle.texts.specs.Field.{field}
use Rattle.texts.specs.laws.Field.{field_before}
use Rattle.hgv.specs.Layout.{body_length, width_of, lines_in, length_holds, body, lines_of, footer}

module _ (w : ℕ) (head : List ℕ) (ls : List (List ℕ)) (foot : List ℕ)
    (headed : length head ≡ header_length) (lined : Each (λ l. length l ≡ w) ls) (footed : length foot ≡ footer_length) where
  abbrev pub built : List ℕ
  built = head ++ (flat ls ++ foot)

  pub built_length : length built ≡ header_length + footer_length + length ls * w
  built_length = length-append head (flat ls ++ foot) ∙ rw (length-append (flat ls) foot) (omega (arith, length_flat w lined))

  body_length_lem : body_length built ≡ length ls * w
  body_length_lem = rw built_length (omega arith)

  -- a field of the header
  pub built_field : (from to : ℕ) → 1 ≤ from → from ≤ to → to ≤ header_length → field from to built ≡ field from to head
  built_field from to a b c = field_before from to head (flat ls ++ foot) a b (omega arith)

  pub built_body : body built ≡ flat ls
  unfolding body
  built_body = rw (body_length_lem, drop_at head (flat ls ++ foot) header_length headed) (take_at (flat ls) foot (length ls * w) (length_flat w lined))

  pub built_footer : footer built ≡ foot
  unfolding footer
  built_footer =
      let e : length built - footer_length ≡ header_length + length ls * w = omega (arith, built_length) in
      let f : length (head ++ flat ls) ≡ header_length + length ls * w = length-append head (flat ls) ∙ omega (arith, length_flat w lined) in
      rw (e, ← append_assoc head (flat ls) foot) (drop_at (head ++ flat ls) foot (header_length + length ls * w) f)

  -- w is the width that such a file has
  module _ (wide : width_of built ≡ w) (given : 1 ≤ w) where
    pub built_lines_in : lines_in built ≡ length ls
    unfolding lines_in
    built_lines_in = rw (wide, body_length_lem) (mul-div_cancel (length ls) given)

    pub built_lines : lines_of built ≡ ls
    unfolding lines_of lines_in
    built_lines = rw (wide, body_length_lem, mul-div_cancel (length ls) given, built_body) (chop_flat w lined)

    pub built_holds : length ls ≤ lines_most → length_holds built ≡ true
    unfolding length_holds lines_in
    built_holds few =
        rw (
          le-leb (header_length + footer_length) (length built) (omega (arith, built_length)),
          wide,
          body_length_lem,
          mul-mod_left (length ls) w,
          mul-div_cancel (length ls) given,
          le-leb (length ls) lines_most few,
        )
