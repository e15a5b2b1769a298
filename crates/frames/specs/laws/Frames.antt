-- A framed line, for those who read one, and the footer as it is written. Assumes nothing.
use Rattle.std.specs.Prelude.{◌≡◌, refl, Bool, true, ◌&&◌, List, ◌++◌, ℕ, ◌+◌, ◌-◌, ◌≤◌, length}
use Rattle.std.proofs.Common.{sym, ◌∙◌, arith, length-append}
use Rattle.theory.specs.laws.Truth.{and_left, and_right}
use Rattle.theory.specs.Text.{bytes}
use Rattle.theory.specs.Same.{eqs}
use Rattle.theory.specs.laws.Same.{eqs_true}
use Rattle.theory.specs.Every.{all, run}
use Rattle.sizes.specs.Sizes.{footer_length}
use Rattle.texts.specs.Field.{field, line_end}
use Rattle.texts.specs.laws.Field.{field_split, field_all}
use Rattle.fields.specs.Field.{plain}
use Rattle.numbers.specs.Number.{zeros}
use Rattle.numbers.specs.laws.Number.{length_zeros}
use Rattle.frames.specs.Frames.{footer_form, foot, framed}

-- a line is its two ends and the text between
pub framed_is : (width : ℕ) (l : List ℕ) → framed width l ≡ true → length l ≡ width → 3 ≤ width → l ≡ bytes "1" ++ (field 2 (width - 1) l ++ line_end)
unfolding framed
framed_is width l f e h =
    let front : Bool = eqs (field 1 1 l) (bytes "1") in
    let text : Bool = all plain (field 2 (width - 1) l) in
    let end : Bool = eqs (field width width l) line_end in
    let a : field 1 1 l ≡ bytes "1" = eqs_true (field 1 1 l) (bytes "1") (and_left front text (and_left (front && text) end f)) in
    let z : field width width l ≡ line_end = eqs_true (field width width l) line_end (and_right (front && text) end f) in
    let w : width - 1 + 1 ≡ width = omega arith in
    let s : field 2 width l ≡ field 2 (width - 1) l ++ line_end = field_split 2 width (width - 1) l (omega arith) (omega arith) (omega arith) ∙ rw (w, z) in
    sym (field_all width l (omega arith)) ∙ field_split 1 width 1 l (omega arith) (omega arith) (omega arith) ∙ rw (a, s)

-- ---- the footer

pub length_foot : length foot ≡ footer_length
unfolding foot
length_foot = simp length-append (omega (arith, length_zeros 62))

-- what is written is in form
pub foot_form : footer_form foot ≡ true
unfolding footer_form foot zeros field eqs run all
foot_form = refl
