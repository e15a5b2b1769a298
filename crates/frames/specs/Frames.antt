-- The HGV's footer, which is the HGC's too, and its lines' frames: stops 31 and 32. Assumes nothing.
use Rattle.std.specs.Prelude.{ℕ, ◌-◌, Bool, ◌&&◌, List, ◌++◌, eqb, length}
use Rattle.theory.specs.Text.{bytes}
use Rattle.theory.specs.Same.{eqs}
use Rattle.theory.specs.Every.{all, run}
use Rattle.theory.specs.Walk.{each}
use Rattle.sizes.specs.Sizes.{footer_length}
use Rattle.texts.specs.Field.{field, line_end}
use Rattle.fields.specs.Field.{zero_digit, plain}
use Rattle.numbers.specs.Number.{zeros}
use Rattle.hgv.specs.Layout.{width_of, lines_of, footer}

-- `2`, 62 zeros, LF
unfoldable pub footer_form : List ℕ → Bool
footer_form f = eqb (length f) footer_length && eqs (field 1 1 f) (bytes "2") && run zero_digit 62 (field 2 63 f) && eqs (field footer_length footer_length f) line_end

-- as it is written
unfoldable pub foot : List ℕ
foot = bytes "2" ++ zeros 62 ++ line_end

-- stop 31 is given where this does not hold
unfoldable pub footer_holds : List ℕ → Bool
footer_holds h = footer_form (footer h)

-- a line of the given width: `1` in front, LF at its end, no byte below 32 between
unfoldable pub framed : ℕ → List ℕ → Bool
framed width l = eqs (field 1 1 l) (bytes "1") && all plain (field 2 (width - 1) l) && eqs (field width width l) line_end

-- stop 32 is given where this does not hold
unfoldable pub frames_hold : List ℕ → Bool
frames_hold h = each (framed (width_of h)) (lines_of h)
