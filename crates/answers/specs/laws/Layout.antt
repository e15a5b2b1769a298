-- Laws of the HGC's layout, for those who read its lines. Assumes nothing.
use Rattle.std.specs.Prelude.{◌≡◌, List, ℕ, ◌*◌, ◌-◌, ◌≤◌, length}
use Rattle.std.proofs.Common.{arith, div-add-mod', length-drop}
use Rattle.theory.specs.Parts.{chop}
use Rattle.texts.specs.declared.parts.Parts.{Parts}
use Rattle.hgv.specs.Layout.{width_of}
use Rattle.hgc.specs.Confirmation.{answer_length}
use Rattle.answers.specs.Layout.{bare_length, answers_in, behind_head, answers_of}
use Rattle.answers.specs.Promises.{Lines}

-- behind the header there is room for them
pub lines_room : (h g : List ℕ) → answers_in h g * answer_length (width_of h) ≤ length (behind_head g)
unfolding answers_in behind_head
lines_room h g = rw length-drop (omega (arith, div-add-mod' (length g - bare_length) (answer_length (width_of h))))

-- the lines, and how many there are, as they are handed over
module _ (h g lines : List ℕ) (w n : ℕ) (e : lines ≡ behind_head g) (d : w ≡ answer_length (width_of h)) (k : n ≡ answers_in h g) where
  pub answers_room : n * w ≤ length lines
  answers_room = rw (e, d, k) (lines_room h g)

  pub answers_are : chop w n lines ≡ answers_of h g
  unfolding answers_of
  answers_are = rw (e, d, k)

-- so where they are handed over as parts
pub lines_are : (h g : List ℕ) (r : Parts) → Lines h g r → chop r.width r.count r.block.now ≡ answers_of h g
lines_are h g r (e, d, k) = answers_are h g r.block.now r.width r.count e d k
