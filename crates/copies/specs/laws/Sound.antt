-- What holds of a copy and its HGV where none of their stops is given. Assumes nothing.
use Rattle.std.specs.Prelude.{◌≡◌, refl, true, List, ℕ}
use Rattle.std.proofs.lemmas.Bool.{not-false}
use Rattle.theory.specs.First.{None, more, first}
use Rattle.theory.specs.laws.First.{first_clear, numbered}
use Rattle.hgv.specs.Layout.{length_holds}
use Rattle.header.specs.Header.{header_holds}
use Rattle.register.specs.Register.{in_order}
use Rattle.copies.specs.Copy.{own_holds, copy_stops}

-- each has its number
pub copies_numbered : (mode : ℕ) (copy h : List ℕ) → numbered (copy_stops mode copy h) ≡ true
unfolding copy_stops numbered
copies_numbered mode copy h = refl

-- what the copy and the HGV have where no stop of theirs is given
pub record Sound (copy h : List ℕ) : Type 0 where
  pub ordered : in_order copy ≡ true
  pub sized : length_holds h ≡ true
  pub headed : header_holds h ≡ true
  pub own : own_holds copy h ≡ true

pub copy_sound : (mode : ℕ) (copy h : List ℕ) → first (copy_stops mode copy h) ≡ 0 → Sound copy h
unfolding copy_stops
copy_sound mode copy h z = go (first_clear (copy_stops mode copy h) (copies_numbered mode copy h) z)
  where
    go : None (copy_stops mode copy h) → Sound copy h
    go (more h₁ (more h₂ (more h₃ (more h₄ (more h₅ (more h₆ (more h₇ (more h₈ hs)))))))) =
        record { ordered = not-false (in_order copy) h₂; sized = not-false (length_holds h) h₃; headed = not-false (header_holds h) h₄; own = not-false (own_holds copy h) h₈ }
