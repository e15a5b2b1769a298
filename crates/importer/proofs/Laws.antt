-- What the functions of this crate cite. Assumes nothing.
use mathlib.Core.Path.{◌≡◌, sym, ◌∙◌}
use mathlib.Core.List.{List}
use Prim.Native.Nat.{ℕ, ◌≤◌}
use native.Mathlib.Omega.{arith}
use lib.ListN.{length}
use Rattle.sizes.specs.Sizes.{slots_most}
use Rattle.texts.specs.declared.parts.Parts.{Parts}
use Rattle.hgv.specs.Layout.{width_of, lines_in, body}
use Rattle.hgv.specs.Promises.{Lines}
use Rattle.slots.specs.Slots.{records, used_in}
use Rattle.slots.specs.laws.Slots.{used_most}
use Rattle.register.specs.laws.Register.{ordered}
use Rattle.holdings.specs.Promises.{FindPlaces}
use Rattle.holdings.specs.laws.Places.{places_tell, length_places}
use Rattle.applying.specs.Fit.{Sought}
use Rattle.imports.specs.Handed.{Handed}
use Rattle.imports.specs.Import.{judged}
use Rattle.imports.specs.laws.Numbers.{Formed}
use Rattle.imports.specs.laws.Accepted.{verdict_each}

-- vs are the verdicts; lines are the lines as the code has them, found₀ the block before
module _ (f : Handed) (register vs : List ℕ) (c : Formed f register) (v : vs ≡ judged register f.rows f.hgv)
    (lines : Parts) (el : Lines f.hgv lines) (found₀ : List ℕ) (m : length found₀ ≡ lines_in f.hgv) where
  as_many : length found₀ ≡ length vs
  as_many = m ∙ sym (verdict_each f register c vs v)

  pub find_fits : record { lined : length vs ≤ lines.count; judged : length found₀ ≡ length vs; few : used_in register ≤ slots_most }
  find_fits =
      record {
        lined = omega (arith, el.2, verdict_each f register c vs v);
        judged = as_many;
        few = omega (arith, used_most register, (ordered register c.ordered).most);
      }

  -- `found` is what was found
  pub sought : (found : List ℕ) → FindPlaces f.mode register lines.block.now lines.width vs found₀ found → Sought f.mode (records register) (width_of f.hgv) (body f.hgv) vs found
  sought found g =
      rw (← el.0, ← el.1)
      record {
        many = length_places f.mode (records register) lines.width lines.block.now vs found₀ found g as_many;
        places = places_tell f.mode (records register) lines.width lines.block.now vs found₀ found g;
      }
