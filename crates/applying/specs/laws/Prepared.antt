-- What the lines are stored into, and that storing them into it gives the holdings. Assumes nothing.
use Rattle.std.specs.Prelude.{◌≡◌, refl, Bool, true, false, cond, List, ◌++◌, map, ℕ}
use Rattle.theory.specs.Each.{Each}
use Rattle.theory.specs.laws.Each.{each_map}
use Rattle.theory.specs.Walk.{some}
use Rattle.sizes.specs.Modes.{is_full}
use Rattle.columns.specs.Columns.{pan_of}
use Rattle.slots.specs.Search.{holds_pan}
use Rattle.holdings.specs.Holdings.{stored_all, others, replaced_all, holdings}
use Rattle.holdings.specs.laws.Storing.{new_others}
use Rattle.holdings.proofs.Storing.{all_new}
use Rattle.upkeep.specs.laws.Makes.{made_pans, each_made}
use Rattle.applying.specs.Fit.{Fit}

-- in mode 2 the sender's records have gone
unfoldable pub prepared : ℕ → List ℕ → List (List ℕ) → List (List ℕ)
prepared mode who R = cond (is_full mode) (others who R) R

module _ (mode : ℕ) (who : List ℕ) (make : List ℕ → List ℕ) (slots : ℕ) (R ls : List (List ℕ)) (f : Fit mode who make slots R ls) where
  -- no line's PAN is held by the others
  pub each_new : Each (λ l. some (holds_pan (pan_of l)) (others who R) ≡ false) ls
  each_new = each_map (λ l e. new_others who (pan_of l) R e) f.free

  pub prepared_stored : stored_all (prepared mode who R) (map make ls) ≡ holdings mode who make R ls
  unfolding prepared holdings replaced_all
  prepared_stored = go (is_full mode)
    where
      new : Each (λ x. some (holds_pan (pan_of x)) (others who R) ≡ false) (map make ls)
      new = each_made make (λ l. some (holds_pan (pan_of l)) (others who R) ≡ false) (λ l m e. rw m.pan e) f.made each_new

      go : (full : Bool) → stored_all (cond full (others who R) R) (map make ls) ≡ cond full (others who R ++ map make ls) (stored_all R (map make ls))
      go true = all_new (map make ls) (others who R) (rw (made_pans make f.made) f.apart) new
      go false = refl
