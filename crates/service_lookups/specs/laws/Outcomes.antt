-- Two outcomes of one call are one, for each public function of this crate. Assumes nothing.
use Rattle.std.specs.Prelude.{◌≡◌, List, ℕ}
use Rattle.theory.specs.laws.Outcome.{one_outcome}
use Rattle.service_lookups.specs.Promises.{GraftspindleByPan, GraftspindleByPlate}

module _ (b key : List ℕ) (n n' s s' l l' : ℕ) where
  pub graftspindle_by_pan_one : GraftspindleByPan b key n s l → GraftspindleByPan b key n' s' l'
      → (n ≡ n') × ((s ≡ s') × (l ≡ l'))
  graftspindle_by_pan_one h k =
      (one_outcome h.0 k.0, (one_outcome h.1.0 k.1.0, one_outcome h.1.1 k.1.1))

module _ (b p n t : List ℕ) (m m' s s' l l' : ℕ) where
  pub graftspindle_by_plate_one : GraftspindleByPlate b p n t m s l → GraftspindleByPlate b p n t m' s' l'
      → (m ≡ m') × ((s ≡ s') × (l ≡ l'))
  graftspindle_by_plate_one h k =
      (one_outcome h.0 k.0, (one_outcome h.1.0 k.1.0, one_outcome h.1.1 k.1.1))
