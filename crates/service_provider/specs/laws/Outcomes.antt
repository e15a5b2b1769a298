-- Two outcomes of one call are one, for each public function of this crate: the numbers, and the lent block after the
-- call. Assumes nothing.
use Rattle.std.specs.Prelude.{◌≡◌, List, ℕ}
use Rattle.reading.specs.laws.Outcomes.{read_back_one}
use Rattle.updating.specs.Sent.{Sent}
use Rattle.updating.specs.laws.Outcomes.{update_one}
use Rattle.service_provider.specs.Promises.{counted_as, GraftspindleReadBack, GraftspindleUpdate}

module _ (h g block : List ℕ) (n n' t t' r r' : ℕ) (v v' : List ℕ) where
  pub graftspindle_read_back_one : GraftspindleReadBack h g block n t r v → GraftspindleReadBack h g block n' t' r' v'
      → (counted_as n t r ≡ counted_as n' t' r') × (v ≡ v')
  graftspindle_read_back_one = read_back_one h g block (counted_as n t r) (counted_as n' t' r') v v'

module _ (s : Sent) (copy : List ℕ) (n n' t t' r r' : ℕ) (b b' : List ℕ) where
  pub graftspindle_update_one : GraftspindleUpdate s copy n t r b → GraftspindleUpdate s copy n' t' r' b'
      → (counted_as n t r ≡ counted_as n' t' r') × (b ≡ b')
  graftspindle_update_one = update_one s copy (counted_as n t r) (counted_as n' t' r') b b'
