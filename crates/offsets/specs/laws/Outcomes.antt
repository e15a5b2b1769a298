-- Two outcomes of one call are one, for each public function of this crate. Assumes nothing.
use Rattle.std.specs.Prelude.{◌≡◌, Bool, List, ℕ, ℤ}
use Rattle.theory.specs.laws.Outcome.{one_outcome}
use Rattle.offsets.specs.Promises.{IsOffset, Ahead, HasLocal, HasUtc, WriteLocal, WriteUtc}

pub is_offset_one : (o : ℤ) (r s : Bool) → IsOffset o r → IsOffset o s → r ≡ s
is_offset_one o r s = one_outcome

pub ahead_one : (o : ℤ) (r s : ℕ) → Ahead o r → Ahead o s → r ≡ s
ahead_one o r s = one_outcome

pub has_local_one : (o : ℤ) (t : List ℕ) (r s : Bool) → HasLocal o t r → HasLocal o t s → r ≡ s
has_local_one o t r s = one_outcome

pub has_utc_one : (a : ℕ) (t : List ℕ) (r s : Bool) → HasUtc a t r → HasUtc a t s → r ≡ s
has_utc_one a t r s = one_outcome

pub write_local_one : (to : List ℕ) (a : ℕ) (t b b' : List ℕ) → WriteLocal to a t b → WriteLocal to a t b' → b ≡ b'
write_local_one to a t b b' = one_outcome

pub write_utc_one : (to : List ℕ) (a : ℕ) (t b b' : List ℕ) → WriteUtc to a t b → WriteUtc to a t b' → b ≡ b'
write_utc_one to a t b b' = one_outcome
