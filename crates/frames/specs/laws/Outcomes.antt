-- Two outcomes of one call are one, for each public function of this crate. Assumes nothing.
use Rattle.std.specs.Prelude.{◌≡◌, Bool, List, ℕ}
use Rattle.theory.specs.laws.Outcome.{one_outcome}
use Rattle.frames.specs.Promises.{HasFooter, HasFrames, PutFoot}

pub has_footer_one : (h : List ℕ) (r s : Bool) → HasFooter h r → HasFooter h s → r ≡ s
has_footer_one h r s = one_outcome

pub has_frames_one : (h : List ℕ) (r s : Bool) → HasFrames h r → HasFrames h s → r ≡ s
has_frames_one h r s = one_outcome

pub put_foot_one : (text : List ℕ) (from : ℕ) (r s : List ℕ) → PutFoot text from r → PutFoot text from s → r ≡ s
put_foot_one text from r s = one_outcome
