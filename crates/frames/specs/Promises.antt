-- What each public function of this crate promises. Assumes nothing.
use Rattle.std.specs.Prelude.{◌≡◌, Bool, List, ℕ}
use Rattle.writing.specs.Put.{put_field}
use Rattle.frames.specs.Frames.{foot, footer_holds, frames_hold}

abbrev pub HasFooter : List ℕ → Bool → Type 0
HasFooter h r = r ≡ footer_holds h

abbrev pub HasFrames : List ℕ → Bool → Type 0
HasFrames h r = r ≡ frames_hold h

-- the text after it
abbrev pub PutFoot : List ℕ → ℕ → List ℕ → Type 0
PutFoot text from after = after ≡ put_field from foot text
