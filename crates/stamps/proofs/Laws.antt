-- A stamp written field by field. Assumes nothing.
use mathlib.Core.Path.{◌≡◌, refl}
use mathlib.Core.List.{List, []}
use Prim.Native.Nat.{ℕ}
use native.Mathlib.Omega.{arith}
use lib.ListN.{length}
use Rattle.theory.specs.Text.{bytes}
use Rattle.sizes.specs.Sizes.{stamp_length, time_length}
use Rattle.writing.specs.Put.{put_field}
use Rattle.writing.specs.laws.Put.{written_start, written_next, written_end}
use Rattle.sequences.specs.Sequence.{list_length}
use Rattle.stamps.specs.Stamp.{stamp}

-- s₁ to s₃ are the text after each field
pub stamp_written : (list reception s₀ s₁ s₂ s₃ : List ℕ) → length s₀ ≡ stamp_length → length list ≡ list_length → length reception ≡ time_length
    → s₁ ≡ put_field 1 list s₀ → s₂ ≡ put_field 20 reception s₁ → s₃ ≡ put_field 34 (bytes "0000000") s₂ → s₃ ≡ stamp list reception
unfolding stamp
stamp_written list reception s₀ s₁ s₂ s₃ n l t e₁ e₂ e₃ =
    let w₁ = written_next stamp_length 1 [] s₀ (written_start s₀ stamp_length n) list s₁ 20 e₁ (omega arith) (omega arith) (omega arith) in
    let w₂ = written_next stamp_length 20 _ s₁ w₁ reception s₂ 34 e₂ (omega arith) (omega arith) (omega arith) in
    let w₃ = written_next stamp_length 34 _ s₂ w₂ (bytes "0000000") s₃ 41 e₃ refl (omega arith) (omega arith) in
    written_end stamp_length 41 _ s₃ w₃ (omega arith)
