-- A record and its stamp written field by field, into a slot and into a slot of a register. Assumes nothing.
use mathlib.Core.Path.{◌≡◌, refl, sym, ap, ◌∙◌}
use mathlib.Core.List.{List, [], ◌++◌, append-nil}
use Prim.Native.Nat.{ℕ, ◌+◌, ◌-◌, ◌*◌, ◌≤◌, ◌<◌}
use native.Mathlib.Omega.{arith}
use lib.ListN.{length, take, drop, length-append, length-drop}
use lib.Seq.{take_at, drop-length}
use borrow.Author.Tests.{lt-ltb, le-ltb}
use Rattle.theory.specs.Text.{bytes}
use Rattle.theory.specs.Parts.{part_at}
use Rattle.theory.specs.laws.Parts.{part_is}
use Rattle.theory.specs.laws.Put.{put_lent}
use Rattle.sizes.specs.Sizes.{slot_length, slot_end, stamp_length, stamp_from, time_length}
use Rattle.texts.specs.Field.{field, line_end}
use Rattle.texts.specs.laws.Field.{field_length}
use Rattle.writing.specs.Put.{put_field}
use Rattle.writing.specs.laws.Put.{written_start, written_next, written_end}
use Rattle.columns.specs.Columns.{valid_to}
use Rattle.lines.specs.End.{end_of, record_of}
use Rattle.stamps.specs.Stamp.{reception_in}
use Rattle.slots.specs.Slots.{slots_in}
use Rattle.records.specs.laws.Written.{length_end}
use Rattle.records.specs.Slot.{line_least, slot_of, written, put_record}

-- a field of a line, as its reader has it
pub wide : (from to : ℕ) (l f : List ℕ) → f ≡ field from to l → line_least ≤ length l → 1 ≤ from → to ≤ line_least → length f ≡ to + 1 - from
wide from to l f e h a k = ap length e ∙ field_length from to l a (omega arith)

-- s₁ to s₅ are the record after each field
pub record_written : (reception l s₀ s₁ s₂ s₃ s₄ s₅ f v g : List ℕ) → length s₀ ≡ slot_end → line_least ≤ length l → length reception ≡ time_length
    → f ≡ field 2 100 l → v ≡ valid_to l → g ≡ field 115 127 l
    → s₁ ≡ put_field 1 (bytes "1") s₀ → s₂ ≡ put_field 2 f s₁ → s₃ ≡ put_field 101 (end_of reception v) s₂ → s₄ ≡ put_field 115 g s₃ → s₅ ≡ put_field slot_end line_end s₄
    → s₅ ≡ record_of reception l
unfolding record_of
record_written reception l s₀ s₁ s₂ s₃ s₄ s₅ f v g n h m ef ev eg e₁ e₂ e₃ e₄ e₅ =
    let nf : length f ≡ 99 = wide 2 100 l f ef h (omega arith) (omega arith) in
    let nv : length v ≡ time_length = wide 101 114 l v ev h (omega arith) (omega arith) in
    let ng : length g ≡ 13 = wide 115 127 l g eg h (omega arith) (omega arith) in
    let ne : length (end_of reception v) ≡ time_length = length_end reception v nv m in
    let w₁ = written_next slot_end 1 [] s₀ (written_start s₀ slot_end n) (bytes "1") s₁ 2 e₁ refl (omega arith) (omega arith) in
    let w₂ = written_next slot_end 2 _ s₁ w₁ f s₂ 101 e₂ (omega arith) (omega arith) (omega arith) in
    let w₃ = written_next slot_end 101 _ s₂ w₂ (end_of reception v) s₃ 115 e₃ (omega arith) (omega arith) (omega arith) in
    let w₄ = written_next slot_end 115 _ s₃ w₃ g s₄ slot_end e₄ (omega arith) (omega arith) (omega arith) in
    let w₅ = written_next slot_end slot_end _ s₄ w₄ line_end s₅ (slot_end + 1) e₅ refl (omega arith) (omega arith) in
    written_end slot_end (slot_end + 1) _ s₅ w₅ (omega arith) ∙ rw (ef, ev, eg)

-- the reception of a stamp, as its reader has it
pub dated : (s reception : List ℕ) → reception ≡ reception_in s → length s ≡ stamp_length → length reception ≡ time_length
dated s reception e n = ap length e ∙ field_length 20 33 s (omega arith) (omega arith)

-- the record's bytes lent and returned, as the borrow checker has them, and the stamp behind them; r is what came back
pub slot_written : (s l reception s₀ r s₁ : List ℕ) → length s₀ ≡ slot_length → length s ≡ stamp_length → reception ≡ reception_in s
    → length r ≡ slot_end → r ≡ record_of reception l → s₁ ≡ put_field stamp_from s (r ++ drop slot_end s₀) → s₁ ≡ slot_of s l
unfolding slot_of put_field
slot_written s l reception s₀ r s₁ n m er k e e₁ =
    let x : List ℕ = r ++ drop slot_end s₀ in
    let whole : slot_end + length s ≡ length x = sym (length-append r (drop slot_end s₀) ∙ ap (λ (j : ℕ). length r + j) (length-drop slot_end s₀) ∙ omega arith) in
    e₁ ∙ rw (whole, drop-length x, take_at r (drop slot_end s₀) slot_end k, append-nil s, e, er)

-- ---- a slot, and a slot of a register

module _ (i : ℕ) (s l b : List ℕ) where
  pub no_slot : slots_in b ≤ i → b ≡ put_record i s l b
  unfolding put_record
  no_slot h = rw (le-ltb i (slots_in b) h)

  -- the slot lent and returned, as the borrow checker has it; y is what came back
  pub put_slot : i < slots_in b → (y : List ℕ) → y ≡ written s l (take (i * slot_length + slot_length - i * slot_length) (drop (i * slot_length) b))
      → take (i * slot_length) b ++ (y ++ drop (i * slot_length + slot_length - i * slot_length) (drop (i * slot_length) b)) ≡ put_record i s l b
  unfolding put_record
  put_slot h y e =
      put_lent slot_length i (written s l (part_at slot_length i b)) y b (e ∙ ap (written s l) (part_is slot_length i b)) ∙ rw (lt-ltb i (slots_in b) h)
