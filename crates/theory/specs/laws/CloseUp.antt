-- Parts closed up in place: those that stay move to the front, in order, and then the parts behind them are freed. Assumes nothing.
use Rattle.std.specs.Prelude.{◌≡◌, refl, Bool, drop, replicate}
use Rattle.std.proofs.Math.Path.{sym}
use Rattle.std.proofs.Common.{ap, ◌∙◌, take-append-drop, drop-drop}
use Rattle.std.proofs.Math.Bool.{true, false}
use mathlib.Core.List.{List, [], ◌∷◌, ◌++◌, append_assoc, append-nil}
use Prim.Native.Nat.{ℕ, ◌+◌, ◌-◌, ◌*◌, ◌≤◌}
use native.Mathlib.Omega.{arith}
use Rattle.std.proofs.Math.Numerals.{add-one}
use Rattle.std.proofs.Math.Nat.{mul-le-mul_right}
use Rattle.std.proofs.Math.ListN.{length}
use Rattle.std.proofs.lemmas.List.{replicate-append-replicate}
use Rattle.theory.specs.Count.{bump}
use Rattle.theory.specs.Parts.{chop, part_at}
use Rattle.theory.specs.laws.Parts.{length_part, length_chop}
use Rattle.theory.specs.Each.{Each}
use Rattle.theory.specs.Keep.{onto}
use Rattle.theory.specs.Join.{flat}
use Rattle.theory.specs.laws.Join.{flat_append, flat_parts}
use Rattle.theory.specs.Put.{put_part}
use Rattle.theory.specs.laws.Put.{length_put, drop_put, chop_push}
use Rattle.theory.specs.Pad.{free, pad}
use Rattle.theory.specs.laws.Pad.{length_free, pad_more, rest_pad}

-- of the first i parts of b₀ the k in xs stay, in front in b; from part i on all is as it was
pub record Closing (w : ℕ) (xs : List (List ℕ)) (b₀ b : List ℕ) (i k : ℕ) : Type 0 where
  pub kept : chop w k b ≡ xs
  pub ahead : drop (i * w) b ≡ drop (i * w) b₀
  pub same_size : length b ≡ length b₀
  pub behind : k ≤ i

-- the parts k to j of b₀ are freed in b; from part j on all is as it was
pub record Freeing (w : ℕ) (b₀ b : List ℕ) (k j : ℕ) : Type 0 where
  pub freed : chop w j b ≡ chop w k b₀ ++ replicate (j - k) (free w)
  pub ahead : drop (j * w) b ≡ drop (j * w) b₀
  pub same_size : length b ≡ length b₀
  pub behind : k ≤ j

-- what is the same from part i on is so from the next
ahead_next : (w i : ℕ) (b b₀ : List ℕ) → drop (i * w) b ≡ drop (i * w) b₀ → drop ((i + 1) * w) b ≡ drop ((i + 1) * w) b₀
ahead_next w i b b₀ h =
    let e : (i + 1) * w ≡ i * w + w = omega arith in
    rw (e, ← drop-drop w (i * w) b, ← drop-drop w (i * w) b₀, h)

-- ---- closing up

-- part i into part k where it stays
unfoldable pub moved : Bool → ℕ → ℕ → ℕ → List ℕ → List ℕ
moved true w i k b = put_part w k (part_at w i b) b
moved false w i k b = b

pub closing_start : (w : ℕ) (b : List ℕ) → Closing w [] b b 0 0
unfolding chop
closing_start w b = record { kept = refl; ahead = refl; same_size = refl; behind = omega arith }

module _ (w : ℕ) (xs : List (List ℕ)) (b₀ b : List ℕ) (i k : ℕ) (c : Closing w xs b₀ b i k) where
  -- as many as stay
  pub closing_count : k ≡ length xs
  closing_count = sym (length_chop w k b) ∙ ap length c.kept

  part_same : part_at w i b ≡ part_at w i b₀
  unfolding part_at
  part_same = rw c.ahead

  -- a turn, where r says whether part i stays
  turn : i * w + w ≤ length b₀ → (r : Bool) → Closing w (xs ++ onto r (part_at w i b₀) []) b₀ (moved r w i k b) (i + 1) (bump r k)
  unfolding onto moved bump
  turn fits false =
      record { kept = c.kept ∙ sym (append-nil xs); ahead = ahead_next w i b b₀ c.ahead; same_size = c.same_size; behind = omega (arith, c.behind) }
  turn fits true =
      let s : length b ≡ length b₀ = c.same_size in
      let o : k * w ≤ i * w = mul-le-mul_right w c.behind in
      let f : k * w + w ≤ length b = omega arith in
      let y : List ℕ = part_at w i b in
      let v : length y ≡ w = length_part w i b (omega arith) in
      record {
        kept = rw (← add-one k) (chop_push w k y b f v ∙ rw (c.kept, part_same));
        ahead = drop_put w k y b f v ((i + 1) * w) (omega arith) ∙ ahead_next w i b b₀ c.ahead;
        same_size = length_put w k y b f v ∙ s;
        behind = omega (arith, c.behind);
      }

  -- as the loop has it: b' and k' are what the turn left
  pub closing_turn : i * w + w ≤ length b₀ → (r : Bool) (b' : List ℕ) (k' : ℕ) → b' ≡ moved r w i k b → k' ≡ bump r k
      → Closing w (xs ++ onto r (part_at w i b₀) []) b₀ b' (i + 1) k'
  closing_turn fits r b' k' e h = rw (e, h) (turn fits r)

-- ---- freeing

module _ (w : ℕ) where
  pub freeing_start : (b : List ℕ) (k : ℕ) → Freeing w b b k k
  freeing_start b k =
      let e : k - k ≡ 0 = omega arith in
      record { freed = rw e (sym (append-nil (chop w k b))); ahead = refl; same_size = refl; behind = omega arith }

  -- a turn as the loop has it: x is what it wrote, and b' what it left
  pub freeing_turn : (b₀ b : List ℕ) (k j : ℕ) → Freeing w b₀ b k j → j * w + w ≤ length b₀ → (x b' : List ℕ) → x ≡ free w → b' ≡ put_part w j x b
      → Freeing w b₀ b' k (j + 1)
  freeing_turn b₀ b k j c fits x b' z m =
      let f : j * w + w ≤ length b = omega (arith, c.same_size) in
      let v : length x ≡ w = rw z (length_free w) in
      let e : j + 1 - k ≡ j - k + 1 = omega (arith, c.behind) in
      rw m
      record {
        freed = chop_push w j x b f v
            ∙ rw (c.freed, e, z, ← replicate-append-replicate (j - k) 1 (free w)) (append_assoc (chop w k b₀) (replicate (j - k) (free w)) (free w ∷ []));
        ahead = drop_put w j x b f v ((j + 1) * w) (omega arith) ∙ ahead_next w j b b₀ c.ahead;
        same_size = length_put w j x b f v ∙ c.same_size;
        behind = omega (arith, c.behind);
      }

-- ---- both, over the first m parts

pub closed_up_lem : (w : ℕ) (xs : List (List ℕ)) (b₀ b₁ b : List ℕ) (m k : ℕ) → Closing w xs b₀ b₁ m k → Freeing w b₁ b k m → b ≡ flat (pad w m xs) ++ drop (m * w) b₀
unfolding pad
closed_up_lem w xs b₀ b₁ b m k c d =
    let e : chop w m b ≡ xs ++ replicate (m - length xs) (free w) = d.freed ∙ rw (c.kept, closing_count w xs b₀ b₁ m k c) in
    let f : drop (m * w) b ≡ drop (m * w) b₀ = d.ahead ∙ c.ahead in
    sym (take-append-drop (m * w) b) ∙ rw (← flat_parts w m b, e, f)

-- the records of a padded block closed up
pub closed_pad : (w n : ℕ) {R : List (List ℕ)} → Each (λ r. length r ≡ w) R → length R ≤ n → (xs : List (List ℕ)) → length xs ≤ length R
    → flat (pad w (length R) xs) ++ drop (length R * w) (flat (pad w n R)) ≡ flat (pad w n xs)
closed_pad w n {R} h l xs k =
    rw (rest_pad w n h l, ← flat_append (pad w (length R) xs) (replicate (n - length R) (free w)), pad_more w n xs (length R) k l)
