-- Laws of a block closed up over a block of marks. Assumes nothing.
use Rattle.std.specs.Prelude.{◌≡◌, Bool, ◌&&◌, ℕ, ◌+◌, ◌-◌, ◌*◌, ◌/◌, ◌≤◌, ◌<◌, take, get_or}
use Rattle.std.proofs.Math.Path.{refl, sym}
use Rattle.std.proofs.Common.{◌∙◌, arith, mul-div_cancel, take_at}
use Rattle.std.proofs.Math.Bool.{true, false}
use mathlib.Core.List.{List, [], ◌∷◌, ◌++◌, append-nil}
use Rattle.std.proofs.Math.Dec.{ltb}
use Rattle.std.proofs.Math.ListN.{length, drop, replicate, drop_of_length-le}
use borrow.Author.Tests.{ltb-true, ltb-false}
use Rattle.theory.specs.Parts.{chop, part_at}
use Rattle.theory.specs.laws.Parts.{length_chop}
use Rattle.theory.specs.Each.{Each}
use Rattle.theory.specs.Keep.{onto}
use Rattle.theory.specs.Pick.{good, pick}
use Rattle.theory.specs.laws.Pick.{pick_length, pick_next, pick_past}
use Rattle.theory.specs.Join.{flat}
use Rattle.theory.specs.laws.Join.{flat_append, length_flat, chop_flat, chop_snoc}
use Rattle.theory.specs.Pad.{free, pad}
use Rattle.theory.specs.laws.CloseUp.{closed_pad}
use Rattle.closing.specs.Closing.{kept, closed_up}

-- the part at place i stays: it has a mark, and that is 0
unfoldable pub stays : List ℕ → ℕ → Bool
stays marks i = ltb i (length marks) && good (get_or marks i 0)

-- ---- part by part

module _ (w : ℕ) (marks b : List ℕ) where
  pub kept_start : pick good marks (chop w 0 b) ≡ []
  unfolding chop pick
  kept_start = go marks
    where
      go : (vs : List ℕ) → pick {A = List ℕ} good vs [] ≡ []
      go [] = refl
      go (v ∷ vs) = refl

  -- one part more
  pub kept_next : (n : ℕ) → pick good marks (chop w (n + 1) b) ≡ pick good marks (chop w n b) ++ onto (stays marks n) (part_at w n b) []
  unfolding stays onto
  kept_next n = rw (chop_snoc w n b) (go (ltb n (length marks)) refl)
    where
      go : (t : Bool) → ltb n (length marks) ≡ t
          → pick good marks (chop w n b ++ part_at w n b ∷ []) ≡ pick good marks (chop w n b) ++ onto (t && good (get_or marks n 0)) (part_at w n b) []
      go true e =
          let l : length (chop w n b) < length marks = omega (arith, ltb-true n (length marks) e, length_chop w n b) in
          pick_next good marks (chop w n b) (part_at w n b) l ∙ rw (length_chop w n b)
      go false e =
          let l : length marks ≤ length (chop w n b) = omega (arith, ltb-false n (length marks) e, length_chop w n b) in
          pick_past good marks (chop w n b) (part_at w n b) l ∙ sym (append-nil (pick good marks (chop w n b)))

-- ---- records in front, each with a mark

module _ (w : ℕ) (wide : 0 < w) {R : List (List ℕ)} (h : Each (λ r. length r ≡ w) R) (marks : List ℕ) where
  -- a block of records alone
  pub closed_records : closed_up w marks (flat R) ≡ flat (pad w (length R) (pick good marks R))
  unfolding closed_up kept
  closed_records =
      let e : length (flat R) / w ≡ length R = rw (length_flat w h) (mul-div_cancel (length R) wide) in
      let d : drop (length R * w) (flat R) ≡ [] = drop_of_length-le (flat R) {i = length R * w} (omega (arith, length_flat w h)) in
      rw (e, chop_flat w h, d) (append-nil (flat (pad w (length R) (pick good marks R))))

  module _ (n : ℕ) where
    records_front : take (length R * w) (flat (pad w n R)) ≡ flat R
    unfolding pad
    records_front =
        let F : List (List ℕ) = replicate (n - length R) (free w) in
        rw (flat_append R F) (take_at (flat R) (flat F) (length R * w) (length_flat w h))

    -- the records of a padded block closed up, and the free parts behind them
    pub closed_front : length R ≤ n
        → closed_up w marks (take (length R * w) (flat (pad w n R))) ++ drop (length R * w) (flat (pad w n R)) ≡ flat (pad w n (pick good marks R))
    closed_front l = rw (records_front, closed_records) (closed_pad w n h l (pick good marks R) (pick_length good marks R))
