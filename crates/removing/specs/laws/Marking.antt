-- A mark for each slot, by a test of it: the walk that writes them, slot by slot, and the marks that it leaves. Assumes nothing.
use Rattle.std.specs.Prelude.{◌≡◌, refl, Bool, true, not, List, [], ◌∷◌, map, ℕ, ◌+◌, ◌≤◌, ◌<◌, length, set}
use Rattle.std.proofs.Common.{ap, ◌∙◌, arith, length-set}
use Rattle.std.proofs.lemmas.List.{length-map}
use Rattle.theory.specs.Keep.{sift}
use Rattle.theory.specs.Pick.{good, pick}
use Rattle.theory.specs.Parts.{chop, part_at}
use Rattle.theory.specs.laws.Parts.{length_chop}
use Rattle.theory.specs.Scan.{scan, taken_next}
use Rattle.theory.specs.laws.Scan.{Judged, judged_start, judged_turn, judged_end}
use Rattle.sizes.specs.Sizes.{slot_length, slots_most}
use Rattle.slots.specs.Slots.{slots_in, records, used_in}
use Rattle.slots.specs.laws.Slots.{used_most, records_chop}
use Rattle.register.specs.Register.{in_order}
use Rattle.register.specs.laws.Register.{ordered}
use Rattle.upkeep.specs.Holds.{Left}
use Rattle.removing.specs.laws.Marks.{mark_by, pick_marks}

-- marks that ask nothing of the slots before
scan_map : (g : List ℕ → ℕ) (ts ls : List (List ℕ)) → scan (λ _ l. g l) ts ls ≡ map g ls
unfolding scan
scan_map g ts [] = refl
scan_map g ts (l ∷ ls) = ap (λ (vs : List ℕ). g l ∷ vs) (scan_map g (taken_next (g l) l ts) ls)

-- ---- the walk

-- the first i of n slots have their marks
pub record Marking (p : List ℕ → Bool) (b : List ℕ) (n i : ℕ) (marks : List ℕ) : Type 0 where
  pub within : i ≤ n
  pub size : length marks ≡ n
  pub judged : Judged (λ _ l. mark_by p l) slot_length b i marks

module _ (p : List ℕ → Bool) (b : List ℕ) where
  pub marking_start : (marks : List ℕ) → Marking p b (length marks) 0 marks
  marking_start marks = record { within = omega arith; size = refl; judged = judged_start _ slot_length b marks }

  module _ (n i : ℕ) (marks : List ℕ) (k : Marking p b n i marks) where
    -- x is the slot, and m the mark that it got
    pub marking_turn : i < length marks → (x : List ℕ) → x ≡ part_at slot_length i b → (m : ℕ) → m ≡ mark_by p x → Marking p b n (i + 1) (set marks i m)
    marking_turn l x q m e =
        record {
          within = omega (arith, k.size);
          size = length-set marks i m ∙ k.size;
          judged = judged_turn _ slot_length b i marks k.judged l m (e ∙ ap (mark_by p) q) (set marks i m) refl;
        }

    pub marking_end : length marks ≤ i → marks ≡ map (mark_by p) (chop slot_length n b)
    marking_end l =
        let e : i ≡ n = omega (arith, k.within, k.size) in
        rw (← e) (judged_end _ slot_length b i marks k.judged (omega (arith, k.size)) ∙ scan_map (mark_by p) [] (chop slot_length i b))

-- ---- the marks

pub used_within : (b : List ℕ) → in_order b ≡ true → used_in b ≤ slots_most
used_within b h = omega (arith, used_most b, (ordered b h).most)

-- n is how many marks there were to be, and `marks` what was written
module _ (b : List ℕ) (p : List ℕ → Bool) (marks : List ℕ) (n : ℕ) (u : n ≡ used_in b) (m : marks ≡ map (mark_by p) (chop slot_length n b)) where
  pub as_many : length marks ≡ used_in b
  as_many = rw m (length-map (chop slot_length n b) (mark_by p) ∙ length_chop slot_length n b ∙ u)

  those_left : pick good marks (records b) ≡ sift (λ r. not (p r)) (records b)
  those_left = rw (m, u, ← records_chop b) (pick_marks p (records b))

  -- where the marked records went, those for which the test holds did
  pub left_by : (b' : List ℕ) (r : ℕ) → Left (slots_in b) (pick good marks (records b)) b' r → Left (slots_in b) (sift (λ x. not (p x)) (records b)) b' r
  left_by b' r l = rw those_left at l
