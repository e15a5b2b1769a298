-- A stamp that is written has its form and its fields, and one in form is what its fields write. Assumes nothing.
use Rattle.std.specs.Prelude.{◌≡◌, Bool, true, List, [], ◌∷◌, ◌++◌, ℕ, ◌+◌, eqb, length}
use Rattle.std.proofs.Math.Path.{ap}
use Rattle.std.proofs.Common.{◌∙◌, arith, eqb-true}
use Rattle.std.proofs.Math.ListN.{length-append}
use Rattle.theory.specs.Text.{bytes}
use Rattle.theory.specs.Each.{Each, none, more}
use Rattle.theory.specs.laws.Truth.{joined, joined_each}
use Rattle.theory.specs.Every.{run}
use Rattle.sizes.specs.Sizes.{stamp_length, time_length}
use Rattle.texts.specs.Field.{field}
use Rattle.texts.specs.laws.Field.{field_before, field_behind, field_all}
use Rattle.fields.specs.Field.{zero_digit}
use Rattle.times.specs.Time.{real_time}
use Rattle.sequences.specs.Sequence.{list_length, sequence}
use Rattle.stamps.specs.Stamp.{list_in, reception_in, stamp, stamp_holds}

-- ---- what is written

module _ (list reception : List ℕ) (n : length list ≡ list_length) (m : length reception ≡ time_length) where
  front : List ℕ
  front = list ++ reception

  size_front : length front ≡ 33
  unfolding front
  size_front = simp length-append (omega (arith, n, m))

  pub length_stamp : length (stamp list reception) ≡ stamp_length
  unfolding stamp front
  length_stamp = length-append front (bytes "0000000") ∙ ap (λ (k : ℕ). k + 7) size_front

  pub stamp_list : list_in (stamp list reception) ≡ list
  unfolding stamp front
  stamp_list =
      field_before 1 19 front (bytes "0000000") (omega arith) (omega arith) (omega (arith, size_front))
      ∙ field_before 1 19 list reception (omega arith) (omega arith) (omega (arith, n))
      ∙ field_all 19 list (omega (arith, n))

  pub stamp_reception : reception_in (stamp list reception) ≡ reception
  unfolding stamp front
  stamp_reception =
      field_before 20 33 front (bytes "0000000") (omega arith) (omega arith) (omega (arith, size_front))
      ∙ field_behind 20 33 19 list reception n (omega arith)
      ∙ field_all 14 reception (omega (arith, m))

  pub stamp_zeros : field 34 40 (stamp list reception) ≡ bytes "0000000"
  unfolding stamp front
  stamp_zeros = field_behind 34 40 33 front (bytes "0000000") size_front (omega arith) ∙ field_all 7 (bytes "0000000") (omega arith)

-- ---- what has the form

pub record Stamped (who s : List ℕ) : Type 0 where
  pub size : length s ≡ stamp_length
  pub listed : sequence who (list_in s) ≡ true
  pub received : real_time (reception_in s) ≡ true
  pub zeros : run zero_digit 7 (field 34 40 s) ≡ true

pub stamped : (who s : List ℕ) → stamp_holds who s ≡ true → Stamped who s
unfolding stamp_holds joined
stamped who s h = go (joined_each (eqb (length s) stamp_length) behind h)
  where
    behind : List Bool
    behind = sequence who (list_in s) ∷ real_time (reception_in s) ∷ run zero_digit 7 (field 34 40 s) ∷ []

    go : Each (λ b. b ≡ true) (eqb (length s) stamp_length ∷ behind) → Stamped who s
    go (more n (more l (more t (more z none)))) =
        record { size = eqb-true (length s) stamp_length n; listed = l; received = t; zeros = z }
