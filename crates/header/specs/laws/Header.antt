-- What a header in form has, for those who read one. Assumes nothing.
use Rattle.std.specs.Prelude.{◌≡◌, Bool, true, List, [], ◌∷◌, ℕ}
use Rattle.theory.specs.Text.{bytes}
use Rattle.theory.specs.Same.{eqs}
use Rattle.theory.specs.Every.{run}
use Rattle.theory.specs.laws.Truth.{joined, joined_each}
use Rattle.theory.specs.Each.{Each, more}
use Rattle.sizes.specs.Sizes.{header_length}
use Rattle.texts.specs.Field.{field, line_end}
use Rattle.fields.specs.Field.{digit, zero_digit}
use Rattle.times.specs.Time.{real_time}
use Rattle.sequences.specs.Sequence.{sequence}
use Rattle.header.specs.Header.{sender, receiver, list_sequence, previous_holds, count, creation, header_holds}

module _ (h : List ℕ) (form : header_holds h ≡ true) where
  -- field by field
  pub header_fields : Each (λ c. c ≡ true)
      (eqs (field 1 1 h) (bytes "0") ∷ run digit 6 (sender h) ∷ run digit 6 (receiver h) ∷ sequence (sender h) (list_sequence h) ∷ previous_holds h ∷ run zero_digit 14 (field 52 65 h)
      ∷ run digit 15 (count h) ∷ real_time (creation h) ∷ run zero_digit 27 (field 101 127 h) ∷ eqs (field header_length header_length h) line_end ∷ [])
  unfolding header_holds joined
  header_fields = joined_each (eqs (field 1 1 h) (bytes "0")) _ form

  pub header_sender : run digit 6 (sender h) ≡ true
  header_sender = go header_fields
    where
      go : {a b : Bool} {cs : List Bool} → Each (λ c. c ≡ true) (a ∷ b ∷ cs) → b ≡ true
      go (more x (more y zs)) = y

  pub header_list : sequence (sender h) (list_sequence h) ≡ true
  header_list = go header_fields
    where
      go : {a b c d : Bool} {cs : List Bool} → Each (λ c. c ≡ true) (a ∷ b ∷ c ∷ d ∷ cs) → d ≡ true
      go (more x (more y (more z (more w zs)))) = w
