-- Characters with blanks behind them: each byte passes or is a blank. Assumes nothing.
use Rattle.std.specs.Prelude.{◌≡◌, Bool, true, ◌&&◌, ◌||◌, List, ℕ, leb, ltb, length, take, drop}
use Rattle.std.proofs.Common.{◌∙◌, take-append-drop}
use Rattle.theory.specs.laws.Truth.{and_right, and_both, or_true}
use Rattle.theory.specs.Every.{all, leading}
use Rattle.theory.specs.laws.Every.{all_wider, all_append, leading_all}
use Rattle.fields.specs.Field.{blank}
use Rattle.characters.specs.Characters.{filled_to, filled}

pub filled_all : (p : ℕ → Bool) (f : List ℕ) → filled p f ≡ true → all (λ b. p b || blank b) f ≡ true
unfolding filled filled_to
filled_all p f h =
    let k : ℕ = leading p f in
    let q : ℕ → Bool = λ b. p b || blank b in
    let e : all blank (drop k f) ≡ true = and_right (leb k (length f) && ltb 0 k) (all blank (drop k f)) h in
    rw (take-append-drop k f) at
    (all_append q (take k f) (drop k f)
    ∙ and_both (all q (take k f)) (all q (drop k f)) (all_wider p q (λ b x. rw x) (take k f) (leading_all p f)) (all_wider blank q (λ b x. or_true (p b) (blank b) x) (drop k f) e))
