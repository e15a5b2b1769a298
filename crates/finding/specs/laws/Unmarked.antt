-- Where each line is marked 0, each is looked for. Assumes nothing.
use Rattle.std.specs.Prelude.{◌≡◌, List, ℕ, ◌<◌, get_or}
use Rattle.theory.specs.Parts.{part_at}
use Rattle.theory.specs.Pick.{good}
use Rattle.theory.specs.Place.{place}
use Rattle.theory.specs.Table.{table_of}
use Rattle.theory.specs.laws.Table.{tables_same}
use Rattle.finding.specs.Places.{has_key, place_for}

pub places_unmarked : (key : List ℕ → List ℕ) (xs : List (List ℕ)) (line_key : List ℕ → List ℕ) (w : ℕ) (lines vs : List ℕ) (n : ℕ) → ((i : ℕ) → i < n → get_or vs i 0 ≡ 0)
    → table_of (place_for key xs line_key w lines vs) n ≡ table_of (λ i. place (has_key key (line_key (part_at w i lines))) xs) n
unfolding place_for good
places_unmarked key xs line_key w lines vs n z = tables_same _ _ n (λ i l. rw (z i l))
