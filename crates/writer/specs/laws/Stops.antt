-- The refusals as the code asks them: the header's fields first, then rows, accounts and buffer. Assumes nothing.
use Rattle.std.specs.Prelude.{◌≡◌, refl, Bool, true, false, not, ◌&&◌, List, ℕ, ◌≤◌, ltb, length}
use Rattle.std.proofs.Common.{arith, ltb-false}
use Rattle.theory.specs.Walk.{each}
use Rattle.theory.specs.First.{first, choose}
use Rattle.writer.specs.Given.{Given}
use Rattle.writer.specs.Hgv.{accounts_in, accounts_of, file_length, head_fields_hold, blocks_hold, faultless_line, given_holds, pans_apart, write_stops, write_number}

-- 61 but for the header's fields
unfoldable pub accounts_hold : List ℕ → List ℕ → List ℕ → Bool
accounts_hold sender rows accounts = blocks_hold sender rows accounts && each (faultless_line rows sender) (accounts_of accounts)

-- where these hold, the number; `room` is the buffer's length
unfoldable pub accounts_number : List ℕ → List ℕ → List ℕ → ℕ → ℕ
accounts_number sender rows accounts room =
    choose (not (accounts_hold sender rows accounts)) 61 (choose (not (pans_apart accounts)) 62 (choose (ltb room (file_length (accounts_in accounts))) 63 0))

module _ (g : Given) (out : List ℕ) where
  abbrev pub headed : Bool
  headed = head_fields_hold g.version g.sender g.date g.number g.previous g.creation

  pub number_headless : headed ≡ false → write_number g out ≡ 61
  unfolding write_number write_stops first choose given_holds
  number_headless h = rw h

  pub number_headed : headed ≡ true → write_number g out ≡ accounts_number g.sender g.rows g.accounts (length out)
  unfolding write_number write_stops first given_holds accounts_number accounts_hold
  number_headed h = rw h

  pub given_holds_lem : headed ≡ true → accounts_hold g.sender g.rows g.accounts ≡ true → given_holds g ≡ true
  unfolding given_holds accounts_hold
  given_holds_lem h k = rw h k

-- none of the three
pub no_stop : (a b c : Bool) → choose (not a) 61 (choose (not b) 62 (choose c 63 0)) ≡ 0 → (a ≡ true) × ((b ≡ true) × (c ≡ false))
unfolding choose
no_stop true true true h = absurd (omega (arith, h))
no_stop true true false h = (refl, (refl, refl))
no_stop true false c h = absurd (omega (arith, h))
no_stop false b c h = absurd (omega (arith, h))

pub accounts_clear : (sender rows accounts : List ℕ) (room : ℕ) → accounts_number sender rows accounts room ≡ 0
    → (accounts_hold sender rows accounts ≡ true) × ((pans_apart accounts ≡ true) × (file_length (accounts_in accounts) ≤ room))
unfolding accounts_number
accounts_clear sender rows accounts room h =
    let k = no_stop (accounts_hold sender rows accounts) (pans_apart accounts) (ltb room (file_length (accounts_in accounts))) h in
    (k.0, (k.1.0, ltb-false room (file_length (accounts_in accounts)) k.1.1))
