-- What the taken lines must be so that a register can take them one after the other. Assumes nothing.
use Rattle.std.specs.Prelude.{◌≡◌, true, false, List, map, ℕ, ◌≤◌, ◌<◌, length, get_or}
use Rattle.theory.specs.Each.{Each}
use Rattle.theory.specs.Walk.{some}
use Rattle.theory.specs.Parts.{part_at}
use Rattle.theory.specs.Pick.{good}
use Rattle.theory.specs.Distinct.{distinct}
use Rattle.columns.specs.Columns.{pan_of}
use Rattle.records.specs.Slot.{slot_of, storable}
use Rattle.slots.specs.Slots.{slots_in, records, used_in}
use Rattle.register.specs.Register.{in_order}
use Rattle.slots.specs.Search.{holds_pan, place_of}
use Rattle.taken.specs.Taken.{taken_in}
use Rattle.holdings.specs.Holdings.{stored_all}

-- f tells where a PAN stands among the records R: at f, or nowhere if f is none of the first n places
pub record Stands (n : ℕ) (R : List (List ℕ)) (pan : List ℕ) (f : ℕ) : Type 0 where
  pub held : f < n → place_of pan R ≡ f
  pub new : n ≤ f → some (holds_pan pan) R ≡ false

-- the register b, of which `first` slots are used, and the lines of this width whose verdicts are 0
pub record CanStore (stamp b : List ℕ) (first told width : ℕ) (lines vs found : List ℕ) : Type 0 where
  pub order : in_order b ≡ true
  pub counted : first ≡ used_in b
  -- each keeps the rules of a record, and the stamp is its actor's
  pub lined : Each (λ l. storable stamp l ≡ true) (taken_in width vs lines)
  -- no two have one PAN
  pub apart : distinct (map pan_of (taken_in width vs lines)) ≡ true
  -- there are slots enough
  pub room : length (stored_all (records b) (map (slot_of stamp) (taken_in width vs lines))) ≤ slots_in b
  -- and places of used slots tell where their PANs stand
  pub known : told ≤ first
  pub placed : (i : ℕ) → i < length vs → good (get_or vs i 0) ≡ true → Stands told (records b) (pan_of (part_at width i lines)) (get_or found i 0)
