-- Demand 1: total. Each sentence of it, and under it the theorems that say so, of any outcome that the contract of each entry point
-- admits. A refusal is an answer whose number is not 0. Assumes nothing.
use Rattle.std.specs.Prelude.{◌≡◌, refl, List, [], ◌++◌, ℕ}
use Rattle.theory.specs.First.{Decided}
use Rattle.lookups.specs.Lookup.{pan_rules, plate_rules}
use Rattle.lookups.specs.Promises.{ByPan, ByPlate}
use Rattle.lookups.specs.laws.Found.{by_pan_refused, by_plate_refused}
use Rattle.imports.specs.Imported.{Imported}
use Rattle.imports.specs.Import.{stops}
use Rattle.importer.specs.Promises.{Import}
use Rattle.imports.specs.Promises.{ImportJudged}
use Rattle.provider.specs.Counted.{Counted}
use Rattle.reading.specs.ReadBack.{hgv_stops, block_stops}
use Rattle.updating.specs.Sent.{Sent}
use Rattle.copies.specs.Copy.{copy_stops}
use Rattle.updating.specs.Update.{receipt_stops}
use Rattle.reading.specs.Promises.{ReadBack}
use Rattle.updating.specs.Promises.{Update}
use Rattle.imports.specs.Handed.{Handed}
use Rattle.sweeping.specs.Swept.{Swept}
use Rattle.sweeping.specs.Sweep.{sweep_stops}
use Rattle.sweeping.specs.Promises.{Sweep}
use Rattle.sweeping.specs.laws.Sweep as swept
use Rattle.demands.specs.laws.Imports as imports
use Rattle.demands.specs.laws.Answered as answered

-- "The import, the lookups and the provider's update take every file, table, register and buffer, of every length, and end."
-- The entry points have no `requires`, and a function is proved only if it ends: so whatever is handed over there is an outcome,
pub import_ends : (f : Handed) (register : List ℕ) → (r : Imported) × (b : List ℕ) × (g : List ℕ) × Import f register r b g
unfolding ImportJudged
import_ends f register = (_, _, _, (refl, (refl, refl)))

pub by_pan_ends : (register key : List ℕ) → (part : List ℕ) × (number : ℕ) × ByPan register key part number
by_pan_ends register key = (_, _, (refl, refl))

pub by_plate_ends : (register plate nationality time : List ℕ) → (part : List ℕ) × (number : ℕ) × ByPlate register plate nationality time part number
by_plate_ends register plate nationality time = (_, _, (refl, refl))

pub read_back_ends : (hgv hgc block : List ℕ) → (r : Counted) × (v : List ℕ) × ReadBack hgv hgc block r v
unfolding ReadBack
read_back_ends hgv hgc block = (_, _, (refl, refl))

pub update_ends : (s : Sent) (copy : List ℕ) → (r : Counted) × (c : List ℕ) × Update s copy r c
unfolding Update
update_ends s copy = (_, _, (refl, refl))

pub sweep_ends : (time register : List ℕ) → (r : Swept) × (b : List ℕ) × Sweep time register r b
unfolding Sweep
sweep_ends time register = (_, _, (refl, refl))

-- and only one: `import_one`, `by_pan_one`, `by_plate_one`, `read_back_one`, `update_one` and `sweep_one`, each about the name that the contract
-- cites, stand among the laws of the crates

-- "What is bad is refused by its number in the definition, tested here and not by the caller."
-- The number is that of a stop that holds where none in front of it does; it is 0 exactly where no stop holds
pub import_decided : (f : Handed) (register : List ℕ) (r : Imported) (b g : List ℕ) → Import f register r b g
    → Decided (stops f register) r.number
import_decided f register r b g o = imports.number_decided f register r b g o

pub by_pan_decided : (register key part : List ℕ) (number : ℕ) → ByPan register key part number → Decided (pan_rules register key) number
by_pan_decided register key part number o = answered.pan_decided register key part number o

pub by_plate_decided : (register plate nationality time part : List ℕ) (number : ℕ) → ByPlate register plate nationality time part number
    → Decided (plate_rules register plate nationality time) number
by_plate_decided register plate nationality time part number o = answered.plate_decided register plate nationality time part number o

pub read_back_decided : (hgv hgc block : List ℕ) (r : Counted) (v : List ℕ) → ReadBack hgv hgc block r v → Decided (hgv_stops hgv ++ block_stops hgv hgc block) r.number
read_back_decided hgv hgc block r v o = answered.read_decided hgv hgc block r v o

pub update_decided : (s : Sent) (copy : List ℕ) (r : Counted) (c : List ℕ) → Update s copy r c → Decided (copy_stops s.mode copy s.hgv ++ receipt_stops s copy) r.number
update_decided s copy r c o = answered.update_decided s copy r c o

pub sweep_decided : (time register : List ℕ) (r : Swept) (b : List ℕ) → Sweep time register r b → Decided (sweep_stops time register) r.number
sweep_decided = swept.sweep_decided

-- "A refusal returns zero counts, and every lent byte stays."
pub import_refusal : (f : Handed) (register : List ℕ) (r : Imported) (b g : List ℕ) → Import f register r b g → (r.number ≡ 0 → ⊥)
    → (r ≡ record { number = r.number; taken = 0; rejected = 0; length = 0 }) × ((b ≡ register) × (g ≡ f.hgc))
import_refusal f register r b g o k = imports.refusal_is f register r b g o k

pub read_back_refusal : (hgv hgc block : List ℕ) (r : Counted) (v : List ℕ) → ReadBack hgv hgc block r v → (r.number ≡ 0 → ⊥)
    → (r ≡ record { number = r.number; taken = 0; rejected = 0 }) × (v ≡ block)
read_back_refusal hgv hgc block r v o k = answered.read_refusal hgv hgc block r v o k

pub update_refusal : (s : Sent) (copy : List ℕ) (r : Counted) (c : List ℕ) → Update s copy r c → (r.number ≡ 0 → ⊥)
    → (r ≡ record { number = r.number; taken = 0; rejected = 0 }) × (c ≡ copy)
update_refusal s copy r c o k = answered.update_refusal s copy r c o k

pub sweep_refusal : (time register : List ℕ) (r : Swept) (b : List ℕ) → Sweep time register r b → (r.number ≡ 0 → ⊥)
    → (r ≡ record { number = r.number; removed = 0 }) × (b ≡ register)
sweep_refusal = swept.sweep_refused

-- a lookup is lent its register to read only; its refusal hands nothing back
pub by_pan_refusal : (register key part : List ℕ) (number : ℕ) → ByPan register key part number → (number ≡ 0 → ⊥) → part ≡ []
by_pan_refusal register key part number o k = by_pan_refused register key number part o k

pub by_plate_refusal : (register plate nationality time part : List ℕ) (number : ℕ) → ByPlate register plate nationality time part number → (number ≡ 0 → ⊥) → part ≡ []
by_plate_refusal register plate nationality time part number o k = by_plate_refused register plate nationality time number part o k
