-- Records made of lines, by whatever makes them, and the slots of lines that can be stored. Assumes nothing.
use Rattle.std.specs.Prelude.{◌≡◌, refl, true, List, map, ℕ}
use Rattle.theory.specs.Each.{Each, none, more}
use Rattle.theory.specs.laws.Each.{each_map}
use Rattle.columns.specs.Columns.{pan_of}
use Rattle.records.specs.Slot.{slot_of, storable}
use Rattle.records.specs.laws.Stamped.{slot_length_lem, slot_pan, slot_actor}
use Rattle.upkeep.specs.Makes.{Makes}
use Rattle.upkeep.specs.laws.Stays.{written_used}

-- the slot of a line that can be stored under the stamp
pub slot_makes : (s l : List ℕ) → storable s l ≡ true → Makes (slot_of s) l
slot_makes s l h = record { pan = slot_pan s l h; his = slot_actor s l h; size = slot_length_lem s l h; used = written_used s l h }

pub each_makes : (s : List ℕ) {ls : List (List ℕ)} → Each (λ l. storable s l ≡ true) ls → Each (Makes (slot_of s)) ls
each_makes s = each_map (λ l k. slot_makes s l k)

module _ (make : List ℕ → List ℕ) where
  pub made_pans : {ls : List (List ℕ)} → Each (Makes make) ls → map pan_of (map make ls) ≡ map pan_of ls
  made_pans none = refl
  made_pans (more h hs) = rw (h.pan, made_pans hs)

  -- what a record takes over from its line, each record has where each line has it
  pub each_made : (q : List ℕ → Type 0) → ((l : List ℕ) → Makes make l → q l → q (make l)) → {ls : List (List ℕ)} → Each (Makes make) ls → Each q ls → Each q (map make ls)
  each_made q g none none = none
  each_made q g (more {x = l} h hs) (more k ks) = more (g l h k) (each_made q g hs ks)
