-- What the functions of this crate cite. Assumes nothing.
use mathlib.Core.Path.{◌≡◌, refl, ◌∙◌}
use mathlib.Core.Bool.{true}
use mathlib.Core.List.{List, map}
use Prim.Native.Nat.{ℕ, ◌≤◌}
use native.Mathlib.Omega.{arith}
use lib.ListN.{length, replicate, get_or-replicate}
use Rattle.theory.specs.Distinct.{distinct}
use Rattle.theory.specs.Parts.{chop}
use Rattle.sizes.specs.Sizes.{lines_most, slots_most}
use Rattle.texts.specs.declared.parts.Parts.{Parts}
use Rattle.keys.specs.declared.keyed.KeyedParts.{KeyedParts}
use Rattle.keys.specs.Promises.{KeyedPartsBy}
use Rattle.keys.specs.Keys.{key_at}
use Rattle.finding.specs.Places.{first_for}
use Rattle.finding.specs.Promises.{PlacesBy, Firsts}
use Rattle.finding.specs.laws.Unmarked.{places_unmarked}
use Rattle.columns.specs.Columns.{pan_of}
use Rattle.slots.specs.Slots.{slots_in, slots_of, records, used_part}
use Rattle.slots.specs.Promises.{ByPan}
use Rattle.slots.specs.laws.Slots.{slots_used, used_slots, used_most}
use Rattle.slots.specs.Search.{holds_pan, place_of}
use Rattle.register.specs.Register.{in_order}
use Rattle.register.specs.laws.Register.{ordered}
use Rattle.hgv.specs.Layout.{width_of, lines_in, lines_of, length_holds, body}
use Rattle.hgv.specs.Promises.{Lines}
use Rattle.hgv.specs.laws.Layout.{lines_most_lem}
use Rattle.header.specs.Header.{sender}
use Rattle.verdicts.specs.Verdict.{verdicts_of, file_verdicts}
use Rattle.flagging.specs.Places.{places_of, firsts_of}

-- ---- the places of all lines, since none is marked

-- slots are those of b by their PANs, and sought the lines by theirs
module _ (lines : Parts) (sought : KeyedParts) (q : KeyedPartsBy lines (record { from = 14; to = 32; forward = (omega arith, omega arith) }) sought) where
  pub places_all : (b : List ℕ) (slots : KeyedParts) → ByPan b slots → (marks before found : List ℕ) → marks ≡ replicate (length before) 0
      → PlacesBy slots.block.now slots.keys slots.count sought.block.now sought.keys marks before found → found ≡ places_of (slots_of b) lines.width lines.block.now (length before)
  unfolding slots_of places_of place_of holds_pan
  places_all b slots p marks before found z e =
      let n : ℕ = length before in
      e ∙ rw (p.0, p.1, p.2, q.0, q.1) (places_unmarked pan_of (slots_of b) pan_of lines.width lines.block.now marks n (λ i l. rw z (get_or-replicate n i 0 0 l)))

  pub firsts_all : (before firsts : List ℕ) (n : ℕ) → length before ≡ n → Firsts sought.block.now sought.keys before firsts → firsts ≡ firsts_of lines.width lines.block.now n
  unfolding first_for key_at places_of place_of holds_pan
  firsts_all before firsts n m e = e ∙ rw (q.0, q.1, m) refl

-- ---- a file

-- n is the number of its lines
pub lines_few : (h : List ℕ) → length_holds h ≡ true → (n : ℕ) → n ≡ lines_in h → n ≤ lines_most
lines_few h s n e = rw e (lines_most_lem h s)

-- k are the used slots of the register b
module _ (b : List ℕ) (o : in_order b ≡ true) (k : List ℕ) (e : k ≡ used_part b) where
  held_most : slots_in k ≤ slots_in b
  held_most = rw e (omega (arith, used_slots b, used_most b))

  pub held_few : slots_in k ≤ slots_most
  held_few = omega (arith, held_most, (ordered b o).most)

  pub held_indexed : (m : ℕ) → slots_in b ≤ m → slots_in k ≤ m
  held_indexed m l = omega (arith, held_most)

  pub held_apart : distinct (map pan_of (slots_of k)) ≡ true
  held_apart = rw (e, slots_used b) (ordered b o).apart

-- and the file h is judged beside them
module _ (h b k : List ℕ) (e : k ≡ used_part b) (lines : Parts) (f : Lines h lines) (n : ℕ) (q : n ≡ lines_in h) where
  pub file_judged : (rows from : List ℕ) → from ≡ sender h → (vs : List ℕ) → vs ≡ verdicts_of rows from (slots_of k) (chop lines.width n lines.block.now)
      → vs ≡ file_verdicts rows (records b) h
  unfolding file_verdicts lines_of
  file_judged rows from s vs v = v ∙ rw (e, slots_used b, s, f.0, f.1, q)

  pub file_placed : (found : List ℕ) → found ≡ places_of (slots_of k) lines.width lines.block.now n → found ≡ places_of (records b) (width_of h) (body h) (lines_in h)
  file_placed found p = p ∙ rw (e, slots_used b, f.0, f.1, q)
