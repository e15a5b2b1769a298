-- One line stored, and all of them. Assumes nothing.
use mathlib.Core.Path.{◌≡◌, refl, sym, ap, ◌∙◌}
use mathlib.Core.Bool.{Bool, true, false, cond, false≢true}
use mathlib.Core.List.{List, [], ◌∷◌, ◌++◌, map}
use Prim.Native.Nat.{ℕ, suc, ◌+◌, ◌≤◌, ◌<◌}
use native.Mathlib.Omega.{arith}
use native.Mathlib.Numerals.{add-one}
use lib.Dec.{eqb, ltb}
use lib.ListN.{length, get_or, length-append, length-set}
use borrow.Author.Tests.{eq-eqb, ne_eqb, ltb-true, ltb-false, le-ltb}
use Rattle.theory.specs.laws.Same.{eqs_true}
use Rattle.theory.specs.Each.{Each}
use Rattle.theory.specs.laws.Each.{each_head, each_tail}
use Rattle.theory.specs.Count.{bump}
use Rattle.theory.specs.Walk.{some}
use Rattle.theory.specs.Keep.{onto}
use Rattle.theory.specs.Pick.{good, pick}
use Rattle.theory.specs.laws.Pick.{good_no}
use Rattle.theory.specs.Parts.{chop, part_at}
use Rattle.theory.specs.Place.{place}
use Rattle.theory.specs.laws.Place.{place_most, place_hit, place_some}
use Rattle.theory.specs.laws.Scan.{some_key}
use Rattle.theory.specs.laws.Among.{taken_from, taken_start, taken_step, taken_end}
use Rattle.theory.specs.Put.{put_part}
use Rattle.columns.specs.Columns.{pan_of}
use Rattle.records.specs.Slot.{slot_of, storable, put_record}
use Rattle.records.specs.laws.Stamped.{slot_length_lem}
use Rattle.sizes.specs.Sizes.{slot_length, slots_most}
use Rattle.slots.specs.Slots.{slots_in, records, used_in}
use Rattle.slots.specs.Search.{holds_pan, place_of}
use Rattle.slots.specs.laws.Slots.{used_most}
use Rattle.register.specs.laws.Register.{ordered}
use Rattle.holdings.specs.Holdings.{stored, stored_all}
use Rattle.holdings.specs.laws.Storing.{stored_held, stored_new, all_grows}
use Rattle.upkeep.specs.Holds.{Holds, Left}
use Rattle.upkeep.specs.laws.Makes.{slot_makes}
use Rattle.upkeep.specs.laws.Stays.{written_used, written_put, as_it_is, replaced, added}
use Rattle.storing.specs.CanStore.{Stands, CanStore}
use Rattle.storing.specs.laws.Standing.{Standing, standing_turn}
use Rattle.storing.specs.laws.Steps.{stored_if, Ready, Storing}

-- ---- its slot

module _ (b : List ℕ) (used : ℕ) (e : used ≡ used_in b) (pan : List ℕ) where
  -- f tells of it
  pub slot_told : (told f : ℕ) → Stands told (records b) pan f → (i : ℕ) → i ≡ cond (ltb f told) f used → i ≡ place_of pan (records b)
  unfolding place_of
  slot_told told f s i g = g ∙ go (ltb f told) refl
    where
      go : (t : Bool) → ltb f told ≡ t → cond t f used ≡ place (holds_pan pan) (records b)
      go true h = sym (s.held (ltb-true f told h))
      go false h =
          let n : ltb (place (holds_pan pan) (records b)) (length (records b)) ≡ false = sym (place_some (holds_pan pan) (records b)) ∙ s.new (ltb-false f told h) in
          omega (arith, e, place_most (holds_pan pan) (records b), ltb-false (place (holds_pan pan) (records b)) (length (records b)) n)

-- ---- one line

pub one_more : (i used : ℕ) → i ≡ used → used + 1 ≡ bump (eqb i used) used
unfolding bump
one_more i used h = rw (eq-eqb i used h) (add-one used)

pub as_many : (i used : ℕ) → (i ≡ used → ⊥) → used ≡ bump (eqb i used) used
unfolding bump
as_many i used h = rw (ne_eqb i used h)

module _ (t : Bool) (stamp l b : List ℕ) (used : ℕ) (y : Ready t stamp l b used) where
  pub ready_most : used ≤ slots_most
  ready_most = omega (arith, y.counted, used_most b, (ordered b y.order).most)

module _ (stamp l b : List ℕ) (used : ℕ) (y : Ready true stamp l b used) where
  abbrev x : List ℕ
  x = slot_of stamp l

  abbrev R : List (List ℕ)
  R = records b

  -- one in its place
  put_held : place_of (pan_of x) R < length R → Left (slots_in b) (stored x R) (put_record (place_of (pan_of x) R) stamp l b) (bump (eqb (place_of (pan_of x) R) used) used)
  unfolding place_of holds_pan bump
  put_held k =
      let i : ℕ = place (holds_pan (pan_of x)) R in
      let hit : pan_of x ≡ pan_of (get_or R i []) = sym (eqs_true _ _ (place_hit (holds_pan (pan_of x)) R k)) in
      let p : put_record i stamp l b ≡ put_part slot_length i x b = written_put stamp l (y.line refl) i b (omega (arith, used_most b)) in
      let n : eqb i used ≡ false = ne_eqb i used (λ e. omega (arith, y.counted)) in
      rw (stored_held x R k, p, n)
      (record {
        holds = replaced b y.order x (slot_length_lem stamp l (y.line refl)) (written_used stamp l (y.line refl)) i k hit;
        counted = y.counted ∙ sym (length-set R i x);
      })

  -- a new one behind them
  put_new : place_of (pan_of x) R ≡ length R → Left (slots_in b) (stored x R) (put_record (place_of (pan_of x) R) stamp l b) (bump (eqb (place_of (pan_of x) R) used) used)
  unfolding place_of holds_pan bump stored_if
  put_new k =
      let miss : some (holds_pan (pan_of x)) R ≡ false = place_some (holds_pan (pan_of x)) R ∙ rw k (le-ltb (length R) (length R) (omega arith)) in
      let s : stored x R ≡ R ++ x ∷ [] = stored_new x R miss in
      let g : length R < slots_in b = omega (arith, ap length s, length-append R (x ∷ []), y.room) in
      let p : put_record (length R) stamp l b ≡ put_part slot_length (length R) x b = written_put stamp l (y.line refl) (length R) b g in
      let n : eqb (length R) used ≡ true = eq-eqb (length R) used (sym y.counted) in
      rw (k, s, p, n)
      (record {
        holds = added b y.order x (slot_length_lem stamp l (y.line refl)) (written_used stamp l (y.line refl)) g (sym (some_key pan_of (pan_of x) R) ∙ miss);
        counted = ap suc y.counted ∙ omega (arith, length-append R (x ∷ []));
      })

  -- i is the place of the line's PAN
  pub put_line : (i : ℕ) → i ≡ place_of (pan_of l) R
      → (b' : List ℕ) → b' ≡ put_record i stamp l b → (r : ℕ) → r ≡ bump (eqb i used) used → Left (slots_in b) (stored x R) b' r
  unfolding place_of
  put_line i g b' p r n = rw (n, p, place_is) (go (ltb (place_of (pan_of x) R) (length R)) refl)
    where
      place_is : i ≡ place_of (pan_of x) R
      place_is = g ∙ rw (slot_makes stamp l (y.line refl)).pan

      go : (t : Bool) → ltb (place_of (pan_of x) R) (length R) ≡ t → Left (slots_in b) (stored x R) (put_record (place_of (pan_of x) R) stamp l b) (bump (eqb (place_of (pan_of x) R) used) used)
      go true h = put_held (ltb-true (place_of (pan_of x) R) (length R) h)
      go false h = put_new (omega (arith, ltb-false (place_of (pan_of x) R) (length R) h, place_most (holds_pan (pan_of x)) R))

-- ---- a line by its verdict

module _ (v : ℕ) (stamp l b : List ℕ) (used : ℕ) (y : Ready (good v) stamp l b used) where
  pub line_left : (v ≡ 0 → ⊥) → Left (slots_in b) (stored_if (good v) (slot_of stamp l) (records b)) b used
  unfolding stored_if
  line_left n = rw (good_no v n) (record { holds = as_it_is b y.order; counted = y.counted })

  pub line_ready : v ≡ 0 → Ready true stamp l b used
  unfolding good
  line_ready e = rw e at y

pub line_good : (v : ℕ) → v ≡ 0 → good v ≡ true
unfolding good
line_good v e = rw e

pub line_taken : (v : ℕ) (x : List ℕ) (R : List (List ℕ)) → v ≡ 0 → stored x R ≡ stored_if (good v) x R
unfolding stored_if good
line_taken v x R e = rw e

-- ---- line after line

module _ (stamp : List ℕ) (n : ℕ) (goal : List (List ℕ)) (b : List ℕ) (used : ℕ) where
  on_ready : (t : Bool) (l : List ℕ) (ls : List (List ℕ)) → Storing stamp n goal (onto t l ls) b used → Ready t stamp l b used
  unfolding onto stored_if stored_all
  on_ready true l ls s =
      let g = all_grows (map (slot_of stamp) ls) (stored (slot_of stamp l) (records b)) in
      record { order = s.order; counted = s.counted; line = λ e. each_head s.lined; room = omega (arith, g, ap length s.leads, s.room, s.many) }
  on_ready false l ls s =
      record { order = s.order; counted = s.counted; line = λ e. absurd (false≢true e); room = used_most b }

  -- b' and r are what the line left
  on_turn : (t : Bool) (l : List ℕ) (ls : List (List ℕ)) → Storing stamp n goal (onto t l ls) b used
      → (b' : List ℕ) (r : ℕ) → Left (slots_in b) (stored_if t (slot_of stamp l) (records b)) b' r → Storing stamp n goal ls b' r
  unfolding onto stored_if stored_all
  on_turn t l ls s b' r w =
      record {
        order = w.holds.order;
        counted = w.counted ∙ ap length (sym w.holds.held);
        many = w.holds.many ∙ s.many;
        lined = lined t s.lined;
        leads = rw w.holds.held (leads t s.leads);
        room = s.room;
      }
    where
      lined : (c : Bool) → Each (λ k. storable stamp k ≡ true) (onto c l ls) → Each (λ k. storable stamp k ≡ true) ls
      lined true e = each_tail e
      lined false e = e

      leads : (c : Bool) → stored_all (records b) (map (slot_of stamp) (onto c l ls)) ≡ goal
          → stored_all (stored_if c (slot_of stamp l) (records b)) (map (slot_of stamp) ls) ≡ goal
      leads true e = e
      leads false e = e

  pub storing_end : (width : ℕ) (vs ls : List ℕ) (i : ℕ) → Storing stamp n goal (taken_from width (length vs) vs ls i) b used → length vs ≤ i → Holds n goal b
  unfolding stored_all
  storing_end width vs ls i s h =
      let e : records b ≡ goal = rw (taken_end width (length vs) vs ls i h) at s.leads in
      rw (s.many, e) at (as_it_is b s.order)

  module _ (width : ℕ) (vs ls : List ℕ) where
    pub storing_start : Storing stamp n goal (pick good vs (chop width (length vs) ls)) b used → Storing stamp n goal (taken_from width (length vs) vs ls 0) b used
    storing_start s = rw (taken_start width (length vs) vs ls) at s

    module _ (i : ℕ) (s : Storing stamp n goal (taken_from width (length vs) vs ls i) b used) (h : i < length vs) (x : List ℕ) (p : x ≡ part_at width i ls) where
      step : Storing stamp n goal (onto (good (get_or vs i 0)) x (taken_from width (length vs) vs ls (i + 1))) b used
      step = rw p (rw (taken_step width (length vs) vs ls i h h) at s)

      pub storing_ready : Ready (good (get_or vs i 0)) stamp x b used
      storing_ready = on_ready (good (get_or vs i 0)) x _ step

      pub storing_turn : (b' : List ℕ) (r : ℕ) → Left (slots_in b) (stored_if (good (get_or vs i 0)) (slot_of stamp x) (records b)) b' r
          → Storing stamp n goal (taken_from width (length vs) vs ls (i + 1)) b' r
      storing_turn = on_turn (good (get_or vs i 0)) x _ step

-- what is told of the lines behind stays as it is
pub standing_left : (width : ℕ) (vs ls : List ℕ) (n : ℕ) (found : List ℕ) (i : ℕ) (b : List ℕ) → Standing width vs ls n (records b) found i → i < length vs → (x : List ℕ) → x ≡ part_at width i ls
    → (stamp : List ℕ) (used : ℕ) → Ready (good (get_or vs i 0)) stamp x b used
    → (b' : List ℕ) (r : ℕ) → Left (slots_in b) (stored_if (good (get_or vs i 0)) (slot_of stamp x) (records b)) b' r → Standing width vs ls n (records b') found (i + 1)
standing_left width vs ls n found i b s h x p stamp used y b' r w =
    rw w.holds.held
    (standing_turn width vs ls n (records b) found i s h (good (get_or vs i 0)) refl (slot_of stamp x) (λ e. (slot_makes stamp x (y.line e)).pan ∙ ap pan_of p))

-- ---- before the first

module _ (stamp b : List ℕ) (first told width : ℕ) (lines vs found : List ℕ) (c : CanStore stamp b first told width lines vs found) where
  abbrev ls : List (List ℕ)
  ls = pick good vs (chop width (length vs) lines)

  pub can_start : Storing stamp (slots_in b) (stored_all (records b) (map (slot_of stamp) ls)) ls b first
  can_start =
      record { order = c.order; counted = c.counted; many = refl; lined = c.lined; leads = refl; room = c.room }

  pub standing_start : Standing width vs lines told (records b) found 0
  standing_start =
      record {
        fewer = omega (arith, c.known, c.counted);
        apart = rw (← taken_start width (length vs) vs lines) c.apart;
        stands = λ j k m g. c.placed j m g;
      }
