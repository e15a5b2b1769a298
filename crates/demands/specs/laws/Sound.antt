-- What the provider's side needs of the verdicts of an accepted file, and that they have it whatever limits of weight judged its lines.
-- Assumes nothing.
use Rattle.std.specs.Prelude.{◌≡◌, Bool, true, false, ◌&&◌, ℕ, ◌≤◌, length}
use Rattle.std.proofs.Math.Path.{refl}
use Rattle.std.proofs.Common.{sym, ◌∙◌, arith}
use mathlib.Core.List.{List, [], ◌∷◌, ◌++◌, map, map-map}
use Rattle.theory.specs.First.{◌if◌, first, choose}
use Rattle.theory.specs.laws.First.{first_append, numbered, otherwise_none, unchosen}
use Rattle.theory.specs.Same.{mem}
use Rattle.theory.specs.Each.{Each}
use Rattle.theory.specs.laws.Each.{each_map, each_both, map_fixed}
use Rattle.theory.specs.laws.Truth.{and_left}
use Rattle.theory.specs.Walk.{some}
use Rattle.theory.specs.laws.Walk.{each_passes}
use Rattle.theory.specs.Every.{run}
use Rattle.fields.specs.Field.{digit}
use Rattle.theory.specs.Distinct.{distinct}
use Rattle.theory.specs.Scan.{scan}
use Rattle.theory.specs.Pick.{bad}
use Rattle.theory.specs.Firsts.{firsts}
use Rattle.theory.specs.laws.Scan.{some_key, length_scan, each_verdict, each_scan, distinct_scan}
use Rattle.columns.specs.Columns.{text, pan_of}
use Rattle.weights.specs.Weights.{weight_holds}
use Rattle.vehicles.specs.Vehicle.{vehicle_holds}
use Rattle.lines.specs.Rules.{rules_by, line_rules, record_holds, L2, L10}
use Rattle.lines.specs.laws.Faultless.{passes_record}
use Rattle.records.specs.Slot.{slot_of}
use Rattle.records.specs.laws.Stamped.{each_storable}
use Rattle.hgv.specs.Layout.{width_of, lines_in, lines_of}
use Rattle.hgv.specs.laws.Layout.{width_has, length_lines, each_line}
use Rattle.frames.specs.Frames.{framed, frames_hold}
use Rattle.frames.specs.laws.Frames.{framed_is}
use Rattle.header.specs.Header.{sender, list_sequence}
use Rattle.header.specs.laws.Header.{header_sender, header_list}
use Rattle.slots.specs.Slots.{slots_in, records}
use Rattle.slots.specs.Search.{holds_pan, of_actor, held_by_another}
use Rattle.verdicts.specs.Verdict.{taken, own_rules, verdict_rules, verdict, verdicts_of, file_verdicts}
use Rattle.upkeep.specs.laws.Makes.{each_makes}
use Rattle.applying.specs.Fit.{Fit}
use Rattle.imports.specs.Handed.{Handed}
use Rattle.imports.specs.Import.{file_stamp, judged, following}
use Rattle.imports.specs.laws.Numbers.{Formed, formed_received}
use Rattle.pairing.specs.laws.Faithful.{Judges, lines_first}
use Rattle.receipts.specs.Receipt.{texts_of}
use Rattle.demands.specs.Weighed.{L10Under, rules_under, verdict_under, judged_under, following_by}
use Rattle.demands.specs.laws.Reasons.{named, verdict_with, with_named, with_most}

-- vs, as the verdicts of a file in form, for which there is room
pub record Sound (f : Handed) (register vs : List ℕ) : Type 0 where
  pub formed : Formed f register
  pub for_each : length vs ≡ lines_in f.hgv
  -- of equal texts only the first was taken, or none
  pub firsts_taken : firsts (texts_of f.hgv) vs ≡ true
  -- each reason is one that an HGC may name
  pub named_each : Each (λ v. bad v ≡ true → named v ≡ true) vs
  pub most_each : Each (λ v. v ≤ 12) vs
  -- the taken lines are the sender's, meet the rules of a record, differ in their PANs, and no other actor holds those
  pub his : Each (λ l. of_actor (sender f.hgv) l ≡ true) (taken vs f.hgv)
  pub hold : Each (λ l. record_holds l ≡ true) (taken vs f.hgv)
  pub apart : distinct (map pan_of (taken vs f.hgv)) ≡ true
  pub free : Each (λ l. held_by_another (pan_of l) (sender f.hgv) (records register) ≡ false) (taken vs f.hgv)
  pub room : length (following_by vs f register) ≤ slots_in register

-- they fit the register
pub fit : (f : Handed) (register vs : List ℕ) → Sound f register vs → Fit f.mode (sender f.hgv) (slot_of (file_stamp f)) (slots_in register) (records register) (taken vs f.hgv)
unfolding following_by
fit f register vs s =
    record {
      made = each_makes (file_stamp f) (each_storable (sender f.hgv) (list_sequence f.hgv) f.reception (header_list f.hgv s.formed.headed) (formed_received f register s.formed) s.his s.hold);
      apart = s.apart;
      free = s.free;
      room = s.room;
    }

-- ---- lines in their frames are made of their texts

-- the line that has this text
unfoldable line : List ℕ → List ℕ
line t = 49 ∷ (t ++ (10 ∷ []))

line_is : (w : ℕ) → 3 ≤ w → (l : List ℕ) → (framed w l ≡ true) × (length l ≡ w) → line (text w l) ≡ l
unfolding line
line_is w o l (f, n) = sym (framed_is w l f n o)

lines_made : (h : List ℕ) → frames_hold h ≡ true → map line (texts_of h) ≡ lines_of h
unfolding frames_hold texts_of
lines_made h f =
    let w : ℕ = width_of h in
    map-map line (text w) (lines_of h) ∙ map_fixed (λ l. line (text w l)) (each_map (line_is w (width_has h 3 (omega arith))) (each_both (each_passes (framed w) (lines_of h) f) (each_line h)))

-- ---- a line's verdict, with any test in the place of L10

module _ (h : List ℕ → Bool) (rows from : List ℕ) (R : List (List ℕ)) where
  -- L1 to L11
  abbrev own : List ℕ → ℕ
  own l = first (rules_by (h l) rows from l ++ (4 if held_by_another (pan_of l) from R) ∷ [])

  -- the line's own fault, and then its PAN among the lines taken before
  judges : Judges own pan_of (verdict_with h rows from R)
  unfolding Judges holds_pan verdict_with rules_by numbered first
  judges ts l =
      first_append (rules_by (h l) rows from l ++ (4 if held_by_another (pan_of l) from R) ∷ []) ((1 if some (holds_pan (pan_of l)) ts) ∷ []) refl
      ∙ rw (← some_key pan_of (pan_of l) ts)

  -- what a line without fault of its own has
  module _ (l : List ℕ) (e : own l ≡ 0) where
    parts : (first (rules_by (h l) rows from l) ≡ 0) × (choose (held_by_another (pan_of l) from R) 4 0 ≡ 0)
    unfolding rules_by numbered first
    parts =
        otherwise_none (first (rules_by (h l) rows from l)) _
        (sym (first_append (rules_by (h l) rows from l) ((4 if held_by_another (pan_of l) from R) ∷ []) refl) ∙ e)

    own_free : held_by_another (pan_of l) from R ≡ false
    own_free = unchosen _ 3 parts.1

    own_record : (h l ≡ true → vehicle_holds l ≡ true) → run digit 6 from ≡ true → (L2 from l ≡ true) × (record_holds l ≡ true)
    own_record k d = passes_record rows from l (h l) k d parts.0

  -- a taken line has no fault of its own, and no line taken before it has its PAN
  module _ (ts : List (List ℕ)) (l : List ℕ) (v : verdict_with h rows from R ts l ≡ 0) where
    apart_own : (own l ≡ 0) × (choose (mem (pan_of l) (map pan_of ts)) 1 0 ≡ 0)
    unfolding Judges
    apart_own = otherwise_none (own l) _ (sym (judges ts l) ∙ v)

    taken_first : mem (pan_of l) (map pan_of ts) ≡ false
    taken_first = unchosen _ 0 apart_own.1

-- ---- the verdicts of the file

-- by a test that asks for the vehicle's fields
module _ (h : List ℕ → Bool) (k : (l : List ℕ) → h l ≡ true → vehicle_holds l ≡ true) (f : Handed) (register : List ℕ) (c : Formed f register) where
  abbrev from : List ℕ
  from = sender f.hgv

  abbrev judge : List (List ℕ) → List ℕ → ℕ
  judge = verdict_with h f.rows from (records register)

  abbrev vs : List ℕ
  vs = scan judge [] (lines_of f.hgv)

  taken_records : Each (λ l. (L2 from l ≡ true) × (record_holds l ≡ true)) (taken vs f.hgv)
  unfolding taken
  taken_records =
      each_scan judge
      (λ ts l v. own_record h f.rows from (records register) l (apart_own h f.rows from (records register) ts l v).0 (k l) (header_sender f.hgv c.headed))
      [] (lines_of f.hgv)

  pub sound_with : length (following_by vs f register) ≤ slots_in register → Sound f register vs
  unfolding taken of_actor L2 distinct
  sound_with r =
      record {
        formed = c;
        for_each = length_scan judge [] (lines_of f.hgv) ∙ length_lines f.hgv;
        firsts_taken =
            rw (← lines_made f.hgv c.framed)
            (lines_first judge line (own h f.rows from (records register)) pan_of (judges h f.rows from (records register)) (texts_of f.hgv));
        named_each = each_verdict judge (λ ts l. with_named h f.rows from (records register) ts l) [] (lines_of f.hgv);
        most_each = each_verdict judge (λ ts l. with_most h f.rows from (records register) ts l) [] (lines_of f.hgv);
        his = each_map (λ l k. k.0) taken_records;
        hold = each_map (λ l k. k.1) taken_records;
        apart = distinct_scan judge pan_of (λ ts l v. taken_first h f.rows from (records register) ts l v) [] (lines_of f.hgv) refl;
        free = each_scan judge (λ ts l v. own_free h f.rows from (records register) l (apart_own h f.rows from (records register) ts l v).0) [] (lines_of f.hgv);
        room = r;
      }

-- under any limits of weight
pub sound : (limit : List ℕ → Bool) (f : Handed) (register : List ℕ) → Formed f register
    → length (following_by (judged_under limit f register) f register) ≤ slots_in register → Sound f register (judged_under limit f register)
unfolding judged_under verdict_under rules_under verdict_with L10Under
sound limit f register = sound_with (λ l. vehicle_holds l && limit l) (λ l. and_left (vehicle_holds l) (limit l)) f register

-- and as the import judges
pub sound_today : (f : Handed) (register : List ℕ) → Formed f register → length (following f register) ≤ slots_in register → Sound f register (judged register f.rows f.hgv)
unfolding following following_by judged file_verdicts verdicts_of verdict verdict_rules own_rules line_rules L10 rules_by verdict_with
sound_today f register = sound_with (λ l. vehicle_holds l && weight_holds l) (λ l. and_left (vehicle_holds l) (weight_holds l)) f register
