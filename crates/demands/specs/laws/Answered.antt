-- What any outcome of reading back, of an update and of a lookup has: its number is that of the first stop that holds; at a stop
-- zero counts, and every lent byte as it was. Assumes nothing.
use Rattle.std.specs.Prelude.{◌≡◌, List, ◌++◌, ℕ}
use Rattle.std.proofs.Math.Path.{refl, sym, ap}
use Rattle.std.proofs.Common.{◌∙◌}
use Rattle.theory.specs.First.{Decided}
use Rattle.theory.specs.laws.First.{decided, numbered}
use Rattle.theory.specs.laws.Stopped.{number_kept}
use Rattle.lookups.specs.Lookup.{pan_rules, pan_number, plate_rules, plate_number}
use Rattle.lookups.specs.Promises.{ByPan, ByPlate}
use Rattle.provider.specs.Counted.{Counted}
use Rattle.provider.specs.Answer.{stop_counts, success_counts}
use Rattle.reading.specs.ReadBack.{hgv_stops, block_stops, read_number, read_answer}
use Rattle.updating.specs.Sent.{Sent}
use Rattle.copies.specs.Copy.{copy_stops}
use Rattle.updating.specs.Update.{receipt_stops, update_number, update_answer}
use Rattle.reading.specs.Promises.{ReadBack}
use Rattle.updating.specs.Promises.{Update}
use Rattle.reading.specs.laws.Numbers.{read_refused, verdicts_stay}
use Rattle.updating.specs.laws.Numbers.{update_refused, copy_stays}

-- ---- reading back

module _ (h g block : List ℕ) (r : Counted) (v : List ℕ) (o : ReadBack h g block r v) where
  read_is : r.number ≡ read_number h g block
  unfolding ReadBack read_answer success_counts stop_counts
  read_is = ap (λ (a : Counted). a.number) o.0 ∙ number_kept (λ (a : Counted). a.number) (read_number h g block) (success_counts h g) (stop_counts (read_number h g block)) refl refl

  pub read_decided : Decided (hgv_stops h ++ block_stops h g block) r.number
  unfolding read_number hgv_stops block_stops numbered
  read_decided = decided (hgv_stops h ++ block_stops h g block) refl r.number read_is

  pub read_refusal : (r.number ≡ 0 → ⊥) → (r ≡ record { number = r.number; taken = 0; rejected = 0 }) × (v ≡ block)
  unfolding ReadBack stop_counts
  read_refusal k = (o.0 ∙ sym (read_refused h g block r.number read_is k), o.1 ∙ sym (verdicts_stay h g block r.number read_is k))

-- ---- the update

module _ (s : Sent) (copy : List ℕ) (r : Counted) (c : List ℕ) (o : Update s copy r c) where
  pub update_is : r.number ≡ update_number s copy
  unfolding Update update_answer success_counts stop_counts
  update_is = ap (λ (a : Counted). a.number) o.0 ∙ number_kept (λ (a : Counted). a.number) (update_number s copy) (success_counts s.hgv s.hgc) (stop_counts (update_number s copy)) refl refl

  pub update_decided : Decided (copy_stops s.mode copy s.hgv ++ receipt_stops s copy) r.number
  unfolding update_number copy_stops receipt_stops numbered
  update_decided = decided (copy_stops s.mode copy s.hgv ++ receipt_stops s copy) refl r.number update_is

  pub update_refusal : (r.number ≡ 0 → ⊥) → (r ≡ record { number = r.number; taken = 0; rejected = 0 }) × (c ≡ copy)
  unfolding Update stop_counts
  update_refusal k = (o.0 ∙ sym (update_refused s.mode s.offset copy s.hgv s.hgc r.number update_is k), o.1 ∙ sym (copy_stays s.mode s.offset copy s.hgv s.hgc r.number update_is k))

-- ---- the lookups

pub pan_decided : (b key part : List ℕ) (number : ℕ) → ByPan b key part number → Decided (pan_rules b key) number
unfolding pan_number pan_rules numbered
pan_decided b key part number o = decided (pan_rules b key) refl number o.0

pub plate_decided : (b p n t part : List ℕ) (number : ℕ) → ByPlate b p n t part number → Decided (plate_rules b p n t) number
unfolding plate_number plate_rules numbered
plate_decided b p n t part number o = decided (plate_rules b p n t) refl number o.0
