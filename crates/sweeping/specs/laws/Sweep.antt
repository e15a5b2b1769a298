-- What goes is what is not active; the numbers of a sweep, and the register after it, of any outcome that the contract admits.
-- Assumes nothing.
use Rattle.std.specs.Prelude.{◌≡◌, Bool, true, false, not, ◌&&◌, ◌||◌, List, ℕ, ◌+◌, length}
use Rattle.std.proofs.Math.Path.{refl, ap}
use Rattle.std.proofs.Common.{sym, ◌∙◌}
use Rattle.std.proofs.lemmas.Bool.{not-false}
use Rattle.theory.specs.First.{Decided, None, more, none}
use Rattle.theory.specs.laws.First.{decided, first_clear, numbered}
use Rattle.theory.specs.laws.Stopped.{at_stop, at_success}
use Rattle.theory.specs.Every.{run}
use Rattle.theory.specs.Keep.{sift}
use Rattle.theory.specs.laws.Keep.{sift_counts, sift_rest, sift_same}
use Rattle.sizes.specs.Sizes.{time_length}
use Rattle.fields.specs.Field.{zero_digit}
use Rattle.times.specs.Time.{real_time}
use Rattle.times.specs.Order.{earlier}
use Rattle.columns.specs.Columns.{valid_to}
use Rattle.lines.specs.End.{active}
use Rattle.slots.specs.Slots.{slots_in, records}
use Rattle.register.specs.Register.{in_order}
use Rattle.upkeep.specs.Holds.{Holds}
use Rattle.upkeep.specs.laws.Stays.{as_it_is}
use Rattle.removing.specs.laws.Marks.{holds_without}
use Rattle.sweeping.specs.Swept.{Swept}
use Rattle.sweeping.specs.Sweep.{ended, going, staying, sweep_stops, sweep_number, sweep_answer, swept_bytes, register_swept}
use Rattle.sweeping.specs.Promises.{Sweep}

-- ---- a record

not_not : (b : Bool) → not (not b) ≡ b
not_not true = refl
not_not false = refl

neither : (z e : Bool) → not z && not e ≡ not (z || e)
neither true e = refl
neither false e = refl

-- it goes exactly where it is not active
pub ended_is : (t r : List ℕ) → ended t r ≡ not (active t r)
unfolding ended active
ended_is t r = neither (run zero_digit time_length (valid_to r)) (earlier t (valid_to r))

pub stays_active : (t r : List ℕ) → active t r ≡ true → ended t r ≡ false
unfolding ended active
stays_active t r h = neither (run zero_digit time_length (valid_to r)) (earlier t (valid_to r)) ∙ ap not h

pub goes_inactive : (t r : List ℕ) → active t r ≡ false → ended t r ≡ true
unfolding ended active
goes_inactive t r h = neither (run zero_digit time_length (valid_to r)) (earlier t (valid_to r)) ∙ ap not h

-- ---- the records

-- each goes or stays
pub goes_or_stays : (t : List ℕ) (R : List (List ℕ)) → length (going t R) + length (staying t R) ≡ length R
unfolding going staying
goes_or_stays t R = sift_counts (ended t) R

-- those that are active stay,
pub staying_active : (t : List ℕ) (R : List (List ℕ)) → staying t R ≡ sift (active t) R
unfolding staying ended active
staying_active t R =
    sift_same (λ r. not (ended t r)) (active t) (λ r. ap not (neither (run zero_digit time_length (valid_to r)) (earlier t (valid_to r))) ∙ not_not (active t r)) R

-- and the others go
pub going_inactive : (t : List ℕ) (R : List (List ℕ)) → going t R ≡ sift (λ r. not (active t r)) R
unfolding going ended active
going_inactive t R =
    sift_same (ended t) (λ r. not (active t r)) (λ r. neither (run zero_digit time_length (valid_to r)) (earlier t (valid_to r))) R

-- where none goes all stay
pub none_goes : (t : List ℕ) (R : List (List ℕ)) → length (going t R) ≡ 0 → staying t R ≡ R
unfolding going staying
none_goes t R = sift_rest (ended t) R

-- ---- the call

-- where the number is 0, neither 22 nor 23 holds
pub sweep_clear : (t b : List ℕ) → sweep_number t b ≡ 0 → (real_time t ≡ true) × (in_order b ≡ true)
unfolding sweep_number sweep_stops numbered
sweep_clear t b z = go (first_clear (sweep_stops t b) refl z)
  where
    go : None (sweep_stops t b) → (real_time t ≡ true) × (in_order b ≡ true)
    go (more h (more k none)) = (not-false (real_time t) h, not-false (in_order b) k)

module _ (t register : List ℕ) (r : Swept) (b : List ℕ) (o : Sweep t register r b) where
  pub sweep_number_lem : r.number ≡ sweep_number t register
  unfolding Sweep sweep_answer
  sweep_number_lem = ap (λ (s : Swept). s.number) o.0

  pub sweep_decided : Decided (sweep_stops t register) r.number
  unfolding sweep_number sweep_stops numbered
  sweep_decided = decided (sweep_stops t register) refl r.number sweep_number_lem

  -- a refusal has no count, and leaves the register
  pub sweep_refused : (r.number ≡ 0 → ⊥) → (r ≡ record { number = r.number; removed = 0 }) × (b ≡ register)
  unfolding Sweep sweep_answer register_swept
  sweep_refused k =
      let stop : sweep_number t register ≡ 0 → ⊥ = λ z. k (sweep_number_lem ∙ z) in
      (o.0 ∙ rw (at_stop (sweep_number t register) (length (going t (records register))) 0 stop, sweep_number_lem), o.1 ∙ at_stop (sweep_number t register) (swept_bytes t register) register stop)

  module _ (z : r.number ≡ 0) where
    clear : sweep_number t register ≡ 0
    clear = sym sweep_number_lem ∙ z

    -- 22 and 23 do not hold
    pub sweep_real : real_time t ≡ true
    sweep_real = (sweep_clear t register clear).0

    pub sweep_ordered : in_order register ≡ true
    sweep_ordered = (sweep_clear t register clear).1

    -- it says how many go
    pub sweep_counts : r.removed ≡ length (going t (records register))
    unfolding Sweep sweep_answer
    sweep_counts = ap (λ (s : Swept). s.removed) o.0 ∙ at_success (sweep_number t register) (length (going t (records register))) 0 clear

    -- and the register holds the others
    pub sweep_holds : Holds (slots_in register) (staying t (records register)) b
    unfolding Sweep register_swept swept_bytes staying
    sweep_holds =
        rw (o.1, at_success (sweep_number t register) (swept_bytes t register) register clear)
        (holds_without (ended t) (slots_in register) (records register) register (as_it_is register sweep_ordered))
