-- Two outcomes of one call are one, for each public function of this crate. Assumes nothing.
use Rattle.std.specs.Prelude.{◌≡◌, Bool, Result, List, ℕ}
use Rattle.theory.specs.First.{choose}
use Rattle.theory.specs.laws.Outcome.{one_outcome}
use Rattle.rules.specs.declared.refusal.Refusal.{Refusal}
use Rattle.rules.specs.Numbers.{answer_number}
use Rattle.rules.specs.laws.Numbers.{answer_alone}
use Rattle.stops.specs.Promises.{IsMode, IsFullWith220001, FormStop, IndexedFormStop}

pub is_mode_one : (mode : ℕ) (r s : Bool) → IsMode mode r → IsMode mode s → r ≡ s
is_mode_one mode r s = one_outcome

pub is_full_with_220001_one : (mode : ℕ) (h : List ℕ) (r s : Bool) → IsFullWith220001 mode h r → IsFullWith220001 mode h s → r ≡ s
is_full_with_220001_one mode h r s = one_outcome

pub form_stop_one : (mode : ℕ) (timed : Bool) (register rows h : List ℕ) (r s : ℕ)
    → FormStop mode timed register rows h r → FormStop mode timed register rows h s → r ≡ s
form_stop_one mode timed register rows h r s = one_outcome

pub indexed_form_stop_one : (mode : ℕ) (timed : Bool) (register rows : List ℕ) (k : ℕ) (h : List ℕ) (r s : ℕ)
    → IndexedFormStop mode timed register rows k h r → IndexedFormStop mode timed register rows k h s → r ≡ s
indexed_form_stop_one mode timed register rows k h r s = one_outcome

-- so two answers of one call are one as well
pub form_stop_answer_one : (mode : ℕ) (timed : Bool) (register rows h : List ℕ) (r s : Result Unit Refusal)
    → FormStop mode timed register rows h (answer_number r) → FormStop mode timed register rows h (answer_number s) → r ≡ s
form_stop_answer_one mode timed register rows h r s o q = answer_alone r s (form_stop_one mode timed register rows h _ _ o q)

pub indexed_form_stop_answer_one : (mode : ℕ) (timed : Bool) (register rows : List ℕ) (k : ℕ) (h : List ℕ) (r s : Result Unit Refusal)
    → IndexedFormStop mode timed register rows k h (answer_number r) → IndexedFormStop mode timed register rows k h (answer_number s) → r ≡ s
indexed_form_stop_answer_one mode timed register rows k h r s o q = answer_alone r s (indexed_form_stop_one mode timed register rows k h _ _ o q)

-- ---- one rule of a list with numbers, in front of what the later ones say

-- the number where the rule fits, else what the later rules say
abbrev pub First : Bool → ℕ → ℕ → ℕ → Type 0
First fits number later r = r ≡ choose fits number later

pub first_one : (fits : Bool) (number later r s : ℕ) → First fits number later r → First fits number later s → r ≡ s
first_one fits number later r s = one_outcome
