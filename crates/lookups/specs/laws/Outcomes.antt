-- Two outcomes of one call are one, for each public function of this crate: what each tells; and its result, since no two are told
-- alike. Assumes nothing.
use Rattle.std.specs.Prelude.{◌≡◌, Result, Ok, Err, List, [], ℕ}
use Rattle.std.specs.Borrow.{Bor}
use Rattle.std.proofs.Common.{ap, sym, ◌∙◌}
use Rattle.theory.specs.laws.Outcome.{one_outcome}
use Rattle.rules.specs.declared.refusal.Refusal.{Refusal}
use Rattle.rules.specs.Numbers.{refusal_number, answer_number}
use Rattle.rules.specs.laws.Numbers.{refusal_some, refusal_alone}
use Rattle.lookups.specs.Lookup.{Found, told, lent}
use Rattle.lookups.specs.Promises.{FindByPan, ByPan, FindByPlate, ByPlate}

pub find_by_pan_one : (b key : List ℕ) (r s : Found) → FindByPan b key r → FindByPan b key s → r ≡ s
find_by_pan_one b key r s = one_outcome

pub by_pan_one : (b key : List ℕ) (part part' : List ℕ) (number number' : ℕ)
    → ByPan b key part number → ByPan b key part' number' → (part ≡ part') × (number ≡ number')
by_pan_one b key part part' number number' h k = (one_outcome h.1 k.1, one_outcome h.0 k.0)

pub find_by_plate_one : (b p n t : List ℕ) (r s : Found) → FindByPlate b p n t r → FindByPlate b p n t s → r ≡ s
find_by_plate_one b p n t r s = one_outcome

pub by_plate_one : (b p n t : List ℕ) (part part' : List ℕ) (number number' : ℕ)
    → ByPlate b p n t part number → ByPlate b p n t part' number' → (part ≡ part') × (number ≡ number')
by_plate_one b p n t part part' number number' h k = (one_outcome h.1 k.1, one_outcome h.0 k.0)

-- ---- the results

-- what is told says which answer it was
pub told_one : (r s : Result ℕ Refusal) → told r ≡ told s → r ≡ s
told_one (Ok i) (Ok k) e = ap Ok (ap (λ (f : Found). f.place) e)
told_one (Ok i) (Err b) e = absurd (refusal_some b (sym (ap (λ (f : Found). f.number) e)))
told_one (Err a) (Ok k) e = absurd (refusal_some a (ap (λ (f : Found). f.number) e))
told_one (Err a) (Err b) e = ap Err (refusal_alone a b (ap (λ (f : Found). f.number) e))

pub find_by_pan_told_one : (b key : List ℕ) (r s : Result ℕ Refusal) → FindByPan b key (told r) → FindByPan b key (told s) → r ≡ s
find_by_pan_told_one b key r s h k = told_one r s (find_by_pan_one b key (told r) (told s) h k)

pub find_by_plate_told_one : (b p n t : List ℕ) (r s : Result ℕ Refusal) → FindByPlate b p n t (told r) → FindByPlate b p n t (told s) → r ≡ s
find_by_plate_told_one b p n t r s h k = told_one r s (find_by_plate_one b p n t (told r) (told s) h k)

-- a refusal's number is told by that refusal alone
refused_alone : {A : Type 0} (x : Refusal) (s : Result A Refusal) → refusal_number x ≡ answer_number s → s ≡ Err x
refused_alone x (Ok _) e = absurd (refusal_some x e)
refused_alone x (Err y) e = ap Err (refusal_alone y x (sym e))

-- where a slot is lent, the other outcome lends the same bytes; where one is refused, the other is refused alike
pub by_pan_lent_one : (b key : List ℕ) (r s : Result (Bor (List ℕ)) Refusal) → ByPan b key (lent r) (answer_number r) → ByPan b key (lent s) (answer_number s)
    → lent r ≡ lent s
by_pan_lent_one b key r s h k = (by_pan_one b key (lent r) (lent s) (answer_number r) (answer_number s) h k).0

pub by_pan_refused_one : (b key : List ℕ) (x : Refusal) (s : Result (Bor (List ℕ)) Refusal) → ByPan b key [] (refusal_number x)
    → ByPan b key (lent s) (answer_number s) → s ≡ Err x
by_pan_refused_one b key x s h k = refused_alone x s (by_pan_one b key [] (lent s) (refusal_number x) (answer_number s) h k).1

pub by_plate_lent_one : (b p n t : List ℕ) (r s : Result (Bor (List ℕ)) Refusal) → ByPlate b p n t (lent r) (answer_number r)
    → ByPlate b p n t (lent s) (answer_number s) → lent r ≡ lent s
by_plate_lent_one b p n t r s h k = (by_plate_one b p n t (lent r) (lent s) (answer_number r) (answer_number s) h k).0

pub by_plate_refused_one : (b p n t : List ℕ) (x : Refusal) (s : Result (Bor (List ℕ)) Refusal) → ByPlate b p n t [] (refusal_number x)
    → ByPlate b p n t (lent s) (answer_number s) → s ≡ Err x
by_plate_refused_one b p n t x s h k = refused_alone x s (by_plate_one b p n t [] (lent s) (refusal_number x) (answer_number s) h k).1
