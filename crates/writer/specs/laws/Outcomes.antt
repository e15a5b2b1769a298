-- Two outcomes of one call are one, for the public function of this crate. Assumes nothing.
use Rattle.std.specs.Prelude.{◌≡◌, Result, Ok, Err, List, ℕ}
use Rattle.std.proofs.Common.{refl, sym, ap}
use Rattle.theory.specs.laws.Outcome.{one_outcome}
use Rattle.rules.specs.declared.refusal.Refusal.{Refusal}
use Rattle.rules.specs.Numbers.{refusal_number}
use Rattle.rules.specs.laws.Numbers.{refusal_some, refusal_alone}
use Rattle.writer.specs.Written.{Written, told}
use Rattle.writer.specs.Given.{Given}
use Rattle.writer.specs.Hgv.{unwritten}
use Rattle.writer.specs.Promises.{WriteHgv}

pub write_hgv_one : (g : Given) (out : List ℕ) (r s : Written) (x y : List ℕ) → WriteHgv g out r x → WriteHgv g out s y → (r ≡ s) × (x ≡ y)
unfolding WriteHgv
write_hgv_one g out r s x y u v = (one_outcome u.0 v.0, one_outcome u.1 v.1)

-- a refusal is told by its number, and no length
pub told_refused : (f : Refusal) → told (Err f) ≡ unwritten (refusal_number f)
unfolding unwritten
told_refused f = refl

-- what is told says which answer it was
pub told_one : (r s : Result ℕ Refusal) → told r ≡ told s → r ≡ s
told_one (Ok k) (Ok l) e = ap Ok (ap (λ (w : Written). w.length) e)
told_one (Ok k) (Err b) e = absurd (refusal_some b (sym (ap (λ (w : Written). w.number) e)))
told_one (Err a) (Ok l) e = absurd (refusal_some a (ap (λ (w : Written). w.number) e))
told_one (Err a) (Err b) e = ap Err (refusal_alone a b (ap (λ (w : Written). w.number) e))

-- so two answers of one call are one as well
pub write_hgv_told_one : (g : Given) (out : List ℕ) (r s : Result ℕ Refusal) (x y : List ℕ) → WriteHgv g out (told r) x → WriteHgv g out (told s) y → (r ≡ s) × (x ≡ y)
write_hgv_told_one g out r s x y u v =
    let e = write_hgv_one g out (told r) (told s) x y u v in
    (told_one r s e.0, e.1)
