-- Laws of the definition's numbers: none is 0, and no two of one kind are alike. Assumes nothing.
use Rattle.std.specs.Prelude.{◌≡◌, ◌≢◌, Bool, true, false, Option, Some, None, Result, Ok, Err, ℕ, cond, eqb}
use Rattle.std.proofs.Common.{refl, sym, ap, ◌∙◌}
use native.Mathlib.Omega.{arith}
use Rattle.rules.specs.declared.reason.Reason.{Reason}
use Rattle.rules.specs.declared.reason.Reason.TheVariants as reason
use Rattle.rules.specs.declared.refusal.Refusal.{Refusal}
use Rattle.rules.specs.declared.refusal.Refusal.TheVariants as refusal
use Rattle.rules.specs.Numbers.{reason_number, refusal_number, verdict_number, answer_number, required}

pub reason_some : (r : Reason) → reason_number r ≢ 0
reason_some reason.Duplicate e = absurd (omega (arith, e))
reason_some reason.Luhn e = absurd (omega (arith, e))
reason_some reason.Digits e = absurd (omega (arith, e))
reason_some reason.Range e = absurd (omega (arith, e))
reason_some reason.Obe e = absurd (omega (arith, e))
reason_some reason.NationalityMissing e = absurd (omega (arith, e))
reason_some reason.ContextMark e = absurd (omega (arith, e))
reason_some reason.Plate e = absurd (omega (arith, e))
reason_some reason.Miscellaneous e = absurd (omega (arith, e))

pub refusal_some : (r : Refusal) → refusal_number r ≢ 0
refusal_some refusal.Mode e = absurd (omega (arith, e))
refusal_some refusal.Time e = absurd (omega (arith, e))
refusal_some refusal.Order e = absurd (omega (arith, e))
refusal_some refusal.Rows e = absurd (omega (arith, e))
refusal_some refusal.HgvLength e = absurd (omega (arith, e))
refusal_some refusal.Header e = absurd (omega (arith, e))
refusal_some refusal.Version e = absurd (omega (arith, e))
refusal_some refusal.FullVersion e = absurd (omega (arith, e))
refusal_some refusal.Parties e = absurd (omega (arith, e))
refusal_some refusal.Count e = absurd (omega (arith, e))
refusal_some refusal.Footer e = absurd (omega (arith, e))
refusal_some refusal.Frame e = absurd (omega (arith, e))
refusal_some refusal.Slots e = absurd (omega (arith, e))
refusal_some refusal.HgcBuffer e = absurd (omega (arith, e))
refusal_some refusal.ThinList e = absurd (omega (arith, e))
refusal_some refusal.Index e = absurd (omega (arith, e))
refusal_some refusal.Key e = absurd (omega (arith, e))
refusal_some refusal.NoRecord e = absurd (omega (arith, e))
refusal_some refusal.SeveralRecords e = absurd (omega (arith, e))
refusal_some refusal.OtherActor e = absurd (omega (arith, e))
refusal_some refusal.Hgc e = absurd (omega (arith, e))
refusal_some refusal.VerdictBlock e = absurd (omega (arith, e))
refusal_some refusal.Given e = absurd (omega (arith, e))
refusal_some refusal.SamePan e = absurd (omega (arith, e))
refusal_some refusal.HgvBuffer e = absurd (omega (arith, e))

-- what an option holds, or else d
abbrev inner : {A : Type 0} → A → Option A → A
inner d None = d
inner d (Some x) = x

-- the reason with this number
unfoldable pub reason_of : ℕ → Option Reason
reason_of n =
    cond (eqb n 1) (Some reason.Duplicate) (
    cond (eqb n 2) (Some reason.Luhn) (
    cond (eqb n 3) (Some reason.Digits) (
    cond (eqb n 4) (Some reason.Range) (
    cond (eqb n 5) (Some reason.Obe) (
    cond (eqb n 6) (Some reason.NationalityMissing) (
    cond (eqb n 8) (Some reason.ContextMark) (
    cond (eqb n 9) (Some reason.Plate) (
    cond (eqb n 12) (Some reason.Miscellaneous) (
    None)))))))))

pub reason_back : (r : Reason) → reason_of (reason_number r) ≡ Some r
unfolding reason_of
reason_back reason.Duplicate = refl
reason_back reason.Luhn = refl
reason_back reason.Digits = refl
reason_back reason.Range = refl
reason_back reason.Obe = refl
reason_back reason.NationalityMissing = refl
reason_back reason.ContextMark = refl
reason_back reason.Plate = refl
reason_back reason.Miscellaneous = refl

-- no two have one number
pub reason_alone : (r s : Reason) → reason_number r ≡ reason_number s → r ≡ s
reason_alone r s e = ap (inner r) (sym (reason_back r) ∙ ap reason_of e ∙ reason_back s)

-- the refusal with this number
unfoldable pub refusal_of : ℕ → Option Refusal
refusal_of n =
    cond (eqb n 21) (Some refusal.Mode) (
    cond (eqb n 22) (Some refusal.Time) (
    cond (eqb n 23) (Some refusal.Order) (
    cond (eqb n 24) (Some refusal.Rows) (
    cond (eqb n 25) (Some refusal.HgvLength) (
    cond (eqb n 26) (Some refusal.Header) (
    cond (eqb n 27) (Some refusal.Version) (
    cond (eqb n 28) (Some refusal.FullVersion) (
    cond (eqb n 29) (Some refusal.Parties) (
    cond (eqb n 30) (Some refusal.Count) (
    cond (eqb n 31) (Some refusal.Footer) (
    cond (eqb n 32) (Some refusal.Frame) (
    cond (eqb n 33) (Some refusal.Slots) (
    cond (eqb n 34) (Some refusal.HgcBuffer) (
    cond (eqb n 35) (Some refusal.ThinList) (
    cond (eqb n 36) (Some refusal.Index) (
    cond (eqb n 40) (Some refusal.Key) (
    cond (eqb n 41) (Some refusal.NoRecord) (
    cond (eqb n 42) (Some refusal.SeveralRecords) (
    cond (eqb n 51) (Some refusal.OtherActor) (
    cond (eqb n 52) (Some refusal.Hgc) (
    cond (eqb n 53) (Some refusal.VerdictBlock) (
    cond (eqb n 61) (Some refusal.Given) (
    cond (eqb n 62) (Some refusal.SamePan) (
    cond (eqb n 63) (Some refusal.HgvBuffer) (
    None)))))))))))))))))))))))))

pub refusal_back : (r : Refusal) → refusal_of (refusal_number r) ≡ Some r
unfolding refusal_of
refusal_back refusal.Mode = refl
refusal_back refusal.Time = refl
refusal_back refusal.Order = refl
refusal_back refusal.Rows = refl
refusal_back refusal.HgvLength = refl
refusal_back refusal.Header = refl
refusal_back refusal.Version = refl
refusal_back refusal.FullVersion = refl
refusal_back refusal.Parties = refl
refusal_back refusal.Count = refl
refusal_back refusal.Footer = refl
refusal_back refusal.Frame = refl
refusal_back refusal.Slots = refl
refusal_back refusal.HgcBuffer = refl
refusal_back refusal.ThinList = refl
refusal_back refusal.Index = refl
refusal_back refusal.Key = refl
refusal_back refusal.NoRecord = refl
refusal_back refusal.SeveralRecords = refl
refusal_back refusal.OtherActor = refl
refusal_back refusal.Hgc = refl
refusal_back refusal.VerdictBlock = refl
refusal_back refusal.Given = refl
refusal_back refusal.SamePan = refl
refusal_back refusal.HgvBuffer = refl

-- no two have one number
pub refusal_alone : (r s : Refusal) → refusal_number r ≡ refusal_number s → r ≡ s
refusal_alone r s e = ap (inner r) (sym (refusal_back r) ∙ ap refusal_of e ∙ refusal_back s)

-- a verdict, and an answer without a value, is its number
pub verdict_alone : (r s : Result Unit Reason) → verdict_number r ≡ verdict_number s → r ≡ s
verdict_alone (Ok _) (Ok _) e = refl
verdict_alone (Ok tt) (Err b) e = absurd (reason_some b (sym e))
verdict_alone (Err a) (Ok tt) e = absurd (reason_some a e)
verdict_alone (Err a) (Err b) e = ap Err (reason_alone a b e)

pub answer_alone : (r s : Result Unit Refusal) → answer_number r ≡ answer_number s → r ≡ s
answer_alone (Ok _) (Ok _) e = refl
answer_alone (Ok tt) (Err b) e = absurd (refusal_some b (sym e))
answer_alone (Err a) (Ok tt) e = absurd (refusal_some a e)
answer_alone (Err a) (Err b) e = ap Err (refusal_alone a b e)

-- ---- a condition of a call

module _ {E : Type 0} where
  -- behind its `?` it holds
  pub held : (b : Bool) (f : E) (u : Unit) → Ok u ≡ required b f → b ≡ true
  held true f u e = refl
  held false f u e = cc

  -- and where it does not, this is what the call is refused with
  pub broken : (b : Bool) (f g : E) → Err g ≡ required b f → (b ≡ false) × (g ≡ f)
  broken true f g e = cc
  broken false f g e = (refl, cc)
