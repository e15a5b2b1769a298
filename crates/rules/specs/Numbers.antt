-- The definition's numbers: of each reason for which a line is rejected, and of each refusal of a call. Assumes nothing.
use Rattle.std.specs.Prelude.{Bool, true, false, Result, Ok, Err, ℕ}
use Rattle.rules.specs.declared.reason.Reason.{Reason}
use Rattle.rules.specs.declared.reason.Reason.TheVariants as reason
use Rattle.rules.specs.declared.refusal.Refusal.{Refusal}
use Rattle.rules.specs.declared.refusal.Refusal.TheVariants as refusal

-- the reason in the HGC
abbrev pub reason_number : Reason → ℕ
reason_number reason.Duplicate = 1
reason_number reason.Luhn = 2
reason_number reason.Digits = 3
reason_number reason.Range = 4
reason_number reason.Obe = 5
reason_number reason.NationalityMissing = 6
reason_number reason.ContextMark = 8
reason_number reason.Plate = 9
reason_number reason.Miscellaneous = 12

-- the number of a stop or a refusal
abbrev pub refusal_number : Refusal → ℕ
refusal_number refusal.Mode = 21
refusal_number refusal.Time = 22
refusal_number refusal.Order = 23
refusal_number refusal.Rows = 24
refusal_number refusal.HgvLength = 25
refusal_number refusal.Header = 26
refusal_number refusal.Version = 27
refusal_number refusal.FullVersion = 28
refusal_number refusal.Parties = 29
refusal_number refusal.Count = 30
refusal_number refusal.Footer = 31
refusal_number refusal.Frame = 32
refusal_number refusal.Slots = 33
refusal_number refusal.HgcBuffer = 34
refusal_number refusal.ThinList = 35
refusal_number refusal.Index = 36
refusal_number refusal.Key = 40
refusal_number refusal.NoRecord = 41
refusal_number refusal.SeveralRecords = 42
refusal_number refusal.OtherActor = 51
refusal_number refusal.Hgc = 52
refusal_number refusal.VerdictBlock = 53
refusal_number refusal.Given = 61
refusal_number refusal.SamePan = 62
refusal_number refusal.HgvBuffer = 63

-- the verdict of a line: 0 where it breaks no rule, else the reason
abbrev pub verdict_number : Result Unit Reason → ℕ
verdict_number (Ok _) = 0
verdict_number (Err r) = reason_number r

-- what a call answers with: 0, or the number of its refusal
abbrev pub answer_number : {A : Type 0} → Result A Refusal → ℕ
answer_number (Ok _) = 0
answer_number (Err r) = refusal_number r

-- one condition or rule: nothing where it holds, else what it is refused with
abbrev pub required : {E : Type 0} → Bool → E → Result Unit E
required true e = Ok tt
required false e = Err e
