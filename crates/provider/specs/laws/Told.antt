-- What a call tells says which answer it was, and a refusal is told as the stop of its number. Assumes nothing.
use Rattle.std.specs.Prelude.{◌≡◌, Result, Ok, Err}
use Rattle.std.proofs.Common.{refl, sym, ap}
use Rattle.rules.specs.declared.refusal.Refusal.{Refusal}
use Rattle.rules.specs.Numbers.{refusal_number}
use Rattle.rules.specs.laws.Numbers.{refusal_some, refusal_alone}
use Rattle.taken.specs.declared.Counts.{Counts}
use Rattle.provider.specs.Counted.{Counted, told}
use Rattle.provider.specs.Answer.{stop_counts}

pub told_refused : (f : Refusal) → told (Err f) ≡ stop_counts (refusal_number f)
unfolding stop_counts
told_refused f = refl

-- success is told by its counts
abbrev counted : Counted → Counts
counted c = record { taken = c.taken; rejected = c.rejected }

pub told_one : (r s : Result Counts Refusal) → told r ≡ told s → r ≡ s
told_one (Ok k) (Ok l) e = ap (λ (c : Counted). Ok (counted c)) e
told_one (Ok k) (Err b) e = absurd (refusal_some b (sym (ap (λ (c : Counted). c.number) e)))
told_one (Err a) (Ok l) e = absurd (refusal_some a (ap (λ (c : Counted). c.number) e))
told_one (Err a) (Err b) e = ap Err (refusal_alone a b (ap (λ (c : Counted). c.number) e))
