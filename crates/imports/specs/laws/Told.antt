-- Laws of what an outcome answers: a refused import answers its stop with zero counts, and two outcomes that answer alike are one.
-- So an import whose number is a refusal's, or 0, has that outcome. Assumes nothing.
use Rattle.std.specs.Prelude.{◌≡◌, List, ℕ, Result, Ok, Err}
use Rattle.std.proofs.Common.{refl, sym, ap, ◌∙◌}
use Rattle.rules.specs.declared.refusal.Refusal.{Refusal}
use Rattle.rules.specs.Numbers.{refusal_number}
use Rattle.rules.specs.laws.Numbers.{refusal_some, refusal_alone}
use Rattle.imports.specs.declared.Confirmed.{Confirmed}
use Rattle.imports.specs.Imported.{Imported, told}
use Rattle.imports.specs.Handed.{Handed}
use Rattle.imports.specs.Import.{refusal, success, import_number, register_written, hgc_written}
use Rattle.imports.specs.Promises.{ImportJudged}
use Rattle.imports.specs.laws.Numbers.{stop_answer, stop_register, stop_hgc, done_answer, done_register, done_hgc}

-- the answer to a stop
pub told_refused : (stop : Refusal) → told (Err stop) ≡ refusal (refusal_number stop)
unfolding refusal
told_refused stop = refl

pub told_alike : (r s : Result Confirmed Refusal) → told r ≡ told s → r ≡ s
told_alike (Ok a) (Ok b) e = ap Ok (ap (λ (x : Imported). record { taken = x.taken; rejected = x.rejected; length = x.length }) e)
told_alike (Ok a) (Err q) e = absurd (refusal_some q (sym (ap (λ (x : Imported). x.number) e)))
told_alike (Err p) (Ok b) e = absurd (refusal_some p (ap (λ (x : Imported). x.number) e))
told_alike (Err p) (Err q) e = ap Err (refusal_alone p q (ap (λ (x : Imported). x.number) e))

module _ (f : Handed) (register : List ℕ) where
  -- at a stop every lent byte stays
  pub refused_is : (stop : Refusal) → refusal_number stop ≡ import_number f register → (r : Result Confirmed Refusal) → r ≡ Err stop
      → ImportJudged f register (told r) register f.hgc
  unfolding ImportJudged refusal
  refused_is stop n r e =
      let k = refusal_some stop in
      rw e (stop_answer f register _ n k, (stop_register f register _ n k, stop_hgc f register _ n k))

  pub done_is : import_number f register ≡ 0 → (done : Confirmed) → told (Ok done) ≡ success f register
      → (b : List ℕ) → b ≡ register_written f register → (g : List ℕ) → g ≡ hgc_written f register → ImportJudged f register (told (Ok done)) b g
  unfolding ImportJudged
  done_is z done e b eb g eg = (e ∙ done_answer f register z, (eb ∙ done_register f register z, eg ∙ done_hgc f register z))
