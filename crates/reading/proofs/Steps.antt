-- What the steps of reading back leave, from what the pairing found. Assumes nothing.
use mathlib.Core.Path.{◌≡◌, sym, ◌∙◌}
use mathlib.Core.Bool.{true}
use mathlib.Core.List.{List, ◌++◌}
use Prim.Native.Nat.{ℕ, ◌≤◌}
use native.Mathlib.Omega.{arith}
use Rattle.std.specs.Prelude.{Ok, Err}
use lib.ListN.{length, drop}
use Rattle.theory.specs.First.{first}
use Rattle.theory.specs.Walk.{each}
use Rattle.theory.specs.Pick.{bad}
use Rattle.theory.specs.Tally.{tally}
use Rattle.rules.specs.declared.refusal.Refusal.{Refusal}
use Rattle.rules.specs.Numbers.{refusal_number}
use Rattle.rules.specs.laws.Numbers.{refusal_some}
use Rattle.sizes.specs.Sizes.{lines_most}
use Rattle.hgv.specs.Layout.{width_of, lines_in}
use Rattle.hgv.specs.laws.Layout.{lines_most_lem}
use Rattle.pairing.specs.Pairing.{told}
use Rattle.pairing.specs.Backwards.{paired}
use Rattle.answers.specs.Layout.{answers_in, answers_of}
use Rattle.receipts.specs.Receipt.{texts_of, copies_of, marks_of, reason_holds}
use Rattle.taken.specs.declared.Counts.{Counts}
use Rattle.provider.specs.Counted.{told as counted}
use Rattle.provider.specs.Answer.{success_counts}
use Rattle.provider.specs.laws.Told.{told_refused}
use Rattle.provider.specs.laws.Held.{marks_fit, marks_each, tell_fits}
use Rattle.reading.specs.ReadBack.{reasons_of, read_verdicts, hgv_stops, block_stops, verdicts_written}
use Rattle.reading.specs.Promises.{ReadBack}
use Rattle.reading.specs.laws.Numbers.{file_sized, read_file, read_behind, block_clear, read_refused, verdicts_stay, read_counted, verdicts_told}

-- n lines have room in a block for the most that there may be
pub file_most : (h : List ℕ) → 0 ≡ first (hgv_stops h) → (n : ℕ) → n ≡ lines_in h → n ≤ lines_most
file_most h z n f = rw f (lines_most_lem h (file_sized h (sym z)))

module _ (h g block : List ℕ) (f : Refusal) where
  pub file_stopped : refusal_number f ≡ first (hgv_stops h) → ReadBack h g block (counted (Err f)) block
  unfolding ReadBack
  file_stopped e =
      let n = read_file h g block _ e (refusal_some f) in
      (told_refused f ∙ read_refused h g block _ n (refusal_some f), verdicts_stay h g block _ n (refusal_some f))

  pub block_stopped : 0 ≡ first (hgv_stops h) → refusal_number f ≡ first (block_stops h g block) → ReadBack h g block (counted (Err f)) block
  unfolding ReadBack
  block_stopped z e =
      let n = read_behind h g block (sym z) _ e in
      (told_refused f ∙ read_refused h g block _ n (refusal_some f), verdicts_stay h g block _ n (refusal_some f))

-- where no stop is given; ms are the marks
module _ (h g block : List ℕ) (e : 0 ≡ first (block_stops h g block)) (ms : List ℕ) (em : ms ≡ paired (texts_of h) (copies_of h g)) where
  pub count_fits : ms ≡ marks_of h g
  count_fits = marks_fit h g (block_clear h g block (sym e)).0 ms em

  pub each_room : length ms ≤ length block
  each_room = let k = block_clear h g block (sym e) in omega (arith, k.1, marks_each h g k.0 ms em)

  pub reasons_fit : each (reason_holds (width_of h)) (answers_of h g) ≡ true
  reasons_fit = (tell_fits h g (block_clear h g block (sym e)).0 ms em).0

  pub few_left : tally bad ms ≤ answers_in h g
  few_left = (tell_fits h g (block_clear h g block (sym e)).0 ms em).1

  pub read_whole : 0 ≡ first (hgv_stops h) → (a : Counts) → counted (Ok a) ≡ success_counts h g
      → (b : List ℕ) → b ≡ told ms (reasons_of h g) ++ drop (length ms) block → ReadBack h g block (counted (Ok a)) b
  unfolding ReadBack verdicts_written read_verdicts
  read_whole z a r b f =
      let k = (block_clear h g block (sym e)).0 in
      let n = read_behind h g block (sym z) 0 e in
      (r ∙ read_counted h g block n, f ∙ rw (marks_each h g k ms em, marks_fit h g k ms em) (verdicts_told h g block n))
