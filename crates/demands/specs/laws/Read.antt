-- T11: reading back what an accepted import wrote answers 0 with the import's own counts, and writes its verdicts, one byte
-- for each line; bytes behind the n-th stay. Assumes nothing.
use Rattle.std.specs.Prelude.{◌≡◌, true, false, ltb, List, ◌++◌, ℕ, ◌≤◌, length, drop}
use Rattle.std.proofs.Common.{◌∙◌}
use borrow.Author.Tests.{le-ltb}
use Rattle.theory.specs.laws.Truth.{and_left}
use Rattle.theory.specs.First.{first, choose}
use Rattle.theory.specs.laws.Stopped.{at_success}
use Rattle.hgv.specs.Layout.{lines_in}
use Rattle.claims.specs.Claims.{receiver_holds}
use Rattle.stops.specs.Stops.{addressed}
use Rattle.imports.specs.Import.{shown}
use Rattle.imports.specs.Handed.{Handed}
use Rattle.provider.specs.Counted.{Counted}
use Rattle.provider.specs.Answer.{success_counts}
use Rattle.reading.specs.Promises.{ReadBack}
use Rattle.reading.specs.ReadBack.{hgv_stops, block_stops, read_number, read_answer, verdicts_written, verdicts_after}
use Rattle.imports.specs.laws.Numbers.{Formed}
use Rattle.hgc.specs.Confirmation.{confirmation}
use Rattle.demands.specs.Weighed.{own_counts}
use Rattle.demands.specs.laws.Sound.{Sound}
use Rattle.demands.specs.laws.ReadBack.{receipt, read_back, count_taken, count_rejected}

-- 29, the receiver only
pub addressed_receiver : (rows h : List ℕ) → addressed rows h ≡ true → receiver_holds h ≡ true
unfolding addressed
addressed_receiver rows h = and_left (receiver_holds h) _

module _ (f : Handed) (register vs : List ℕ) (s : Sound f register vs) where
  -- the HGC
  abbrev g : List ℕ
  g = confirmation (shown f) f.hgv vs

  -- the counts read are the import's
  pub counts_same : success_counts f.hgv g ≡ own_counts vs
  unfolding success_counts own_counts
  counts_same = rw (count_taken f register vs s, count_rejected f register vs s)

  -- ---- the call

  module _ (block : List ℕ) where
    -- no stop but 53 can be given
    stops_but_53 : read_number f.hgv g block ≡ first (block_stops f.hgv g block)
    unfolding read_number hgv_stops first choose
    stops_but_53 =
        let c : Formed f register = s.formed in
        rw (c.sized, c.headed, c.versioned, addressed_receiver f.rows f.hgv c.sent, c.counted, c.footed, c.framed)

    -- ---- a block in which 53 finds nothing

    module _ (long : ltb (length block) (lines_in f.hgv) ≡ false) where
      -- no stop is given
      number_long : read_number f.hgv g block ≡ 0
      unfolding block_stops first choose
      number_long = stops_but_53 ∙ rw (receipt f register vs s, long)

      -- 0, and the import's own counts
      answer_long : read_answer f.hgv g block ≡ own_counts vs
      unfolding read_answer
      answer_long = at_success (read_number f.hgv g block) _ _ number_long ∙ counts_same

      -- the import's verdicts, in file order; bytes behind the n-th stay
      verdicts_long : verdicts_after f.hgv g block ≡ vs ++ drop (lines_in f.hgv) block
      unfolding verdicts_after verdicts_written
      verdicts_long = at_success (read_number f.hgv g block) _ _ number_long ∙ rw (read_back f register vs s)

    -- ---- a block of n bytes or more

    module _ (enough : lines_in f.hgv ≤ length block) where
      -- no stop is given
      pub read_number_lem : read_number f.hgv g block ≡ 0
      read_number_lem = number_long (le-ltb (length block) (lines_in f.hgv) enough)

      -- 0, and the import's own counts
      pub read_answer_lem : read_answer f.hgv g block ≡ own_counts vs
      read_answer_lem = answer_long (le-ltb (length block) (lines_in f.hgv) enough)

      -- the import's verdicts, in file order; bytes behind the n-th stay
      pub read_verdicts_lem : verdicts_after f.hgv g block ≡ vs ++ drop (lines_in f.hgv) block
      read_verdicts_lem = verdicts_long (le-ltb (length block) (lines_in f.hgv) enough)

    -- so any outcome of reading it back has both
    pub read_sound : (u : Counted) (w : List ℕ) → ReadBack f.hgv g block u w → lines_in f.hgv ≤ length block → (u ≡ own_counts vs) × (w ≡ vs ++ drop (lines_in f.hgv) block)
    unfolding ReadBack
    read_sound u w p m =
        let k = le-ltb (length block) (lines_in f.hgv) m in
        (p.0 ∙ answer_long k, p.1 ∙ verdicts_long k)
