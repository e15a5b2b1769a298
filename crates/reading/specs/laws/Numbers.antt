-- What the numbers answered say: at a stop the counts are zero and every lent byte stays (T4); at 0 nothing stops the call, and
-- what follows is written. Assumes nothing.
use Rattle.std.specs.Prelude.{◌≡◌, refl, true, false, List, ℕ, ◌≤◌, ◌<◌, length}
use Rattle.std.proofs.Math.Path.{sym}
use Rattle.std.proofs.Common.{ltb-false}
use borrow.Author.Tests.{not-false, lt-ltb, le-ltb}
use Rattle.theory.specs.First.{None, more, none, first, choose}
use Rattle.theory.specs.laws.First.{first_clear, numbered}
use Rattle.theory.specs.laws.Stopped.{at_stop, at_success, by_first, by_second}
use Rattle.hgv.specs.Layout.{lines_in, length_holds}
use Rattle.receipts.specs.Receipt.{receipt_holds}
use Rattle.provider.specs.Answer.{stop_counts, success_counts}
use Rattle.reading.specs.ReadBack.{hgv_stops, block_stops, read_number, read_answer, verdicts_written, verdicts_after}

-- every stop of the file has a number
files : (h : List ℕ) → numbered (hgv_stops h) ≡ true
unfolding hgv_stops numbered
files h = refl

pub file_sized : (h : List ℕ) → first (hgv_stops h) ≡ 0 → length_holds h ≡ true
unfolding hgv_stops
file_sized h z = go (first_clear (hgv_stops h) (files h) z)
  where
    go : None (hgv_stops h) → length_holds h ≡ true
    go (more k ks) = not-false (length_holds h) k

module _ (h g block : List ℕ) where
  abbrev read : ℕ
  read = read_number h g block

  pub read_file : (n : ℕ) → n ≡ first (hgv_stops h) → (n ≡ 0 → ⊥) → n ≡ read
  unfolding read_number
  read_file = by_first (hgv_stops h) (block_stops h g block) (files h)

  module _ (z : first (hgv_stops h) ≡ 0) where
    pub read_behind : (n : ℕ) → n ≡ first (block_stops h g block) → n ≡ read
    unfolding read_number
    read_behind = by_second (hgv_stops h) (block_stops h g block) (files h) z

    pub read_52 : receipt_holds h g ≡ false → 52 ≡ read
    unfolding block_stops first choose
    read_52 r = read_behind 52 (sym (rw r))

    pub read_53 : receipt_holds h g ≡ true → length block < lines_in h → 53 ≡ read
    unfolding block_stops first choose
    read_53 r l = read_behind 53 (sym (rw (r, lt-ltb (length block) (lines_in h) l)))

    pub read_done : receipt_holds h g ≡ true → lines_in h ≤ length block → 0 ≡ read
    unfolding block_stops first choose
    read_done r l = read_behind 0 (sym (rw (r, le-ltb (length block) (lines_in h) l)))

  -- neither 52 nor 53
  pub block_clear : first (block_stops h g block) ≡ 0 → (receipt_holds h g ≡ true) × (lines_in h ≤ length block)
  unfolding block_stops numbered
  block_clear z = go (first_clear (block_stops h g block) refl z)
    where
      go : None (block_stops h g block) → (receipt_holds h g ≡ true) × (lines_in h ≤ length block)
      go (more k (more l none)) = (not-false (receipt_holds h g) k, ltb-false (length block) (lines_in h) l)

  -- a stop
  module _ (n : ℕ) (e : n ≡ read) (k : n ≡ 0 → ⊥) where
    pub read_refused : stop_counts n ≡ read_answer h g block
    unfolding read_answer
    read_refused = sym (rw (← e) (at_stop n _ (stop_counts n) k))

    pub verdicts_stay : block ≡ verdicts_after h g block
    unfolding verdicts_after
    verdicts_stay = sym (rw (← e) (at_stop n _ block k))

  -- success
  module _ (e : 0 ≡ read) where
    pub read_counted : success_counts h g ≡ read_answer h g block
    unfolding read_answer
    read_counted = sym (at_success read _ _ (sym e))

    pub verdicts_told : verdicts_written h g block ≡ verdicts_after h g block
    unfolding verdicts_after
    verdicts_told = sym (at_success read _ _ (sym e))
