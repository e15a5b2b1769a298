-- A provider's own records, in our order: what an import of his does to them it does to his copy of them, and an import of
-- another leaves them. Assumes nothing.
use Rattle.std.specs.Prelude.{◌≡◌, Bool, ◌&&◌, ℕ, length}
use Rattle.std.proofs.Math.Path.{refl, ap}
use Rattle.std.proofs.Common.{sym, ◌∙◌, true≢false, arith}
use Rattle.std.proofs.Math.Bool.{true, false, not, cond}
use mathlib.Core.List.{List, [], ◌∷◌, ◌++◌, map}
use borrow.Author.Tests.{not-true}
use Rattle.theory.specs.laws.Truth.{or_left, or_right}
use Rattle.theory.specs.Same.{eqs}
use Rattle.theory.specs.laws.Same.{eqs_true, eqs_sym}
use Rattle.theory.specs.Each.{Each, none, more}
use Rattle.theory.specs.laws.Each.{each_map}
use Rattle.theory.specs.Walk.{some}
use Rattle.theory.specs.Keep.{onto, sift}
use Rattle.theory.specs.laws.Keep.{sift_append, sift_length, sift_passes, sift_all, sift_apart, sift_inside}
use Rattle.columns.specs.Columns.{actor, pan_of}
use Rattle.slots.specs.Search.{holds_pan, of_actor, holds_foreign, held_by_another, count_of}
use Rattle.holdings.specs.Holdings.{stored_on, stored, stored_all, others, replaced_all, holdings}
use Rattle.sizes.specs.Modes.{is_full}
use Rattle.holdings.specs.laws.Storing.{own_free, free_stored}
use Rattle.applying.specs.Fit.{Fit}
use Rattle.applying.specs.laws.Others.{each_own, each_free}
use Rattle.demands.specs.Own.{own}

-- ---- how many they are

pub count_sift : (who : List ℕ) (R : List (List ℕ)) → count_of who R ≡ length (sift (of_actor who) R)
unfolding count_of
count_sift who R = refl

-- ---- his own import

module _ (who : List ℕ) where
  -- a record of his is stored among his own as among all
  sift_stored : (x : List ℕ) (R : List (List ℕ)) → of_actor who x ≡ true → held_by_another (pan_of x) who R ≡ false → sift (of_actor who) (stored x R) ≡ stored x (sift (of_actor who) R)
  unfolding stored stored_on sift onto held_by_another some holds_foreign
  sift_stored x [] o h = rw o
  sift_stored x (r ∷ R) o h =
      go (holds_pan (pan_of x) r) (of_actor who r) refl refl (or_left (holds_pan (pan_of x) r && not (of_actor who r)) (some (holds_foreign (pan_of x) who) R) h)
      (sift_stored x R o (or_right (holds_pan (pan_of x) r && not (of_actor who r)) (some (holds_foreign (pan_of x) who) R) h))
    where
      go : (b s : Bool) → holds_pan (pan_of x) r ≡ b → of_actor who r ≡ s → b && not s ≡ false → sift (of_actor who) (stored x R) ≡ stored x (sift (of_actor who) R)
          → sift (of_actor who) (stored_on b x r R (stored x R)) ≡ stored x (onto s r (sift (of_actor who) R))
      go true true e f k ih = rw (o, e)
      go true false e f k ih = absurd (true≢false k)
      go false true e f k ih = rw (f, e, ih)
      go false false e f k ih = rw (f, ih)

  -- all of them, one after the other
  sift_stored_all : (xs R : List (List ℕ)) → Each (λ x. of_actor who x ≡ true) xs → Each (λ x. held_by_another (pan_of x) who R ≡ false) xs → sift (of_actor who) (stored_all R xs) ≡ stored_all (sift (of_actor who) R) xs
  unfolding stored_all
  sift_stored_all [] R none none = refl
  sift_stored_all (x ∷ xs) R (more o os) (more h hs) =
      sift_stored_all xs (stored x R) os (each_map (λ y k. free_stored who (pan_of y) x R o k) hs) ∙ rw (sift_stored x R o h)

  -- behind the others' only the lines are his
  sift_behind : (R xs : List (List ℕ)) → Each (λ x. of_actor who x ≡ true) xs → sift (of_actor who) (others who R ++ xs) ≡ xs
  unfolding others
  sift_behind R xs o =
      sift_append (of_actor who) (others who R) xs
      ∙ rw (sift_apart (of_actor who) (λ r. not (of_actor who r)) (λ r e. not-true (of_actor who r) e) R, sift_all (of_actor who) o)

  -- among his own no record is another's
  sift_none_others : (R : List (List ℕ)) → others who (sift (of_actor who) R) ≡ []
  unfolding others
  sift_none_others R = sift_apart (λ r. not (of_actor who r)) (of_actor who) (λ r e. ap not e) R

-- the lines fit, and are the sender's own
module _ (mode : ℕ) (who : List ℕ) (make : List ℕ → List ℕ) (slots : ℕ) (R ls : List (List ℕ)) (f : Fit mode who make slots R ls) (his : Each (λ l. of_actor who l ≡ true) ls) where
  abbrev xs : List (List ℕ)
  xs = map make ls

  -- what follows of his own is his own of what follows, in either mode
  pub sift_holdings : sift (of_actor who) (holdings mode who make R ls) ≡ holdings mode who make (sift (of_actor who) R) ls
  unfolding holdings replaced_all
  sift_holdings = go (is_full mode)
    where
      go : (full : Bool) → sift (of_actor who) (cond full (others who R ++ xs) (stored_all R xs)) ≡ cond full (others who (sift (of_actor who) R) ++ xs) (stored_all (sift (of_actor who) R) xs)
      go true = sift_behind who R xs (each_own mode who make slots R ls f his) ∙ rw (sift_none_others who R)
      go false = sift_stored_all who xs R (each_own mode who make slots R ls f his) (each_free mode who make slots R ls f his)

  -- so the lines fit his own records too
  pub sift_fit : Fit mode who make slots (sift (of_actor who) R) ls
  sift_fit =
      record {
        made = f.made;
        apart = f.apart;
        free = each_map (λ l k. own_free who (pan_of l) (sift_passes (of_actor who) R)) f.free;
        room = rw (← sift_holdings) (omega (arith, sift_length (of_actor who) (holdings mode who make R ls), f.room));
      }

-- ---- another's

-- a provider's records are among those of all but another
pub sift_others : (who from : List ℕ) (R : List (List ℕ)) → eqs from who ≡ false → sift (of_actor who) (others from R) ≡ sift (of_actor who) R
unfolding others of_actor
sift_others who from R d = sift_inside (of_actor who) (λ r. not (of_actor from r)) (λ r e. rw (eqs_true (actor r) who e, eqs_sym who from, d)) R

-- so what leaves the records of all but another leaves his
pub sift_stays : (who from : List ℕ) (R S : List (List ℕ)) → eqs from who ≡ false → others from R ≡ others from S → sift (of_actor who) R ≡ sift (of_actor who) S
sift_stays who from R S d e = sym (sift_others who from R d) ∙ rw e (sift_others who from S d)

-- ---- the same of his own, by their name

pub count_own : (who : List ℕ) (R : List (List ℕ)) → count_of who R ≡ length (own who R)
unfolding own
count_own = count_sift

module _ (who : List ℕ) where
  own_stored : (x : List ℕ) (R : List (List ℕ)) → of_actor who x ≡ true → held_by_another (pan_of x) who R ≡ false → own who (stored x R) ≡ stored x (own who R)
  unfolding own
  own_stored = sift_stored who

  own_all : (xs R : List (List ℕ)) → Each (λ x. of_actor who x ≡ true) xs → Each (λ x. held_by_another (pan_of x) who R ≡ false) xs → own who (stored_all R xs) ≡ stored_all (own who R) xs
  unfolding own
  own_all = sift_stored_all who

  own_behind : (R xs : List (List ℕ)) → Each (λ x. of_actor who x ≡ true) xs → own who (others who R ++ xs) ≡ xs
  unfolding own
  own_behind = sift_behind who

  none_others : (R : List (List ℕ)) → others who (own who R) ≡ []
  unfolding own
  none_others = sift_none_others who

module _ (mode : ℕ) (who : List ℕ) (make : List ℕ → List ℕ) (slots : ℕ) (R ls : List (List ℕ)) (f : Fit mode who make slots R ls) (his : Each (λ l. of_actor who l ≡ true) ls) where
  pub own_holdings : own who (holdings mode who make R ls) ≡ holdings mode who make (own who R) ls
  unfolding own
  own_holdings = sift_holdings mode who make slots R ls f his

  pub fit_own : Fit mode who make slots (own who R) ls
  unfolding own
  fit_own = sift_fit mode who make slots R ls f his

pub own_others : (who from : List ℕ) (R : List (List ℕ)) → eqs from who ≡ false → own who (others from R) ≡ own who R
unfolding own
own_others = sift_others

pub own_stays : (who from : List ℕ) (R S : List (List ℕ)) → eqs from who ≡ false → others from R ≡ others from S → own who R ≡ own who S
unfolding own
own_stays = sift_stays
