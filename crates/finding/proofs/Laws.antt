-- What the functions of this crate cite. Assumes nothing.
use mathlib.Core.Path.{◌≡◌, refl, sym, ◌∙◌}
use mathlib.Core.Bool.{Bool, true, false, not, ◌&&◌, true≢false}
use mathlib.Core.List.{List}
use Prim.Native.Nat.{ℕ, zero, suc, ◌+◌, ◌-◌, ◌≤◌, ◌<◌}
use native.Mathlib.Omega.{arith}
use native.Mathlib.Numerals.{add-one}
use lib.Dec.{ltb}
use lib.ListN.{length, get_or, take, replicate, get_or-replicate}
use borrow.Author.Tests.{eqb-true, ltb-true, ltb-false}
use Rattle.theory.specs.laws.Truth.{and_split}
use Rattle.theory.specs.Same.{eqs}
use Rattle.theory.specs.laws.Same.{eqs_true, eq_eqs}
use Rattle.theory.specs.Below.{below}
use Rattle.theory.specs.laws.Below.{below_at}
use Rattle.theory.specs.Parts.{chop, part_at}
use Rattle.theory.specs.laws.Parts.{length_chop}
use Rattle.theory.specs.Pick.{good}
use Rattle.theory.specs.laws.Pick.{good_no}
use Rattle.theory.specs.Place.{place}
use Rattle.theory.specs.laws.Place.{Placing, placing_start, placing_on, placing_off, placing_end}
use Rattle.theory.specs.Table.{table_of}
use Rattle.theory.specs.laws.Table.{is_table, cut_is}
use Rattle.keys.specs.declared.Keys.{Keys}
use Rattle.keys.specs.Keys.{parts_of, key_of, key_at}
use Rattle.keys.specs.Less.{less}
use Rattle.keys.specs.laws.Less.{less_trans, less_no}
use Rattle.sorting.specs.Counts.{counts}
use Rattle.sorting.specs.laws.Ranks.{any_two, one_rank}
use Rattle.ordering.specs.Ranks.{ranked}
use Rattle.finding.specs.Places.{has_key, place_for, first_for}
use Rattle.finding.specs.laws.Unmarked.{places_unmarked}
use Rattle.finding.specs.laws.Sorted.{Follows, higher, same, Rises, Sorted, Led}

-- ---- the tests, with the code's values as equations

-- x is the key k, and r says whether it is t
pub found_same : (x k t : List ℕ) → x ≡ k → (r : Bool) → r ≡ eqs x t → r ≡ true → k ≡ t
found_same x k t p r e h = sym p ∙ eqs_true x t (sym e ∙ h)

-- s is the key of the part i, and r says whether it is t
pub key_found : (keys : Keys) (b : List ℕ) (i : ℕ) (s t : List ℕ) → s ≡ key_at keys b i → (r : Bool) → r ≡ eqs s t → r ≡ has_key (key_of keys) t (part_at keys.width i b)
unfolding key_at
key_found keys b i s t p r e = e ∙ rw p

-- ---- each part comes behind the one ahead of it

-- k and j are the keys of the parts a and c, and r says whether they are the same
pub next_same : (keys : Keys) (b : List ℕ) (a c : ℕ) (k j : List ℕ) → k ≡ key_at keys b a → j ≡ key_at keys b c → (r : Bool) → r ≡ eqs k j → r ≡ true → ltb a c ≡ true → Follows keys b a c
next_same keys b a c k j p q r e s l = same (sym p ∙ eqs_true k j (sym e ∙ s) ∙ q) (ltb-true a c l)

module _ (keys : Keys) (b : List ℕ) where
  follows_trans : (a c d : ℕ) → Follows keys b a c → Follows keys b c d → Follows keys b a d
  follows_trans a c d (higher p) (higher q) = higher (less_trans _ _ _ p q)
  follows_trans a c d (higher p) (same e l) = higher (rw e at p)
  follows_trans a c d (same e l) (higher q) = higher (rw e q)
  follows_trans a c d (same e l) (same f m) = same (e ∙ f) (omega arith)

  -- what is less than a text, or higher, stays so
  follows_low : (t : List ℕ) (a c : ℕ) → Follows keys b a c → less (key_at keys b c) t ≡ true → less (key_at keys b a) t ≡ true
  follows_low t a c (higher p) q = less_trans _ _ _ p q
  follows_low t a c (same e l) q = rw e q

  follows_high : (t : List ℕ) (a c : ℕ) → Follows keys b a c → less t (key_at keys b a) ≡ true → less t (key_at keys b c) ≡ true
  follows_high t a c (higher p) q = less_trans _ _ _ q p
  follows_high t a c (same e l) q = rw e at q

  -- a part with the same key does not stand in front of the one that it comes behind
  follows_no : (t : List ℕ) (a c : ℕ) → Follows keys b a c → key_at keys b a ≡ t → key_at keys b c ≡ t → c < a → ⊥
  follows_no t a c (higher p) e f l = less_no _ (rw (e, f) at p)
  follows_no t a c (same q m) e f l = omega arith

-- ---- a sorted order

-- every part counts, and the order has a place for each; r says whether it rises, and d whether it covers all parts
pub order_sorted : (keys : Keys) (b vs o ks : List ℕ) (n : ℕ) → length vs ≡ n → length o ≡ n → (r : Bool) → (r ≡ true → Rises keys b o n (length o))
    → (d : Bool) → d ≡ below (ranked true vs o ks (length o)) (length vs) → r && d ≡ true → Sorted keys b o n
unfolding ranked counts
order_sorted keys b vs o ks n l m r f d c e =
    let (p, q) = and_split r d e in
    record { rises = rw m at (f p); ranks = ks; ranked = stands (rw (m, l) at (sym c ∙ q)) }
  where
    not_twice : (z : Bool) → not (not z) ≡ true → z ≡ true
    not_twice true k = refl
    not_twice false k = k

    stands : below (ranked true vs o ks n) n ≡ true → (a : ℕ) → a < n → (get_or ks a 0 < n) × (get_or o (get_or ks a 0) 0 ≡ a)
    stands g a k =
        let (x, y) = and_split _ _ (not_twice _ (below_at (ranked true vs o ks n) n g a k)) in
        (ltb-true _ _ x, eqb-true _ _ y)

eqs_no : (s t : List ℕ) → (s ≡ t → ⊥) → eqs s t ≡ false
eqs_no s t n = go (eqs s t) refl
  where
    go : (r : Bool) → eqs s t ≡ r → r ≡ false
    go true e = absurd (n (eqs_true s t e))
    go false e = refl

module _ (keys : Keys) (b : List ℕ) (n : ℕ) (t : List ℕ) where
  abbrev w : ℕ
  w = keys.width

  abbrev has : List ℕ → Bool
  has = has_key (key_of keys) t

  -- none of the first i parts has the key
  passed : (i : ℕ) → i ≤ n → ((a : ℕ) → a < i → key_at keys b a ≡ t → ⊥) → Placing has w n b i
  unfolding key_at
  passed zero h f = placing_start has w n b
  passed (suc i) h f =
      rw (add-one i) at (placing_on has w n b i (passed i (omega arith) (λ a l. f a (omega arith))) h (part_at w i b) refl _ refl (eqs_no (key_of keys (part_at w i b)) t (f i (omega arith))))

  module _ (o : List ℕ) (s : Sorted keys b o n) where
    abbrev at : ℕ → List ℕ
    at i = key_at keys b (get_or o i 0)

    between : (i j : ℕ) → i < j → j < n → Follows keys b (get_or o i 0) (get_or o j 0)
    between =
        any_two (λ i j. Follows keys b (get_or o i 0) (get_or o j 0)) (λ i j d. follows_trans keys b _ _ _) n
        (λ i l. let e : i + 1 - 1 ≡ i = omega arith in rw e at (s.rises.next (i + 1) (omega arith) l))

    -- the keys ahead of the rank q are less
    module _ (q : ℕ) (h : q ≤ n) (ahead : 0 < q → less (at (q - 1)) t ≡ true) where
      low : (i : ℕ) → i < q → less (at i) t ≡ true
      low i l = go (ltb i (q - 1)) refl
        where
          go : (r : Bool) → ltb i (q - 1) ≡ r → less (at i) t ≡ true
          go true e = follows_low keys b t _ _ (between i (q - 1) (ltb-true i (q - 1) e) (omega arith)) (ahead (omega arith))
          go false e = let f : q - 1 ≡ i = omega (arith, ltb-false i (q - 1) e) in rw f at (ahead (omega arith))

      -- and the part there has the key: it is the first
      module _ (l : q < n) (here : at q ≡ t) where
        not_before : (c : ℕ) → c < get_or o q 0 → c < n → key_at keys b c ≡ t → ⊥
        not_before c m k e =
            let (x, at_c) = s.ranked c k in
            one_rank o c (get_or o q 0) _ q at_c refl m (λ p. less_no _ (rw (at_c, e) at (low _ p)))
            (λ p. follows_no keys b t (get_or o q 0) c (rw at_c at (between q _ p x)) here e m)

        pub found_here : get_or o q 0 ≡ place has (chop w n b)
        unfolding key_at
        found_here =
            let a : ℕ = get_or o q 0 in
            let k : a < n = s.rises.within q l in
            placing_off has w n b a (passed a (omega arith) (λ c m e. not_before c m (omega arith) e)) k (part_at w a b) refl true (sym (eq_eqs (key_of keys (part_at w a b)) t here)) refl

      -- it does not stand from there on either
      module _ (behind : q < n → less t (at q) ≡ true) where
        high : (i : ℕ) → q ≤ i → i < n → less t (at i) ≡ true
        high i l k = go (ltb q i) refl
          where
            go : (r : Bool) → ltb q i ≡ r → less t (at i) ≡ true
            go true e = follows_high keys b t _ _ (between q i (ltb-true q i e) k) (behind (omega arith))
            go false e = let f : q ≡ i = omega (arith, ltb-false q i e) in rw f at (behind (omega arith))

        nowhere : (a : ℕ) → a < n → key_at keys b a ≡ t → ⊥
        nowhere a l e = go (ltb x q) refl
          where
            x : ℕ
            x = get_or s.ranks a 0

            at_a : (x < n) × (get_or o x 0 ≡ a)
            at_a = s.ranked a l

            go : (r : Bool) → ltb x q ≡ r → ⊥
            go true p = less_no _ (rw (at_a.1, e) at (low x (ltb-true x q p)))
            go false p = less_no _ (rw (at_a.1, e) at (high x (ltb-false x q p) at_a.0))

        pub found_nowhere : n ≡ place has (chop w n b)
        found_nowhere = placing_end has w n b n (passed n (omega arith) nowhere) (omega arith)

-- ---- the first that has the key of a part

module _ (keys : Keys) (n : ℕ) (b o : List ℕ) (s : Sorted keys b o n) where
  -- t and u are the keys at a rank and ahead of it, and r says whether they are the same
  module _ (i : ℕ) (l : i < n) (found : List ℕ) (v : Led keys n b o i found) where
    pub lead_start : i ≡ 0 → get_or o i 0 ≡ first_for keys n b (get_or o i 0)
    unfolding first_for
    lead_start z = found_here keys b n (key_at keys b (get_or o i 0)) o s i (omega arith) (λ h. absurd (omega arith)) l refl

    module _ (h : i ≡ 0 → ⊥) (u t : List ℕ) (p : u ≡ key_at keys b (get_or o (i - 1) 0)) (q : t ≡ key_at keys b (get_or o i 0)) (r : Bool) (e : r ≡ eqs u t) where
      -- then it is the same part
      pub lead_same : r ≡ true → (x : ℕ) → x ≡ get_or o (i - 1) 0 → get_or found x 0 ≡ first_for keys n b (get_or o i 0)
      unfolding first_for
      lead_same g x f =
          let k : key_at keys b (get_or o (i - 1) 0) ≡ key_at keys b (get_or o i 0) = sym p ∙ eqs_true u t (sym e ∙ g) ∙ q in
          rw (f, ← k) (v.told (i - 1) (omega arith))

      -- else it is the part itself
      pub lead_other : r ≡ false → get_or o i 0 ≡ first_for keys n b (get_or o i 0)
      unfolding first_for
      lead_other g = found_here keys b n (key_at keys b (get_or o i 0)) o s i (omega arith) (λ _. go (s.rises.next i (omega arith) l)) l refl
        where
          go : Follows keys b (get_or o (i - 1) 0) (get_or o i 0) → less (key_at keys b (get_or o (i - 1) 0)) (key_at keys b (get_or o i 0)) ≡ true
          go (higher m) = m
          go (same k m) = absurd (true≢false (sym (eq_eqs u t (p ∙ k ∙ sym q)) ∙ sym e ∙ g))

  pub led_end : (i : ℕ) (found : List ℕ) → Led keys n b o i found → n ≤ i → found ≡ table_of (first_for keys n b) n
  led_end i found v h =
      is_table (first_for keys n b) n found v.size
      (λ a l. let (x, y) = s.ranked a l in rw y at (v.told (get_or s.ranks a 0) (omega arith)))

-- where the parts themselves are the lines, and each is marked 0
pub places_firsts : (keys : Keys) (n m : ℕ) → n ≤ m → (b found : List ℕ) → found ≡ table_of (place_for (key_of keys) (parts_of keys n b) (key_of keys) keys.width b (take n (replicate m 0))) n
    → found ≡ table_of (first_for keys n b) n
unfolding first_for key_at
places_firsts keys n m h b found e =
    e ∙ places_unmarked (key_of keys) (parts_of keys n b) (key_of keys) keys.width b (take n (replicate m 0)) n (λ i l. rw (cut_is n m 0 h) (get_or-replicate n i 0 0 l))

-- ---- one line

module _ (keys : Keys) (n : ℕ) (b : List ℕ) (line : Keys) (lines vs : List ℕ) (i : ℕ) where
  abbrev there : ℕ
  there = place_for (key_of keys) (parts_of keys n b) (key_of line) line.width lines vs i

  pub place_unasked : (get_or vs i 0 ≡ 0 → ⊥) → n ≡ there
  unfolding place_for
  place_unasked h = rw (good_no (get_or vs i 0) h) (sym (length_chop keys.width n b))

  -- t is the line's key, and r where it stands
  pub place_asked : get_or vs i 0 ≡ 0 → (t : List ℕ) → t ≡ key_at line lines i → (r : ℕ) → r ≡ place (has_key (key_of keys) t) (parts_of keys n b) → r ≡ there
  unfolding place_for key_at good
  place_asked z t p r e = rw (z, ← p) e

-- ---- a block filled with the entries of a table

-- the first i of n entries stand there
pub record Filled (f : ℕ → ℕ) (n i : ℕ) (block : List ℕ) : Type 0 where
  pub within : i ≤ n
  pub size : length block ≡ n
  pub stands : (j : ℕ) → j < i → get_or block j 0 ≡ f j

module _ (f : ℕ → ℕ) where
  pub filled_start : (block : List ℕ) → Filled f (length block) 0 block
  filled_start block = record { within = omega arith; size = refl; stands = λ j l. absurd (omega arith) }

  module _ (n i : ℕ) (block : List ℕ) (v : Filled f n i block) where
    pub filled_end : length block ≤ i → block ≡ table_of f n
    filled_end h = is_table f n block v.size (λ j l. v.stands j (omega (arith, v.size)))

  pub filled_none : (block : List ℕ) → length block ≡ 0 → block ≡ table_of f (length block)
  filled_none block e = filled_end (length block) 0 block (filled_start block) (omega arith)
