-- Strands laid into two arrays, one behind the other: what is done and what is left.
--     Laying, laying-*        a loop that lays some entries, and its ways out
--     row-*                   the strands of a level from the j-th on
--     rules-*                 those that the rules of a section make
use Prim.Native.Nat.{ℕ, suc, ◌+◌, ◌-◌, ◌*◌, ◌≤◌, ◌<◌}
use mathlib.Core.Path.{◌≡◌, refl, sym, ap, ◌∙◌}
use mathlib.Core.List.{List, [], ◌∷◌, ◌++◌, map, append-nil, append_assoc, map-append}
use mathlib.Core.Logic.{⊎_elim}
use Rattle.std.specs.Prelude.{Option, Some, None}
use native.Mathlib.Nat.{add-zero, zero-add}
use native.Mathlib.Omega.{arith}
use borrow.Author.Tests.{le-leb, lt-leb}
use lib.ListN.{length, get_or, set, length-append, length-map}
use lib.Seq.{append_snoc}
use Rattle.laws.specs.Lists.{tabulate}
use Rattle.laws.specs.Gather.{gather}
use Rattle.laws.specs.Over.{overwrite}
use Rattle.laws.specs.Reading.{le_or_lt}
use Rattle.laws.proofs.Over.{over_none, over_set, over_over}
use Rattle.table.specs.Table.{standard, fallback}
use Rattle.table.specs.declared.Rule.{Rule}
use Rattle.model.specs.Stream.{Entry, HeldStrand, stay}
use Rattle.strands.specs.Packed.{strand_in, packed, words_at}
use Rattle.strands.specs.Rules.{rules_in}
use Rattle.strands.specs.Entries.{made_by, entries_by, entries_from, stay_entry, counted, strand_word, schema_word}

pub counted_in : (n : ℕ) → n ≤ 16 → counted n ≡ Some n
counted_in n h = rw (le-leb n 16 h)

pub counted_past : (n : ℕ) → 16 < n → counted n ≡ None
counted_past n h = rw (lt-leb n 16 h)

pub counted_some : (n r : ℕ) → Some r ≡ counted n → (n ≤ 16) × (r ≡ n)
counted_some n r e =
    ⊎_elim
    (λ (k : n ≤ 16). let p : Some r ≡ Some n = e ∙ counted_in n k in (k, cc))
    (λ k. let p : Some r ≡ None = e ∙ counted_past n k in cc)
    (le_or_lt n 16)

pub counted_few : (n r : ℕ) → Some r ≡ counted n → r ≤ 16
counted_few n r e = let p = counted_some n r e in omega arith

pub counted_none : (n : ℕ) → None ≡ counted n → 16 < n
counted_none n e =
    ⊎_elim
    (λ (k : n ≤ 16). let p : None ≡ Some n = e ∙ counted_in n k in cc)
    (λ k. k)
    (le_or_lt n 16)

-- of the entries es, laid behind n others, some are done, up to the place k; the rest is left
pub record Laying (es : List Entry) (words₀ schemas₀ : List ℕ) (n : ℕ) (words schemas : List ℕ) (k : ℕ) (rest : List Entry) : Type 0 where
  pub done : List Entry
  pub split : done ++ rest ≡ es
  pub count : k ≡ n + length done
  pub words_are : words ≡ overwrite words₀ n (map strand_word done)
  pub schemas_are : schemas ≡ overwrite schemas₀ n (map schema_word done)

-- what a function that lays them ends with
pub record Ended (es : List Entry) (words₀ schemas₀ : List ℕ) (n : ℕ) (words schemas : List ℕ) (r : Option ℕ) : Type 0 where
  pub number : r ≡ counted (n + length es)
  pub strands : n + length es ≤ 16 → words ≡ overwrite words₀ n (map strand_word es)
  pub marks : n + length es ≤ 16 → schemas ≡ overwrite schemas₀ n (map schema_word es)

module _ (es : List Entry) (words₀ schemas₀ : List ℕ) (n : ℕ) where
  pub laying_start : Laying es words₀ schemas₀ n words₀ schemas₀ n es
  laying_start = record { done = []; split = refl; count = omega arith; words_are = sym (over_none words₀ n); schemas_are = sym (over_none schemas₀ n) }

  module _ (words schemas : List ℕ) (k : ℕ) (rest : List Entry) (y : Laying es words₀ schemas₀ n words schemas k rest) where
    total_length : n + length es ≡ k + length rest
    total_length = omega (arith, ap length y.split, length-append y.done rest, y.count)

    -- the array with what is done, and one or some behind it
    set_word : (f : Entry → ℕ) (l₀ l : List ℕ) → l ≡ overwrite l₀ n (map f y.done) → k < length l₀ → (v : ℕ) (e : Entry) → v ≡ f e → set l k v ≡ overwrite l₀ n (map f (y.done ++ (e ∷ [])))
    set_word f l₀ l p h v e q =
        let m : k ≡ n + length (map f y.done) = omega (arith, y.count, length-map y.done f) in
        ap (λ (x : List ℕ). set x k v) p
        ∙ ap (λ (j : ℕ). set (overwrite l₀ n (map f y.done)) j v) m
        ∙ over_set l₀ n (map f y.done) v (omega arith)
        ∙ ap (λ (u : ℕ). overwrite l₀ n (map f y.done ++ (u ∷ []))) q
        ∙ ap (overwrite l₀ n) (sym (map-append f y.done (e ∷ [])))

    more_words : (f : Entry → ℕ) (l₀ l l' : List ℕ) (part : List Entry) → l ≡ overwrite l₀ n (map f y.done) → n ≤ length l₀ → l' ≡ overwrite l k (map f part) → l' ≡ overwrite l₀ n (map f (y.done ++ part))
    more_words f l₀ l l' part p h q =
        let m : k ≡ n + length (map f y.done) = omega (arith, y.count, length-map y.done f) in
        q
        ∙ ap (λ (x : List ℕ). overwrite x k (map f part)) p
        ∙ ap (λ (j : ℕ). overwrite (overwrite l₀ n (map f y.done)) j (map f part)) m
        ∙ over_over l₀ n (map f y.done) (map f part) h
        ∙ ap (overwrite l₀ n) (sym (map-append f y.done part))

    -- one is laid
    pub laying_one : (e : Entry) (rest' : List Entry) → rest ≡ e ∷ rest' → k < length words₀ → k < length schemas₀ → (v u : ℕ) → v ≡ strand_word e → u ≡ schema_word e
        → Laying es words₀ schemas₀ n (set words k v) (set schemas k u) (k + 1) rest'
    laying_one e rest' d hw hs v u ev eu =
        record {
          done = y.done ++ (e ∷ []);
          split = append_snoc y.done e rest' ∙ ap (λ (r : List Entry). y.done ++ r) (sym d) ∙ y.split;
          count = omega (arith, y.count, length-append y.done (e ∷ []));
          words_are = set_word strand_word words₀ words y.words_are hw v e ev;
          schemas_are = set_word schema_word schemas₀ schemas y.schemas_are hs u e eu;
        }

    -- the next ones are laid by another function
    pub laying_more : (part rest' : List Entry) → rest ≡ part ++ rest' → n ≤ length words₀ → n ≤ length schemas₀ → (words' schemas' : List ℕ) (r : ℕ)
        → Ended part words schemas k words' schemas' (Some r) → Laying es words₀ schemas₀ n words' schemas' r rest'
    laying_more part rest' d hw hs words' schemas' r z =
        let f = counted_some (k + length part) r z.number in
        record {
          done = y.done ++ part;
          split = append_assoc y.done part rest' ∙ ap (λ (r : List Entry). y.done ++ r) (sym d) ∙ y.split;
          count = omega (arith, f.1, y.count, length-append y.done part);
          words_are = more_words strand_word words₀ words words' part y.words_are hw (z.strands f.0);
          schemas_are = more_words schema_word schemas₀ schemas schemas' part y.schemas_are hs (z.marks f.0);
        }

    -- more than sixteen
    past : 16 < n + length es → Ended es words₀ schemas₀ n words schemas None
    past h = record { number = sym (counted_past (n + length es) h); strands = λ k. absurd (omega arith); marks = λ k. absurd (omega arith) }

    pub laying_full : (e : Entry) (rest' : List Entry) → rest ≡ e ∷ rest' → 16 ≤ k → Ended es words₀ schemas₀ n words schemas None
    laying_full e rest' d h = past (omega (arith, total_length, ap length d))

    pub laying_over : (part rest' : List Entry) → rest ≡ part ++ rest' → (words' schemas' : List ℕ) → Ended part words schemas k words' schemas' None
        → Ended es words₀ schemas₀ n words' schemas' None
    laying_over part rest' d words' schemas' z =
        let m = counted_none (k + length part) z.number in
        let g : 16 < n + length es = omega (arith, total_length, ap length d, length-append part rest', m) in
        record { number = sym (counted_past (n + length es) g); strands = λ q. absurd (omega arith); marks = λ q. absurd (omega arith) }

    -- none is left
    pub laying_end : rest ≡ [] → k ≤ 16 → Ended es words₀ schemas₀ n words schemas (Some k)
    laying_end d h =
        let all : y.done ≡ es = sym (append-nil y.done) ∙ ap (λ (r : List Entry). y.done ++ r) (sym d) ∙ y.split in
        let t : k ≡ n + length es = omega (arith, total_length, ap length d) in
        record {
          number = ap Some t ∙ sym (counted_in (n + length es) (omega arith));
          strands = λ q. y.words_are ∙ ap (λ (l : List Entry). overwrite words₀ n (map strand_word l)) all;
          marks = λ q. y.schemas_are ∙ ap (λ (l : List Entry). overwrite schemas₀ n (map schema_word l)) all;
        }

-- ---- the strands of a level from the j-th on
unfoldable pub row_from : List ℕ → ℕ → ℕ → ℕ → List ℕ
row_from strands level n j = tabulate (λ (i : ℕ). get_or strands i 0) (16 * level + j) (n - j)

module _ (strands : List ℕ) (level n : ℕ) where
  abbrev at : ℕ → ℕ
  at i = get_or strands i 0

  pub row_first : row_from strands level n 0 ≡ words_at strands level n
  unfolding row_from
  row_first = let m : n - 0 ≡ n = omega arith in rw (add-zero (16 * level), m)

  pub row_here : (j : ℕ) → j < n → row_from strands level n j ≡ get_or strands (16 * level + j) 0 ∷ row_from strands level n (j + 1)
  unfolding row_from tabulate
  row_here j h =
      let e : n - j ≡ suc (n - (j + 1)) = omega arith in
      let d : suc (16 * level + j) ≡ 16 * level + (j + 1) = omega arith in
      ap (tabulate at (16 * level + j)) e ∙ ap (λ (i : ℕ). at (16 * level + j) ∷ tabulate at i (n - (j + 1))) d

  pub row_end : (j : ℕ) → n ≤ j → row_from strands level n j ≡ []
  unfolding row_from tabulate
  row_end j h = let e : n - j ≡ 0 = omega arith in ap (tabulate at (16 * level + j)) e

-- ---- what the rules of a section make of a strand
module _ (index : List ℕ) (class : ℕ) (r : HeldStrand ℕ) where
  pub rules_none : rules_in index r.mode 0 class ≡ [] → entries_by index class r ≡ made_by r (fallback standard.element 0 r.mode) ∷ []
  unfolding entries_by
  rules_none e = rw e

  pub rules_some : (q : Rule) (qs : List Rule) → rules_in index r.mode 0 class ≡ q ∷ qs → entries_by index class r ≡ map (made_by r) (rules_in index r.mode 0 class)
  unfolding entries_by
  rules_some q qs e = rw e

-- ---- the strands of a level, behind none
module _ (strands : List ℕ) (level n : ℕ) (words₀ schemas₀ words schemas : List ℕ) where
  -- those that stay
  module _ (j : ℕ) (y : Laying (map stay_entry (words_at strands level n)) words₀ schemas₀ 0 words schemas j (map stay_entry (row_from strands level n j))) where
    pub stay_one : j < n → n ≤ 16 → length words₀ ≡ 16 → length schemas₀ ≡ 16 → (w v : ℕ) → w ≡ get_or strands (16 * level + j) 0 → v ≡ packed (stay (strand_in w))
        → Laying (map stay_entry (words_at strands level n)) words₀ schemas₀ 0 (set words j v) (set schemas j 0) (j + 1) (map stay_entry (row_from strands level n (j + 1)))
    stay_one h f lw ls w v ew ev =
        laying_one (map stay_entry (words_at strands level n)) words₀ schemas₀ 0 words schemas j (map stay_entry (row_from strands level n j)) y (stay_entry (get_or strands (16 * level + j) 0)) (map stay_entry (row_from strands level n (j + 1)))
        (ap (map stay_entry) (row_here strands level n j h))
        (omega arith)
        (omega arith)
        v
        0
        (ev ∙ ap (λ (x : ℕ). packed (stay (strand_in x))) ew)
        refl

    pub stay_end : n ≤ j → j ≤ 16 → (words ≡ overwrite words₀ 0 (map strand_word (map stay_entry (words_at strands level n)))) × (schemas ≡ overwrite schemas₀ 0 (map schema_word (map stay_entry (words_at strands level n))))
    stay_end h f =
        let z = laying_end (map stay_entry (words_at strands level n)) words₀ schemas₀ 0 words schemas j (map stay_entry (row_from strands level n j)) y (ap (map stay_entry) (row_end strands level n j h)) f in
        let g = counted_some (0 + length (map stay_entry (words_at strands level n))) j z.number in
        (z.strands g.0, z.marks g.0)

  pub stay_start : Laying (map stay_entry (words_at strands level n)) words₀ schemas₀ 0 words₀ schemas₀ 0 (map stay_entry (row_from strands level n 0))
  stay_start = rw (row_first strands level n) (laying_start (map stay_entry (words_at strands level n)) words₀ schemas₀ 0)

  -- those that the rules make
  module _ (index : List ℕ) (class : ℕ) where
    pub take_start : Laying (entries_from index class (words_at strands level n)) words₀ schemas₀ 0 words₀ schemas₀ 0 (entries_from index class (row_from strands level n 0))
    take_start = rw (row_first strands level n) (laying_start (entries_from index class (words_at strands level n)) words₀ schemas₀ 0)

    module _ (k j : ℕ) (y : Laying (entries_from index class (words_at strands level n)) words₀ schemas₀ 0 words schemas k (entries_from index class (row_from strands level n j))) where
      abbrev es : List Entry
      es = entries_from index class (words_at strands level n)

      abbrev Answer : List ℕ → List ℕ → Option ℕ → Type 0
      Answer words' schemas' r =
          (r ≡ counted (length es)) × (length es ≤ 16 → words' ≡ overwrite words₀ 0 (map strand_word es)) × (length es ≤ 16 → schemas' ≡ overwrite schemas₀ 0 (map schema_word es))

      answer : (words' schemas' : List ℕ) (r : Option ℕ) → Ended es words₀ schemas₀ 0 words' schemas' r → Answer words' schemas' r
      answer words' schemas' r z = (z.number ∙ ap counted (zero-add (length es)), λ h. z.strands (omega arith), λ h. z.marks (omega arith))

      module _ (h : j < n) (w : ℕ) (ew : w ≡ get_or strands (16 * level + j) 0) (words' schemas' : List ℕ) where
        next : entries_from index class (row_from strands level n j) ≡ entries_by index class (strand_in w) ++ entries_from index class (row_from strands level n (j + 1))
        unfolding gather
        next =
            ap (entries_from index class) (row_here strands level n j h)
            ∙ ap (λ (x : ℕ). entries_by index class (strand_in x) ++ entries_from index class (row_from strands level n (j + 1))) (sym ew)

        pub take_more : (r : ℕ) → Ended (entries_by index class (strand_in w)) words schemas k words' schemas' (Some r) → Laying (entries_from index class (words_at strands level n)) words₀ schemas₀ 0 words' schemas' r (entries_from index class (row_from strands level n (j + 1)))
        take_more r z =
            laying_more es words₀ schemas₀ 0 words schemas k (entries_from index class (row_from strands level n j)) y (entries_by index class (strand_in w)) (entries_from index class (row_from strands level n (j + 1))) next (omega arith) (omega arith) words' schemas' r z

        pub take_over : Ended (entries_by index class (strand_in w)) words schemas k words' schemas' None → Answer words' schemas' None
        take_over z =
            answer words' schemas' None
            (laying_over es words₀ schemas₀ 0 words schemas k (entries_from index class (row_from strands level n j)) y (entries_by index class (strand_in w)) (entries_from index class (row_from strands level n (j + 1))) next words' schemas' z)

      pub take_end : n ≤ j → k ≤ 16 → Answer words schemas (Some k)
      unfolding gather
      take_end h f =
          answer words schemas (Some k)
          (laying_end es words₀ schemas₀ 0 words schemas k (entries_from index class (row_from strands level n j)) y (ap (entries_from index class) (row_end strands level n j h)) f)
