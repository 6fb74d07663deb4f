-- Turns of the loops that count attributes, units and records.
--     total_next, kept-*                    one more of a list, or of those that pass a test
--     class_of_lem, section_is, section_not     an attribute's class and section as the arrays hold them
--     keeps_own, keeps_other                an attribute kept with its element
--     all_kept, kept_all                    where no attribute has a section
--     head-*                                the first attribute of a section
--     load_few                              the most records of a section
--     sum-*, sections-*, entries-*          sums over the strands and the sections so far
--     counted-*, *-in-mode, element_with    what one section, one strand, one element adds
--     with-*                                an element along a strand, by its tests
--     no_sections                           nothing where there are none
use Prim.Native.Nat.{ℕ, zero, suc, ◌+◌, ◌-◌, ◌*◌, ◌%◌, ◌≤◌, ◌<◌}
use mathlib.Core.Path.{◌≡◌, refl, sym, ap, ◌∙◌}
use mathlib.Core.List.{List, [], ◌∷◌, ◌++◌}
use mathlib.Core.Bool.{Bool, true, false, cond}
use native.Mathlib.Nat.{add-zero, zero-add, mul-le-mul}
use native.Mathlib.Omega.{arith}
use borrow.Author.Tests.{eq-eqb, ne_eqb}
use lib.ListN.{length, get_or, length-append}
use lib.Dec.{eqb}
use Rattle.laws.specs.Lists.{tabulate, keep}
use Rattle.laws.specs.Gather.{total}
use Rattle.laws.proofs.Lists.{tabulate_here, tabulate_done, length_tabulate, keep_append}
use Rattle.laws.proofs.Gather.{total_append}
use Rattle.reader.proofs.Tabulated.{tabulate_append}
use Rattle.model.specs.Stream.{Entry}
use Rattle.strands.specs.Packed.{strand_in, receives, is_unit}
use Rattle.strands.specs.Rules.{keeps_class, units_for}
use Rattle.strands.specs.Entries.{entry_in, entries_in}
use Rattle.attributes.specs.Attributes.{Sorted, given_in, sorted_in, all_sorted}
use Rattle.strands.specs.Writing.{members, head_class, keeps, section_count, element_count}

module _ {A : Type 0} (f : ℕ → A) where
  tabulate_next : (i k : ℕ) → tabulate f i (k + 1) ≡ tabulate f i k ++ (f (i + k) ∷ [])
  unfolding tabulate
  tabulate_next i k = tabulate_append f i k 1

  pub total_next : (g : A → ℕ) (i k : ℕ) → total g (tabulate f i (k + 1)) ≡ total g (tabulate f i k) + g (f (i + k))
  unfolding total
  total_next g i k =
      ap (total g) (tabulate_next i k)
      ∙ total_append g (tabulate f i k) (f (i + k) ∷ [])
      ∙ ap (λ (n : ℕ). total g (tabulate f i k) + n) (add-zero (g (f (i + k))))

  pub total_start : (g : A → ℕ) (i : ℕ) → 0 ≡ total g (tabulate f i 0)
  unfolding tabulate total
  total_start g i = refl

  module _ (p : A → Bool) where
    pub kept_start : 0 ≡ length (keep p (tabulate f 0 0))
    unfolding tabulate keep
    kept_start = refl

    split : (k : ℕ) → keep p (tabulate f 0 (k + 1)) ≡ keep p (tabulate f 0 k) ++ keep p (f k ∷ [])
    split k =
        ap (keep p) (tabulate_next 0 k)
        ∙ keep_append p (tabulate f 0 k) (f (0 + k) ∷ [])
        ∙ ap (λ (i : ℕ). keep p (tabulate f 0 k) ++ keep p (f i ∷ [])) (zero-add k)

    module _ (k m : ℕ) (e : m ≡ length (keep p (tabulate f 0 k))) where
      pub kept_next : p (f k) ≡ true → m + 1 ≡ length (keep p (tabulate f 0 (k + 1)))
      unfolding keep
      kept_next t =
          let one : keep p (f k ∷ []) ≡ f k ∷ [] = simp t in
          let l : length (keep p (tabulate f 0 (k + 1))) ≡ length (keep p (tabulate f 0 k)) + 1 =
          ap length (split k ∙ ap (λ (x : List A). keep p (tabulate f 0 k) ++ x) one) ∙ length-append (keep p (tabulate f 0 k)) (f k ∷ []) in
          omega arith

      pub kept_past : p (f k) ≡ false → m ≡ length (keep p (tabulate f 0 (k + 1)))
      unfolding keep
      kept_past t =
          let none : keep p (f k ∷ []) ≡ [] = simp t in
          let l : length (keep p (tabulate f 0 (k + 1))) ≡ length (keep p (tabulate f 0 k)) + 0 =
          ap length (split k ∙ ap (λ (x : List A). keep p (tabulate f 0 k) ++ x) none) ∙ length-append (keep p (tabulate f 0 k)) [] in
          omega arith

      pub kept_end : (n : ℕ) → k ≡ n → m ≡ length (keep p (tabulate f 0 n))
      kept_end n h = e ∙ ap (λ (i : ℕ). length (keep p (tabulate f 0 i))) h

-- the arrays at one attribute
module _ (attributes sections : List ℕ) (k : ℕ) where
  pub class_of_lem : (v : ℕ) → v ≡ get_or attributes (8 * k + 4) 0 % 256 → v ≡ (sorted_in attributes sections k).class
  unfolding sorted_in given_in
  class_of_lem v e = e

  section_of : (sorted_in attributes sections k).section ≡ get_or sections k 0
  unfolding sorted_in
  section_of = refl

  module _ (v j : ℕ) (e : v ≡ get_or sections k 0) where
    pub section_is : v ≡ j → eqb (sorted_in attributes sections k).section j ≡ true
    section_is h = eq-eqb (sorted_in attributes sections k).section j (section_of ∙ sym e ∙ h)

    pub section_not : (v ≡ j → ⊥) → eqb (sorted_in attributes sections k).section j ≡ false
    section_not h = ne_eqb (sorted_in attributes sections k).section j (λ (q : (sorted_in attributes sections k).section ≡ j). h (e ∙ sym section_of ∙ q))

  module _ (index : List ℕ) (mode : ℕ) where
    pub keeps_own : eqb (sorted_in attributes sections k).section 0 ≡ true → true ≡ keeps index mode (sorted_in attributes sections k)
    keeps_own e = rw e

    pub keeps_other : (v : Bool) (class : ℕ) → eqb (sorted_in attributes sections k).section 0 ≡ false → class ≡ (sorted_in attributes sections k).class
        → v ≡ keeps_class index mode class → v ≡ keeps index mode (sorted_in attributes sections k)
    keeps_other v class e c h = h ∙ rw (e, c)

-- where no attribute has a section, every one is kept
keep_each : {A : Type 0} (p : A → Bool) (f : ℕ → A) (k n : ℕ) → ((i : ℕ) → i < n → p (f (k + i)) ≡ true) → keep p (tabulate f k n) ≡ tabulate f k n
unfolding keep tabulate
keep_each p f k zero h = refl
keep_each {A} p f k (suc n) h =
    let e : p (f k) ≡ true = ap (λ (i : ℕ). p (f i)) (sym (add-zero k)) ∙ h 0 (omega arith) in
    rw e (ap (λ (l : List A). f k ∷ l) (keep_each p f (suc k) n (λ (i : ℕ) (q : i < n). ap (λ (j : ℕ). p (f j)) (omega arith) ∙ h (suc i) (omega arith))))

module _ (attributes sections : List ℕ) (n : ℕ) (zeros : (k : ℕ) → k < n → get_or sections k 0 ≡ 0) (index : List ℕ) where
  pub all_kept : (mode : ℕ) → keep (keeps index mode) (all_sorted attributes sections n) ≡ all_sorted attributes sections n
  all_kept mode =
      keep_each (keeps index mode) (sorted_in attributes sections) 0 n
      (λ (i : ℕ) (q : i < n). sym (keeps_own attributes sections (0 + i) index mode (section_is attributes sections (0 + i) (get_or sections (0 + i) 0) 0 refl (zeros (0 + i) (omega arith)))))

  pub kept_all : (mode : ℕ) → n ≡ length (keep (keeps index mode) (all_sorted attributes sections n))
  kept_all mode = sym (ap length (all_kept mode) ∙ length_tabulate (sorted_in attributes sections) 0 n)

pub head_start : (f : ℕ → Sorted) (j n : ℕ) → head_class (members (tabulate f 0 (n - 0)) j) ≡ head_class (members (tabulate f 0 n) j)
head_start f j n =
    let e : n - 0 ≡ n = omega arith in
    ap (λ (i : ℕ). head_class (members (tabulate f 0 i) j)) e

-- the first attribute of a section: v is its class, k the place of the loop
module _ (f : ℕ → Sorted) (j n v k : ℕ) (inv : head_class (members (tabulate f k (n - k)) j) ≡ v) where
  pub head_end : n ≤ k → 0 ≡ v
  unfolding keep
  head_end h = ap (λ (l : List Sorted). head_class (members l j)) (sym (tabulate_done f k n h)) ∙ inv

  pub head_here : k < n → eqb (f k).section j ≡ true → (f k).class ≡ v
  unfolding keep
  head_here h e = simp (← inv, tabulate_here f k n h, e)

  pub head_past : k < n → eqb (f k).section j ≡ false → head_class (members (tabulate f (k + 1) (n - (k + 1))) j) ≡ v
  unfolding keep
  head_past h e = simp (← inv, tabulate_here f k n h, e)

-- the records of a section's units
pub load_few : (v m : ℕ) → v ≤ 128 → m ≤ 16 → v * (4 + 2 * m) ≤ 4608
load_few v m h k =
    let n : 4 + 2 * m ≤ 36 = omega arith in
    mul-le-mul h n

-- ---- sums of what is counted so far
module _ {A : Type 0} (f : ℕ → A) (g : A → ℕ) (k u : ℕ) (inv : u ≡ total g (tabulate f 0 k)) where
  pub sum_next : (v : ℕ) → v ≡ g (f k) → u + v ≡ total g (tabulate f 0 (k + 1))
  sum_next v e =
      let z : g (f (0 + k)) ≡ g (f k) = ap (λ (i : ℕ). g (f i)) (zero-add k) in
      omega (arith, total_next f g 0 k)

  pub sum_end : (n : ℕ) → k ≡ n → u ≡ total g (tabulate f 0 n)
  sum_end n e = inv ∙ ap (λ (i : ℕ). total g (tabulate f 0 i)) e

-- over sections, which are numbered from 1: the loop stands at the j-th
module _ (g : ℕ → ℕ) (j u : ℕ) (inv : u ≡ total g (tabulate (λ (i : ℕ). i) 1 (j - 1))) where
  pub sections_next : (v : ℕ) → 1 ≤ j → v ≡ g j → u + v ≡ total g (tabulate (λ (i : ℕ). i) 1 (j + 1 - 1))
  sections_next v h e =
      let one : 1 + (j - 1) ≡ j = omega arith in
      let next : j - 1 + 1 ≡ j + 1 - 1 = omega arith in
      let z : g (1 + (j - 1)) ≡ g j = ap g one in
      let t : total g (tabulate (λ (i : ℕ). i) 1 (j - 1 + 1)) ≡ total g (tabulate (λ (i : ℕ). i) 1 (j + 1 - 1)) = ap (λ (i : ℕ). total g (tabulate (λ (x : ℕ). x) 1 i)) next in
      omega (arith, total_next (λ (i : ℕ). i) g 1 (j - 1))

  pub sections_end : (m : ℕ) → j ≡ m + 1 → u ≡ total g (tabulate (λ (i : ℕ). i) 1 m)
  sections_end m e =
      let last : j - 1 ≡ m = omega arith in
      inv ∙ ap (λ (i : ℕ). total g (tabulate (λ (x : ℕ). x) 1 i)) last

-- over strands
module _ (words schemas : List ℕ) (g : Entry → ℕ) where
  pub entries_start : 0 ≡ total g (entries_in words schemas 0)
  unfolding entries_in
  entries_start = total_start (entry_in words schemas) g 0

  module _ (k u : ℕ) (inv : u ≡ total g (entries_in words schemas k)) where
    pub entries_next : (v : ℕ) → v ≡ g (entry_in words schemas k) → u + v ≡ total g (entries_in words schemas (k + 1))
    unfolding entries_in
    entries_next v e = sum_next (entry_in words schemas) g k u inv v e

    pub entries_end : (n : ℕ) → k ≡ n → u ≡ total g (entries_in words schemas n)
    entries_end n e = inv ∙ ap (λ (i : ℕ). total g (entries_in words schemas i)) e

-- ---- a section's units and records, and those of a strand
module _ (index : List ℕ) (l : List Sorted) where
  module _ (mode j class v : ℕ) (c : class ≡ head_class (members l j)) (e : v ≡ units_for index mode class) where
    pub counted_units : v ≡ units_for index mode (head_class (members l j))
    counted_units = e ∙ ap (units_for index mode) c

    pub counted_records : (n : ℕ) → n ≡ length (members l j) → v * (4 + 2 * n) ≡ section_count index mode l j
    counted_records n h = ap (λ (x : ℕ). x * (4 + 2 * n)) counted_units ∙ ap (λ (x : ℕ). units_for index mode (head_class (members l j)) * (4 + 2 * x)) h

  module _ (js : List ℕ) (mode w v : ℕ) (m : mode ≡ (strand_in w).mode) where
    pub units_in_mode : v ≡ total (λ (j : ℕ). units_for index mode (head_class (members l j))) js
        → v ≡ total (λ (j : ℕ). units_for index (strand_in w).mode (head_class (members l j))) js
    units_in_mode e = e ∙ ap (λ (x : ℕ). total (λ (j : ℕ). units_for index x (head_class (members l j))) js) m

    pub records_in_mode : v ≡ total (section_count index mode l) js → v ≡ total (section_count index (strand_in w).mode l) js
    records_in_mode e = e ∙ ap (λ (x : ℕ). total (section_count index x l) js) m

  -- the element along a strand that keeps so many attributes
  pub element_with : (w schema mode kept r : ℕ) → mode ≡ (strand_in w).mode → kept ≡ length (keep (keeps index mode) l)
      → r ≡ cond (is_unit (receives (strand_in w))) (cond (strand_in w).here 1 0 + (1 + 2 * kept)) 0 → r ≡ element_count index l (record { strand = strand_in w; schema = schema })
  element_with w schema mode kept r m k e =
      let f : kept ≡ length (keep (keeps index (strand_in w).mode) l) = k ∙ ap (λ (x : ℕ). length (keep (keeps index x) l)) m in
      e ∙ ap (λ (x : ℕ). cond (is_unit (receives (strand_in w))) (cond (strand_in w).here 1 0 + (1 + 2 * x)) 0) f

-- no sections, no units
none_total : (g : ℕ → ℕ → ℕ) (ws : List ℕ) → 0 ≡ total (λ (w : ℕ). total (g w) (tabulate (λ (j : ℕ). j) 1 0)) ws
unfolding tabulate total
none_total g [] = refl
none_total g (w ∷ ws) = omega (arith, none_total g ws)

pub no_sections : (g : ℕ → ℕ → ℕ) (m : ℕ) (ws : List ℕ) → m ≡ 0 → 0 ≡ total (λ (w : ℕ). total (g w) (tabulate (λ (j : ℕ). j) 1 m)) ws
no_sections g m ws e = none_total g ws ∙ ap (λ (i : ℕ). total (λ (w : ℕ). total (g w) (tabulate (λ (j : ℕ). j) 1 i)) ws) (sym e)
