-- What a start makes, as the code decides it: the ways of `joins`, `next_strands` and `weigh`.
use Prim.Native.Nat.{ℕ, ◌+◌, ◌*◌, ◌-◌, ◌≤◌, ◌<◌}
use mathlib.Core.Path.{◌≡◌, refl, sym, ap, ap₂, subst, ◌∙◌}
use mathlib.Core.List.{List, [], ◌∷◌, ◌++◌, map}
use mathlib.Core.Option.{Option}
use mathlib.Core.Bool.{Bool, true, false, cond}
use native.Mathlib.Nat.{add-zero, zero-add}
use native.Mathlib.Omega.{arith}
use Rattle.std.specs.declared.option.Option as rust
use Rattle.std.specs.Prelude.{Some}
use borrow.Author.Tests.{eq-eqb, ne_eqb, le-leb}
use lib.ListN.{length, get_or, take, drop, length-map, take-append-drop}
use lib.Dec.{eqb}
use Rattle.std.specs.Prelude as std
use Rattle.laws.specs.Lists.{same_list, tabulate}
use Rattle.laws.specs.Over.{overwrite}
use Rattle.laws.specs.Gather.{total}
use Rattle.laws.specs.Members.{All}
use Rattle.laws.proofs.Lists.{length_tabulate}
use Rattle.compare.specs.Compare.{span_of}
use Rattle.reader.specs.Spans.{span, bytes_of}
use Rattle.model.specs.Theory.{Action}
use Rattle.model.specs.Stream.{Entry, allot, new_units}
use Rattle.strands.specs.Packed.{strand_in, words_at}
use Rattle.strands.specs.Entries.{entries_by, entries_from, stay_entry, counted, strand_word, schema_word, here_count, Unnumbered, entries_in}
use Rattle.strands.specs.Rules.{units_for}
use Rattle.entries.proofs.Entered.{here_count_lem}
use Rattle.attributes.specs.Attributes.{Sorted}
use Rattle.strands.specs.Writing.{members, head_class, section_count, element_count}
use Rattle.openings.specs.declared.Decided.{Decided}

-- ---- whether the level's namespace is the element's, by the level's class
module _ (spaces : List ℕ) (level class : ℕ) (v : ℕ) (e : v ≡ get_or spaces (4 * level + 0) 0) where
  class_at_lem : get_or spaces (4 * level) 0 ≡ v
  class_at_lem = ap (λ (i : ℕ). get_or spaces i 0) (sym (add-zero (4 * level))) ∙ sym e

  pub by_class : (same : Bool) → (v ≡ 255 → ⊥) → eqb v class ≡ cond (eqb (get_or spaces (4 * level) 0) 255) same (eqb (get_or spaces (4 * level) 0) class)
  by_class same h = rw (class_at_lem, ne_eqb v 255 h)

  pub by_uri : (s uri part : List ℕ) (at len : ℕ) (r : Bool) → v ≡ 255 → at ≡ get_or spaces (4 * level + 1) 0 → len ≡ get_or spaces (4 * level + 2) 0 → part ≡ span_of s at len → r ≡ same_list uri part
      → r ≡ cond (eqb (get_or spaces (4 * level) 0) 255) (same_list uri (bytes_of s (span (get_or spaces (4 * level + 1) 0) (get_or spaces (4 * level + 2) 0)))) (eqb (get_or spaces (4 * level) 0) class)
  by_uri s uri part at len r h ea el ep er = rw (class_at_lem, eq-eqb v 255 h, er, ep, ea, el)

-- ---- the strands, and how many
stays_length : (strands : List ℕ) (level n : ℕ) → length (map stay_entry (words_at strands level n)) ≡ n
stays_length strands level n = length-map (words_at strands level n) stay_entry ∙ length_tabulate (λ (i : ℕ). get_or strands i 0) (16 * level) n

abbrev pub joined_by : List ℕ → List ℕ → List ℕ → ℕ → ℕ → Bool
joined_by s uri spaces class level =
    cond (eqb (get_or spaces (4 * level) 0) 255)
    (same_list uri (bytes_of s (span (get_or spaces (4 * level + 1) 0) (get_or spaces (4 * level + 2) 0))))
    (eqb (get_or spaces (4 * level) 0) class)

abbrev pub level_words : List ℕ → List ℕ → ℕ → List ℕ
level_words spaces strands level = words_at strands level (get_or spaces (4 * level + 3) 0)

abbrev pub next_entries : List ℕ → List ℕ → List ℕ → List ℕ → List ℕ → ℕ → ℕ → List Entry
next_entries index s uri spaces strands class depth =
    cond (eqb depth 0) (entries_by index class (strand_in 32))
    (cond (joined_by s uri spaces class (depth - 1)) (map stay_entry (level_words spaces strands (depth - 1))) (entries_from index class (level_words spaces strands (depth - 1))))

abbrev pub Entering : List Entry → List ℕ → List ℕ → List ℕ → List ℕ → rust.Option ℕ → Type 0
Entering es words₀ schemas₀ words schemas r =
    (r ≡ counted (length es))
    × (length es ≤ 16 → words ≡ overwrite words₀ 0 (map strand_word es))
    × (length es ≤ 16 → schemas ≡ overwrite schemas₀ 0 (map schema_word es))

module _ (index s uri spaces strands : List ℕ) (class depth : ℕ) (words₀ schemas₀ words schemas : List ℕ) where
  abbrev first : List Entry
  first = entries_by index class (strand_in 32)

  abbrev ws : List ℕ
  ws = level_words spaces strands (depth - 1)

  abbrev es : List Entry
  es = next_entries index s uri spaces strands class depth

  as_first : depth ≡ 0 → es ≡ first
  as_first e = rw (eq-eqb depth 0 e)

  pub at_root : (r : rust.Option ℕ) → depth ≡ 0 → (r ≡ counted (0 + length first))
      × (0 + length first ≤ 16 → words ≡ overwrite words₀ 0 (map strand_word first)) × (0 + length first ≤ 16 → schemas ≡ overwrite schemas₀ 0 (map schema_word first))
      → Entering (next_entries index s uri spaces strands class depth) words₀ schemas₀ words schemas r
  at_root r e h = rw (as_first e) (h.0 ∙ ap counted (zero-add (length first)), λ f. h.1 (omega arith), λ f. h.2 (omega arith))

  module _ (n : depth ≡ 0 → ⊥) (j : Bool) (ej : j ≡ joined_by s uri spaces class (depth - 1)) where
    as_stay : j ≡ true → es ≡ map stay_entry ws
    as_stay t = rw (ne_eqb depth 0 n, ← ej, t)

    as_taken : j ≡ false → es ≡ entries_from index class ws
    as_taken t = rw (ne_eqb depth 0 n, ← ej, t)

    pub at_same : j ≡ true → (r : ℕ) → r ≡ get_or spaces (4 * (depth - 1) + 3) 0 → get_or spaces (4 * (depth - 1) + 3) 0 ≤ 16
        → (words ≡ overwrite words₀ 0 (map strand_word (map stay_entry (words_at strands (depth - 1) r)))) × (schemas ≡ overwrite schemas₀ 0 (map schema_word (map stay_entry (words_at strands (depth - 1) r))))
        → Entering (next_entries index s uri spaces strands class depth) words₀ schemas₀ words schemas (Some r)
    at_same t r e few h =
        let k = get_or spaces (4 * (depth - 1) + 3) 0 in
        let c : counted k ≡ Some k = rw (le-leb k 16 few) in
        let g : (words ≡ overwrite words₀ 0 (map strand_word (map stay_entry ws))) × (schemas ≡ overwrite schemas₀ 0 (map schema_word (map stay_entry ws))) =
        subst (λ (x : ℕ). (words ≡ overwrite words₀ 0 (map strand_word (map stay_entry (words_at strands (depth - 1) x)))) × (schemas ≡ overwrite schemas₀ 0 (map schema_word (map stay_entry (words_at strands (depth - 1) x))))) e h in
        rw (as_stay t) (ap Some e ∙ sym c ∙ ap counted (sym (stays_length strands (depth - 1) k)), λ f. g.0, λ f. g.1)

    pub at_new : j ≡ false → (n : ℕ) → n ≡ get_or spaces (4 * (depth - 1) + 3) 0 → (r : rust.Option ℕ)
        → Entering (entries_from index class (words_at strands (depth - 1) n)) words₀ schemas₀ words schemas r
        → Entering (next_entries index s uri spaces strands class depth) words₀ schemas₀ words schemas r
    at_new t n e r h = rw (as_taken t) (subst (λ (x : ℕ). Entering (entries_from index class (words_at strands (depth - 1) x)) words₀ schemas₀ words schemas r) e h)

-- ---- units and records
abbrev pub words_of : List ℕ → ℕ → List ℕ
words_of words count = tabulate (λ (k : ℕ). get_or words k 0) 0 count

abbrev pub load_units : List ℕ → List Sorted → ℕ → List ℕ → ℕ
load_units index l m ws =
    total (λ (w : ℕ). total (λ (j : ℕ). units_for index (strand_in w).mode (head_class (members l j))) (tabulate (λ (j : ℕ). j) 1 m)) ws

abbrev pub load_records : List ℕ → List Sorted → ℕ → List ℕ → ℕ
load_records index l m ws = total (λ (w : ℕ). total (section_count index (strand_in w).mode l) (tabulate (λ (j : ℕ). j) 1 m)) ws

abbrev pub Numbers : ℕ → ℕ → List ℕ → List ℕ → Type 0
Numbers count first words₀ words =
    (es : List Entry) → length es ≡ count → take count words₀ ≡ map strand_word es → All Unnumbered es → words ≡ overwrite words₀ 0 (map strand_word (allot first es))

-- where no unit opens, none is numbered
allot_none : (u : ℕ) (es : List Entry) → new_units es ≡ 0 → allot u es ≡ es
unfolding total
allot_none u [] h = refl
allot_none u (e ∷ es) h = by e.strand.mode e.strand.action e.strand.target e.strand.here e.schema h (allot_none u es)
  where
    by : (m : ℕ) (a : Action) (t : Option ℕ) (b : Bool) (n : ℕ) → cond b 1 0 + new_units es ≡ 0 → (new_units es ≡ 0 → allot u es ≡ es)
        → allot u (record { strand = record { mode = m; action = a; target = t; here = b }; schema = n } ∷ es) ≡ record { strand = record { mode = m; action = a; target = t; here = b }; schema = n } ∷ es
    by m a t false n z ih = ap (λ (l : List Entry). record { strand = record { mode = m; action = a; target = t; here = false }; schema = n } ∷ l) (ih (omega (arith, z)))
    by m a t true n z ih = absurd (omega (arith, z))

-- the first n laid over themselves
over_itself : (xs ys : List ℕ) (n : ℕ) → length ys ≡ n → take n xs ≡ ys → overwrite xs 0 ys ≡ xs
unfolding overwrite
over_itself xs ys n el et =
    ap (λ (k : ℕ). ys ++ drop k xs) (zero-add (length ys) ∙ el)
    ∙ ap (λ (l : List ℕ). l ++ drop n xs) (sym et)
    ∙ take-append-drop n xs

pub numbers_none : (count first : ℕ) (words : List ℕ) → here_count (take count words) ≡ 0 → Numbers count first words words
numbers_none count first words h es el et a =
    sym (ap (λ (l : List Entry). overwrite words 0 (map strand_word l)) (allot_none first es (sym (here_count_lem es a) ∙ ap here_count (sym et) ∙ h))
    ∙ over_itself words (map strand_word es) count (length-map es strand_word ∙ el) et)

abbrev pub Weighed : List ℕ → List Sorted → ℕ → ℕ → ℕ → ℕ → List ℕ → List ℕ → std.Option Decided → Type 0
Weighed index l n m count units words₀ words r =
    let first = units + load_units index l m (words_of words₀ count) in
    let all = first + here_count (take count words₀) in
    std.MatchOption r (65536 < all) (λ (d : Decided). (all ≤ 65536)
    × ((d.strands ≡ count) × (d.attributes ≡ n) × (d.sections ≡ m) × (d.units ≡ all))
    × ((schemas : List ℕ) → d.records ≡ load_records index l m (words_of words₀ count) + total (element_count index l) (entries_in words schemas count))
    × Numbers count first words₀ words)

module _ (index : List ℕ) (l : List Sorted) (n m count units : ℕ) (words₀ words : List ℕ) (u h : ℕ) (eu : u ≡ load_units index l m (words_of words₀ count)) (eh : h ≡ here_count (take count words₀)) where
  all_is : units + u + h ≡ units + load_units index l m (words_of words₀ count) + here_count (take count words₀)
  all_is = rw (eu, eh)

  -- units past the last number
  pub weigh_heavy : 65536 < units + u + h → Weighed index l n m count units words₀ words std.None
  weigh_heavy f = omega (arith, all_is)

  pub weigh_light : units + u + h ≤ 65536 → (k e : ℕ) → k ≡ load_records index l m (words_of words₀ count)
      → ((schemas : List ℕ) → e ≡ total (element_count index l) (entries_in words schemas count)) → Numbers count (units + u) words₀ words
      → Weighed index l n m count units words₀ words (std.Some (record { strands = count; attributes = n; sections = m; units = units + u + h; records = k + e }))
  weigh_light f k e ek ee g = (
    omega (arith, all_is),
    (refl, refl, refl, all_is),
    λ schemas. ap₂ ◌+◌ ek (ee schemas),
    subst (λ (x : ℕ). Numbers count (units + x) words₀ words) eu g,
  )
