-- The element where every attribute is kept: its rows laid once as words, and copied along each strand.
--     element_whole                                  where no attribute has a section, every one is kept
--     attribute_laid, start_laid, rows_turn          the words of its rows laid
--     bodies_many, rows_held, rows_kept              what the array holds then
--     units_start, units_turn                        what each strand's unit adds
--     part_copied                                    some of the rows copied
--     copy_laid                                      along one strand
--     room_late, room_left, room_here, room_next     room for the rows; bytes-few: how many bytes they are
use Prim.Native.Nat.{ℕ, zero, suc, ◌+◌, ◌-◌, ◌*◌, ◌%◌, ◌^◌, ◌≤◌, ◌<◌}
use mathlib.Core.Path.{◌≡◌, refl, sym, ap, ap₂, ◌∙◌, subst}
use mathlib.Core.List.{List, [], ◌∷◌, ◌++◌, map, append-nil}
use mathlib.Core.Bool.{Bool, true, false, cond, not}
use mathlib.Core.Option.{Option, some}
use native.Mathlib.Nat.{zero-add, add-mul, mul-le-mul, one-mul, le_refl}
use native.Mathlib.Omega.{arith}
use mathlib.Core.Logic.{⊎_elim}
use borrow.Author.Tests.{not-false, le-leb, lt-leb}
use lib.Dec.{leb}
use lib.ListN.{length, get_or, set, length-map}
use lib.Seq.{get_or-set_same, get_or-set_other}
use Rattle.laws.specs.Lists.{tabulate}
use Rattle.laws.specs.Gather.{gather}
use Rattle.laws.specs.Members.{All}
use Rattle.laws.specs.Over.{overwrite}
use Rattle.laws.specs.Reading.{le_or_lt}
use Rattle.laws.proofs.Lists.{length_tabulate}
use Rattle.laws.proofs.Gather.{gather_append}
use Rattle.laws.proofs.Over.{set_over, four_set, get_d_over_in}
use Rattle.reader.proofs.Tabulated.{tabulate_append}
use Rattle.reader.specs.Spans.{span}
use Rattle.model.specs.Theory.{holds}
use Rattle.model.specs.Stream.{Entry, give}
use Rattle.model.specs.Records.{Body, plain}
use Rattle.model.proofs.Lists.{gather_map}
use Rattle.records.specs.declared.Row.{Row}
use Rattle.records.specs.Rows.{Laid, laid, laid_if, laid_rows, row_bytes, first_word, unit_word, last_word, body_words, words_row, ByteFields, InWords}
use Rattle.records.proofs.Laid.{rows_append, rows_if, rows_fit}
use Rattle.records.proofs.Words.{stored, laid_more, part_rows, words_length}
use Rattle.strands.specs.Packed.{strand_in, receives, is_unit, target_in}
use Rattle.attributes.specs.Attributes.{Sorted, given_in, sorted_in, all_sorted}
use Rattle.strands.specs.Writing.{row_for, row_of, opens_with, sorted_bodies, element_records, whole_bodies, whole_records}
use Rattle.strands.proofs.Counting.{all_kept}
use Rattle.strands.proofs.Counted.{bodies_length}
use Rattle.start_records.proofs.UnitRows.{held_rows}
use Rattle.start_records.proofs.ElementRows.{receives_target}

-- ---- every attribute is kept
pub element_whole : (attributes sections : List ℕ) (n : ℕ) → ((k : ℕ) → k < n → get_or sections k 0 ≡ 0) → (index : List ℕ) (at : ℕ) (begun : Body) (e : Entry)
    → whole_records at (whole_bodies begun (all_sorted attributes sections n)) e ≡ element_records index at begun (all_sorted attributes sections n) e
unfolding element_records whole_records
element_whole attributes sections n zeros index at begun e =
    ap (λ (l : List Sorted). give (receives e.strand) (opens_with at e.schema e.strand.here ++ map holds (begun ∷ gather sorted_bodies l))) (sym (all_kept attributes sections n zeros index e.strand.mode))

-- ---- the words of its rows
-- a first word and a last word, as `first_word` and `last_word` give them
abbrev First : ℕ → ℕ → ℕ → ℕ → ℕ → Type 0
First v kind class at len = (uri_at uri_len : ℕ) → v ≡ first_word (record { kind = kind; class = class; at = at; len = len; uri_at = uri_at; uri_len = uri_len })

abbrev Last : ℕ → ℕ → ℕ → ℕ → Type 0
Last v len uri_at uri_len = (kind class at : ℕ) → v ≡ last_word (record { kind = kind; class = class; at = at; len = len; uri_at = uri_at; uri_len = uri_len })

pub attribute_laid : (attributes sections : List ℕ) (k : ℕ) (rows : List ℕ) (class a b c d : ℕ) → 4 * k + 2 + 4 ≤ length rows → class ≡ (sorted_in attributes sections k).class
    → First a 2 class (get_or attributes (8 * k) 0) (get_or attributes (8 * k + 1) 0)
    → Last b (get_or attributes (8 * k + 1) 0) (get_or attributes (8 * k + 5) 0) (get_or attributes (8 * k + 6) 0)
    → First c 3 0 (get_or attributes (8 * k + 2) 0) (get_or attributes (8 * k + 3) 0)
    → Last d (get_or attributes (8 * k + 3) 0) 0 0
    → set (set (set (set rows (4 * k + 2) a) (4 * k + 2 + 1) b) (4 * k + 2 + 2) c) (4 * k + 2 + 3) d ≡ overwrite rows (4 * k + 2) (gather body_words (sorted_bodies (sorted_in attributes sections k)))
unfolding gather sorted_in given_in
attribute_laid attributes sections k rows class a b c d h e fa lb fc ld =
    let ea = fa (get_or attributes (8 * k + 5) 0) (get_or attributes (8 * k + 6) 0) in
    let eb = lb 2 (get_or attributes (8 * k + 4) 0 % 2 ^ 8) (get_or attributes (8 * k) 0) in
    let ec = fc 0 0 in
    let ed = ld 3 0 (get_or attributes (8 * k + 2) 0) in
    four_set rows (4 * k + 2) a b c d h ∙ ap (overwrite rows (4 * k + 2)) (cc (e, ea, eb, ec, ed))

-- those of the start and of the first k attributes
abbrev pub laid_words : Body → List ℕ → List ℕ → ℕ → List ℕ
laid_words begun attributes sections k = gather body_words (whole_bodies begun (all_sorted attributes sections k))

module _ (begun : Body) (attributes sections : List ℕ) where
  laid_length : (k : ℕ) → length (laid_words begun attributes sections k) ≡ 4 * k + 2
  laid_length k =
      omega (arith, words_length (whole_bodies begun (all_sorted attributes sections k)), bodies_length (all_sorted attributes sections k), length_tabulate (sorted_in attributes sections) 0 k)

  laid_next : (k : ℕ) → laid_words begun attributes sections (k + 1) ≡ laid_words begun attributes sections k ++ gather body_words (sorted_bodies (sorted_in attributes sections k))
  unfolding tabulate gather
  laid_next k =
      ap (λ (l : List Sorted). gather body_words (begun ∷ gather sorted_bodies l)) (tabulate_append (sorted_in attributes sections) 0 k 1)
      ∙ ap (λ (l : List Body). gather body_words (begun ∷ l)) (gather_append sorted_bodies (all_sorted attributes sections k) (sorted_in attributes sections (0 + k) ∷ []))
      ∙ gather_append body_words (begun ∷ gather sorted_bodies (all_sorted attributes sections k)) (gather sorted_bodies (sorted_in attributes sections (0 + k) ∷ []))
      ∙ ap (λ (i : ℕ). laid_words begun attributes sections k ++ gather body_words (sorted_bodies (sorted_in attributes sections i))) (zero-add k)

  pub start_laid : (rows : List ℕ) (a b : ℕ) → 2 ≤ length rows → First a begun.kind begun.class begun.at begun.len → Last b begun.len begun.uri_at begun.uri_len
      → set (set rows 0 a) 1 b ≡ overwrite rows 0 (laid_words begun attributes sections 0)
  unfolding tabulate gather
  start_laid rows a b h fa lb =
      let ea = fa begun.uri_at begun.uri_len in
      let eb = lb begun.kind begun.class begun.at in
      stored rows 0 _ (a ∷ []) 1 b (set_over rows 0 a (omega arith)) refl (omega arith)
      ∙ ap₂ (λ (x y : ℕ). overwrite rows 0 (x ∷ y ∷ [])) ea eb

  pub rows_turn : (rows₀ rows rows' : List ℕ) (k : ℕ) → rows ≡ overwrite rows₀ 0 (laid_words begun attributes sections k)
      → rows' ≡ overwrite rows (4 * k + 2) (gather body_words (sorted_bodies (sorted_in attributes sections k))) → rows' ≡ overwrite rows₀ 0 (laid_words begun attributes sections (k + 1))
  rows_turn rows₀ rows rows' k e f =
      laid_more rows₀ 0 rows rows' (laid_words begun attributes sections k) (gather body_words (sorted_bodies (sorted_in attributes sections k))) (4 * k + 2) (omega arith) e (omega (arith, laid_length k)) f
      ∙ ap (overwrite rows₀ 0) (sym (laid_next k))

-- ---- what the array holds then
-- kind and class of each are bytes
sorted_fields : (attributes sections : List ℕ) (k n : ℕ) → All ByteFields (gather sorted_bodies (tabulate (sorted_in attributes sections) k n))
unfolding tabulate gather sorted_in given_in
sorted_fields attributes sections k zero = tt
sorted_fields attributes sections k (suc n) = ((omega arith, omega arith), ((omega arith, omega arith), sorted_fields attributes sections (suc k) n))

module _ (begun : Body) (attributes sections : List ℕ) (n : ℕ) where
  pub bodies_many : length (whole_bodies begun (all_sorted attributes sections n)) ≡ 2 * n + 1
  bodies_many = omega (arith, bodies_length (all_sorted attributes sections n), length_tabulate (sorted_in attributes sections) 0 n)

  pub rows_held : (rows₀ rows : List ℕ) → ByteFields begun → rows ≡ overwrite rows₀ 0 (laid_words begun attributes sections n) → InWords rows (whole_bodies begun (all_sorted attributes sections n))
  rows_held rows₀ rows hb e = record { fields = (hb, sorted_fields attributes sections 0 n); held = at }
    where
      at : (i : ℕ) → i < 2 * length (whole_bodies begun (all_sorted attributes sections n)) → get_or rows i 0 ≡ get_or (laid_words begun attributes sections n) i 0
      at i h =
          ap₂ (λ (r : List ℕ) (j : ℕ). get_or r j 0) e (sym (zero-add i))
          ∙ get_d_over_in rows₀ 0 (laid_words begun attributes sections n) i 0 (omega (arith, words_length (whole_bodies begun (all_sorted attributes sections n)))) (omega arith)

pub rows_kept : (rows rows' : List ℕ) (bodies : List Body) → InWords rows bodies → length bodies ≤ 33 → ((i : ℕ) → i < 66 → get_or rows' i 0 ≡ get_or rows i 0) → InWords rows' bodies
rows_kept rows rows' bodies w h k = record { fields = w.fields; held = λ (i : ℕ) (q : i < 2 * length bodies). k i (omega arith) ∙ w.held i q }

-- ---- what each strand's unit adds
module _ (words rows₀ : List ℕ) where
  -- the first k of them are laid
  pub record Units (rows : List ℕ) (k : ℕ) : Type 0 where
    pub before : (i : ℕ) → i < 66 → get_or rows i 0 ≡ get_or rows₀ i 0
    pub units : (j : ℕ) → j < k → get_or rows (66 + j) 0 ≡ unit_word (target_in (get_or words j 0))

  pub units_start : Units rows₀ 0
  units_start = record { before = λ i h. refl; units = λ j h. absurd (omega arith) }

  pub units_turn : (rows : List ℕ) (k v u : ℕ) → Units rows k → 66 + k < length rows → u ≡ target_in (get_or words k 0) → v ≡ unit_word u → Units (set rows (66 + k) v) (k + 1)
  units_turn rows k v u y h f g =
      record {
        before = λ (i : ℕ) (q : i < 66). get_or-set_other rows (66 + k) i v 0 (omega arith) ∙ y.before i q;
        units = λ (j : ℕ) (q : j < k + 1). ⊎_elim
            (λ (s : k ≤ j). let e : j ≡ k = omega arith in rw e (get_or-set_same rows (66 + k) v 0 h ∙ g ∙ ap unit_word f))
            (λ (s : j < k). get_or-set_other rows (66 + k) (66 + j) v 0 (omega arith) ∙ y.units j s)
            (le_or_lt k j);
      }

-- some of the rows copied
pub part_copied : (rows : List ℕ) (before part after : List Body) (unit mark : ℕ) (out out' : List ℕ) (place j n : ℕ)
    → InWords rows (before ++ (part ++ after)) → length before ≡ j → length part ≡ n → mark ≡ unit_word unit → place + 16 * n ≤ length out
    → out' ≡ overwrite out place (gather (words_row rows mark) (tabulate (λ (i : ℕ). i) j n)) → laid out' (place + 16 * n) ≡ laid_rows (laid out place) (map (row_for unit) part)
unfolding row_bytes
part_copied rows before part after unit mark out out' place j n w b l m h g =
    let e : length (map (row_for unit) part) ≡ n = length-map part (row_for unit) ∙ l in
    ap₂ (λ (o : List ℕ) (i : ℕ). laid o (place + 16 * i))
    (g
    ∙ ap (λ (x : ℕ). overwrite out place (gather (words_row rows x) (tabulate (λ (i : ℕ). i) j n))) m
    ∙ ap₂ (λ (x y : ℕ). overwrite out place (gather (words_row rows (unit_word unit)) (tabulate (λ (i : ℕ). i) x y))) (sym b) (sym l)
    ∙ ap (overwrite out place) (part_rows rows unit before part after w ∙ sym (gather_map row_bytes (row_for unit) part)))
    (sym e)
    ∙ sym (rows_fit (map (row_for unit) part) out place (omega arith))

-- ---- along one strand
module _ (word schema at : ℕ) (b : Bool) (e : b ≡ is_unit (receives (strand_in word))) (bodies : List Body) where
  abbrev entry : Entry
  entry = record { strand = strand_in word; schema = schema }

  given_rows : (unit : ℕ) (here : Bool) → map row_of (give (some unit) (opens_with at schema here ++ map holds bodies)) ≡ cond here (row_for unit (plain 0 schema (span at 0)) ∷ []) [] ++ map (row_for unit) bodies
  given_rows unit true = ap (λ (rs : List Row). row_for unit (plain 0 schema (span at 0)) ∷ rs) (held_rows unit bodies)
  given_rows unit false = held_rows unit bodies

  given_laid : (unit : ℕ) (here : Bool) (w₀ w₁ : Laid) → w₁ ≡ laid_if here w₀ (row_for unit (plain 0 schema (span at 0)))
      → laid_rows w₁ (map (row_for unit) bodies) ≡ laid_rows w₀ (map row_of (give (some unit) (opens_with at schema here ++ map holds bodies)))
  given_laid unit here w₀ w₁ q =
      ap (λ (x : Laid). laid_rows x (map (row_for unit) bodies)) (q ∙ rows_if w₀ here (row_for unit (plain 0 schema (span at 0))))
      ∙ sym (rows_append w₀ (cond here (row_for unit (plain 0 schema (span at 0)) ∷ []) []) (map (row_for unit) bodies))
      ∙ ap (laid_rows w₀) (sym (given_rows unit here))

  pub copy_laid : not b ≡ false → (unit : ℕ) (here : Bool) → unit ≡ target_in word → here ≡ (strand_in word).here
      → (rows out₀ out₁ out₂ : List ℕ) (from place n mark : ℕ)
      → laid out₁ place ≡ laid_if here (laid out₀ from) (row_for unit (plain 0 schema (span at 0)))
      → InWords rows bodies → length bodies ≡ n → place + 16 * n ≤ length out₁ → mark ≡ unit_word (target_in word)
      → out₂ ≡ overwrite out₁ place (gather (words_row rows mark) (tabulate (λ (i : ℕ). i) 0 n))
      → laid out₂ (place + 16 * n) ≡ laid_rows (laid out₀ from) (map row_of (whole_records at bodies (record { strand = strand_in word; schema = schema })))
  unfolding whole_records
  copy_laid h unit here u k rows out₀ out₁ out₂ from place n mark q w l f m g =
      let r : receives (strand_in word) ≡ some unit = receives_target word (sym e ∙ not-false b h) ∙ ap some (sym u) in
      part_copied rows [] bodies [] unit mark out₁ out₂ place 0 n (subst (InWords rows) (sym (append-nil bodies)) w) refl l (m ∙ ap unit_word (sym u)) f g
      ∙ given_laid unit here (laid out₀ from) (laid out₁ place) q
      ∙ ap₂ (λ (o : Option ℕ) (x : Bool). laid_rows (laid out₀ from) (map row_of (give o (opens_with at schema x ++ map holds bodies)))) (sym r) k

-- ---- room for the rows along all strands
pub room_late : (size from bytes : ℕ) → size < from → false ≡ leb (from + bytes) size
room_late size from bytes h = sym (lt-leb (from + bytes) size (omega arith))

pub room_left : (size from bytes : ℕ) → from ≤ size → leb bytes (size - from) ≡ leb (from + bytes) size
room_left size from bytes h =
    ⊎_elim
    (λ (k : from + bytes ≤ size). le-leb bytes (size - from) (omega arith) ∙ sym (le-leb (from + bytes) size k))
    (λ (k : size < from + bytes). lt-leb bytes (size - from) (omega arith) ∙ sym (lt-leb (from + bytes) size k))
    (le_or_lt (from + bytes) size)

-- room for those that are left, each of `size` bytes at most
module _ (size k from used : ℕ) (h : used ≤ from + k * size) where
  next_size : (k + 1) * size ≡ k * size + size
  next_size = add-mul k 1 size ∙ ap (λ (x : ℕ). k * size + x) (one-mul size)

  pub room_here : (count room : ℕ) → k < count → from + count * size ≤ room → used + size ≤ room
  room_here count room c r =
      let s : k + 1 ≤ count = omega arith in
      let m : (k + 1) * size ≤ count * size = mul-le-mul s (le_refl size) in
      omega (arith, next_size)

  pub room_next : (r : ℕ) → r ≤ used + size → r ≤ from + (k + 1) * size
  room_next r q = omega (arith, next_size)

-- so few bytes
pub bytes_few : (count n : ℕ) → count ≤ 16 → n ≤ 16 → count * (32 * (n + 1)) ≤ 8704
bytes_few count n h k =
    let m : 32 * (n + 1) ≤ 544 = omega arith in
    mul-le-mul h m
