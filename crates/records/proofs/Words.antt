-- A row's words: their bytes are the row's.
--     row_words              of one row
--     first_few, unit_few    the first word and what a unit adds to it fit 64 bits
--     stored, laid_more      one number more behind those that are laid, and some more
--     row_laid               a row kept as words laid
--     words_start, -turn     the loop that lays such rows
--     pair_laid              two of them laid
--     part_rows              some of what an array holds as words, laid: the bytes of the rows
--     words_few, -length     the first words of rows; how many words they are
use mathlib.Core.Path.{◌≡◌, refl, sym, ap, ap₂, ◌∙◌}
use mathlib.Core.List.{List, [], ◌∷◌, ◌++◌, append-nil}
use Prim.Native.Nat.{ℕ, zero, suc, ◌+◌, ◌*◌, ◌/◌, ◌%◌, ◌^◌, ◌≤◌, ◌<◌}
use native.Mathlib.Nat.{zero-add, mod-eq_of_lt}
use native.Mathlib.Numerals.{add-one}
use native.Mathlib.Omega.{arith}
use lib.ListN.{length, get_or, set, length-append, get_or-append}
use lib.Seq.{get_or-append-add}
use Rattle.laws.specs.Lists.{tabulate}
use Rattle.laws.specs.Gather.{gather}
use Rattle.laws.specs.Members.{All}
use Rattle.laws.specs.Over.{overwrite}
use Rattle.laws.proofs.Over.{over_none, over_set, over_over}
use Rattle.laws.proofs.Lists.{length_tabulate}
use Rattle.laws.proofs.Gather.{gather_append}
use Rattle.reader.proofs.Tabulated.{tabulate_append}
use Rattle.model.specs.Records.{Body, record_bytes}
use Rattle.model.proofs.Lists.{all_left, all_right}
use Rattle.records.specs.declared.Row.{Row}
use Rattle.records.specs.Rows.{body_of, row_bytes, bytes8, first_word, unit_word, last_word, body_words, words_row, ByteFields, InWords}

-- ---- one row
module _ (u k c a l : ℕ) (hk : k < 256) (hc : c < 256) where
  abbrev first : ℕ
  first = k * 2 ^ 40 + c * 2 ^ 32 + a % 2 ^ 24 * 2 ^ 8 + l / 2 ^ 16 % 2 ^ 8 + u % 2 ^ 16 * 2 ^ 48

  first_0 : u / 2 ^ 8 % 2 ^ 8 ≡ first / 2 ^ 56 % 2 ^ 8
  first_0 = omega arith

  first_1 : u % 2 ^ 8 ≡ first / 2 ^ 48 % 2 ^ 8
  first_1 = omega arith

  first_2 : k ≡ first / 2 ^ 40 % 2 ^ 8
  first_2 = omega arith

  first_3 : c ≡ first / 2 ^ 32 % 2 ^ 8
  first_3 = omega arith

  first_4 : a / 2 ^ 16 % 2 ^ 8 ≡ first / 2 ^ 24 % 2 ^ 8
  first_4 = omega arith

  first_5 : a / 2 ^ 8 % 2 ^ 8 ≡ first / 2 ^ 16 % 2 ^ 8
  first_5 = omega arith

  first_6 : a % 2 ^ 8 ≡ first / 2 ^ 8 % 2 ^ 8
  first_6 = omega arith

  first_7 : l / 2 ^ 16 % 2 ^ 8 ≡ first % 2 ^ 8
  first_7 = omega arith

  first_bytes : u / 2 ^ 8 % 2 ^ 8 ∷ u % 2 ^ 8 ∷ k ∷ c ∷ a / 2 ^ 16 % 2 ^ 8 ∷ a / 2 ^ 8 % 2 ^ 8 ∷ a % 2 ^ 8 ∷ l / 2 ^ 16 % 2 ^ 8 ∷ [] ≡ bytes8 first
  unfolding bytes8
  first_bytes = cc (first_0, first_1, first_2, first_3, first_4, first_5, first_6, first_7)

module _ (l a n : ℕ) where
  abbrev last : ℕ
  last = l % 2 ^ 16 * 2 ^ 48 + a % 2 ^ 24 * 2 ^ 24 + n % 2 ^ 24

  last_0 : l / 2 ^ 8 % 2 ^ 8 ≡ last / 2 ^ 56 % 2 ^ 8
  last_0 = omega arith

  last_1 : l % 2 ^ 8 ≡ last / 2 ^ 48 % 2 ^ 8
  last_1 = omega arith

  last_2 : a / 2 ^ 16 % 2 ^ 8 ≡ last / 2 ^ 40 % 2 ^ 8
  last_2 = omega arith

  last_3 : a / 2 ^ 8 % 2 ^ 8 ≡ last / 2 ^ 32 % 2 ^ 8
  last_3 = omega arith

  last_4 : a % 2 ^ 8 ≡ last / 2 ^ 24 % 2 ^ 8
  last_4 = omega arith

  last_5 : n / 2 ^ 16 % 2 ^ 8 ≡ last / 2 ^ 16 % 2 ^ 8
  last_5 = omega arith

  last_6 : n / 2 ^ 8 % 2 ^ 8 ≡ last / 2 ^ 8 % 2 ^ 8
  last_6 = omega arith

  last_7 : n % 2 ^ 8 ≡ last % 2 ^ 8
  last_7 = omega arith

  last_bytes : l / 2 ^ 8 % 2 ^ 8 ∷ l % 2 ^ 8 ∷ a / 2 ^ 16 % 2 ^ 8 ∷ a / 2 ^ 8 % 2 ^ 8 ∷ a % 2 ^ 8 ∷ n / 2 ^ 16 % 2 ^ 8 ∷ n / 2 ^ 8 % 2 ^ 8 ∷ n % 2 ^ 8 ∷ [] ≡ bytes8 last
  unfolding bytes8
  last_bytes = cc (last_0, last_1, last_2, last_3, last_4, last_5, last_6, last_7)

record_words : (unit : ℕ) (b : Body) → b.kind < 256 → b.class < 256 → record_bytes unit b ≡ bytes8 (first_word b + unit_word unit) ++ bytes8 (last_word b)
unfolding record_bytes first_word unit_word last_word
record_words unit b k c =
    rw (mod-eq_of_lt k, mod-eq_of_lt c) (ap₂ ◌++◌ (first_bytes unit b.kind b.class b.at b.len k c) (last_bytes b.len b.uri_at b.uri_len))

pub row_words : (r : Row) → r.kind < 256 → r.class < 256 → row_bytes r ≡ bytes8 (first_word (body_of r) + unit_word r.unit) ++ bytes8 (last_word (body_of r))
unfolding row_bytes
row_words r k c = record_words r.unit (body_of r) k c

pub first_few : (b : Body) → b.kind < 256 → b.class < 256 → first_word b < 2 ^ 48
unfolding first_word
first_few b k c = omega arith

pub unit_few : (unit : ℕ) → unit_word unit + 2 ^ 48 ≤ 2 ^ 64
unfolding unit_word
unit_few unit = omega arith

-- ---- a word's bytes
bytes_length : (w : ℕ) → length (bytes8 w) ≡ 8
unfolding bytes8
bytes_length w = refl

-- ---- behind those that are laid: one number stored
module _ (out : List ℕ) (at : ℕ) where
  pub stored : (x ys : List ℕ) (k v : ℕ) → x ≡ overwrite out at ys → length ys ≡ k → at + k < length out → set x (at + k) v ≡ overwrite out at (ys ++ (v ∷ []))
  stored x ys k v e l h =
      ap (λ (o : List ℕ). set o (at + k) v) e
      ∙ ap (λ (j : ℕ). set (overwrite out at ys) (at + j) v) (sym l)
      ∙ over_set out at ys v (omega arith)

  -- and some more
  pub laid_more : (x y ys zs : List ℕ) (k : ℕ) → at ≤ length out → x ≡ overwrite out at ys → k ≡ at + length ys → y ≡ overwrite x k zs → y ≡ overwrite out at (ys ++ zs)
  laid_more x y ys zs k h e l f =
      f
      ∙ ap (λ (o : List ℕ). overwrite o k zs) e
      ∙ ap (λ (i : ℕ). overwrite (overwrite out at ys) i zs) l
      ∙ over_over out at ys zs h

-- ---- rows kept as words
module _ (words : List ℕ) (unit : ℕ) where
  row_length : (j : ℕ) → length (words_row words unit j) ≡ 16
  unfolding words_row
  row_length j =
      omega (arith, length-append (bytes8 (get_or words (2 * j) 0 + unit)) (bytes8 (get_or words (2 * j + 1) 0)), bytes_length (get_or words (2 * j) 0 + unit), bytes_length (get_or words (2 * j + 1) 0))

  -- the first j of them
  abbrev pub words_rows : ℕ → List ℕ
  words_rows j = gather (words_row words unit) (tabulate (λ (i : ℕ). i) 0 j)

  rows_next : (j : ℕ) → words_rows (j + 1) ≡ words_rows j ++ words_row words unit j
  unfolding tabulate gather
  rows_next j =
      ap (gather (words_row words unit)) (tabulate_append (λ (i : ℕ). i) 0 j 1)
      ∙ gather_append (words_row words unit) (tabulate (λ (i : ℕ). i) 0 j) ((0 + j) ∷ [])
      ∙ ap (λ (l : List ℕ). words_rows j ++ l) (append-nil (words_row words unit (0 + j)))
      ∙ ap (λ (i : ℕ). words_rows j ++ words_row words unit i) (zero-add j)

  rows_length : (js : List ℕ) → length (gather (words_row words unit) js) ≡ 16 * length js
  unfolding gather
  rows_length [] = refl
  rows_length (j ∷ js) = omega (arith, length-append (words_row words unit j) (gather (words_row words unit) js), row_length j, rows_length js)

  module _ (out : List ℕ) (at : ℕ) where
    pub words_start : out ≡ overwrite out at (words_rows 0)
    unfolding tabulate gather
    words_start = sym (over_none out at)

    -- two words are a row
    pub row_laid : (x y : List ℕ) (j : ℕ) → at ≤ length out
        → x ≡ overwrite out at (bytes8 (get_or words (2 * j) 0 + unit)) → y ≡ overwrite x (at + 8) (bytes8 (get_or words (2 * j + 1) 0))
        → y ≡ overwrite out at (words_row words unit j)
    unfolding words_row
    row_laid x y j h e f =
        let a : List ℕ = bytes8 (get_or words (2 * j) 0 + unit) in
        laid_more out at x y a (bytes8 (get_or words (2 * j + 1) 0)) (at + 8) h e (omega (arith, bytes_length (get_or words (2 * j) 0 + unit))) f

    -- a turn: one row more
    pub words_turn : (x y : List ℕ) (j : ℕ) → at ≤ length out → x ≡ overwrite out at (words_rows j) → y ≡ overwrite x (at + 16 * j) (words_row words unit j)
        → y ≡ overwrite out at (words_rows (j + 1))
    words_turn x y j h e f =
        let l : length (words_rows j) ≡ 16 * j = rows_length (tabulate (λ (i : ℕ). i) 0 j) ∙ ap (λ (n : ℕ). 16 * n) (length_tabulate (λ (i : ℕ). i) 0 j) in
        laid_more out at x y (words_rows j) (words_row words unit j) (at + 16 * j) h e (omega arith) f ∙ ap (overwrite out at) (sym (rows_next j))

    pub pair_laid : (x y : List ℕ) (j : ℕ) → at ≤ length out → x ≡ overwrite out at (words_row words unit j) → y ≡ overwrite x (at + 16) (words_row words unit (j + 1))
        → y ≡ overwrite out at (gather (words_row words unit) (tabulate (λ (i : ℕ). i) j 2))
    unfolding tabulate gather
    pair_laid x y j h e f =
        let a : List ℕ = words_row words unit j in
        laid_more out at x y a (words_row words unit (j + 1)) (at + 16) h e (omega (arith, row_length j)) f
        ∙ ap (λ (r : List ℕ). overwrite out at (a ++ r)) (ap (words_row words unit) (add-one j) ∙ sym (append-nil (words_row words unit (suc j))))

-- ---- rows that an array holds as words
-- two to each
pub words_length : (bodies : List Body) → length (gather body_words bodies) ≡ 2 * length bodies
unfolding gather
words_length [] = refl
words_length (b ∷ bodies) = omega (arith, words_length bodies)

module _ (words : List ℕ) (unit : ℕ) where
  from_row : (bodies : List Body) (k : ℕ) → All ByteFields bodies → ((i : ℕ) → i < 2 * length bodies → get_or words (2 * k + i) 0 ≡ get_or (gather body_words bodies) i 0)
      → gather (words_row words (unit_word unit)) (tabulate (λ (i : ℕ). i) k (length bodies)) ≡ gather (record_bytes unit) bodies
  unfolding tabulate gather words_row
  from_row [] k a h = refl
  from_row (b ∷ bodies) k a h =
      let e : get_or words (2 * k) 0 ≡ first_word b = ap (λ (i : ℕ). get_or words i 0) (omega arith) ∙ h 0 (omega arith) in
      let f : get_or words (2 * k + 1) 0 ≡ last_word b = h 1 (omega arith) in
      ap₂ ◌++◌
      (ap₂ (λ (x y : ℕ). bytes8 (x + unit_word unit) ++ bytes8 y) e f ∙ sym (record_words unit b a.0.0 a.0.1))
      (from_row bodies (suc k) a.1 (λ (i : ℕ) (q : i < 2 * length bodies). ap (λ (j : ℕ). get_or words j 0) (omega arith) ∙ h (suc (suc i)) (omega arith)))

  pub part_rows : (before part after : List Body) → InWords words (before ++ (part ++ after))
      → gather (words_row words (unit_word unit)) (tabulate (λ (i : ℕ). i) (length before) (length part)) ≡ gather (record_bytes unit) part
  part_rows before part after w = from_row part (length before) (all_left ByteFields part after (all_right ByteFields before (part ++ after) w.fields)) at
    where
      at : (i : ℕ) → i < 2 * length part → get_or words (2 * length before + i) 0 ≡ get_or (gather body_words part) i 0
      at i h =
          let l = length-append before (part ++ after) in
          let m = length-append part after in
          w.held (2 * length before + i) (omega (arith, l, m))
          ∙ ap₂ (λ (ws : List ℕ) (k : ℕ). get_or ws (k + i) 0)
          (gather_append body_words before (part ++ after) ∙ ap (λ (ws : List ℕ). gather body_words before ++ ws) (gather_append body_words part after))
          (sym (words_length before))
          ∙ get_or-append-add (gather body_words before) (gather body_words part ++ gather body_words after) i 0
          ∙ get_or-append (gather body_words part) (gather body_words after) 0 i (omega (arith, words_length part))

-- so each first word leaves room for a unit
few_at : (bodies : List Body) (j : ℕ) → All ByteFields bodies → j < length bodies → get_or (gather body_words bodies) (2 * j) 0 < 2 ^ 48
unfolding gather
few_at [] j a h = absurd (omega arith)
few_at (b ∷ bodies) zero a h = first_few b a.0.0 a.0.1
few_at (b ∷ bodies) (suc j) a h =
    let e : 2 * suc j ≡ suc (suc (2 * j)) = omega arith in
    omega (arith, ap (λ (i : ℕ). get_or (gather body_words (b ∷ bodies)) i 0) e, few_at bodies j a.1 (omega arith))

pub words_few : (words : List ℕ) (bodies : List Body) (j : ℕ) → InWords words bodies → j < length bodies → get_or words (2 * j) 0 < 2 ^ 48
words_few words bodies j w h = omega (arith, w.held (2 * j) (omega arith), few_at bodies j w.fields h)
