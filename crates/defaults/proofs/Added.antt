-- A table with the rules that it lacks: what it says.
--     fields_any, rule_any                  the fields of a word that is added; its rule is what a strand took before N3 where there was none
--     names_own, names_other                the mode, kind and class that this rule names, and no other
--     Lacks, lack_from, added_lack          each word that is added, and why it is; added-few: at most two for each mode
--     header_more, length_more              the header and the length
--     words_more, rules_more, uris_more     the words and the rules, those that are added behind the table's own; the URIs as they were
--     behind_more                           what stands behind the words, as it was
use Prim.Native.Nat.{ℕ, zero, suc, ◌+◌, ◌*◌, ◌-◌, ◌/◌, ◌%◌, ◌^◌, ◌≤◌, ◌<◌}
use mathlib.Core.Path.{◌≡◌, refl, sym, ap, ap₂, ◌∙◌}
use mathlib.Core.List.{List, [], ◌∷◌, ◌++◌, map, append_assoc, map-append}
use mathlib.Core.Bool.{Bool, true, false, cond}
use mathlib.Core.Logic.{⊎_elim}
use native.Mathlib.Nat.{zero-add, add_assoc}
use native.Mathlib.Omega.{arith}
use borrow.Author.Tests.{eq-eqb, leb-true}
use lib.ListN.{length, take, drop, get_or, length-append, length-drop, get_or-append}
use lib.Seq.{length-take-le, get_or-append-add, get_or-take, get_or-drop, get_or_at, drop_at, ext_get_or}
use lib.Dec.{leb}
use Rattle.laws.specs.Lists.{any, tabulate}
use Rattle.laws.specs.Gather.{gather}
use Rattle.laws.specs.Members.{All}
use Rattle.laws.specs.Reading.{le_or_lt}
use Rattle.laws.proofs.Flags.{differ, flag_same, and_left}
use Rattle.laws.proofs.Lists.{length_tabulate, get_d_tabulate}
use Rattle.laws.proofs.Elementwise.{each_append, each_gather, each_map}
use Rattle.table.specs.Table.{header_of, word_of, word_at, words_of, fields_of, action_of, rule_of, uris_from, uris_of, any_class, names_class, former, fallback, all_rules}
use Rattle.table.specs.Judge.{Accepted, uris_fill}
use Rattle.table.specs.declared.Header.{Header}
use Rattle.table.specs.declared.Fields.{Fields}
use Rattle.table.specs.declared.Rule.{Rule}
use Rattle.table.proofs.Accepted.{passed, header_in}
use Rattle.table.proofs.Rules.{written_says}
use Rattle.defaults.specs.Former.{unwrap_any, lacked_by, added_words, word_bytes, raised_count, with_any}

-- ---- a word
abbrev pub any_fields : ℕ → ℕ → Fields
any_fields mode kind = record { mode = mode; kind = kind; class = any_class; action = 1; schema = 0; next = mode; zeros = 0 }

module _ (mode kind : ℕ) (m : mode < 32) (k : kind < 2) where
  pub fields_any : fields_of (unwrap_any mode kind) ≡ any_fields mode kind
  fields_any =
      let w : ℕ = unwrap_any mode kind in
      let q₁ : w / 2 ^ 26 ≡ mode * 2 + kind = omega arith in
      let q₂ : w / 2 ^ 18 ≡ (mode * 2 + kind) * 256 + 255 = omega arith in
      let q₃ : w / 2 ^ 16 ≡ ((mode * 2 + kind) * 256 + 255) * 4 + 1 = omega arith in
      let q₄ : w / 2 ^ 8 ≡ (((mode * 2 + kind) * 256 + 255) * 4 + 1) * 256 = omega arith in
      let q₅ : w / 2 ^ 3 ≡ (((mode * 2 + kind) * 256 + 255) * 4 + 1) * 8192 + mode = omega arith in
      let e₀ : w / 2 ^ 27 ≡ mode = omega arith in
      let e₁ : w / 2 ^ 26 % 2 ^ 1 ≡ kind = rw q₁ (omega arith) in
      let e₂ : w / 2 ^ 18 % 2 ^ 8 ≡ 255 = rw q₂ (omega arith) in
      let e₃ : w / 2 ^ 16 % 2 ^ 2 ≡ 1 = rw q₃ (omega arith) in
      let e₄ : w / 2 ^ 8 % 2 ^ 8 ≡ 0 = rw q₄ (omega arith) in
      let e₅ : w / 2 ^ 3 % 2 ^ 5 ≡ mode = rw q₅ (omega arith) in
      let e₆ : w % 2 ^ 3 ≡ 0 = omega arith in
      λ i. record { mode = e₀ i; kind = e₁ i; class = e₂ i; action = e₃ i; schema = e₄ i; next = e₅ i; zeros = e₆ i }

  -- "No rule: one unwrap strand, same mode", of an attribute section too
  pub rule_any : rule_of (unwrap_any mode kind) ≡ fallback former.element kind mode
  rule_any = ap (λ (f : Fields). record { mode = f.mode; kind = f.kind; class = f.class; action = action_of f.action; schema = f.schema; next = f.next }) fields_any

  pub names_own : names_class mode kind any_class (rule_of (unwrap_any mode kind)) ≡ true
  names_own = ap (names_class mode kind any_class) rule_any ∙ simp (eq-eqb mode mode refl, eq-eqb kind kind refl)

  pub names_other : (mode' kind' class : ℕ) → (mode ≡ mode' → kind ≡ kind' → any_class ≡ class → ⊥) → names_class mode' kind' class (rule_of (unwrap_any mode kind)) ≡ false
  names_other mode' kind' class n = ap (names_class mode' kind' class) rule_any ∙ flag_same (names_class mode' kind' class (fallback former.element kind mode)) false named (λ e. absurd (differ (sym e)))
    where
      named : names_class mode' kind' class (fallback former.element kind mode) ≡ true → false ≡ true
      named e =
          let w = written_says mode' kind' class (fallback former.element kind mode) e in
          absurd (n w.mode_is w.kind_is w.class_is)

  any_short : unwrap_any mode kind < 2 ^ 32
  any_short = omega arith

-- ---- the words that are added: each is for a mode, from some mode on, and a kind that lack an any rule
pub record Lacks (t : List ℕ) (from w : ℕ) : Type 0 where
  pub mode : ℕ
  pub kind : ℕ
  pub mode_from : from ≤ mode
  pub mode_in : mode < (header_of t).modes
  pub kind_in : kind < 2
  pub lacking : any (names_class mode kind any_class) (all_rules t (header_of t)) ≡ false
  pub word_is : w ≡ unwrap_any mode kind

module _ (t : List ℕ) where
  abbrev rules : List Rule
  rules = all_rules t (header_of t)

  -- those of n modes from one on
  abbrev pub lacked_from : ℕ → ℕ → List ℕ
  lacked_from from n = gather (λ (mode : ℕ). lacked_by rules mode 0 ++ lacked_by rules mode 1) (tabulate (λ (mode : ℕ). mode) from n)

  pub added_are : added_words t ≡ lacked_from 0 (header_of t).modes
  unfolding added_words
  added_are = refl

  lacked_lack : (from mode kind : ℕ) → from ≤ mode → mode < (header_of t).modes → kind < 2 → All (Lacks t from) (lacked_by rules mode kind)
  lacked_lack from mode kind f m k = by (any (names_class mode kind any_class) rules) refl
    where
      by : (b : Bool) → b ≡ any (names_class mode kind any_class) rules → All (Lacks t from) (cond b [] (unwrap_any mode kind ∷ []))
      by true e = tt
      by false e = (record { mode = mode; kind = kind; mode_from = f; mode_in = m; kind_in = k; lacking = sym e; word_is = refl }, tt)

  within : (from n : ℕ) → All (λ (i : ℕ). (from ≤ i) × (i < from + n)) (tabulate (λ (i : ℕ). i) from n)
  unfolding tabulate
  within from zero = tt
  within from (suc n) = (
    (omega arith, omega arith),
    each_map (λ (i : ℕ). (suc from ≤ i) × (i < suc from + n)) (λ (i : ℕ). (from ≤ i) × (i < from + suc n)) (λ i l. (omega arith, omega arith)) (tabulate (λ (i : ℕ). i) (suc from) n) (within (suc from) n),
  )

  pub lack_from : (from n : ℕ) → from + n ≤ (header_of t).modes → All (Lacks t from) (lacked_from from n)
  lack_from from n l =
      each_gather (λ (i : ℕ). (from ≤ i) × (i < from + n)) (Lacks t from) (λ (mode : ℕ). lacked_by rules mode 0 ++ lacked_by rules mode 1)
      (λ mode m.
      each_append (Lacks t from) (lacked_by rules mode 0) (lacked_by rules mode 1) (lacked_lack from mode 0 m.0 (omega arith) (omega arith)) (lacked_lack from mode 1 m.0 (omega arith) (omega arith)))
      (tabulate (λ (mode : ℕ). mode) from n) (within from n)

  -- "At most 2 × M rules are added"
  lacked_few : (mode kind : ℕ) → length (lacked_by rules mode kind) ≤ 1
  lacked_few mode kind = by (any (names_class mode kind any_class) rules)
    where
      by : (b : Bool) → length (cond b [] (unwrap_any mode kind ∷ [])) ≤ 1
      by true = omega arith
      by false = omega arith

  few_from : (from n : ℕ) → length (lacked_from from n) ≤ 2 * n
  unfolding gather tabulate
  few_from from zero = omega arith
  few_from from (suc n) =
      let two = lacked_by rules from 0 ++ lacked_by rules from 1 in
      omega (arith, length-append two (lacked_from (suc from) n), length-append (lacked_by rules from 0) (lacked_by rules from 1), lacked_few from 0, lacked_few from 1, few_from (suc from) n)

  pub added_few : length (added_words t) ≤ 2 * (header_of t).modes
  added_few = rw added_are (few_from 0 (header_of t).modes)

  pub added_lack : All (Lacks t 0) (added_words t)
  added_lack = rw added_are (lack_from 0 (header_of t).modes (omega arith))

-- ---- words in bytes
word_by : (t : List ℕ) (i : ℕ) (f : ℕ → ℕ) → ((k : ℕ) → k < 4 → get_or t (4 + 4 * i + k) 0 ≡ f k) → word_at t i ≡ word_of (f 0) (f 1) (f 2) (f 3)
word_by t i f h = λ j. word_of (byte 0 (4 + 4 * i) (omega arith) (omega arith) j) (byte 1 (5 + 4 * i) (omega arith) (omega arith) j) (byte 2 (6 + 4 * i) (omega arith) (omega arith) j) (byte 3 (7 + 4 * i) (omega arith) (omega arith) j)
  where
    byte : (k n : ℕ) → k < 4 → n ≡ 4 + 4 * i + k → get_or t n 0 ≡ f k
    byte k n l e = ap (λ (p : ℕ). get_or t p 0) e ∙ h k l

bytes_word : (w : ℕ) → w < 2 ^ 32 → word_of (w / 2 ^ 24 % 2 ^ 8) (w / 2 ^ 16 % 2 ^ 8) (w / 2 ^ 8 % 2 ^ 8) (w % 2 ^ 8) ≡ w
bytes_word w l =
    let a : w ≡ w / 2 ^ 8 * 256 + w % 2 ^ 8 = omega arith in
    let b : w / 2 ^ 8 ≡ w / 2 ^ 16 * 256 + w / 2 ^ 8 % 2 ^ 8 = omega arith in
    let c : w / 2 ^ 16 ≡ w / 2 ^ 24 * 256 + w / 2 ^ 16 % 2 ^ 8 = omega arith in
    let d : w / 2 ^ 24 % 2 ^ 8 ≡ w / 2 ^ 24 = omega arith in
    omega arith

length_words : (ws : List ℕ) → length (gather word_bytes ws) ≡ 4 * length ws
unfolding gather
length_words [] = refl
length_words (w ∷ ws) = omega (arith, length_words ws)

-- the j-th of words that stand behind so many
word_in : (ws front back : List ℕ) (r j : ℕ) → length front ≡ 4 + 4 * r → j < length ws → All (λ (w : ℕ). w < 2 ^ 32) ws → word_at (front ++ gather word_bytes ws ++ back) (r + j) ≡ get_or ws j 0
unfolding gather
word_in [] front back r j e l h = absurd (omega arith)
word_in (w ∷ ws) front back r zero e l h =
    word_by (front ++ (word_bytes w ++ gather word_bytes ws) ++ back) (r + 0) (λ (k : ℕ). get_or (word_bytes w) k 0) byte ∙ bytes_word w h.0
  where
    rest : List ℕ
    rest = gather word_bytes ws ++ back

    byte : (k : ℕ) → k < 4 → get_or (front ++ (word_bytes w ++ gather word_bytes ws) ++ back) (4 + 4 * (r + 0) + k) 0 ≡ get_or (word_bytes w) k 0
    byte k m =
        ap (λ (l : List ℕ). get_or l (4 + 4 * (r + 0) + k) 0) (append_assoc front (word_bytes w ++ gather word_bytes ws) back)
        ∙ ap (λ (p : ℕ). get_or (front ++ (word_bytes w ++ rest)) p 0) (omega arith)
        ∙ get_or-append-add front (word_bytes w ++ rest) k 0
        ∙ get_or-append (word_bytes w) rest 0 k m
word_in (w ∷ ws) front back r (suc j) e l h =
    ap₂ word_at {x = front ++ (word_bytes w ++ gather word_bytes ws) ++ back} {y = front ++ word_bytes w ++ gather word_bytes ws ++ back} (ap (λ (p : List ℕ). p ++ back) (sym (append_assoc front (word_bytes w) (gather word_bytes ws)))) (omega arith)
    ∙ word_in ws (front ++ word_bytes w) back (suc r) j (omega (arith, length-append front (word_bytes w))) (omega arith) h.1

-- ---- the table
abbrev pub raised : Header → ℕ → Header
raised h n = record { namespaces = h.namespaces; modes = h.modes; schemas = h.schemas; rules = h.rules + n }

module _ (t : List ℕ) (a : Accepted t ≡ true) where
  abbrev h : Header
  h = header_of t

  abbrev more : List ℕ
  more = added_words t

  abbrev head : List ℕ
  head = take 3 t ++ (raised_count t ∷ [])

  abbrev old : List ℕ
  old = take (4 * h.rules) (drop 4 t)

  abbrev back : List ℕ
  back = drop (4 + 4 * h.rules) t

  pub enough : 4 + 4 * h.rules ≤ length t
  enough = leb-true (4 + 4 * h.rules) (length t) (and_left (leb (4 + 4 * h.rules) (length t)) (uris_fill h.namespaces back) (passed t a).fills)

  three : length (take 3 t) ≡ 3
  three = length-take-le 3 t (omega (arith, enough))

  four : length head ≡ 4
  four = omega (arith, length-append (take 3 t) (raised_count t ∷ []), three)

  length_old : length old ≡ 4 * h.rules
  length_old = length-take-le (4 * h.rules) (drop 4 t) (omega (arith, enough, length-drop 4 t))

  front_long : length (head ++ old) ≡ 4 + 4 * h.rules
  front_long = omega (arith, length-append head old, four, length_old)

  body_long : length (head ++ old ++ gather word_bytes more) ≡ 4 + 4 * (h.rules + length more)
  body_long = omega (arith, length-append (head ++ old) (gather word_bytes more), front_long, length_words more)

  pub length_more : length (with_any t) ≡ length t + 4 * length more
  unfolding with_any
  length_more = omega (arith, length-append (head ++ old ++ gather word_bytes more) back, body_long, length-drop (4 + 4 * h.rules) t, enough)

  -- the bytes before the words that are added
  front_byte : (i : ℕ) → i < 4 + 4 * h.rules → get_or (with_any t) i 0 ≡ get_or (head ++ old) i 0
  unfolding with_any
  front_byte i l =
      get_or-append (head ++ old ++ gather word_bytes more) back 0 i (omega (arith, body_long)) ∙ get_or-append (head ++ old) (gather word_bytes more) 0 i (omega (arith, front_long))

  head_byte : (i : ℕ) → i < 4 → get_or (with_any t) i 0 ≡ get_or head i 0
  head_byte i l = front_byte i (omega arith) ∙ get_or-append head old 0 i (omega (arith, four))

  first_byte : (i : ℕ) → i < 3 → get_or (with_any t) i 0 ≡ get_or t i 0
  first_byte i l = head_byte i (omega arith) ∙ get_or-append (take 3 t) (raised_count t ∷ []) 0 i (omega (arith, three)) ∙ get_or-take 3 t i 0 l

  old_byte : (i : ℕ) → i < 4 * h.rules → get_or (with_any t) (4 + i) 0 ≡ get_or t (4 + i) 0
  old_byte i l =
      front_byte (4 + i) (omega arith)
      ∙ ap (λ (n : ℕ). get_or (head ++ old) (n + i) 0) (sym four)
      ∙ get_or-append-add head old i 0
      ∙ get_or-take (4 * h.rules) (drop 4 t) i 0 l
      ∙ get_or-drop 4 t i 0

  pub header_more : header_of (with_any t) ≡ raised h (length more)
  header_more =
      let e : get_or (with_any t) 3 0 ≡ h.rules + length more = head_byte 3 (omega arith) ∙ get_or_at (take 3 t) (raised_count t) [] 0 3 three in
      λ i. record { namespaces = first_byte 0 (omega arith) i; modes = first_byte 1 (omega arith) i; schemas = first_byte 2 (omega arith) i; rules = e i }

  pub behind_more : drop (4 + 4 * (h.rules + length more)) (with_any t) ≡ back
  unfolding with_any
  behind_more = drop_at (head ++ old ++ gather word_bytes more) back (4 + 4 * (h.rules + length more)) body_long

  pub uris_more : uris_of (with_any t) (header_of (with_any t)) ≡ uris_of t h
  uris_more = ap (uris_of (with_any t)) header_more ∙ ap (uris_from h.namespaces) behind_more

  old_word : (i : ℕ) → i < h.rules → word_at (with_any t) i ≡ word_at t i
  old_word i l = word_by (with_any t) i (byte t) same ∙ sym (word_by t i (byte t) (λ k m. refl))
    where
      byte : List ℕ → ℕ → ℕ
      byte s k = get_or s (4 + 4 * i + k) 0

      same : (k : ℕ) → k < 4 → byte (with_any t) k ≡ byte t k
      same k m = simp add_assoc (old_byte (4 * i + k) (omega arith))

  short_words : All (λ (w : ℕ). w < 2 ^ 32) more
  short_words = each_map (Lacks t 0) (λ (w : ℕ). w < 2 ^ 32) short more (added_lack t)
    where
      short : (w : ℕ) → Lacks t 0 w → w < 2 ^ 32
      short w l = omega (arith, any_short l.mode l.kind (omega (arith, (header_in t a).few_modes)) l.kind_in)

  added_word : (j : ℕ) → j < length more → word_at (with_any t) (h.rules + j) ≡ get_or more j 0
  unfolding with_any
  added_word j l = word_in more (head ++ old) back h.rules j front_long l short_words

  pub words_more : words_of (with_any t) (header_of (with_any t)) ≡ words_of t h ++ more
  words_more = ap (words_of (with_any t)) header_more ∙ ext_get_or 0 (words_of (with_any t) (raised h (length more))) (words_of t h ++ more) as_many each
    where
      olds : length (words_of t h) ≡ h.rules
      olds = length_tabulate (word_at t) 0 h.rules

      news : length (words_of (with_any t) (raised h (length more))) ≡ h.rules + length more
      news = length_tabulate (word_at (with_any t)) 0 (h.rules + length more)

      as_many : length (words_of (with_any t) (raised h (length more))) ≡ length (words_of t h ++ more)
      as_many = omega (arith, olds, news, length-append (words_of t h) more)

      there : (i : ℕ) → i < h.rules + length more → get_or (words_of (with_any t) (raised h (length more))) i 0 ≡ word_at (with_any t) i
      there i l = get_d_tabulate (word_at (with_any t)) 0 (h.rules + length more) i 0 l ∙ ap (word_at (with_any t)) (zero-add i)

      each : (i : ℕ) → i < length (words_of (with_any t) (raised h (length more))) → get_or (words_of (with_any t) (raised h (length more))) i 0 ≡ get_or (words_of t h ++ more) i 0
      each i l = there i (omega (arith, news)) ∙ ⊎_elim past before (le_or_lt h.rules i)
        where
          before : i < h.rules → word_at (with_any t) i ≡ get_or (words_of t h ++ more) i 0
          before m =
              old_word i m
              ∙ ap (word_at t) (sym (zero-add i))
              ∙ sym (get_or-append (words_of t h) more 0 i (omega (arith, olds)) ∙ get_d_tabulate (word_at t) 0 h.rules i 0 m)

          past : h.rules ≤ i → word_at (with_any t) i ≡ get_or (words_of t h ++ more) i 0
          past m =
              let e : h.rules + (i - h.rules) ≡ i = omega arith in
              let f : length (words_of t h) + (i - h.rules) ≡ i = omega (arith, olds) in
              ap (word_at (with_any t)) (sym e)
              ∙ added_word (i - h.rules) (omega (arith, news))
              ∙ sym (get_or-append-add (words_of t h) more (i - h.rules) 0)
              ∙ ap (λ (k : ℕ). get_or (words_of t h ++ more) k 0) f

  pub rules_more : all_rules (with_any t) (header_of (with_any t)) ≡ all_rules t h ++ map rule_of more
  rules_more = ap (map rule_of) words_more ∙ map-append rule_of (words_of t h) more
