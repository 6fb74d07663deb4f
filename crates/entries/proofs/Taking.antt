-- The strands that one makes at a new section, rule by rule: a rule, the turn and the ways out of the loop.
use Prim.Native.Nat.{ℕ, ◌+◌, ◌≤◌, ◌<◌}
use mathlib.Core.Path.{◌≡◌, refl, sym, ap, subst, ◌∙◌}
use mathlib.Core.List.{List, [], ◌∷◌, ◌++◌, map}
use native.Mathlib.Omega.{arith}
use Rattle.std.specs.Prelude.{Option, Some, None}
use lib.ListN.{length, set, length-append, length-map}
use Rattle.laws.specs.Over.{overwrite}
use Rattle.laws.proofs.Over.{over_none}
use Rattle.table.specs.Table.{standard, fallback}
use Rattle.table.specs.declared.Rule.{Rule}
use Rattle.model.specs.Stream.{Entry}
use Rattle.strands.specs.Packed.{strand_in, packed}
use Rattle.strands.specs.Rules.{rules_in}
use Rattle.strands.specs.Entries.{made_by, entries_by, strand_word, schema_word}
use Rattle.entries.proofs.Laying.{Laying, Ended, laying_start, laying_one, laying_more, laying_full, laying_over, laying_end, rules_none, rules_some}

-- a rule of the fallback fits in five bits too
pub fallback_next : (q : Rule) (mode : ℕ) → q ≡ fallback standard.element 0 mode → mode < 32 → q.next < 32
fallback_next q mode e h = omega (arith, ap (λ (r : Rule). r.next) e)

-- one rule
module _ (w : ℕ) (q : Rule) (words₀ schemas₀ : List ℕ) (n : ℕ) where
  abbrev one : Entry
  one = made_by (strand_in w) q

  pub one_full : 16 ≤ n → Ended (one ∷ []) words₀ schemas₀ n words₀ schemas₀ None
  one_full h = laying_full (one ∷ []) words₀ schemas₀ n words₀ schemas₀ n (one ∷ []) (laying_start (one ∷ []) words₀ schemas₀ n) one [] refl h

  pub one_laid : n < 16 → length words₀ ≡ 16 → length schemas₀ ≡ 16 → (v u : ℕ) → v ≡ packed one.strand → u ≡ q.schema
      → Ended (one ∷ []) words₀ schemas₀ n (set words₀ n v) (set schemas₀ n u) (Some (n + 1))
  one_laid h lw ls v u ev eu =
      laying_end (one ∷ []) words₀ schemas₀ n (set words₀ n v) (set schemas₀ n u) (n + 1) []
      (laying_one (one ∷ []) words₀ schemas₀ n words₀ schemas₀ n (one ∷ []) (laying_start (one ∷ []) words₀ schemas₀ n) one [] refl (omega arith) (omega arith) v u ev eu)
      refl
      (omega arith)

-- nothing laid leaves a list
nothing_laid : (f : Entry → ℕ) (l : List ℕ) (n : ℕ) (done : List Entry) → length done ≡ 0 → overwrite l n (map f done) ≡ l
nothing_laid f l n [] h = over_none l n
nothing_laid f l n (e ∷ done) h = absurd (omega arith)

module _ (index : List ℕ) (class w mode : ℕ) (em : mode ≡ (strand_in w).mode) where
  abbrev made : Rule → Entry
  made = made_by (strand_in w)

  abbrev all : List Entry
  all = map made (rules_in index mode 0 class)

  abbrev es : List Entry
  es = entries_by index class (strand_in w)

  -- there are some, or none
  some_made : 0 < length all → es ≡ all
  some_made h = by (rules_in index mode 0 class) refl h
    where
      by : (rs : List Rule) → rs ≡ rules_in index mode 0 class → 0 < length (map made rs) → es ≡ all
      by [] e k = absurd (omega arith)
      by (q ∷ rs) e k =
          rules_some index class (strand_in w) q rs (ap (λ (m : ℕ). rules_in index m 0 class) (sym em) ∙ sym e)
          ∙ ap (λ (m : ℕ). map made (rules_in index m 0 class)) (sym em)

  none_made : length all ≡ 0 → es ≡ made (fallback standard.element 0 mode) ∷ []
  none_made h = by (rules_in index mode 0 class) refl h
    where
      by : (rs : List Rule) → rs ≡ rules_in index mode 0 class → length (map made rs) ≡ 0 → es ≡ made (fallback standard.element 0 mode) ∷ []
      by [] e k =
          rules_none index class (strand_in w) (ap (λ (m : ℕ). rules_in index m 0 class) (sym em) ∙ sym e)
          ∙ ap (λ (m : ℕ). made (fallback standard.element 0 m) ∷ []) (sym em)
      by (q ∷ rs) e k = absurd (omega arith)

  module _ (words₀ schemas₀ : List ℕ) (n : ℕ) (words schemas : List ℕ) (k : ℕ) (left : List Rule) (y : Laying (map (made_by (strand_in w)) (rules_in index mode 0 class)) words₀ schemas₀ n words schemas k (map (made_by (strand_in w)) left)) where
    long : length y.done + length left ≡ length all
    long = omega (arith, ap length y.split, length-append y.done (map made left), length-map left made)

    -- a rule is laid, or is one too many
    module _ (q : Rule) (rest : List Rule) (e : left ≡ q ∷ rest) (words' schemas' : List ℕ) where
      next : map made left ≡ (made q ∷ []) ++ map made rest
      next = ap (map made) e

      pub rule_laid : (r : ℕ) → n ≤ length words₀ → n ≤ length schemas₀ → Ended (made_by (strand_in w) q ∷ []) words schemas k words' schemas' (Some r)
          → Laying (map (made_by (strand_in w)) (rules_in index mode 0 class)) words₀ schemas₀ n words' schemas' r (map (made_by (strand_in w)) rest)
      rule_laid r hw hs z = laying_more all words₀ schemas₀ n words schemas k (map made left) y (made q ∷ []) (map made rest) next hw hs words' schemas' r z

      pub rule_over : Ended (made_by (strand_in w) q ∷ []) words schemas k words' schemas' None → Ended (entries_by index class (strand_in w)) words₀ schemas₀ n words' schemas' None
      rule_over z = rw (some_made (omega (arith, long, ap (length {A = Rule}) e))) (laying_over all words₀ schemas₀ n words schemas k (map made left) y (made q ∷ []) (map made rest) next words' schemas' z)

    -- all are laid, or there were none
    pub rules_laid : left ≡ [] → k ≤ 16 → (k ≡ n → ⊥) → Ended (entries_by index class (strand_in w)) words₀ schemas₀ n words schemas (Some k)
    rules_laid e few some =
        rw (some_made (omega (arith, long, y.count, some))) (laying_end all words₀ schemas₀ n words schemas k (map made left) y (ap (map made) e) few)

    pub fallback_laid : left ≡ [] → k ≡ n → (q : Rule) → q ≡ fallback standard.element 0 mode → (words' schemas' : List ℕ) (r : Option ℕ) → Ended (made_by (strand_in w) q ∷ []) words schemas k words' schemas' r
        → Ended (entries_by index class (strand_in w)) words₀ schemas₀ n words' schemas' r
    fallback_laid e same q eq words' schemas' r z =
        let none : length y.done ≡ 0 = omega (arith, y.count, same) in
        let ew : words ≡ words₀ = y.words_are ∙ nothing_laid strand_word words₀ n y.done none in
        let ec : schemas ≡ schemas₀ = y.schemas_are ∙ nothing_laid schema_word schemas₀ n y.done none in
        let es_are : made q ∷ [] ≡ es = ap (λ (x : Rule). made x ∷ []) eq ∙ sym (none_made (omega (arith, long, none, ap (length {A = Rule}) e))) in
        subst (λ (l : List Entry). Ended l words₀ schemas₀ n words' schemas' r) es_are
        (subst (λ (x : List ℕ). Ended (made q ∷ []) x schemas₀ n words' schemas' r) ew
        (subst (λ (x : List ℕ). Ended (made q ∷ []) words x n words' schemas' r) ec
        (subst (λ (x : ℕ). Ended (made q ∷ []) words schemas x words' schemas' r) same z)))
