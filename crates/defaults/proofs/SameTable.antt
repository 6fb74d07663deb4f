-- What is taken from a table now, and what was before N3.
--     same_table     from a table with the rules that it lacks now, what was taken before from the table without them
--     meets_same     the same from a table where every strand meets a rule
--     some_taken     where the first list is not empty the second is of no account
use Prim.Native.Nat.{ℕ, zero, suc, ◌+◌, ◌≤◌, ◌<◌}
use mathlib.Core.Path.{◌≡◌, refl, sym, ap, ap₂, ◌∙◌, fun_ext}
use mathlib.Core.List.{List, [], ◌∷◌, ◌++◌, map, append-nil}
use mathlib.Core.Bool.{Bool, true, false, cond, ◌||◌}
use mathlib.Core.Logic.{◌⊎◌, inl, inr, ⊎_elim}
use native.Mathlib.Omega.{arith}
use borrow.Author.Tests.{eqb-true, eqb-false, ltb-true}
use lib.Dec.{eqb, ltb}
use Rattle.laws.specs.Lists.{any, keep, tabulate}
use Rattle.laws.specs.Gather.{gather}
use Rattle.laws.specs.Members.{All}
use Rattle.laws.specs.Reading.{le_or_lt}
use Rattle.laws.proofs.Flags.{differ}
use Rattle.laws.proofs.Lists.{keep_none, keep_append, keep_map}
use Rattle.laws.proofs.Elementwise.{each_map, any_none}
use Rattle.table.specs.Table.{Default, header_of, rule_of, uris_of, any_class, names_class, or_else, rules_of, standard, former, fallback, taken_of, all_rules, decode_by}
use Rattle.table.specs.Judge.{Accepted}
use Rattle.table.specs.declared.Header.{Header}
use Rattle.table.specs.declared.Rule.{Rule}
use Rattle.table.proofs.Accepted.{header_in}
use Rattle.defaults.specs.Former.{unwrap_any, lacked_by, added_words, with_any, Meets}
use Rattle.defaults.proofs.Added.{Lacks, lacked_from, added_are, lack_from, added_lack, rule_any, names_own, names_other, header_more, uris_more, rules_more}

-- ---- the first list, or the second
itself : (x : List Rule) → or_else x x ≡ x
itself [] = refl
itself (r ∷ x) = refl

pub some_taken : (x y z : List Rule) → (x ≡ [] → ⊥) → or_else x y ≡ or_else x z
some_taken [] y z n = absurd (n refl)
some_taken (r ∷ x) y z n = refl

-- y are some, or they are none and f is added
one_added : (x y : List Rule) (f d : Rule) (some : Bool) → (some ≡ true → y ≡ [] → ⊥) → (some ≡ false → y ≡ [])
    → or_else (or_else x (y ++ cond some [] (f ∷ []))) (d ∷ []) ≡ or_else (or_else x y) (f ∷ [])
one_added (r ∷ x) y f d some n e = refl
one_added [] y f d true n e = ap (λ (l : List Rule). or_else l (d ∷ [])) (append-nil y) ∙ some_taken y (d ∷ []) (f ∷ []) (n refl)
one_added [] y f d false n e = rw (e refl)

keep_some : (p : Rule → Bool) (l : List Rule) → any p l ≡ true → keep p l ≡ [] → ⊥
unfolding any keep
keep_some p [] e = absurd (differ (sym e))
keep_some p (r ∷ l) e = by (p r) e (keep_some p l)
  where
    by : (b : Bool) → (b || any p l) ≡ true → (any p l ≡ true → keep p l ≡ [] → ⊥) → cond b (r ∷ keep p l) (keep p l) ≡ [] → ⊥
    by true f ih q = let z : ◌≡◌ {A = ℕ} 0 1 = cc in omega arith
    by false f ih q = ih f q

module _ (t : List ℕ) (a : Accepted t ≡ true) where
  abbrev h : Header
  h = header_of t

  abbrev rules : List Rule
  rules = all_rules t h

  -- of the rules that are added those that name a class
  abbrev naming : ℕ → ℕ → ℕ → ℕ → Bool
  naming mode kind class w = names_class mode kind class (rule_of w)

  -- none, where the mode is before theirs or the class is not any
  none_named : (mode kind class from : ℕ) → (mode < from) ⊎ (any_class ≡ class → ⊥) → (ws : List ℕ) → All (Lacks t from) ws → keep (naming mode kind class) ws ≡ []
  none_named mode kind class from n ws b = keep_none (naming mode kind class) ws (any_none (naming mode kind class) ws (each_map (Lacks t from) (λ (w : ℕ). naming mode kind class w ≡ false) each ws b))
    where
      each : (w : ℕ) → Lacks t from w → naming mode kind class w ≡ false
      each w c =
          ap (naming mode kind class) c.word_is
          ∙ names_other c.mode c.kind (omega (arith, (header_in t a).few_modes)) c.kind_in mode kind class
          (λ x y z. ⊎_elim (λ l. omega arith) (λ d. d z) n)

  -- of those of one mode and kind: all, if they are the mode's and the kind's; or none
  own_named : (mode kind : ℕ) → mode < 32 → kind < 2 → keep (naming mode kind any_class) (lacked_by rules mode kind) ≡ lacked_by rules mode kind
  unfolding keep
  own_named mode kind m k = by (any (names_class mode kind any_class) rules)
    where
      by : (b : Bool) → keep (naming mode kind any_class) (cond b [] (unwrap_any mode kind ∷ [])) ≡ cond b [] (unwrap_any mode kind ∷ [])
      by true = refl
      by false = simp (names_own mode kind m k)

  other_named : (mode kind mode' kind' : ℕ) → mode' < 32 → kind' < 2 → (mode' ≡ mode → kind' ≡ kind → ⊥) → keep (naming mode kind any_class) (lacked_by rules mode' kind') ≡ []
  unfolding keep
  other_named mode kind mode' kind' m k n = by (any (names_class mode' kind' any_class) rules)
    where
      by : (b : Bool) → keep (naming mode kind any_class) (cond b [] (unwrap_any mode' kind' ∷ [])) ≡ []
      by true = refl
      by false = simp (names_other mode' kind' m k mode kind any_class (λ x y z. n x y))

  -- of those of one mode
  abbrev both_kinds : ℕ → List ℕ
  both_kinds mode = lacked_by rules mode 0 ++ lacked_by rules mode 1

  own_mode : (mode kind : ℕ) → mode < 32 → kind < 2 → keep (naming mode kind any_class) (both_kinds mode) ≡ lacked_by rules mode kind
  own_mode mode zero m k =
      keep_append (naming mode 0 any_class) (lacked_by rules mode 0) (lacked_by rules mode 1)
      ∙ ap₂ ◌++◌ (own_named mode 0 m k) (other_named mode 0 mode 1 m (omega arith) (λ x y. omega arith))
      ∙ append-nil (lacked_by rules mode 0)
  own_mode mode (suc zero) m k =
      keep_append (naming mode 1 any_class) (lacked_by rules mode 0) (lacked_by rules mode 1)
      ∙ ap₂ ◌++◌ (other_named mode 1 mode 0 m (omega arith) (λ x y. omega arith)) (own_named mode 1 m k)
  own_mode mode (suc (suc kind)) m k = absurd (omega arith)

  other_mode : (mode kind mode' : ℕ) → mode' < 32 → (mode' ≡ mode → ⊥) → keep (naming mode kind any_class) (both_kinds mode') ≡ []
  other_mode mode kind mode' m n =
      keep_append (naming mode kind any_class) (lacked_by rules mode' 0) (lacked_by rules mode' 1)
      ∙ ap₂ ◌++◌ (other_named mode kind mode' 0 m (omega arith) (λ x y. n x)) (other_named mode kind mode' 1 m (omega arith) (λ x y. n x))

  named_from : (mode kind : ℕ) → kind < 2 → (n from : ℕ) → from ≤ mode → mode < from + n → from + n ≤ h.modes → keep (naming mode kind any_class) (lacked_from t from n) ≡ lacked_by rules mode kind
  unfolding gather tabulate
  named_from mode kind k zero from f l e = absurd (omega arith)
  named_from mode kind k (suc n) from f l e =
      keep_append (naming mode kind any_class) (both_kinds from) rest ∙ ⊎_elim (λ q. here (omega arith)) (λ q. there q (named_from mode kind k n (suc from) q (omega arith) (omega arith))) (le_or_lt mode from)
    where
      rest : List ℕ
      rest = lacked_from t (suc from) n

      small : from < 32
      small = omega (arith, (header_in t a).few_modes)

      here : from ≡ mode → keep (naming mode kind any_class) (both_kinds from) ++ keep (naming mode kind any_class) rest ≡ lacked_by rules mode kind
      here q =
          ap₂ ◌++◌ (ap (λ (m : ℕ). keep (naming mode kind any_class) (both_kinds m)) q ∙ own_mode mode kind (omega (arith, small)) k)
          (none_named mode kind any_class (suc from) (inl (omega arith)) rest (lack_from t (suc from) n (omega arith)))
          ∙ append-nil (lacked_by rules mode kind)

      there : from < mode → keep (naming mode kind any_class) rest ≡ lacked_by rules mode kind → keep (naming mode kind any_class) (both_kinds from) ++ keep (naming mode kind any_class) rest ≡ lacked_by rules mode kind
      there q ih = ap₂ ◌++◌ (other_mode mode kind from small (λ z. omega arith)) ih

  -- ---- of the rules that are added, those that name any, and those that name another class
  abbrev added : List Rule
  added = map rule_of (added_words t)

  any_added : (mode kind : ℕ) → mode < h.modes → kind < 2 → keep (names_class mode kind any_class) added ≡ cond (any (names_class mode kind any_class) rules) [] (fallback former.element kind mode ∷ [])
  any_added mode kind m k =
      keep_map rule_of (names_class mode kind any_class) (added_words t)
      ∙ ap (λ (ws : List ℕ). map rule_of (keep (naming mode kind any_class) ws)) (added_are t)
      ∙ ap (map rule_of) (named_from mode kind k h.modes 0 (omega arith) (omega arith) (omega arith))
      ∙ by (any (names_class mode kind any_class) rules)
    where
      by : (b : Bool) → map rule_of (cond b [] (unwrap_any mode kind ∷ [])) ≡ cond b [] (fallback former.element kind mode ∷ [])
      by true = refl
      by false = ap (λ (r : Rule). r ∷ []) (rule_any mode kind (omega (arith, (header_in t a).few_modes)) k)

  other_added : (mode kind class : ℕ) → (any_class ≡ class → ⊥) → keep (names_class mode kind class) added ≡ []
  other_added mode kind class n =
      keep_map rule_of (names_class mode kind class) (added_words t) ∙ ap (map rule_of) (none_named mode kind class 0 (inr n) (added_words t) (added_lack t))

  module _ (kind : ℕ) (k : kind < 2) (d : Default) where
    -- a rule is taken now where one was taken before; where none was, it is the one that is added, and it is what was taken
    rules_taken : (mode class : ℕ) → mode < h.modes
        → or_else (rules_of (rules ++ added) mode kind class) (fallback d kind mode ∷ []) ≡ or_else (rules_of rules mode kind class) (fallback former.element kind mode ∷ [])
    unfolding rules_of
    rules_taken mode class m =
        ap₂ (λ (x y : List Rule). or_else (or_else x y) (fallback d kind mode ∷ [])) (keep_append (names_class mode kind class) rules added)
        (keep_append (names_class mode kind any_class) rules added ∙ ap (λ (l : List Rule). olds ++ l) (any_added mode kind m k))
        ∙ by (eqb any_class class) refl
      where
        some : Bool
        some = any (names_class mode kind any_class) rules

        olds : List Rule
        olds = keep (names_class mode kind any_class) rules

        before : Rule
        before = fallback former.element kind mode

        all_of : List Rule
        all_of = olds ++ cond some [] (before ∷ [])

        chosen : (x : List Rule) → or_else (or_else x all_of) (fallback d kind mode ∷ []) ≡ or_else (or_else x olds) (before ∷ [])
        chosen x = one_added x olds before (fallback d kind mode) some (keep_some (names_class mode kind any_class) rules) (keep_none (names_class mode kind any_class) rules)

        by : (b : Bool) → b ≡ eqb any_class class
            → or_else (or_else (keep (names_class mode kind class) rules ++ keep (names_class mode kind class) added) all_of) (fallback d kind mode ∷ [])
            ≡ or_else (or_else (keep (names_class mode kind class) rules) olds) (before ∷ [])
        by true e =
            let q : any_class ≡ class = eqb-true any_class class (sym e) in
            ap (λ (c : ℕ). or_else (or_else (keep (names_class mode kind c) rules ++ keep (names_class mode kind c) added) all_of) (fallback d kind mode ∷ [])) (sym q)
            ∙ ap (λ (x : List Rule). or_else (or_else (olds ++ x) all_of) (fallback d kind mode ∷ [])) (any_added mode kind m k)
            ∙ ap (λ (x : List Rule). or_else x (fallback d kind mode ∷ [])) (itself all_of)
            ∙ chosen []
            ∙ ap (λ (x : List Rule). or_else x (before ∷ [])) (sym (itself olds))
            ∙ ap (λ (c : ℕ). or_else (or_else (keep (names_class mode kind c) rules) olds) (before ∷ [])) q
        by false e =
            ap (λ (x : List Rule). or_else (or_else (keep (names_class mode kind class) rules ++ x) all_of) (fallback d kind mode ∷ [])) (other_added mode kind class (eqb-false any_class class (sym e)))
            ∙ ap (λ (x : List Rule). or_else (or_else x all_of) (fallback d kind mode ∷ [])) (append-nil (keep (names_class mode kind class) rules))
            ∙ chosen (keep (names_class mode kind class) rules)

    taken_same : taken_of (header_of (with_any t)) (all_rules (with_any t) (header_of (with_any t))) d kind ≡ taken_of h rules former.element kind
    unfolding taken_of
    taken_same = ap₂ (λ (x : Header) (rs : List Rule). taken_of x rs d kind) (header_more t a) (rules_more t a) ∙ fun_ext (λ mode. fun_ext (λ class. by mode class (ltb mode h.modes) refl))
      where
        by : (mode class : ℕ) (b : Bool) → b ≡ ltb mode h.modes
            → cond b (or_else (rules_of (rules ++ added) mode kind class) (fallback d kind mode ∷ [])) [] ≡ cond b (or_else (rules_of rules mode kind class) (fallback former.element kind mode ∷ [])) []
        by mode class true e = rules_taken mode class (ltb-true mode h.modes (sym e))
        by mode class false e = refl

-- "An accepted table keeps its former results"
pub same_table : (t : List ℕ) → Accepted t ≡ true → decode_by standard (with_any t) ≡ decode_by former t
same_table t a =
    λ i. record {
      modes = (header_more t a i).modes;
      uris = uris_more t a i;
      element_rules = taken_same t a 0 (omega arith) standard.element i;
      attribute_rules = taken_same t a 1 (omega arith) standard.attribute i;
    }

module _ (t : List ℕ) (m : Meets t) where
  abbrev met : Header
  met = header_of t

  met_same : (kind : ℕ) → kind < 2 → (d e : Default) → taken_of met (all_rules t met) d kind ≡ taken_of met (all_rules t met) e kind
  unfolding taken_of
  met_same kind k d e = fun_ext (λ mode. fun_ext (λ class. by mode class (ltb mode met.modes) refl))
    where
      by : (mode class : ℕ) (b : Bool) → b ≡ ltb mode met.modes
          → cond b (or_else (rules_of (all_rules t met) mode kind class) (fallback d kind mode ∷ [])) [] ≡ cond b (or_else (rules_of (all_rules t met) mode kind class) (fallback e kind mode ∷ [])) []
      by mode class true q = some_taken (rules_of (all_rules t met) mode kind class) (fallback d kind mode ∷ []) (fallback e kind mode ∷ []) (m mode kind class (ltb-true mode met.modes (sym q)) k)
      by mode class false q = refl

  -- where every strand meets a rule the defaults are of no account
  pub meets_same : decode_by standard t ≡ decode_by former t
  meets_same =
      λ i. record {
        modes = met.modes;
        uris = uris_of t met;
        element_rules = met_same 0 (omega arith) standard.element former.element i;
        attribute_rules = met_same 1 (omega arith) standard.attribute former.attribute i;
      }
