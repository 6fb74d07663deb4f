-- A table with the rules that it lacks is accepted.
--     judged_more       its answer: 0, with its own length
--     accepted_more     the same, as a test
use Prim.Native.Nat.{ℕ, zero, suc, ◌+◌, ◌*◌, ◌≤◌, ◌<◌}
use mathlib.Core.Path.{◌≡◌, refl, sym, ap, ap₂, ◌∙◌}
use mathlib.Core.List.{List, [], ◌∷◌, ◌++◌}
use mathlib.Core.Bool.{Bool, true, false, cond, ◌&&◌, or-true}
use native.Mathlib.Omega.{arith}
use borrow.Author.Tests.{ne_eqb, le-leb, lt-ltb, le-ltb}
use lib.ListN.{length, drop}
use lib.Dec.{eqb, leb}
use Rattle.laws.specs.Lists.{any, all, any_pair, tabulate}
use Rattle.laws.specs.Gather.{gather}
use Rattle.laws.specs.Members.{In, All}
use Rattle.laws.specs.Tests.{both, neither, not_left}
use Rattle.laws.proofs.Flags.{differ, and_right}
use Rattle.laws.proofs.Lists.{all_append}
use Rattle.laws.proofs.Members.{all_by, none_in}
use Rattle.laws.proofs.Elementwise.{each_map, any_none, all_each, pair_append}
use Rattle.table.specs.Table.{header_of, words_of, fields_of, rule_of, any_class, names_class, all_rules}
use Rattle.table.specs.Judge.{said, judged, Accepted, header_fits, length_fits, uris_fill, fields_fit, word_fits, is_empty, keeps, same_rule_key, rules_clash, uris_clash}
use Rattle.table.specs.declared.Header.{Header}
use Rattle.table.specs.declared.Rule.{Rule}
use Rattle.table.specs.declared.Answer.{Answer}
use Rattle.table.proofs.Accepted.{Passed, passed, header_in}
use Rattle.model.proofs.Lists.{in_map}
use Rattle.defaults.specs.Former.{unwrap_any, added_words, Suffices, with_any}
use Rattle.defaults.proofs.Added.{enough, fields_any, names_own, names_other, Lacks, lacked_from, added_are, lack_from, added_lack, raised, length_more, header_more, behind_more, uris_more, words_more}

-- a table that passes each test
judged_passed : (t : List ℕ) → Passed t → judged t ≡ said 0 (length t)
unfolding judged
judged_passed t p = simp (le-ltb (length t) 4 p.long, p.header, p.fills, p.words, p.none_empty, p.rules, p.uris)

module _ (mode kind : ℕ) (m : mode < 32) (k : kind < 2) where
  fits_any : (h : Header) → mode < h.modes → word_fits h (unwrap_any mode kind) ≡ true
  fits_any h l = ap (fields_fit h) (fields_any mode kind m k) ∙ simp (lt-ltb mode h.modes l, or-true)

  -- a word clashes with it only if its rule is an any rule of the mode and kind
  no_clash : (v : ℕ) → names_class mode kind any_class (rule_of v) ≡ false → rules_clash v (unwrap_any mode kind) ≡ false
  no_clash v e =
      neither (eqb v w) (same_rule_key (fields_of v) (fields_of w) && (keeps (fields_of v) && keeps (fields_of w))) (ne_eqb v w another)
      (not_left (same_rule_key (fields_of v) (fields_of w)) (keeps (fields_of v) && keeps (fields_of w)) (ap (same_rule_key (fields_of v)) (fields_any mode kind m k) ∙ e))
    where
      w : ℕ
      w = unwrap_any mode kind

      another : v ≡ w → ⊥
      another d = differ (sym (ap (λ (u : ℕ). names_class mode kind any_class (rule_of u)) d ∙ names_own mode kind m k) ∙ e)

module _ (t : List ℕ) (a : Accepted t ≡ true) where
  abbrev h : Header
  h = header_of t

  abbrev rules : List Rule
  rules = all_rules t h

  -- a word, and all for a later mode
  later_apart : (mode kind from : ℕ) → mode < 32 → kind < 2 → mode < from → (ws : List ℕ) → All (Lacks t from) ws → any (rules_clash (unwrap_any mode kind)) ws ≡ false
  later_apart mode kind from m k l ws b = any_none (rules_clash (unwrap_any mode kind)) ws (each_map (Lacks t from) (λ (w : ℕ). rules_clash (unwrap_any mode kind) w ≡ false) each ws b)
    where
      each : (w : ℕ) → Lacks t from w → rules_clash (unwrap_any mode kind) w ≡ false
      each w c =
          ap (rules_clash (unwrap_any mode kind)) c.word_is
          ∙ no_clash c.mode c.kind (omega (arith, (header_in t a).few_modes)) c.kind_in (unwrap_any mode kind)
          (names_other mode kind m k c.mode c.kind any_class (λ x y z. omega arith))

  added_apart : (n from : ℕ) → from + n ≤ h.modes → any_pair rules_clash (lacked_from t from n) ≡ false
  unfolding gather tabulate any any_pair
  added_apart zero from l = refl
  added_apart (suc n) from l =
      by (any (names_class from 0 any_class) rules) (any (names_class from 1 any_class) rules) (added_apart n (suc from) (omega arith))
    where
      rest : List ℕ
      rest = lacked_from t (suc from) n

      small : from < 32
      small = omega (arith, (header_in t a).few_modes)

      apart : (kind : ℕ) → kind < 2 → any (rules_clash (unwrap_any from kind)) rest ≡ false
      apart kind k = later_apart from kind (suc from) small k (omega arith) rest (lack_from t (suc from) n (omega arith))

      two : rules_clash (unwrap_any from 0) (unwrap_any from 1) ≡ false
      two = no_clash from 1 small (omega arith) (unwrap_any from 0) (names_other from 0 small (omega arith) from 1 any_class (λ x y z. omega arith))

      one : (kind : ℕ) → kind < 2 → any_pair rules_clash rest ≡ false → any_pair rules_clash (unwrap_any from kind ∷ rest) ≡ false
      one kind k ih = neither (any (rules_clash (unwrap_any from kind)) rest) (any_pair rules_clash rest) (apart kind k) ih

      by : (b c : Bool) → any_pair rules_clash rest ≡ false → any_pair rules_clash (cond b [] (unwrap_any from 0 ∷ []) ++ cond c [] (unwrap_any from 1 ∷ []) ++ rest) ≡ false
      by true true ih = ih
      by true false ih = one 1 (omega arith) ih
      by false true ih = one 0 (omega arith) ih
      by false false ih =
          neither (any (rules_clash (unwrap_any from 0)) (unwrap_any from 1 ∷ rest)) (any_pair rules_clash (unwrap_any from 1 ∷ rest))
          (neither (rules_clash (unwrap_any from 0) (unwrap_any from 1)) (any (rules_clash (unwrap_any from 0)) rest) two (apart 0 (omega arith))) (one 1 (omega arith) ih)

  -- a word of the table, and all that are added
  old_apart : (v : ℕ) → In v (words_of t h) → any (rules_clash v) (added_words t) ≡ false
  old_apart v i = any_none (rules_clash v) (added_words t) (each_map (Lacks t 0) (λ (w : ℕ). rules_clash v w ≡ false) each (added_words t) (added_lack t))
    where
      each : (w : ℕ) → Lacks t 0 w → rules_clash v w ≡ false
      each w c =
          ap (rules_clash v) c.word_is
          ∙ no_clash c.mode c.kind (omega (arith, (header_in t a).few_modes)) c.kind_in v
          (none_in (names_class c.mode c.kind any_class) (rule_of v) rules c.lacking (in_map rule_of v (words_of t h) i))

  none_clash : any_pair rules_clash (words_of t h ++ added_words t) ≡ false
  none_clash =
      pair_append rules_clash (words_of t h) (added_words t) (passed t a).rules (rw (added_are t) (added_apart h.modes 0 (omega arith)))
      (all_by (λ (v : ℕ). any (rules_clash v) (added_words t) ≡ false) (words_of t h) old_apart)

  module _ (s : Suffices t) where
    abbrev g : Header
    g = raised h (length (added_words t))

    header_fits_lem : header_fits g ≡ true
    header_fits_lem =
        let i = header_in t a in
        simp (le-leb h.namespaces 30 i.few_namespaces, le-leb 1 h.modes i.some_mode, le-leb h.modes 32 i.few_modes, le-leb h.schemas 64 i.few_schemas, le-leb g.rules 128 s)

    length_fits_lem : length_fits (with_any t) g ≡ true
    length_fits_lem =
        both (leb (4 + 4 * g.rules) (length (with_any t))) (uris_fill h.namespaces (drop (4 + 4 * g.rules) (with_any t)))
        (le-leb (4 + 4 * g.rules) (length (with_any t)) (omega (arith, length_more t a, enough t a)))
        (ap (uris_fill h.namespaces) (behind_more t a) ∙ and_right (leb (4 + 4 * h.rules) (length t)) (uris_fill h.namespaces (drop (4 + 4 * h.rules) t)) (passed t a).fills)

    words_fit : all (word_fits g) (words_of t h ++ added_words t) ≡ true
    words_fit =
        all_append (word_fits g) (words_of t h) (added_words t) (passed t a).words
        (all_each (word_fits g) (added_words t) (each_map (Lacks t 0) (λ (w : ℕ). word_fits g w ≡ true) each (added_words t) (added_lack t)))
      where
        each : (w : ℕ) → Lacks t 0 w → word_fits g w ≡ true
        each w c = ap (word_fits g) c.word_is ∙ fits_any c.mode c.kind (omega (arith, (header_in t a).few_modes)) c.kind_in g c.mode_in

    passed_more : Passed (with_any t)
    passed_more =
        let e : header_of (with_any t) ≡ g = header_more t a in
        let f = words_more t a in
        let u = uris_more t a in
        record {
          long = omega (arith, length_more t a, enough t a);
          header = ap header_fits e ∙ header_fits_lem;
          fills = ap (length_fits (with_any t)) e ∙ length_fits_lem;
          words = ap₂ (λ (x : Header) (ws : List ℕ). all (word_fits x) ws) e f ∙ words_fit;
          none_empty = ap (any is_empty) u ∙ (passed t a).none_empty;
          rules = ap (any_pair rules_clash) f ∙ none_clash;
          uris = ap uris_clash u ∙ (passed t a).uris;
        }

    pub judged_more : judged (with_any t) ≡ said 0 (length (with_any t))
    judged_more = judged_passed (with_any t) passed_more

    pub accepted_more : Accepted (with_any t) ≡ true
    accepted_more = ap (λ (x : Answer). eqb x.number 0) judged_more
