-- What an accepted table is.
--     passed                       it passed each test of `judged`
--     header_in, few_rules         its header and the number of its rules
--     all_listed, distinct, ..     its URIs: as many as it says, pairwise distinct, none empty, none that of xml
--     rule_in                      each of its rules in range
--     one_kept                     at most one attach or unwrap among the rules of a mode, kind and class
use Prim.Native.Nat.{ℕ, zero, suc, ◌+◌, ◌*◌, ◌≤◌, ◌<◌}
use mathlib.Core.Path.{◌≡◌, refl, sym, ap, ◌∙◌, subst}
use mathlib.Core.List.{List, [], ◌∷◌, map}
use mathlib.Core.Bool.{Bool, true, false, cond, not, ◌&&◌, ◌||◌, or-false}
use mathlib.Core.Logic.{◌⊎◌, inl, inr, ⊎_elim}
use native.Mathlib.Omega.{arith}
use borrow.Author.Tests.{eqb-true, eqb-false, eq-eqb, ne_eqb, ltb-true, ltb-false, leb-true, le-ltb, lt-ltb, not-false}
use lib.ListN.{length, get_or, drop}
use lib.Dec.{eqb, leb, ltb}
use Rattle.laws.specs.Lists.{same_list, any, all, keep, any_pair}
use Rattle.laws.specs.Members.{In, All}
use Rattle.laws.specs.Tests.{both}
use Rattle.laws.specs.Reading.{le_or_lt}
use Rattle.laws.proofs.Flags.{differ, and_left, and_right, and_rest, or_left, or_right}
use Rattle.laws.proofs.Lists.{length_tabulate, keep_map, all_kept, pair_kept}
use Rattle.laws.proofs.Members.{in_at, all_in, none_in, map_in, all_by}
use Rattle.compare.specs.Compare.{xml_uri}
use Rattle.compare.proofs.Equal.{same_refl}
use Rattle.table.specs.Table.{header_of, word_at, words_of, fields_of, action_of, rule_of, uris_from, uris_of, all_rules, names_class, or_else, rules_of, any_class as any_class}
use Rattle.table.specs.Judge.{said, judged, Accepted, header_fits, length_fits, uris_fill, word_fits, is_empty, keeps, same_rule_key, rules_clash, uris_clash}
use Rattle.table.specs.declared.Header.{Header}
use Rattle.table.specs.declared.Fields.{Fields}
use Rattle.table.specs.declared.Rule.{Rule}
use Rattle.table.specs.declared.Answer.{Answer}
use Rattle.table.specs.declared.Action.{Action}
use Rattle.table.specs.declared.Action.TheVariants.{Attach, Unwrap, Validate}
use Rattle.table.specs.Kept.{OthersValidate, OneKept}
use Rattle.table.proofs.Judged.{bad_field, bad_pair, verdict, by_tests}
use Rattle.table.proofs.Rules.{written_says}

pub record Passed (t : List ℕ) : Type 0 where
  pub long : 4 ≤ length t
  pub header : header_fits (header_of t) ≡ true
  pub fills : length_fits t (header_of t) ≡ true
  pub words : all (word_fits (header_of t)) (words_of t (header_of t)) ≡ true
  pub none_empty : any is_empty (uris_of t (header_of t)) ≡ false
  pub rules : any_pair rules_clash (words_of t (header_of t)) ≡ false
  pub uris : uris_clash (uris_of t (header_of t)) ≡ false

-- only the last of the answers has number 0
last : (n : ℕ) (a b c d : Bool) → eqb (verdict n a b c d).number 0 ≡ true
    → (a ≡ true) × (b ≡ true) × (c ≡ false) × (d ≡ false) × (verdict n a b c d ≡ said 0 n)
last n true true false false e = (refl, refl, refl, refl, refl)
last n true true false true e = absurd (differ (sym e))
last n true true true d e = absurd (differ (sym e))
last n true false c d e = absurd (differ (sym e))
last n false b c d e = absurd (differ (sym e))

long_enough : (t : List ℕ) → Accepted t ≡ true → 4 ≤ length t
unfolding judged
long_enough t e = ⊎_elim (λ l. l) (λ l. absurd (differ (sym (rw (lt-ltb (length t) 4 l) at e)))) (le_or_lt 4 (length t))

tested : (t : List ℕ) → Accepted t ≡ true
    → (header_fits (header_of t) ≡ true) × (length_fits t (header_of t) ≡ true) × (bad_field t (header_of t) ≡ false) × (bad_pair t (header_of t) ≡ false)
    × (verdict (length t) (header_fits (header_of t)) (length_fits t (header_of t)) (bad_field t (header_of t)) (bad_pair t (header_of t)) ≡ said 0 (length t))
tested t e =
    last (length t) (header_fits (header_of t)) (length_fits t (header_of t)) (bad_field t (header_of t)) (bad_pair t (header_of t))
    (ap (λ (a : Answer). eqb a.number 0) (sym (by_tests t (long_enough t e) (header_of t) refl)) ∙ e)

-- "if 0 .. from judge the table's length"
pub accepted_answer : (t : List ℕ) → Accepted t ≡ true → judged t ≡ said 0 (length t)
accepted_answer t e = by_tests t (long_enough t e) (header_of t) refl ∙ (tested t e).4

pub passed : (t : List ℕ) → Accepted t ≡ true → Passed t
passed t e =
    let h : Header = header_of t in
    let v = tested t e in
    record {
      long = long_enough t e;
      header = v.0;
      fills = v.1;
      words = not-false (all (word_fits h) (words_of t h)) (or_left (not (all (word_fits h) (words_of t h))) (any is_empty (uris_of t h)) v.2);
      none_empty = or_right (not (all (word_fits h) (words_of t h))) (any is_empty (uris_of t h)) v.2;
      rules = or_left (any_pair rules_clash (words_of t h)) (uris_clash (uris_of t h)) v.3;
      uris = or_right (any_pair rules_clash (words_of t h)) (uris_clash (uris_of t h)) v.3;
    }

pub record HeaderIn (h : Header) : Type 0 where
  pub few_namespaces : h.namespaces ≤ 30
  pub some_mode : 1 ≤ h.modes
  pub few_modes : h.modes ≤ 32
  pub few_schemas : h.schemas ≤ 64
  pub few_rules : h.rules ≤ 128

header_says : (h : Header) → header_fits h ≡ true → HeaderIn h
header_says h e =
    let n = leb h.namespaces 30 in
    let m = leb 1 h.modes in
    let o = leb h.modes 32 in
    let s = leb h.schemas 64 in
    let r = leb h.rules 128 in
    let e₁ = and_right n (m && (o && (s && r))) e in
    let e₂ = and_right m (o && (s && r)) e₁ in
    let e₃ = and_right o (s && r) e₂ in
    record {
      few_namespaces = leb-true h.namespaces 30 (and_left n (m && (o && (s && r))) e);
      some_mode = leb-true 1 h.modes (and_left m (o && (s && r)) e₁);
      few_modes = leb-true h.modes 32 (and_left o (s && r) e₂);
      few_schemas = leb-true h.schemas 64 (and_left s r e₃);
      few_rules = leb-true h.rules 128 (and_right s r e₃);
    }

-- URIs that fill a list are as many as asked for
filled : (n : ℕ) (l : List ℕ) → uris_fill n l ≡ true → length (uris_from n l) ≡ n
unfolding uris_fill uris_from
filled zero l e = refl
filled (suc n) [] e = absurd (differ (sym e))
filled (suc n) (k ∷ l) e =
    let f : leb k (length l) ≡ true = and_left (leb k (length l)) (uris_fill n (drop k l)) e in
    simp f (ap suc (filled n (drop k l) (and_right (leb k (length l)) (uris_fill n (drop k l)) e)))

-- no two elements of a list are the same
apart : (us : List (List ℕ)) → any_pair same_list us ≡ false → (i j : ℕ) → i < j → j < length us → get_or us i [] ≡ get_or us j [] → ⊥
unfolding any_pair
apart [] e i j h k d = omega arith
apart (u ∷ us) e i zero h k d = omega arith
apart (u ∷ us) e zero (suc j) h k d =
    differ
    (sym (same_refl u)
    ∙ ap (same_list u) d
    ∙ none_in (same_list u) (get_or us j []) us (or_left (any (same_list u) us) (any_pair same_list us) e) (in_at us j [] (omega arith)))
apart (u ∷ us) e (suc i) (suc j) h k d = apart us (or_right (any (same_list u) us) (any_pair same_list us) e) i j (omega arith) (omega arith) d

module _ (t : List ℕ) (a : Accepted t ≡ true) where
  pub header_in : HeaderIn (header_of t)
  header_in = header_says (header_of t) (passed t a).header

  pub few_rules : length (words_of t (header_of t)) ≤ 128
  few_rules = omega (arith, length_tabulate (word_at t) 0 (header_of t).rules, header_in.few_rules)

  pub all_listed : length (uris_of t (header_of t)) ≡ (header_of t).namespaces
  all_listed =
      let n : ℕ = (header_of t).namespaces in
      let p : ℕ = 4 + 4 * (header_of t).rules in
      filled n (drop p t) (and_right (leb p (length t)) (uris_fill n (drop p t)) (passed t a).fills)

  pub no_pair : any_pair same_list (uris_of t (header_of t)) ≡ false
  no_pair =
      let us : List (List ℕ) = uris_of t (header_of t) in
      or_right (any (λ (u : List ℕ). same_list u xml_uri) us) (any_pair same_list us) (passed t a).uris

  pub distinct : (i j : ℕ) → i < j → j < (header_of t).namespaces → get_or (uris_of t (header_of t)) i [] ≡ get_or (uris_of t (header_of t)) j [] → ⊥
  distinct i j h k = apart (uris_of t (header_of t)) no_pair i j h (omega (arith, all_listed))

  pub uri_in_lem : (i : ℕ) → i < (header_of t).namespaces → In (get_or (uris_of t (header_of t)) i []) (uris_of t (header_of t))
  uri_in_lem i h = in_at (uris_of t (header_of t)) i [] (omega (arith, all_listed))

  pub no_xml : any (λ (u : List ℕ). same_list u xml_uri) (uris_of t (header_of t)) ≡ false
  no_xml =
      let us : List (List ℕ) = uris_of t (header_of t) in
      or_left (any (λ (u : List ℕ). same_list u xml_uri) us) (any_pair same_list us) (passed t a).uris

  pub not_xml : (u : List ℕ) → In u (uris_of t (header_of t)) → u ≡ xml_uri → ⊥
  not_xml u m d = differ (sym (same_refl xml_uri) ∙ ap (λ (v : List ℕ). same_list v xml_uri) (sym d) ∙ none_in (λ (v : List ℕ). same_list v xml_uri) u (uris_of t (header_of t)) no_xml m)

  pub not_empty : (u : List ℕ) → In u (uris_of t (header_of t)) → u ≡ [] → ⊥
  not_empty u m d = eqb-false (length u) 0 (none_in is_empty u (uris_of t (header_of t)) (passed t a).none_empty m) (ap length d)

-- the schema of a rule: below S for validate, else 0
abbrev pub SchemaIn : ℕ → Action → ℕ → Type 0
SchemaIn schemas Attach schema = schema ≡ 0
SchemaIn schemas Unwrap schema = schema ≡ 0
SchemaIn schemas Validate schema = schema < schemas

pub record RuleIn (h : Header) (r : Rule) : Type 0 where
  pub mode_in : r.mode < h.modes
  pub kind_in : r.kind < 2
  pub class_in_lem : (r.class ≤ h.namespaces) ⊎ ((r.class ≡ 254) ⊎ (r.class ≡ 255))
  pub schema_in : SchemaIn h.schemas r.action r.schema
  pub next_in : r.next < h.modes

module _ (h : Header) (w : ℕ) where
  abbrev fields : Fields
  fields = fields_of w

  class_says : (leb fields.class h.namespaces || leb 254 fields.class) ≡ true → (fields.class ≤ h.namespaces) ⊎ ((fields.class ≡ 254) ⊎ (fields.class ≡ 255))
  class_says = by (leb fields.class h.namespaces) refl
    where
      above : 254 ≤ fields.class → (fields.class ≡ 254) ⊎ (fields.class ≡ 255)
      above l = ⊎_elim (λ m. inl (omega arith)) (λ m. inr (omega arith)) (le_or_lt fields.class 254)

      by : (b : Bool) → b ≡ leb fields.class h.namespaces → (b || leb 254 fields.class) ≡ true → (fields.class ≤ h.namespaces) ⊎ ((fields.class ≡ 254) ⊎ (fields.class ≡ 255))
      by true e k = inl (leb-true fields.class h.namespaces (sym e))
      by false e k = inr (above (leb-true 254 fields.class k))

  schema_says : (eqb fields.action 2 && ltb fields.schema h.schemas || ltb fields.action 2 && eqb fields.schema 0) ≡ true → SchemaIn h.schemas (action_of fields.action) fields.schema
  schema_says e = by (eqb fields.action 0) (eqb fields.action 1) refl refl
    where
      few : fields.action < 2 → fields.schema ≡ 0
      few l = eqb-true fields.schema 0 (and_right (ltb fields.action 2) (eqb fields.schema 0) (rw (ne_eqb fields.action 2 (λ z. omega arith)) at e))

      many : 2 ≤ fields.action → fields.schema < h.schemas
      many l = ltb-true fields.schema h.schemas (keep_left (rw (le-ltb fields.action 2 l) at e))
        where
          keep_left : (eqb fields.action 2 && ltb fields.schema h.schemas || false) ≡ true → ltb fields.schema h.schemas ≡ true
          keep_left g = and_right (eqb fields.action 2) (ltb fields.schema h.schemas) (sym (or-false (eqb fields.action 2 && ltb fields.schema h.schemas)) ∙ g)

      by : (x y : Bool) → x ≡ eqb fields.action 0 → y ≡ eqb fields.action 1 → SchemaIn h.schemas (cond x Attach (cond y Unwrap Validate)) fields.schema
      by true y p q = few (omega (arith, eqb-true fields.action 0 (sym p)))
      by false true p q = few (omega (arith, eqb-true fields.action 1 (sym q)))
      by false false p q = many (two (eqb-false fields.action 0 (sym p)) (eqb-false fields.action 1 (sym q)))
        where
          two : (fields.action ≡ 0 → ⊥) → (fields.action ≡ 1 → ⊥) → 2 ≤ fields.action
          two n m = omega arith

  word_says : word_fits h w ≡ true → RuleIn h (rule_of w)
  word_says e =
      let mode = ltb fields.mode h.modes in
      let class = leb fields.class h.namespaces || leb 254 fields.class in
      let schema = eqb fields.action 2 && ltb fields.schema h.schemas || ltb fields.action 2 && eqb fields.schema 0 in
      let next = ltb fields.next h.modes in
      let zeros = eqb fields.zeros 0 in
      let e₁ = and_right mode (class && (schema && (next && zeros))) e in
      let e₂ = and_right class (schema && (next && zeros)) e₁ in
      let e₃ = and_right schema (next && zeros) e₂ in
      record {
        mode_in = ltb-true fields.mode h.modes (and_left mode (class && (schema && (next && zeros))) e);
        kind_in = omega arith;
        class_in_lem = class_says (and_left class (schema && (next && zeros)) e₁);
        schema_in = schema_says (and_left schema (next && zeros) e₂);
        next_in = ltb-true fields.next h.modes (and_left next zeros e₃);
      }

pub rule_in : (t : List ℕ) → Accepted t ≡ true → (r : Rule) → In r (all_rules t (header_of t)) → RuleIn (header_of t) r
rule_in t a r m =
    let h : Header = header_of t in
    let g = map_in rule_of r (words_of t h) m in
    subst (RuleIn h) (sym g.2) (word_says h g.0 (all_in (word_fits h) g.0 (words_of t h) (passed t a).words g.1))

-- rules with one mode, kind and class, of which no two clash
module _ (mode kind class : ℕ) where
  abbrev here : ℕ → Bool
  here w = names_class mode kind class (rule_of w)

  validates : (w : ℕ) → keeps (fields_of w) ≡ false → (rule_of w).action ≡ Validate
  validates w e =
      let l : 2 ≤ (fields_of w).action = ltb-false (fields_of w).action 2 e in
      simp (ne_eqb (fields_of w).action 0 (λ z. omega arith), ne_eqb (fields_of w).action 1 (λ z. omega arith))

  -- a rule that keeps, and one that does not clash with it
  other : (v w : ℕ) → here v ≡ true → here w ≡ true → keeps (fields_of v) ≡ true → rules_clash v w ≡ false → (rule_of w).action ≡ Validate
  other v w hv hw k c =
      let a = written_says mode kind class (rule_of v) hv in
      let b = written_says mode kind class (rule_of w) hw in
      let f : Fields = fields_of v in
      let g : Fields = fields_of w in
      let s : same_rule_key f g ≡ true =
      both (eqb f.mode g.mode) (eqb f.kind g.kind && eqb f.class g.class) (eq-eqb f.mode g.mode (a.mode_is ∙ sym b.mode_is))
      (both (eqb f.kind g.kind) (eqb f.class g.class) (eq-eqb f.kind g.kind (a.kind_is ∙ sym b.kind_is)) (eq-eqb f.class g.class (a.class_is ∙ sym b.class_is)))
      in
      validates w (and_rest (keeps f) (keeps g) k (and_rest (same_rule_key f g) (keeps f && keeps g) s (or_right (eqb v w) (same_rule_key f g && (keeps f && keeps g)) c)))

  one_of : (ws : List ℕ) → all here ws ≡ true → any_pair rules_clash ws ≡ false → OneKept (map rule_of ws)
  unfolding all any_pair
  one_of [] h c = tt
  one_of (v ∷ ws) h c =
      by (eqb (fields_of v).action 0) (eqb (fields_of v).action 1) refl refl others
      (one_of ws (and_right (here v) (all here ws) h) (or_right (any (rules_clash v) ws) (any_pair rules_clash ws) c))
    where
      others : (fields_of v).action < 2 → All (λ r. r.action ≡ Validate) (map rule_of ws)
      others l =
          all_by (λ (r : Rule). r.action ≡ Validate) (map rule_of ws)
          (λ r m.
          let g = map_in rule_of r ws m in
          ap (λ (q : Rule). q.action) g.2
          ∙ other v g.0 (and_left (here v) (all here ws) h) (all_in here g.0 ws (and_right (here v) (all here ws) h) g.1) (lt-ltb (fields_of v).action 2 l)
          (none_in (rules_clash v) g.0 ws (or_left (any (rules_clash v) ws) (any_pair rules_clash ws) c) g.1))

      by : (x y : Bool) → x ≡ eqb (fields_of v).action 0 → y ≡ eqb (fields_of v).action 1
          → ((fields_of v).action < 2 → All (λ r. r.action ≡ Validate) (map rule_of ws)) → OneKept (map rule_of ws)
          → OthersValidate (cond x Attach (cond y Unwrap Validate)) (map rule_of ws) (OneKept (map rule_of ws))
      by true y p q o ih = o (omega (arith, eqb-true (fields_of v).action 0 (sym p)))
      by false true p q o ih = o (omega (arith, eqb-true (fields_of v).action 1 (sym q)))
      by false false p q o ih = ih

  one_kept_of : (ws : List ℕ) → any_pair rules_clash ws ≡ false → OneKept (keep (names_class mode kind class) (map rule_of ws))
  one_kept_of ws c = subst OneKept (sym (keep_map rule_of (names_class mode kind class) ws)) (one_of (keep here ws) (all_kept here ws) (pair_kept here rules_clash ws c))

either_one : (a b : List Rule) → OneKept a → OneKept b → OneKept (or_else a b)
either_one [] b h k = k
either_one (r ∷ a) b h k = h

pub one_kept : (t : List ℕ) → Accepted t ≡ true → (mode kind class : ℕ) → OneKept (rules_of (all_rules t (header_of t)) mode kind class)
unfolding rules_of
one_kept t a mode kind class =
    let ws : List ℕ = words_of t (header_of t) in
    let c = (passed t a).rules in
    either_one (keep (names_class mode kind class) (map rule_of ws)) (keep (names_class mode kind any_class) (map rule_of ws)) (one_kept_of mode kind class ws c) (one_kept_of mode kind any_class ws c)
