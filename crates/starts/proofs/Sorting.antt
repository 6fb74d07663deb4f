-- The attributes of a start and their sections, as the arrays have them, are the model's.
--     sections_few                      at most 16 sections
--     sorted_start, sections_start      the attributes with their sections, and how many sections
use Prim.Native.Nat.{ℕ, ◌≤◌}
use mathlib.Core.Path.{◌≡◌, ap, ap₂, ◌∙◌}
use mathlib.Core.List.{List, [], ◌∷◌, map}
use mathlib.Core.Bool.{Bool, true, false, cond}
use native.Mathlib.Omega.{arith}
use lib.ListN.{length, length-map}
use Rattle.laws.specs.Lists.{keep, tabulate}
use Rattle.laws.specs.Members.{All}
use Rattle.laws.specs.Over.{overwrite}
use Rattle.laws.proofs.Lists.{length_tabulate}
use Rattle.table.specs.Table.{Table, decode}
use Rattle.table.specs.Judge.{Accepted}
use Rattle.lexer.specs.declared.Tag.{Tag}
use Rattle.lexer.specs.Attrs.{attrs_in}
use Rattle.reader.specs.declared.Found.{Found}
use Rattle.reader.specs.Spans.{part_span}
use Rattle.reader.specs.Namespaces as scene
use Rattle.reader.specs.Namespaces.{Namespace, attribute}
use Rattle.reader.specs.Stored.{Coded, coded}
use Rattle.reader.specs.Stored as stored
use Rattle.reader.specs.Events.{Start}
use Rattle.reader.specs.Held.{SpanHeld}
use Rattle.reader.proofs.AgreeWhole.{attributes_in}
use Rattle.model.specs.Elements.{Element, uri_span, space_of, element_of}
use Rattle.model.specs.Groups.{groups_of}
use Rattle.attributes.specs.Attributes.{Given, namespace_of, given_of, delivered, givens_of, laid_givens, given_in, code_namespaces, numbers_from, sections_after, all_sorted}
use Rattle.attributes.proofs.Giving.{GivenSmall, givens_back}
use Rattle.attributes.proofs.Numbering as numbering
use Rattle.strands.proofs.Numbered.{all_of}
use Rattle.attributes.proofs.Sorted.{class_few, uri_within, CodeSmall, kept_are, element_in, sorted_are, sections_are}
use Rattle.sessions.specs.Turns.{start_of}

-- ---- at most 16 sections
pub sections_few : (s : List ℕ) (e : Namespace) (own outer attributes : List ℕ) (n m : ℕ) → n ≤ 16
    → m ≡ length (sections_after s e [] (code_namespaces own outer (tabulate (given_in attributes) 0 n))) → m ≤ 16
sections_few s e own outer attributes n m few q =
    let gs = tabulate (given_in attributes) 0 n in
    omega (arith, numbering.sections_few s e [] (code_namespaces own outer gs), length-map gs (λ (g : Given). namespace_of own outer g.code), length_tabulate (given_in attributes) 0 n)

-- ---- what the arrays hold
abbrev pub AttributeInside : List ℕ → scene.ReadAttribute → Type 0
AttributeInside s a = SpanHeld s a.part × SpanHeld s a.value × SpanHeld s (uri_span a.namespace)

module _ (table : List ℕ) (a : Accepted table ≡ true) (s own outer : List ℕ) (short : length s ≤ 16777215) where
  abbrev made : Coded → scene.ReadAttribute
  made c = attribute c.attr (namespace_of own outer c.code)

  given_small : (c : Coded) → AttributeInside s (made c) → CodeSmall c → GivenSmall (given_of (decode table) s own outer c)
  given_small c h k =
      let u : SpanHeld s (space_of (decode table) s (namespace_of own outer c.code)).uri = uri_within (decode table) s (namespace_of own outer c.code) h.2 in
      record {
        part_at = omega (arith, h.0);
        part_len = omega (arith, h.0);
        value_at = omega (arith, h.1);
        value_len = omega (arith, h.1);
        class_in_lem = class_few table a s (namespace_of own outer c.code);
        uri_at_lem = omega (arith, u);
        uri_len_lem = omega (arith, u);
        code_in = omega arith;
      }

  givens_small : (l : List Coded) → All (AttributeInside s) (map made (keep (delivered s) l)) → All CodeSmall l → All GivenSmall (givens_of (decode table) s own outer l)
  unfolding givens_of keep
  givens_small [] h k = tt
  givens_small (c ∷ l) h k = by (delivered s c) h (λ r. givens_small l r k.1)
    where
      by : (b : Bool) → All (AttributeInside s) (map made (cond b (c ∷ keep (delivered s) l) (keep (delivered s) l)))
          → (All (AttributeInside s) (map made (keep (delivered s) l)) → All GivenSmall (map (given_of (decode table) s own outer) (keep (delivered s) l)))
          → All GivenSmall (map (given_of (decode table) s own outer) (cond b (c ∷ keep (delivered s) l) (keep (delivered s) l)))
      by true r ih = (given_small c r.0 k.0, ih r.1)
      by false r ih = ih r

-- ---- the model's
module _ (table : List ℕ) (a : Accepted table ≡ true) (s outer own attrs codes : List ℕ) (at : ℕ) (tag : Tag) (found : Found) where
  abbrev t : Table
  t = decode table

  abbrev n : Namespace
  n = stored.stored_space own outer found

  abbrev cs : List Coded
  cs = coded (attrs_in attrs tag.count) codes

  abbrev e : Start
  e = start_of s outer own attrs codes at tag found

  abbrev gs : List Given
  gs = givens_of t s own outer cs

  element : element_in t s n at (part_span tag.name) (attributes_in s own outer cs) ≡ element_of t s e
  unfolding element_of
  element = ap (element_in t s n at (part_span tag.name)) (kept_are s own outer cs)

  module _ (short : length s ≤ 16777215) (inside : All (AttributeInside s) (start_of s outer own attrs codes at tag found).attributes) (few : All CodeSmall (coded (attrs_in attrs tag.count) codes))
      (attributes₀ sections₀ attributes : List ℕ) (k : ℕ) (ek : k ≡ length (givens_of (decode table) s own outer (coded (attrs_in attrs tag.count) codes)))
      (ea : attributes ≡ laid_givens (givens_of (decode table) s own outer (coded (attrs_in attrs tag.count) codes)) attributes₀) where
    small : All GivenSmall gs
    small = givens_small table a s own outer short cs inside few

    back : tabulate (given_in attributes) 0 k ≡ gs
    back = ap₂ (λ (l : List ℕ) (i : ℕ). tabulate (given_in l) 0 i) ea ek ∙ givens_back gs attributes₀ small

    pub sections_start : (m : ℕ) → m ≡ length (sections_after s (stored.stored_space own outer found) [] (code_namespaces own outer (tabulate (given_in attributes) 0 k)))
        → m ≡ length (groups_of (element_of (decode table) s (start_of s outer own attrs codes at tag found)))
    sections_start m q =
        q
        ∙ ap (λ (l : List Given). length (sections_after s n [] (code_namespaces own outer l))) back
        ∙ sections_are t s n own outer at (part_span tag.name) cs
        ∙ ap (λ (σ : Element). length (groups_of σ)) element

    pub sorted_start : (sections : List ℕ) → sections ≡ overwrite sections₀ 0 (numbers_from s (stored.stored_space own outer found) [] (code_namespaces own outer (tabulate (given_in attributes) 0 k)))
        → all_sorted attributes sections k ≡ all_of (element_of (decode table) s (start_of s outer own attrs codes at tag found))
    sorted_start sections q =
        let es : sections ≡ overwrite sections₀ 0 (numbers_from s n [] (code_namespaces own outer gs)) = q ∙ ap (λ (l : List Given). overwrite sections₀ 0 (numbers_from s n [] (code_namespaces own outer l))) back in
        ap₂ (λ (l : List ℕ) (i : ℕ). all_sorted l sections i) ea ek
        ∙ ap (λ (l : List ℕ). all_sorted (laid_givens gs attributes₀) l (length gs)) es
        ∙ sorted_are t s n own outer at (part_span tag.name) cs attributes₀ sections₀ small
        ∙ ap all_of element
