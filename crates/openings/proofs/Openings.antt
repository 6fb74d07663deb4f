-- What the parts of a start leave, as the code makes them.
--     begun_is                          what the starts along the strands have in common
--     rows_behind                       the rows of the attribute units, then those of the element
--     pushed_names, pushed_spaces, pushed_strands, pushed_free, pushed_name, pushed_bindings_lem     what is laid down
use Prim.Native.Nat.{ℕ, ◌+◌, ◌*◌, ◌-◌, ◌%◌, ◌^◌, ◌≤◌, ◌<◌}
use mathlib.Core.Path.{◌≡◌, sym, ap, ◌∙◌}
use mathlib.Core.List.{List, ◌++◌, map, map-append}
use mathlib.Core.Logic.{inl, inr}
use native.Mathlib.Nat.{add-zero}
use native.Mathlib.Omega.{arith}
use lib.ListN.{length, take, length-take}
use Rattle.laws.specs.Over.{overwrite}
use Rattle.laws.proofs.Over.{length_over}
use Rattle.lexer.specs.declared.Name.{Name}
use Rattle.lexer.specs.declared.Tag.{Tag}
use Rattle.reader.specs.Spans.{span, whole_span}
use Rattle.reader.specs.Scope.{level_numbers}
use Rattle.reader.specs.Pushed.{pushed_bindings}
use Rattle.records.specs.Rows.{laid, laid_rows}
use Rattle.records.proofs.Laid.{rows_more}
use Rattle.strands.specs.Levels.{of_each, level_names, level_spaces, level_strands, level_free}
use Rattle.strands.proofs.LevelNumbers.{each_laid, each_kept}
use Rattle.strands.specs.Writing.{row_of, begun_body, element_records}
use Rattle.attributes.specs.declared.Placing.{Placing}
use Rattle.strands.specs.declared.Begun.{Begun}
use Rattle.openings.specs.Openings.{begun_of, array_units}
use Rattle.openings.specs.declared.Decided.{Decided}
use Rattle.laws.specs.Gather.{gather}
use Rattle.model.specs.Theory.{Record}
use Rattle.model.specs.Records.{Body}
use Rattle.model.specs.Stream.{attributes_from}
use Rattle.strands.specs.Entries.{entries_in}
use Rattle.attributes.specs.Attributes.{all_sorted}
use Rattle.reader.proofs.Pushes as pushes

-- ---- the records of a start, from the arrays
-- ---- what the code writes
abbrev pub unit_records : List ℕ → List ℕ → List ℕ → List ℕ → ℕ → ℕ → Decided → List (Record Body ℕ)
unit_records index attributes sections words tag units r =
    attributes_from (λ (u : ℕ). u) units (array_units index attributes sections words tag r)

abbrev pub strand_records : List ℕ → List ℕ → List ℕ → List ℕ → List ℕ → Begun → Decided → List (Record Body ℕ)
strand_records index attributes sections words schemas b r =
    gather (element_records index b.tag (begun_body b) (all_sorted attributes sections r.attributes)) (entries_in words schemas r.strands)

-- ---- what the starts along the strands have in common
pub begun_is : (at : ℕ) (tag : Tag) (placing : Placing) (a p d l u v : ℕ) → a ≡ at % 2 ^ 32 → p ≡ tag.name.part % 2 ^ 32 → d ≡ tag.name.end - tag.name.part → l ≡ d % 2 ^ 32
    → u ≡ placing.at % 2 ^ 32 → v ≡ placing.len % 2 ^ 32
    → ◌≡◌ {A = Begun} (record { tag = a; class = placing.class; at = p; len = l; uri_at = u; uri_len = v }) (begun_of at tag placing)
begun_is at tag placing a p d l u v e f g h j k = rw (e, f, h, g, j, k)

-- ---- the attribute units, then the element
module _ (index attributes sections words schemas : List ℕ) (b : Begun) (units : ℕ) (r : Decided) where
  pub rows_behind : (out out₁ out₂ : List ℕ) (used used' : ℕ) → laid out₁ used ≡ laid_rows (laid out 0) (map row_of (unit_records index attributes sections words b.tag units r))
      → laid out₂ used' ≡ laid_rows (laid out₁ used) (map row_of (strand_records index attributes sections words schemas b r))
      → laid out₂ used' ≡ laid_rows (laid out 0) (map row_of (unit_records index attributes sections words b.tag units r ++ strand_records index attributes sections words schemas b r))
  rows_behind out out₁ out₂ used used' e f =
      let us = unit_records index attributes sections words b.tag units r in
      let es = strand_records index attributes sections words schemas b r in
      rows_more (laid out 0) (map row_of us) (map row_of es) (laid out₁ used) (laid out₂ used') e f ∙ ap (laid_rows (laid out 0)) (sym (map-append row_of us es))

-- ---- what is laid down
module _ (l l₁ l₂ l₃ : List ℕ) (depth : ℕ) (ns ss ws : List ℕ) (long : length l ≡ 1536) (h : depth < 64) (three : length ns ≡ 3) (four : length ss ≡ 4) (few : length ws ≤ 16)
    (e : l₁ ≡ overwrite l (24 * depth) ns) (f : l₂ ≡ overwrite l₁ (24 * depth + 3) ss) (g : l₃ ≡ overwrite l₂ (24 * depth + 8) ws) where
  long₁ : length l₁ ≡ 1536
  long₁ = ap length e ∙ length_over l (24 * depth) ns (omega arith) ∙ long

  long₂ : length l₂ ≡ 1536
  long₂ = ap length f ∙ length_over l₁ (24 * depth + 3) ss (omega (arith, long₁)) ∙ long₁

  -- of a part of each level, what the three stores leave
  first : (w from : ℕ) → of_each w from l₁ ≡ of_each w from (overwrite l (24 * depth + 0) ns)
  first w from = ap (of_each w from) (e ∙ ap (λ (i : ℕ). overwrite l i ns) (sym (add-zero (24 * depth))))

  pub pushed_names : level_names l₃ ≡ overwrite (level_names l) (3 * depth) ns
  pushed_names =
      ap level_names g
      ∙ each_kept 3 0 l₂ depth 8 ws long₂ h (omega arith) (omega arith) (inr (omega arith))
      ∙ ap level_names f
      ∙ each_kept 3 0 l₁ depth 3 ss long₁ h (omega arith) (omega arith) (inr (omega arith))
      ∙ first 3 0
      ∙ each_laid 3 0 l depth ns long h (omega arith) (omega arith)

  pub pushed_spaces : level_spaces l₃ ≡ overwrite (level_spaces l) (4 * depth) ss
  pushed_spaces =
      ap level_spaces g
      ∙ each_kept 4 3 l₂ depth 8 ws long₂ h (omega arith) (omega arith) (inr (omega arith))
      ∙ ap level_spaces f
      ∙ each_laid 4 3 l₁ depth ss long₁ h (omega arith) (omega arith)
      ∙ ap (λ (x : List ℕ). overwrite x (4 * depth) ss) (first 4 3 ∙ each_kept 4 3 l depth 0 ns long h (omega arith) (omega arith) (inl (omega arith)))

  pub pushed_strands : level_strands l₃ ≡ overwrite (level_strands l) (16 * depth) ws
  pushed_strands =
      ap level_strands g
      ∙ each_laid 16 8 l₂ depth ws long₂ h few (omega arith)
      ∙ ap (λ (x : List ℕ). overwrite x (16 * depth) ws)
      (ap level_strands f ∙ each_kept 16 8 l₁ depth 3 ss long₁ h (omega arith) (omega arith) (inl (omega arith)) ∙ first 16 8 ∙ each_kept 16 8 l depth 0 ns long h (omega arith) (omega arith) (inl (omega arith)))

  pub pushed_free : level_free l₃ ≡ level_free l
  pushed_free =
      ap level_free g
      ∙ each_kept 1 7 l₂ depth 8 ws long₂ h (omega arith) (omega arith) (inr (omega arith))
      ∙ ap level_free f
      ∙ each_kept 1 7 l₁ depth 3 ss long₁ h (omega arith) (omega arith) (inl (omega arith))
      ∙ first 1 7
      ∙ each_kept 1 7 l depth 0 ns long h (omega arith) (omega arith) (inl (omega arith))

pub few_taken : (n : ℕ) (l : List ℕ) → n ≤ 16 → length (take n l) ≤ 16
few_taken n l h = omega (arith, length-take n l)

-- a level's numbers, by its name's end
pub pushed_name : (l : List ℕ) (at len owned : ℕ) (name : Name) → len ≡ name.end - name.at → overwrite l at (level_numbers (span name.at len) owned) ≡ overwrite l at (level_numbers (whole_span name) owned)
pushed_name l at len owned name f = ap (λ (n : ℕ). overwrite l at (level_numbers (span name.at n) owned)) f

pub pushed_bindings_lem : (l l' own : List ℕ) (bound owned : ℕ) → l' ≡ pushed_bindings l bound own owned → owned ≤ 16 → bound + owned ≤ 64 → l' ≡ overwrite l (4 * bound) (take (4 * owned) own)
pushed_bindings_lem l l' own bound owned e h k = e ∙ sym (pushes.laid l bound own owned h k)
