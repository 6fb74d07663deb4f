-- The session behind a start, from the numbers and arrays that the code leaves.
--     new_count, opened_session
use Prim.Native.Nat.{ℕ, ◌*◌, ◌≤◌}
use mathlib.Core.Path.{◌≡◌, sym, ap, ap₂, ◌∙◌}
use mathlib.Core.List.{List, [], ◌∷◌, map}
use mathlib.Core.Bool.{Bool}
use native.Mathlib.Omega.{arith}
use native.Mathlib.Nat.{le_refl, mod-eq_of_lt}
use lib.ListN.{length, take, length-map}
use lib.Seq.{take-take}
use Rattle.laws.specs.Over.{overwrite}
use Rattle.laws.specs.Gather.{gather}
use Rattle.laws.proofs.Lists.{length_tabulate}
use Rattle.reader.specs.declared.Span.{Span}
use Rattle.reader.specs.declared.Binding.{Binding}
use Rattle.reader.specs.Stored.{narrowed, binding_numbers}
use Rattle.reader.specs.Scope.{level_numbers}
use Rattle.model.specs.Elements.{Space}
use Rattle.model.specs.Stream.{Entry, HeldStrand}
use Rattle.attributes.specs.declared.Placing.{Placing}
use Rattle.strands.specs.Packed.{packed}
use Rattle.strands.specs.Entries.{entry_in, entries_in}
use Rattle.attributes.specs.Attributes.{placing_of}
use Rattle.sessions.specs.Sessions.{session_of, with_start}
use Rattle.sessions.specs.Turns.{opened_head}
use Rattle.sessions.specs.declared.Head.{Head}
use Rattle.sessions.specs.Session.{Session}

-- the numbers of a tag's declarations are no more than what is taken of them
own_whole : (own l : List ℕ) (n : ℕ) → take n own ≡ l → take n own ≡ take n l
own_whole own l n e = sym (take-take n n own (le_refl n)) ∙ ap (take n) e

-- there are as many strands as entries
pub new_count : (words schemas : List ℕ) (n : ℕ) (es : List Entry) → entries_in words schemas n ≡ es → n ≡ length (map (λ (e : Entry). e.strand) es)
unfolding entries_in
new_count words schemas n es e = sym (length_tabulate (entry_in words schemas) 0 n) ∙ ap length e ∙ sym (length-map es (λ (x : Entry). x.strand))

module _ (head : Head) (levels bindings spaces strands : List ℕ) (place : ℕ) (empty : Bool) (name : Span) (ds : List Binding) (space : Space) (new : List (HeldStrand ℕ)) where
  abbrev behind : ℕ → ℕ → List ℕ → List ℕ → List ℕ → List ℕ → Session
  behind units owned l b p q = session_of (opened_head head place empty units owned) l b p q

  pub opened_session : (levels' bindings' spaces' strands' own words : List ℕ) (units units' owned count : ℕ) (placing : Placing)
      → levels' ≡ overwrite levels (3 * head.depth) (level_numbers name owned)
      → bindings' ≡ overwrite bindings (4 * head.bound) (take (4 * owned) own)
      → spaces' ≡ overwrite spaces (4 * head.depth) (placing.class ∷ narrowed placing.at ∷ narrowed placing.len ∷ count ∷ [])
      → strands' ≡ overwrite strands (16 * head.depth) (take count words)
      → units ≡ units' → owned ≡ length ds → take (4 * length ds) own ≡ gather binding_numbers ds
      → placing ≡ placing_of space → space.class ≤ 255
      → count ≡ length new → take count words ≡ map packed new
      → session_of (opened_head head place empty units owned) levels' bindings' spaces' strands' ≡ with_start (session_of head levels bindings spaces strands) place empty units' name ds space new
  opened_session levels' bindings' spaces' strands' own words units units' owned count placing l b p q u o d w c n k =
      let l-is : levels' ≡ overwrite levels (3 * head.depth) (level_numbers name (length ds)) = l ∙ ap (λ (x : ℕ). overwrite levels (3 * head.depth) (level_numbers name x)) o in
      let b-is : bindings' ≡ overwrite bindings (4 * head.bound) (take (4 * length ds) (gather binding_numbers ds)) =
      b
      ∙ ap (λ (x : ℕ). overwrite bindings (4 * head.bound) (take (4 * x) own)) o
      ∙ ap (overwrite bindings (4 * head.bound)) (own_whole own (gather binding_numbers ds) (4 * length ds) d) in
      let class_is : space.class ≡ narrowed space.class = sym (mod-eq_of_lt {n = space.class} {m = 4294967296} (omega arith)) in
      let p-is : spaces' ≡ overwrite spaces (4 * head.depth) (narrowed space.class ∷ narrowed space.uri.at ∷ narrowed space.uri.len ∷ length new ∷ []) =
      p
      ∙ ap₂ (λ (x : Placing) (m : ℕ). overwrite spaces (4 * head.depth) (x.class ∷ narrowed x.at ∷ narrowed x.len ∷ m ∷ [])) w n
      ∙ ap (λ (m : ℕ). overwrite spaces (4 * head.depth) (m ∷ narrowed space.uri.at ∷ narrowed space.uri.len ∷ length new ∷ [])) class_is in
      let q-is : strands' ≡ overwrite strands (16 * head.depth) (map packed new) = q ∙ ap (overwrite strands (16 * head.depth)) k in
      ap₂ (λ (x y : ℕ). behind x y levels' bindings' spaces' strands') u o
      ∙ ap₂ (λ (x y : List ℕ). behind units' (length ds) x y spaces' strands') l-is b-is
      ∙ ap₂ (λ (x y : List ℕ). behind units' (length ds) (overwrite levels (3 * head.depth) (level_numbers name (length ds))) (overwrite bindings (4 * head.bound) (take (4 * length ds) (gather binding_numbers ds))) x y) p-is q-is
