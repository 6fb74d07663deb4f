-- The strands of an element that starts, as the code has them, are the stream's.
--     joined_is                                           whether the element stays in its parent's section
--     enters                                              its strands
--     all_unnumbered, all_schemas_small, all_packable     what holds of each
use Prim.Native.Nat.{ℕ, zero, suc, ◌+◌, ◌-◌, ◌≤◌, ◌<◌}
use mathlib.Core.Path.{◌≡◌, refl, sym, ap, ◌∙◌}
use mathlib.Core.List.{List, map}
use mathlib.Core.Bool.{Bool, true, false, cond}
use mathlib.Core.Logic.{◌⊎◌, ⊎_elim}
use native.Mathlib.Omega.{arith}
use borrow.Author.Tests.{eqb-true, eq-eqb, ne_eqb}
use lib.ListN.{length}
use lib.Dec.{eqb}
use Rattle.laws.specs.Lists.{same_list}
use Rattle.laws.specs.Members.{All}
use Rattle.laws.specs.Reading.{le_or_lt}
use Rattle.laws.proofs.Elementwise.{each_map}
use Rattle.laws.proofs.Flags.{differ}
use Rattle.laws.proofs.Holds.{holds_cond}
use Rattle.compare.proofs.Equal.{same_refl, same_eq, same_sym}
use Rattle.table.specs.Table.{Table, header_of, decode, class_of}
use Rattle.table.specs.Index.{index_of}
use Rattle.table.specs.Judge.{Accepted}
use Rattle.table.proofs.Accepted.{header_in, all_listed}
use Rattle.table.proofs.Namespaces.{class_of_listed, class_nil, class_xml}
use Rattle.reader.specs.declared.Span.{Span}
use Rattle.reader.specs.Spans.{bytes_of}
use Rattle.reader.specs.Namespaces.{Namespace, uri_of}
use Rattle.model.specs.Elements.{Element, Space, space_of, same_space}
use Rattle.model.specs.Stream.{Entry, entries_at}
use Rattle.model.specs.Dispatch.{dispatch}
use Rattle.model.proofs.Lists.{all_unmap}
use Rattle.attributes.proofs.Sorted.{class_few}
use Rattle.strands.specs.Packed.{strand_in}
use Rattle.strands.specs.Entries.{entries_by, entries_from, stay_entry, Unnumbered}
use Rattle.entries.proofs.Entered.{before_root, take_rules_are, stay_are, SchemaSmall, EntryPackable, unnumbered_by, unnumbered_from, unnumbered_stay, schemas_by, schemas_from, schemas_stay, packable_by, packable_from, packable_stay}
use Rattle.sessions.specs.Sessions.{level_uri, class_in, uri_in, strands_in, level_in, levels_in, state_of}
use Rattle.sessions.specs.Coherence.{coherent}
use Rattle.sessions.specs.Session.{Session}
use Rattle.sessions.proofs.Sound.{StrandSound}
use Rattle.sessions.proofs.Clauses.{clauses}
use Rattle.sessions.proofs.CoherentSound.{level_sound}
use Rattle.sessions.proofs.Spaces.{uri_back}
use Rattle.openings.proofs.Deciding.{joined_by, level_words, next_entries}

-- ---- whether the element stays in its parent's section
abbrev ClassIn : Table → ℕ → Type 0
ClassIn t class = (class ≤ length t.uris) ⊎ ((class ≡ 254) ⊎ (class ≡ 255))

module _ (table : List ℕ) (a : Accepted table ≡ true) (s : List ℕ) where
  abbrev t : Table
  t = decode table

  few : 1 + length t.uris ≤ 254
  few = omega (arith, all_listed table a, (header_in table a).few_namespaces)

  -- the span tells only of class 255
  level_same : (class : ℕ) (w v : Span) → (class ≡ 255 → ⊥) → level_uri t s class w ≡ level_uri t s class v
  unfolding level_uri
  level_same class w v n = rw (ne_eqb class 255 n)

  level_last : (class : ℕ) (w : Span) → class ≡ 255 → level_uri t s class w ≡ bytes_of s w
  unfolding level_uri
  level_last class w e = rw e

  level_class : (class : ℕ) (w : Span) → (class ≡ 255 → ⊥) → ClassIn t class → class_of t (level_uri t s class w) ≡ class
  unfolding level_uri
  level_class class w n o =
      ⊎_elim (λ l. ⊎_elim (λ z. none (omega arith)) (λ z. listed l z) (le_or_lt class 0)) (λ r. ⊎_elim xml (λ e. absurd (n e)) r) o
    where
      Back : Type 0
      Back = class_of t (level_uri t s class w) ≡ class

      none : class ≡ 0 → Back
      none e = rw e (class_nil t)

      xml : class ≡ 254 → Back
      xml e = rw e (class_xml t)

      listed : class ≤ length t.uris → 0 < class → Back
      listed l z =
          let i : suc (class - 1) ≡ class = omega arith in
          rw (ne_eqb class 0 (λ e. omega arith), ne_eqb class 254 (λ e. omega (arith, few)), ne_eqb class 255 n)
          (class_of_listed table a (class - 1) (omega (arith, all_listed table a)) ∙ i)

  class_own : (n : Namespace) → (space_of t s n).class ≡ class_of t (uri_of s n)
  unfolding space_of
  class_own n = refl

  pub joined_is : (n : Namespace) (class : ℕ) (w : Span) → ClassIn t class
      → cond (eqb class 255) (same_list (uri_of s n) (bytes_of s w)) (eqb class (space_of t s n).class) ≡ same_list (level_uri t s class w) (uri_of s n)
  joined_is n class w o = by (eqb class 255) refl
    where
      back : class ≡ (space_of t s n).class → (class ≡ 255 → ⊥) → level_uri t s class w ≡ uri_of s n
      back e k = level_same class w (space_of t s n).uri k ∙ ap (λ (c : ℕ). level_uri t s c (space_of t s n).uri) e ∙ uri_back table a s n

      same : (class ≡ 255 → ⊥) → (b : Bool) → b ≡ same_list (level_uri t s class w) (uri_of s n) → eqb class (space_of t s n).class ≡ b
      same k true q =
          eq-eqb class (space_of t s n).class
          (sym (level_class class w k o) ∙ ap (class_of t) (same_eq (level_uri t s class w) (uri_of s n) (sym q)) ∙ sym (class_own n))
      same k false q =
          ne_eqb class (space_of t s n).class (λ e. differ (sym (q ∙ ap (λ (u : List ℕ). same_list u (uri_of s n)) (back e k) ∙ same_refl (uri_of s n))))

      by : (b : Bool) → b ≡ eqb class 255
          → cond b (same_list (uri_of s n) (bytes_of s w)) (eqb class (space_of t s n).class) ≡ same_list (level_uri t s class w) (uri_of s n)
      by true q = same_sym (uri_of s n) (bytes_of s w) ∙ ap (λ (u : List ℕ). same_list u (uri_of s n)) (sym (level_last class w (eqb-true class 255 (sym q))))
      by false q = same (λ e. differ (sym (q ∙ eq-eqb class 255 e))) (same_list (level_uri t s class w) (uri_of s n)) refl

-- ---- the strands
cond_same : {A : Type 0} (a b : Bool) (x x' y y' : A) → a ≡ b → x ≡ x' → y ≡ y' → cond a x y ≡ cond b x' y'
cond_same a b x x' y y' p q r = rw (p, q, r)

next_more : (index s uri spaces strands : List ℕ) (class k : ℕ)
    → next_entries index s uri spaces strands class (suc k)
    ≡ cond (joined_by s uri spaces class k) (map stay_entry (level_words spaces strands k)) (entries_from index class (level_words spaces strands k))
next_more index s uri spaces strands class k = let i : suc k - 1 ≡ k = omega arith in rw (ne_eqb (suc k) 0 (λ e. omega arith), i)

module _ (table : List ℕ) (a : Accepted table ≡ true) (s : List ℕ) (z : Session) (ok : coherent (decode table) s z ≡ true) (n : Namespace) (σ : Element) (e : σ.space ≡ space_of (decode table) s n) where
  abbrev index : List ℕ
  index = index_of table (header_of table)

  abbrev class : ℕ
  class = (space_of (decode table) s n).class

  bytes_are : σ.space.bytes ≡ uri_of s n
  unfolding space_of
  bytes_are = ap (λ (w : Space). w.bytes) e

  class_is : σ.space.class ≡ class
  class_is = ap (λ (w : Space). w.class) e

  few_classes : σ.space.class < 256
  few_classes = omega (arith, class_is, class_few table a s n)

  level_in_lem : (k : ℕ) → k < z.scope.depth → ClassIn (decode table) (class_in z k)
  unfolding level_in
  level_in_lem k l = (level_sound (decode table) s z (clauses (decode table) s z ok) k l).class_in_lem

  joins : (k : ℕ) → k < z.scope.depth
      → joined_by s (uri_of s n) z.spaces class k ≡ same_space (level_in (decode table) s z k).at.space σ.space
  unfolding level_in
  joins k l = joined_is table a s n (class_in z k) (uri_in z k) (level_in_lem k l) ∙ ap (same_list (level_uri (decode table) s (class_in z k) (uri_in z k))) (sym bytes_are)

  modes_in : (k : ℕ) → k < z.scope.depth → All (λ (w : ℕ). (strand_in w).mode < (decode table).modes) (level_words z.spaces z.strands k)
  unfolding level_in strands_in
  modes_in k l =
      each_map _ _ (λ w h. h.mode_in) (level_words z.spaces z.strands k)
      (all_unmap (StrandSound (decode table) z.units) strand_in (level_words z.spaces z.strands k) (level_sound (decode table) s z (clauses (decode table) s z ok) k l).strands)

  enters_at : (d : ℕ) → d ≤ z.scope.depth → next_entries index s (uri_of s n) z.spaces z.strands class d ≡ entries_at (dispatch (decode table)) (levels_in (decode table) s z d) σ
  unfolding levels_in level_in strands_in
  enters_at zero l = ap (λ (c : ℕ). entries_by index c (strand_in 32)) (sym class_is) ∙ before_root table (header_of table) (header_in table a).few_rules (header_in table a).few_modes σ few_classes (header_in table a).some_mode
  enters_at (suc k) l =
      let ws = level_words z.spaces z.strands k in
      next_more index s (uri_of s n) z.spaces z.strands class k
      ∙ cond_same _ _ _ _ _ _ (joins k (omega arith)) (stay_are ws)
      (ap (λ (c : ℕ). entries_from index c ws) (sym class_is) ∙ take_rules_are table (header_of table) (header_in table a).few_rules (header_in table a).few_modes σ few_classes ws (modes_in k (omega arith)))

  pub enters : next_entries (index_of table (header_of table)) s (uri_of s n) z.spaces z.strands (space_of (decode table) s n).class z.scope.depth
      ≡ entries_at (dispatch (decode table)) (state_of (decode table) s z).levels σ
  enters = enters_at z.scope.depth (omega arith)

-- ---- what holds of each
module _ (index s uri spaces strands : List ℕ) (class depth : ℕ) where
  each : (P : Entry → Type 0) → ((w : ℕ) → All P (entries_by index class (strand_in w))) → ((ws : List ℕ) → All P (map stay_entry ws)) → ((ws : List ℕ) → All P (entries_from index class ws))
      → All P (next_entries index s uri spaces strands class depth)
  each P f g h = holds_cond (All P) (eqb depth 0) (λ e. f 32) (λ e. holds_cond (All P) (joined_by s uri spaces class (depth - 1)) (λ j. g (level_words spaces strands (depth - 1))) (λ j. h (level_words spaces strands (depth - 1))))

  pub all_unnumbered : All Unnumbered (next_entries index s uri spaces strands class depth)
  all_unnumbered = each Unnumbered (unnumbered_by index class) unnumbered_stay (unnumbered_from index class)

  pub all_schemas_small : All SchemaSmall (next_entries index s uri spaces strands class depth)
  all_schemas_small = each SchemaSmall (schemas_by index class) schemas_stay (schemas_from index class)

  pub all_packable : All EntryPackable (next_entries index s uri spaces strands class depth)
  all_packable = each EntryPackable (packable_by index class) packable_stay (packable_from index class)
