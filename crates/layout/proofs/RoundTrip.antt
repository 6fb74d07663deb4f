-- A session's bytes and the session in bytes.
--     size             the bytes of a session are 7,208
--     read-back        the session that its bytes hold is the session
--     held_back        its bytes hold a session, if its strand numbers pack
--     written_back     the bytes of the session that bytes hold are those bytes
--     in_packs         the strand numbers of the session that bytes hold pack
--     in_storable      any session in bytes is one that can be stored
--     fresh_held       a fresh session is one that can be stored, and its strand numbers pack
use Prim.Native.Nat.{ℕ, zero, suc, ◌+◌, ◌*◌, ◌/◌, ◌%◌, ◌^◌, ◌≤◌, ◌<◌}
use mathlib.Core.Path.{◌≡◌, refl, sym, ap, subst, ◌∙◌}
use mathlib.Core.List.{List, [], ◌∷◌, ◌++◌}
use mathlib.Core.Bool.{Bool, true, false}
use native.Mathlib.Nat.{zero-add}
use native.Mathlib.Omega.{arith}
use native.Mathlib.Numerals.{add-one}
use borrow.Author.Tests.{eq-eqb, eqb-true, leb-true}
use lib.Dec.{eqb, leb}
use lib.ListN.{length, get_or, take, drop, replicate, length-append, length-drop, length-replicate}
use lib.Seq.{get_or-take, get_or-drop, length-take-le, ext_get_or}
use Rattle.laws.specs.Lists.{all, tabulate}
use Rattle.laws.specs.Gather.{gather}
use Rattle.laws.specs.Members.{All}
use Rattle.laws.proofs.Lists.{length_tabulate, get_d_tabulate}
use Rattle.laws.proofs.Elementwise.{each_tabulated, tested_at, tabulated_all}
use Rattle.laws.proofs.Flags.{and_left, and_right}
use Rattle.laws.proofs.Holds.{each_at}
use Rattle.strands.specs.Packed.{strand_in, packed}
use Rattle.sessions.specs.Session.{Session}
use Rattle.sessions.specs.Sessions.{fresh_of}
use Rattle.layout.specs.Layout.{word4, word8, bytes4, bytes8, flag, binding_at, level_at, space_at, strand_at, packs, session_in, holds_session, session_bytes}
use Rattle.layout.specs.Parts.{head_bytes, level_words}
use Rattle.layout.proofs.Stored.{words_length, head_length, levels_length, part_length, each_level, gather_upto}
use Rattle.layout.proofs.Taken.{part, part_join, part_four, same_four, word_few, word_part, long_part, words_part, cut_table}
use Rattle.layout.proofs.Holding.{padding, level_padding, packing, last_test}
use Rattle.layout.proofs.Within.{Has, has_left, has_right, has_at, has_word, has_long, has_words, has_upto}

-- a session as machine numbers hold it
pub record Storable (z : Session) : Type 0 where
  pub levels_many : length z.scope.levels ≡ 192
  pub bindings_many : length z.scope.bindings ≡ 256
  pub spaces_many : length z.spaces ≡ 256
  pub strands_many : length z.strands ≡ 1024
  pub levels_few : All (λ (w : ℕ). w < 2 ^ 32) z.scope.levels
  pub bindings_few : All (λ (w : ℕ). w < 2 ^ 32) z.scope.bindings
  pub spaces_few : All (λ (w : ℕ). w < 2 ^ 32) z.spaces
  pub strands_few : All (λ (w : ℕ). w < 2 ^ 32) z.strands
  pub place_few : z.place < 2 ^ 64
  pub units_few : z.units < 2 ^ 64
  pub depth_few : z.scope.depth < 2 ^ 64
  pub bound_few : z.scope.bound < 2 ^ 64

abbrev pub AllPack : Session → Type 0
AllPack z = All (λ (w : ℕ). packs w ≡ true) z.strands

-- the three parts of a session's bytes
abbrev head : Session → List ℕ
head z = head_bytes z.closed z.awaited z.place z.units z.scope.depth z.scope.bound

abbrev levels_of : Session → List ℕ
levels_of z = gather (level_words z.scope.levels z.spaces z.strands) (tabulate (λ (k : ℕ). k) 0 64)

parts : (z : Session) → session_bytes z ≡ head z ++ gather bytes4 z.scope.bindings ++ levels_of z
unfolding session_bytes head_bytes level_words
parts z = refl

pub size : (z : Session) → length z.scope.levels ≡ 192 → length z.scope.bindings ≡ 256 → length z.spaces ≡ 256 → length z.strands ≡ 1024 → length (session_bytes z) ≡ 7208
size z l m n o =
    let bound = gather bytes4 z.scope.bindings in
    ap length (parts z)
    ∙ length-append (head z ++ bound) (levels_of z)
    ∙ omega (arith, length-append (head z) bound, head_length z.closed z.awaited z.place z.units z.scope.depth z.scope.bound, words_length z.scope.bindings, levels_length z.scope.levels z.spaces z.strands l n o 64 (omega arith))

-- ---- bytes that begin with a session's
flag_back : (t : Bool) → eqb (flag t) 1 ≡ t
flag_back true = refl
flag_back false = refl

flag_small : (t : Bool) → flag t ≤ 1
flag_small true = omega arith
flag_small false = omega arith

-- numbers stored one after the other, those of an array from an index on
part_read : (b : List ℕ) (at n from : ℕ) (words : List ℕ) (j : ℕ) → j < n → from + n ≤ length words → All (λ (w : ℕ). w < 2 ^ 32) words
    → Has b at (gather bytes4 (take n (drop from words))) → word4 b (at + 4 * j) ≡ get_or words (from + j) 0
part_read b at n from words j l f few h =
    let part = take n (drop from words) in
    let m : length part ≡ n = length-take-le n (drop from words) (omega (arith, length-drop from words)) in
    let e : get_or part j 0 ≡ get_or words (from + j) 0 = get_or-take n (drop from words) j 0 l ∙ get_or-drop from words j 0 in
    has_word b (at + 4 * j) (get_or words (from + j) 0) (each_at (λ (w : ℕ). w < 2 ^ 32) words (from + j) 0 few (omega arith))
    (subst (λ (w : ℕ). Has b (at + 4 * j) (bytes4 w)) e (has_words b at part j (omega arith) h))

array_is : (f : ℕ → ℕ) (words : List ℕ) (n : ℕ) → length words ≡ n → ((i : ℕ) → i < n → f i ≡ get_or words i 0) → words ≡ tabulate f 0 n
array_is f words n l h = ext_get_or 0 words (tabulate f 0 n) (l ∙ sym (length_tabulate f 0 n)) each
  where
    each : (i : ℕ) → i < length words → get_or words i 0 ≡ get_or (tabulate f 0 n) i 0
    each i k = sym (get_d_tabulate f 0 n i 0 (omega arith) ∙ ap f (zero-add i) ∙ h i (omega arith))

zeros_in : (closed awaited : Bool) (b rest : List ℕ) → b ≡ (1 ∷ flag closed ∷ flag awaited ∷ 0 ∷ 0 ∷ 0 ∷ 0 ∷ 0 ∷ []) ++ rest → padding b ≡ true
unfolding all tabulate
zeros_in closed awaited b rest e = ap padding e

module _ (z : Session) (ok : Storable z) (b : List ℕ) (h : Has b 0 (head z ++ gather bytes4 z.scope.bindings ++ levels_of z)) where
  in_head : Has b 0 (head z)
  in_head = has_left b 0 (head z) (gather bytes4 z.scope.bindings) (has_left b 0 (head z ++ gather bytes4 z.scope.bindings) (levels_of z) h)

  in_bindings : Has b 40 (gather bytes4 z.scope.bindings)
  in_bindings =
      has_right b 0 (head z) (gather bytes4 z.scope.bindings) 40 (head_length z.closed z.awaited z.place z.units z.scope.depth z.scope.bound)
      (has_left b 0 (head z ++ gather bytes4 z.scope.bindings) (levels_of z) h)

  in_levels : Has b 1064 (levels_of z)
  in_levels =
      let bound = gather bytes4 z.scope.bindings in
      let l : length (head z ++ bound) ≡ 1064 = length-append (head z) bound ∙ omega (arith, head_length z.closed z.awaited z.place z.units z.scope.depth z.scope.bound, words_length z.scope.bindings, ok.bindings_many) in
      has_right b 0 (head z ++ bound) (levels_of z) 1064 l h

  in_level : (k : ℕ) → k < 64 → Has b (1064 + 96 * k) (level_words z.scope.levels z.spaces z.strands k)
  in_level k l =
      has_upto (level_words z.scope.levels z.spaces z.strands) 64 (each_level z.scope.levels z.spaces z.strands ok.levels_many ok.spaces_many ok.strands_many) b 1064 64 k (omega arith) l in_levels

  -- the parts of a level
  in_names : (k : ℕ) → k < 64 → Has b (1064 + 96 * k) (gather bytes4 (take 3 (drop (3 * k) z.scope.levels)))
  unfolding level_words
  in_names k l =
      let one = gather bytes4 (take 3 (drop (3 * k) z.scope.levels)) in
      let two = gather bytes4 (take 4 (drop (4 * k) z.spaces)) in
      let three = gather bytes4 (take 16 (drop (16 * k) z.strands)) in
      has_left b (1064 + 96 * k) one two (has_left b (1064 + 96 * k) (one ++ two) (bytes4 0 ++ three) (in_level k l))

  in_spaces : (k : ℕ) → k < 64 → Has b (1064 + 96 * k + 12) (gather bytes4 (take 4 (drop (4 * k) z.spaces)))
  unfolding level_words
  in_spaces k l =
      let one = gather bytes4 (take 3 (drop (3 * k) z.scope.levels)) in
      let two = gather bytes4 (take 4 (drop (4 * k) z.spaces)) in
      let three = gather bytes4 (take 16 (drop (16 * k) z.strands)) in
      has_right b (1064 + 96 * k) one two 12 (part_length z.scope.levels (3 * k) 3 (omega (arith, ok.levels_many)))
      (has_left b (1064 + 96 * k) (one ++ two) (bytes4 0 ++ three) (in_level k l))

  behind_spaces : (k : ℕ) → k < 64 → Has b (1064 + 96 * k + 28) (bytes4 0 ++ gather bytes4 (take 16 (drop (16 * k) z.strands)))
  unfolding level_words
  behind_spaces k l =
      let one = gather bytes4 (take 3 (drop (3 * k) z.scope.levels)) in
      let two = gather bytes4 (take 4 (drop (4 * k) z.spaces)) in
      let three = gather bytes4 (take 16 (drop (16 * k) z.strands)) in
      let m : length (one ++ two) ≡ 28 = length-append one two ∙ omega (arith, part_length z.scope.levels (3 * k) 3 (omega (arith, ok.levels_many)), part_length z.spaces (4 * k) 4 (omega (arith, ok.spaces_many))) in
      has_right b (1064 + 96 * k) (one ++ two) (bytes4 0 ++ three) 28 m (in_level k l)

  in_strands : (k : ℕ) → k < 64 → Has b (1064 + 96 * k + 32) (gather bytes4 (take 16 (drop (16 * k) z.strands)))
  in_strands k l =
      let three = gather bytes4 (take 16 (drop (16 * k) z.strands)) in
      has_at b (1064 + 96 * k + 28 + 4) (1064 + 96 * k + 32) three (omega arith)
      (has_right b (1064 + 96 * k + 28) (bytes4 0) three 4 refl (behind_spaces k l))

  -- each number of the arrays
  level_at_lem : (i : ℕ) → i < 192 → word4 b (level_at i) ≡ get_or z.scope.levels i 0
  level_at_lem i l =
      let e : 3 * (i / 3) + i % 3 ≡ i = omega arith in
      part_read b (1064 + 96 * (i / 3)) 3 (3 * (i / 3)) z.scope.levels (i % 3) (omega arith) (omega (arith, ok.levels_many)) ok.levels_few (in_names (i / 3) (omega arith))
      ∙ ap (λ (n : ℕ). get_or z.scope.levels n 0) e

  binding_at_lem : (i : ℕ) → i < 256 → word4 b (binding_at i) ≡ get_or z.scope.bindings i 0
  binding_at_lem i l =
      has_word b (40 + 4 * i) (get_or z.scope.bindings i 0) (each_at (λ (w : ℕ). w < 2 ^ 32) z.scope.bindings i 0 ok.bindings_few (omega (arith, ok.bindings_many)))
      (has_words b 40 z.scope.bindings i (omega (arith, ok.bindings_many)) in_bindings)

  space_at_lem : (i : ℕ) → i < 256 → word4 b (space_at i) ≡ get_or z.spaces i 0
  space_at_lem i l =
      let e : 4 * (i / 4) + i % 4 ≡ i = omega arith in
      part_read b (1064 + 96 * (i / 4) + 12) 4 (4 * (i / 4)) z.spaces (i % 4) (omega arith) (omega (arith, ok.spaces_many)) ok.spaces_few (in_spaces (i / 4) (omega arith))
      ∙ ap (λ (n : ℕ). get_or z.spaces n 0) e

  strand_at_lem : (i : ℕ) → i < 1024 → word4 b (strand_at i) ≡ get_or z.strands i 0
  strand_at_lem i l =
      let e : 16 * (i / 16) + i % 16 ≡ i = omega arith in
      part_read b (1064 + 96 * (i / 16) + 32) 16 (16 * (i / 16)) z.strands (i % 16) (omega arith) (omega (arith, ok.strands_many)) ok.strands_few (in_strands (i / 16) (omega arith))
      ∙ ap (λ (n : ℕ). get_or z.strands n 0) e

  -- the first bytes, and the four numbers behind them
  in_first : Has b 0 (1 ∷ flag z.closed ∷ flag z.awaited ∷ 0 ∷ 0 ∷ 0 ∷ 0 ∷ 0 ∷ [])
  unfolding head_bytes
  in_first =
      let first : List ℕ = 1 ∷ flag z.closed ∷ flag z.awaited ∷ 0 ∷ 0 ∷ 0 ∷ 0 ∷ 0 ∷ [] in
      (bytes8 z.place ++ (bytes8 z.units ++ (bytes8 z.scope.depth ++ (bytes8 z.scope.bound ++ in_head.0))), in_head.1)

  in_place : Has b 8 (bytes8 z.place)
  unfolding head_bytes
  in_place = (bytes8 z.units ++ (bytes8 z.scope.depth ++ (bytes8 z.scope.bound ++ in_head.0)), ap (drop 8) in_head.1)

  in_units : Has b 16 (bytes8 z.units)
  unfolding head_bytes
  in_units = (bytes8 z.scope.depth ++ (bytes8 z.scope.bound ++ in_head.0), ap (drop 16) in_head.1)

  in_depth : Has b 24 (bytes8 z.scope.depth)
  unfolding head_bytes
  in_depth = (bytes8 z.scope.bound ++ in_head.0, ap (drop 24) in_head.1)

  in_bound : Has b 32 (bytes8 z.scope.bound)
  unfolding head_bytes
  in_bound = (in_head.0, ap (drop 32) in_head.1)

  closed_is : get_or b 1 0 ≡ flag z.closed
  closed_is = ap (λ (l : List ℕ). get_or l 1 0) in_first.1

  awaited_is : get_or b 2 0 ≡ flag z.awaited
  awaited_is = ap (λ (l : List ℕ). get_or l 2 0) in_first.1

  session_is : session_in b ≡ z
  unfolding session_in
  session_is =
      rw (
        has_long b 8 z.place ok.place_few in_place,
        has_long b 16 z.units ok.units_few in_units,
        ap (λ (n : ℕ). eqb n 1) closed_is ∙ flag_back z.closed,
        ap (λ (n : ℕ). eqb n 1) awaited_is ∙ flag_back z.awaited,
        has_long b 24 z.scope.depth ok.depth_few in_depth,
        has_long b 32 z.scope.bound ok.bound_few in_bound,
        ← array_is (λ (i : ℕ). word4 b (level_at i)) z.scope.levels 192 ok.levels_many level_at_lem,
        ← array_is (λ (i : ℕ). word4 b (binding_at i)) z.scope.bindings 256 ok.bindings_many binding_at_lem,
        ← array_is (λ (i : ℕ). word4 b (space_at i)) z.spaces 256 ok.spaces_many space_at_lem,
        ← array_is (λ (i : ℕ). word4 b (strand_at i)) z.strands 1024 ok.strands_many strand_at_lem,
      )

  held : AllPack z → holds_session b ≡ true
  held pack = sym
      (last_test b version
      (subst (λ (n : ℕ). n ≤ 1) (sym closed_is) (flag_small z.closed))
      (subst (λ (n : ℕ). n ≤ 1) (sym awaited_is) (flag_small z.awaited))
      zeros
      (tabulated_all (λ (k : ℕ). eqb (word4 b (1064 + 96 * k + 28)) 0) (λ (k : ℕ). k) 0 64 pad)
      true
      (sym (tabulated_all (λ (i : ℕ). packs (word4 b (strand_at i))) (λ (i : ℕ). i) 0 1024 packed_at)))
    where
      version : get_or b 0 0 ≡ 1
      version = ap (λ (l : List ℕ). get_or l 0 0) in_first.1

      zeros : padding b ≡ true
      zeros = zeros_in z.closed z.awaited b in_first.0 in_first.1

      pad : (k : ℕ) → 0 ≤ k → k < 0 + 64 → eqb (word4 b (1064 + 96 * k + 28)) 0 ≡ true
      pad k l m =
          eq-eqb (word4 b (1064 + 96 * k + 28)) 0
          (has_word b (1064 + 96 * k + 28) 0 (omega arith) (has_left b (1064 + 96 * k + 28) (bytes4 0) (gather bytes4 (take 16 (drop (16 * k) z.strands))) (behind_spaces k (omega arith))))

      packed_at : (i : ℕ) → 0 ≤ i → i < 0 + 1024 → packs (word4 b (strand_at i)) ≡ true
      packed_at i l m = ap packs (strand_at_lem i (omega arith)) ∙ each_at (λ (w : ℕ). packs w ≡ true) z.strands i 0 pack (omega (arith, ok.strands_many))

whole : (z : Session) (rest : List ℕ) → Has (session_bytes z ++ rest) 0 (head z ++ gather bytes4 z.scope.bindings ++ levels_of z)
whole z rest = (rest, ap (λ (l : List ℕ). l ++ rest) (parts z))

pub read_back : (z : Session) (rest : List ℕ) → Storable z → session_in (session_bytes z ++ rest) ≡ z
read_back z rest ok = session_is z ok (session_bytes z ++ rest) (whole z rest)

pub held_back : (z : Session) (rest : List ℕ) → Storable z → AllPack z → holds_session (session_bytes z ++ rest) ≡ true
held_back z rest ok pack = held z ok (session_bytes z ++ rest) (whole z rest) pack

-- ---- bytes that hold a session
flag_of : (x : ℕ) → x ≤ 1 → flag (eqb x 1) ≡ x
flag_of zero l = refl
flag_of (suc zero) l = refl
flag_of (suc (suc x)) l = absurd (omega arith)

none_yet : (f : ℕ → List ℕ) → gather f (tabulate (λ (i : ℕ). i) 0 0) ≡ []
unfolding gather tabulate
none_yet f = refl

-- what the tests say
pub record Held (b : List ℕ) : Type 0 where
  pub version : get_or b 0 0 ≡ 1
  pub closed : get_or b 1 0 ≤ 1
  pub awaited : get_or b 2 0 ≤ 1
  pub zeros : (i : ℕ) → 3 ≤ i → i < 8 → get_or b i 0 ≡ 0
  pub zero_words : (k : ℕ) → k < 64 → word4 b (1064 + 96 * k + 28) ≡ 0
  pub packing : (i : ℕ) → i < 1024 → packs (word4 b (strand_at i)) ≡ true

pub holds : (b : List ℕ) → holds_session b ≡ true → Held b
unfolding holds_session
holds b e =
    let e₁ = and_right (eqb (get_or b 0 0) 1) _ e in
    let e₂ = and_right (leb (get_or b 1 0) 1) _ e₁ in
    let e₃ = and_right (leb (get_or b 2 0) 1) _ e₂ in
    let e₄ = and_right (padding b) _ e₃ in
    let e₅ = and_right (level_padding b) (packing b) e₄ in
    record {
      version = eqb-true (get_or b 0 0) 1 (and_left (eqb (get_or b 0 0) 1) _ e);
      closed = leb-true (get_or b 1 0) 1 (and_left (leb (get_or b 1 0) 1) _ e₁);
      awaited = leb-true (get_or b 2 0) 1 (and_left (leb (get_or b 2 0) 1) _ e₂);
      zeros = λ i l h. eqb-true (get_or b i 0) 0 (tested_at (λ (j : ℕ). eqb (get_or b j 0) 0) (λ (j : ℕ). j) 3 5 (and_left (padding b) _ e₃) i l (omega arith));
      zero_words = λ k h. eqb-true (word4 b (1064 + 96 * k + 28)) 0 (tested_at (λ (j : ℕ). eqb (word4 b (1064 + 96 * j + 28)) 0) (λ (j : ℕ). j) 0 64 (and_left (level_padding b) (packing b) e₄) k (omega arith) (omega arith));
      packing = λ i h. tested_at (λ (j : ℕ). packs (word4 b (strand_at j))) (λ (j : ℕ). j) 0 1024 e₅ i (omega arith) (omega arith);
    }

module _ (b : List ℕ) (few : All (λ (x : ℕ). x < 256) b) (long : 7208 ≤ length b) (h : Held b) where
  first_part : 1 ∷ flag (eqb (get_or b 1 0) 1) ∷ flag (eqb (get_or b 2 0) 1) ∷ 0 ∷ 0 ∷ 0 ∷ 0 ∷ 0 ∷ [] ≡ part b 0 8
  first_part =
      part_join b 0 4 4 (1 ∷ flag (eqb (get_or b 1 0) 1) ∷ flag (eqb (get_or b 2 0) 1) ∷ 0 ∷ []) (0 ∷ 0 ∷ 0 ∷ 0 ∷ [])
      (same_four 1 (get_or b 0 0) (flag (eqb (get_or b 1 0) 1)) (get_or b 1 0) (flag (eqb (get_or b 2 0) 1)) (get_or b 2 0) 0 (get_or b 3 0) (sym h.version) (flag_of (get_or b 1 0) h.closed) (flag_of (get_or b 2 0) h.awaited) (sym (h.zeros 3 (omega arith) (omega arith)))
      ∙ sym (part_four b 0 (omega arith)))
      (same_four 0 (get_or b 4 0) 0 (get_or b 5 0) 0 (get_or b 6 0) 0 (get_or b 7 0) (sym (h.zeros 4 (omega arith) (omega arith))) (sym (h.zeros 5 (omega arith) (omega arith))) (sym (h.zeros 6 (omega arith) (omega arith))) (sym (h.zeros 7 (omega arith) (omega arith)))
      ∙ sym (part_four b 4 (omega arith)))

  head_part : head_bytes (eqb (get_or b 1 0) 1) (eqb (get_or b 2 0) 1) (word8 b 8) (word8 b 16) (word8 b 24) (word8 b 32) ≡ part b 0 40
  unfolding head_bytes
  head_part =
      let first : List ℕ = 1 ∷ flag (eqb (get_or b 1 0) 1) ∷ flag (eqb (get_or b 2 0) 1) ∷ 0 ∷ 0 ∷ 0 ∷ 0 ∷ 0 ∷ [] in
      let p₁ : first ++ bytes8 (word8 b 8) ≡ part b 0 16 = part_join b 0 8 8 first (bytes8 (word8 b 8)) first_part (long_part b few 8 (omega arith)) in
      let p₂ : first ++ bytes8 (word8 b 8) ++ bytes8 (word8 b 16) ≡ part b 0 24 = part_join b 0 16 8 (first ++ bytes8 (word8 b 8)) (bytes8 (word8 b 16)) p₁ (long_part b few 16 (omega arith)) in
      let p₃ : first ++ bytes8 (word8 b 8) ++ bytes8 (word8 b 16) ++ bytes8 (word8 b 24) ≡ part b 0 32 = part_join b 0 24 8 (first ++ bytes8 (word8 b 8) ++ bytes8 (word8 b 16)) (bytes8 (word8 b 24)) p₂ (long_part b few 24 (omega arith)) in
      part_join b 0 32 8 (first ++ bytes8 (word8 b 8) ++ bytes8 (word8 b 16) ++ bytes8 (word8 b 24)) (bytes8 (word8 b 32)) p₃ (long_part b few 32 (omega arith))

  -- numbers of an array that stand one after the other
  cut_part : (place : ℕ → ℕ) (total from n at : ℕ) → from + n ≤ total → at + 4 * n ≤ length b → ((j : ℕ) → j < n → place (from + j) ≡ at + 4 * j)
      → gather bytes4 (take n (drop from (tabulate (λ (i : ℕ). word4 b (place i)) 0 total))) ≡ part b at (4 * n)
  cut_part place total from n at l m same =
      ap (gather bytes4) (cut_table (λ (i : ℕ). word4 b (place i)) (λ (j : ℕ). word4 b (at + 4 * j)) total from n l (λ j k. ap (word4 b) (same j k)))
      ∙ words_part b few at n m

  level_part : (k : ℕ) → k < 64
      → level_words (tabulate (λ (i : ℕ). word4 b (level_at i)) 0 192) (tabulate (λ (i : ℕ). word4 b (space_at i)) 0 256) (tabulate (λ (i : ℕ). word4 b (strand_at i)) 0 1024) k ≡ part b (1064 + 96 * k) 96
  unfolding level_words
  level_part k l =
      let at : ℕ = 1064 + 96 * k in
      let one = gather bytes4 (take 3 (drop (3 * k) (tabulate (λ (i : ℕ). word4 b (level_at i)) 0 192))) in
      let two = gather bytes4 (take 4 (drop (4 * k) (tabulate (λ (i : ℕ). word4 b (space_at i)) 0 256))) in
      let three = gather bytes4 (take 16 (drop (16 * k) (tabulate (λ (i : ℕ). word4 b (strand_at i)) 0 1024))) in
      let p₁ : one ≡ part b at 12 = cut_part level_at 192 (3 * k) 3 at (omega arith) (omega arith) (λ j m. omega arith) in
      let p₂ : two ≡ part b (at + 12) 16 = cut_part space_at 256 (4 * k) 4 (at + 12) (omega arith) (omega arith) (λ j m. omega arith) in
      let p₃ : bytes4 0 ≡ part b (at + 28) 4 = ap bytes4 (sym (h.zero_words k l)) ∙ word_part b few (at + 28) (omega arith) in
      let p₄ : three ≡ part b (at + 32) 64 = cut_part strand_at 1024 (16 * k) 16 (at + 32) (omega arith) (omega arith) (λ j m. omega arith) in
      let e : at + 32 ≡ at + 28 + 4 = omega arith in
      part_join b at 28 68 (one ++ two) (bytes4 0 ++ three) (part_join b at 12 16 one two p₁ p₂)
      (part_join b (at + 28) 4 64 (bytes4 0) three p₃ (p₄ ∙ ap (λ (i : ℕ). part b i 64) e))

  levels_part : (k : ℕ) → k ≤ 64
      → gather (level_words (tabulate (λ (i : ℕ). word4 b (level_at i)) 0 192) (tabulate (λ (i : ℕ). word4 b (space_at i)) 0 256) (tabulate (λ (i : ℕ). word4 b (strand_at i)) 0 1024)) (tabulate (λ (i : ℕ). i) 0 k) ≡ part b 1064 (96 * k)
  levels_part zero l =
      none_yet (level_words (tabulate (λ (i : ℕ). word4 b (level_at i)) 0 192) (tabulate (λ (i : ℕ). word4 b (space_at i)) 0 256) (tabulate (λ (i : ℕ). word4 b (strand_at i)) 0 1024))
  levels_part (suc k) l =
      let f = level_words (tabulate (λ (i : ℕ). word4 b (level_at i)) 0 192) (tabulate (λ (i : ℕ). word4 b (space_at i)) 0 256) (tabulate (λ (i : ℕ). word4 b (strand_at i)) 0 1024) in
      let e : 96 * k + 96 ≡ 96 * suc k = omega arith in
      ap (λ (n : ℕ). gather f (tabulate (λ (i : ℕ). i) 0 n)) (sym (add-one k))
      ∙ gather_upto f k
      ∙ part_join b 1064 (96 * k) 96 (gather f (tabulate (λ (i : ℕ). i) 0 k)) (f k) (levels_part k (omega arith)) (level_part k l)
      ∙ ap (part b 1064) e

  whole_part : session_bytes (session_in b) ≡ part b 0 7208
  unfolding session_in
  whole_part =
      let p₂ = words_part b few 40 256 (omega arith) in
      parts (session_in b)
      ∙ part_join b 0 1064 6144 (head (session_in b) ++ gather bytes4 (session_in b).scope.bindings) (levels_of (session_in b))
      (part_join b 0 40 1024 (head (session_in b)) (gather bytes4 (session_in b).scope.bindings) head_part p₂)
      (levels_part 64 (omega arith))

pub written_back : (b : List ℕ) → All (λ (x : ℕ). x < 256) b → 7208 ≤ length b → holds_session b ≡ true → session_bytes (session_in b) ≡ take 7208 b
written_back b few long e = whole_part b few long (holds b e)

pub in_packs : (b : List ℕ) → holds_session b ≡ true → AllPack (session_in b)
unfolding session_in
in_packs b e = each_tabulated (λ (w : ℕ). packs w ≡ true) (λ (i : ℕ). word4 b (strand_at i)) 0 1024 (λ k l h. (holds b e).packing k (omega arith))

module _ (b : List ℕ) (few : All (λ (x : ℕ). x < 256) b) (long : 7208 ≤ length b) where
  words_few : (place : ℕ → ℕ) (n : ℕ) → ((k : ℕ) → k < n → place k + 4 ≤ 7208) → All (λ (w : ℕ). w < 2 ^ 32) (tabulate (λ (i : ℕ). word4 b (place i)) 0 n)
  words_few place n inside = each_tabulated (λ (w : ℕ). w < 2 ^ 32) (λ (i : ℕ). word4 b (place i)) 0 n (λ k l h. word_few b few (place k) (omega (arith, inside k (omega arith))))

  long_few : (at : ℕ) → at + 8 ≤ 7208 → word8 b at < 2 ^ 64
  long_few at h = omega (arith, word_few b few at (omega arith), word_few b few (at + 4) (omega arith))

  pub in_storable : Storable (session_in b)
  unfolding session_in
  in_storable =
      record {
        levels_many = length_tabulate (λ (i : ℕ). word4 b (level_at i)) 0 192;
        bindings_many = length_tabulate (λ (i : ℕ). word4 b (binding_at i)) 0 256;
        spaces_many = length_tabulate (λ (i : ℕ). word4 b (space_at i)) 0 256;
        strands_many = length_tabulate (λ (i : ℕ). word4 b (strand_at i)) 0 1024;
        levels_few = words_few level_at 192 (λ k l. omega arith);
        bindings_few = words_few binding_at 256 (λ k l. omega arith);
        spaces_few = words_few space_at 256 (λ k l. omega arith);
        strands_few = words_few strand_at 1024 (λ k l. omega arith);
        place_few = long_few 8 (omega arith);
        units_few = long_few 16 (omega arith);
        depth_few = long_few 24 (omega arith);
        bound_few = long_few 32 (omega arith);
      }

-- ---- a fresh session
all_same : (P : ℕ → Type 0) (n x : ℕ) → P x → All P (replicate n x)
all_same P zero x p = tt
all_same P (suc n) x p = (p, all_same P n x p)

pub fresh_held : Storable fresh_of × AllPack fresh_of
unfolding packed strand_in
fresh_held = (
  record {
    levels_many = length-replicate {A = ℕ} 192 0;
    bindings_many = length-replicate {A = ℕ} 256 0;
    spaces_many = length-replicate {A = ℕ} 256 0;
    strands_many = length-replicate {A = ℕ} 1024 0;
    levels_few = all_same (λ (w : ℕ). w < 2 ^ 32) 192 0 (omega arith);
    bindings_few = all_same (λ (w : ℕ). w < 2 ^ 32) 256 0 (omega arith);
    spaces_few = all_same (λ (w : ℕ). w < 2 ^ 32) 256 0 (omega arith);
    strands_few = all_same (λ (w : ℕ). w < 2 ^ 32) 1024 0 (omega arith);
    place_few = omega arith;
    units_few = omega arith;
    depth_few = omega arith;
    bound_few = omega arith;
  },
  all_same (λ (w : ℕ). packs w ≡ true) 1024 0 refl,
)
