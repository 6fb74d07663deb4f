-- Numbers stored one after the other.
use Prim.Native.Nat.{ℕ, zero, suc, ◌+◌, ◌*◌, ◌≤◌, ◌<◌}
use mathlib.Core.Path.{◌≡◌, refl, sym, ap, ap₂, ◌∙◌}
use mathlib.Core.List.{List, [], ◌∷◌, ◌++◌, append_assoc, append-nil}
use mathlib.Core.Bool.{Bool, true, false}
use native.Mathlib.Nat.{add-zero}
use native.Mathlib.Numerals.{add-one}
use native.Mathlib.Omega.{arith}
use lib.ListN.{length, get_or, take, drop, length-append, length-drop}
use lib.Seq.{length-take-le, take_all}
use Rattle.std.specs.Int.{from_bool}
use Rattle.laws.specs.Lists.{tabulate}
use Rattle.laws.specs.Gather.{gather}
use Rattle.laws.specs.Over.{overwrite}
use Rattle.laws.proofs.Gather.{gather_none, gather_more, gather_append}
use Rattle.laws.proofs.Over.{over_none, over_over}
use Rattle.strands.specs.Levels.{level_names, level_spaces, level_strands}
use Rattle.strands.proofs.LevelNumbers.{each_long}
use Rattle.openings.proofs.LevelArrays.{each_row}
use Rattle.sessions.specs.Session.{Session}
use Rattle.layout.specs.Layout.{flag, bytes4, bytes8, session_bytes}
use Rattle.layout.specs.Parts.{head_bytes, level_words}
use Rattle.layout.proofs.Filled.{tabulate_more}

-- a part right behind another
pub over_chain : (b c d : List ℕ) (i j : ℕ) (ys zs : List ℕ) → i ≤ length b → j ≡ i + length ys → c ≡ overwrite b i ys → d ≡ overwrite c j zs → d ≡ overwrite b i (ys ++ zs)
over_chain b c d i j ys zs h k e f =
    f
    ∙ ap (λ (l : List ℕ). overwrite l j zs) e
    ∙ ap (λ (n : ℕ). overwrite (overwrite b i ys) n zs) k
    ∙ over_over b i ys zs h

pub words_length : (ws : List ℕ) → length (gather bytes4 ws) ≡ 4 * length ws
unfolding gather
words_length [] = refl
words_length (w ∷ ws) = omega (arith, length-append (bytes4 w) (gather bytes4 ws), words_length ws)

module _ (b : List ℕ) (at : ℕ) (words : List ℕ) where
  pub words_start : b ≡ overwrite b at (gather bytes4 (take 0 words))
  words_start = sym (ap (overwrite b at) (gather_none bytes4) ∙ over_none b at)

  pub words_more : (c d : List ℕ) (i : ℕ) → i < length words → at + 4 * i ≤ length b
      → c ≡ overwrite b at (gather bytes4 (take i words))
      → d ≡ overwrite c (at + 4 * i) (bytes4 (get_or words i 0))
      → d ≡ overwrite b at (gather bytes4 (take (i + 1) words))
  words_more c d i h k e f =
      over_chain b c d at (at + 4 * i) (gather bytes4 (take i words)) (bytes4 (get_or words i 0)) (omega arith)
      (omega (arith, words_length (take i words), length-take-le i words (omega arith))) e f
      ∙ ap (overwrite b at) (sym (gather_more bytes4 words i 0 h))

  pub words_end : (c : List ℕ) (i : ℕ) → i ≡ length words → c ≡ overwrite b at (gather bytes4 (take i words)) → c ≡ overwrite b at (gather bytes4 words)
  words_end c i k e = e ∙ ap (λ (ws : List ℕ). overwrite b at (gather bytes4 ws)) (take_all i words (omega arith))

pub part_length : (words : List ℕ) (from n : ℕ) → from + n ≤ length words → length (gather bytes4 (take n (drop from words))) ≡ 4 * n
part_length words from n h = words_length (take n (drop from words)) ∙ ap (λ (k : ℕ). 4 * k) (length-take-le n (drop from words) (omega (arith, length-drop from words)))

-- the first forty bytes
pub flag_from : (t : Bool) → from_bool t ≡ flag t
flag_from true = refl
flag_from false = refl

pub head_length : (closed awaited : Bool) (place units depth bound : ℕ) → length (head_bytes closed awaited place units depth bound) ≡ 40
unfolding head_bytes
head_length closed awaited place units depth bound = refl

pub head_end : (b b₂ b₃ b₄ b₅ b₆ : List ℕ) (closed awaited : Bool) (c a place units depth bound : ℕ)
    → c ≡ flag closed → a ≡ flag awaited
    → b₂ ≡ overwrite b 0 (1 ∷ c ∷ a ∷ 0 ∷ 0 ∷ 0 ∷ 0 ∷ 0 ∷ []) → b₃ ≡ overwrite b₂ 8 (bytes8 place) → b₄ ≡ overwrite b₃ 16 (bytes8 units)
    → b₅ ≡ overwrite b₄ 24 (bytes8 depth) → b₆ ≡ overwrite b₅ 32 (bytes8 bound)
    → b₆ ≡ overwrite b 0 (head_bytes closed awaited place units depth bound)
unfolding head_bytes
head_end b b₂ b₃ b₄ b₅ b₆ closed awaited c a place units depth bound ec ea e₂ e₃ e₄ e₅ e₆ =
    let first : List ℕ = 1 ∷ flag closed ∷ flag awaited ∷ 0 ∷ 0 ∷ 0 ∷ 0 ∷ 0 ∷ [] in
    let f₂ : b₂ ≡ overwrite b 0 first = e₂ ∙ ap₂ (λ (x y : ℕ). overwrite b 0 (1 ∷ x ∷ y ∷ 0 ∷ 0 ∷ 0 ∷ 0 ∷ 0 ∷ [])) ec ea in
    let f₃ : b₃ ≡ overwrite b 0 (first ++ bytes8 place) = over_chain b b₂ b₃ 0 8 first (bytes8 place) (omega arith) refl f₂ e₃ in
    let f₄ : b₄ ≡ overwrite b 0 (first ++ bytes8 place ++ bytes8 units) = over_chain b b₃ b₄ 0 16 (first ++ bytes8 place) (bytes8 units) (omega arith) refl f₃ e₄ in
    let f₅ : b₅ ≡ overwrite b 0 (first ++ bytes8 place ++ bytes8 units ++ bytes8 depth) = over_chain b b₄ b₅ 0 24 (first ++ bytes8 place ++ bytes8 units) (bytes8 depth) (omega arith) refl f₄ e₅ in
    over_chain b b₅ b₆ 0 32 (first ++ bytes8 place ++ bytes8 units ++ bytes8 depth) (bytes8 bound) (omega arith) refl f₅ e₆

-- a level
module _ (levels spaces strands : List ℕ) (k : ℕ) (m : 3 * k + 3 ≤ length levels) (n : 4 * k + 4 ≤ length spaces) (o : 16 * k + 16 ≤ length strands) where
  pub level_length : length (level_words levels spaces strands k) ≡ 96
  unfolding level_words
  level_length =
      let one = gather bytes4 (take 3 (drop (3 * k) levels)) in
      let two = gather bytes4 (take 4 (drop (4 * k) spaces)) in
      let three = gather bytes4 (take 16 (drop (16 * k) strands)) in
      omega (arith, length-append (one ++ two) (bytes4 0 ++ three), length-append one two, length-append (bytes4 0) three, part_length levels (3 * k) 3 m, part_length spaces (4 * k) 4 n, part_length strands (16 * k) 16 o)

  pub level_end : (b b₁ b₂ b₃ b₄ : List ℕ) (at : ℕ) → at ≤ length b
      → b₁ ≡ overwrite b at (gather bytes4 (take 3 (drop (3 * k) levels)))
      → b₂ ≡ overwrite b₁ (at + 12) (gather bytes4 (take 4 (drop (4 * k) spaces)))
      → b₃ ≡ overwrite b₂ (at + 28) (bytes4 0)
      → b₄ ≡ overwrite b₃ (at + 32) (gather bytes4 (take 16 (drop (16 * k) strands)))
      → b₄ ≡ overwrite b at (level_words levels spaces strands k)
  unfolding level_words
  level_end b b₁ b₂ b₃ b₄ at h e₁ e₂ e₃ e₄ =
      let one = gather bytes4 (take 3 (drop (3 * k) levels)) in
      let two = gather bytes4 (take 4 (drop (4 * k) spaces)) in
      let three = gather bytes4 (take 16 (drop (16 * k) strands)) in
      let l₁ : length one ≡ 12 = part_length levels (3 * k) 3 m in
      let l₂ : length two ≡ 16 = part_length spaces (4 * k) 4 n in
      let k₂ : length (one ++ two) ≡ 28 = length-append one two ∙ omega arith in
      let k₃ : length (one ++ two ++ bytes4 0) ≡ 32 = length-append (one ++ two) (bytes4 0) ∙ omega arith in
      let f₂ : b₂ ≡ overwrite b at (one ++ two) = over_chain b b₁ b₂ at (at + 12) one two h (omega arith) e₁ e₂ in
      let f₃ : b₃ ≡ overwrite b at (one ++ two ++ bytes4 0) = over_chain b b₂ b₃ at (at + 28) (one ++ two) (bytes4 0) h (omega arith) f₂ e₃ in
      over_chain b b₃ b₄ at (at + 32) (one ++ two ++ bytes4 0) three h (omega arith) f₃ e₄
      ∙ ap (overwrite b at) (append_assoc (one ++ two) (bytes4 0) three)

-- and from the one array of levels
pub level_stored : (l : List ℕ) (k : ℕ) → length l ≡ 1536 → k < 64 → (b b₁ b₂ b₃ b₄ : List ℕ) (at : ℕ) → at ≤ length b
    → b₁ ≡ overwrite b at (gather bytes4 (take 3 (drop (24 * k) l)))
    → b₂ ≡ overwrite b₁ (at + 12) (gather bytes4 (take 4 (drop (24 * k + 3) l)))
    → b₃ ≡ overwrite b₂ (at + 28) (bytes4 0)
    → b₄ ≡ overwrite b₃ (at + 32) (gather bytes4 (take 16 (drop (24 * k + 8) l)))
    → b₄ ≡ overwrite b at (level_words (level_names l) (level_spaces l) (level_strands l) k)
level_stored l k long h b b₁ b₂ b₃ b₄ at room e₁ e₂ e₃ e₄ =
    level_end (level_names l) (level_spaces l) (level_strands l) k (omega (arith, each_long 3 0 l)) (omega (arith, each_long 4 3 l)) (omega (arith, each_long 16 8 l)) b b₁ b₂ b₃ b₄ at room
    (e₁ ∙ ap (λ (ws : List ℕ). overwrite b at (gather bytes4 ws)) (ap (λ (i : ℕ). take 3 (drop i l)) (sym (add-zero (24 * k))) ∙ each_row l 3 0 long (omega arith) k h))
    (e₂ ∙ ap (λ (ws : List ℕ). overwrite b₁ (at + 12) (gather bytes4 ws)) (each_row l 4 3 long (omega arith) k h))
    e₃
    (e₄ ∙ ap (λ (ws : List ℕ). overwrite b₃ (at + 32) (gather bytes4 ws)) (each_row l 16 8 long (omega arith) k h))

-- the levels, one after the other
pub gather_upto : (f : ℕ → List ℕ) (k : ℕ) → gather f (tabulate (λ (i : ℕ). i) 0 (k + 1)) ≡ gather f (tabulate (λ (i : ℕ). i) 0 k) ++ f k
unfolding gather
gather_upto f k =
    ap (gather f) (tabulate_more (λ (i : ℕ). i) k)
    ∙ gather_append f (tabulate (λ (i : ℕ). i) 0 k) (k ∷ [])
    ∙ ap (λ (r : List ℕ). gather f (tabulate (λ (i : ℕ). i) 0 k) ++ r) (append-nil (f k))

pub upto_length : (f : ℕ → List ℕ) (n : ℕ) → ((k : ℕ) → k < n → length (f k) ≡ 96) → (k : ℕ) → k ≤ n → length (gather f (tabulate (λ (i : ℕ). i) 0 k)) ≡ 96 * k
unfolding gather tabulate
upto_length f n h zero l = refl
upto_length f n h (suc k) l =
    ap (λ (i : ℕ). length (gather f (tabulate (λ (j : ℕ). j) 0 i))) (sym (add-one k))
    ∙ ap length (gather_upto f k)
    ∙ length-append (gather f (tabulate (λ (i : ℕ). i) 0 k)) (f k)
    ∙ omega (arith, h k (omega arith), upto_length f n h k (omega arith))

module _ (levels spaces strands : List ℕ) (m : length levels ≡ 192) (n : length spaces ≡ 256) (o : length strands ≡ 1024) where
  pub each_level : (k : ℕ) → k < 64 → length (level_words levels spaces strands k) ≡ 96
  each_level k h = level_length levels spaces strands k (omega arith) (omega arith) (omega arith)

  pub levels_length : (k : ℕ) → k ≤ 64 → length (gather (level_words levels spaces strands) (tabulate (λ (i : ℕ). i) 0 k)) ≡ 96 * k
  levels_length k h = upto_length (level_words levels spaces strands) 64 each_level k h

  pub levels_start : (b : List ℕ) → b ≡ overwrite b 1064 (gather (level_words levels spaces strands) (tabulate (λ (i : ℕ). i) 0 0))
  unfolding gather tabulate
  levels_start b = sym (over_none b 1064)

  pub levels_more : (b c d : List ℕ) (k : ℕ) → k < 64 → 1064 ≤ length b
      → c ≡ overwrite b 1064 (gather (level_words levels spaces strands) (tabulate (λ (i : ℕ). i) 0 k))
      → d ≡ overwrite c (1064 + 96 * k) (level_words levels spaces strands k)
      → d ≡ overwrite b 1064 (gather (level_words levels spaces strands) (tabulate (λ (i : ℕ). i) 0 (k + 1)))
  levels_more b c d k h l e f =
      over_chain b c d 1064 (1064 + 96 * k) (gather (level_words levels spaces strands) (tabulate (λ (i : ℕ). i) 0 k)) (level_words levels spaces strands k) l
      (omega (arith, levels_length k (omega arith))) e f
      ∙ ap (overwrite b 1064) (sym (gather_upto (level_words levels spaces strands) k))

  pub levels_end : (b c : List ℕ) (k : ℕ) → k ≡ 64
      → c ≡ overwrite b 1064 (gather (level_words levels spaces strands) (tabulate (λ (i : ℕ). i) 0 k))
      → c ≡ overwrite b 1064 (gather (level_words levels spaces strands) (tabulate (λ (i : ℕ). i) 0 64))
  levels_end b c k h e = e ∙ ap (λ (n : ℕ). overwrite b 1064 (gather (level_words levels spaces strands) (tabulate (λ (i : ℕ). i) 0 n))) h

-- the whole
pub session_end : (b b₁ b₂ b₃ : List ℕ) (z : Session) → length z.scope.bindings ≡ 256
    → b₁ ≡ overwrite b 0 (head_bytes z.closed z.awaited z.place z.units z.scope.depth z.scope.bound)
    → b₂ ≡ overwrite b₁ 40 (gather bytes4 z.scope.bindings)
    → b₃ ≡ overwrite b₂ 1064 (gather (level_words z.scope.levels z.spaces z.strands) (tabulate (λ (i : ℕ). i) 0 64))
    → b₃ ≡ overwrite b 0 (session_bytes z)
unfolding session_bytes head_bytes level_words
session_end b b₁ b₂ b₃ z l e₁ e₂ e₃ =
    let head = head_bytes z.closed z.awaited z.place z.units z.scope.depth z.scope.bound in
    let bound = gather bytes4 z.scope.bindings in
    let n : length head ≡ 40 = head_length z.closed z.awaited z.place z.units z.scope.depth z.scope.bound in
    let m : length (head ++ bound) ≡ 1064 = length-append head bound ∙ omega (arith, words_length z.scope.bindings) in
    let f₂ : b₂ ≡ overwrite b 0 (head ++ bound) = over_chain b b₁ b₂ 0 40 head bound (omega arith) (omega arith) e₁ e₂ in
    over_chain b b₂ b₃ 0 1064 (head ++ bound) (gather (level_words z.scope.levels z.spaces z.strands) (tabulate (λ (i : ℕ). i) 0 64)) (omega arith) (omega arith) f₂ e₃
