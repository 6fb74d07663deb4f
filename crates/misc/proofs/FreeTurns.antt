-- A character of a comment or an instruction: the machine reads its bytes, the code passes over it.
--     hyphen_goes, question_goes          the bytes that leave a mark
--     comment_stops, comment_passed       another character of a comment
--     content_stops, content_passed       a character of an instruction
use Rattle.std.specs.Prelude.{Ok, Err}
use Prim.Native.Nat.{ℕ, ◌+◌, ◌<◌}
use mathlib.Core.Path.{◌≡◌, refl, sym, ◌∙◌}
use mathlib.Core.List.{List, [], ◌∷◌, ◌++◌}
use mathlib.Core.Bool.{Bool, true, false, cond, ◌&&◌}
use native.Mathlib.Omega.{arith}
use borrow.Author.Tests.{ne_eqb, eqb-true}
use lib.ListN.{length, drop, get_or}
use lib.Dec.{eqb}
use Rattle.laws.specs.Reading.{RunNext, go, stop, run, run_go}
use Rattle.utf8.specs.Utf8.{is_form}
use Rattle.utf8.specs.declared.Set.TheVariants as set
use Rattle.characters.specs.CanBegin.{begins}
use Rattle.characters.proofs.Laws.{ascii_breaks}
use Rattle.lexer.specs.Computing.{computing}
use Rattle.lexer.specs.Stops.{after_read}
use Rattle.lexer.specs.Characters.{with_byte, char_end}
use Rattle.lexer.specs.Misc.{MiscState, misc_state, free_step, comment_step, content_step}
use Rattle.lexer.specs.declared.Stop.{Stop}
use Rattle.lexer.specs.declared.Stop.TheVariants.{Bad, Cut}
use Rattle.lexer.specs.Reads.{Read}
use Rattle.lexer.proofs.CharacterLaws.{char_turn, char_through}
use Rattle.lexer.proofs.Passing.{low_char}

-- the two bytes that leave a mark are characters
hyphen_char : begins set.Char [] 0x2D ≡ true
unfolding computing
hyphen_char = refl

hyphen_whole : with_byte [] 0x2D ≡ []
unfolding computing
hyphen_whole = refl

question_char : begins set.Char [] 0x3F ≡ true
unfolding computing
question_char = refl

question_whole : with_byte [] 0x3F ≡ []
unfolding computing
question_whole = refl

-- a byte other than k leaves no mark
module _ (step : MiscState → ℕ → ℕ → RunNext MiscState Read) where
  Turn : List ℕ → ℕ → ℕ → RunNext MiscState Read
  Turn = char_turn set.Char step (misc_state 0) (misc_state 0 [])

  unmarked : (begun : List ℕ) (b i : ℕ) → free_step 0 begun b i ≡ Turn begun b i
  unfolding with_byte Turn
  unmarked begun b i = by (begins set.Char begun b) (is_form (begun ++ (b ∷ [])))
    where
      by : (t u : Bool) → ◌≡◌ {A = RunNext MiscState Read} (cond t (go (misc_state 0 (cond u [] (begun ++ (b ∷ []))))) (stop (Err (Bad i)))) (cond t (go (cond u (misc_state 0 []) (misc_state 0 (begun ++ (b ∷ []))))) (stop (Err (Bad i))))
      by true true = refl
      by true false = refl
      by false u = refl

  -- k is below 80, so no byte inside a character
  inside : (k m : ℕ) → k < 0x80 → (begun : List ℕ) → 0 < length begun → (b i : ℕ) → free_step (cond (eqb b k) m 0) begun b i ≡ Turn begun b i
  inside k m lt [] h b i = absurd (omega arith)
  inside k m lt (a ∷ begun) h b i = by (eqb b k) refl
    where
      by : (t : Bool) → eqb b k ≡ t → free_step (cond t m 0) (a ∷ begun) b i ≡ Turn (a ∷ begun) b i
      by true e = rw (ascii_breaks set.Char a begun b (omega (arith, eqb-true b k e))) (rw (ascii_breaks set.Char a begun b (omega (arith, eqb-true b k e))) at (unmarked (a ∷ begun) b i))
      by false e = unmarked (a ∷ begun) b i

  -- from a character's first byte on
  module _ (p : Read) (s : List ℕ) (q : MiscState) (i : ℕ) (inv : run (Err Cut) step q (drop i s) i ≡ p)
      (same : (begun : List ℕ) → 0 < length begun → (b j : ℕ) → step (misc_state 0 begun) b j ≡ Turn begun b j) (first : step q (get_or s i 0) i ≡ Turn [] (get_or s i 0) i) (r : Read) (e : r ≡ char_end set.Char s i) where
    over : after_read Err r (λ (j : ℕ). run (Err Cut) step (misc_state 0 []) (drop j s) j) ≡ p
    unfolding Turn
    over = rw e (sym (char_through set.Char step (misc_state 0) (misc_state 0 []) s same q i (λ h. first)) ∙ inv)

    over_stops : (x : Stop) → r ≡ Err x → Err x ≡ p
    over_stops x f = rw f at over

    over_passed : (j : ℕ) → r ≡ Ok j → run (Err Cut) step (misc_state 0 []) (drop j s) j ≡ p
    over_passed j f = rw f at over

-- ---- comments
comment_same : (begun : List ℕ) → 0 < length begun → (b j : ℕ) → comment_step (misc_state 0 begun) b j ≡ Turn comment_step begun b j
comment_same begun h b j = inside comment_step 0x2D 1 (omega arith) begun h b j

module _ (p : Read) (s : List ℕ) (hyphens i : ℕ) (inv : run (Err Cut) comment_step (misc_state hyphens []) (drop i s) i ≡ p) (h : i < length s) (n : hyphens ≡ 2 → ⊥) where
  pub hyphen_goes : get_or s i 0 ≡ 0x2D → run (Err Cut) comment_step (misc_state (hyphens + 1) []) (drop (i + 1) s) (i + 1) ≡ p
  hyphen_goes e = run_go (Err Cut) comment_step p (misc_state hyphens []) s i inv h (misc_state (hyphens + 1) []) (rw (ne_eqb hyphens 2 n, e, hyphen_char, hyphen_whole))

  module _ (m : get_or s i 0 ≡ 0x2D → ⊥) (r : Read) (e : r ≡ char_end set.Char s i) where
    comment_first : comment_step (misc_state hyphens []) (get_or s i 0) i ≡ Turn comment_step [] (get_or s i 0) i
    comment_first = rw (ne_eqb hyphens 2 n, ne_eqb (get_or s i 0) 0x2D m) (unmarked comment_step [] (get_or s i 0) i)

    pub comment_stops : (x : Stop) → r ≡ Err x → Err x ≡ p
    comment_stops = over_stops comment_step p s (misc_state hyphens []) i inv comment_same comment_first r e

    pub comment_passed : (j : ℕ) → r ≡ Ok j → run (Err Cut) comment_step (misc_state 0 []) (drop j s) j ≡ p
    comment_passed = over_passed comment_step p s (misc_state hyphens []) i inv comment_same comment_first r e

-- ---- instructions
content_same : (begun : List ℕ) → 0 < length begun → (b j : ℕ) → content_step (misc_state 0 begun) b j ≡ Turn content_step begun b j
content_same begun h b j = inside content_step 0x3F 1 (omega arith) begun h b j

module _ (p : Read) (s : List ℕ) (behind : Bool) (i : ℕ) (inv : run (Err Cut) content_step (misc_state (cond behind 1 0) []) (drop i s) i ≡ p) (h : i < length s) (n : (behind && eqb (get_or s i 0) 0x3E) ≡ false) (r : Read) (e : r ≡ char_end set.Char s i) where
  no_end : (t : Bool) → (t && eqb (get_or s i 0) 0x3E) ≡ false → (eqb (cond t 1 0) 1 && eqb (get_or s i 0) 0x3E) ≡ false
  no_end true k = k
  no_end false k = refl

  module _ (m : eqb (get_or s i 0) 0x3F ≡ false) where
    content_first : content_step (misc_state (cond behind 1 0) []) (get_or s i 0) i ≡ Turn content_step [] (get_or s i 0) i
    content_first = rw (no_end behind n, m) (unmarked content_step [] (get_or s i 0) i)

    other_stops : (x : Stop) → r ≡ Err x → Err x ≡ p
    other_stops = over_stops content_step p s (misc_state (cond behind 1 0) []) i inv content_same content_first r e

    other_passed : (j : ℕ) → r ≡ Ok j → run (Err Cut) content_step (misc_state 0 []) (drop j s) j ≡ p
    other_passed = over_passed content_step p s (misc_state (cond behind 1 0) []) i inv content_same content_first r e

  -- a ? is a character by itself
  module _ (m : get_or s i 0 ≡ 0x3F) where
    question_end : char_end set.Char s i ≡ Ok (i + 1)
    question_end = low_char s i h (omega arith) (rw m)

    question_goes : run (Err Cut) content_step (misc_state 1 []) (drop (i + 1) s) (i + 1) ≡ p
    question_goes = run_go (Err Cut) content_step p (misc_state (cond behind 1 0) []) s i inv h (misc_state 1 []) (rw (no_end behind n, m, question_char, question_whole))

  pub content_stops : (x : Stop) → r ≡ Err x → Err x ≡ p
  content_stops x f = by (eqb (get_or s i 0) 0x3F) refl
    where
      by : (t : Bool) → eqb (get_or s i 0) 0x3F ≡ t → Err x ≡ p
      by true m = let d : Err x ≡ Ok (i + 1) = sym f ∙ e ∙ question_end (eqb-true (get_or s i 0) 0x3F m) in let z : ◌≡◌ {A = ℕ} 0 1 = cc in absurd (omega arith)
      by false m = other_stops m x f

  pub content_passed : (j : ℕ) → r ≡ Ok j → run (Err Cut) content_step (misc_state (cond (eqb (get_or s i 0) 0x3F) 1 0) []) (drop j s) j ≡ p
  content_passed j f = by (eqb (get_or s i 0) 0x3F) refl
    where
      by : (t : Bool) → eqb (get_or s i 0) 0x3F ≡ t → run (Err Cut) content_step (misc_state (cond t 1 0) []) (drop j s) j ≡ p
      by true m =
          let q = eqb-true (get_or s i 0) 0x3F m in
          let d : Ok j ≡ Ok (i + 1) = sym f ∙ e ∙ question_end q in
          let k : j ≡ i + 1 = cc in
          rw k (question_goes q)
      by false m = other_passed m j f
