-- Comments, instructions and the declaration: what each test and each callee's answer decides.
--     by_turn                                      the answer behind a field: r, of which the contract says v, and the `match` m
--     by_fit, by_word, by_value, fit_encoding      a `match` on the field
--     later_flag, behind_flag                      a flag of the code as a machine's state
--     xml_room, xml_short, xml_far, xml_here       whether a target is xml
--     declared_room, declared_not, declared_here   whether that is the declaration's
--     misc_instruction, misc_comment               what stands behind <
use Prim.Native.Nat.{ℕ, ◌+◌, ◌-◌, ◌≤◌, ◌<◌}
use mathlib.Core.Path.{◌≡◌, sym, ap, ◌∙◌}
use mathlib.Core.List.{List}
use mathlib.Core.Bool.{Bool, true, false, cond, not, ◌&&◌, ◌||◌, and-false}
use mathlib.Core.Logic.{⊎_elim}
use native.Mathlib.Omega.{arith}
use borrow.Author.Tests.{eq-eqb, ne_eqb, lt-ltb, le-ltb, ltb-false, eqb-true, not-false}
use lib.ListN.{length, get_or, get_or-eq_default}
use lib.Dec.{ltb, eqb}
use Rattle.laws.specs.Reading.{le_or_lt}
use Rattle.laws.specs.Tests.{neither}
use Rattle.laws.proofs.Flags.{differ, or_left, or_right}
use Rattle.lexer.specs.Declaration.{is_digit, is_letter, is_field_byte, word_end, field_word, field_value, field_then}
use Rattle.lexer.specs.Misc.{is_xml, is_declared, instruction_end, comment_end, misc_end}
use Rattle.lexer.specs.Reads.{Read, TurnRead}
use Rattle.lexer.specs.declared.Field.{Field}
use Rattle.lexer.specs.declared.Field.TheVariants.{Encoding}

pub by_turn : (more : ℕ → Read) (r v m : TurnRead) (x : Read) → r ≡ v → r ≡ m → x ≡ field_then more m → x ≡ field_then more v
by_turn more r v m x p q h = h ∙ ap (field_then more) (sym q ∙ p)

-- a field, and what the `match` says it is
pub by_fit : (b : ℕ) (f m : Field) (x : Bool) → f ≡ m → x ≡ is_field_byte m b → x ≡ is_field_byte f b
by_fit b f m x e h = rw e h

pub by_word : (s : List ℕ) (at : ℕ) (f m : Field) (x : Read) → f ≡ m → x ≡ word_end s at (field_word m) → x ≡ word_end s at (field_word f)
by_word s at f m x e h = rw e h

pub by_value : (s : List ℕ) (at quote : ℕ) (f m : Field) (x : Read) → f ≡ m → x ≡ field_value m s at quote → x ≡ field_value f s at quote
by_value s at quote f m x e h = rw e h

pub fit_encoding : (b : ℕ) (f : Field) (l d : Bool) → f ≡ Encoding → l ≡ is_letter b → d ≡ is_digit b → (l || d || eqb b 0x2E || eqb b 0x5F || eqb b 0x2D) ≡ is_field_byte f b
fit_encoding b f l d e p q = rw (e, p, q)

-- a flag of the code, and the state 1 where it is set
pub behind_flag : (t u v : Bool) → (t && u) ≡ v → (eqb (cond t 1 0) 1 && u) ≡ v
behind_flag true u v h = h
behind_flag false u v h = h

-- the state 1 where it is not
pub later_flag : (t u v : Bool) → (not t && u) ≡ v → (eqb (cond t 0 1) 1 && u) ≡ v
later_flag true u v h = h
later_flag false u v h = h

-- the part from `at` up to `end`, n the scene's length
pub xml_room : (n end : ℕ) → (ltb end 3 || ltb n end) ≡ false → (3 ≤ end) × (end ≤ n)
xml_room n end e = (ltb-false end 3 (or_left (ltb end 3) (ltb n end) e), ltb-false n end (or_right (ltb end 3) (ltb n end) e))

module _ (s : List ℕ) (at end : ℕ) where
  xml_past : length s ≤ at + 2 → false ≡ is_xml s at end
  unfolding is_xml
  xml_past h = simp (get_or-eq_default s 0 h, and-false)

  xml_other : (end ≡ at + 3 → ⊥) → false ≡ is_xml s at end
  unfolding is_xml
  xml_other n = rw (ne_eqb end (at + 3) n)

  pub xml_short : (ltb end 3 || ltb (length s) end) ≡ true → false ≡ is_xml s at end
  xml_short h =
      ⊎_elim xml_past
      (λ i. xml_other (λ e. differ (sym h ∙ neither (ltb end 3) (ltb (length s) end) (le-ltb end 3 (omega arith)) (le-ltb (length s) end (omega arith)))))
      (le_or_lt (length s) (at + 2))

  pub xml_far : (end - 3 ≡ at → ⊥) → false ≡ is_xml s at end
  xml_far n = xml_other (λ e. n (omega arith))

  pub xml_here : (ltb end 3 || ltb (length s) end) ≡ false → end - 3 ≡ at → ((eqb (get_or s at 0) 0x58 || eqb (get_or s at 0) 0x78) && (eqb (get_or s (at + 1) 0) 0x4D || eqb (get_or s (at + 1) 0) 0x6D) && (eqb (get_or s (at + 2) 0) 0x4C || eqb (get_or s (at + 2) 0) 0x6C)) ≡ is_xml s at end
  unfolding is_xml
  xml_here h e = rw (eq-eqb end (at + 3) (omega (arith, xml_room (length s) end h)))

-- the place of the declaration's target, n the scene's length
pub declared_room : (n at : ℕ) → (not (eqb at 2) || ltb n 5) ≡ false → (at ≡ 2) × (5 ≤ n)
declared_room n at e = (eqb-true at 2 (not-false (eqb at 2) (or_left (not (eqb at 2)) (ltb n 5) e)), ltb-false n 5 (or_right (not (eqb at 2)) (ltb n 5) e))

module _ (s : List ℕ) (at : ℕ) where
  declared_past : length s ≤ at + 2 → false ≡ is_declared s at
  unfolding is_declared
  declared_past h = simp (get_or-eq_default s 0 h, and-false)

  declared_other : (at ≡ 2 → ⊥) → false ≡ is_declared s at
  unfolding is_declared
  declared_other n = rw (ne_eqb at 2 n)

  pub declared_not : (not (eqb at 2) || ltb (length s) 5) ≡ true → false ≡ is_declared s at
  declared_not h =
      ⊎_elim declared_past
      (λ i. declared_other (λ e. differ (sym h ∙ neither (not (eqb at 2)) (ltb (length s) 5) (ap not (eq-eqb at 2 e)) (le-ltb (length s) 5 (omega arith)))))
      (le_or_lt (length s) (at + 2))

  pub declared_here : (not (eqb at 2) || ltb (length s) 5) ≡ false → (eqb (get_or s 2 0) 0x78 && eqb (get_or s 3 0) 0x6D && eqb (get_or s 4 0) 0x6C) ≡ is_declared s at
  unfolding is_declared
  declared_here h = rw (declared_room (length s) at h).0

-- what stands behind the <
module _ (s : List ℕ) (at : ℕ) (r : Read) (h : at + 1 < length s) where
  next_place : at + 1 + 1 ≡ at + 2
  next_place = omega arith

  pub misc_instruction : get_or s (at + 1) 0 ≡ 0x3F → r ≡ instruction_end s (at + 1 + 1) → r ≡ misc_end s at
  unfolding misc_end
  misc_instruction e k = rw (lt-ltb (at + 1) (length s) h, eq-eqb (get_or s (at + 1) 0) 0x3F e) (rw next_place at k)

  pub misc_comment : (get_or s (at + 1) 0 ≡ 0x3F → ⊥) → r ≡ comment_end s (at + 1 + 1) → r ≡ misc_end s at
  unfolding misc_end
  misc_comment n k = rw (lt-ltb (at + 1) (length s) h, ne_eqb (get_or s (at + 1) 0) 0x3F n) (rw next_place at k)
