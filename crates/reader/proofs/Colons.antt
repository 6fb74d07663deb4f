-- `colon_end` by the first colon's place, and where the part of a name stands.
--     colon_at, no_colon  the first colon, and none
--     part_fits, part_is  the colon's place is inside the name and inside the scene; what stands behind it is the part
use mathlib.Core.Path.{◌≡◌, refl, sym, ap, ◌∙◌}
use mathlib.Core.Logic.{⊎_elim}
use mathlib.Core.Bool.{Bool, true, false, cond, not}
use mathlib.Core.List.{List, [], ◌∷◌}
use Prim.Native.Nat.{ℕ, suc, ◌+◌, ◌-◌, ◌≤◌}
use native.Mathlib.Omega.{arith}
use borrow.Author.Tests.{lt-ltb, le-ltb}
use lib.ListN.{length, drop, length-take, length-drop}
use lib.Dec.{eqb, ltb}
use Rattle.std.specs.Prelude.{Some, None, position}
use Rattle.std.specs.List.{position_or_len}
use Rattle.laws.specs.Lists.{same_list}
use Rattle.laws.specs.Reading.{le_or_lt}
use Rattle.reader.specs.Spans.{span, bytes_of}
use Rattle.reader.specs.Events.{colon_end, part_of}
use Rattle.reader.specs.declared.Span.{Span}

-- the first colon, as the library finds it
abbrev pub is_colon : ℕ → Bool
is_colon b = eqb b 0x3A

first_colon : (k : ℕ) (s : List ℕ) → colon_end k s ≡ cond (ltb (position_or_len is_colon s) (length s)) (k + position_or_len is_colon s + 1) 0
unfolding colon_end
first_colon k [] = refl
first_colon k (b ∷ s) = by (is_colon b) (position_or_len is_colon s) (length s) (first_colon (k + 1) s)
  where
    by : (t : Bool) (i n : ℕ) → colon_end (k + 1) s ≡ cond (ltb i n) (k + 1 + i + 1) 0
        → cond t (k + 1) (colon_end (k + 1) s) ≡ cond (ltb (cond (not t) (1 + i) 0) (suc n)) (k + cond (not t) (1 + i) 0 + 1) 0
    by true i n h = rw (lt-ltb 0 (suc n) (omega arith)) (omega arith)
    by false i n h = h ∙ ⊎_elim (λ l. rw (le-ltb i n l, le-ltb (1 + i) (suc n) (omega arith))) (λ l. rw (lt-ltb i n l, lt-ltb (1 + i) (suc n) (omega arith)) (omega arith)) (le_or_lt n i)

module _ (s : List ℕ) where
  pub colon_at : (i : ℕ) → Some i ≡ position is_colon s → i + 1 ≡ colon_end 0 s
  colon_at i e = by (ltb (position_or_len is_colon s) (length s)) refl e
    where
      by : (t : Bool) → t ≡ ltb (position_or_len is_colon s) (length s) → Some i ≡ cond t (Some (position_or_len is_colon s)) None → i + 1 ≡ colon_end 0 s
      by true q h = let z : i ≡ position_or_len is_colon s = cc in sym (first_colon 0 s ∙ rw (← q, ← z) (omega arith))
      by false q h = absurd (let z : ◌≡◌ {A = ℕ} 0 1 = cc in omega arith)

  pub no_colon : None ≡ position is_colon s → 0 ≡ colon_end 0 s
  no_colon e = by (ltb (position_or_len is_colon s) (length s)) refl e
    where
      by : (t : Bool) → t ≡ ltb (position_or_len is_colon s) (length s) → None ≡ cond t (Some (position_or_len is_colon s)) None → 0 ≡ colon_end 0 s
      by true q h = absurd (let z : ◌≡◌ {A = ℕ} 0 1 = cc in omega arith)
      by false q h = sym (first_colon 0 s ∙ rw (← q))

pub colon_in : (k : ℕ) (l : List ℕ) → colon_end k l ≤ k + length l
unfolding colon_end
colon_in k [] = omega arith
colon_in k (b ∷ l) = by (eqb b 0x3A) (colon_in (k + 1) l)
  where
    by : (t : Bool) → colon_end (k + 1) l ≤ k + 1 + length l → cond t (k + 1) (colon_end (k + 1) l) ≤ k + (length (b ∷ l))
    by true h = omega arith
    by false h = omega arith

-- where k was found in the name's bytes
module _ (s : List ℕ) (name : Span) (bytes : List ℕ) (k : ℕ) (b : bytes ≡ bytes_of s name) (e : k ≡ colon_end 0 bytes) where
  pub part_fits : (k ≤ name.len) × (k ≤ length s - name.at)
  part_fits =
      omega (arith, colon_in 0 bytes, ap length b, length-take name.len (drop name.at s), length-drop name.at s)

  pub part_is : span (name.at + k) (name.len - k) ≡ part_of s name
  unfolding part_of
  part_is = ap (λ (n : ℕ). span (name.at + n) (name.len - n)) (e ∙ ap (colon_end 0) b)

-- two names whose bytes were compared
pub same_bytes : (v w x y : List ℕ) (r : Bool) → x ≡ v → y ≡ w → r ≡ same_list x y → r ≡ same_list v w
same_bytes v w x y r p q e = rw (← p, ← q) e
