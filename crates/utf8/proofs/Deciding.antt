-- Whether some character of a set begins with some bytes, decided: the code points whose form begins so are a range, which is held against the set's.
--     ranged           a code point is in the range of its form's first bytes, and as many are to come as these say
--     sound, complete  what the range says is so, and only that
--     decided          the decision
use Prim.Native.Nat.{ℕ, zero, suc, ◌+◌, ◌-◌, ◌*◌, ◌/◌, ◌%◌, ◌≤◌, ◌<◌}
use mathlib.Core.Path.{◌≡◌, refl, sym, ap, subst, ◌∙◌}
use mathlib.Core.List.{List, [], ◌∷◌, ◌++◌}
use mathlib.Core.Bool.{Bool, true, false, ◌&&◌}
use mathlib.Core.Logic.{◌⊎◌, inl, inr}
use native.Mathlib.Omega.{arith}
use borrow.Author.Tests.{lt-ltb, le-ltb, ltb-true, ltb-false, le-leb, leb-true, leb-false}
use lib.Dec.{leb, ltb}
use lib.ListN.{length, length-append}
use Rattle.laws.specs.Lists.{any, all}
use Rattle.laws.specs.Tests.{both as and-true, left as or-first, right as or-second}
use Rattle.laws.proofs.Flags.{and_left, and_right, either}
use Rattle.laws.proofs.Holds.{holds_cond}
use Rattle.utf8.specs.declared.Range.{Range}
use Rattle.utf8.specs.declared.Form.{Form}
use Rattle.utf8.specs.declared.Set.{Set}
use Rattle.utf8.specs.declared.Set.TheVariants as set
use Rattle.utf8.specs.Utf8.{utf8}
use Rattle.utf8.specs.Sets.{in_range, member, ranges_of}
use Rattle.utf8.specs.Beginnings.{Begins}
use Rattle.utf8.specs.Forms.{form, no_form, first_form, next_form, form_from, form_of, size, larger, least, most, meets, form_begins}

-- ---- the forms of a code point
-- its last byte, last two, last three
abbrev last1 : ℕ → List ℕ
last1 c = (0x80 + c % 0x40) ∷ []

abbrev last2 : ℕ → List ℕ
last2 c = (0x80 + c / 0x40 % 0x40) ∷ last1 c

abbrev last3 : ℕ → List ℕ
last3 c = (0x80 + c / 0x1000 % 0x40) ∷ last2 c

two : (c : ℕ) → 0x80 ≤ c → c < 0x800 → utf8 c ≡ (0xC0 + c / 0x40) ∷ last1 c
unfolding utf8
two c lo hi = rw (le-ltb c 0x80 lo, lt-ltb c 0x800 hi)

three : (c : ℕ) → 0x800 ≤ c → c < 0x10000 → utf8 c ≡ (0xE0 + c / 0x1000) ∷ last2 c
unfolding utf8
three c lo hi = rw (le-ltb c 0x80 (omega arith), le-ltb c 0x800 lo, lt-ltb c 0x10000 hi)

four : (c : ℕ) → 0x10000 ≤ c → utf8 c ≡ (0xF0 + c / 0x40000) ∷ last3 c
unfolding utf8
four c lo = rw (le-ltb c 0x80 (omega arith), le-ltb c 0x800 (omega arith), le-ltb c 0x10000 lo)

-- ---- a code point of the range has the bytes
module _ (c : ℕ) where
  abbrev Within : Form → Type 0
  Within f = (larger (f.value * size f.left) f.floor ≤ c) × (c ≤ f.value * size f.left + size f.left - 1)

  above : (a b : ℕ) → larger a b ≤ c → (a ≤ c) × (b ≤ c)
  above a b = holds_cond (λ (m : ℕ). m ≤ c → (a ≤ c) × (b ≤ c)) (ltb a b) (λ e h. omega (arith, ltb-true a b e)) (λ e h. omega (arith, ltb-false a b e))

  Begun : List ℕ → Type 0
  Begun l = (rest : List ℕ) × (utf8 c ≡ l ++ rest)

  -- no form: nothing is in its range
  nothing : {A : Type 0} → Within no_form → A
  nothing w = absurd (omega (arith, above 0 1 w.0))

  single : (b : ℕ) → c ≡ b → b < 0x80 → utf8 c ≡ b ∷ []
  unfolding utf8
  single b k lt = rw (k, lt-ltb b 0x80 lt)

  -- by the first byte's class: what the first byte says, and each byte behind it
  lead : (a : ℕ) (P : Form → Type 0) → (a < 0x80 → P (form 0 a 0)) → P no_form → (0xC0 ≤ a → a < 0xE0 → P (form 1 (a - 0xC0) 0x80)) → (0xE0 ≤ a → a < 0xF0 → P (form 2 (a - 0xE0) 0x800)) → (0xF0 ≤ a → P (form 3 (a - 0xF0) 0x10000)) → P (first_form a)
  unfolding first_form
  lead a P p n q r s =
      holds_cond P (ltb a 0x80) (λ e. p (ltb-true a 0x80 e))
      (λ e. holds_cond P (ltb a 0xC0) (λ _. n)
      (λ x. holds_cond P (ltb a 0xE0) (λ y. q (ltb-false a 0xC0 x) (ltb-true a 0xE0 y))
      (λ y. holds_cond P (ltb a 0xF0) (λ z. r (ltb-false a 0xE0 y) (ltb-true a 0xF0 z)) (λ z. s (ltb-false a 0xF0 z)))))

  more : (k v floor b : ℕ) (P : Form → Type 0) → k < 3 → (0x80 ≤ b → b ≤ 0xBF → P (form k (v * 0x40 + (b - 0x80)) floor)) → P no_form → P (next_form (form (suc k) v floor) b)
  unfolding next_form
  more zero v floor b P h p n = holds_cond P (leb 0x80 b && leb b 0xBF) (λ e. p (leb-true 0x80 b (and_left (leb 0x80 b) (leb b 0xBF) e)) (leb-true b 0xBF (and_right (leb 0x80 b) (leb b 0xBF) e))) (λ e. n)
  more (suc zero) v floor b P h p n = holds_cond P (leb 0x80 b && leb b 0xBF) (λ e. p (leb-true 0x80 b (and_left (leb 0x80 b) (leb b 0xBF) e)) (leb-true b 0xBF (and_right (leb 0x80 b) (leb b 0xBF) e))) (λ e. n)
  more (suc (suc zero)) v floor b P h p n = holds_cond P (leb 0x80 b && leb b 0xBF) (λ e. p (leb-true 0x80 b (and_left (leb 0x80 b) (leb b 0xBF) e)) (leb-true b 0xBF (and_right (leb 0x80 b) (leb b 0xBF) e))) (λ e. n)
  more (suc (suc (suc k))) v floor b P h p n = absurd (omega arith)

  one_byte : (a : ℕ) → Within (first_form a) → Begun (a ∷ [])
  unfolding Begun
  one_byte a =
      lead a (λ (f : Form). Within f → Begun (a ∷ []))
      (λ lt w. ([], single a (omega (arith, above (a * 1) 0 w.0)) lt))
      (λ w. nothing w)
      (λ lo hi w.
      let l = above ((a - 0xC0) * 0x40) 0x80 w.0 in
      let x : 0xC0 + c / 0x40 ≡ a = omega arith in
      (last1 c, two c l.1 (omega arith) ∙ rw x))
      (λ lo hi w.
      let l = above ((a - 0xE0) * 0x1000) 0x800 w.0 in
      let x : 0xE0 + c / 0x1000 ≡ a = omega arith in
      (last2 c, three c l.1 (omega arith) ∙ rw x))
      (λ lo w.
      let l = above ((a - 0xF0) * 0x40000) 0x10000 w.0 in
      let x : 0xF0 + c / 0x40000 ≡ a = omega arith in
      (last3 c, four c l.1 ∙ rw x))

  two_bytes : (a b : ℕ) → Within (next_form (first_form a) b) → Begun (a ∷ b ∷ [])
  unfolding Begun next_form
  two_bytes a b =
      lead a (λ (f : Form). Within (next_form f b) → Begun (a ∷ b ∷ []))
      (λ lt w. nothing w)
      (λ w. nothing w)
      (λ lo hi. more 0 (a - 0xC0) 0x80 b (λ (f : Form). Within f → Begun (a ∷ b ∷ [])) (omega arith)
      (λ p q w.
      let l = above (((a - 0xC0) * 0x40 + (b - 0x80)) * 1) 0x80 w.0 in
      let x : 0xC0 + c / 0x40 ≡ a = omega arith in
      let y : 0x80 + c % 0x40 ≡ b = omega arith in
      ([], two c l.1 (omega arith) ∙ rw (x, y)))
      (λ w. nothing w))
      (λ lo hi. more 1 (a - 0xE0) 0x800 b (λ (f : Form). Within f → Begun (a ∷ b ∷ [])) (omega arith)
      (λ p q w.
      let l = above (((a - 0xE0) * 0x40 + (b - 0x80)) * 0x40) 0x800 w.0 in
      let x : 0xE0 + c / 0x1000 ≡ a = omega arith in
      let y : 0x80 + c / 0x40 % 0x40 ≡ b = omega arith in
      (last1 c, three c l.1 (omega arith) ∙ rw (x, y)))
      (λ w. nothing w))
      (λ lo. more 2 (a - 0xF0) 0x10000 b (λ (f : Form). Within f → Begun (a ∷ b ∷ [])) (omega arith)
      (λ p q w.
      let l = above (((a - 0xF0) * 0x40 + (b - 0x80)) * 0x1000) 0x10000 w.0 in
      let x : 0xF0 + c / 0x40000 ≡ a = omega arith in
      let y : 0x80 + c / 0x1000 % 0x40 ≡ b = omega arith in
      (last2 c, four c l.1 ∙ rw (x, y)))
      (λ w. nothing w))

  three_bytes : (a b d : ℕ) → Within (next_form (next_form (first_form a) b) d) → Begun (a ∷ b ∷ d ∷ [])
  unfolding Begun next_form
  three_bytes a b d =
      lead a (λ (f : Form). Within (next_form (next_form f b) d) → Begun (a ∷ b ∷ d ∷ []))
      (λ lt w. nothing w)
      (λ w. nothing w)
      (λ lo hi. more 0 (a - 0xC0) 0x80 b Behind (omega arith) (λ p q w. nothing w) (λ w. nothing w))
      (λ lo hi. more 1 (a - 0xE0) 0x800 b Behind (omega arith)
      (λ p q. more 0 ((a - 0xE0) * 0x40 + (b - 0x80)) 0x800 d (λ (f : Form). Within f → Begun (a ∷ b ∷ d ∷ [])) (omega arith)
      (λ r t w.
      let l = above ((((a - 0xE0) * 0x40 + (b - 0x80)) * 0x40 + (d - 0x80)) * 1) 0x800 w.0 in
      let x : 0xE0 + c / 0x1000 ≡ a = omega arith in
      let y : 0x80 + c / 0x40 % 0x40 ≡ b = omega arith in
      let z : 0x80 + c % 0x40 ≡ d = omega arith in
      ([], three c l.1 (omega arith) ∙ rw (x, y, z)))
      (λ w. nothing w))
      (λ w. nothing w))
      (λ lo. more 2 (a - 0xF0) 0x10000 b Behind (omega arith)
      (λ p q. more 1 ((a - 0xF0) * 0x40 + (b - 0x80)) 0x10000 d (λ (f : Form). Within f → Begun (a ∷ b ∷ d ∷ [])) (omega arith)
      (λ r t w.
      let l = above ((((a - 0xF0) * 0x40 + (b - 0x80)) * 0x40 + (d - 0x80)) * 0x40) 0x10000 w.0 in
      let x : 0xF0 + c / 0x40000 ≡ a = omega arith in
      let y : 0x80 + c / 0x1000 % 0x40 ≡ b = omega arith in
      let z : 0x80 + c / 0x40 % 0x40 ≡ d = omega arith in
      (last1 c, four c l.1 ∙ rw (x, y, z)))
      (λ w. nothing w))
      (λ w. nothing w))
    where
      Behind : Form → Type 0
      Behind f = Within (next_form f d) → Begun (a ∷ b ∷ d ∷ [])

  four_bytes : (a b d e : ℕ) → Within (next_form (next_form (next_form (first_form a) b) d) e) → Begun (a ∷ b ∷ d ∷ e ∷ [])
  unfolding Begun next_form
  four_bytes a b d e =
      lead a (λ (f : Form). Within (next_form (next_form (next_form f b) d) e) → Goal)
      (λ lt w. nothing w)
      (λ w. nothing w)
      (λ lo hi. more 0 (a - 0xC0) 0x80 b Second (omega arith) (λ p q w. nothing w) (λ w. nothing w))
      (λ lo hi. more 1 (a - 0xE0) 0x800 b Second (omega arith)
      (λ p q. more 0 ((a - 0xE0) * 0x40 + (b - 0x80)) 0x800 d Third (omega arith) (λ r t w. nothing w) (λ w. nothing w))
      (λ w. nothing w))
      (λ lo. more 2 (a - 0xF0) 0x10000 b Second (omega arith)
      (λ p q. more 1 ((a - 0xF0) * 0x40 + (b - 0x80)) 0x10000 d Third (omega arith)
      (λ r t. more 0 (((a - 0xF0) * 0x40 + (b - 0x80)) * 0x40 + (d - 0x80)) 0x10000 e (λ (f : Form). Within f → Goal) (omega arith)
      (λ u v w.
      let l = above (((((a - 0xF0) * 0x40 + (b - 0x80)) * 0x40 + (d - 0x80)) * 0x40 + (e - 0x80)) * 1) 0x10000 w.0 in
      let x : 0xF0 + c / 0x40000 ≡ a = omega arith in
      let y : 0x80 + c / 0x1000 % 0x40 ≡ b = omega arith in
      let z : 0x80 + c / 0x40 % 0x40 ≡ d = omega arith in
      let m : 0x80 + c % 0x40 ≡ e = omega arith in
      ([], four c l.1 ∙ rw (x, y, z, m)))
      (λ w. nothing w))
      (λ w. nothing w))
      (λ w. nothing w))
    where
      Goal : Type 0
      Goal = Begun (a ∷ b ∷ d ∷ e ∷ [])

      Third : Form → Type 0
      Third f = Within (next_form f e) → Goal

      Second : Form → Type 0
      Second f = Within (next_form (next_form f d) e) → Goal

  -- no form has more than four bytes
  none_behind : (f : Form) (l : List ℕ) → f.left ≡ 0 → (form_from f l).left ≡ 0
  unfolding form_from next_form
  none_behind f [] e = e
  none_behind f (b ∷ l) e = rw e (none_behind no_form l refl)

  none_next : (f : Form) (b : ℕ) → f.left ≡ 0 → next_form f b ≡ no_form
  unfolding next_form
  none_next f b e = rw e

  four_left : (a b d e : ℕ) → (next_form (next_form (next_form (first_form a) b) d) e).left ≡ 0
  unfolding next_form
  four_left a b d e =
      lead a (λ (f : Form). (next_form (next_form (next_form f b) d) e).left ≡ 0)
      (λ lt. refl)
      refl
      (λ lo hi. more 0 (a - 0xC0) 0x80 b Second (omega arith) (λ p q. refl) refl)
      (λ lo hi. more 1 (a - 0xE0) 0x800 b Second (omega arith) (λ p q. more 0 ((a - 0xE0) * 0x40 + (b - 0x80)) 0x800 d Third (omega arith) (λ r t. refl) refl) refl)
      (λ lo. more 2 (a - 0xF0) 0x10000 b Second (omega arith)
      (λ p q. more 1 ((a - 0xF0) * 0x40 + (b - 0x80)) 0x10000 d Third (omega arith)
      (λ r t. more 0 (((a - 0xF0) * 0x40 + (b - 0x80)) * 0x40 + (d - 0x80)) 0x10000 e (λ (f : Form). f.left ≡ 0) (omega arith) (λ u v. refl) refl) refl) refl)
    where
      Third : Form → Type 0
      Third f = (next_form f e).left ≡ 0

      Second : Form → Type 0
      Second f = (next_form (next_form f d) e).left ≡ 0

  has_bytes : (bytes : List ℕ) (b : ℕ) → Within (next_form (form_of bytes) b) → (rest : List ℕ) × (utf8 c ≡ bytes ++ (b ∷ rest))
  unfolding Begun form_of form_from next_form
  has_bytes [] b w = one_byte b w
  has_bytes (a ∷ []) b w = two_bytes a b w
  has_bytes (a ∷ d ∷ []) b w = three_bytes a d b w
  has_bytes (a ∷ d ∷ e ∷ []) b w = four_bytes a d e b w
  has_bytes (a ∷ d ∷ e ∷ g ∷ l) b w =
      let z : (form_of (a ∷ d ∷ e ∷ g ∷ l)).left ≡ 0 = none_behind (next_form (next_form (next_form (first_form a) d) e) g) l (four_left a d e g) in
      nothing (subst Within (none_next (form_of (a ∷ d ∷ e ∷ g ∷ l)) b z) w)

  -- ---- and the range holds each code point that has the bytes
  below : (a b : ℕ) → a ≤ c → b ≤ c → larger a b ≤ c
  below a b p q = holds_cond (λ (m : ℕ). m ≤ c) (ltb a b) (λ e. q) (λ e. p)

  -- six bits in a byte
  pub bits2 : c / 0x1000 * 0x1000 + c / 0x40 % 0x40 * 0x40 + c % 0x40 ≡ c
  bits2 = omega arith

  pub bits3 : c / 0x40000 * 0x40000 + c / 0x1000 % 0x40 * 0x1000 + c / 0x40 % 0x40 * 0x40 + c % 0x40 ≡ c
  bits3 = omega arith

  pub first_one : (a : ℕ) → a < 0x80 → first_form a ≡ form 0 a 0
  unfolding first_form
  first_one a h = rw (lt-ltb a 0x80 h)

  first_two : (a : ℕ) → 0xC0 ≤ a → a < 0xE0 → first_form a ≡ form 1 (a - 0xC0) 0x80
  unfolding first_form
  first_two a lo hi = rw (le-ltb a 0x80 (omega arith), le-ltb a 0xC0 lo, lt-ltb a 0xE0 hi)

  first_three : (a : ℕ) → 0xE0 ≤ a → a < 0xF0 → first_form a ≡ form 2 (a - 0xE0) 0x800
  unfolding first_form
  first_three a lo hi = rw (le-ltb a 0x80 (omega arith), le-ltb a 0xC0 (omega arith), le-ltb a 0xE0 lo, lt-ltb a 0xF0 hi)

  first_four : (a : ℕ) → 0xF0 ≤ a → first_form a ≡ form 3 (a - 0xF0) 0x10000
  unfolding first_form
  first_four a lo = rw (le-ltb a 0x80 (omega arith), le-ltb a 0xC0 (omega arith), le-ltb a 0xE0 (omega arith), le-ltb a 0xF0 lo)

  goes_on : (k v floor b : ℕ) → k < 3 → 0x80 ≤ b → b ≤ 0xBF → next_form (form (suc k) v floor) b ≡ form k (v * 0x40 + (b - 0x80)) floor
  unfolding next_form
  goes_on zero v floor b h p q = rw (le-leb 0x80 b p, le-leb b 0xBF q)
  goes_on (suc zero) v floor b h p q = rw (le-leb 0x80 b p, le-leb b 0xBF q)
  goes_on (suc (suc zero)) v floor b h p q = rw (le-leb 0x80 b p, le-leb b 0xBF q)
  goes_on (suc (suc (suc k))) v floor b h p q = absurd (omega arith)

  -- and as many bytes are to come as it says
  abbrev Left : List ℕ → Form → Type 0
  Left rest f = Within f × (f.left ≡ length rest)

  Ranged : List ℕ → Type 0
  Ranged l = (bytes : List ℕ) (b : ℕ) (rest : List ℕ) → l ≡ bytes ++ (b ∷ rest) → Left rest (next_form (form_of bytes) b)

  one_ranged : c < 0x80 → Ranged (c ∷ [])
  unfolding Ranged form_of form_from next_form
  one_ranged h [] b rest e = let x : c ≡ b = cc in rw (← x, first_one c h) ((below (c * 1) 0 (omega arith) (omega arith), omega arith), omega (arith, ap length e))
  one_ranged h (a ∷ bytes) b rest e = absurd (omega (arith, ap length e, length-append bytes (b ∷ rest)))

  two_ranged : 0x80 ≤ c → c < 0x800 → Ranged ((0xC0 + c / 0x40) ∷ last1 c)
  unfolding Ranged form_of form_from next_form
  two_ranged lo hi [] b rest e =
      let x : 0xC0 + c / 0x40 ≡ b = cc in
      rw (first_two b (omega arith) (omega arith)) ((below ((b - 0xC0) * 0x40) 0x80 (omega arith) lo, omega arith), omega (arith, ap length e))
  two_ranged lo hi (a ∷ []) b rest e =
      let x : 0xC0 + c / 0x40 ≡ a = cc in
      let y : 0x80 + c % 0x40 ≡ b = cc in
      let f : next_form (first_form a) b ≡ form 0 ((a - 0xC0) * 0x40 + (b - 0x80)) 0x80 = ap (λ (g : Form). next_form g b) (first_two a (omega arith) (omega arith)) ∙ goes_on 0 (a - 0xC0) 0x80 b (omega arith) (omega arith) (omega arith) in
      subst (Left rest) (sym f) ((below (((a - 0xC0) * 0x40 + (b - 0x80)) * 1) 0x80 (omega arith) lo, omega arith), omega (arith, ap length e))
  two_ranged lo hi (a ∷ d ∷ bytes) b rest e = absurd (omega (arith, ap length e, length-append bytes (b ∷ rest)))

  three_ranged : 0x800 ≤ c → c < 0x10000 → Ranged ((0xE0 + c / 0x1000) ∷ last2 c)
  unfolding Ranged form_of form_from next_form
  three_ranged lo hi [] b rest e =
      let x : 0xE0 + c / 0x1000 ≡ b = cc in
      rw (first_three b (omega arith) (omega arith)) ((below ((b - 0xE0) * 0x1000) 0x800 (omega (arith, bits2)) lo, omega (arith, bits2)), omega (arith, ap length e))
  three_ranged lo hi (a ∷ []) b rest e =
      let x : 0xE0 + c / 0x1000 ≡ a = cc in
      let y : 0x80 + c / 0x40 % 0x40 ≡ b = cc in
      let f : next_form (first_form a) b ≡ form 1 ((a - 0xE0) * 0x40 + (b - 0x80)) 0x800 = ap (λ (g : Form). next_form g b) (first_three a (omega arith) (omega arith)) ∙ goes_on 1 (a - 0xE0) 0x800 b (omega arith) (omega arith) (omega arith) in
      subst (Left rest) (sym f) ((below (((a - 0xE0) * 0x40 + (b - 0x80)) * 0x40) 0x800 (omega (arith, bits2)) lo, omega (arith, bits2)), omega (arith, ap length e))
  three_ranged lo hi (a ∷ d ∷ []) b rest e =
      let x : 0xE0 + c / 0x1000 ≡ a = cc in
      let y : 0x80 + c / 0x40 % 0x40 ≡ d = cc in
      let z : 0x80 + c % 0x40 ≡ b = cc in
      let v : ℕ = (a - 0xE0) * 0x40 + (d - 0x80) in
      let f : next_form (first_form a) d ≡ form 1 v 0x800 = ap (λ (g : Form). next_form g d) (first_three a (omega arith) (omega arith)) ∙ goes_on 1 (a - 0xE0) 0x800 d (omega arith) (omega arith) (omega arith) in
      let g : next_form (next_form (first_form a) d) b ≡ form 0 (v * 0x40 + (b - 0x80)) 0x800 = ap (λ (g : Form). next_form g b) f ∙ goes_on 0 v 0x800 b (omega arith) (omega arith) (omega arith) in
      subst (Left rest) (sym g) ((below ((v * 0x40 + (b - 0x80)) * 1) 0x800 (omega (arith, bits2)) lo, omega (arith, bits2)), omega (arith, ap length e))
  three_ranged lo hi (a ∷ d ∷ g ∷ bytes) b rest e = absurd (omega (arith, ap length e, length-append bytes (b ∷ rest)))

  four_ranged : 0x10000 ≤ c → Ranged ((0xF0 + c / 0x40000) ∷ last3 c)
  unfolding Ranged form_of form_from next_form
  four_ranged lo [] b rest e =
      let x : 0xF0 + c / 0x40000 ≡ b = cc in
      rw (first_four b (omega arith)) ((below ((b - 0xF0) * 0x40000) 0x10000 (omega (arith, bits3)) lo, omega (arith, bits3)), omega (arith, ap length e))
  four_ranged lo (a ∷ []) b rest e =
      let x : 0xF0 + c / 0x40000 ≡ a = cc in
      let y : 0x80 + c / 0x1000 % 0x40 ≡ b = cc in
      let f : next_form (first_form a) b ≡ form 2 ((a - 0xF0) * 0x40 + (b - 0x80)) 0x10000 = ap (λ (g : Form). next_form g b) (first_four a (omega arith)) ∙ goes_on 2 (a - 0xF0) 0x10000 b (omega arith) (omega arith) (omega arith) in
      subst (Left rest) (sym f) ((below (((a - 0xF0) * 0x40 + (b - 0x80)) * 0x1000) 0x10000 (omega (arith, bits3)) lo, omega (arith, bits3)), omega (arith, ap length e))
  four_ranged lo (a ∷ d ∷ []) b rest e =
      let x : 0xF0 + c / 0x40000 ≡ a = cc in
      let y : 0x80 + c / 0x1000 % 0x40 ≡ d = cc in
      let z : 0x80 + c / 0x40 % 0x40 ≡ b = cc in
      let v : ℕ = (a - 0xF0) * 0x40 + (d - 0x80) in
      let f : next_form (first_form a) d ≡ form 2 v 0x10000 = ap (λ (g : Form). next_form g d) (first_four a (omega arith)) ∙ goes_on 2 (a - 0xF0) 0x10000 d (omega arith) (omega arith) (omega arith) in
      let g : next_form (next_form (first_form a) d) b ≡ form 1 (v * 0x40 + (b - 0x80)) 0x10000 = ap (λ (g : Form). next_form g b) f ∙ goes_on 1 v 0x10000 b (omega arith) (omega arith) (omega arith) in
      subst (Left rest) (sym g) ((below ((v * 0x40 + (b - 0x80)) * 0x40) 0x10000 (omega (arith, bits3)) lo, omega (arith, bits3)), omega (arith, ap length e))
  four_ranged lo (a ∷ d ∷ g ∷ []) b rest e =
      let x : 0xF0 + c / 0x40000 ≡ a = cc in
      let y : 0x80 + c / 0x1000 % 0x40 ≡ d = cc in
      let z : 0x80 + c / 0x40 % 0x40 ≡ g = cc in
      let m : 0x80 + c % 0x40 ≡ b = cc in
      let v : ℕ = (a - 0xF0) * 0x40 + (d - 0x80) in
      let w : ℕ = v * 0x40 + (g - 0x80) in
      let f : next_form (first_form a) d ≡ form 2 v 0x10000 = ap (λ (h : Form). next_form h d) (first_four a (omega arith)) ∙ goes_on 2 (a - 0xF0) 0x10000 d (omega arith) (omega arith) (omega arith) in
      let k : next_form (next_form (first_form a) d) g ≡ form 1 w 0x10000 = ap (λ (h : Form). next_form h g) f ∙ goes_on 1 v 0x10000 g (omega arith) (omega arith) (omega arith) in
      let n : next_form (next_form (next_form (first_form a) d) g) b ≡ form 0 (w * 0x40 + (b - 0x80)) 0x10000 = ap (λ (h : Form). next_form h b) k ∙ goes_on 0 w 0x10000 b (omega arith) (omega arith) (omega arith) in
      subst (Left rest) (sym n) ((below ((w * 0x40 + (b - 0x80)) * 1) 0x10000 (omega (arith, bits3)) lo, omega (arith, bits3)), omega (arith, ap length e))
  four_ranged lo (a ∷ d ∷ g ∷ h ∷ bytes) b rest e = absurd (omega (arith, ap length e, length-append bytes (b ∷ rest)))

  pub ranged : (bytes : List ℕ) (b : ℕ) (rest : List ℕ) → utf8 c ≡ bytes ++ (b ∷ rest) → Left rest (next_form (form_of bytes) b)
  unfolding utf8 Ranged
  ranged =
      holds_cond Ranged (ltb c 0x80) (λ e. one_ranged (ltb-true c 0x80 e))
      (λ x. holds_cond Ranged (ltb c 0x800) (λ e. two_ranged (ltb-false c 0x80 x) (ltb-true c 0x800 e))
      (λ y. holds_cond Ranged (ltb c 0x10000) (λ e. three_ranged (ltb-false c 0x800 y) (ltb-true c 0x10000 e)) (λ e. four_ranged (ltb-false c 0x10000 e))))

-- ---- a range of the set and a range of code points
-- each range's first is not behind its last
abbrev pub ordered : List Range → Bool
ordered = all (λ (r : Range). leb r.first r.last)

record Shared (ranges : List Range) (lo hi : ℕ) : Type 0 where
  pub point : ℕ
  pub above : lo ≤ point
  pub upto : point ≤ hi
  pub inside : member ranges point ≡ true

shared : (ranges : List Range) (lo hi : ℕ) → lo ≤ hi → ordered ranges ≡ true → any (meets lo hi) ranges ≡ true → Shared ranges lo hi
unfolding any all member
shared [] lo hi le o e = absurd (let z : ◌≡◌ {A = ℕ} 0 1 = cc in omega arith)
shared (r ∷ ranges) lo hi le o e = by (either (meets lo hi r) (any (meets lo hi) ranges) e) (shared ranges lo hi le (and_right (leb r.first r.last) (all (λ (r : Range). leb r.first r.last) ranges) o))
  where
    here : (p : ℕ) → lo ≤ p → p ≤ hi → r.first ≤ p → p ≤ r.last → Shared (r ∷ ranges) lo hi
    here p a b x y = record { point = p; above = a; upto = b; inside = or-first (in_range p r) (any (in_range p) ranges) (and-true (leb r.first p) (leb p r.last) (le-leb r.first p x) (le-leb p r.last y)) }

    by : (meets lo hi r ≡ true) ⊎ (any (meets lo hi) ranges ≡ true) → (any (meets lo hi) ranges ≡ true → Shared ranges lo hi) → Shared (r ∷ ranges) lo hi
    by (inl m) ih =
        let x = leb-true r.first hi (and_left (leb r.first hi) (leb lo r.last) m) in
        let y = leb-true lo r.last (and_right (leb r.first hi) (leb lo r.last) m) in
        let z = leb-true r.first r.last (and_left (leb r.first r.last) (all (λ (r : Range). leb r.first r.last) ranges) o) in
        pick (leb r.first lo) refl x y z
      where
        pick : (t : Bool) → leb r.first lo ≡ t → r.first ≤ hi → lo ≤ r.last → r.first ≤ r.last → Shared (r ∷ ranges) lo hi
        pick true q x y z = here lo (omega arith) le (leb-true r.first lo q) y
        pick false q x y z = here r.first (omega (arith, leb-false r.first lo q)) x (omega arith) z
    by (inr m) ih =
        let s = ih m in
        record { point = s.point; above = s.above; upto = s.upto; inside = or-second (in_range s.point r) (any (in_range s.point) ranges) s.inside }

met : (ranges : List Range) (lo hi c : ℕ) → lo ≤ c → c ≤ hi → member ranges c ≡ true → any (meets lo hi) ranges ≡ true
unfolding any member
met [] lo hi c a b e = e
met (r ∷ ranges) lo hi c a b e = by (either (in_range c r) (any (in_range c) ranges) e) (met ranges lo hi c a b)
  where
    by : (in_range c r ≡ true) ⊎ (any (in_range c) ranges ≡ true) → (any (in_range c) ranges ≡ true → any (meets lo hi) ranges ≡ true) → any (meets lo hi) (r ∷ ranges) ≡ true
    by (inl m) ih =
        let x = leb-true r.first c (and_left (leb r.first c) (leb c r.last) m) in
        let y = leb-true c r.last (and_right (leb r.first c) (leb c r.last) m) in
        or-first (meets lo hi r) (any (meets lo hi) ranges) (and-true (leb r.first hi) (leb lo r.last) (le-leb r.first hi (omega arith)) (le-leb lo r.last (omega arith)))
    by (inr m) ih = or-second (meets lo hi r) (any (meets lo hi) ranges) (ih m)

-- ---- decided
module _ (ranges : List Range) (bytes : List ℕ) (b : ℕ) where
  pub sound : ordered ranges ≡ true → form_begins ranges (next_form (form_of bytes) b) ≡ true → Begins ranges bytes b
  unfolding form_begins least most
  sound o e =
      let f = next_form (form_of bytes) b in
      let lo = least f in
      let hi = most f in
      let s = shared ranges lo hi (leb-true lo hi (and_left (leb lo hi) (any (meets lo hi) ranges) e)) o (and_right (leb lo hi) (any (meets lo hi) ranges) e) in
      let h = has_bytes s.point bytes b (s.above, s.upto) in
      record { character = s.point; allowed = s.inside; rest = h.0; form = h.1 }

  pub complete : Begins ranges bytes b → form_begins ranges (next_form (form_of bytes) b) ≡ true
  unfolding form_begins least most
  complete h =
      let f = next_form (form_of bytes) b in
      let w = (ranged h.character bytes b h.rest h.form).0 in
      and-true (leb (least f) (most f)) (any (meets (least f) (most f)) ranges) (le-leb (least f) (most f) (omega (arith, w.0, w.1))) (met ranges (least f) (most f) h.character w.0 w.1 h.allowed)

-- each set's ranges are ordered
pub set_ordered : (x : Set) → ordered (ranges_of x) ≡ true
unfolding all
set_ordered set.Start = refl
set_ordered set.Name = refl
set_ordered set.Char = refl

unfoldable pub by_test : {P : Type 0} (t : Bool) → (t ≡ true → P) → (P → t ≡ true) → P ⊎ (P → ⊥)
by_test true f g = inl (f refl)
by_test false f g = inr (λ p. let e : false ≡ true = g p in let z : ◌≡◌ {A = ℕ} 0 1 = cc in omega arith)

unfoldable pub decided : (x : Set) (bytes : List ℕ) (b : ℕ) → Begins (ranges_of x) bytes b ⊎ (Begins (ranges_of x) bytes b → ⊥)
decided x bytes b = by_test (form_begins (ranges_of x) (next_form (form_of bytes) b)) (sound (ranges_of x) bytes b (set_ordered x)) (complete (ranges_of x) bytes b)
