-- The key of a prefix.
--     key_turn, key_small, key_whole, key_long    the loop of `key_of`
--     Bytes, bytes_at, bytes_of_lem                   lists of bytes
--     key_tells                                   a prefix of at most seven bytes is told by its key
use Prim.Native.Nat.{ℕ, zero, suc, ◌+◌, ◌*◌, ◌^◌, ◌≤◌, ◌<◌}
use mathlib.Core.Path.{◌≡◌, refl, ap, ◌∙◌}
use mathlib.Core.List.{List, [], ◌∷◌}
use mathlib.Core.Bool.{true}
use mathlib.Core.Logic.{⊎_elim}
use native.Mathlib.Omega.{arith}
use native.Mathlib.Nat.{pow-suc, pow-le-pow_right}
use native.Mathlib.Numerals.{add-one}
use borrow.Author.Tests.{le-leb, lt-leb, eq-eqb, eqb-true}
use lib.Dec.{eqb}
use lib.ListN.{length, get_or, take, drop}
use Rattle.laws.specs.Lists.{same_list}
use Rattle.laws.specs.Members.{All}
use Rattle.laws.specs.Reading.{le_or_lt, drop_here, drop_out}
use Rattle.laws.proofs.Flags.{flag_same}
use Rattle.compare.proofs.Equal.{same_refl, same_eq}
use Rattle.reader.specs.Spans.{bytes_of}
use Rattle.reader.specs.Known.{key_from, key_of}
use Rattle.reader.specs.declared.Span.{Span}

-- ---- the loop
module _ (p : List ℕ) (key i : ℕ) (inv : key_from key (drop i p) ≡ key_from 0 p) where
  pub key_turn : (b : ℕ) → i < length p → b ≡ get_or p i 0 → key_from (256 * key + b) (drop (i + 1) p) ≡ key_from 0 p
  unfolding key_from
  key_turn b h e = simp (← inv, drop_here, e)

  pub key_whole : length p ≤ i → length p ≤ 7 → 8 * key + length p ≡ key_of p
  unfolding key_from key_of
  key_whole h l =
      let e : key ≡ key_from 0 p = simp (← inv, drop_out) in
      rw (le-leb (length p) 7 l, ← e)

pub key_small : (key i b : ℕ) → key < 256 ^ i → b < 256 → 256 * key + b < 256 ^ (i + 1)
key_small key i b h k = let e : 256 ^ (i + 1) ≡ 256 ^ i * 256 = ap (λ (m : ℕ). 256 ^ m) (add-one i) ∙ pow-suc 256 i in omega arith

pub key_fits : (key i : ℕ) → key < 256 ^ i → i ≤ 7 → key < 72057594037927936
key_fits key i h l = let m : 256 ^ i ≤ 256 ^ 7 = pow-le-pow_right (omega arith) l in omega arith

pub key_long : (p : List ℕ) → 7 < length p → 8 ≡ key_of p
unfolding key_of
key_long p h = rw (lt-leb (length p) 7 h)

-- ---- lists of bytes
abbrev pub Bytes : List ℕ → Type 0
Bytes l = All (λ (b : ℕ). b < 256) l

pub bytes_at : (l : List ℕ) → ((i : ℕ) → get_or l i 0 < 256) → Bytes l
bytes_at [] h = tt
bytes_at (x ∷ l) h = (h 0, bytes_at l (λ i. h (suc i)))

bytes_drop : (n : ℕ) (l : List ℕ) → Bytes l → Bytes (drop n l)
bytes_drop zero l h = h
bytes_drop (suc n) [] h = tt
bytes_drop (suc n) (x ∷ l) h = bytes_drop n l h.1

bytes_take : (n : ℕ) (l : List ℕ) → Bytes l → Bytes (take n l)
bytes_take zero l h = tt
bytes_take (suc n) [] h = tt
bytes_take (suc n) (x ∷ l) h = (h.0, bytes_take n l h.1)

pub bytes_of_lem : (s : List ℕ) (w : Span) → Bytes s → Bytes (bytes_of s w)
bytes_of_lem s w h = bytes_take w.len (drop w.at s) (bytes_drop w.at s h)

-- ---- equal keys, equal prefixes
from_same : (k m : ℕ) (p q : List ℕ) → Bytes p → Bytes q → length p ≡ length q → key_from k p ≡ key_from m q → (k ≡ m) × (p ≡ q)
unfolding key_from
from_same k m [] [] hp hq l e = (e, refl)
from_same k m [] (b ∷ q) hp hq l e = absurd (omega arith)
from_same k m (a ∷ p) [] hp hq l e = absurd (omega arith)
from_same k m (a ∷ p) (b ∷ q) hp hq l e =
    let r : (256 * k + a ≡ 256 * m + b) × (p ≡ q) = from_same (256 * k + a) (256 * m + b) p q hp.1 hq.1 (omega arith) e in
    let u : k ≡ m = omega (arith, r.0, hp.0, hq.0) in
    let v : a ≡ b = omega (arith, r.0, hp.0, hq.0) in
    let w : p ≡ q = r.1 in
    (u, cc)

-- of no bytes: 0
from_none : (p : List ℕ) → length p ≡ 0 → key_from 0 p ≡ 0
unfolding key_from
from_none [] e = refl
from_none (b ∷ p) e = absurd (omega arith)

key_same : (p q : List ℕ) → Bytes p → Bytes q → length q ≤ 7 → key_of p ≡ key_of q → p ≡ q
unfolding key_of
key_same p q hp hq lq e = ⊎_elim short long (le_or_lt (length p) 7)
  where
    short : length p ≤ 7 → p ≡ q
    short lp =
        let g : 8 * key_from 0 p + length p ≡ 8 * key_from 0 q + length q = rw (le-leb (length p) 7 lp, le-leb (length q) 7 lq) at e in
        (from_same 0 0 p q hp hq (omega arith) (omega arith)).1

    long : 7 < length p → p ≡ q
    long lp =
        let g : 8 ≡ 8 * key_from 0 q + length q = rw (lt-leb (length p) 7 lp, le-leb (length q) 7 lq) at e in
        let n : length q ≡ 0 = omega arith in
        absurd (omega (arith, from_none q n))

pub key_tells : (p q : List ℕ) → Bytes p → Bytes q → length q ≤ 7 → eqb (key_of p) (key_of q) ≡ same_list p q
key_tells p q hp hq l = flag_same (eqb (key_of p) (key_of q)) (same_list p q) there back
  where
    there : eqb (key_of p) (key_of q) ≡ true → same_list p q ≡ true
    there e = let z : p ≡ q = key_same p q hp hq l (eqb-true (key_of p) (key_of q) e) in rw z (same_refl q)

    back : same_list p q ≡ true → eqb (key_of p) (key_of q) ≡ true
    back e = eq-eqb (key_of p) (key_of q) (ap key_of (same_eq p q e))
