-- A prefix looked up by its key.
--     key_none, key_here, key_before    the clauses of `last_key`, at the code's `left` and `left - 1`
--     by_own, by_open                   the ways out of `find`, by the definition
--     own_found, open_found, none_found and by the code's answer
use Prim.Native.Nat.{ℕ, zero, suc, ◌+◌, ◌-◌, ◌≤◌, ◌<◌}
use mathlib.Core.Path.{◌≡◌, refl, sym, ap, ◌∙◌}
use mathlib.Core.List.{List}
use mathlib.Core.Bool.{Bool, true, false, cond}
use native.Mathlib.Omega.{arith}
use native.Mathlib.Nat.{add-zero, zero-add}
use borrow.Author.Tests.{eq-eqb, ne_eqb, eqb-true, eqb-false, le-leb}
use lib.Dec.{eqb}
use lib.ListN.{length, get_or}
use Rattle.std.specs.Prelude.{Option, Some, None}
use Rattle.laws.specs.Lists.{same_list}
use Rattle.reader.specs.Spans.{bytes_of, xml_prefix}
use Rattle.reader.specs.Stored.{at_most, binding_in, counted_from_1, look_from, found_open, found_of}
use Rattle.reader.specs.Known.{key_of, last_key, KeysAt}
use Rattle.reader.specs.declared.Found.{Found}
use Rattle.reader.specs.declared.Found.TheVariants as found
use Rattle.reader.proofs.PrefixKeys.{Bytes, bytes_of_lem, key_tells}
use Rattle.reader.proofs.Seek.{counted_some, counted_none, open_some, open_none, look_le, found_own, found_open_lem}

module _ (l : List ℕ) (left key : ℕ) where
  pub key_none : left ≡ 0 → 0 ≡ last_key l left key
  unfolding last_key
  key_none e = ap (λ (k : ℕ). last_key l k key) (sym e)

  last_turn : (left ≡ 0 → ⊥) → last_key l left key ≡ cond (eqb (get_or l (left - 1) 0) key) left (last_key l (left - 1) key)
  unfolding last_key
  last_turn ne =
      let n : suc (left - 1) ≡ left = omega arith in
      sym (ap (λ (k : ℕ). last_key l k key) n)
      ∙ ap (λ (k : ℕ). cond (eqb (get_or l (left - 1) 0) key) k (last_key l (left - 1) key)) n

  pub key_here : (left ≡ 0 → ⊥) → get_or l (left - 1) 0 ≡ key → left ≡ last_key l left key
  key_here ne e = sym (last_turn ne ∙ rw (eq-eqb (get_or l (left - 1) 0) key e))

  pub key_before : (r : ℕ) → (left ≡ 0 → ⊥) → (get_or l (left - 1) 0 ≡ key → ⊥) → r ≡ last_key l (left - 1) key → r ≡ last_key l left key
  key_before r ne e h = h ∙ sym (last_turn ne ∙ rw (ne_eqb (get_or l (left - 1) 0) key e))

-- ---- by keys as by bytes
module _ (s known prefix : List ℕ) (hs : Bytes s) (hp : Bytes prefix) (short : length prefix ≤ 7) where
  tells : (l : List ℕ) (k at : ℕ) → get_or known at 0 ≡ key_of (bytes_of s (binding_in l k).prefix) → eqb (get_or known at 0) (key_of prefix) ≡ same_list (bytes_of s (binding_in l k).prefix) prefix
  tells l k at e = ap (λ (x : ℕ). eqb x (key_of prefix)) e ∙ key_tells (bytes_of s (binding_in l k).prefix) prefix (bytes_of_lem s (binding_in l k).prefix hs) hp short

  last_open : (l : List ℕ) (n : ℕ) → KeysAt s l n 0 known → last_key known n (key_of prefix) ≡ look_from s l n prefix
  unfolding last_key look_from
  last_open l zero h = refl
  last_open l (suc n) h =
      let e : get_or known n 0 ≡ key_of (bytes_of s (binding_in l n).prefix) = ap (λ (k : ℕ). get_or known k 0) (sym (zero-add n)) ∙ h n (omega arith) in
      rw (tells l n n e, last_open l n (λ k q. h k (omega arith)))

  last_both : (l : List ℕ) (bound n : ℕ) → KeysAt s l n bound known
      → last_key known (bound + n) (key_of prefix) ≡ cond (eqb (look_from s l n prefix) 0) (last_key known bound (key_of prefix)) (bound + look_from s l n prefix)
  unfolding last_key look_from
  last_both l bound zero h = ap (λ (k : ℕ). last_key known k (key_of prefix)) (add-zero bound)
  last_both l bound (suc n) h =
      let e : bound + suc n ≡ suc (bound + n) = omega arith in
      ap (λ (k : ℕ). last_key known k (key_of prefix)) e
      ∙ ap (λ (t : Bool). cond t (suc (bound + n)) (last_key known (bound + n) (key_of prefix))) (tells l n (bound + n) (h n (omega arith)))
      ∙ cases (same_list (bytes_of s (binding_in l n).prefix) prefix) (last_both l bound n (λ k q. h k (omega arith)))
    where
      cases : (t : Bool) → last_key known (bound + n) (key_of prefix) ≡ cond (eqb (look_from s l n prefix) 0) (last_key known bound (key_of prefix)) (bound + look_from s l n prefix)
          → cond t (suc (bound + n)) (last_key known (bound + n) (key_of prefix))
          ≡ cond (eqb (cond t (suc n) (look_from s l n prefix)) 0) (last_key known bound (key_of prefix)) (bound + cond t (suc n) (look_from s l n prefix))
      cases true ih = let z : suc (bound + n) ≡ bound + suc n = omega arith in rw (ne_eqb (suc n) 0 (λ q. omega arith)) z
      cases false ih = ih

  -- the ways out of `find`
  module _ (own : List ℕ) (owned : ℕ) (open' : List ℕ) (bound : ℕ) (lb : bound ≤ 64) (lo : owned ≤ 16) (ho : KeysAt s open' bound 0 known) (hw : KeysAt s own owned bound known)
      (x : Bool) (ex : x ≡ same_list prefix xml_prefix) (h : x ≡ false) (key : ℕ) (e_key : key ≡ key_of prefix) (o : Option ℕ) (eo_k : o ≡ counted_from_1 (last_key known (bound + owned) key)) where
    abbrev k : ℕ
    k = last_key known (bound + owned) key

    ek : k ≡ last_key known (bound + owned) (key_of prefix)
    ek = ap (last_key known (bound + owned)) e_key

    abbrev a : ℕ
    a = look_from s own owned prefix

    abbrev b : ℕ
    b = look_from s open' bound prefix

    told : k ≡ cond (eqb a 0) b (bound + a)
    told = ek ∙ last_both own bound owned hw ∙ ap (λ (m : ℕ). cond (eqb a 0) m (bound + a)) (last_open open' bound ho)

    eo : owned ≡ at_most 16 owned
    eo = rw (le-leb owned 16 lo)

    eb : bound ≡ at_most 64 bound
    eb = rw (le-leb bound 64 lb)

    by_own : bound < k → found.Own (k - bound - 1) ≡ found_of s own owned open' bound prefix
    by_own l =
        let ne : a ≡ 0 → ⊥ = λ z. let q : k ≡ b = told ∙ rw (eq-eqb a 0 z) in omega (arith, look_le s open' bound prefix) in
        let q : k ≡ bound + a = told ∙ rw (ne_eqb a 0 ne) in
        let z : k - bound - 1 ≡ a - 1 = omega arith in
        ap found.Own z ∙ found_own s own owned open' bound prefix x ex owned a h eo refl ne

    by_open : k ≤ bound → (f : Found) → f ≡ found_open prefix k → f ≡ found_of s own owned open' bound prefix
    by_open l f g =
        let e : a ≡ 0 = none (eqb a 0) refl in
        let q : k ≡ b = told ∙ rw (eq-eqb a 0 e) in
        found_open_lem s own owned open' bound prefix x ex owned a h eo refl bound k f e eb q g
      where
        none : (t : Bool) → t ≡ eqb a 0 → a ≡ 0
        none true z = eqb-true a 0 (sym z)
        none false z = let q : k ≡ bound + a = told ∙ rw (← z) in absurd (omega (arith, eqb-false a 0 (sym z)))

    pub own_found : (i : ℕ) → o ≡ Some i → bound ≤ i → found.Own (i - bound) ≡ found_of s own owned open' bound prefix
    own_found i e l =
        let n : k ≡ i + 1 = counted_some k i (sym eo_k ∙ e) in
        let z : i - bound ≡ k - bound - 1 = omega arith in
        ap found.Own z ∙ by_own (omega arith)

    pub open_found : (i : ℕ) → o ≡ Some i → i < bound → found.Open i ≡ found_of s own owned open' bound prefix
    open_found i e l =
        let n : k ≡ i + 1 = counted_some k i (sym eo_k ∙ e) in
        by_open (omega arith) (found.Open i) (open_some prefix i k (sym e ∙ eo_k))

    pub none_found : (f : Found) → o ≡ None → f ≡ found_open prefix 0 → f ≡ found_of s own owned open' bound prefix
    none_found f e g =
        let n : k ≡ 0 = counted_none k (sym eo_k ∙ e) in
        by_open (omega arith) f (open_none prefix k f (sym e ∙ eo_k) g)
