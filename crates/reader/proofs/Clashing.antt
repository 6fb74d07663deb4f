-- Number 6: what the code's tests say of two attributes, and of an array of them.
--     clash_named, clash_apart, clash_space    two attributes
--     behind_out, behind_turn, behind_past     an attribute and those behind it
--     twice_out, twice_turn                    each attribute and those behind it
use Prim.Native.Nat.{ℕ, zero, suc, ◌+◌, ◌≤◌, ◌<◌}
use mathlib.Core.Path.{◌≡◌, refl, sym, ap, ◌∙◌}
use mathlib.Core.List.{List, [], ◌∷◌}
use mathlib.Core.Bool.{Bool, true, false, not, ◌&&◌, ◌||◌, and-false, and-true}
use native.Mathlib.Omega.{arith}
use native.Mathlib.Nat.{not-suc-le-zero}
use lib.ListN.{length, get_or, drop}
use Rattle.laws.specs.Lists.{same_list, any, any_pair}
use Rattle.lexer.specs.Attrs.{attr_in, attrs_in}
use Rattle.lexer.specs.declared.Attr.{Attr}
use Rattle.reader.specs.Spans.{bytes_of, whole_span, part_span, kind_of}
use Rattle.reader.specs.Namespaces.{same_namespace}
use Rattle.reader.specs.Stored.{at_most, found_in, stored_space, is_declaration, Coded, coded, coded_at, clashes}
use Rattle.reader.specs.declared.Found.{Found}
use Rattle.reader.specs.Keys.{Unlike}
use Rattle.reader.proofs.Any.{any_out, any_here, pair_out, pair_here}
use Rattle.reader.proofs.Indexed.{tab_long, tab_at}
use Rattle.reader.proofs.Keys.{clash_unlike}

module _ (s own open' : List ℕ) (a : Attr) (x : ℕ) (b : Attr) (y : ℕ) (t : Bool) (et : t ≡ same_list (bytes_of s (whole_span a.name)) (bytes_of s (whole_span b.name))) where
  pub clash_named : t ≡ true → true ≡ clashes s own open' (record { attr = a; code = x }) (record { attr = b; code = y })
  unfolding clashes
  clash_named h = rw (← et, h)

  module _ (h : t ≡ false) where
    -- what is asked until one test says no
    pub clash_apart : (u v w : Bool) → u ≡ is_declaration (kind_of s a.name) → v ≡ is_declaration (kind_of s b.name) → w ≡ same_list (bytes_of s (part_span a.name)) (bytes_of s (part_span b.name))
        → ((not u && not v) && w) ≡ false → false ≡ clashes s own open' (record { attr = a; code = x }) (record { attr = b; code = y })
    unfolding clashes
    clash_apart u v w eu ev ew q = rw (← et, h, ← eu, ← ev, ← ew) (cases u v w (same_namespace s (stored_space own open' (found_in x)) (stored_space own open' (found_in y))) q)
      where
        cases : (u v w z : Bool) → ((not u && not v) && w) ≡ false → false ≡ (not u && (not v && (z && w)))
        cases true v w z q = refl
        cases false true w z q = refl
        cases false false false z q = sym (and-false z)
        cases false false true z q = absurd (let k : ◌≡◌ {A = ℕ} 0 1 = cc in omega arith)

    pub clash_space : (u v w : Bool) → u ≡ is_declaration (kind_of s a.name) → v ≡ is_declaration (kind_of s b.name) → w ≡ same_list (bytes_of s (part_span a.name)) (bytes_of s (part_span b.name))
        → ((not u && not v) && w) ≡ true → (f g : Found) → f ≡ found_in x → g ≡ found_in y → (r : Bool)
        → r ≡ same_namespace s (stored_space own open' f) (stored_space own open' g)
        → r ≡ clashes s own open' (record { attr = a; code = x }) (record { attr = b; code = y })
    unfolding clashes
    clash_space u v w eu ev ew q f g ef eg r e = rw (← et, h, ← eu, ← ev, ← ew, ← ef, ← eg, ← e) (cases u v w q)
      where
        cases : (u v w : Bool) → ((not u && not v) && w) ≡ true → r ≡ (not u && (not v && (r && w)))
        cases true v w q = absurd (let k : ◌≡◌ {A = ℕ} 0 1 = cc in omega arith)
        cases false true w q = absurd (let k : ◌≡◌ {A = ℕ} 0 1 = cc in omega arith)
        cases false false false q = absurd (let k : ◌≡◌ {A = ℕ} 0 1 = cc in omega arith)
        cases false false true q = sym (and-true r)

-- ---- the attributes of an array with their numbers
coded_long : (l : List Attr) (cs : List ℕ) → length (coded l cs) ≡ length l
coded_long [] cs = refl
coded_long (a ∷ l) [] = ap suc (coded_long l [])
coded_long (a ∷ l) (c ∷ cs) = ap suc (coded_long l cs)

coded_at_lem : (l : List Attr) (cs : List ℕ) (k : ℕ) (d : Coded) (e : Attr) → k < length l → get_or (coded l cs) k d ≡ record { attr = get_or l k e; code = get_or cs k 0 }
coded_at_lem [] cs k d e h = absurd (not-suc-le-zero h)
coded_at_lem (a ∷ l) [] zero d e h = refl
coded_at_lem (a ∷ l) [] (suc k) d e h = coded_at_lem l [] k d e (omega arith)
coded_at_lem (a ∷ l) (c ∷ cs) zero d e h = refl
coded_at_lem (a ∷ l) (c ∷ cs) (suc k) d e h = coded_at_lem l cs k d e (omega arith)

module _ (array codes : List ℕ) (count most : ℕ) (em : most ≡ at_most 16 count) where
  abbrev all_of : List Coded
  all_of = coded (attrs_in array count) codes

  all_long : length all_of ≡ most
  unfolding attrs_in
  all_long = coded_long (attrs_in array count) codes ∙ tab_long (attr_in array) 0 (at_most 16 count) ∙ sym em

  all_at : (k : ℕ) (d : Coded) → k < most → get_or all_of k d ≡ coded_at array codes k
  unfolding attrs_in
  all_at k d h =
      let z : 0 + k ≡ k = omega arith in
      let m : k < at_most 16 count = omega arith in
      coded_at_lem (attrs_in array count) codes k d (attr_in array 0) (omega (arith, tab_long (attr_in array) 0 (at_most 16 count)))
      ∙ ap (λ (a : Attr). record { attr = a; code = get_or codes k 0 }) (tab_at (attr_in array) 0 (at_most 16 count) k (attr_in array 0) m ∙ ap (attr_in array) z)

  module _ (s own open' : List ℕ) (i : ℕ) (v : Bool) where
    module _ (j : ℕ) (inv : any (clashes s own open' (coded_at array codes i)) (drop j all_of) ≡ v) where
      pub behind_out : most ≤ j → false ≡ v
      behind_out h = sym (any_out (clashes s own open' (coded_at array codes i)) all_of j (omega (arith, all_long))) ∙ inv

      pub behind_turn : j < most → (r : Bool) → r ≡ clashes s own open' (coded_at array codes i) (coded_at array codes j) → (r || any (clashes s own open' (coded_at array codes i)) (drop (j + 1) all_of)) ≡ v
      behind_turn h r e =
          ap (λ (t : Bool). t || any (clashes s own open' (coded_at array codes i)) (drop (j + 1) all_of))
          (e ∙ ap (clashes s own open' (coded_at array codes i)) (sym (all_at j (coded_at array codes j) h)))
          ∙ sym (any_here (clashes s own open' (coded_at array codes i)) all_of j (coded_at array codes j) (omega (arith, all_long)))
          ∙ inv

      -- a pair that is passed over
      pub behind_past : j < most → Unlike s (attr_in array i).name (attr_in array j).name → any (clashes s own open' (coded_at array codes i)) (drop (j + 1) all_of) ≡ v
      behind_past h u = behind_turn h false (clash_unlike s own open' (coded_at array codes i) (coded_at array codes j) u)

    module _ (inv : any_pair (clashes s own open') (drop i all_of) ≡ v) where
      pub twice_out : most ≤ i + 1 → false ≡ v
      twice_out h = sym (pair_out (clashes s own open') all_of i (omega (arith, all_long))) ∙ inv

      pub twice_turn : i < most → (r : Bool) → r ≡ any (clashes s own open' (coded_at array codes i)) (drop (i + 1) all_of)
          → (r || any_pair (clashes s own open') (drop (i + 1) all_of)) ≡ v
      twice_turn h r e =
          ap (λ (t : Bool). t || any_pair (clashes s own open') (drop (i + 1) all_of))
          (e ∙ ap (λ (x : Coded). any (clashes s own open' x) (drop (i + 1) all_of)) (sym (all_at i (coded_at array codes i) h)))
          ∙ sym (pair_here (clashes s own open') all_of i (coded_at array codes i) (omega (arith, all_long)))
          ∙ inv
