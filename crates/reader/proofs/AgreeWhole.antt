-- What the code says of a whole tag is what `meaning_of` says.
--     resolved_agrees      the attributes, with their namespaces
--     twice_agrees         number 6
--     meaning_agrees       the tag
use Prim.Native.Nat.{ℕ, suc, ◌≤◌, ◌<◌}
use mathlib.Core.Path.{◌≡◌, refl, sym, ap, ◌∙◌}
use mathlib.Core.List.{List, [], ◌∷◌, ◌++◌}
use mathlib.Core.Bool.{Bool, true, false, cond, not, ◌&&◌, ◌||◌}
use mathlib.Core.Option.{Option, none, some}
use mathlib.Core.Logic.{◌⊎◌, inl, inr}
use native.Mathlib.Omega.{arith}
use borrow.Author.Tests.{lt-ltb, le-ltb, ltb-false}
use lib.Dec.{ltb}
use lib.ListN.{length, drop}
use Rattle.std.specs.Prelude.{Result, Ok, Err}
use Rattle.laws.specs.Lists.{any, any_pair}
use Rattle.laws.specs.Gather.{gather}
use Rattle.laws.specs.Reading.{le_or_lt}
use Rattle.lexer.specs.declared.Name.{Name}
use Rattle.lexer.specs.declared.Attr.{Attr}
use Rattle.reader.specs.Spans.{kind_of}
use Rattle.reader.specs.Namespaces.{declarations_of, refused_binding, of_element, ReadAttribute, attribute, before, resolved_by, resolved, same_name, same_expanded, Meaning, refused, meant, meant_by, meaning_of}
use Rattle.reader.specs.Stored.{bindings_in, laid_bindings, fitting, found_element, found_by, found_attribute, code_of, found_in, stored_space, code_then, codes_of, is_declaration, Coded, coded, clashes, twice_in, is_unbound, element_with, meant_of, codes_after}
use Rattle.reader.specs.declared.Binding.{Binding}
use Rattle.reader.specs.declared.Kind.{Kind}
use Rattle.reader.specs.declared.Kind.TheVariants.{Plain, Prefixed, Default, Declares}
use Rattle.reader.specs.declared.Found.{Found}
use Rattle.reader.specs.declared.Element.{Element}
use Rattle.reader.specs.declared.NamespaceError.{NamespaceError}
use Rattle.reader.specs.declared.NamespaceError.TheVariants.{BadPrefix, Duplicate}
use Rattle.reader.proofs.Laying.{fitting_whole}
use Rattle.reader.proofs.Declaring.{declared_few}
use Rattle.reader.proofs.Numbers.{InRange, attribute_in_range, found_back, then_bound, then_unbound}
use Rattle.reader.proofs.Whole.{coded_more}
use Rattle.laws.specs.Members.{All}
use Rattle.reader.proofs.LaidBack.{Small, laid_back}
use Rattle.reader.proofs.Pairs.{kept_of, pair_or, pair_kept}
use Rattle.reader.proofs.Agree.{Named, namespace_in, of_kind, element_agrees, attribute_agrees}

-- the attributes of a tag that are no declarations, each with the namespace that its number stands for
abbrev pub attributes_in : List ℕ → List ℕ → List ℕ → List Coded → List ReadAttribute
attributes_in s own open' l =
    gather (kept_of (λ (c : Coded). is_declaration (kind_of s c.attr.name)) (λ (c : Coded). attribute c.attr (stored_space own open' (found_in c.code)))) l

-- ---- number 6
any_coded : (q : Attr → Bool) (l : List Attr) (cs : List ℕ) → any (λ (c : Coded). q c.attr) (coded l cs) ≡ any q l
unfolding any
any_coded q [] cs = refl
any_coded q (a ∷ l) [] = ap (λ (t : Bool). q a || t) (any_coded q l [])
any_coded q (a ∷ l) (c ∷ cs) = ap (λ (t : Bool). q a || t) (any_coded q l cs)

pair_coded : (q : Attr → Attr → Bool) (l : List Attr) (cs : List ℕ) → any_pair (λ (c d : Coded). q c.attr d.attr) (coded l cs) ≡ any_pair q l
unfolding any_pair
pair_coded q [] cs = refl
pair_coded q (a ∷ l) [] =
    ap (λ (t : Bool). t || any_pair (λ (c d : Coded). q c.attr d.attr) (coded l [])) (any_coded (q a) l [])
    ∙ ap (λ (t : Bool). any (q a) l || t) (pair_coded q l [])
pair_coded q (a ∷ l) (x ∷ cs) =
    ap (λ (t : Bool). t || any_pair (λ (c d : Coded). q c.attr d.attr) (coded l cs)) (any_coded (q a) l cs)
    ∙ ap (λ (t : Bool). any (q a) l || t) (pair_coded q l cs)

pub twice_agrees : (s own open' : List ℕ) (l : List Attr) (cs : List ℕ)
    → twice_in s own open' l cs ≡ (any_pair (same_name s) l || any_pair (same_expanded s) (attributes_in s own open' (coded l cs)))
unfolding twice_in clashes
twice_agrees s own open' l cs =
    pair_or (λ (c d : Coded). same_name s c.attr d.attr) expanded (coded l cs)
    ∙ ap (λ (t : Bool). t || any_pair expanded (coded l cs)) (pair_coded (same_name s) l cs)
    ∙ ap (λ (t : Bool). any_pair (same_name s) l || t) (sym (pair_kept declares made (same_expanded s) (coded l cs)))
  where
    declares : Coded → Bool
    declares c = is_declaration (kind_of s c.attr.name)

    made : Coded → ReadAttribute
    made c = attribute c.attr (stored_space own open' (found_in c.code))

    expanded : Coded → Coded → Bool
    expanded c d = not (declares c) && (not (declares d) && same_expanded s (made c) (made d))

-- ---- the attributes
ltb_suc : (a b : ℕ) → ltb (suc a) (suc b) ≡ ltb a b
ltb_suc a b = cases (le_or_lt b a)
  where
    cases : (b ≤ a) ⊎ (a < b) → ltb (suc a) (suc b) ≡ ltb a b
    cases (inl h) = le-ltb (suc a) (suc b) (omega arith) ∙ sym (le-ltb a b h)
    cases (inr h) = lt-ltb (suc a) (suc b) (omega arith) ∙ sym (lt-ltb a b h)

-- a declaration stands in no namespace
declares_nothing : (s own : List ℕ) (owned : ℕ) (open' : List ℕ) (bound : ℕ) (n : Name) → is_declaration (kind_of s n) ≡ true → is_unbound (found_attribute s own owned open' bound n) ≡ false
unfolding found_attribute
declares_nothing s own owned open' bound n = cases (kind_of s n)
  where
    cases : (k : Kind) → is_declaration k ≡ true → is_unbound (found_by s own owned open' bound k n) ≡ false
    cases Plain e = refl
    cases Prefixed e = absurd (let z : ◌≡◌ {A = ℕ} 0 1 = cc in omega arith)
    cases Default e = refl
    cases Declares e = refl

by_kind : (s : List ℕ) (bs : List Binding) (k : Kind) (a : Attr) (rest : Option (List ReadAttribute))
    → resolved_by s bs k a rest ≡ cond (is_declaration k) rest (before a (of_kind s bs k a.name) rest)
by_kind s bs Plain a rest = refl
by_kind s bs Prefixed a rest = refl
by_kind s bs Default a rest = refl
by_kind s bs Declares a rest = refl

module _ (s own open' : List ℕ) (ds : List Binding) (bound : ℕ) (read : bindings_in own (length ds) ≡ ds) (few : length ds ≤ 16) (room : bound ≤ 64) where
  abbrev all_of : List Binding
  all_of = bindings_in open' bound ++ ds

  abbrev codes : List Attr → List ℕ
  codes l = codes_of s own (length ds) open' bound l

  abbrev seen : List Attr → Option (List ReadAttribute)
  seen l = cond (ltb (length (codes l)) (length l)) none (some (attributes_in s own open' (coded l (codes l))))

  -- an attribute's turn: d, whether it is a declaration; t, whether one behind it is unbound
  turn : (a : Attr) (f : Found) (d t : Bool) (as' : List ReadAttribute) → is_unbound f ≡ false → found_in (code_of f) ≡ f
      → cond d (cond t none (some as')) (before a (namespace_in own open' f) (cond t none (some as')))
      ≡ cond t none (some (cond d [] (attribute a (stored_space own open' (found_in (code_of f))) ∷ []) ++ as'))
  turn a f true true as' b e = refl
  turn a f true false as' b e = refl
  turn a f false true as' b e = rw b
  turn a f false false as' b e = rw (b, e)

  -- the same, by what was found for it
  turn_of : (a : Attr) (l : List Attr) (f : Found) → InRange f → (is_declaration (kind_of s a.name) ≡ true → is_unbound f ≡ false)
      → cond (is_declaration (kind_of s a.name)) (seen l) (before a (namespace_in own open' f) (seen l))
      ≡ cond (ltb (length (code_then f (codes l))) (suc (length l))) none (some (attributes_in s own open' (coded (a ∷ l) (code_then f (codes l)))))
  unfolding gather
  turn_of a l f r h = cases (is_unbound f) refl
    where
      cases : (u : Bool) → u ≡ is_unbound f
          → cond (is_declaration (kind_of s a.name)) (seen l) (before a (namespace_in own open' f) (seen l))
          ≡ cond (ltb (length (code_then f (codes l))) (suc (length l))) none (some (attributes_in s own open' (coded (a ∷ l) (code_then f (codes l)))))
      cases false e =
          turn a f (is_declaration (kind_of s a.name)) (ltb (length (codes l)) (length l)) (attributes_in s own open' (coded l (codes l))) (sym e) (found_back f r (sym e))
          ∙ rw (then_bound f (codes l) (sym e), ltb_suc (length (codes l)) (length l))
      cases true e =
          rw (then_unbound f (codes l) (sym e), ← e, lt-ltb 0 (suc (length l)) (omega arith))
          (none_of (is_declaration (kind_of s a.name)) h)
        where
          none_of : (d : Bool) → (d ≡ true → is_unbound f ≡ false) → cond d (seen l) none ≡ none
          none_of true q = absurd (let z : true ≡ false = e ∙ q refl in let y : ◌≡◌ {A = ℕ} 0 1 = cc in omega arith)
          none_of false q = refl

  pub resolved_agrees : (l : List Attr) → All (λ (a : Attr). Named s a.name) l → resolved s all_of l ≡ seen l
  unfolding resolved codes_of gather
  resolved_agrees [] h = refl
  resolved_agrees (a ∷ l) h =
      by_kind s all_of (kind_of s a.name) a (resolved s all_of l)
      ∙ ap (λ (o : Option (List ReadAttribute)). cond (is_declaration (kind_of s a.name)) o (before a (of_kind s all_of (kind_of s a.name) a.name) o)) (resolved_agrees l h.1)
      ∙ ap (λ (o : Option _). cond (is_declaration (kind_of s a.name)) (seen l) (before a o (seen l))) (attribute_agrees s own open' ds bound read few room a.name h.0)
      ∙ turn_of a l (found_attribute s own (length ds) open' bound a.name) (attribute_in_range s own (length ds) open' bound a.name) (declares_nothing s own (length ds) open' bound a.name)

-- ---- the tag
-- what the code's answer says, with the arrays that it leaves
abbrev pub as_meaning : List ℕ → List ℕ → List ReadAttribute → List Binding → Result Element NamespaceError → Meaning
as_meaning own open' as' ds (Ok e) = meant (stored_space own open' e.found) as' ds
as_meaning own open' as' ds (Err BadPrefix) = refused 5
as_meaning own open' as' ds (Err Duplicate) = refused 6

-- by the code's three tests: u, the element's prefix is unbound; t, an attribute's is; w, two attributes clash
by_tests : (s : List ℕ) (attrs : List Attr) (own open' : List ℕ) (ds : List Binding) (owned : ℕ) (f : Found) (seen as' : List ReadAttribute) (u t w : Bool)
    → w ≡ (any_pair (same_name s) attrs || any_pair (same_expanded s) seen) → (u ≡ false → t ≡ false → seen ≡ as')
    → meant_by s attrs ds (cond u none (some (stored_space own open' f))) (cond t none (some seen))
    ≡ as_meaning own open' as' ds (cond u (Err BadPrefix) (cond t (Err BadPrefix) (cond w (Err Duplicate) (Ok (element_with f owned)))))
by_tests s attrs own open' ds owned f seen as' true t w e h = refl
by_tests s attrs own open' ds owned f seen as' false true w e h = refl
by_tests s attrs own open' ds owned f seen as' false false true e h = rw (← e)
by_tests s attrs own open' ds owned f seen as' false false false e h = rw (← e) (ap (λ (l : List ReadAttribute). meant (stored_space own open' f) l ds) (h refl refl))

module _ (s own open' spaces : List ℕ) (bound : ℕ) (n : Name) (attrs : List Attr)
    (few : length attrs ≤ 16) (room : bound ≤ 64) (small : All Small (declarations_of s attrs)) (name : Named s n) (names : All (λ (a : Attr). Named s a.name) attrs) where
  abbrev ds : List Binding
  ds = declarations_of s attrs

  abbrev own' : List ℕ
  own' = laid_bindings (fitting s ds) own

  -- what `meaning` gives, and what it leaves in the array of numbers
  abbrev answer : Result Element NamespaceError
  answer = cond (any (refused_binding s) ds) (Err BadPrefix) (meant_of s own' (length ds) open' bound n attrs)

  abbrev spaces' : List ℕ
  spaces' = cond (any (refused_binding s) ds) spaces (codes_after s own' (length ds) open' bound n attrs spaces)

  -- where no declaration is refused
  fine : any (refused_binding s) ds ≡ false
      → meant_by s attrs ds (of_element s (bindings_in open' bound ++ ds) n) (resolved s (bindings_in open' bound ++ ds) attrs)
      ≡ as_meaning own' open' (attributes_in s own' open' (coded attrs (codes_after s own' (length ds) open' bound n attrs spaces))) ds (meant_of s own' (length ds) open' bound n attrs)
  unfolding meant_of codes_after
  fine q =
      let read : bindings_in own' (length ds) ≡ ds =
      ap (λ (l : List Binding). bindings_in (laid_bindings l own) (length ds)) (fitting_whole s ds q) ∙ laid_back ds own small in
      let some' : length ds ≤ 16 = omega (arith, declared_few s attrs) in
      let f : Found = found_element s own' (length ds) open' bound n in
      let codes : List ℕ = codes_of s own' (length ds) open' bound attrs in
      rw (element_agrees s own' open' ds bound read some' room n name, resolved_agrees s own' open' ds bound read some' room attrs names)
      (by_tests s attrs own' open' ds (length ds) f (attributes_in s own' open' (coded attrs codes)) _ (is_unbound f) (ltb (length codes) (length attrs)) (twice_in s own' open' attrs codes)
      (twice_agrees s own' open' attrs codes)
      (λ e g. ap (attributes_in s own' open') (rw e (sym (coded_more attrs codes (drop (length codes) spaces) (ltb-false (length codes) (length attrs) g))))))

  pub meaning_agrees : meaning_of s (bindings_in open' bound) n attrs ≡ as_meaning own' open' (attributes_in s own' open' (coded attrs spaces')) ds answer
  unfolding meaning_of
  meaning_agrees = cases (any (refused_binding s) ds) refl
    where
      cases : (t : Bool) → t ≡ any (refused_binding s) ds
          → cond t (refused 5) (meant_by s attrs ds (of_element s (bindings_in open' bound ++ ds) n) (resolved s (bindings_in open' bound ++ ds) attrs))
          ≡ as_meaning own' open' (attributes_in s own' open' (coded attrs (cond t spaces (codes_after s own' (length ds) open' bound n attrs spaces)))) ds (cond t (Err BadPrefix) (meant_of s own' (length ds) open' bound n attrs))
      cases true e = refl
      cases false e = fine (sym e)
