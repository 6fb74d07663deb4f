-- What a tag means, by the ways out of `meant_by`, of `declare_keys` and of `meaning`.
use Prim.Native.Nat.{ℕ, ◌≤◌, ◌<◌}
use mathlib.Core.Path.{◌≡◌, refl, sym, ap, ◌∙◌}
use mathlib.Core.List.{List, [], ◌∷◌, ◌++◌}
use mathlib.Core.Bool.{Bool, true, false, cond, not}
use mathlib.Core.Logic.{inl}
use native.Mathlib.Omega.{arith}
use borrow.Author.Tests.{lt-ltb, le-ltb, eqb-true, eqb-false, not-true, not-false}
use lib.Dec.{eqb}
use lib.ListN.{length, drop}
use Rattle.std.specs.Prelude.{Result, Ok, Err}
use Rattle.laws.specs.Lists.{any, any_pair}
use Rattle.laws.specs.Over.{overwrite}
use Rattle.lexer.specs.declared.Name.{Name}
use Rattle.lexer.specs.declared.Attr.{Attr}
use Rattle.reader.specs.Namespaces.{refused_binding}
use Rattle.reader.specs.Stored.{found_element, found_attribute, is_unbound, code_then, codes_of, laid_numbers, laid_bindings, fitting, declared_of, Coded, coded, clashes, twice_in, element_with, meant_of, codes_after}
use Rattle.reader.specs.Known.{keys_in, KeysAt}
use Rattle.reader.specs.declared.Binding.{Binding}
use Rattle.reader.specs.declared.Found.{Found}
use Rattle.reader.specs.declared.Found.TheVariants as found
use Rattle.reader.specs.declared.NamespaceError.{NamespaceError}
use Rattle.reader.specs.declared.NamespaceError.TheVariants.{BadPrefix, Duplicate}
use Rattle.reader.specs.declared.Element.{Element}
use Rattle.reader.proofs.Laying.{laid_none}
use Rattle.reader.proofs.Known.{keys_none, keys_laid, keys_kept}

-- numbers behind those of the attributes do not count
pub coded_more : (l : List Attr) (cs ds : List ℕ) → length l ≤ length cs → coded l (cs ++ ds) ≡ coded l cs
coded_more [] cs ds h = refl
coded_more (a ∷ l) [] ds h = absurd (omega arith)
coded_more (a ∷ l) (c ∷ cs) ds h = ap (λ (r : List Coded). record { attr = a; code = c } ∷ r) (coded_more l cs ds (omega arith))

module _ (s own : List ℕ) (owned : ℕ) (open' : List ℕ) (bound : ℕ) where
  -- at most a number to an attribute
  pub codes_le : (l : List Attr) → length (codes_of s own owned open' bound l) ≤ length l
  unfolding codes_of
  codes_le [] = omega arith
  codes_le (a ∷ l) = cases (found_attribute s own owned open' bound a.name) (codes_le l)
    where
      cases : (f : Found) → length (codes_of s own owned open' bound l) ≤ length l → length (code_then f (codes_of s own owned open' bound l)) ≤ length (a ∷ l)
      cases found.Nothing h = omega arith
      cases found.Xml h = omega arith
      cases (found.Own k) h = omega arith
      cases (found.Open k) h = omega arith
      cases found.Unbound h = omega arith

  module _ (n : Name) (attrs : List Attr) (spaces : List ℕ) (f : Found) (u : Bool) (ef : f ≡ found_element s own owned open' bound n) (eu : u ≡ is_unbound f) where
    abbrev codes : List ℕ
    codes = codes_of s own owned open' bound attrs

    pub no_element : u ≡ true → (Err BadPrefix ≡ meant_of s own owned open' bound n attrs) × (spaces ≡ codes_after s own owned open' bound n attrs spaces)
    unfolding meant_of codes_after
    no_element h = (rw (← ef, ← eu, h), rw (← ef, ← eu, h))

    module _ (q : Bool) (l : List ℕ) (h : u ≡ false) (eq : q ≡ eqb (length codes) (length attrs)) (el : l ≡ laid_numbers codes spaces) where
      after : l ≡ codes_after s own owned open' bound n attrs spaces
      unfolding codes_after
      after = rw (← ef, ← eu, h) el

      pub no_attribute : not q ≡ true → (Err BadPrefix ≡ meant_of s own owned open' bound n attrs) × (l ≡ codes_after s own owned open' bound n attrs spaces)
      unfolding meant_of
      no_attribute z =
          let ne : length codes ≡ length attrs → ⊥ = eqb-false (length codes) (length attrs) (sym eq ∙ not-true q z) in
          let lt : length codes < length attrs = omega (arith, codes_le attrs) in
          (rw (← ef, ← eu, h, lt-ltb (length codes) (length attrs) lt), after)

      pub element : not q ≡ false → (w : Bool) (m : Result Element NamespaceError) → w ≡ twice_in s own open' attrs l → m ≡ cond w (Err Duplicate) (Ok (element_with f owned))
          → (m ≡ meant_of s own owned open' bound n attrs) × (l ≡ codes_after s own owned open' bound n attrs spaces)
      unfolding meant_of twice_in
      element z w m ew em =
          let e : length codes ≡ length attrs = eqb-true (length codes) (length attrs) (sym eq ∙ not-false q z) in
          let t : w ≡ twice_in s own open' attrs codes =
          ew ∙ ap (twice_in s own open' attrs) el ∙ ap (any_pair (clashes s own open')) (coded_more attrs codes (drop (length codes) spaces) (omega arith)) in
          (rw (← ef, ← eu, h, le-ltb (length codes) (length attrs) (omega arith), ← t) em, after)

module _ (s : List ℕ) (ds : List Binding) (r : Result ℕ NamespaceError) (er : r ≡ declared_of s ds) where
  some_refused : (x : NamespaceError) → r ≡ Err x → (any (refused_binding s) ds ≡ true) × (x ≡ BadPrefix)
  some_refused x e = cases (any (refused_binding s) ds) (sym er ∙ e)
    where
      cases : (t : Bool) → cond t (Err BadPrefix) (Ok (length ds)) ≡ Err x → (t ≡ true) × (x ≡ BadPrefix)
      cases true h = let z : x ≡ BadPrefix = cc in (refl, z)
      cases false h = absurd (let z : ◌≡◌ {A = ℕ} 0 1 = cc in omega arith)

  none_refused : (k : ℕ) → r ≡ Ok k → (any (refused_binding s) ds ≡ false) × (k ≡ length ds)
  none_refused k e = cases (any (refused_binding s) ds) (sym er ∙ e)
    where
      cases : (t : Bool) → cond t (Err BadPrefix) (Ok (length ds)) ≡ Ok k → (t ≡ false) × (k ≡ length ds)
      cases true h = absurd (let z : ◌≡◌ {A = ℕ} 0 1 = cc in omega arith)
      cases false h = let z : k ≡ length ds = cc in (refl, z)

  pub owned_few : (k : ℕ) → r ≡ Ok k → length ds ≤ 16 → k ≤ 16
  owned_few k e h = let z : k ≡ length ds = (none_refused k e).1 in omega arith

  module _ (own own' : List ℕ) (eo : own' ≡ laid_bindings (fitting s ds) own) (known : List ℕ) (bound : ℕ) where
    -- the array of the keys behind it
    abbrev pub keys_after : List ℕ
    keys_after = cond (any (refused_binding s) ds) known (overwrite known bound (keys_in s (laid_bindings (fitting s ds) own) (length ds)))

    pub keys_refused : (x : NamespaceError) → r ≡ Err x → known ≡ keys_after
    keys_refused x e = let t : any (refused_binding s) ds ≡ true = (some_refused x e).0 in rw t

    pub keys_declared : (k : ℕ) (known' : List ℕ) → r ≡ Ok k → known' ≡ overwrite known bound (keys_in s own' k) → known' ≡ keys_after
    keys_declared k known' e ek =
        let t : any (refused_binding s) ds ≡ false = (none_refused k e).0 in
        let z : k ≡ length ds = (none_refused k e).1 in
        rw (t, ← eo, ← z) ek

    module _ (known' : List ℕ) (ek : known' ≡ keys_after) where
      -- the keys of the tag's own declarations stand behind those of the open ones, which stay
      pub keys_found : (k : ℕ) (open' : List ℕ) → r ≡ Ok k → length ds ≤ 16 → bound ≤ 64 → length known ≡ 160 → KeysAt s open' bound 0 known
          → (k ≤ 16) × KeysAt s open' bound 0 known' × KeysAt s own' k bound known'
      keys_found k open' e few lb long h =
          let t : any (refused_binding s) ds ≡ false = (none_refused k e).0 in
          let z : k ≡ length ds = (none_refused k e).1 in
          let q : known' ≡ overwrite known bound (keys_in s own' k) = ek ∙ rw (t, ← eo, ← z) in
          (owned_few k e few, keys_kept s open' bound 0 known known' bound (keys_in s own' k) (omega arith) (inl (omega arith)) q h, keys_laid s own' k bound known known' (omega arith) q)

      module _ (open' : List ℕ) (n : Name) (attrs : List Attr) (spaces : List ℕ) where
        abbrev Whole : Result Element NamespaceError → List ℕ → Type 0
        Whole m l =
            (m ≡ cond (any (refused_binding s) ds) (Err BadPrefix) (meant_of s (laid_bindings (fitting s ds) own) (length ds) open' bound n attrs))
            × (own' ≡ laid_bindings (fitting s ds) own)
            × (l ≡ cond (any (refused_binding s) ds) spaces (codes_after s (laid_bindings (fitting s ds) own) (length ds) open' bound n attrs spaces))
            × (known' ≡ keys_after)

        pub undeclared : (x : NamespaceError) → r ≡ Err x → Whole (Err x) spaces
        undeclared x e =
            let t : any (refused_binding s) ds ≡ true = (some_refused x e).0 in
            let z : x ≡ BadPrefix = (some_refused x e).1 in
            (rw (t, z), eo, rw t, ek)

        pub declared : (k : ℕ) (m : Result Element NamespaceError) (l : List ℕ) → r ≡ Ok k → m ≡ meant_of s own' k open' bound n attrs → l ≡ codes_after s own' k open' bound n attrs spaces → Whole m l
        declared k m l e em el =
            let t : any (refused_binding s) ds ≡ false = (none_refused k e).0 in
            let z : k ≡ length ds = (none_refused k e).1 in
            (rw (t, ← eo, ← z) em, eo, rw (t, ← eo, ← z) el, ek)

-- a tag that declares nothing
pub none_declared : (s : List ℕ) (ds : List Binding) (own known : List ℕ) (bound : ℕ) → ds ≡ []
    → (Ok 0 ≡ declared_of s ds)
    × (own ≡ laid_bindings (fitting s ds) own)
    × (known ≡ cond (any (refused_binding s) ds) known (overwrite known bound (keys_in s (laid_bindings (fitting s ds) own) (length ds))))
unfolding any fitting
none_declared s ds own known bound e = rw e (refl, sym (laid_none own), keys_none s (laid_bindings [] own) known bound)
