-- The loop of `resolve`: the numbers that are held and laid, what a turn does, and the ways out.
use Prim.Native.Nat.{ℕ, ◌+◌, ◌-◌, ◌≤◌, ◌<◌}
use mathlib.Core.Path.{◌≡◌, refl, sym, ap, ◌∙◌, subst}
use mathlib.Core.List.{List, [], ◌∷◌, ◌++◌, append-nil}
use mathlib.Core.Bool.{true, false}
use native.Mathlib.Omega.{arith}
use borrow.Author.Tests.{eq-eqb, ne_eqb}
use lib.Dec.{eqb}
use lib.ListN.{length, drop, set, length-append, length-set}
use lib.Seq.{append_snoc}
use Rattle.laws.specs.Lists.{tabulate}
use Rattle.laws.specs.Over.{overwrite}
use Rattle.laws.proofs.Over.{over_none, over_set}
use Rattle.lexer.specs.declared.Attr.{Attr}
use Rattle.lexer.specs.Attrs.{attr_in, attrs_in}
use Rattle.reader.specs.Stored.{at_most, found_attribute, code_of, code_then, codes_of, laid_numbers, is_unbound}
use Rattle.reader.specs.declared.Found.{Found}
use Rattle.reader.proofs.Indexed.{tab_here, tab_out, tab_long}
use Rattle.reader.proofs.Numbers.{then_bound, then_unbound}

-- ---- numbers laid from the first place on
module _ (l : List ℕ) where
  numbers_over : (ns : List ℕ) → laid_numbers ns l ≡ overwrite l 0 ns
  unfolding overwrite
  numbers_over ns = let e : length ns ≡ 0 + length ns = omega arith in ap (λ (k : ℕ). ns ++ drop k l) e

  pub numbers_none : laid_numbers [] l ≡ l
  numbers_none = numbers_over [] ∙ over_none l 0

  pub numbers_more : (ns : List ℕ) (i x : ℕ) → length ns ≡ i → i < length l → set (laid_numbers ns l) i x ≡ laid_numbers (ns ++ (x ∷ [])) l
  numbers_more ns i x e h =
      let z : i ≡ 0 + length ns = omega arith in
      ap (λ (r : List ℕ). set r i x) (numbers_over ns)
      ∙ ap (λ (k : ℕ). set (overwrite l 0 ns) k x) z
      ∙ over_set l 0 ns x (omega arith)
      ∙ sym (numbers_over (ns ++ (x ∷ [])))

-- ---- the loop: the numbers of the first i attributes are laid
pub record Resolving (codes : List Attr → List ℕ) (array : List ℕ) (most : ℕ) (attrs : List Attr) (spaces₀ spaces : List ℕ) (i : ℕ) : Type 0 where
  pub held : List ℕ
  pub counted : length held ≡ i
  pub within : i ≤ most
  pub long : length spaces ≡ length spaces₀
  pub laid : spaces ≡ laid_numbers held spaces₀
  pub left : held ++ codes (tabulate (attr_in array) i (most - i)) ≡ codes attrs
  pub many : length attrs ≡ most

module _ (s own : List ℕ) (owned : ℕ) (open' : List ℕ) (bound : ℕ) (array : List ℕ) (most : ℕ) (attrs : List Attr) (spaces₀ : List ℕ) where
  abbrev codes : List Attr → List ℕ
  codes l = codes_of s own owned open' bound l

  pub begin : (count : ℕ) → attrs ≡ attrs_in array count → most ≡ at_most 16 count → Resolving codes array most attrs spaces₀ spaces₀ 0
  unfolding attrs_in
  begin count ea em =
      let z : most - 0 ≡ at_most 16 count = omega arith in
      record {
        held = [];
        counted = refl;
        within = omega arith;
        long = refl;
        laid = sym (numbers_none spaces₀);
        left = ap (λ (k : ℕ). codes (tabulate (attr_in array) 0 k)) z ∙ ap codes (sym ea);
        many = ap length ea ∙ tab_long (attr_in array) 0 (at_most 16 count) ∙ sym em;
      }

  module _ (spaces : List ℕ) (i : ℕ) (d : Resolving codes array most attrs spaces₀ spaces i) where
    module _ (h : i < most) (a : Attr) (f : Found) (ea : a ≡ attr_in array i) (ef : f ≡ found_attribute s own owned open' bound a.name) where
      -- the rest's numbers, by what this attribute's prefix gave
      here : codes (tabulate (attr_in array) i (most - i)) ≡ code_then f (codes (tabulate (attr_in array) (i + 1) (most - (i + 1))))
      unfolding codes_of
      here =
          ap codes (tab_here (attr_in array) most i h)
          ∙ ap (λ (g : Found). code_then g (codes (tabulate (attr_in array) (i + 1) (most - (i + 1)))))
          (sym (ef ∙ ap (λ (x : Attr). found_attribute s own owned open' bound x.name) ea))

      pub turn : most ≤ length spaces₀ → is_unbound f ≡ false → (x : ℕ) → x ≡ code_of f → Resolving codes array most attrs spaces₀ (set spaces i x) (i + 1)
      turn room b x ex =
          subst (λ (y : ℕ). Resolving codes array most attrs spaces₀ (set spaces i y) (i + 1)) (sym ex)
          (record {
            held = d.held ++ (code_of f ∷ []);
            counted = length-append d.held (code_of f ∷ []) ∙ ap (λ (k : ℕ). k + 1) d.counted;
            within = omega arith;
            long = length-set spaces i (code_of f) ∙ d.long;
            laid = ap (λ (l : List ℕ). set l i (code_of f)) d.laid ∙ numbers_more spaces₀ d.held i (code_of f) d.counted (omega arith);
            left =
                append_snoc d.held (code_of f) (codes (tabulate (attr_in array) (i + 1) (most - (i + 1))))
                ∙ ap (λ (l : List ℕ). d.held ++ l) (sym (here ∙ then_bound f (codes (tabulate (attr_in array) (i + 1) (most - (i + 1)))) b))
                ∙ d.left;
            many = d.many;
          })

      pub unbound : is_unbound f ≡ true → (false ≡ eqb (length (codes attrs)) (length attrs)) × (spaces ≡ laid_numbers (codes attrs) spaces₀)
      unbound b =
          let e : d.held ≡ codes attrs =
          sym (append-nil d.held) ∙ ap (λ (l : List ℕ). d.held ++ l) (sym (here ∙ then_unbound f (codes (tabulate (attr_in array) (i + 1) (most - (i + 1)))) b)) ∙ d.left in
          (sym (ne_eqb (length (codes attrs)) (length attrs) (λ q. omega (arith, ap length e, d.counted, d.many))), d.laid ∙ ap (λ (l : List ℕ). laid_numbers l spaces₀) e)

    pub ended : most ≤ i → (true ≡ eqb (length (codes attrs)) (length attrs)) × (spaces ≡ laid_numbers (codes attrs) spaces₀)
    unfolding codes_of
    ended h =
        let e : d.held ≡ codes attrs =
        sym (append-nil d.held) ∙ ap (λ (l : List Attr). d.held ++ codes l) (sym (tab_out (attr_in array) most i h)) ∙ d.left in
        (sym (eq-eqb (length (codes attrs)) (length attrs) (omega (arith, ap length e, d.counted, d.many, d.within))), d.laid ∙ ap (λ (l : List ℕ). laid_numbers l spaces₀) e)
