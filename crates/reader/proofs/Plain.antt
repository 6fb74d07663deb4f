-- Plain attributes.
--     plain_test                              by the tests that the code makes
--     plain_kind, plain_declares_nothing      they are in no namespace and declare nothing
--     all_ranged                              by the range that `all_plain` goes through
--     plain_codes, plain_zeros, plain_many    their numbers: all 0
--     clear_turn, plain_cleared               and as `clear_codes` lays them
use Prim.Native.Nat.{ℕ, zero, suc, ◌+◌, ◌-◌, ◌≤◌, ◌<◌, min}
use mathlib.Core.Path.{◌≡◌, refl, sym, ap, ◌∙◌}
use mathlib.Core.List.{List, [], ◌∷◌}
use mathlib.Core.Bool.{Bool, true, false, not, ◌&&◌, and_assoc}
use mathlib.Core.Logic.{⊎_elim}
use native.Mathlib.Omega.{arith}
use native.Mathlib.Numerals.{add-one}
use borrow.Author.Tests.{leb-true, eqb-false, eq-eqb, le-ltb, lt-ltb, le-leb, lt-leb, not-true}
use lib.Dec.{eqb, leb, ltb}
use lib.ListN.{length, drop, set, replicate, length-drop, length-replicate, replicate-append-replicate}
use lib.Seq.{length-take-le}
use Rattle.std.specs.List.{list_all, range_with_len}
use Rattle.laws.specs.Lists.{same_list, all, tabulate}
use Rattle.laws.specs.Members.{All}
use Rattle.laws.specs.Gather.{gather}
use Rattle.laws.specs.Reading.{le_or_lt}
use Rattle.laws.proofs.Flags.{and_left, and_right}
use Rattle.compare.proofs.Equal.{unequal}
use Rattle.lexer.specs.declared.Attr.{Attr}
use Rattle.lexer.specs.Attrs.{attr_in, attrs_in}
use Rattle.reader.specs.Spans.{bytes_of, has_prefix, xmlns_prefix, kind_of}
use Rattle.reader.specs.Namespaces.{declarations_of}
use Rattle.reader.specs.Stored.{at_most, found_attribute, codes_of, laid_numbers}
use Rattle.reader.specs.Known.{plain_attr}
use Rattle.reader.specs.declared.Kind.TheVariants.{Plain}
use Rattle.reader.proofs.Indexed.{tab_long, min_at_most}
use Rattle.reader.proofs.Resolving.{numbers_more}

not_less : (a b : ℕ) → leb b a ≡ not (ltb a b)
not_less a b = ⊎_elim (λ h. rw (le-leb b a h, le-ltb a b h)) (λ h. rw (lt-leb b a h, lt-ltb a b h)) (le_or_lt b a)

pub plain_test : (s : List ℕ) (a : Attr) (n : ℕ) → n ≡ a.name.end - a.name.at
    → ((leb a.name.part a.name.at && not (eqb n 5)) && leb a.name.end (length s)) ≡ plain_attr s a
unfolding plain_attr
plain_test s a n e =
    and_assoc (leb a.name.part a.name.at) (not (eqb n 5)) (leb a.name.end (length s))
    ∙ ap (λ (t : Bool). t && (not (eqb n 5) && leb a.name.end (length s))) (not_less a.name.at a.name.part)
    ∙ ap (λ (k : ℕ). not (has_prefix a.name) && (not (eqb k 5) && leb a.name.end (length s))) e

range_all : (s array : List ℕ) (a n : ℕ) → list_all (λ (i : ℕ). plain_attr s (attr_in array i)) (range_with_len a n) ≡ all (plain_attr s) (tabulate (attr_in array) a n)
unfolding all tabulate
range_all s array a zero = refl
range_all s array a (suc n) = rw (add-one a) (ap (λ (t : Bool). plain_attr s (attr_in array a) && t) (range_all s array (suc a) n))

pub all_ranged : (s array : List ℕ) (count most : ℕ) → most ≡ min count 16 → list_all (λ (i : ℕ). plain_attr s (attr_in array i)) (range_with_len 0 (most - 0)) ≡ all (plain_attr s) (attrs_in array count)
unfolding attrs_in
all_ranged s array count most e =
    let d : most - 0 ≡ most = omega arith in
    let z : most - 0 ≡ at_most 16 count = d ∙ e ∙ min_at_most 16 count in
    ap (λ (n : ℕ). list_all (λ (i : ℕ). plain_attr s (attr_in array i)) (range_with_len 0 n)) z ∙ range_all s array 0 (at_most 16 count)

-- five bytes are not as many as these
other_length : (s : List ℕ) (at end : ℕ) → (end - at ≡ 5 → ⊥) → end ≤ length s → same_list (bytes_of s (record { at = at; len = end - at })) xmlns_prefix ≡ false
other_length s at end ne l =
    let d : end - at ≤ length (drop at s) = omega (arith, length-drop at s) in
    let n : length (bytes_of s (record { at = at; len = end - at })) ≡ end - at = length-take-le (end - at) (drop at s) d in
    sym (unequal (bytes_of s (record { at = at; len = end - at })) xmlns_prefix (λ e. ne (sym n ∙ e)))

module _ (s : List ℕ) where
  pub plain_kind : (a : Attr) → plain_attr s a ≡ true → kind_of s a.name ≡ Plain
  unfolding plain_attr kind_of
  plain_kind a h =
      let p : Bool = not (has_prefix a.name) in
      let q : Bool = not (eqb (a.name.end - a.name.at) 5) in
      let r : Bool = leb a.name.end (length s) in
      let np : has_prefix a.name ≡ false = not-true (has_prefix a.name) (and_left p (q && r) h) in
      let nq : eqb (a.name.end - a.name.at) 5 ≡ false = not-true (eqb (a.name.end - a.name.at) 5) (and_left q r (and_right p (q && r) h)) in
      let le : a.name.end ≤ length s = leb-true a.name.end (length s) (and_right q r (and_right p (q && r) h)) in
      rw (np, other_length s a.name.at a.name.end (eqb-false (a.name.end - a.name.at) 5 nq) le)

  pub plain_declares_nothing : (attrs : List Attr) → all (plain_attr s) attrs ≡ true → declarations_of s attrs ≡ []
  unfolding all gather
  plain_declares_nothing [] h = refl
  plain_declares_nothing (a ∷ l) h =
      rw (plain_kind a (and_left (plain_attr s a) (all (plain_attr s) l) h)) (plain_declares_nothing l (and_right (plain_attr s a) (all (plain_attr s) l) h))

  module _ (own : List ℕ) (owned : ℕ) (open' : List ℕ) (bound : ℕ) where
    pub plain_codes : (attrs : List Attr) → all (plain_attr s) attrs ≡ true → codes_of s own owned open' bound attrs ≡ replicate (length attrs) 0
    unfolding all codes_of found_attribute
    plain_codes [] h = refl
    plain_codes (a ∷ l) h =
        rw (plain_kind a (and_left (plain_attr s a) (all (plain_attr s) l) h)) (ap (λ (r : List ℕ). 0 ∷ r) (plain_codes l (and_right (plain_attr s a) (all (plain_attr s) l) h)))

    pub plain_zeros : (attrs : List Attr) → all (plain_attr s) attrs ≡ true → All (λ (c : ℕ). c ≡ 0) (codes_of s own owned open' bound attrs)
    plain_zeros attrs h = rw (plain_codes attrs h) (zeros (length attrs))
      where
        zeros : (n : ℕ) → All (λ (c : ℕ). c ≡ 0) (replicate n 0)
        zeros zero = tt
        zeros (suc n) = (refl, zeros n)

    pub plain_many : (attrs : List Attr) → all (plain_attr s) attrs ≡ true → length (codes_of s own owned open' bound attrs) ≡ length attrs
    plain_many attrs h = ap length (plain_codes attrs h) ∙ length-replicate (length attrs) 0

pub clear_turn : (spaces₀ spaces : List ℕ) (i : ℕ) → spaces ≡ laid_numbers (replicate i 0) spaces₀ → i < length spaces₀ → set spaces i 0 ≡ laid_numbers (replicate (i + 1) 0) spaces₀
clear_turn spaces₀ spaces i e h =
    ap (λ (l : List ℕ). set l i 0) e
    ∙ numbers_more spaces₀ (replicate i 0) i 0 (length-replicate i 0) h
    ∙ ap (λ (l : List ℕ). laid_numbers l spaces₀) (replicate-append-replicate i 1 0)

pub plain_cleared : (s own : List ℕ) (owned : ℕ) (open' : List ℕ) (bound : ℕ) (array : List ℕ) (count : ℕ) (spaces₀ spaces : List ℕ)
    → all (plain_attr s) (attrs_in array count) ≡ true → spaces ≡ laid_numbers (replicate (at_most 16 count) 0) spaces₀
    → (true ≡ eqb (length (codes_of s own owned open' bound (attrs_in array count))) (length (attrs_in array count)))
    × (spaces ≡ laid_numbers (codes_of s own owned open' bound (attrs_in array count)) spaces₀)
unfolding attrs_in
plain_cleared s own owned open' bound array count spaces₀ spaces h e =
    let attrs : List Attr = attrs_in array count in
    let n : at_most 16 count ≡ length attrs = sym (tab_long (attr_in array) 0 (at_most 16 count)) in (
      sym (eq-eqb (length (codes_of s own owned open' bound attrs)) (length attrs) (plain_many s own owned open' bound attrs h)),
      e ∙ ap (λ (k : ℕ). laid_numbers (replicate k 0) spaces₀) n ∙ ap (λ (l : List ℕ). laid_numbers l spaces₀) (sym (plain_codes s own owned open' bound attrs h)),
    )
