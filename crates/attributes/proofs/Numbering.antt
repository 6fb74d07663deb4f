-- The sections of a tag's attributes, numbered.
--     nothing_plain, stays-*          which attributes stay with the element
--     out_of, in_of, turn-*           the number of an attribute's section among those before it
--     place-*, after_place            the place of a namespace among the sections, now and at the end
--     numbers_final                   the numbers are places among all the sections
--     among_next                      the number among those before is the place among the sections so far
--     Numbering, begin, number_few, turn, ended   the loop of `number_sections`
use Prim.Native.Nat.{ℕ, zero, suc, ◌+◌, ◌-◌, ◌≤◌, ◌<◌}
use mathlib.Core.Path.{◌≡◌, refl, sym, ap, ◌∙◌}
use mathlib.Core.List.{List, [], ◌∷◌, ◌++◌, map, append_assoc}
use mathlib.Core.Bool.{Bool, true, false, cond, not, ◌||◌}
use mathlib.Core.Logic.{◌⊎◌, inl, inr}
use native.Mathlib.Omega.{arith}
use native.Mathlib.Nat.{add-zero}
use native.Mathlib.Numerals.{add-one}
use borrow.Author.Tests.{ne_eqb}
use lib.ListN.{length, get_or, set, drop, length-append}
use lib.Seq.{get_or-append-add}
use Rattle.laws.specs.Lists.{same_list, any, tabulate}
use Rattle.laws.specs.Over.{overwrite}
use Rattle.laws.proofs.Over.{over_none, over_set}
use Rattle.laws.proofs.Flags.{or_left, or_right}
use Rattle.laws.proofs.Lists.{tabulate_here, tabulate_done, length_tabulate, any_same, any_append}
use Rattle.compare.proofs.Equal.{same_refl, same_eq}
use Rattle.reader.specs.declared.Found.{Found}
use Rattle.reader.specs.declared.Found.TheVariants as variant
use Rattle.reader.specs.Namespaces.{Namespace, uri_of, same_namespace}
use Rattle.reader.specs.Stored as stored
use Rattle.reader.specs.Stored.{found_in}
use Rattle.reader.proofs.Indexed.{tab_last}
use Rattle.model.specs.Elements.{is_prefixed}
use Rattle.attributes.specs.Attributes.{Given, given_in, namespace_of, place_among, sections_with, stays_with, is_nothing, Numbered, in_section, number_among, numbers_from, sections_after, code_namespaces}

-- ---- which attributes stay
pub nothing_plain : (own open' : List ℕ) (f : Found) → is_nothing f ≡ not (is_prefixed (stored.stored_space own open' f))
nothing_plain own open' variant.Nothing = refl
nothing_plain own open' variant.Xml = refl
nothing_plain own open' (variant.Own k) = refl
nothing_plain own open' (variant.Open k) = refl
nothing_plain own open' variant.Unbound = refl

module _ (s own open' : List ℕ) (e : Namespace) (code : ℕ) (f : Found) (ef : f ≡ found_in code) (b : Bool) (eb : b ≡ is_nothing f) where
  prefixed : not (is_prefixed (namespace_of own open' code)) ≡ b
  prefixed = ap (λ (g : Found). not (is_prefixed (stored.stored_space own open' g))) (sym ef) ∙ sym (nothing_plain own open' f) ∙ sym eb

  pub stays_nothing : b ≡ true → {A : Type 0} (z x : A) → z ≡ cond (stays_with s e (namespace_of own open' code)) z x
  stays_nothing h z x = rw (prefixed, h)

  module _ (h : b ≡ false) (r : Bool) (er : r ≡ same_namespace s e (stored.stored_space own open' f)) where
    says : stays_with s e (namespace_of own open' code) ≡ r
    says = rw (prefixed, h) (ap (λ (g : Found). same_namespace s e (stored.stored_space own open' g)) (sym ef) ∙ sym er)

    pub stays_same : r ≡ true → {A : Type 0} (z x : A) → z ≡ cond (stays_with s e (namespace_of own open' code)) z x
    stays_same q z x = rw (says, q)

    pub stays_not : r ≡ false → stays_with s e (namespace_of own open' code) ≡ false
    stays_not q = says ∙ q

pub numbered_apart : {A : Type 0} (t : Bool) (r x y : A) → t ≡ false → r ≡ y → r ≡ cond t x y
numbered_apart t r x y h q = rw h q

-- ---- an attribute before it
abbrev pub numbered : Namespace → ℕ → Numbered
numbered n c = record { namespace = n; number = c }

pub out_of : (s : List ℕ) (n m : Namespace) (c : ℕ) → c ≡ 0 → false ≡ in_section s n (numbered m c)
out_of s n m c h = rw h

pub in_of : (s own open' : List ℕ) (f g : Found) (code c : ℕ) → g ≡ found_in code → (c ≡ 0 → ⊥) → (r : Bool)
    → r ≡ same_namespace s (stored.stored_space own open' g) (stored.stored_space own open' f)
    → r ≡ in_section s (stored.stored_space own open' f) (numbered (namespace_of own open' code) c)
in_of s own open' f g code c eg h r er = rw (ne_eqb c 0 h) (er ∙ ap (λ (x : Found). same_namespace s (stored.stored_space own open' x) (stored.stored_space own open' f)) eg)

-- ---- the loop of `section_of`
module _ (s : List ℕ) (n : Namespace) (next : ℕ) (F : ℕ → Numbered) (i k v : ℕ) (inv : number_among s n next (tabulate F k (i - k)) ≡ v) where
  pub turn_done : i ≤ k → next ≡ v
  unfolding number_among
  turn_done h = ap (number_among s n next) (sym (tabulate_done F k i h)) ∙ inv

  module _ (h : k < i) (n' : Namespace) (en : n' ≡ n) (r : Bool) (er : r ≡ in_section s n' (F k)) where
    step : cond r (F k).number (number_among s n next (tabulate F (k + 1) (i - (k + 1)))) ≡ v
    unfolding number_among
    step =
        ap (λ (b : Bool). cond b (F k).number (number_among s n next (tabulate F (k + 1) (i - (k + 1))))) (er ∙ ap (λ (x : Namespace). in_section s x (F k)) en)
        ∙ ap (number_among s n next) (sym (tabulate_here F k i h)) ∙ inv

    pub turn_found : r ≡ true → (F k).number ≡ v
    turn_found q = ap (λ (b : Bool). cond b (F k).number (number_among s n next (tabulate F (k + 1) (i - (k + 1))))) (sym q) ∙ step

    pub turn_on : r ≡ false → number_among s n next (tabulate F (k + 1) (i - (k + 1))) ≡ v
    turn_on q = ap (λ (b : Bool). cond b (F k).number (number_among s n next (tabulate F (k + 1) (i - (k + 1))))) (sym q) ∙ step

-- ---- the place of a namespace among others
module _ (s : List ℕ) where
  abbrev pub has : Namespace → Namespace → Bool
  has n m = same_namespace s m n

  same_self : (n : Namespace) → has n n ≡ true
  unfolding same_namespace
  same_self n = same_refl (uri_of s n)

  has_same : (x n m : Namespace) → same_namespace s x n ≡ true → has x m ≡ has n m
  unfolding same_namespace
  has_same x n m h = ap (same_list (uri_of s m)) (same_eq (uri_of s x) (uri_of s n) h)

  pub place_past : (n : Namespace) (k : ℕ) (ms rest : List Namespace) → any (has n) ms ≡ false → place_among s n k (ms ++ rest) ≡ place_among s n (k + length ms) rest
  unfolding any place_among
  place_past n k [] rest h = ap (λ (j : ℕ). place_among s n j rest) (sym (add-zero k))
  place_past n k (m ∷ ms) rest h =
      let q : suc k + length ms ≡ k + suc (length ms) = omega arith in
      rw (or_left (has n m) (any (has n) ms) h)
      (place_past n (suc k) ms rest (or_right (has n m) (any (has n) ms) h) ∙ ap (λ (j : ℕ). place_among s n j rest) q)

  pub place_absent : (n : Namespace) (k : ℕ) (ms : List Namespace) → any (has n) ms ≡ false → place_among s n k ms ≡ k + length ms
  unfolding any place_among
  place_absent n k [] h = sym (add-zero k)
  place_absent n k (m ∷ ms) h =
      rw (or_left (has n m) (any (has n) ms) h) (place_absent n (suc k) ms (or_right (has n m) (any (has n) ms) h) ∙ omega arith)

  pub place_in : (n : Namespace) (k : ℕ) (ms : List Namespace) → any (has n) ms ≡ true → place_among s n k ms < k + length ms
  unfolding any place_among
  place_in n k [] h = absurd (let z : ◌≡◌ {A = ℕ} 0 1 = cc in omega arith)
  place_in n k (m ∷ ms) h = by (has n m) h (place_in n (suc k) ms)
    where
      by : (b : Bool) → (b || any (has n) ms) ≡ true → (any (has n) ms ≡ true → place_among s n (suc k) ms < suc k + length ms)
          → cond b k (place_among s n (suc k) ms) < k + suc (length ms)
      by true q ih = omega arith
      by false q ih = omega (arith, ih q)

  pub place_append : (n : Namespace) (k : ℕ) (ms rest : List Namespace) → any (has n) ms ≡ true → place_among s n k (ms ++ rest) ≡ place_among s n k ms
  unfolding any place_among
  place_append n k [] rest h = absurd (let z : ◌≡◌ {A = ℕ} 0 1 = cc in omega arith)
  place_append n k (m ∷ ms) rest h = by (has n m) h (place_append n (suc k) ms rest)
    where
      by : (b : Bool) → (b || any (has n) ms) ≡ true → (any (has n) ms ≡ true → place_among s n (suc k) (ms ++ rest) ≡ place_among s n (suc k) ms)
          → cond b k (place_among s n (suc k) (ms ++ rest)) ≡ cond b k (place_among s n (suc k) ms)
      by true q ih = refl
      by false q ih = ih q

  pub place_same : (x n : Namespace) (k : ℕ) (ms : List Namespace) → same_namespace s x n ≡ true → place_among s x k ms ≡ place_among s n k ms
  unfolding place_among
  place_same x n k [] h = refl
  place_same x n k (m ∷ ms) h = rw (has_same x n m h, place_same x n (suc k) ms h)

  -- with one more
  with_has : (n : Namespace) (ms : List Namespace) → any (has n) (sections_with s ms n) ≡ true
  unfolding any
  with_has n ms = by (any (has n) ms) refl
    where
      by : (b : Bool) → any (has n) ms ≡ b → any (has n) (cond b ms (ms ++ (n ∷ []))) ≡ true
      by true q = q
      by false q = any_append (has n) ms (n ∷ []) ∙ rw (q, same_self n)

  with_place_lem : (n : Namespace) (k : ℕ) (ms : List Namespace) → place_among s n k (sections_with s ms n) ≡ place_among s n k ms
  unfolding place_among
  with_place_lem n k ms = by (any (has n) ms) refl
    where
      by : (b : Bool) → any (has n) ms ≡ b → place_among s n k (cond b ms (ms ++ (n ∷ []))) ≡ place_among s n k ms
      by true q = refl
      by false q = place_past n k ms (n ∷ []) q ∙ rw (same_self n) (sym (place_absent n k ms q))

  -- what is there stays there, in its place
  with_kept : (x n : Namespace) (ms : List Namespace) → any (has n) ms ≡ true → any (has n) (sections_with s ms x) ≡ true
  with_kept x n ms h = by (any (has x) ms)
    where
      by : (b : Bool) → any (has n) (cond b ms (ms ++ (x ∷ []))) ≡ true
      by true = h
      by false = any_append (has n) ms (x ∷ []) ∙ rw h

  with_still : (x n : Namespace) (k : ℕ) (ms : List Namespace) → any (has n) ms ≡ true → place_among s n k (sections_with s ms x) ≡ place_among s n k ms
  with_still x n k ms h = by (any (has x) ms)
    where
      by : (b : Bool) → place_among s n k (cond b ms (ms ++ (x ∷ []))) ≡ place_among s n k ms
      by true = refl
      by false = place_append n k ms (x ∷ []) h

  -- and what is not there comes only with its own
  with_other : (x n : Namespace) (ms : List Namespace) → any (has n) ms ≡ false → same_namespace s x n ≡ false → any (has n) (sections_with s ms x) ≡ false
  unfolding any
  with_other x n ms h q = by (any (has x) ms)
    where
      by : (b : Bool) → any (has n) (cond b ms (ms ++ (x ∷ []))) ≡ false
      by true = h
      by false = any_append (has n) ms (x ∷ []) ∙ rw (h, q)

  with_long : (n : Namespace) (ms : List Namespace) → length (sections_with s ms n) ≤ suc (length ms)
  with_long n ms = by (any (has n) ms)
    where
      by : (b : Bool) → length (cond b ms (ms ++ (n ∷ []))) ≤ suc (length ms)
      by true = omega arith
      by false = omega (arith, length-append ms (n ∷ []))

  -- the number of a namespace's section and the count of sections with it: the larger of the number and the count before
  with_count : (n : Namespace) (ms : List Namespace) (c : ℕ) → c ≡ suc (place_among s n 0 ms)
      → (length ms < c → c ≡ length (sections_with s ms n)) × (c ≤ length ms → length ms ≡ length (sections_with s ms n))
  with_count n ms c e = by (any (has n) ms) refl
    where
      by : (b : Bool) → any (has n) ms ≡ b → (length ms < c → c ≡ length (cond b ms (ms ++ (n ∷ [])))) × (c ≤ length ms → length ms ≡ length (cond b ms (ms ++ (n ∷ []))))
      by true q = ((λ h. absurd (omega (arith, place_in n 0 ms q))), (λ h. refl))
      by false q =
          ((λ h. omega (arith, place_absent n 0 ms q, length-append ms (n ∷ []))), (λ h. absurd (omega (arith, place_absent n 0 ms q))))

  module _ (e : Namespace) where
    pub after_place : (n : Namespace) (k : ℕ) (ms ns : List Namespace) → any (has n) ms ≡ true → place_among s n k (sections_after s e ms ns) ≡ place_among s n k ms
    unfolding sections_after
    after_place n k ms [] h = refl
    after_place n k ms (x ∷ ns) h = by (stays_with s e x) (after_place n k ms ns h) (after_place n k (sections_with s ms x) ns (with_kept x n ms h) ∙ with_still x n k ms h)
      where
        by : (b : Bool) → place_among s n k (sections_after s e ms ns) ≡ place_among s n k ms → place_among s n k (sections_after s e (sections_with s ms x) ns) ≡ place_among s n k ms
            → place_among s n k (cond b (sections_after s e ms ns) (sections_after s e (sections_with s ms x) ns)) ≡ place_among s n k ms
        by true p q = p
        by false p q = q

    -- the number of an attribute's section among all of them
    abbrev pub number_in : List Namespace → Namespace → ℕ
    number_in all n = cond (stays_with s e n) 0 (suc (place_among s n 0 all))

    pub numbers_final : (ms ns : List Namespace) → numbers_from s e ms ns ≡ map (number_in (sections_after s e ms ns)) ns
    unfolding numbers_from sections_after
    numbers_final ms [] = refl
    numbers_final ms (n ∷ ns) = by (stays_with s e n) (numbers_final ms ns) (numbers_final (sections_with s ms n) ns)
      where
        A : List Namespace
        A = sections_after s e ms ns

        B : List Namespace
        B = sections_after s e (sections_with s ms n) ns

        here : place_among s n 0 ms ≡ place_among s n 0 B
        here = sym (after_place n 0 (sections_with s ms n) ns (with_has n ms) ∙ with_place_lem n 0 ms)

        by : (b : Bool) → numbers_from s e ms ns ≡ map (number_in A) ns → numbers_from s e (sections_with s ms n) ns ≡ map (number_in B) ns
            → cond b (0 ∷ numbers_from s e ms ns) (suc (place_among s n 0 ms) ∷ numbers_from s e (sections_with s ms n) ns)
            ≡ cond b 0 (suc (place_among s n 0 (cond b A B))) ∷ map (number_in (cond b A B)) ns
        by true p q = ap (λ (l : List ℕ). 0 ∷ l) p
        by false p q =
            ap (λ (l : List ℕ). suc (place_among s n 0 ms) ∷ l) q ∙ ap (λ (j : ℕ). suc j ∷ map (number_in B) ns) here

    pub numbers_long : (ms ns : List Namespace) → length (numbers_from s e ms ns) ≡ length ns
    unfolding numbers_from
    numbers_long ms [] = refl
    numbers_long ms (n ∷ ns) = by (stays_with s e n) (numbers_long ms ns) (numbers_long (sections_with s ms n) ns)
      where
        by : (b : Bool) → length (numbers_from s e ms ns) ≡ length ns → length (numbers_from s e (sections_with s ms n) ns) ≡ length ns
            → length (cond b (0 ∷ numbers_from s e ms ns) (suc (place_among s n 0 ms) ∷ numbers_from s e (sections_with s ms n) ns)) ≡ suc (length ns)
        by true p q = ap suc p
        by false p q = ap suc q

    pub sections_few : (ms ns : List Namespace) → length (sections_after s e ms ns) ≤ length ms + length ns
    unfolding sections_after
    sections_few ms [] = omega arith
    sections_few ms (n ∷ ns) = by (stays_with s e n) (sections_few ms ns) (sections_few (sections_with s ms n) ns)
      where
        by : (b : Bool) → length (sections_after s e ms ns) ≤ length ms + length ns
            → length (sections_after s e (sections_with s ms n) ns) ≤ length (sections_with s ms n) + length ns
            → length (cond b (sections_after s e ms ns) (sections_after s e (sections_with s ms n) ns)) ≤ length ms + suc (length ns)
        by true p q = omega arith
        by false p q = omega (arith, with_long n ms)

    -- one attribute more
    after_more : (ms ns : List Namespace) (n : Namespace)
        → sections_after s e ms (ns ++ (n ∷ [])) ≡ cond (stays_with s e n) (sections_after s e ms ns) (sections_with s (sections_after s e ms ns) n)
    unfolding sections_after
    after_more ms [] n = refl
    after_more ms (x ∷ ns) n = by (stays_with s e x) (after_more ms ns n) (after_more (sections_with s ms x) ns n)
      where
        R : List Namespace → List Namespace
        R l = cond (stays_with s e n) l (sections_with s l n)

        by : (b : Bool) → sections_after s e ms (ns ++ (n ∷ [])) ≡ R (sections_after s e ms ns)
            → sections_after s e (sections_with s ms x) (ns ++ (n ∷ [])) ≡ R (sections_after s e (sections_with s ms x) ns)
            → cond b (sections_after s e ms (ns ++ (n ∷ []))) (sections_after s e (sections_with s ms x) (ns ++ (n ∷ [])))
            ≡ R (cond b (sections_after s e ms ns) (sections_after s e (sections_with s ms x) ns))
        by true p q = p
        by false p q = q

    numbers_more : (ms ns : List Namespace) (n : Namespace)
        → numbers_from s e ms (ns ++ (n ∷ [])) ≡ numbers_from s e ms ns ++ (number_in (sections_after s e ms ns) n ∷ [])
    unfolding sections_after numbers_from
    numbers_more ms [] n = by (stays_with s e n)
      where
        by : (b : Bool) → cond b (0 ∷ []) (suc (place_among s n 0 ms) ∷ []) ≡ cond b 0 (suc (place_among s n 0 ms)) ∷ []
        by true = refl
        by false = refl
    numbers_more ms (x ∷ ns) n = by (stays_with s e x) (numbers_more ms ns n) (numbers_more (sections_with s ms x) ns n)
      where
        by : (b : Bool) → numbers_from s e ms (ns ++ (n ∷ [])) ≡ numbers_from s e ms ns ++ (number_in (sections_after s e ms ns) n ∷ [])
            → numbers_from s e (sections_with s ms x) (ns ++ (n ∷ [])) ≡ numbers_from s e (sections_with s ms x) ns ++ (number_in (sections_after s e (sections_with s ms x) ns) n ∷ [])
            → cond b (0 ∷ numbers_from s e ms (ns ++ (n ∷ []))) (suc (place_among s x 0 ms) ∷ numbers_from s e (sections_with s ms x) (ns ++ (n ∷ [])))
            ≡ cond b (0 ∷ numbers_from s e ms ns) (suc (place_among s x 0 ms) ∷ numbers_from s e (sections_with s ms x) ns) ++ (number_in (cond b (sections_after s e ms ns) (sections_after s e (sections_with s ms x) ns)) n ∷ [])
        by true p q = ap (λ (l : List ℕ). 0 ∷ l) p
        by false p q = ap (λ (l : List ℕ). suc (place_among s x 0 ms) ∷ l) q

    -- the number of the first before it that has its namespace is that namespace's place
    abbrev spaces_of : List Numbered → List Namespace
    spaces_of l = map (λ (x : Numbered). x.namespace) l

    abbrev counts_of : List Numbered → List ℕ
    counts_of l = map (λ (x : Numbered). x.number) l

    pub among_next : (n : Namespace) (ms : List Namespace) (l : List Numbered) → counts_of l ≡ numbers_from s e ms (spaces_of l) → any (has n) ms ≡ false
        → number_among s n (suc (length (sections_after s e ms (spaces_of l)))) l ≡ suc (place_among s n 0 (sections_after s e ms (spaces_of l)))
    unfolding number_among numbers_from sections_after
    among_next n ms [] p h = ap suc (sym (place_absent n 0 ms h ∙ omega arith))
    among_next n ms (x ∷ l) p h =
        by (stays_with s e x.namespace) p
        (λ r. among_next n ms l r h)
        (λ r w. among_next n (sections_with s ms x.namespace) l r (with_other x.namespace n ms h w))
      where
        m : Namespace
        m = x.namespace

        ns : List Namespace
        ns = spaces_of l

        A : List Namespace
        A = sections_after s e ms ns

        B : List Namespace
        B = sections_after s e (sections_with s ms m) ns

        found : same_namespace s m n ≡ true → place_among s m 0 ms ≡ place_among s n 0 B
        found q =
            let there : any (has n) (sections_with s ms m) ≡ true = any_same (has n) (has m) (λ (y : Namespace). sym (has_same m n y q)) (sections_with s ms m) ∙ with_has m ms in
            sym (after_place n 0 (sections_with s ms m) ns there ∙ sym (place_same m n 0 (sections_with s ms m) q) ∙ with_place_lem m 0 ms)

        test : (t : Bool) → same_namespace s m n ≡ t → (same_namespace s m n ≡ false → number_among s n (suc (length B)) l ≡ suc (place_among s n 0 B))
            → cond t (suc (place_among s m 0 ms)) (number_among s n (suc (length B)) l) ≡ suc (place_among s n 0 B)
        test true w ih = ap suc (found w)
        test false w ih = ih w

        by : (b : Bool) → x.number ∷ counts_of l ≡ cond b (0 ∷ numbers_from s e ms ns) (suc (place_among s m 0 ms) ∷ numbers_from s e (sections_with s ms m) ns)
            → (counts_of l ≡ numbers_from s e ms ns → number_among s n (suc (length A)) l ≡ suc (place_among s n 0 A))
            → (counts_of l ≡ numbers_from s e (sections_with s ms m) ns → same_namespace s m n ≡ false → number_among s n (suc (length B)) l ≡ suc (place_among s n 0 B))
            → cond (in_section s n x) x.number (number_among s n (suc (length (cond b A B))) l) ≡ suc (place_among s n 0 (cond b A B))
        by true q stay go =
            let z : x.number ≡ 0 = ap (λ (k : List ℕ). get_or k 0 0) q in
            rw z (stay (ap (λ (k : List ℕ). drop 1 k) q))
        by false q stay go =
            let z : x.number ≡ suc (place_among s m 0 ms) = ap (λ (k : List ℕ). get_or k 0 0) q in
            rw (z, ne_eqb (suc (place_among s m 0 ms)) 0 (λ w. omega arith)) (test (same_namespace s m n) refl (go (ap (λ (k : List ℕ). drop 1 k) q)))

-- ---- lists from functions
pub map_tabulate : {A B : Type 0} (g : A → B) (f : ℕ → A) (k n : ℕ) → map g (tabulate f k n) ≡ tabulate (λ (j : ℕ). g (f j)) k n
unfolding tabulate
map_tabulate g f k zero = refl
map_tabulate g f k (suc n) = ap (λ (l : List _). g (f k) ∷ l) (map_tabulate g f (suc k) n)

read_numbers : (cs pre post : List ℕ) (i : ℕ) → length pre ≡ i → tabulate (λ (k : ℕ). get_or (pre ++ (cs ++ post)) k 0) i (length cs) ≡ cs
unfolding tabulate
read_numbers [] pre post i e = refl
read_numbers (c ∷ cs) pre post i e =
    let q : length (pre ++ (c ∷ [])) ≡ suc i = length-append pre (c ∷ []) ∙ omega arith in
    let z : i ≡ length pre + 0 = omega arith in
    ap (λ (x : ℕ). x ∷ tabulate (λ (k : ℕ). get_or (pre ++ (c ∷ (cs ++ post))) k 0) (suc i) (length cs))
    (ap (λ (k : ℕ). get_or (pre ++ (c ∷ (cs ++ post))) k 0) z ∙ get_or-append-add pre (c ∷ (cs ++ post)) 0 0)
    ∙ ap (λ (l : List ℕ). c ∷ l)
    (ap (λ (l : List ℕ). tabulate (λ (k : ℕ). get_or l k 0) (suc i) (length cs)) (sym (append_assoc pre (c ∷ []) (cs ++ post))) ∙ read_numbers cs (pre ++ (c ∷ [])) post (suc i) q)

pub numbers_back : (l cs : List ℕ) → tabulate (λ (k : ℕ). get_or (overwrite l 0 cs) k 0) 0 (length cs) ≡ cs
unfolding overwrite
numbers_back l cs = read_numbers cs [] (drop (0 + length cs) l) 0 refl

-- ---- the loop of `number_sections`: the first i attributes have their numbers, and m sections are begun
pub record Numbering (s : List ℕ) (e : Namespace) (f : ℕ → Namespace) (l₀ l : List ℕ) (m i : ℕ) : Type 0 where
  pub counted : m ≡ length (sections_after s e [] (tabulate f 0 i))
  pub few : m ≤ i
  pub laid : l ≡ overwrite l₀ 0 (numbers_from s e [] (tabulate f 0 i))

module _ (s : List ℕ) (e : Namespace) (f : ℕ → Namespace) (l₀ : List ℕ) where
  pub begin : Numbering s e f l₀ l₀ 0 0
  unfolding tabulate sections_after numbers_from
  begin = record { counted = refl; few = omega arith; laid = sym (over_none l₀ 0) }

  module _ (l : List ℕ) (m i : ℕ) (d : Numbering s e f l₀ l m i) where
    abbrev so_far : List Namespace
    so_far = tabulate f 0 i

    abbrev sections : List Namespace
    sections = sections_after s e [] so_far

    abbrev before : List Numbered
    before = tabulate (λ (k : ℕ). numbered (f k) (get_or l k 0)) 0 i

    spaces_are : spaces_of s e before ≡ so_far
    spaces_are = map_tabulate (λ (x : Numbered). x.namespace) (λ (k : ℕ). numbered (f k) (get_or l k 0)) 0 i

    long : length (numbers_from s e [] so_far) ≡ i
    long = numbers_long s e [] so_far ∙ length_tabulate f 0 i

    counts_are : counts_of s e before ≡ numbers_from s e [] so_far
    counts_are =
        map_tabulate (λ (x : Numbered). x.number) (λ (k : ℕ). numbered (f k) (get_or l k 0)) 0 i
        ∙ ap (λ (r : List ℕ). tabulate (λ (k : ℕ). get_or r k 0) 0 i) d.laid
        ∙ ap (tabulate (λ (k : ℕ). get_or (overwrite l₀ 0 (numbers_from s e [] so_far)) k 0) 0) (sym long)
        ∙ numbers_back l₀ (numbers_from s e [] so_far)

    -- the number that the code finds
    number_is : number_among s (f i) (m + 1) before ≡ suc (place_among s (f i) 0 sections)
    unfolding any
    number_is =
        let q : m + 1 ≡ suc (length (sections_after s e [] (spaces_of s e before))) =
        add-one m ∙ ap suc (d.counted ∙ ap (λ (x : List Namespace). length (sections_after s e [] x)) (sym spaces_are)) in
        ap (λ (k : ℕ). number_among s (f i) k before) q
        ∙ among_next s e (f i) [] before (counts_are ∙ ap (numbers_from s e []) (sym spaces_are)) refl
        ∙ ap (λ (x : List Namespace). suc (place_among s (f i) 0 (sections_after s e [] x))) spaces_are

    -- at most one more than there are
    pub number_few : (c : ℕ) → c ≡ cond (stays_with s e (f i)) 0 (number_among s (f i) (m + 1) before) → c ≤ m + 1
    number_few c q = by (stays_with s e (f i)) (q ∙ ap (cond (stays_with s e (f i)) 0) number_is)
      where
        place : (b : Bool) → any (has s (f i)) sections ≡ b → place_among s (f i) 0 sections ≤ length sections
        place true h = omega (arith, place_in s (f i) 0 sections h)
        place false h = omega (arith, place_absent s (f i) 0 sections h)

        by : (b : Bool) → c ≡ cond b 0 (suc (place_among s (f i) 0 sections)) → c ≤ m + 1
        by true r = omega arith
        by false r = omega (arith, place (any (has s (f i)) sections) refl, d.counted)

    more : tabulate f 0 (i + 1) ≡ so_far ++ (f i ∷ [])
    more = ap (tabulate f 0) (add-one i) ∙ tab_last f i

    module _ (h : i < length l₀) (c : ℕ) (ec : c ≡ cond (stays_with s e (f i)) 0 (number_among s (f i) (m + 1) before)) where
      is_number : c ≡ number_in s e sections (f i)
      is_number = ec ∙ ap (λ (k : ℕ). cond (stays_with s e (f i)) 0 k) number_is

      laid_more : set l i c ≡ overwrite l₀ 0 (numbers_from s e [] (tabulate f 0 (i + 1)))
      laid_more =
          let q : i ≡ 0 + length (numbers_from s e [] so_far) = omega (arith, long) in
          ap (λ (r : List ℕ). set r i c) d.laid
          ∙ ap (λ (k : ℕ). set (overwrite l₀ 0 (numbers_from s e [] so_far)) k c) q
          ∙ over_set l₀ 0 (numbers_from s e [] so_far) c (omega (arith, long))
          ∙ ap (λ (k : ℕ). overwrite l₀ 0 (numbers_from s e [] so_far ++ (k ∷ []))) is_number
          ∙ ap (overwrite l₀ 0) (sym (ap (numbers_from s e []) more ∙ numbers_more s e [] so_far (f i)))

      counted_more : (m' : ℕ) → ((m < c) × (m' ≡ c)) ⊎ ((c ≤ m) × (m' ≡ m)) → m' ≡ length (sections_after s e [] (tabulate f 0 (i + 1)))
      counted_more m' o =
          by (stays_with s e (f i)) is_number o
          ∙ ap (λ (x : List Namespace). length x) (sym (ap (sections_after s e []) more ∙ after_more s e [] so_far (f i)))
        where
          by : (b : Bool) → c ≡ cond b 0 (suc (place_among s (f i) 0 sections)) → ((m < c) × (m' ≡ c)) ⊎ ((c ≤ m) × (m' ≡ m))
              → m' ≡ length (cond b sections (sections_with s sections (f i)))
          by true q (inl r) = absurd (omega (arith, r.0))
          by true q (inr r) = r.1 ∙ d.counted
          by false q (inl r) = r.1 ∙ (with_count s (f i) sections c q).0 (omega (arith, r.0, d.counted))
          by false q (inr r) = r.1 ∙ d.counted ∙ (with_count s (f i) sections c q).1 (omega (arith, r.0, d.counted))

      pub turn : (m' : ℕ) → ((m < c) × (m' ≡ c)) ⊎ ((c ≤ m) × (m' ≡ m)) → Numbering s e f l₀ (set l i c) m' (i + 1)
      unfolding sections_after
      turn m' o =
          record {
            counted = counted_more m' o;
            few = omega (arith, counted_more m' o, sections_few s e [] (tabulate f 0 (i + 1)), length_tabulate f 0 (i + 1));
            laid = laid_more;
          }

    ended : (n : ℕ) → i ≡ n → (m ≡ length (sections_after s e [] (tabulate f 0 n))) × (l ≡ overwrite l₀ 0 (numbers_from s e [] (tabulate f 0 n)))
    ended n q =
        (d.counted ∙ ap (λ (k : ℕ). length (sections_after s e [] (tabulate f 0 k))) q, d.laid ∙ ap (λ (k : ℕ). overwrite l₀ 0 (numbers_from s e [] (tabulate f 0 k))) q)

-- the namespaces of the attributes of an array
abbrev pub namespace_at : List ℕ → List ℕ → List ℕ → ℕ → Namespace
namespace_at own open' attributes k = namespace_of own open' (given_in attributes k).code

pub all_numbered : (s : List ℕ) (e : Namespace) (own open' attributes l₀ l : List ℕ) (m i n : ℕ) → Numbering s e (namespace_at own open' attributes) l₀ l m i → i ≤ n → n ≤ i
    → (m ≡ length (sections_after s e [] (code_namespaces own open' (tabulate (given_in attributes) 0 n))))
    × (l ≡ overwrite l₀ 0 (numbers_from s e [] (code_namespaces own open' (tabulate (given_in attributes) 0 n))))
all_numbered s e own open' attributes l₀ l m i n d lo hi =
    let r = ended s e (namespace_at own open' attributes) l₀ l m i d n (omega arith) in
    let q : tabulate (namespace_at own open' attributes) 0 n ≡ code_namespaces own open' (tabulate (given_in attributes) 0 n) =
    sym (map_tabulate (λ (g : Given). namespace_of own open' g.code) (given_in attributes) 0 n) in
    (r.0 ∙ ap (λ (x : List Namespace). length (sections_after s e [] x)) q, r.1 ∙ ap (λ (x : List Namespace). overwrite l₀ 0 (numbers_from s e [] x)) q)
