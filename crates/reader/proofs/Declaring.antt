-- The loop of `declare`: what is held and laid, what a turn does, and the ways out.
use Prim.Native.Nat.{ℕ, suc, ◌+◌, ◌*◌, ◌-◌, ◌≤◌, ◌<◌}
use mathlib.Core.Path.{◌≡◌, refl, sym, ap, ◌∙◌, subst}
use mathlib.Core.List.{List, [], ◌∷◌, ◌++◌, append_assoc, append-nil}
use mathlib.Core.Bool.{Bool, true, false, cond, or-true}
use mathlib.Core.Option.{Option, none, some}
use native.Mathlib.Omega.{arith}
use lib.ListN.{length, length-append}
use Rattle.std.specs.Prelude.{Result, Ok, Err}
use Rattle.laws.specs.Lists.{any, tabulate}
use Rattle.laws.specs.Gather.{gather}
use Rattle.laws.specs.Over.{overwrite}
use Rattle.lexer.specs.declared.Attr.{Attr}
use Rattle.lexer.specs.Attrs.{attr_in, attrs_in}
use Rattle.reader.specs.Spans.{bytes_of, prefix_span, kind_of}
use Rattle.reader.specs.Namespaces.{declared_by, declarations_of, refused_binding, Namespace, nothing, ReadAttribute, of_prefix, before, resolved_by, resolved}
use Rattle.reader.specs.Stored.{at_most, binding_numbers, laid_bindings, fitting, declared_of}
use Rattle.reader.specs.declared.Binding.{Binding}
use Rattle.reader.specs.declared.Kind.{Kind}
use Rattle.reader.specs.declared.Kind.TheVariants.{Plain, Prefixed, Default, Declares}
use Rattle.reader.specs.declared.NamespaceError.{NamespaceError}
use Rattle.reader.specs.declared.NamespaceError.TheVariants.{BadPrefix}
use Rattle.reader.proofs.Any.{any_append}
use Rattle.reader.proofs.Indexed.{tab_here, tab_out, tab_long, at_most_le}
use Rattle.reader.proofs.TagMeaning.{OnSome}
use Rattle.reader.proofs.Laying.{Kept, fitting_all, fitting_some, fitting_whole, laid_none, laid_more}

-- the first i attributes are declared, n declarations held, and with those of the rest they are the tag's
pub record Declaring (s array : List ℕ) (most : ℕ) (attrs : List Attr) (own₀ own : List ℕ) (n i : ℕ) : Type 0 where
  pub held : List Binding
  pub counted : length held ≡ n
  pub few : n ≤ i
  pub within : i ≤ most
  pub long : length own ≡ length own₀
  pub fit : any (refused_binding s) held ≡ false
  pub laid : own ≡ laid_bindings held own₀
  pub left : held ++ declarations_of s (tabulate (attr_in array) i (most - i)) ≡ declarations_of s attrs

-- an attribute makes at most one declaration
pub at_most_one : (k : Kind) (a : Attr) → length (declared_by k a) ≤ 1
at_most_one Plain a = omega arith
at_most_one Prefixed a = omega arith
at_most_one Default a = omega arith
at_most_one Declares a = omega arith

pub declared_few : (s : List ℕ) (l : List Attr) → length (declarations_of s l) ≤ length l
unfolding gather
declared_few s [] = omega arith
declared_few s (a ∷ l) = omega (arith, length-append (declared_by (kind_of s a.name) a) (declarations_of s l), at_most_one (kind_of s a.name) a, declared_few s l)

-- and at most one attribute that is none
abbrev pub SomeFew : ℕ → Option (List ReadAttribute) → Type 0
SomeFew n = OnSome (λ l. length l ≤ n)

pub resolved_few : (s : List ℕ) (bs : List Binding) (l : List Attr) → SomeFew (length l) (resolved s bs l)
unfolding resolved
resolved_few s bs [] = omega arith
resolved_few s bs (a ∷ l) = by (kind_of s a.name) (resolved s bs l) (resolved_few s bs l)
  where
    one : (o : Option Namespace) (r : Option (List ReadAttribute)) → SomeFew (length l) r → SomeFew (suc (length l)) (before a o r)
    one none r h = tt
    one (some m) none h = tt
    one (some m) (some as') h = omega arith

    no : (r : Option (List ReadAttribute)) → SomeFew (length l) r → SomeFew (suc (length l)) r
    no none h = tt
    no (some as') h = omega arith

    by : (k : Kind) (r : Option (List ReadAttribute)) → SomeFew (length l) r → SomeFew (suc (length l)) (resolved_by s bs k a r)
    by Plain = one (some nothing)
    by Prefixed = one (of_prefix s bs (bytes_of s (prefix_span a.name)))
    by Default = no
    by Declares = no

-- an array holds at most sixteen attributes
pub attrs_few : (array : List ℕ) (count : ℕ) → length (attrs_in array count) ≤ 16
unfolding attrs_in
attrs_few array count = omega (arith, tab_long (attr_in array) 0 (at_most 16 count), at_most_le 16 count (at_most 16 count) refl)

pub declarations_few : (s array : List ℕ) (count : ℕ) → length (declarations_of s (attrs_in array count)) ≤ 16
declarations_few s array count = omega (arith, declared_few s (attrs_in array count), attrs_few array count)

module _ (s array : List ℕ) (most : ℕ) (attrs : List Attr) (own₀ : List ℕ) where
  pub begin : (count : ℕ) → attrs ≡ attrs_in array count → most ≡ at_most 16 count → Declaring s array most attrs own₀ own₀ 0 0
  unfolding any attrs_in
  begin count ea em =
      record {
        held = [];
        counted = refl;
        few = omega arith;
        within = omega arith;
        long = refl;
        fit = refl;
        laid = sym (laid_none own₀);
        left =
            let z : most - 0 ≡ at_most 16 count = omega arith in
            ap (λ (k : ℕ). declarations_of s (tabulate (attr_in array) 0 k)) z ∙ ap (declarations_of s) (sym ea);
      }

  module _ (own : List ℕ) (n i : ℕ) (d : Declaring s array most attrs own₀ own n i) where
    abbrev ds : List Binding
    ds = declarations_of s attrs

    abbrev one : List Binding
    one = declared_by (kind_of s (attr_in array i).name) (attr_in array i)

    abbrev more : List Binding
    more = declarations_of s (tabulate (attr_in array) (i + 1) (most - (i + 1)))

    -- what is held, this attribute's, and the rest
    split : i < most → (d.held ++ one) ++ more ≡ ds
    unfolding gather
    split h =
        append_assoc d.held one more
        ∙ ap (λ (l : List Attr). d.held ++ declarations_of s l) (sym (tab_here (attr_in array) most i h))
        ∙ d.left

    -- the array with this attribute's behind what is held
    laid_one : (l : List ℕ) → l ≡ overwrite own (4 * n) (gather binding_numbers (fitting s one)) → l ≡ laid_bindings (d.held ++ fitting s one) own₀
    laid_one l e =
        e ∙ ap (λ (r : List ℕ). overwrite r (4 * n) (gather binding_numbers (fitting s one))) d.laid
        ∙ ap (λ (k : ℕ). overwrite (laid_bindings d.held own₀) (4 * k) (gather binding_numbers (fitting s one))) (sym d.counted)
        ∙ laid_more own₀ d.held (fitting s one)

    module _ (h : i < most) (a : Attr) (ea : a ≡ attr_in array i) (r : Result ℕ NamespaceError) (l : List ℕ) (kept : Kept s n own (declared_by (kind_of s a.name) a) r l) where
      kept_one : Kept s n own one r l
      kept_one = subst (λ (x : Attr). Kept s n own (declared_by (kind_of s x.name) x) r l) ea kept

      pub turn : (m : ℕ) → r ≡ Ok m → length l ≡ length own → Declaring s array most attrs own₀ l m (i + 1)
      turn m e long = cases (any (refused_binding s) one) refl (sym kept_one.0 ∙ e)
        where
          cases : (t : Bool) → t ≡ any (refused_binding s) one → cond t (Err BadPrefix) (Ok (n + length one)) ≡ Ok m → Declaring s array most attrs own₀ l m (i + 1)
          cases true p q = absurd (let z : ◌≡◌ {A = ℕ} 0 1 = cc in omega arith)
          cases false p q =
              let fine : fitting s one ≡ one = fitting_whole s one (sym p) in
              let em : n + length one ≡ m = cc in
              record {
                held = d.held ++ one;
                counted = length-append d.held one ∙ omega (arith, d.counted);
                few = omega (arith, at_most_one (kind_of s (attr_in array i).name) (attr_in array i), d.few);
                within = omega arith;
                long = long ∙ d.long;
                fit = any_append (refused_binding s) d.held one ∙ rw (d.fit, ← p);
                laid = laid_one l kept_one.1 ∙ ap (λ (x : List Binding). laid_bindings (d.held ++ x) own₀) fine;
                left = split h;
              }

      pub refused : (x : NamespaceError) → r ≡ Err x → (Err x ≡ declared_of s ds) × (l ≡ laid_bindings (fitting s ds) own₀)
      refused x e = cases (any (refused_binding s) one) refl (sym kept_one.0 ∙ e)
        where
          cases : (t : Bool) → t ≡ any (refused_binding s) one → cond t (Err BadPrefix) (Ok (n + length one)) ≡ Err x
              → (Err x ≡ declared_of s ds) × (l ≡ laid_bindings (fitting s ds) own₀)
          cases false p q = absurd (let z : ◌≡◌ {A = ℕ} 0 1 = cc in omega arith)
          cases true p q =
              let bad : any (refused_binding s) (d.held ++ one) ≡ true = any_append (refused_binding s) d.held one ∙ rw (← p) (or-true (any (refused_binding s) d.held)) in
              let f : fitting s ds ≡ d.held ++ fitting s one =
              ap (fitting s) (sym (split h)) ∙ fitting_some s (d.held ++ one) more bad ∙ fitting_all s d.held one d.fit in
              let w : any (refused_binding s) ds ≡ true =
              ap (any (refused_binding s)) (sym (split h)) ∙ any_append (refused_binding s) (d.held ++ one) more ∙ rw bad in
              let z : Err x ≡ Err BadPrefix = sym q in
              (rw w z, laid_one l kept_one.1 ∙ ap (λ (x : List Binding). laid_bindings x own₀) (sym f))

    pub ended : most ≤ i → (Ok n ≡ declared_of s ds) × (own ≡ laid_bindings (fitting s ds) own₀)
    unfolding gather
    ended h =
        let e : d.held ≡ ds =
        sym (append-nil d.held) ∙ ap (λ (l : List Attr). d.held ++ declarations_of s l) (sym (tab_out (attr_in array) most i h)) ∙ d.left in
        let fine : any (refused_binding s) ds ≡ false = ap (any (refused_binding s)) (sym e) ∙ d.fit in
        (rw (fine, ← e) (ap Ok (sym d.counted)), d.laid ∙ ap (λ (x : List Binding). laid_bindings x own₀) (e ∙ sym (fitting_whole s ds fine)))
