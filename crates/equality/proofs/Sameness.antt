-- What "the same" says, for callers.
--     each_counts                  rows of different counts
--     each_self, each_equal        lists, by what is known of their elements
--     *-self, *-equal              what is the same as itself; what is the same is equal
use Prim.Native.Nat.{ℕ, zero, suc}
use mathlib.Core.Path.{◌≡◌, refl, sym, ap, ap₂, ◌∙◌}
use mathlib.Core.List.{List, [], ◌∷◌}
use mathlib.Core.Bool.{Bool, true, false, ◌&&◌, and-false}
use mathlib.Core.Option.{Option, none, some}
use borrow.Author.Tests.{eq-eqb, eqb-true, not-true}
use lib.Dec.{eqb, eqb-zero-suc, eqb-suc-zero, eqb-suc-suc}
use Rattle.laws.specs.Lists.{tabulate}
use Rattle.laws.specs.Tests.{both}
use Rattle.laws.proofs.Flags.{differ, and_left, and_right}
use Rattle.table.specs.Table.{action_of}
use Rattle.table.specs.declared.Action.{Action}
use Rattle.table.specs.declared.Action.TheVariants.{Attach, Unwrap, Validate}
use Rattle.reader.specs.declared.Span.{Span}
use Rattle.reader.specs.declared.Binding.{Binding}
use Rattle.reader.specs.Spans.{span}
use Rattle.reader.specs.Namespaces.{binding}
use Rattle.model.specs.Stream.{HeldStrand}
use Rattle.strands.specs.Packed.{action_number}
use Rattle.equality.specs.Same.{same_flag, same_each, same_span, same_binding, same_action, same_target, same_strand, HeldLevel, same_level}

-- a test put behind another
behind : (t a x y : Bool) → x ≡ (t && y) → (a && x) ≡ (t && (a && y))
behind t true x y e = e
behind t false x y e = sym (and-false t)

module _ {ℓ} {A : Type ℓ} (p : A → A → Bool) where
  counts_from : (f g : ℕ → A) (k n m : ℕ)
      → same_each p (tabulate f k n) (tabulate g k m) ≡ (eqb n m && same_each p (tabulate f k n) (tabulate g k n))
  unfolding same_each tabulate
  counts_from f g k zero zero = refl
  counts_from f g k zero (suc m) = rw (eqb-zero-suc m)
  counts_from f g k (suc n) zero = rw (eqb-suc-zero n)
  counts_from f g k (suc n) (suc m) = rw (eqb-suc-suc n m) (behind (eqb n m) (p (f k) (g k)) _ _ (counts_from f g (suc k) n m))

  pub each_counts : (f g : ℕ → A) (n m : ℕ)
      → same_each p (tabulate f 0 n) (tabulate g 0 m) ≡ (eqb n m && same_each p (tabulate f 0 n) (tabulate g 0 n))
  each_counts f g n m = counts_from f g 0 n m

  pub each_self : ((x : A) → p x x ≡ true) → (l : List A) → same_each p l l ≡ true
  unfolding same_each
  each_self h [] = refl
  each_self h (x ∷ l) = both (p x x) (same_each p l l) (h x) (each_self h l)

  pub each_equal : ((x y : A) → p x y ≡ true → x ≡ y) → (l m : List A) → same_each p l m ≡ true → l ≡ m
  unfolding same_each
  each_equal h [] [] e = refl
  each_equal h [] (y ∷ t) e = absurd (differ (sym e))
  each_equal h (x ∷ s) [] e = absurd (differ (sym e))
  each_equal h (x ∷ s) (y ∷ t) e =
      ap₂ ◌∷◌ (h x y (and_left (p x y) (same_each p s t) e)) (each_equal h s t (and_right (p x y) (same_each p s t) e))

pub flag_self : (b : Bool) → same_flag b b ≡ true
flag_self true = refl
flag_self false = refl

pub flag_equal : (a b : Bool) → same_flag a b ≡ true → a ≡ b
flag_equal true b e = sym e
flag_equal false b e = sym (not-true b e)

number_self : (n : ℕ) → eqb n n ≡ true
number_self n = eq-eqb n n refl

pub span_self : (a : Span) → same_span a a ≡ true
span_self a = both (eqb a.at a.at) (eqb a.len a.len) (number_self a.at) (number_self a.len)

pub span_equal : (a b : Span) → same_span a b ≡ true → a ≡ b
span_equal a b e =
    ap₂ span (eqb-true a.at b.at (and_left _ _ e)) (eqb-true a.len b.len (and_right (eqb a.at b.at) _ e))

pub binding_self : (b : Binding) → same_binding b b ≡ true
binding_self b = both _ _ (span_self b.prefix) (span_self b.uri)

pub binding_equal : (a b : Binding) → same_binding a b ≡ true → a ≡ b
binding_equal a b e = ap₂ binding (span_equal a.prefix b.prefix (and_left _ _ e)) (span_equal a.uri b.uri (and_right (same_span a.prefix b.prefix) _ e))

action_of_lem : (a : Action) → a ≡ action_of (action_number a)
action_of_lem Attach = refl
action_of_lem Unwrap = refl
action_of_lem Validate = refl

pub action_equal : (a b : Action) → same_action a b ≡ true → a ≡ b
action_equal a b e = action_of_lem a ∙ ap action_of (eqb-true (action_number a) (action_number b) e) ∙ sym (action_of_lem b)

pub target_self : (a : Option ℕ) → same_target a a ≡ true
target_self none = refl
target_self (some u) = number_self u

pub target_equal : (a b : Option ℕ) → same_target a b ≡ true → a ≡ b
target_equal none none e = refl
target_equal none (some v) e = absurd (differ (sym e))
target_equal (some u) none e = absurd (differ (sym e))
target_equal (some u) (some v) e = ap some (eqb-true u v e)

pub strand_self : (r : HeldStrand ℕ) → same_strand r r ≡ true
strand_self r =
    both _ _ (number_self r.mode)
    (both _ _ (number_self (action_number r.action)) (both _ _ (target_self r.target) (flag_self r.here)))

pub strand_equal : (a b : HeldStrand ℕ) → same_strand a b ≡ true → a ≡ b
strand_equal a b e =
    let f = and_right (eqb a.mode b.mode) _ e in
    let g = and_right (same_action a.action b.action) _ f in
    λ i. record {
      mode = eqb-true a.mode b.mode (and_left _ _ e) i;
      action = action_equal a.action b.action (and_left _ _ f) i;
      target = target_equal a.target b.target (and_left _ _ g) i;
      here = flag_equal a.here b.here (and_right (same_target a.target b.target) _ g) i;
    }

pub level_self : (l : HeldLevel) → same_level l l ≡ true
level_self l =
    both _ _ (span_self l.name)
    (both _ _ (number_self l.class)
    (both _ _ (span_self l.uri) (both _ _ (number_self l.bindings) (each_self same_strand strand_self l.strands))))

pub level_equal : (a b : HeldLevel) → same_level a b ≡ true → a ≡ b
level_equal a b e =
    let f = and_right (same_span a.name b.name) _ e in
    let g = and_right (eqb a.class b.class) _ f in
    let h = and_right (same_span a.uri b.uri) _ g in
    λ i. record {
      name = span_equal a.name b.name (and_left _ _ e) i;
      class = eqb-true a.class b.class (and_left _ _ f) i;
      uri = span_equal a.uri b.uri (and_left _ _ g) i;
      bindings = eqb-true a.bindings b.bindings (and_left _ _ h) i;
      strands = each_equal same_strand strand_equal a.strands b.strands (and_right (eqb a.bindings b.bindings) _ h) i;
    }
