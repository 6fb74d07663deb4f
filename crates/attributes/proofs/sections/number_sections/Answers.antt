-- `attributes::sections::number_sections` meets its contract: after each turn one more attribute has its number.
use Rattle.std.proofs.Common.{Option, None, Some}
use Rattle.std.specs.Option.{unwrap_or}
use mathlib.Core.Path.{◌≡◌, refl, sym, ap, subst, ◌∙◌}
use mathlib.Core.List.{List}
use mathlib.Core.Bool.{Bool, true, false, cond}
use mathlib.Core.Logic.{◌⊎◌, inl, inr, ⊎_elim}
use Prim.Native.Nat.{ℕ, ◌+◌, ◌≤◌, ◌<◌, max}
use native.Mathlib.Omega.{arith}
use lib.ListN.{length, length-set, length-drop}
use lib.Seq.{take-set-le, drop-set-add}
use Rattle.laws.specs.Lists.{tabulate}
use Rattle.laws.specs.Reading.{le_or_lt}
use Rattle.reader.specs.Namespaces.{Namespace}
use Rattle.reader.specs.Stored.{stored_space}
use Rattle.attributes.specs.Attributes.{namespace_of, given_in, attributes_in, sections_in, stays_with, number_among, numbered_in}
use Rattle.attributes.proofs.Numbering.{Numbering, begin, turn, number_few, namespace_at, all_numbered}
use Rattle.attributes.proofs.sections.number_sections.Goals as goal

at_first : (s own outer : List ℕ) (e : Namespace) (l l₀ : List ℕ) (m i r : ℕ) (o : Option ℕ) → l ≡ l₀ → (sections : List ℕ)
    → o ≡ cond (stays_with s e (namespace_of own outer (given_in l i).code)) None (Some (number_among s (namespace_of own outer (given_in l i).code) (m + 1) (tabulate (numbered_in own outer l sections) 0 i)))
    → r ≡ unwrap_or o 0
    → r ≡ cond (stays_with s e (namespace_of own outer (given_in l₀ i).code)) 0 (number_among s (namespace_of own outer (given_in l₀ i).code) (m + 1) (tabulate (numbered_in own outer l₀ sections) 0 i))
at_first s own outer e l l₀ m i r o same sections q u =
    u ∙ ap (λ (x : Option ℕ). unwrap_or x 0) q ∙ none_zero (stays_with s e (namespace_of own outer (given_in l i).code)) _
    ∙ ap (λ (x : List ℕ). cond (stays_with s e (namespace_of own outer (given_in x i).code)) 0 (number_among s (namespace_of own outer (given_in x i).code) (m + 1) (tabulate (numbered_in own outer x sections) 0 i))) same
  where
    none_zero : (b : Bool) (n : ℕ) → unwrap_or (cond b None (Some n)) 0 ≡ cond b 0 n
    none_zero true n = refl
    none_zero false n = refl

larger : (m c n : ℕ) → n ≡ max m c → ((m < c) × (n ≡ c)) ⊎ ((c ≤ m) × (n ≡ m))
larger m c n e = ⊎_elim (λ h. inr (h, omega arith)) (λ h. inl (h, omega arith)) (le_or_lt c m)

pub loop-i-init : goal.loop-i-init
loop-i-init c = (omega arith, refl, refl, begin _ _ _ _)

pub put_section-requires : goal.put_section-requires
put_section-requires c =
    let a = c.args in
    let l = c.loop-i in
    let v = l.invariant in
    let r = c.unwrap_or-section in
    let few = number_few a.s.now (stored_space a.own.now a.outer.now a.element) (namespace_at a.own.now a.outer.now (attributes_in a.attributes.now)) (sections_in a.attributes.now) (sections_in l.attributes) l.m l.i v.3 r.result (at_first a.s.now a.own.now a.outer.now (stored_space a.own.now a.outer.now a.element) (attributes_in l.attributes) (attributes_in a.attributes.now) l.m l.i r.result _ v.2 (sections_in l.attributes) c.section_of.ensures r.ensures) in
    (omega (arith, c.loop-i-test.true, c.requires), omega (arith, few, v.3.few, c.loop-i-test.true, c.requires))

pub loop-i-preserved : goal.loop-i-preserved
loop-i-preserved c =
    let a = c.args in
    let l = c.loop-i in
    let v = l.invariant in
    let r = c.unwrap_or-section in
    let p = c.put_section.ensures in
    let room = length-drop 128 a.attributes.now in (
      omega (arith, c.loop-i-test.true),
      ap length p.0 ∙ length-set l.attributes (128 + l.i) r.result ∙ v.1,
      ap attributes_in p.0 ∙ take-set-le 128 l.attributes (128 + l.i) r.result (omega arith) ∙ v.2,
      subst (λ (x : List ℕ). Numbering a.s.now (stored_space a.own.now a.outer.now a.element) (namespace_at a.own.now a.outer.now (attributes_in a.attributes.now)) (sections_in a.attributes.now) x c.max-m.result (l.i + 1))
          (sym (ap sections_in p.0 ∙ drop-set-add 128 l.attributes l.i r.result))
          (turn a.s.now (stored_space a.own.now a.outer.now a.element) (namespace_at a.own.now a.outer.now (attributes_in a.attributes.now)) (sections_in a.attributes.now) (sections_in l.attributes) l.m l.i v.3 (omega (arith, room, c.loop-i-test.true, c.requires, p.1, v.1)) r.result
          (at_first a.s.now a.own.now a.outer.now (stored_space a.own.now a.outer.now a.element) (attributes_in l.attributes) (attributes_in a.attributes.now) l.m l.i r.result _ v.2 (sections_in l.attributes) c.section_of.ensures r.ensures) c.max-m.result
          (larger l.m r.result _ c.max-m.ensures)),
    )

pub returns : goal.returns
returns c =
    let a = c.args in
    let l = c.loop-i in
    let v = l.invariant in
    let e = all_numbered a.s.now (stored_space a.own.now a.outer.now a.element) a.own.now a.outer.now (attributes_in a.attributes.now) (sections_in a.attributes.now) (sections_in l.attributes) l.m l.i a.n v.3 v.0 c.loop-i-test.false in
    (e.0, v.2, e.1)
