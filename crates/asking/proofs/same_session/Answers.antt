-- `asking::same_session` meets its contract: the numbers, then the arrays.
use mathlib.Core.Path.{◌≡◌, refl, sym, ap, ap₂, ◌∙◌}
use mathlib.Core.Bool.{Bool, true, false, not, ◌&&◌, beq, and-false}
use borrow.Author.Tests.{not-true, not-false}
use lib.Dec.{eqb}
use Rattle.equality.specs.Same.{same_flag}
use Rattle.equality.specs.Checks.{within_arrays}
use Rattle.sessions.specs.Sessions.{session_at}
use Rattle.sessions.specs.declared.Head.{Head}
use Rattle.sessions.specs.Checks.{same_head}
use Rattle.sessions.specs.Asking.{holds_same}
use Rattle.sessions.proofs.HeldSame.{of_arrays, same_parts}
use Rattle.asking.proofs.same_session.Goals as goal

differing : (w h a x r : Bool) → x ≡ (h && a) → r ≡ h → not r ≡ true → false ≡ (w && x)
differing w h a x r e q n = sym (ap (λ (b : Bool). w && b) (e ∙ ap (λ (b : Bool). b && a) (sym q ∙ not-true r n)) ∙ and-false w)

alike : (w h a x r k : Bool) → x ≡ (h && a) → r ≡ h → not r ≡ false → k ≡ (w && a) → k ≡ (w && x)
alike w h a x r k e q n f = f ∙ ap (λ (b : Bool). w && b) (sym (e ∙ ap (λ (b : Bool). b && a) (sym q ∙ not-false r n)))

-- the derived equality of two heads
flags_alike : (a b : Bool) → beq a b ≡ same_flag a b
flags_alike true true = refl
flags_alike true false = refl
flags_alike false true = refl
flags_alike false false = refl

tests_alike : (p u c k d b : Bool) → (p && (u && (c && (k && (d && b))))) ≡ (p && (u && ((c && k) && (b && d))))
tests_alike false u c k d b = refl
tests_alike true false c k d b = refl
tests_alike true true false k d b = refl
tests_alike true true true false d b = refl
tests_alike true true true true false false = refl
tests_alike true true true true false true = refl
tests_alike true true true true true false = refl
tests_alike true true true true true true = refl

heads_alike : (x y : Head) → (eqb x.place y.place && (eqb x.units y.units && (beq x.closed y.closed && (beq x.awaited y.awaited && (eqb x.depth y.depth && eqb x.bound y.bound))))) ≡ same_head x y
heads_alike x y =
    ap₂ (λ (c k : Bool). eqb x.place y.place && (eqb x.units y.units && (c && (k && (eqb x.depth y.depth && eqb x.bound y.bound))))) (flags_alike x.closed y.closed) (flags_alike x.awaited y.awaited)
    ∙ tests_alike (eqb x.place y.place) (eqb x.units y.units) (same_flag x.closed y.closed) (same_flag x.awaited y.awaited) (eqb x.depth y.depth) (eqb x.bound y.bound)

pub returns-then-eq : goal.returns-then-eq
returns-then-eq c =
    let a = c.args in
    let x = session_at a.head a.levels.now a.bindings.now in
    let y = session_at a.other a.other_levels.now a.other_bindings.now in
    alike (within_arrays x.scope.depth x.scope.bound x.spaces) (same_head a.head a.other) (of_arrays x y) (holds_same x y) c.eq.result c.same_arrays.result (same_parts x y) (c.eq.ensures ∙ heads_alike a.head a.other) (ap not c.if-eq.true) c.same_arrays.ensures

pub returns-else-eq : goal.returns-else-eq
returns-else-eq c =
    let a = c.args in
    let x = session_at a.head a.levels.now a.bindings.now in
    let y = session_at a.other a.other_levels.now a.other_bindings.now in
    c.if-eq.false ∙ differing (within_arrays x.scope.depth x.scope.bound x.spaces) (same_head a.head a.other) (of_arrays x y) (holds_same x y) c.eq.result (same_parts x y) (c.eq.ensures ∙ heads_alike a.head a.other) (ap not c.if-eq.false)
