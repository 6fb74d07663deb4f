-- `levels::same_strands` meets its contract.
use Rattle.std.proofs.Common.{◌≡◌, ℕ, List, [], ◌∷◌, Bool, ◌&&◌, length, map, refl, ap, ◌∙◌, rules, tests, arith}
use borrow.Author.Tests.{ne_eqb}
use Rattle.std.specs.List.{list_all, zip}
use Rattle.std.proofs.lemmas.Iterator.{YieldsList-from_slice, YieldsList-from_zip}
use Rattle.std.proofs.lemmas.Iterator.Search.{all_from_yields_List}
use Rattle.strands.specs.Packed.{strand_in}
use Rattle.equality.specs.Same.{same_each, same_strand}
use Rattle.equality.proofs.Turns.{strands_unlike}
use Rattle.equality.proofs.levels.same_strands.Goals as goal

each_pair : (a b : List ℕ) → length a ≡ length b → list_all (λ (p : ℕ × ℕ). same_strand (strand_in p.0) (strand_in p.1)) (zip a b) ≡ same_each same_strand (map strand_in a) (map strand_in b)
unfolding same_each
each_pair [] [] h = refl
each_pair [] (y ∷ t) h = absurd (omega arith)
each_pair (x ∷ s) [] h = absurd (omega arith)
each_pair (x ∷ s) (y ∷ t) h = ap (λ (r : Bool). same_strand (strand_in x) (strand_in y) && r) (each_pair s t (omega arith))

pub returns-then-a-b : goal.returns-then-a-b
returns-then-a-b c =
    let a = c.args in
    all_from_yields_List (λ (p : ℕ × ℕ). same_strand (strand_in p.0) (strand_in p.1)) c.all.new.self _ c.all.result c.all.ensures.ran (YieldsList-from_zip (YieldsList-from_slice a.a.now cc) (YieldsList-from_slice a.b.now cc)) (λ x r q k. search (rules, tests))
    ∙ each_pair a.a.now a.b.now c.if-a-b.true

pub returns-else-a-b : goal.returns-else-a-b
returns-else-a-b c = ne_eqb _ _ c.if-a-b.false ∙ strands_unlike _ _ c.if-a-b.false
