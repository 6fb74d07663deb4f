-- `namespaces::clashes::twice` meets its contract: at each turn the answer is that of the attributes that are left.
use mathlib.Core.Path.{refl, ◌∙◌}
use native.Mathlib.Omega.{arith}
use Rattle.reader.specs.Stored.{twice_in}
use Rattle.reader.proofs.Any.{or_hit, or_miss}
use Rattle.reader.proofs.Indexed.{min_at_most}
use Rattle.reader.proofs.Clashing.{twice_turn, twice_out}
use Rattle.namespaces.proofs.clashes.twice.Goals as goal

pub returns-then-most-lt2 : goal.returns-then-most-lt2
unfolding twice_in
returns-then-most-lt2 c =
    let a = c.args in
    twice_out a.attrs.now a.spaces.now a.count _ (c.min-most.ensures ∙ min_at_most 16 a.count) a.s.now a.own.now a.outer.now 0 _ refl (omega arith)

pub loop-i-init : goal.loop-i-init
unfolding twice_in
loop-i-init c = (omega (arith, c.min-most.ensures), refl)

pub clash_behind-requires : goal.clash_behind-requires
clash_behind-requires c =
    let l = c in
    (omega arith, λ i j hi hj. l.keys_of-keys.ensures i j (omega (arith, l.min-most.ensures, min_at_most 16 l.args.count)) (omega (arith, l.min-most.ensures, min_at_most 16 l.args.count)))

pub returns-then-clash_behind : goal.returns-then-clash_behind
returns-then-clash_behind c =
    let l = c in
    or_hit _ _ _
    (twice_turn _ _ _ _ (l.min-most.ensures ∙ min_at_most 16 l.args.count) _ _ _ l.loop-i.i _ l.loop-i.invariant.1 (omega arith) _ c.clash_behind.ensures)
    c.if-clash_behind.true

pub loop-i-preserved : goal.loop-i-preserved
loop-i-preserved c =
    let l = c in
    let t = twice_turn _ _ _ _ (l.min-most.ensures ∙ min_at_most 16 l.args.count) _ _ _ l.loop-i.i _ l.loop-i.invariant.1 (omega arith) _ c.clash_behind.ensures in
    (l.loop-i.invariant.0, or_miss _ _ _ t c.if-clash_behind.false)

pub returns : goal.returns
returns c =
    let l = c in
    twice_out _ _ _ _ (l.min-most.ensures ∙ min_at_most 16 l.args.count) _ _ _ l.loop-i.i _ l.loop-i.invariant.1 (omega (arith, c.loop-i-test.false))
