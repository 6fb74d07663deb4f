-- The words of the chosen rules are a part of the index.
use Rattle.std.proofs.Common.{rules, ◌∙◌, arith, ap}
use lib.Seq.{slice}
use Rattle.table.specs.declared.Chosen.{Chosen}
use Rattle.strands.specs.Rules.{rules_of_key, rules_in, rules_left}
use Rattle.strands.proofs.Ruled.{chosen_within, part_of_index}
use Rattle.strands.proofs.rules.rules_in.Goals as goal

pub offset_bounds-index-c : goal.offset_bounds-index-c
offset_bounds-index-c c = omega (arith, chosen_within c.args.index.now c.args.mode c.args.kind c.args.class c.choose-c.result (search rules) c.choose-c.ensures)

pub slice_bounds-result-count : goal.slice_bounds-result-count
slice_bounds-result-count c = omega (arith, chosen_within c.args.index.now c.args.mode c.args.kind c.args.class c.choose-c.result (search rules) c.choose-c.ensures)

pub slice_bounds-result-start : goal.slice_bounds-result-start
slice_bounds-result-start c = omega (arith, chosen_within c.args.index.now c.args.mode c.args.kind c.args.class c.choose-c.result (search rules) c.choose-c.ensures)

pub slice_bounds-result-end : goal.slice_bounds-result-end
slice_bounds-result-end c = omega (arith, chosen_within c.args.index.now c.args.mode c.args.kind c.args.class c.choose-c.result (search rules) c.choose-c.ensures)

pub returns : goal.returns
unfolding rules_in rules_left
returns c =
    let p = chosen_within c.args.index.now c.args.mode c.args.kind c.args.class c.choose-c.result (search rules) c.choose-c.ensures in
    ap (rules_of_key c.choose-c.result.key) (part_of_index c.args.index.now c.choose-c.result p.0)
    ∙ ap (λ (q : Chosen). rules_of_key q.key (slice q.first q.end c.args.index.now)) c.choose-c.ensures
