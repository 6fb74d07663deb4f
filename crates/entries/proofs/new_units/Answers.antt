-- `entries::new_units` meets its contract.
use mathlib.Core.Path.{◌≡◌, sym, ◌∙◌}
use mathlib.Core.Bool.{cond}
use Prim.Native.Nat.{ℕ, ◌≤◌}
use native.Mathlib.Omega.{arith}
use borrow.Author.Rules.{rules}
use lib.ListN.{length, take}
use Rattle.std.specs.List.{count_by}
use Rattle.std.proofs.lemmas.List.{length-take}
use Rattle.std.proofs.lemmas.List.Sums.{count_by-le-length}
use Rattle.strands.specs.Packed.{strand_in}
use Rattle.strands.proofs.ListLaws.{total_sum}
use Rattle.entries.proofs.new_units.Goals as goal

pub returns : goal.returns
returns c =
    let first = take c.args.n c.args.words.now in
    let e : c.count.result ≡ count_by (λ (w : ℕ). (strand_in w).here) (take c.args.n c.args.words.now) = search rules in
    let few : length (take c.args.n c.args.words.now) ≤ 16 = omega (arith, length-take {A = ℕ}) in
    (e ∙ sym (total_sum (λ (w : ℕ). cond (strand_in w).here 1 0) first), omega (arith, e, count_by-le-length (λ (w : ℕ). (strand_in w).here) first))
