-- `layout::storing::arrays_in` meets its contract.
use Rattle.std.proofs.Common.{◌≡◌, ℕ, ◌+◌, ◌*◌, length, ap, ◌∙◌, arith}
use Rattle.laws.specs.Lists.{tabulate}
use Rattle.layout.specs.Layout.{word4, session_in}
use Rattle.layout.proofs.Lent.{levels_read}
use Rattle.layout.proofs.storing.arrays_in.Goals as goal

pub returns : goal.returns
unfolding session_in
returns c =
    let a = c.args in
    let b = a.b.now in
    let n : length a.levels.now ≡ 1536 = omega arith in
    let m : length a.bindings.now ≡ 256 = omega arith in
    let l = levels_read b _ (c.words_in.ensures ∙ ap (tabulate (λ (i : ℕ). word4 b (1064 + 4 * i)) 0) n) in
    (l.0, c.words_in-2.ensures ∙ ap (tabulate (λ (i : ℕ). word4 b (40 + 4 * i)) 0) m, l.1, l.2)
