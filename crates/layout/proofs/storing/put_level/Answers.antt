-- `layout::storing::put_level` meets its contract.
use Rattle.std.proofs.Common.{◌≡◌, ℕ, ◌+◌, ◌-◌, ◌*◌, List, take, drop, ap, ◌∙◌, arith}
use Rattle.laws.specs.Gather.{gather}
use Rattle.laws.specs.Over.{overwrite}
use Rattle.layout.specs.Layout.{bytes4}
use Rattle.layout.proofs.Stored.{level_stored}
use Rattle.layout.proofs.storing.put_level.Goals as goal

-- a part of the array, as long as its range
cut : (b l : List ℕ) (at i m n : ℕ) → m ≡ n → overwrite b at (gather bytes4 (take m (drop i l))) ≡ overwrite b at (gather bytes4 (take n (drop i l)))
cut b l at i m n e = ap (λ (k : ℕ). overwrite b at (gather bytes4 (take k (drop i l)))) e

pub returns : goal.returns
returns c =
    let a = c.args in
    let from = 24 * a.k in
    let m : from + 3 - from ≡ 3 = omega arith in
    let n : from + 7 - (from + 3) ≡ 4 = omega arith in
    let o : from + 24 - (from + 8) ≡ 16 = omega arith in
    level_stored a.levels.now a.k (omega arith) (omega arith) a.b.now c.put_words.new.b c.put_words-2.new.b c.put4.new.b c.put_words-3.new.b (1064 + 96 * a.k) (omega arith)
    (c.put_words.ensures ∙ cut a.b.now a.levels.now (1064 + 96 * a.k) from (from + 3 - from) 3 m) (c.put_words-2.ensures ∙ cut _ a.levels.now (1064 + 96 * a.k + 12) (from + 3) (from + 7 - (from + 3)) 4 n) c.put4.ensures (c.put_words-3.ensures ∙ cut _ a.levels.now (1064 + 96 * a.k + 32) (from + 8) (from + 24 - (from + 8)) 16 o)
