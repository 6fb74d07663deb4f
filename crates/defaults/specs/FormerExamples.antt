-- N3's page: T+, T2+, A6+, A3+, byte by byte. With an any rule of validate alone a mode and kind lacks none. Worked examples, by computation.
use Rattle.std.specs.Prelude.{ℕ, ◌≡◌, refl, List, [], ◌∷◌, ◌++◌}
use Rattle.laws.specs.Gather.{gather}
use Rattle.table.specs.Computing as table
use Rattle.table.specs.Examples.{T, T2, rule_bytes}
use Rattle.table.specs.Judge.{judged, said}
use Rattle.model.specs.DefaultExamples.{T+, T2+, A3, A3+, A6, A6+}
use Rattle.defaults.specs.Former.{added_words, with_any}

T-more : (with_any T ≡ T+) × (judged T+ ≡ said 0 26)
unfolding table.computing gather added_words with_any
T-more = (refl, refl)

T2-more : (with_any T2 ≡ T2+) × (judged T2+ ≡ said 0 36)
unfolding table.computing gather added_words with_any
T2-more = (refl, refl)

A6-more : (with_any A6 ≡ A6+) × (judged A6+ ≡ said 0 18)
unfolding table.computing gather added_words with_any
A6-more = (refl, refl)

A3-more : (with_any A3 ≡ A3+) × (judged A3+ ≡ said 0 24)
unfolding table.computing gather added_words with_any
A3-more = (refl, refl)

-- each mode and kind with an any rule of validate
abbrev W : List ℕ
W = (0 ∷ 2 ∷ 1 ∷ 4 ∷ []) ++ rule_bytes 0 0 255 2 0 0 ++ rule_bytes 0 1 255 2 0 0 ++ rule_bytes 1 0 255 2 0 1 ++ rule_bytes 1 1 255 2 0 1

W-lacks-none : (judged W ≡ said 0 20) × (added_words W ≡ []) × (with_any W ≡ W)
unfolding table.computing gather added_words with_any
W-lacks-none = (refl, refl, refl)
