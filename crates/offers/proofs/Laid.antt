-- An offer's bytes, laid one part behind the other.
use Prim.Native.Nat.{ℕ, ◌+◌, ◌<◌}
use mathlib.Core.Path.{◌≡◌, refl, ap, ◌∙◌}
use mathlib.Core.List.{List, [], ◌∷◌, ◌++◌}
use native.Mathlib.Omega.{arith}
use lib.ListN.{length, get_or, set, take}
use Rattle.laws.specs.Over.{overwrite}
use Rattle.laws.proofs.Over.{over_copy}
use Rattle.layout.specs.Layout.{session_size, bytes8}
use Rattle.layout.proofs.Stored.{over_chain}
use Rattle.offers.specs.Layout.{offer_bytes}

-- a byte more of a session's
pub copy_more : (b c : List ℕ) (at : ℕ) (session : List ℕ) (i : ℕ) → i < length session → at + i < length b
    → c ≡ overwrite b at (take i session) → set c (at + i) (get_or session i 0) ≡ overwrite b at (take (i + 1) session)
copy_more b c at session i h k e = ap (λ (l : List ℕ). set l (at + i) (get_or session i 0)) e ∙ over_copy b at session i 0 h k

-- the version, the scene's length, the session
pub offer_laid : (b b₁ b₂ b₃ session : List ℕ) (n : ℕ) → b₁ ≡ overwrite b 0 (bytes8 1) → b₂ ≡ overwrite b₁ 8 (bytes8 n) → b₃ ≡ overwrite b₂ 16 (take session_size session)
    → b₃ ≡ overwrite b 0 (offer_bytes session n)
unfolding offer_bytes
offer_laid b b₁ b₂ b₃ session n e₁ e₂ e₃ =
    let first : List ℕ = 1 ∷ 0 ∷ 0 ∷ 0 ∷ 0 ∷ 0 ∷ 0 ∷ 0 ∷ [] in
    let f₂ : b₂ ≡ overwrite b 0 (first ++ bytes8 n) = over_chain b b₁ b₂ 0 8 first (bytes8 n) (omega arith) refl e₁ e₂ in
    over_chain b b₂ b₃ 0 16 (first ++ bytes8 n) (take session_size session) (omega arith) refl f₂ e₃
