-- The bytes of an ASCII text, so that a fixed byte string and a worked example can be read. A definition.
use Rattle.std.specs.Prelude.{ℕ, zero, suc, List, [], ◌∷◌}
use Prim.Native.Char.{code}
use Prim.Native.String.{String, len, char_at}

-- n characters from i on
abbrev codes : String → ℕ → ℕ → List ℕ
codes s i zero = []
codes s i (suc n) = code (char_at s i) ∷ codes s (suc i) n

abbrev pub bytes : String → List ℕ
bytes s = codes s 0 (len s)
