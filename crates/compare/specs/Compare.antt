-- Bytes compared: "equal byte for byte"; "fixed byte strings compared for references and the reserved namespace URIs". Definitions.
use Rattle.std.specs.Prelude.{ℕ, ◌+◌, cond, List, leb, length, take, drop}
use Rattle.std.specs.Borrow.{Bor}
use Rattle.laws.specs.Text.{bytes}

-- the n bytes of s from at on; where s has fewer, what it has
abbrev pub span_of : List ℕ → ℕ → ℕ → List ℕ
span_of s at n = take n (drop at s)

-- where that part begins in s: at; past the end of s it is the empty part at the start of s
abbrev pub span_start : List ℕ → ℕ → ℕ
span_start s at = cond (leb at (length s)) at 0

-- where a part of the lent slice s points that begins at the place k of it: to the same memory, k bytes on
abbrev pub place_in : Bor (List ℕ) → ℕ → ℕ × ℕ
place_in s k = (s.ref_ptr.0, s.ref_ptr.1 + k)

-- "the namespace of prefix xml, http://www.w3.org/XML/1998/namespace"
abbrev pub xml_uri : List ℕ
xml_uri = bytes "http://www.w3.org/XML/1998/namespace"

-- "http://www.w3.org/2000/xmlns/"
abbrev pub xmlns_uri : List ℕ
xmlns_uri = bytes "http://www.w3.org/2000/xmlns/"
