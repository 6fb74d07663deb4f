-- Where the listed URIs stand: "the table's own bytes for a listed class". Definitions.
use Rattle.std.specs.Prelude.{ℕ, zero, suc, ◌+◌, ◌*◌, ◌-◌, List, [], ◌∷◌, Option, None, cond, length, drop, slice_get, leb, ltb}
use Rattle.table.specs.declared.Header.{Header}
use Rattle.table.specs.declared.Listed.{Listed}

abbrev pub placed : ℕ → ℕ → Listed
placed at len = record { at = at; len = len }

-- the places of the URIs that `uris_from` gives, the list beginning at p
unfoldable pub places_from : ℕ → ℕ → List ℕ → List Listed
places_from zero p l = []
places_from (suc n) p [] = []
places_from (suc n) p (k ∷ l) = cond (leb k (length l)) (placed (p + 1) k ∷ places_from n (p + 1 + k) (drop k l)) []

abbrev pub places_of : List ℕ → Header → List Listed
places_of t h = places_from h.namespaces (4 + 4 * h.rules) (drop (4 + 4 * h.rules) t)

-- "1 to N listed": where the URI of a class stands; none for a class that is not listed
unfoldable pub place_of : List ℕ → Header → ℕ → Option Listed
place_of t h class = cond (ltb 0 class) (slice_get (places_of t h) (class - 1)) None
