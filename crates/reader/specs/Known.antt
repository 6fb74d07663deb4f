-- What is kept beside the bindings: a key of each prefix, by which it is looked up. A device. Definitions.
use Rattle.std.specs.Prelude.{ℕ, zero, suc, ◌+◌, ◌*◌, ◌-◌, ◌<◌, ◌≤◌, ◌≡◌, List, [], ◌∷◌, map, Bool, cond, not, ◌&&◌, length, get_or, eqb, leb}
use Rattle.lexer.specs.declared.Attr.{Attr}
use Rattle.reader.specs.Spans.{bytes_of, has_prefix}
use Rattle.reader.specs.Stored.{binding_in, bindings_in}
use Rattle.reader.specs.declared.Binding.{Binding}
use Rattle.reader.specs.declared.Found.{Found}
use Rattle.reader.specs.declared.bindings.InScope.{InScope}
use Rattle.reader.specs.declared.Found.TheVariants as found

-- bytes behind a number, each in eight bits of their own
unfoldable pub key_from : ℕ → List ℕ → ℕ
key_from k [] = k
key_from k (b ∷ bs) = key_from (256 * k + b) bs

-- a prefix of at most seven bytes as a number, its length in the lowest three bits; a longer one has 8, which is no such number
unfoldable pub key_of : List ℕ → ℕ
key_of prefix = cond (leb (length prefix) 7) (8 * key_from 0 prefix + length prefix) 8

-- the keys of the first n bindings
unfoldable pub keys_in : List ℕ → List ℕ → ℕ → List ℕ
keys_in s l n = map (λ (b : Binding). key_of (bytes_of s b.prefix)) (bindings_in l n)

-- the last of the first so many numbers that is this key, counted from 1; 0 where there is none
unfoldable pub last_key : List ℕ → ℕ → ℕ → ℕ
last_key l zero key = 0
last_key l (suc k) key = cond (eqb (get_or l k 0) key) (suc k) (last_key l k key)

-- the keys of the first n bindings stand from a place on
abbrev pub KeysAt : List ℕ → List ℕ → ℕ → ℕ → List ℕ → Type 0
KeysAt s l n from known = (k : ℕ) → k < n → get_or known (from + k) 0 ≡ key_of (bytes_of s (binding_in l k).prefix)

-- the keys of the open bindings stand first, those of the tag's own behind them
pub record Keyed (s : List ℕ) (d : InScope) : Type 0 where
  pub bound : d.bound ≤ 64
  pub owned : d.owned ≤ 16
  pub outer : KeysAt s d.outer.now d.bound 0 d.known.now
  pub own : KeysAt s d.own.now d.owned d.bound d.known.now

-- what was found is one of so many own declarations, or of so many that are open
abbrev pub Within : ℕ → ℕ → Found → Type 0
Within owned bound found.Nothing = Unit {0}
Within owned bound found.Xml = Unit {0}
Within owned bound (found.Own k) = k < owned
Within owned bound (found.Open k) = k < bound
Within owned bound found.Unbound = Unit {0}

-- an attribute whose name stands in the scene, has no prefix, and is not as long as xmlns: it is in no namespace and declares nothing
unfoldable pub plain_attr : List ℕ → Attr → Bool
plain_attr s a = not (has_prefix a.name) && (not (eqb (a.name.end - a.name.at) 5) && leb a.name.end (length s))
