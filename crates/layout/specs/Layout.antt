-- The layout of a session in bytes, for hosts: fixed, little-endian, 7,208 bytes. Definitions.
--     0       version, 1
--     1, 2    whether the root has closed, whether the end of a /> is awaited: 0 or 1
--     3       five zero bytes
--     8       place, units, depth, bound: eight bytes each
--     40      64 bindings: prefix's place and length, URI's place and length; four bytes each
--     1064    64 levels of 96 bytes: name's place and length, count of bindings, class, URI's place and length, count of strands, four zero bytes;
--             then sixteen strands; four bytes each
use Rattle.std.specs.Prelude.{ℕ, ◌+◌, ◌*◌, ◌/◌, ◌%◌, ◌^◌, List, [], ◌∷◌, ◌++◌, Bool, true, false, ◌&&◌, get_or, take, drop, eqb, leb}
use Rattle.laws.specs.Lists.{all, tabulate}
use Rattle.laws.specs.Gather.{gather}
use Rattle.strands.specs.Packed.{strand_in, packed}
use Rattle.sessions.specs.Session.{Session}

abbrev pub session_size : ℕ
session_size = 7208

-- a number of four and of eight bytes, the least significant first
abbrev pub word4 : List ℕ → ℕ → ℕ
word4 b at = get_or b at 0 + get_or b (at + 1) 0 * 2 ^ 8 + get_or b (at + 2) 0 * 2 ^ 16 + get_or b (at + 3) 0 * 2 ^ 24

abbrev pub word8 : List ℕ → ℕ → ℕ
word8 b at = word4 b at + word4 b (at + 4) * 2 ^ 32

abbrev pub bytes4 : ℕ → List ℕ
bytes4 n = n % 2 ^ 8 ∷ n / 2 ^ 8 % 2 ^ 8 ∷ n / 2 ^ 16 % 2 ^ 8 ∷ n / 2 ^ 24 % 2 ^ 8 ∷ []

abbrev pub bytes8 : ℕ → List ℕ
bytes8 n = bytes4 (n % 2 ^ 32) ++ bytes4 (n / 2 ^ 32)

abbrev pub flag : Bool → ℕ
flag false = 0
flag true = 1

-- where the numbers of the session's arrays stand
abbrev pub binding_at : ℕ → ℕ
binding_at i = 40 + 4 * i

abbrev pub level_at : ℕ → ℕ
level_at i = 1064 + 96 * (i / 3) + 4 * (i % 3)

abbrev pub space_at : ℕ → ℕ
space_at i = 1064 + 96 * (i / 4) + 12 + 4 * (i % 4)

abbrev pub strand_at : ℕ → ℕ
strand_at i = 1064 + 96 * (i / 16) + 32 + 4 * (i % 16)

-- the session that bytes hold
unfoldable pub session_in : List ℕ → Session
session_in b =
    record {
      place = word8 b 8;
      units = word8 b 16;
      closed = eqb (get_or b 1 0) 1;
      awaited = eqb (get_or b 2 0) 1;
      scope =
          record {
            depth = word8 b 24;
            bound = word8 b 32;
            levels = tabulate (λ (i : ℕ). word4 b (level_at i)) 0 192;
            bindings = tabulate (λ (i : ℕ). word4 b (binding_at i)) 0 256;
          };
      spaces = tabulate (λ (i : ℕ). word4 b (space_at i)) 0 256;
      strands = tabulate (λ (i : ℕ). word4 b (strand_at i)) 0 1024;
    }

-- a number that packs a strand: no action 3, no target without the bit that says so, nothing above
abbrev pub packs : ℕ → Bool
packs w = eqb (packed (strand_in w)) w

-- bytes that hold a session
unfoldable pub holds_session : List ℕ → Bool
holds_session b =
    eqb (get_or b 0 0) 1
    && (leb (get_or b 1 0) 1
    && (leb (get_or b 2 0) 1
    && (all (λ (i : ℕ). eqb (get_or b i 0) 0) (tabulate (λ (i : ℕ). i) 3 5)
    && (all (λ (k : ℕ). eqb (word4 b (1064 + 96 * k + 28)) 0) (tabulate (λ (k : ℕ). k) 0 64)
    && all (λ (i : ℕ). packs (word4 b (strand_at i))) (tabulate (λ (i : ℕ). i) 0 1024)))))

-- the bytes of a session
abbrev pub level_bytes : Session → ℕ → List ℕ
level_bytes z k =
    gather bytes4 (take 3 (drop (3 * k) z.scope.levels))
    ++ gather bytes4 (take 4 (drop (4 * k) z.spaces))
    ++ (bytes4 0 ++ gather bytes4 (take 16 (drop (16 * k) z.strands)))

unfoldable pub session_bytes : Session → List ℕ
session_bytes z =
    (1 ∷ flag z.closed ∷ flag z.awaited ∷ 0 ∷ 0 ∷ 0 ∷ 0 ∷ 0 ∷ [])
    ++ bytes8 z.place
    ++ bytes8 z.units
    ++ bytes8 z.scope.depth
    ++ bytes8 z.scope.bound
    ++ gather bytes4 z.scope.bindings
    ++ gather (level_bytes z) (tabulate (λ (k : ℕ). k) 0 64)
