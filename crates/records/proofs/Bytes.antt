-- A row has 16 bytes, and which they are.
use mathlib.Core.Path.{◌≡◌, refl}
use mathlib.Core.List.{List, [], ◌∷◌}
use Prim.Native.Nat.{◌*◌, ◌/◌, ◌%◌, ◌<◌}
use native.Mathlib.Nat.{mod-eq_of_lt}
use native.Mathlib.Omega.{arith}
use lib.ListN.{length, length-append}
use Rattle.laws.specs.Gather.{gather}
use Rattle.model.specs.Records.{record_bytes}
use Rattle.records.specs.declared.Row.{Row}
use Rattle.records.specs.Rows.{row_bytes}

pub row_length : (r : Row) → length (row_bytes r) ≡ 16
unfolding row_bytes record_bytes
row_length r = refl

pub rows_length : (rs : List Row) → length (gather row_bytes rs) ≡ 16 * length rs
unfolding gather
rows_length [] = refl
rows_length (r ∷ rs) = omega (arith, length-append (row_bytes r) (gather row_bytes rs), row_length r, rows_length rs)

-- the kind and the class are bytes already
pub row_bytes_lem : (r : Row) → r.kind < 256 → r.class < 256
    → r.unit / 256 % 256 ∷ r.unit % 256 ∷ r.kind ∷ r.class
    ∷ r.at / 65536 % 256 ∷ r.at / 256 % 256 ∷ r.at % 256
    ∷ r.len / 65536 % 256 ∷ r.len / 256 % 256 ∷ r.len % 256
    ∷ r.uri_at / 65536 % 256 ∷ r.uri_at / 256 % 256 ∷ r.uri_at % 256
    ∷ r.uri_len / 65536 % 256 ∷ r.uri_len / 256 % 256 ∷ r.uri_len % 256
    ∷ []
    ≡ row_bytes r
unfolding row_bytes record_bytes
row_bytes_lem r k c = rw (mod-eq_of_lt k, mod-eq_of_lt c)
