-- What is printed of a record is what was written: the fields taken from a record's bytes are the record's.
use Prim.Native.Nat.{ℕ, ◌+◌, ◌*◌, ◌/◌, ◌%◌, ◌<◌}
use mathlib.Core.Path.{◌≡◌}
use native.Mathlib.Omega.{arith}
use Rattle.model.specs.Records.{record_bytes}
use Rattle.records.specs.declared.Row.{Row}
use Rattle.records.specs.Rows.{row_bytes}
use Rattle.printing.specs.Fields.{row_in}

-- the fields are as wide as a record's bytes
pub record Narrow (r : Row) : Type 0 where
  pub unit : r.unit < 65536
  pub kind : r.kind < 256
  pub class : r.class < 256
  pub at : r.at < 16777216
  pub len : r.len < 16777216
  pub uri_at_lem : r.uri_at < 16777216
  pub uri_len_lem : r.uri_len < 16777216

one_back : (n : ℕ) → n < 256 → n % 256 ≡ n
one_back n h = omega arith

two_back : (n : ℕ) → n < 65536 → 256 * (n / 256 % 256) + n % 256 ≡ n
two_back n h = omega arith

three_back : (n : ℕ) → n < 16777216 → 65536 * (n / 65536 % 256) + 256 * (n / 256 % 256) + n % 256 ≡ n
three_back n h = omega arith

pub row_back : (r : Row) → Narrow r → row_in (row_bytes r) ≡ r
unfolding row_bytes record_bytes
row_back r h =
    rw (
      two_back r.unit h.unit,
      one_back r.kind h.kind,
      one_back r.class h.class,
      three_back r.at h.at,
      three_back r.len h.len,
      three_back r.uri_at h.uri_at_lem,
      three_back r.uri_len h.uri_len_lem,
    )
