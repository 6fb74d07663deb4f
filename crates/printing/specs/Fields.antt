-- 'Records': "16 bytes, most significant bit first: unit 16, kind 8, class 8, offset 24, length 24, URI offset 24, URI length 24". Definitions.
use Rattle.std.specs.Prelude.{ℕ, ◌+◌, ◌*◌, List, get_or}
use Rattle.records.specs.declared.Row.{Row}

abbrev pub byte_at : List ℕ → ℕ → ℕ
byte_at bytes i = get_or bytes i 0

abbrev pub three_at : List ℕ → ℕ → ℕ
three_at bytes i = 65536 * byte_at bytes i + 256 * byte_at bytes (i + 1) + byte_at bytes (i + 2)

-- the fields of the record that the bytes begin with
abbrev pub row_in : List ℕ → Row
row_in bytes =
    record {
      unit = 256 * byte_at bytes 0 + byte_at bytes 1;
      kind = byte_at bytes 2;
      class = byte_at bytes 3;
      at = three_at bytes 4;
      len = three_at bytes 7;
      uri_at = three_at bytes 10;
      uri_len = three_at bytes 13;
    }
