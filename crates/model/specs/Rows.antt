-- A record's bytes from its seven fields, for worked examples. A definition.
use Rattle.std.specs.Prelude.{ℕ, List}
use Rattle.model.specs.Records.{record_bytes}

abbrev pub row : ℕ → ℕ → ℕ → ℕ → ℕ → ℕ → ℕ → List ℕ
row unit kind class at len uri_at uri_len =
    record_bytes unit (record { kind = kind; class = class; at = at; len = len; uri_at = uri_at; uri_len = uri_len })
