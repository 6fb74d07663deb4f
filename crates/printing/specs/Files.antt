-- What reading a file gives. Definitions.
use Rattle.std.specs.Prelude.{◌≡◌, ◌≤◌, List, ℕ, length}
use Rattle.std.specs.Borrow.{Bor, MutBor}

-- the bytes that were read are the first of the lent buffer
abbrev pub Within : Bor (List ℕ) → MutBor (List ℕ) → Type 0
Within bytes buffer = (bytes.ref_ptr ≡ buffer.ref_ptr) × (length bytes.now ≤ length buffer.now)
