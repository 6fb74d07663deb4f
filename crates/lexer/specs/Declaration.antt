-- The declaration: productions 23 to 26, 32, 80 and 81 of XML 1.0, fifth edition; what cannot go on with them is refused at its first byte. Definitions.
use Rattle.std.specs.Prelude.{ℕ, ◌+◌, List, [], ◌∷◌, Bool, false, cond, ◌&&◌, ◌||◌, drop, eqb, Ok, Err}
use Rattle.laws.specs.Reading.{RunNext, go, stop, run, peek}
use Rattle.laws.specs.Text.{bytes}
use Rattle.lexer.specs.Stops.{after_read}
use Rattle.lexer.specs.Names.{is_space, spaces_end, within}
use Rattle.lexer.specs.Tags.{wanted, equals_end, slash_at}
use Rattle.lexer.specs.declared.Stop.TheVariants.{Bad, Cut}
use Rattle.lexer.specs.Reads.{Read, TurnRead}
use Rattle.lexer.specs.declared.Turn.TheVariants as turn
use Rattle.lexer.specs.declared.Field.{Field}
use Rattle.lexer.specs.declared.Field.TheVariants as field

-- a fixed word at a place: the place behind it
unfoldable pub word_end : List ℕ → ℕ → List ℕ → Read
word_end s at [] = Ok at
word_end s at (c ∷ word) = after_read Err (wanted s at c) (λ (i : ℕ). word_end s i word)

abbrev pub is_digit : ℕ → Bool
is_digit b = within 0x30 0x39 b

abbrev pub is_letter : ℕ → Bool
is_letter b = within 0x41 0x5A b || within 0x61 0x7A b

-- [26] VersionNum ::= '1.' [0-9]+; [81] EncName ::= [A-Za-z] ([A-Za-z0-9._] | '-')*: the bytes that may stand any number of times
abbrev pub is_field_byte : Field → ℕ → Bool
is_field_byte field.Version b = is_digit b
is_field_byte field.Encoding b = is_letter b || is_digit b || eqb b 0x2E || eqb b 0x5F || eqb b 0x2D
is_field_byte field.Standalone b = false

-- a byte or more of these, and the quote: the place behind it. In the state: 1 behind a byte
abbrev pub some_step : Field → ℕ → ℕ → ℕ → ℕ → RunNext ℕ Read
some_step f quote q b i = cond (eqb q 1 && eqb b quote) (stop (Ok (i + 1))) (cond (is_field_byte f b) (go 1) (stop (Err (Bad i))))

unfoldable pub some_end : List ℕ → Field → ℕ → ℕ → Read
some_end s f at quote = run (Err Cut) (some_step f quote) 0 (drop at s) at

-- a VersionNum, and an EncName from its first letter on, with the quote
unfoldable pub version_end : List ℕ → ℕ → ℕ → Read
version_end s at quote = after_read Err (word_end s at (bytes "1.")) (λ (i : ℕ). some_end s field.Version i quote)

unfoldable pub encoding_end : List ℕ → ℕ → ℕ → Read
encoding_end s at quote = peek (Err Cut) s at (λ (b : ℕ). cond (is_letter b) (some_end s field.Encoding at quote) (Err (Bad at)))

-- 'yes' | 'no'
unfoldable pub answer_end : List ℕ → ℕ → Read
answer_end s at = peek (Err Cut) s at (λ (b : ℕ). cond (eqb b 0x79) (word_end s at (bytes "yes")) (word_end s at (bytes "no")))

unfoldable pub standalone_end : List ℕ → ℕ → ℕ → Read
standalone_end s at quote = after_read Err (answer_end s at) (λ (i : ℕ). wanted s i quote)

abbrev pub field_word : Field → List ℕ
field_word field.Version = bytes "version"
field_word field.Encoding = bytes "encoding"
field_word field.Standalone = bytes "standalone"

-- a field's value and the quote: the place behind it
abbrev pub field_value : Field → List ℕ → ℕ → ℕ → Read
field_value field.Version = version_end
field_value field.Encoding = encoding_end
field_value field.Standalone = standalone_end

-- a value of a field in " or ', its quote at a place
unfoldable pub quoted_end : List ℕ → Field → ℕ → Read
quoted_end s f at =
    peek (Err Cut) s at (λ (q : ℕ). cond (eqb q 0x22 || eqb q 0x27) (field_value f s (at + 1) q) (Err (Bad at)))

-- [24] VersionInfo ::= S 'version' Eq ("'" VersionNum "'" | '"' VersionNum '"')
-- [80] EncodingDecl ::= S 'encoding' Eq ('"' EncName '"' | "'" EncName "'")
-- [32] SDDecl ::= S 'standalone' Eq (("'" ('yes' | 'no') "'") | ('"' ('yes' | 'no') '"')), each from behind its S on. [25] Eq ::= S? '=' S?
unfoldable pub field_end : List ℕ → Field → ℕ → Read
field_end s f at =
    after_read Err (word_end s at (field_word f)) (λ (i : ℕ).
    after_read Err (equals_end s i) (λ (j : ℕ). quoted_end s f j))

-- behind the space from a place to i: "?>" as "/>" of a tag, or a word
unfoldable pub turn_from : List ℕ → ℕ → ℕ → TurnRead
turn_from s at i =
    peek (Err Cut) s i (λ (b : ℕ). cond (eqb b 0x3F) (slash_at s i) (cond (eqb i at) (Err (Bad i)) (Ok (turn.Attribute i))))

-- behind a field: S? '?>', or S and a field that may follow
unfoldable pub field_turn : List ℕ → ℕ → TurnRead
field_turn s at = after_read Err (spaces_end s at) (λ (i : ℕ). turn_from s at i)

abbrev pub field_then : (ℕ → Read) → TurnRead → Read
field_then more (Ok (turn.Close next empty)) = Ok next
field_then more (Ok (turn.Attribute i)) = more i
field_then more (Err x) = Err x

-- behind the last field: S? '?>'
unfoldable pub last_rest : List ℕ → ℕ → Read
last_rest s at = field_then (λ (i : ℕ). Err (Bad i)) (field_turn s at)

-- SDDecl S? '?>', its word at a place; SDDecl? S? '?>', behind an EncodingDecl
unfoldable pub standalone_then : List ℕ → ℕ → Read
standalone_then s at = after_read Err (field_end s field.Standalone at) (λ (i : ℕ). last_rest s i)

unfoldable pub encoding_rest : List ℕ → ℕ → Read
encoding_rest s at = field_then (λ (i : ℕ). standalone_then s i) (field_turn s at)

-- EncodingDecl SDDecl? S? '?>', its word at a place; the same or an SDDecl; EncodingDecl? SDDecl? S? '?>', behind the VersionInfo
unfoldable pub encoding_then : List ℕ → ℕ → Read
encoding_then s at = after_read Err (field_end s field.Encoding at) (λ (i : ℕ). encoding_rest s i)

unfoldable pub either_then : List ℕ → ℕ → Read
either_then s at = peek (Err Cut) s at (λ (b : ℕ). cond (eqb b 0x65) (encoding_then s at) (standalone_then s at))

unfoldable pub version_rest : List ℕ → ℕ → Read
version_rest s at = field_then (λ (i : ℕ). either_then s i) (field_turn s at)

-- VersionInfo EncodingDecl? SDDecl? S? '?>', its word at a place
unfoldable pub version_then : List ℕ → ℕ → Read
version_then s at = after_read Err (field_end s field.Version at) (λ (i : ℕ). version_rest s i)

-- [23] XMLDecl ::= '<?xml' VersionInfo EncodingDecl? SDDecl? S? '?>', from behind the <?xml on
unfoldable pub declaration_end : List ℕ → ℕ → Read
declaration_end s at =
    peek (Err Cut) s at (λ (b : ℕ).
    cond (is_space b) (after_read Err (spaces_end s at) (λ (i : ℕ). version_then s i)) (Err (Bad at)))
