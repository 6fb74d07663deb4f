-- Attributes and tags, as bytes: before any prefix is looked up. Definitions.
use Rattle.std.specs.Prelude.{ℕ, zero, suc, ◌+◌, List, [], ◌∷◌, ◌++◌, Bool, true, false, cond, ◌||◌, length, eqb, Ok, Err}
use Rattle.laws.specs.Reading.{peek}
use Rattle.lexer.specs.Stops.{after_read, after_name}
use Rattle.utf8.specs.declared.Set.TheVariants as set
use Rattle.characters.specs.CanBegin.{begins}
use Rattle.lexer.specs.Names.{spaces_end, name_at}
use Rattle.lexer.specs.Values.{value_end}
use Rattle.lexer.specs.declared.Stop.{Stop}
use Rattle.lexer.specs.declared.Stop.TheVariants.{Bad, Long, Cut}
use Rattle.lexer.specs.Reads.{Read, Attributed, TurnRead, Tagged, Ended}
use Rattle.lexer.specs.declared.Name.{Name}
use Rattle.lexer.specs.declared.Attr.{Attr}
use Rattle.lexer.specs.declared.Turn.TheVariants as turn

-- this byte at this place: the place behind it
unfoldable pub wanted : List ℕ → ℕ → ℕ → Read
wanted s at byte = peek (Err Cut) s at (λ (b : ℕ). cond (eqb b byte) (Ok (at + 1)) (Err (Bad at)))

-- "optional space, =, optional space": the place of the quote
unfoldable pub equals_end : List ℕ → ℕ → Read
equals_end s at =
    after_read Err (spaces_end s at) (λ (i : ℕ).
    after_read Err (wanted s i 0x3D) (λ (j : ℕ). spaces_end s j))

abbrev pub attr_of : Name → ℕ → ℕ → Attr
attr_of name value stop = record { name = name; value = value; stop = stop }

-- "value in \" or '", the quote at a place, behind a name
unfoldable pub quoted_at : List ℕ → Name → ℕ → Attributed
quoted_at s name at =
    peek (Err Cut) s at (λ (q : ℕ).
    cond (eqb q 0x22 || eqb q 0x27)
    (after_read Err (value_end s (at + 1) q) (λ (stop : ℕ). Ok (attr_of name (at + 1) stop)))
    (Err (Bad at)))

-- "name, optional space, =, optional space, value in \" or '", from the name's first byte on
unfoldable pub attribute_at : List ℕ → ℕ → Attributed
attribute_at s at =
    after_name Err (name_at s at) (λ (name : Name).
    after_read Err (equals_end s name.end) (λ (quote : ℕ). quoted_at s name quote))

-- "/>", its / at a place
unfoldable pub slash_at : List ℕ → ℕ → TurnRead
slash_at s at = after_read Err (wanted s (at + 1) 0x3E) (λ (next : ℕ). Ok (turn.Close next true))

-- behind the space from a place to i: "Space between attributes is required"
unfoldable pub turn_behind : List ℕ → ℕ → ℕ → TurnRead
turn_behind s at i =
    peek (Err Cut) s i (λ (b : ℕ).
    cond (eqb b 0x3E) (Ok (turn.Close (i + 1) false))
    (cond (eqb b 0x2F) (slash_at s i)
    (cond (eqb i at) (Err (Bad i))
    (cond (begins set.Start [] b) (Ok (turn.Attribute i)) (Err (Bad i))))))

-- behind a tag's name or an attribute: "(space, name, ..), optional space, > or />"
unfoldable pub turn_at : List ℕ → ℕ → TurnRead
turn_at s at = after_read Err (spaces_end s at) (λ (i : ℕ). turn_behind s at i)

-- What reading a start tag finds: the attributes that were read, also where it stops
pub record TagRead : Type 0 where
  pub attrs : List Attr
  pub answer : Tagged

abbrev pub tag_stopped : List Attr → Stop → TagRead
tag_stopped l x = record { attrs = l; answer = Err x }

abbrev pub tag_closed : Name → List Attr → ℕ → Bool → TagRead
tag_closed name l next empty = record { attrs = l; answer = Ok (record { name = name; count = length l; next = next; empty = empty }) }

-- where sixteen attributes were read: "3 .. first byte of a 17th attribute"
abbrev pub full_turn : Name → List Attr → TurnRead → TagRead
full_turn name l (Ok (turn.Close next empty)) = tag_closed name l next empty
full_turn name l (Ok (turn.Attribute i)) = tag_stopped l (Long i)
full_turn name l (Err x) = tag_stopped l x

-- an attribute more, if it can be read
abbrev pub attr_then : (List Attr → ℕ → TagRead) → List Attr → Attributed → TagRead
attr_then more l (Ok a) = more (l ++ (a ∷ [])) (a.stop + 1)
attr_then more l (Err x) = tag_stopped l x

abbrev pub turn_then : List ℕ → (List Attr → ℕ → TagRead) → Name → List Attr → TurnRead → TagRead
turn_then s more name l (Ok (turn.Close next empty)) = tag_closed name l next empty
turn_then s more name l (Ok (turn.Attribute i)) = attr_then more l (attribute_at s i)
turn_then s more name l (Err x) = tag_stopped l x

-- behind the attributes in l, from a place on, with room for so many more
unfoldable pub attrs_from : List ℕ → Name → List Attr → ℕ → ℕ → TagRead
attrs_from s name l zero at = full_turn name l (turn_at s at)
attrs_from s name l (suc room) at = turn_then s (λ (l' : List Attr) (i : ℕ). attrs_from s name l' room i) name l (turn_at s at)

-- "A start tag is <, name, any number of (..), optional space, > or />", from behind the < on. "At most 16 attributes, declarations counted"
unfoldable pub tag_at : List ℕ → ℕ → TagRead
tag_at s at = after_name (tag_stopped []) (name_at s at) (λ (name : Name). attrs_from s name [] 16 name.end)

-- "An end tag is </, name, optional space, >", from behind the </ on
unfoldable pub end_tag_at : List ℕ → ℕ → Ended
end_tag_at s at =
    after_name Err (name_at s at) (λ (name : Name).
    after_read Err (spaces_end s name.end) (λ (i : ℕ).
    after_read Err (wanted s i 0x3E) (λ (next : ℕ). Ok (record { name = name; next = next }))))
