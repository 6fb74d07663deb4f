-- Numbers 10, 11 and 12: "Order: 10 short, 11 header, 10, 11, 12". Definitions.
use Rattle.std.specs.Prelude.{ℕ, zero, suc, ◌+◌, ◌*◌, List, [], ◌∷◌, Bool, false, cond, not, ◌&&◌, ◌||◌, length, drop, leb, ltb, eqb}
use Rattle.laws.specs.Lists.{same_list, any, all, any_pair}
use Rattle.compare.specs.Compare.{xml_uri}
use Rattle.table.specs.Table.{header_of, words_of, fields_of, uris_of}
use Rattle.table.specs.declared.Answer.{Answer}
use Rattle.table.specs.declared.Header.{Header}
use Rattle.table.specs.declared.Fields.{Fields}

-- "Judge, step and run hand back number, place, events, records": of judge no events and no records
abbrev pub said : ℕ → ℕ → Answer
said number place = record { number = number; place = place; events = 0; records = 0 }

-- "N namespaces (0 to 30), M modes (1 to 32), S schemas (0 to 64), R rules (0 to 128)"
abbrev pub header_fits : Header → Bool
header_fits h = leb h.namespaces 30 && (leb 1 h.modes && (leb h.modes 32 && (leb h.schemas 64 && leb h.rules 128)))

-- n URIs, each a length and so many bytes, and nothing behind them
unfoldable pub uris_fill : ℕ → List ℕ → Bool
uris_fill zero l = eqb (length l) 0
uris_fill (suc n) [] = false
uris_fill (suc n) (k ∷ l) = leb k (length l) && uris_fill n (drop k l)

-- 10: the table is as long as it needs
abbrev pub length_fits : List ℕ → Header → Bool
length_fits t h = leb (4 + 4 * h.rules) (length t) && uris_fill h.namespaces (drop (4 + 4 * h.rules) t)

-- "A rule may name 0, 1 to N, 254, 255. Modes are below M. Schema is below S for validate, else zero"; "action 3, zero bits set"
abbrev pub fields_fit : Header → Fields → Bool
fields_fit h f =
    ltb f.mode h.modes
    && ((leb f.class h.namespaces || leb 254 f.class)
    && ((eqb f.action 2 && ltb f.schema h.schemas || ltb f.action 2 && eqb f.schema 0)
    && (ltb f.next h.modes && eqb f.zeros 0)))

abbrev pub word_fits : Header → ℕ → Bool
word_fits h w = fields_fit h (fields_of w)

-- "length 8 (1 to 255)"; "URI length 0"
abbrev pub is_empty : List ℕ → Bool
is_empty uri = eqb (length uri) 0

-- attach or unwrap
abbrev pub keeps : Fields → Bool
keeps f = ltb f.action 2

abbrev pub same_rule_key : Fields → Fields → Bool
same_rule_key f g = eqb f.mode g.mode && (eqb f.kind g.kind && eqb f.class g.class)

-- "a rule repeated, or two attach/unwrap rules for one mode, kind, class"
abbrev pub rules_clash : ℕ → ℕ → Bool
rules_clash v w = eqb v w || same_rule_key (fields_of v) (fields_of w) && (keeps (fields_of v) && keeps (fields_of w))

-- 12: "URI listed twice or that of xml"
abbrev pub uris_clash : List (List ℕ) → Bool
uris_clash us = any (λ (u : List ℕ). same_list u xml_uri) us || any_pair same_list us

-- "10 table under 4 bytes or of another length than it needs (0); 11 field out of range, action 3, zero bits set, URI length 0 (0);
-- 12 URI listed twice or that of xml, a rule repeated, or two attach/unwrap rules for one mode, kind, class (0)"
-- "if 0 .. from judge the table's length"
unfoldable pub judged : List ℕ → Answer
judged t =
    let h = header_of t in
    cond (ltb (length t) 4) (said 10 0)
    (cond (not (header_fits h)) (said 11 0)
    (cond (not (length_fits t h)) (said 10 0)
    (cond (not (all (word_fits h) (words_of t h)) || any is_empty (uris_of t h)) (said 11 0)
    (cond (any_pair rules_clash (words_of t h) || uris_clash (uris_of t h)) (said 12 0)
    (said 0 (length t))))))

-- a table that judge answers with 0
abbrev pub Accepted : List ℕ → Bool
Accepted t = eqb (judged t).number 0
