-- References, values and texts. Definitions.
use Rattle.std.specs.Prelude.{ℕ, suc, ◌+◌, ◌-◌, List, [], ◌∷◌, Bool, cond, ◌&&◌, length, drop, get_or, leb, ltb, eqb, Ok, Err}
use Rattle.laws.specs.Reading.{RunNext, go, stop, run}
use Rattle.laws.specs.Text.{bytes}
use Rattle.utf8.specs.declared.Set.TheVariants as set
use Rattle.lexer.specs.Characters.{char_end}
use Rattle.lexer.specs.declared.Stop.TheVariants.{Bad, Cut}
use Rattle.lexer.specs.Reads.{Read}

-- "& starts only &lt; &gt; &amp; &quot; or &apos;"
abbrev pub references : List (List ℕ)
references = bytes "&lt;" ∷ bytes "&gt;" ∷ bytes "&amp;" ∷ bytes "&quot;" ∷ bytes "&apos;" ∷ []

-- how many bytes of a list are those that a word begins with
unfoldable pub common : List ℕ → List ℕ → ℕ
common [] word = 0
common (b ∷ l) [] = 0
common (b ∷ l) (c ∷ word) = cond (eqb b c) (suc (common l word)) 0

-- the end of the first word that stands whole at a place
unfoldable pub whole_of : List ℕ → ℕ → List (List ℕ) → Read → Read
whole_of s at [] other = other
whole_of s at (w ∷ ws) other = cond (eqb (common (drop at s) w) (length w)) (Ok (at + length w)) (whole_of s at ws other)

-- the most bytes that one of the words shares with what stands at a place
unfoldable pub furthest : List ℕ → List (List ℕ) → ℕ
furthest l [] = 0
furthest l (w ∷ ws) = cond (ltb (furthest l ws) (common l w)) (common l w) (furthest l ws)

-- none of the five stands whole at a place: the scene ends inside one; else 2 at the first byte with which none goes on
unfoldable pub no_reference : List ℕ → ℕ → Read
no_reference s at =
    let k = at + furthest (drop at s) references in
    cond (leb (length s) k) (Err Cut) (Err (Bad k))

-- a reference whose & stands at a place
unfoldable pub reference_end : List ℕ → ℕ → Read
reference_end s at = whole_of s at references (no_reference s at)

-- "Text and values must be well-formed UTF-8 of XML characters", "without <": the byte b at a place begins one
unfoldable pub text_at : List ℕ → ℕ → ℕ → Read
text_at s b i = cond (eqb b 0x3C) (Err (Bad i)) (char_end set.Char s i)

-- a reference or a character passed over, from its first byte on
abbrev pub passed_over : ℕ → Read → RunNext ℕ Read
passed_over i (Ok j) = go (j - (i + 1))
passed_over i (Err x) = stop (Err x)

-- "Number 2 goes to .. the first of ]]> in text": its > is the byte b at i. A text begins at a place, and its quote is the <
unfoldable pub closes : List ℕ → ℕ → ℕ → ℕ → ℕ → Bool
closes s at quote b i = eqb quote 0x3C && leb (at + 2) i && eqb b 0x3E && eqb (get_or s (i - 1) 0) 0x5D && eqb (get_or s (i - 2) 0) 0x5D

-- "a value lacks its own quote; & starts only .." In the state: how many bytes of a reference or a character are still to be passed over
abbrev pub value_step : List ℕ → ℕ → ℕ → ℕ → ℕ → ℕ → RunNext ℕ Read
value_step s at quote left b i =
    cond (eqb left 0)
    (cond (eqb b quote) (stop (Ok i))
    (cond (eqb b 0x26) (passed_over i (reference_end s i))
    (cond (closes s at quote b i) (stop (Err (Bad (i - 2)))) (passed_over i (text_at s b i)))))
    (go (left - 1))

-- a value that begins at a place, from i on: the place of its quote. A text is such a value, its quote the <: "complete once the next < is read,
-- which it does not consume"
unfoldable pub value_from : List ℕ → ℕ → ℕ → ℕ → Read
value_from s at quote i = run (Err Cut) (value_step s at quote) 0 (drop i s) i

abbrev pub value_end : List ℕ → ℕ → ℕ → Read
value_end s at quote = value_from s at quote at

abbrev pub text_end : List ℕ → ℕ → Read
text_end s at = value_end s at 0x3C
