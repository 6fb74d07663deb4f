-- A table's rules unpacked once, so that the rules of (mode, kind, class) are found without a search over all. A device: what it finds is
-- `rules_of`, by the laws of proofs/Index.antt. Definitions.
--     places 0 to 127      the rule words
--     128 + b              the first rule of the mode and kind b; 192 + b: the place behind its last, 0 where there is none
use Rattle.std.specs.Prelude.{ℕ, zero, suc, ◌+◌, ◌*◌, ◌/◌, ◌-◌, ◌^◌, ◌%◌, List, [], ◌∷◌, cond, get_or, set, replicate, eqb, leb, ltb}
use Rattle.laws.specs.Lists.{tabulate}
use Rattle.table.specs.Table.{word_at}
use Rattle.table.specs.declared.Header.{Header}
use Rattle.table.specs.declared.Chosen.{Chosen}

-- mode and kind; mode, kind and class
abbrev pub bucket_of : ℕ → ℕ
bucket_of w = w / 2 ^ 26 % 64

abbrev pub key_of : ℕ → ℕ
key_of w = w / 2 ^ 18

-- the i-th rule put into the index
abbrev pub indexed : List ℕ → ℕ → ℕ → List ℕ
indexed l i w =
    set
    (set (set l i w) (128 + bucket_of w) (cond (eqb (get_or l (192 + bucket_of w) 0) 0) i (get_or l (128 + bucket_of w) 0)))
    (192 + bucket_of w)
    (i + 1)

unfoldable pub index_from : List ℕ → ℕ → List ℕ → List ℕ
index_from [] i l = l
index_from (w ∷ ws) i l = index_from ws (i + 1) (indexed l i w)

-- at most 128: an accepted table has no more rules
abbrev pub up_to : ℕ → ℕ
up_to n = cond (leb n 128) n 128

unfoldable pub index_of : List ℕ → Header → List ℕ
index_of t h = index_from (tabulate (word_at t) 0 (up_to h.rules)) 0 (replicate 256 0)

-- the first of n rules from the i-th on that has this key; `end` where there is none
unfoldable pub next_from : List ℕ → ℕ → ℕ → ℕ → ℕ → ℕ
next_from l end key i zero = end
next_from l end key i (suc n) = cond (eqb (key_of (get_or l i 0)) key) i (next_from l end key (i + 1) n)

-- the first from `from` on and before `end`, which is at most 128
unfoldable pub next_rule : List ℕ → ℕ → ℕ → ℕ → ℕ
next_rule l from end key = next_from l (up_to end) key from (up_to end - from)

-- the i-th rule word; 0 past the rules
abbrev pub word_in : List ℕ → ℕ → ℕ
word_in l i = cond (ltb i 128) (get_or l i 0) 0

abbrev pub bucket : ℕ → ℕ → ℕ
bucket mode kind = mode % 32 * 2 + kind % 2

-- where the rules of a mode and a kind begin and end
abbrev pub first_of : List ℕ → ℕ → ℕ
first_of l b = get_or l (128 + b) 0

abbrev pub end_of : List ℕ → ℕ → ℕ
end_of l b = up_to (get_or l (192 + b) 0)

-- those naming the class if there is one, else those naming any: their key, the first of them, the end of their window
unfoldable pub chosen_of : List ℕ → ℕ → ℕ → ℕ → Chosen
chosen_of l mode kind class =
    let b = bucket mode kind in
    let naming = next_rule l (first_of l b) (end_of l b) (b * 256 + class) in
    cond (ltb naming (end_of l b))
    (record { key = b * 256 + class; first = naming; end = end_of l b })
    (record { key = b * 256 + 255; first = next_rule l (first_of l b) (end_of l b) (b * 256 + 255); end = end_of l b })
