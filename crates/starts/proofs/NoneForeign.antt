-- Attributes none of which has a section of its own: each attribute's number is 0.
--     zeros_laid                    where there is no section each number is 0
--     zeros_plain                   plain attributes have no section
use Prim.Native.Nat.{ℕ, ◌<◌}
use mathlib.Core.Path.{◌≡◌, refl, sym, ap, ◌∙◌}
use mathlib.Core.List.{List, [], ◌∷◌}
use mathlib.Core.Bool.{true}
use native.Mathlib.Omega.{arith}
use lib.ListN.{length, get_or, length-map}
use Rattle.laws.specs.Lists.{all, tabulate}
use Rattle.laws.specs.Members.{All}
use Rattle.laws.specs.Over.{overwrite}
use Rattle.laws.proofs.Lists.{length_tabulate}
use Rattle.table.specs.Table.{Table, decode}
use Rattle.lexer.specs.declared.Attr.{Attr}
use Rattle.lexer.specs.Attrs.{attrs_in}
use Rattle.reader.specs.Namespaces.{Namespace, nothing}
use Rattle.reader.specs.Stored.{Coded, coded}
use Rattle.reader.specs.Known.{plain_attr}
use Rattle.attributes.specs.Attributes.{Given, namespace_of, givens_of, laid_givens, given_in, code_namespaces, numbers_from, sections_after}
use Rattle.attributes.proofs.Plain.{none_zero_laid}

-- ---- of the attributes as the arrays have them
pub zeros_laid : (s : List ℕ) (e : Namespace) (own outer attributes sections₀ sections : List ℕ) (n m : ℕ)
    → m ≡ length (sections_after s e [] (code_namespaces own outer (tabulate (given_in attributes) 0 n)))
    → sections ≡ overwrite sections₀ 0 (numbers_from s e [] (code_namespaces own outer (tabulate (given_in attributes) 0 n)))
    → m ≡ 0 → (k : ℕ) → k < n → get_or sections k 0 ≡ 0
zeros_laid s e own outer attributes sections₀ sections n m p q z k l =
    let gs = tabulate (given_in attributes) 0 n in
    ap (λ (x : List ℕ). get_or x k 0) q
    ∙ none_zero_laid s e (code_namespaces own outer gs) sections₀ (sym z ∙ p) k (omega (arith, length-map gs (λ (g : Given). namespace_of own outer g.code), length_tabulate (given_in attributes) 0 n))

-- ---- plain attributes
no_codes : (l : List Attr) → All (λ (c : Coded). c.code ≡ 0) (coded l [])
no_codes [] = tt
no_codes (a ∷ l) = (refl, no_codes l)

-- what is held of plain attributes, by the array of a tag's attributes
abbrev pub HeldPlain : List ℕ → ℕ → List ℕ → List ℕ → List ℕ → List ℕ → ℕ → Type 0
HeldPlain attrs count attributes₀ attributes sections₀ sections k =
    (t : Table) (s own outer codes : List ℕ) (e : Namespace) → all (plain_attr s) (attrs_in attrs count) ≡ true → All (λ (c : Coded). c.code ≡ 0) (coded (attrs_in attrs count) codes)
    → (let gs = givens_of t s own outer (coded (attrs_in attrs count) codes) in
    let ns = code_namespaces own outer (tabulate (given_in attributes) 0 k) in
    (k ≡ length gs) × (attributes ≡ laid_givens gs attributes₀) × (0 ≡ length (sections_after s e [] ns)) × (sections ≡ overwrite sections₀ 0 (numbers_from s e [] ns)))

pub zeros_plain : (s attrs : List ℕ) (count : ℕ) (attributes₀ attributes sections₀ sections : List ℕ) (n : ℕ) → HeldPlain attrs count attributes₀ attributes sections₀ sections n
    → all (plain_attr s) (attrs_in attrs count) ≡ true → (k : ℕ) → k < n → get_or sections k 0 ≡ 0
zeros_plain s attrs count attributes₀ attributes sections₀ sections n held p =
    let h = held (decode []) s [] [] [] nothing p (no_codes (attrs_in attrs count)) in
    zeros_laid s nothing [] [] attributes sections₀ sections n 0 h.2 h.3 refl
