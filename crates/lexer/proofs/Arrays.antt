-- Attributes in an array of numbers: one stored, those laid into it, those past its end.
use Prim.Native.Nat.{ℕ, suc, ◌+◌, ◌*◌, ◌≤◌, ◌<◌}
use mathlib.Core.Path.{◌≡◌, refl, sym, ap, ◌∙◌}
use mathlib.Core.List.{List, [], ◌∷◌, ◌++◌, append_assoc}
use native.Mathlib.Omega.{arith}
use borrow.Author.Tests.{le-leb}
use lib.ListN.{length, set, drop, length-append, length-drop, get_or-eq_default}
use lib.Seq.{get_or-append-add, get_or_at, take_at, drop-append-add, drop-drop, append_snoc}
use Rattle.laws.specs.Over.{overwrite}
use Rattle.laws.specs.Gather.{gather}
use Rattle.laws.specs.Lists.{tabulate}
use Rattle.laws.proofs.Over.{set_over, over_set}
use Rattle.laws.proofs.Gather.{gather_append}
use Rattle.lexer.specs.Attrs.{attr_numbers, laid, attr_in, attrs_in}
use Rattle.lexer.specs.declared.Attr.{Attr}

-- five numbers stored, one behind the other
pub five_over : (xs : List ℕ) (i a b c d e : ℕ) → i + 4 < length xs → set (set (set (set (set xs i a) (i + 1) b) (i + 2) c) (i + 3) d) (i + 4) e ≡ overwrite xs i (a ∷ b ∷ c ∷ d ∷ e ∷ [])
five_over xs i a b c d e h =
    ap (λ (r : List ℕ). set (set (set (set r (i + 1) b) (i + 2) c) (i + 3) d) (i + 4) e) (set_over xs i a (omega arith))
    ∙ ap (λ (r : List ℕ). set (set (set r (i + 2) c) (i + 3) d) (i + 4) e) (over_set xs i (a ∷ []) b (omega arith))
    ∙ ap (λ (r : List ℕ). set (set r (i + 3) d) (i + 4) e) (over_set xs i (a ∷ b ∷ []) c (omega arith))
    ∙ ap (λ (r : List ℕ). set r (i + 4) e) (over_set xs i (a ∷ b ∷ c ∷ []) d (omega arith))
    ∙ over_set xs i (a ∷ b ∷ c ∷ d ∷ []) e (omega arith)

pub gathered : (l : List Attr) → length (gather attr_numbers l) ≡ 5 * length l
unfolding gather
gathered [] = refl
gathered (a ∷ l) = omega (arith, gathered l)

pub laid_none : (array : List ℕ) → array ≡ laid [] array
unfolding laid gather
laid_none array = refl

-- one attribute more, stored behind those that are laid
pub laid_more : (l : List Attr) (a : Attr) (array : List ℕ) → overwrite (laid l array) (5 * length l) (attr_numbers a) ≡ laid (l ++ (a ∷ [])) array
unfolding laid overwrite gather
laid_more l a array =
    let g : List ℕ = gather attr_numbers l in
    let n : ℕ = 5 * length l in
    let d : List ℕ = drop n array in
    let lp : length g ≡ n = gathered l in
    let e : 5 * length (l ++ (a ∷ [])) ≡ n + 5 = omega (arith, length-append l (a ∷ [])) in
    ap (λ (r : List ℕ). r ++ attr_numbers a ++ drop (n + 5) (g ++ d)) (take_at g d n lp)
    ∙ ap (λ (r : List ℕ). g ++ attr_numbers a ++ r) (ap (λ (k : ℕ). drop (k + 5) (g ++ d)) (sym lp) ∙ drop-append-add g d 5 ∙ drop-drop 5 n array)
    ∙ ap (λ (r : List ℕ). r ++ drop (n + 5) array) (sym (gather_append attr_numbers l (a ∷ [])))
    ∙ ap (λ (k : ℕ). gather attr_numbers (l ++ (a ∷ [])) ++ drop k array) (sym e)

pub laid_length : (l : List Attr) (array : List ℕ) → 5 * length l ≤ length array → length (laid l array) ≡ length array
unfolding laid
laid_length l array h =
    length-append (gather attr_numbers l) (drop (5 * length l) array) ∙ omega (arith, gathered l, length-drop (5 * length l) array)

-- the attribute whose numbers stand behind 5 * k others
attr_at : (p q : List ℕ) (a : Attr) (k : ℕ) → length p ≡ 5 * k → attr_in (p ++ (attr_numbers a ++ q)) k ≡ a
unfolding attr_in
attr_at p q a k e =
    simp (← e, get_or_at p a.name.at (a.name.part ∷ a.name.end ∷ a.value ∷ a.stop ∷ q) 0 (length p) refl, get_or-append-add)

tabled : (done l : List Attr) (t : List ℕ) → tabulate (attr_in (gather attr_numbers (done ++ l) ++ t)) (length done) (length l) ≡ l
unfolding tabulate gather
tabled done [] t = refl
tabled done (a ∷ l) t =
    let split : gather attr_numbers (done ++ (a ∷ l)) ++ t ≡ gather attr_numbers done ++ (attr_numbers a ++ (gather attr_numbers l ++ t)) = ap (λ (r : List ℕ). r ++ t) (gather_append attr_numbers done (a ∷ l)) ∙ append_assoc (gather attr_numbers done) (attr_numbers a ++ gather attr_numbers l) t in
    let here : attr_in (gather attr_numbers (done ++ (a ∷ l)) ++ t) (length done) ≡ a = rw split (attr_at (gather attr_numbers done) (gather attr_numbers l ++ t) a (length done) (gathered done)) in
    let e : length (done ++ (a ∷ [])) ≡ suc (length done) = omega (arith, length-append done (a ∷ [])) in
    let behind : tabulate (attr_in (gather attr_numbers (done ++ (a ∷ l)) ++ t)) (suc (length done)) (length l) ≡ l = rw (append_snoc done a l, e) at (tabled (done ++ (a ∷ [])) l t) in
    cc (here, behind)

-- what was laid is there
pub laid_there : (l : List Attr) (array : List ℕ) → length l ≤ 16 → attrs_in (laid l array) (length l) ≡ l
unfolding attrs_in laid
laid_there l array h = rw (le-leb (length l) 16 h) (tabled [] l (drop (5 * length l) array))

abbrev pub none : Attr
none = record { name = record { at = 0; part = 0; end = 0 }; value = 0; stop = 0 }

-- an array of 80 numbers holds sixteen
pub attr_past : (l : List ℕ) (k : ℕ) → length l ≡ 80 → 16 ≤ k → none ≡ attr_in l k
unfolding attr_in
attr_past l k e h =
    simp (get_or-eq_default l 0 {n = 5 * k} (omega arith), get_or-eq_default l 0 {n = 5 * k + 1} (omega arith), get_or-eq_default l 0 {n = 5 * k + 2} (omega arith), get_or-eq_default l 0 {n = 5 * k + 3} (omega arith), get_or-eq_default l 0 {n = 5 * k + 4} (omega arith))
