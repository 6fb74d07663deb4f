-- Rows laid one after the other: where they fit, the output with their bytes over it.
use mathlib.Core.Path.{◌≡◌, refl, sym, ap, ◌∙◌}
use mathlib.Core.Logic.{⊎_elim}
use mathlib.Core.Bool.{Bool, true, false, cond}
use mathlib.Core.List.{List, [], ◌∷◌, ◌++◌, foldl, foldl-append}
use Prim.Native.Nat.{ℕ, ◌+◌, ◌*◌, ◌≤◌, ◌<◌}
use native.Mathlib.Nat.{add-zero}
use native.Mathlib.Omega.{arith}
use borrow.Author.Tests.{le-leb, lt-leb}
use lib.ListN.{length}
use Rattle.laws.specs.Reading.{le_or_lt}
use Rattle.laws.specs.Over.{overwrite}
use Rattle.laws.specs.Gather.{gather}
use Rattle.laws.proofs.Over.{over_none, over_over, length_over}
use Rattle.records.specs.declared.Row.{Row}
use Rattle.records.specs.Rows.{Laid, row_bytes, laid, laid_row, laid_if, laid_rows}
use Rattle.records.proofs.Bytes.{row_length}

module _ (out : List ℕ) (at : ℕ) (r : Row) where
  pub row_fits : at + 16 ≤ length out → laid_row (laid out at) r ≡ laid (overwrite out at (row_bytes r)) (at + 16)
  unfolding laid_row
  row_fits h = rw (le-leb (at + 16) (length out) h)

  pub row_late : length out < at + 16 → laid_row (laid out at) r ≡ laid out at
  unfolding laid_row
  row_late h = rw (lt-leb (at + 16) (length out) h)

  pub row_within : (length (laid_row (laid out at) r).out ≡ length out) × (at ≤ (laid_row (laid out at) r).at) × ((laid_row (laid out at) r).at ≤ at + 16)
  row_within = ⊎_elim
      (λ (h : at + 16 ≤ length out). rw (row_fits h) (length_over out at (row_bytes r) (omega (arith, row_length r)), omega arith, omega arith))
      (λ (h : length out < at + 16). rw (row_late h) (refl, omega arith, omega arith))
      (le_or_lt (at + 16) (length out))

  -- `put_row` behind its tests
  pub row_put : (b out' : List ℕ) → at + 16 ≤ length out → b ≡ row_bytes r → out' ≡ overwrite out at b → laid out' (at + 16) ≡ laid_row (laid out at) r
  row_put b out' h e o = ap (λ (x : List ℕ). laid x (at + 16)) (o ∙ ap (overwrite out at) e) ∙ sym (row_fits h)

module _ (w : Laid) (due : Bool) (r : Row) where
  pub if_due : due ≡ true → laid_if due w r ≡ laid_row w r
  unfolding laid_if
  if_due e = rw e

  pub if_not : due ≡ false → laid_if due w r ≡ w
  unfolding laid_if
  if_not e = rw e

pub if_within : (out : List ℕ) (at : ℕ) (due : Bool) (r : Row) (out' : List ℕ) (at' : ℕ) → laid out' at' ≡ laid_if due (laid out at) r
    → (length out' ≡ length out) × (at' ≤ at + 16)
if_within out at true r out' at' e =
    let f = e ∙ if_due (laid out at) true r refl in
    let w = row_within out at r in
    (ap (λ (x : Laid). length x.out) f ∙ w.0, omega (arith, ap (λ (x : Laid). x.at) f, w.2))
if_within out at false r out' at' e =
    let f = e ∙ if_not (laid out at) false r refl in
    (ap (λ (x : Laid). length x.out) f, omega (arith, ap (λ (x : Laid). x.at) f))

module _ (w : Laid) where
  pub rows_none : laid_rows w [] ≡ w
  unfolding laid_rows
  rows_none = refl

  pub rows_one : (r : Row) → laid_rows w (r ∷ []) ≡ laid_row w r
  unfolding laid_rows
  rows_one r = refl

  pub rows_append : (rs ss : List Row) → laid_rows w (rs ++ ss) ≡ laid_rows (laid_rows w rs) ss
  unfolding laid_rows
  rows_append rs ss = foldl-append laid_row w rs ss

  -- a row that may be due is a row or none
  pub rows_if : (due : Bool) (r : Row) → laid_if due w r ≡ laid_rows w (cond due (r ∷ []) [])
  unfolding laid_if laid_rows
  rows_if true r = refl
  rows_if false r = refl

  -- a turn of a loop that lays rows: with `rows_one` of one, with `rows_if` of one or none
  pub rows_more : (rs ss : List Row) (v w' : Laid) → v ≡ laid_rows w rs → w' ≡ laid_rows v ss → w' ≡ laid_rows w (rs ++ ss)
  rows_more rs ss v w' e f = f ∙ ap (λ (x : Laid). laid_rows x ss) e ∙ sym (rows_append rs ss)

pub rows_fit : (rs : List Row) (out : List ℕ) (at : ℕ) → at + 16 * length rs ≤ length out
    → laid_rows (laid out at) rs ≡ laid (overwrite out at (gather row_bytes rs)) (at + 16 * length rs)
unfolding laid_rows gather
rows_fit [] out at h = sym (ap (λ (o : List ℕ). laid o (at + 0)) (over_none out at) ∙ ap (laid out) (add-zero at))
rows_fit (r ∷ rs) out at h =
    let l : length (row_bytes r) ≡ 16 = row_length r in
    let k : length (overwrite out at (row_bytes r)) ≡ length out = length_over out at (row_bytes r) (omega arith) in
    ap (λ (w : Laid). foldl laid_row w rs) (row_fits out at r (omega arith))
    ∙ rows_fit rs (overwrite out at (row_bytes r)) (at + 16) (omega arith)
    ∙ ap (λ (z : ℕ). laid (overwrite (overwrite out at (row_bytes r)) (at + z) (gather row_bytes rs)) (at + 16 + 16 * length rs)) (sym l)
    ∙ ap (λ (o : List ℕ). laid o (at + 16 + 16 * length rs)) (over_over out at (row_bytes r) (gather row_bytes rs) (omega arith))
    ∙ ap (laid (overwrite out at (row_bytes r ++ gather row_bytes rs))) (omega arith)

-- the end of such a loop
pub rows_end : (rs : List Row) (out : List ℕ) (at : ℕ) (out' : List ℕ) (at' : ℕ) → at + 16 * length rs ≤ length out
    → laid out' at' ≡ laid_rows (laid out at) rs → (at' ≡ at + 16 * length rs) × (out' ≡ overwrite out at (gather row_bytes rs))
rows_end rs out at out' at' h e =
    let f : laid out' at' ≡ laid (overwrite out at (gather row_bytes rs)) (at + 16 * length rs) = e ∙ rows_fit rs out at h in
    (ap (λ (w : Laid). w.at) f, ap (λ (w : Laid). w.out) f)
