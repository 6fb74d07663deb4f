-- A set's ranges, asked row by row: the rows from the i-th on say v.
--     rows_done, row_met                  behind the last, and at a row that meets
--     row_above, row_below                at one that does not
use Prim.Native.Nat.{ℕ, ◌+◌, ◌≤◌, ◌<◌}
use mathlib.Core.Path.{◌≡◌, sym, ap, ◌∙◌}
use mathlib.Core.List.{List, ◌∷◌}
use mathlib.Core.Bool.{Bool, true, false}
use native.Mathlib.Numerals.{add-one}
use borrow.Author.Tests.{le-leb, lt-leb}
use lib.ListN.{length, get_or, drop, drop_of_length-le}
use lib.Seq.{drop-cons}
use Rattle.laws.specs.Lists.{any}
use Rattle.utf8.specs.declared.Range.{Range}
use Rattle.utf8.specs.Sets.{to}
use Rattle.utf8.specs.Forms.{meets}

module _ (rows : List Range) (least most i : ℕ) (v : Bool) (inv : any (meets least most) (drop i rows) ≡ v) where
  abbrev row : Range
  row = get_or rows i (to 0 0)

  pub rows_done : length rows ≤ i → false ≡ v
  unfolding any
  rows_done h = ap (any (meets least most)) (sym (drop_of_length-le rows h)) ∙ inv

  module _ (h : i < length rows) where
    here : any (meets least most) (row ∷ drop (i + 1) rows) ≡ v
    here = ap (any (meets least most)) (rw (add-one i) (sym (drop-cons rows i (to 0 0) h))) ∙ inv

    pub row_met : row.first ≤ most → least ≤ row.last → true ≡ v
    unfolding any
    row_met a b = simp (← here, le-leb row.first most a, le-leb least row.last b)

    pub row_above : most < row.first → any (meets least most) (drop (i + 1) rows) ≡ v
    unfolding any
    row_above a = simp (← here, lt-leb row.first most a)

    pub row_below : row.first ≤ most → row.last < least → any (meets least most) (drop (i + 1) rows) ≡ v
    unfolding any
    row_below a b = simp (← here, le-leb row.first most a, lt-leb least row.last b)
