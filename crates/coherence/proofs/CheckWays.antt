-- The ways out of the check of a level.
use Prim.Native.Nat.{ℕ, ◌+◌, ◌*◌, ◌≤◌}
use mathlib.Core.Path.{◌≡◌, refl, sym, ap, ◌∙◌}
use mathlib.Core.List.{List, map}
use mathlib.Core.Bool.{Bool, false, ◌&&◌}
use native.Mathlib.Nat.{add-zero}
use native.Mathlib.Omega.{arith}
use borrow.Author.Tests.{lt-leb, le-leb}
use lib.ListN.{length, get_or, get_or-eq_default}
use lib.Dec.{leb}
use Rattle.laws.specs.Lists.{all}
use Rattle.laws.specs.Tests.{not_left, not_right}
use Rattle.reader.specs.declared.Span.{Span}
use Rattle.reader.specs.Spans.{span}
use Rattle.reader.specs.Scope.{name_in}
use Rattle.strands.specs.Packed.{strand_in, words_at}
use Rattle.coherence.specs.Fitting.{span_inside}
use Rattle.coherence.specs.Checks.{name_fits, class_fits, strand_fits, strands_fit, level_fits}

module _ (s : List ℕ) (listed modes units : ℕ) (levels spaces strands : List ℕ) (k : ℕ) where
  abbrev v : Bool
  v = level_fits s listed modes units levels spaces strands k

  abbrev count : ℕ
  count = get_or spaces (4 * k + 3) 0

  abbrev uri : Span
  uri = span (get_or spaces (4 * k + 1) 0) (get_or spaces (4 * k + 2) 0)

  chain : (name_fits s (name_in levels k) && (class_fits listed (get_or spaces (4 * k) 0) && (span_inside s uri && strands_fit modes units strands k count))) ≡ v
  unfolding level_fits
  chain = refl

  out_name : name_fits s (name_in levels k) ≡ false → false ≡ v
  out_name h = sym (not_left (name_fits s (name_in levels k)) _ h) ∙ chain

  out_class : class_fits listed (get_or spaces (4 * k) 0) ≡ false → false ≡ v
  out_class h = sym (not_right (name_fits s (name_in levels k)) _ (not_left (class_fits listed (get_or spaces (4 * k) 0)) _ h)) ∙ chain

  out_behind : (span_inside s uri && strands_fit modes units strands k count) ≡ false → false ≡ v
  out_behind h = sym (not_right (name_fits s (name_in levels k)) _ (not_right (class_fits listed (get_or spaces (4 * k) 0)) _ h)) ∙ chain

  -- past the array a level has no strand
  pub level_past : length spaces ≡ 256 → 64 ≤ k → false ≡ v
  level_past e h =
      let z : count ≡ 0 = get_or-eq_default spaces 0 {n = 4 * k + 3} (omega arith) in
      out_behind (not_right (span_inside s uri) _ (not_left (leb 1 count) _ (lt-leb 1 count (omega arith))))

  -- r: what a callee says
  pub level_name : (w : Span) → w ≡ name_in levels k → (r : Bool) → r ≡ name_fits s w → r ≡ false → false ≡ v
  level_name w e r er h = out_name (ap (name_fits s) (sym e) ∙ sym er ∙ h)

  pub level_class : (class : ℕ) → class ≡ get_or spaces (4 * k + 0) 0 → (r : Bool) → r ≡ class_fits listed class → r ≡ false → false ≡ v
  level_class class e r er h = out_class (ap (class_fits listed) (ap (λ (i : ℕ). get_or spaces i 0) (sym (add-zero (4 * k))) ∙ sym e) ∙ sym er ∙ h)

  pub level_uri_lem : (at len : ℕ) → at ≡ get_or spaces (4 * k + 1) 0 → len ≡ get_or spaces (4 * k + 2) 0 → (r : Bool) → r ≡ span_inside s (span at len) → r ≡ false → false ≡ v
  level_uri_lem at len ea el r er h = out_behind (not_left (span_inside s uri) _ (rw (← ea, ← el) (sym er ∙ h)))

-- the strands' words that are tested
pub strands_told : (modes units : ℕ) (strands : List ℕ) (k n count : ℕ) → n ≡ count → 1 ≤ n → n ≤ 16 → (ws : List ℕ) → ws ≡ words_at strands k n
    → (r : Bool) → r ≡ all (strand_fits modes units) (map strand_in ws) → r ≡ strands_fit modes units strands k count
strands_told modes units strands k n count en some few ws e r er =
    rw (← en, le-leb 1 n some, le-leb n 16 few) (er ∙ ap (λ (x : List ℕ). all (strand_fits modes units) (map strand_in x)) e)
