-- What `part_of` hands back is `span_of`, and where it stands is `span_start`, at each of its ends.
use Prim.Native.Nat.{ℕ, ◌+◌, ◌-◌, ◌≤◌, ◌<◌, min}
use mathlib.Core.Path.{◌≡◌, sym, ap, ◌∙◌}
use mathlib.Core.List.{List, []}
use native.Mathlib.Omega.{arith}
use native.Mathlib.Nat.{add-sub_cancel_left}
use borrow.Author.Tests.{le-leb, lt-leb}
use denote.Ref.{Bor}
use lib.ListN.{length, take, drop, drop_of_length-le, length-drop}
use lib.Seq.{take-nil}
use Rattle.std.proofs.lemmas.List.{take_min}
use Rattle.compare.specs.Compare.{span_of, span_start, place_in}

module _ (s : List ℕ) (at n : ℕ) where
  pub past : length s ≤ at → [] ≡ span_of s at n
  past h = sym (ap (take n) (drop_of_length-le s h) ∙ take-nil n)

  pub within : take (at + n - at) (drop at s) ≡ span_of s at n
  within = ap (λ (k : ℕ). take k (drop at s)) (add-sub_cancel_left at n)

  -- of n bytes and those that there are the fewer
  pub fewer : take (at + min n (length s - at) - at) (drop at s) ≡ span_of s at n
  fewer =
      ap (λ (k : ℕ). take k (drop at s)) (add-sub_cancel_left at (min n (length s - at)))
      ∙ ap (λ (k : ℕ). take (min n k) (drop at s)) (sym (length-drop at s))
      ∙ take_min n (drop at s)

-- ---- where the part stands
module _ (s : Bor (List ℕ)) (at : ℕ) where
  stands : (o : ℕ) → o ≡ s.ref_ptr.1 + span_start s.now at → (s.ref_ptr.0, o) ≡ place_in s (span_start s.now at)
  stands o e = ap (λ (x : ℕ). (s.ref_ptr.0, x)) e

  pub at_start : length s.now < at → s.ref_ptr ≡ place_in s (span_start s.now at)
  at_start h = stands s.ref_ptr.1 (rw (lt-leb at (length s.now) h) (omega arith))

  pub at_place : at ≤ length s.now → (s.ref_ptr.0, at + s.ref_ptr.1) ≡ place_in s (span_start s.now at)
  at_place h = stands (at + s.ref_ptr.1) (rw (le-leb at (length s.now) h) (omega arith))
