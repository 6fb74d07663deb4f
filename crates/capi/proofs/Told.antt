-- A span told to a host.
use Prim.Native.Nat.{ℕ}
use mathlib.Core.Path.{◌≡◌, ap, ◌∙◌}
use mathlib.Core.List.{List}
use Rattle.uris.specs.declared.UriSpan.{UriSpan}
use Rattle.capi.specs.Sources.{span_numbers}

pub span_told : (u w : UriSpan) (xs : List ℕ) → u ≡ w → xs ≡ span_numbers u → xs ≡ span_numbers w
span_told u w xs e q = q ∙ ap span_numbers e
