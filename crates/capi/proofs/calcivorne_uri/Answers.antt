-- `capi::calcivorne_uri` meets its contract.
use mathlib.Core.Path.{refl}
use Rattle.capi.proofs.Told.{span_told}
use Rattle.capi.proofs.calcivorne_uri.Goals as goal

pub returns : goal.returns
returns c = record {
  value = refl;
  span_after = span_told _ _ _ c.uri_span.ensures c.tell_span.ensures;
}
