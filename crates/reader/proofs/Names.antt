-- `kind_of` and `refused_binding` by the tests that the code makes.
use Prim.Native.Nat.{ℕ, ◌≤◌, ◌<◌}
use mathlib.Core.Path.{◌≡◌, ap, ◌∙◌}
use mathlib.Core.List.{List}
use mathlib.Core.Bool.{Bool, cond, not, ◌&&◌, ◌||◌}
use borrow.Author.Tests.{lt-ltb, le-ltb}
use lib.ListN.{length}
use lib.Dec.{eqb}
use Rattle.laws.specs.Lists.{same_list, any}
use Rattle.compare.specs.Compare.{span_of, xml_uri, xmlns_uri}
use Rattle.lexer.specs.declared.Name.{Name}
use Rattle.reader.specs.Spans.{between, bytes_of, whole_span, prefix_span, xml_prefix, xmlns_prefix, kind_of}
use Rattle.reader.specs.Namespaces.{refused_binding}
use Rattle.reader.specs.declared.Binding.{Binding}
use Rattle.reader.specs.declared.Kind.{Kind}
use Rattle.reader.specs.declared.Kind.TheVariants.{Plain, Prefixed, Default, Declares}

-- where the code has computed a length or an end
pub long : (s p : List ℕ) (at m n : ℕ) → p ≡ span_of s at m → m ≡ n → p ≡ span_of s at n
long s p at m n e q = e ∙ ap (span_of s at) q

pub up_to : (s p : List ℕ) (at m n : ℕ) → p ≡ bytes_of s (between at m) → m ≡ n → p ≡ bytes_of s (between at n)
up_to s p at m n e q = e ∙ ap (λ (k : ℕ). bytes_of s (between at k)) q

module _ (s : List ℕ) (n : Name) (p : List ℕ) (r : Bool) (k : Kind) where
  pub with_prefix : n.at < n.part → p ≡ bytes_of s (prefix_span n) → r ≡ same_list p xmlns_prefix → k ≡ cond r Declares Prefixed → k ≡ kind_of s n
  unfolding kind_of
  with_prefix h e f g = rw (lt-ltb n.at n.part h, ← e, ← f) g

  pub without_prefix : n.part ≤ n.at → p ≡ bytes_of s (whole_span n) → r ≡ same_list p xmlns_prefix → k ≡ cond r Default Plain → k ≡ kind_of s n
  unfolding kind_of
  without_prefix h e f g = rw (le-ltb n.at n.part h, ← e, ← f) g

-- what the code makes of the two spans
pub refused_by : (s : List ℕ) (b : Binding) (p u : List ℕ) (x y v w h : Bool)
    → p ≡ bytes_of s b.prefix → u ≡ bytes_of s b.uri
    → x ≡ same_list p xml_prefix → y ≡ same_list p xmlns_prefix → v ≡ same_list u xml_uri → w ≡ same_list u xmlns_uri → h ≡ any (λ (c : ℕ). eqb c 0x26) u
    → (not (eqb (length p) 0) && (x || y || eqb (length u) 0) || (v || w || h)) ≡ refused_binding s b
unfolding refused_binding
refused_by s b p u x y v w h ep eu ex ey ev ew eh = rw (ex, ey, ev, ew, eh, ep, eu)
