-- N6: whether sessions hold the same of bindings and levels. "Spans are compared as numbers, not the bytes under them". Definitions.
use Rattle.std.specs.Prelude.{ℕ, ◌+◌, ◌*◌, List, [], ◌∷◌, map, Bool, true, false, not, ◌&&◌, get_or, eqb}
use Rattle.std.proofs.Math.Option.{Option, none, some}
use Rattle.table.specs.declared.Action.{Action}
use Rattle.reader.specs.declared.Span.{Span}
use Rattle.reader.specs.declared.Binding.{Binding}
use Rattle.reader.specs.Spans.{span}
use Rattle.reader.specs.Scope.{name_in}
use Rattle.model.specs.Stream.{HeldStrand}
use Rattle.strands.specs.Packed.{strand_in, action_number, words_at}

abbrev pub same_flag : Bool → Bool → Bool
same_flag true b = b
same_flag false b = not b

-- "in order": as many, and each the same as the other's
unfoldable pub same_each {ℓ} : {A : Type ℓ} → (A → A → Bool) → List A → List A → Bool
same_each same [] [] = true
same_each same [] (y ∷ t) = false
same_each same (x ∷ s) [] = false
same_each same (x ∷ s) (y ∷ t) = same x y && same_each same s t

abbrev pub same_span : Span → Span → Bool
same_span a b = eqb a.at b.at && eqb a.len b.len

-- "the bindings in order, both spans"
abbrev pub same_binding : Binding → Binding → Bool
same_binding a b = same_span a.prefix b.prefix && same_span a.uri b.uri

abbrev pub same_action : Action → Action → Bool
same_action a b = eqb (action_number a) (action_number b)

abbrev pub same_target : Option ℕ → Option ℕ → Bool
same_target none none = true
same_target none (some v) = false
same_target (some u) none = false
same_target (some u) (some v) = eqb u v

-- "the strands in order with mode, action, target or none, opened-here"
abbrev pub same_strand : HeldStrand ℕ → HeldStrand ℕ → Bool
same_strand a b =
    eqb a.mode b.mode
    && (same_action a.action b.action && (same_target a.target b.target && same_flag a.here b.here))

-- "the levels in order, each with name span, class, URI span, count of bindings, and the strands in order"
pub record HeldLevel : Type 0 where
  pub name : Span
  pub class : ℕ
  pub uri : Span
  pub bindings : ℕ
  pub strands : List (HeldStrand ℕ)

abbrev pub same_level : HeldLevel → HeldLevel → Bool
same_level a b =
    same_span a.name b.name
    && (eqb a.class b.class
    && (same_span a.uri b.uri && (eqb a.bindings b.bindings && same_each same_strand a.strands b.strands)))

-- the k-th level that arrays hold: of names, spaces and strands
unfoldable pub held_level : List ℕ → List ℕ → List ℕ → ℕ → HeldLevel
held_level names spaces strands k =
    record {
      name = name_in names k;
      class = get_or spaces (4 * k) 0;
      uri = span (get_or spaces (4 * k + 1) 0) (get_or spaces (4 * k + 2) 0);
      bindings = get_or names (3 * k + 2) 0;
      strands = map strand_in (words_at strands k (get_or spaces (4 * k + 3) 0));
    }
