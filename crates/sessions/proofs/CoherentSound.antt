-- A coherent session is sound: what number 20 leaves is all that the proofs ask of a session.
--     each_tested                  tests of a list, read back
--     levels_each, opens_each      what holds of each open level
--     coherent_levels, coherent_held, coherent_sound
use Prim.Native.Nat.{ℕ, zero, suc, ◌+◌, ◌-◌, ◌*◌, ◌≤◌, ◌<◌}
use mathlib.Core.Path.{◌≡◌, sym, ap, ap₂, subst, ◌∙◌}
use mathlib.Core.List.{List, [], ◌∷◌}
use mathlib.Core.Bool.{Bool, true, false, not, ◌&&◌, ◌||◌}
use mathlib.Core.Option.{Option, none, some}
use mathlib.Core.Logic.{◌⊎◌, inl, inr, ⊎_elim}
use native.Mathlib.Omega.{arith}
use borrow.Author.Tests.{leb-true, ltb-true, eqb-true, eqb-false, not-true}
use lib.ListN.{length, get_or}
use lib.Dec.{leb, ltb, eqb}
use Rattle.laws.specs.Lists.{all}
use Rattle.laws.specs.Gather.{total}
use Rattle.laws.specs.Members.{All}
use Rattle.laws.proofs.Elementwise.{each_map, each_tabulated, tested_at}
use Rattle.laws.proofs.Flags.{differ, and_left, and_right, either}
use Rattle.table.specs.Table.{Table}
use Rattle.table.specs.declared.Action.{Action}
use Rattle.table.specs.declared.Action.TheVariants.{Attach, Unwrap, Validate}
use Rattle.lexer.specs.Whole.{is_part, is_whole_name}
use Rattle.reader.specs.declared.Span.{Span}
use Rattle.reader.specs.declared.Binding.{Binding}
use Rattle.reader.specs.Spans.{span, bytes_of}
use Rattle.reader.specs.Namespaces.{refused_binding}
use Rattle.reader.specs.Stored.{binding_in}
use Rattle.reader.specs.Events.{Open, is_nil}
use Rattle.reader.specs.Scope.{name_in, count_in, opens_in, opens_of}
use Rattle.reader.specs.Counted.{count_of, Counted}
use Rattle.reader.specs.Held.{Held, SpanHeld, BindingHeld, OpenHeld}
use Rattle.reader.proofs.Opens.{CountedScope, opens_nil}
use Rattle.model.specs.Stream.{Level, HeldStrand}
use Rattle.model.specs.Dispatch.{dispatch}
use Rattle.model.proofs.Steps.{Below, HasTarget}
use Rattle.sessions.specs.Sessions.{class_in, uri_in, strand_count, strands_in, level_in, levels_in, state_of, reader_of}
use Rattle.coherence.specs.Fitting.{span_inside, prefix_fits, target_fits, aims}
use Rattle.sessions.specs.Coherence.{open_levels, open_bindings, coherent}
use Rattle.sessions.specs.Session.{Session}
use Rattle.sessions.proofs.Sound.{StrandSound, LevelSound, Sound}
use Rattle.sessions.proofs.SoundCoherent.{total_numbers, strands_counted}
use Rattle.sessions.proofs.Clauses.{Clauses, clauses}

-- ---- tests of lists, read back
pub each_tested : {A : Type 0} (P : A → Type 0) (p q r : A → Bool) → ((x : A) → p x ≡ true → q x ≡ true → r x ≡ true → P x)
    → (l : List A) → all p l ≡ true → all q l ≡ true → all r l ≡ true → All P l
unfolding all
each_tested P p q r f [] hp hq hr = tt
each_tested P p q r f (x ∷ l) hp hq hr =
    (f x (and_left (p x) (all p l) hp) (and_left (q x) (all q l) hq) (and_left (r x) (all r l) hr), each_tested P p q r f l (and_right (p x) (all p l) hp) (and_right (q x) (all q l) hq) (and_right (r x) (all r l) hr))

-- ---- each open level
module _ (t : Table) (s : List ℕ) (z : Session) (P : Level (dispatch t) → Type 0) where
  pub levels_each : (depth : ℕ) → ((k : ℕ) → k < depth → P (level_in t s z k)) → All P (levels_in t s z depth)
  unfolding levels_in
  levels_each zero h = tt
  levels_each (suc d) h = (h d (omega arith), levels_each d (λ k l. h k (omega arith)))

-- its declarations are bindings of its window, which lies below the bound
module _ (levels bindings : List ℕ) (P : Binding → Type 0) (Q : Span → Type 0) where
  opens_each : (depth bound : ℕ) → Counted levels depth bound → ((k : ℕ) → k < depth → Q (name_in levels k)) → ((k : ℕ) → k < bound → P (binding_in bindings k))
      → All (λ (o : Open). Q o.name × All P o.declarations) (opens_in levels bindings depth bound)
  unfolding opens_in count_of
  opens_each zero bound c hq hp = tt
  opens_each (suc d) bound c hq hp =
      let n : ℕ = get_or levels (3 * d + 2) 0 in (
        (hq d (omega arith), each_tabulated P (binding_in bindings) (bound - n) n (λ k lo hi. hp k (omega arith))),
        opens_each d (bound - n) (omega arith) (λ k l. hq k (omega arith)) (λ k l. hp k (omega arith)),
      )

-- ---- clause by clause
below_fits : (units : ℕ) (o : Option ℕ) → target_fits units o ≡ true → Below units o
below_fits units none e = tt
below_fits units (some u) e = ltb-true u units e

aims_fits : (a : Action) (o : Option ℕ) → aims a o ≡ true → HasTarget a o
aims_fits Attach o e = tt
aims_fits Unwrap o e = tt
aims_fits Validate none e = absurd (differ (sym e))
aims_fits Validate (some u) e = tt

class_says : (n class : ℕ) → (leb class n || (eqb class 254 || eqb class 255)) ≡ true → (class ≤ n) ⊎ ((class ≡ 254) ⊎ (class ≡ 255))
class_says n class e =
    ⊎_elim (λ l. inl (leb-true class n l))
    (λ m. inr (⊎_elim (λ f. inl (eqb-true class 254 f)) (λ f. inr (eqb-true class 255 f)) (either (eqb class 254) (eqb class 255) m)))
    (either (leb class n) (eqb class 254 || eqb class 255) e)

prefix_says : (s : List ℕ) (w : Span) → prefix_fits s w ≡ true → (w ≡ span 0 0) ⊎ (is_part (bytes_of s w) ≡ true)
prefix_says s w e =
    ⊎_elim
    (λ f. inl (ap₂ span (eqb-true w.at 0 (and_left (eqb w.at 0) (eqb w.len 0) f)) (eqb-true w.len 0 (and_right (eqb w.at 0) (eqb w.len 0) f))))
    (λ f. inr f) (either (eqb w.at 0 && eqb w.len 0) (is_part (bytes_of s w)) e)

binding_says : (s : List ℕ) (b : Binding) → (span_inside s b.prefix && span_inside s b.uri) ≡ true → not (refused_binding s b) ≡ true → prefix_fits s b.prefix ≡ true → BindingHeld s b
binding_says s b e f g =
    record {
      inside =
          record {
            prefix = leb-true (b.prefix.at + b.prefix.len) (length s) (and_left (span_inside s b.prefix) (span_inside s b.uri) e);
            uri = leb-true (b.uri.at + b.uri.len) (length s) (and_right (span_inside s b.prefix) (span_inside s b.uri) e);
            part = prefix_says s b.prefix g;
          };
      fits = not-true (refused_binding s b) f;
    }

strand_says : (t : Table) (units : ℕ) (r : HeldStrand ℕ) → ltb r.mode t.modes ≡ true → target_fits units r.target ≡ true → aims r.action r.target ≡ true → StrandSound t units r
strand_says t units r e f g =
    record { mode_in = ltb-true r.mode t.modes e; below = below_fits units r.target f; aims = aims_fits r.action r.target g }

abbrev pub NameHeld : List ℕ → Span → Type 0
NameHeld s w = (0 < w.at) × SpanHeld s w × (is_whole_name (bytes_of s w) ≡ true)

open_held : (s : List ℕ) (o : Open) → NameHeld s o.name × All (BindingHeld s) o.declarations → OpenHeld s o
open_held s o h = record { behind = h.0.0; inside = h.0.1; named = h.0.2; declarations = h.1 }

module _ (t : Table) (s : List ℕ) (z : Session) (c : Clauses t s z) where
  pub at_level : (p : ℕ → Bool) → all p (open_levels z) ≡ true → (k : ℕ) → k < z.scope.depth → p k ≡ true
  at_level p e k l = tested_at p (λ (i : ℕ). i) 0 z.scope.depth e k (omega arith) (omega arith)

  pub counted : CountedScope z.scope
  counted = sym (total_numbers z.scope.levels z.scope.depth) ∙ eqb-true (total (count_in z.scope) (open_levels z)) z.scope.bound c.sum

  pub name_held : (k : ℕ) → k < z.scope.depth → NameHeld s (name_in z.scope.levels k)
  name_held k l =
      let w = name_in z.scope.levels k in
      let e = at_level _ c.level_spans k l in
      let f = at_level _ c.names k l in
      let n : w.at ≡ 0 → ⊥ = eqb-false w.at 0 (not-true (eqb w.at 0) (and_left (not (eqb w.at 0)) (is_whole_name (bytes_of s w)) f)) in (
        omega (arith, n),
        leb-true (w.at + w.len) (length s) (and_left (span_inside s w) (span_inside s (uri_in z k)) e),
        and_right (not (eqb w.at 0)) (is_whole_name (bytes_of s w)) f,
      )

  pub at_binding : (p : Binding → Bool) → all p (open_bindings z) ≡ true → (k : ℕ) → k < z.scope.bound → p (binding_in z.scope.bindings k) ≡ true
  at_binding p e k l = tested_at p (binding_in z.scope.bindings) 0 z.scope.bound e k (omega arith) (omega arith)

  pub binding_held : (k : ℕ) → k < z.scope.bound → BindingHeld s (binding_in z.scope.bindings k)
  binding_held k l =
      binding_says s (binding_in z.scope.bindings k) (at_binding _ c.binding_spans k l) (at_binding _ c.allowed k l) (at_binding _ c.prefixes k l)

  pub opened : All (OpenHeld s) (opens_of z.scope)
  opened =
      each_map (λ (o : Open). NameHeld s o.name × All (BindingHeld s) o.declarations) (OpenHeld s) (open_held s) (opens_of z.scope)
      (opens_each z.scope.levels z.scope.bindings (BindingHeld s) (NameHeld s) z.scope.depth z.scope.bound counted name_held binding_held)

  pub level_sound : (k : ℕ) → k < z.scope.depth → LevelSound t s z.units (level_in t s z k)
  unfolding level_in
  level_sound k l =
      let n = at_level _ c.strand_counts k l in
      let e = at_level _ c.level_spans k l in
      record {
        some_strand = subst (λ (m : ℕ). 1 ≤ m) (sym (strands_counted z k)) (leb-true 1 (strand_count z k) (and_left (leb 1 (strand_count z k)) (leb (strand_count z k) 16) n));
        few_strands = subst (λ (m : ℕ). m ≤ 16) (sym (strands_counted z k)) (leb-true (strand_count z k) 16 (and_right (leb 1 (strand_count z k)) (leb (strand_count z k) 16) n));
        class_in_lem = class_says (length t.uris) (class_in z k) (at_level _ c.classes k l);
        uri_inside = leb-true ((uri_in z k).at + (uri_in z k).len) (length s) (and_right (span_inside s (name_in z.scope.levels k)) (span_inside s (uri_in z k)) e);
        strands = each_tested (StrandSound t z.units) _ _ _ (strand_says t z.units) (strands_in z k) (at_level _ c.modes k l) (at_level _ c.targets k l) (at_level _ c.aims k l);
      }

  pub levels_sound : All (LevelSound t s z.units) (state_of t s z).levels
  levels_sound = levels_each t s z (LevelSound t s z.units) z.scope.depth level_sound

  pub awaited_open : (a : Bool) → (not a || not (eqb z.scope.depth 0)) ≡ true → a ≡ true → opens_of z.scope ≡ [] → ⊥
  awaited_open true e h o = differ (sym (sym (opens_nil z.scope) ∙ ap is_nil o) ∙ not-true (eqb z.scope.depth 0) e)
  awaited_open false e h o = differ (sym h)

  closed_none : (a : Bool) → (not a || eqb z.scope.depth 0) ≡ true → a ≡ true → opens_of z.scope ≡ []
  unfolding opens_in
  closed_none true e h = ap (λ (d : ℕ). opens_in z.scope.levels z.scope.bindings d z.scope.bound) (eqb-true z.scope.depth 0 e)
  closed_none false e h = absurd (differ (sym h))

pub coherent_levels : (t : Table) (s : List ℕ) (z : Session) → coherent t s z ≡ true → All (LevelSound t s z.units) (state_of t s z).levels
coherent_levels t s z e = levels_each t s z (LevelSound t s z.units) z.scope.depth (level_sound t s z (clauses t s z e))

pub coherent_held : (t : Table) (s : List ℕ) (z : Session) → coherent t s z ≡ true → Held s (reader_of z)
coherent_held t s z e =
    let c = clauses t s z e in
    record {
      place = leb-true z.place (length s) c.place;
      opened = opened t s z c;
      awaited = awaited_open t s z c z.awaited c.awaited;
      closed = closed_none t s z c z.closed c.closed;
    }

pub coherent_sound : (t : Table) (s : List ℕ) (z : Session) → length z.scope.levels ≡ 192 → length z.scope.bindings ≡ 256 → length z.spaces ≡ 256 → length z.strands ≡ 1024
    → coherent t s z ≡ true → Sound t s z
coherent_sound t s z ll lb ls lt e =
    let c = clauses t s z e in
    record {
      fits =
          record {
            levels_long = ll;
            bindings_long = lb;
            spaces_long = ls;
            strands_long = lt;
            counted = counted t s z c;
            shallow = leb-true z.scope.depth 64 c.depth;
            few = leb-true z.scope.bound 64 c.bound;
          };
      held = coherent_held t s z e;
      levels = coherent_levels t s z e;
      few_units = leb-true z.units 65536 c.units;
    }
