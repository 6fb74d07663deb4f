-- A sound session is coherent: number 20 says nothing against it.
--     total_numbers                the levels' counts added up
--     level_at_lem, open_at            what holds of all open levels, at one of them
--     sound_level, sound_name      the same of a sound session
--     sound_coherent
use Prim.Native.Nat.{ℕ, zero, suc, ◌+◌, ◌-◌, ◌*◌, ◌≤◌, ◌<◌}
use mathlib.Core.Path.{◌≡◌, refl, sym, ap, subst, ◌∙◌}
use mathlib.Core.List.{List, [], ◌∷◌}
use mathlib.Core.Bool.{Bool, true, false, not, ◌&&◌, ◌||◌}
use mathlib.Core.Option.{Option, none, some}
use mathlib.Core.Logic.{◌⊎◌, ⊎_elim}
use native.Mathlib.Omega.{arith}
use native.Mathlib.Numerals.{add-one}
use native.Mathlib.Nat.{add-zero, zero-add}
use borrow.Author.Tests.{eq-eqb, ne_eqb, lt-ltb, le-leb}
use lib.ListN.{length, get_or, length-map}
use lib.Dec.{leb, eqb}
use Rattle.laws.specs.Reading.{le_or_lt}
use Rattle.laws.specs.Lists.{all, tabulate}
use Rattle.laws.specs.Gather.{total}
use Rattle.laws.specs.Members.{All}
use Rattle.laws.specs.Tests.{both, left, right}
use Rattle.laws.proofs.Lists.{length_tabulate}
use Rattle.laws.proofs.Gather.{total_append}
use Rattle.laws.proofs.Elementwise.{each_map, each_append, tabulated_all, all_each}
use Rattle.table.specs.Table.{Table}
use Rattle.table.specs.declared.Action.{Action}
use Rattle.table.specs.declared.Action.TheVariants.{Attach, Unwrap, Validate}
use Rattle.lexer.specs.Whole.{is_part}
use Rattle.reader.specs.declared.Span.{Span}
use Rattle.reader.specs.declared.Binding.{Binding}
use Rattle.reader.specs.Spans.{bytes_of}
use Rattle.reader.specs.Stored.{binding_in}
use Rattle.reader.specs.Events.{Open, bindings_of, is_nil}
use Rattle.reader.specs.Scope.{name_in, count_in, opens_in, opens_of}
use Rattle.reader.specs.Counted.{count_of}
use Rattle.reader.specs.Held.{SpanHeld, BindingHeld, OpenHeld}
use Rattle.reader.proofs.Opens.{opens_bindings, opens_nil}
use Rattle.reader.proofs.Tabulated.{tabulate_append}
use Rattle.model.specs.Stream.{Level, HeldStrand}
use Rattle.model.specs.Dispatch.{dispatch}
use Rattle.strands.specs.Packed.{strand_in}
use Rattle.sessions.specs.Sessions.{class_in, uri_in, strand_count, strands_in, level_in, levels_in}
use Rattle.coherence.specs.Fitting.{span_inside, prefix_fits, target_fits, aims}
use Rattle.sessions.specs.Coherence.{open_levels, open_bindings, coherent}
use Rattle.sessions.specs.Session.{Session}
use Rattle.model.proofs.Steps.{Below, HasTarget}
use Rattle.sessions.proofs.Sound.{StrandSound, LevelSound, Sound}

-- ---- counts
pub total_numbers : (levels : List ℕ) (n : ℕ) → total (λ (k : ℕ). get_or levels (3 * k + 2) 0) (tabulate (λ (k : ℕ). k) 0 n) ≡ count_of levels n
unfolding total tabulate count_of
total_numbers levels zero = refl
total_numbers levels (suc n) =
    let f : ℕ → ℕ = λ (k : ℕ). get_or levels (3 * k + 2) 0 in
    ap (λ (i : ℕ). total f (tabulate (λ (k : ℕ). k) 0 i)) (sym (add-one n))
    ∙ ap (total f) (tabulate_append (λ (k : ℕ). k) 0 n 1)
    ∙ total_append f (tabulate (λ (k : ℕ). k) 0 n) (tabulate (λ (k : ℕ). k) (0 + n) 1)
    ∙ ap (λ (i : ℕ). total f (tabulate (λ (k : ℕ). k) 0 n) + (f i + 0)) (zero-add n)
    ∙ ap (λ (i : ℕ). total f (tabulate (λ (k : ℕ). k) 0 n) + i) (add-zero (f n))
    ∙ ap (λ (i : ℕ). i + f n) (total_numbers levels n)

-- ---- one of the open levels
module _ (t : Table) (s : List ℕ) (z : Session) (P : Level (dispatch t) → Type 0) where
  pub level_at_lem : (depth k : ℕ) → k < depth → All P (levels_in t s z depth) → P (level_in t s z k)
  unfolding levels_in
  level_at_lem zero k l h = absurd (omega arith)
  level_at_lem (suc d) k l h =
      ⊎_elim (λ le. let e : d ≡ k = omega arith in subst (λ (i : ℕ). P (level_in t s z i)) e h.0) (λ lt. level_at_lem d k lt h.1) (le_or_lt d k)

module _ (levels bindings : List ℕ) (P : Open → Type 0) where
  pub open_at : (depth bound k : ℕ) → k < depth → All P (opens_in levels bindings depth bound) → (ds : List Binding) × P (record { name = name_in levels k; declarations = ds })
  unfolding opens_in
  open_at zero bound k l h = absurd (omega arith)
  open_at (suc d) bound k l h =
      ⊎_elim
      (λ le.
      let e : d ≡ k = omega arith in
      let ds = tabulate (binding_in bindings) (bound - get_or levels (3 * d + 2) 0) (get_or levels (3 * d + 2) 0) in
      (ds, subst (λ (i : ℕ). P (record { name = name_in levels i; declarations = ds })) e h.0))
      (λ lt. open_at d (bound - get_or levels (3 * d + 2) 0) k lt h.1) (le_or_lt d k)

pub bindings_held : (s : List ℕ) (os : List Open) → All (OpenHeld s) os → All (BindingHeld s) (bindings_of os)
unfolding bindings_of
bindings_held s [] h = tt
bindings_held s (o ∷ os) h = each_append (BindingHeld s) (bindings_of os) o.declarations (bindings_held s os h.1) h.0.declarations

-- ---- clause by clause
target_fits_lem : (units : ℕ) (o : Option ℕ) → Below units o → target_fits units o ≡ true
target_fits_lem units none h = refl
target_fits_lem units (some u) h = lt-ltb u units h

aims_so : (a : Action) (o : Option ℕ) → HasTarget a o → aims a o ≡ true
aims_so Attach o h = refl
aims_so Unwrap o h = refl
aims_so Validate none h = absurd h
aims_so Validate (some u) h = refl

span_fits : (s : List ℕ) (w : Span) → SpanHeld s w → span_inside s w ≡ true
span_fits s w h = le-leb (w.at + w.len) (length s) h

prefix_fits_lem : (s : List ℕ) (b : Binding) → BindingHeld s b → prefix_fits s b.prefix ≡ true
prefix_fits_lem s b h =
    ⊎_elim
    (λ e. left (eqb b.prefix.at 0 && eqb b.prefix.len 0) (is_part (bytes_of s b.prefix)) (both (eqb b.prefix.at 0) (eqb b.prefix.len 0) (eq-eqb b.prefix.at 0 (ap (λ (w : Span). w.at) e)) (eq-eqb b.prefix.len 0 (ap (λ (w : Span). w.len) e))))
    (λ e. right (eqb b.prefix.at 0 && eqb b.prefix.len 0) (is_part (bytes_of s b.prefix)) e)
    h.inside.part

class_fits_lem : (n class : ℕ) → (class ≤ n) ⊎ ((class ≡ 254) ⊎ (class ≡ 255)) → (leb class n || (eqb class 254 || eqb class 255)) ≡ true
class_fits_lem n class h =
    ⊎_elim (λ l. left (leb class n) (eqb class 254 || eqb class 255) (le-leb class n l))
    (λ m. right (leb class n) (eqb class 254 || eqb class 255) (⊎_elim (λ e. left (eqb class 254) (eqb class 255) (eq-eqb class 254 e)) (λ e. right (eqb class 254) (eqb class 255) (eq-eqb class 255 e)) m)) h

pub strands_counted : (z : Session) (k : ℕ) → length (strands_in z k) ≡ strand_count z k
unfolding strands_in
strands_counted z k =
    let numbers = tabulate (λ (i : ℕ). get_or z.strands i 0) (16 * k) (strand_count z k) in
    length-map numbers strand_in ∙ length_tabulate (λ (i : ℕ). get_or z.strands i 0) (16 * k) (strand_count z k)

module _ (t : Table) (s : List ℕ) (z : Session) (h : Sound t s z) where
  -- the k-th level, and its name
  pub sound_level : (k : ℕ) → k < z.scope.depth → LevelSound t s z.units (level_in t s z k)
  sound_level k l = level_at_lem t s z (LevelSound t s z.units) z.scope.depth k l h.levels

  pub sound_name : (k : ℕ) → k < z.scope.depth → (ds : List Binding) × OpenHeld s (record { name = name_in z.scope.levels k; declarations = ds })
  sound_name k l = open_at z.scope.levels z.scope.bindings (OpenHeld s) z.scope.depth z.scope.bound k l h.held.opened

  each_level : (p : ℕ → Bool) → ((k : ℕ) → k < z.scope.depth → p k ≡ true) → all p (open_levels z) ≡ true
  each_level p f = tabulated_all p (λ (k : ℕ). k) 0 z.scope.depth (λ k lo hi. f k (omega arith))

  by_strand : (p : HeldStrand ℕ → Bool) → ((r : HeldStrand ℕ) → StrandSound t z.units r → p r ≡ true) → all (λ (k : ℕ). all p (strands_in z k)) (open_levels z) ≡ true
  unfolding level_in
  by_strand p f = each_level (λ (k : ℕ). all p (strands_in z k)) (λ k l. all_each p (strands_in z k) (each_map _ _ f (strands_in z k) (sound_level k l).strands))

  by_binding : (p : Binding → Bool) → ((b : Binding) → BindingHeld s b → p b ≡ true) → all p (open_bindings z) ≡ true
  by_binding p f =
      all_each p (open_bindings z) (each_map _ _ f (open_bindings z) (subst (All (BindingHeld s)) (opens_bindings z.scope h.fits.counted) (bindings_held s (opens_of z.scope) h.held.opened)))

  counts : eqb (total (count_in z.scope) (open_levels z)) z.scope.bound ≡ true
  counts = eq-eqb (total (count_in z.scope) (open_levels z)) z.scope.bound (total_numbers z.scope.levels z.scope.depth ∙ h.fits.counted)

  awaited_fits_lem : (a : Bool) → (a ≡ true → opens_of z.scope ≡ [] → ⊥) → (not a || not (eqb z.scope.depth 0)) ≡ true
  unfolding opens_in
  awaited_fits_lem true f = ap not (ne_eqb z.scope.depth 0 (λ e. f refl (ap (λ (d : ℕ). opens_in z.scope.levels z.scope.bindings d z.scope.bound) e)))
  awaited_fits_lem false f = refl

  closed_fits_lem : (c : Bool) → (c ≡ true → opens_of z.scope ≡ []) → (not c || eqb z.scope.depth 0) ≡ true
  closed_fits_lem true f = sym (opens_nil z.scope) ∙ ap is_nil (f refl)
  closed_fits_lem false f = refl

  pub sound_coherent : coherent t s z ≡ true
  unfolding coherent level_in
  sound_coherent =
      both _ _ (le-leb z.scope.depth 64 h.fits.shallow)
      (both _ _ (le-leb z.scope.bound 64 h.fits.few)
      (both _ _ (le-leb z.place (length s) h.held.place)
      (both _ _ (each_level _ (λ k l. both _ _ (span_fits s (name_in z.scope.levels k) (sound_name k l).1.inside) (span_fits s (uri_in z k) (sound_level k l).uri_inside)))
      (both _ _ (by_binding _ (λ b k. both _ _ (span_fits s b.prefix k.inside.prefix) (span_fits s b.uri k.inside.uri)))
      (both _ _ (each_level _ (λ k l. let o = (sound_name k l).1 in both _ _ (ap not (ne_eqb (name_in z.scope.levels k).at 0 (omega (arith, o.behind)))) o.named))
      (both _ _ (by_binding _ (λ b k. ap not k.fits))
      (both _ _ (by_binding _ (prefix_fits_lem s))
      (both _ _ (each_level _ (λ k l. both _ _ (le-leb 1 (strand_count z k) (subst (λ (n : ℕ). 1 ≤ n) (strands_counted z k) (sound_level k l).some_strand)) (le-leb (strand_count z k) 16 (subst (λ (n : ℕ). n ≤ 16) (strands_counted z k) (sound_level k l).few_strands))))
      (both _ _ (by_strand _ (λ r k. lt-ltb r.mode t.modes k.mode_in))
      (both _ _ (each_level _ (λ k l. class_fits_lem (length t.uris) (class_in z k) (sound_level k l).class_in_lem))
      (both _ _ (by_strand _ (λ r k. target_fits_lem z.units r.target k.below))
      (both _ _ (by_strand _ (λ r k. aims_so r.action r.target k.aims))
      (both _ _ (le-leb z.units 65536 h.few_units)
      (both _ _ counts
      (both _ _ (awaited_fits_lem z.awaited h.held.awaited) (closed_fits_lem z.closed h.held.closed))))))))))))))))
