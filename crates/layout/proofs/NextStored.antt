-- A session that can be stored: so can the one that a step hands back.
--     next_storable              the session behind a step
--     stored_read                a session's bytes laid over others, read back
--     advance_keeps              what each step keeps, so many steps keep
use Prim.Native.Nat.{ℕ, zero, suc, ◌+◌, ◌*◌, ◌^◌, ◌≤◌, ◌<◌}
use mathlib.Core.Path.{◌≡◌, refl, ap, ◌∙◌}
use mathlib.Core.List.{List, [], ◌∷◌, ◌++◌, map}
use mathlib.Core.Bool.{true, not}
use native.Mathlib.Omega.{arith}
use borrow.Author.Tests.{ltb-false, not-false}
use lib.Dec.{eqb, leb, ltb}
use lib.ListN.{length, drop}
use Rattle.laws.specs.Members.{All}
use Rattle.laws.specs.Gather.{gather}
use Rattle.laws.specs.Over.{overwrite}
use Rattle.laws.proofs.Holds.{holds_cond}
use Rattle.table.specs.Table.{Table, decode, standard}
use Rattle.table.specs.Judge.{Accepted, judged}
use Rattle.reader.specs.declared.Binding.{Binding}
use Rattle.reader.specs.declared.Scope.{Scope}
use Rattle.reader.specs.Stored.{binding_numbers}
use Rattle.reader.specs.Scope.{closed_of}
use Rattle.reader.specs.Events as scene
use Rattle.model.specs.Tree.{start}
use Rattle.model.specs.Elements.{element_of}
use Rattle.model.specs.Stream.{entries_at, after}
use Rattle.model.specs.Dispatch.{dispatch}
use Rattle.strands.specs.Packed.{packed}
use Rattle.strands.proofs.Packing.{packed_all_small}
use Rattle.sessions.specs.Session.{Session}
use Rattle.sessions.specs.Sessions.{reader_of, state_of}
use Rattle.sessions.specs.Coherence.{coherent}
use Rattle.sessions.specs.Stepping.{Plan, refused, finished, event, start_plan, own_declarations, plan_by, plan_of, Step, planned, longest, step_of, rest_of, advance_of}
use Rattle.sessions.proofs.Sound.{Sound}
use Rattle.sessions.proofs.CoherentSound.{coherent_sound}
use Rattle.sessions.proofs.NewStrands.{new_strands, new_length}
use Rattle.sessions.proofs.SoundStep.{sound_step}
use Rattle.layout.specs.Layout.{session_in, holds_session, session_bytes}
use Rattle.layout.proofs.RoundTrip.{Storable, AllPack, read_back, held_back}
use Rattle.layout.proofs.NextHeld.{each_take, each_over, new_packable}

abbrev Few : List ℕ → Type 0
Few l = All (λ (w : ℕ). w < 2 ^ 32) l

-- the four arrays
record ArraysFew (z : Session) : Type 0 where
  pub levels : Few z.scope.levels
  pub bindings : Few z.scope.bindings
  pub spaces : Few z.spaces
  pub strands : Few z.strands

abbrev PlanFew : Plan → Type 0
PlanFew (refused n p) = Unit {0}
PlanFew (finished p) = Unit {0}
PlanFew (event at records next) = ArraysFew next

own_few : (bs : List Binding) → Few (gather binding_numbers bs)
unfolding gather
own_few [] = tt
own_few (b ∷ bs) = (omega arith, (omega arith, (omega arith, (omega arith, own_few bs))))

closed_few : (sc : Scope) → Few sc.levels → Few sc.bindings → Few (closed_of sc).levels × Few (closed_of sc).bindings
unfolding closed_of
closed_few sc h k =
    holds_cond Both (eqb sc.depth 0) (λ e. (h, k)) (λ e.
    holds_cond Both (ltb 64 sc.depth) (λ f. (h, k)) (λ f. (h, k)))
  where
    Both : Scope → Type 0
    Both x = Few x.levels × Few x.bindings

module _ (table : List ℕ) (accepted : Accepted table ≡ true) (s : List ℕ) (z : Session) (ok : coherent (decode table) s z ≡ true) (few : ArraysFew z) where
  abbrev t : Table
  t = decode table

  start_few : (e : scene.Start) (declared : List Binding) (place : ℕ) → PlanFew (start_plan t s z e declared place)
  unfolding start_plan
  start_few e declared place =
      let units = (after (dispatch t) (state_of t s z) (start (element_of t s e))).units in
      let new = new_strands t (state_of t s z) (element_of t s e) in
      let own = length declared in
      holds_cond PlanFew (leb 64 z.scope.depth) (λ d. tt) (λ d.
      holds_cond PlanFew (ltb 64 (z.scope.bound + own)) (λ b. tt) (λ b.
      holds_cond PlanFew (ltb 16 (length (entries_at (dispatch t) (state_of t s z).levels (element_of t s e)))) (λ c. tt) (λ c.
      holds_cond PlanFew (ltb 65536 units) (λ u. tt) (λ u.
      (record {
        levels = each_over (λ (w : ℕ). w < 2 ^ 32) z.scope.levels (3 * z.scope.depth) _ few.levels (omega arith, (omega arith, (omega (arith, ltb-false 64 (z.scope.bound + own) b), tt)));
        bindings = each_over (λ (w : ℕ). w < 2 ^ 32) z.scope.bindings (4 * z.scope.bound) _ few.bindings (each_take (λ (w : ℕ). w < 2 ^ 32) (4 * own) (gather binding_numbers declared) (own_few declared));
        spaces = each_over (λ (w : ℕ). w < 2 ^ 32) z.spaces (4 * z.scope.depth) _ few.spaces (omega arith, (omega arith, (omega arith, (omega (arith, new_length t (state_of t s z) (element_of t s e), ltb-false 16 (length (entries_at (dispatch t) (state_of t s z).levels (element_of t s e))) c), tt))));
        strands = each_over (λ (w : ℕ). w < 2 ^ 32) z.strands (16 * z.scope.depth) (map packed new) few.strands (packed_all_small new (new_packable table accepted s z ok e (ltb-false 65536 units u)));
      })))))

  next_few : (x : scene.Next) → PlanFew (plan_by t s z x)
  next_few (scene.refusal n p) = tt
  next_few (scene.finished p) = tt
  next_few (scene.event (scene.start e) z') = start_few e (own_declarations z'.opened) z'.place
  next_few (scene.event (scene.text w) z') = record { levels = few.levels; bindings = few.bindings; spaces = few.spaces; strands = few.strands }
  next_few (scene.event (scene.end part at) z') =
      let c = closed_few z.scope few.levels few.bindings in
      record { levels = c.0; bindings = c.1; spaces = few.spaces; strands = few.strands }

  plan_few : PlanFew (plan_of t s z)
  unfolding plan_of
  plan_few = next_few (scene.next s (reader_of z))

-- with a sound session's lengths and numbers
sound_storable : (t : Table) (s : List ℕ) (z : Session) → length s ≤ 16777215 → Sound t s z → ArraysFew z → Storable z
sound_storable t s z short h few =
    record {
      levels_many = h.fits.levels_long;
      bindings_many = h.fits.bindings_long;
      spaces_many = h.fits.spaces_long;
      strands_many = h.fits.strands_long;
      levels_few = few.levels;
      bindings_few = few.bindings;
      spaces_few = few.spaces;
      strands_few = few.strands;
      place_few = omega (arith, h.held.place);
      units_few = omega (arith, h.few_units);
      depth_few = omega (arith, h.fits.shallow);
      bound_few = omega (arith, h.fits.few);
    }

module _ (table : List ℕ) (accepted : Accepted table ≡ true) (s : List ℕ) (short : length s ≤ 16777215) (z : Session) (ok : coherent (decode table) s z ≡ true) (h : Storable z) where
  sound : Sound (decode table) s z
  sound = coherent_sound (decode table) s z h.levels_many h.bindings_many h.spaces_many h.strands_many ok

  planned_storable : (out : List ℕ) (x : Plan) → plan_of (decode table) s z ≡ x → PlanFew x → Storable (planned x z out).session
  planned_storable out (refused n p) q k = h
  planned_storable out (finished p) q k = h
  planned_storable out (event p rs z'') q k =
      holds_cond (λ (r : Step). Storable r.session) (ltb (length out) (16 * length rs)) (λ e. h)
      (λ e. sound_storable (decode table) s z'' short (sound_step table accepted s z sound short p rs z'' q) k)

pub next_storable : (table s : List ℕ) (z : Session) (out : List ℕ) → Storable z → Storable (step_of standard table s z out).session
unfolding step_of
next_storable table s z out h =
    holds_cond Stores (not (eqb (judged table).number 0)) (λ e. h) (λ e.
    holds_cond Stores (ltb longest (length s)) (λ l. h) (λ l.
    holds_cond Stores (not (coherent (decode table) s z)) (λ c. h) (λ c.
    let accepted = not-false (eqb (judged table).number 0) e in
    let ok = not-false (coherent (decode table) s z) c in
    planned_storable table accepted s (ltb-false longest (length s) l) z ok h out (plan_of (decode table) s z) refl
    (plan_few table accepted s z ok (record { levels = h.levels_few; bindings = h.bindings_few; spaces = h.spaces_few; strands = h.strands_few })))))
  where
    Stores : Step → Type 0
    Stores r = Storable r.session

-- ---- bytes
over_first : (b ys : List ℕ) → overwrite b 0 ys ≡ ys ++ drop (0 + length ys) b
unfolding overwrite
over_first b ys = refl

pub stored_read : (b : List ℕ) (z : Session) → Storable z → session_in (overwrite b 0 (session_bytes z)) ≡ z
stored_read b z h = ap session_in (over_first b (session_bytes z)) ∙ read_back z (drop (0 + length (session_bytes z)) b) h

pub stored_held : (b : List ℕ) (z : Session) → Storable z → AllPack z → holds_session (overwrite b 0 (session_bytes z)) ≡ true
stored_held b z h k = ap holds_session (over_first b (session_bytes z)) ∙ held_back z (drop (0 + length (session_bytes z)) b) h k

-- ---- many steps
-- what each step keeps of a session, so many steps keep
pub advance_keeps : (P : Session → Type 0) (table s : List ℕ) → ((z : Session) (out : List ℕ) → P z → P (step_of standard table s z out).session) → (most : ℕ) (z : Session) (out : List ℕ) → P z → P (advance_of standard most table s z out).session
unfolding advance_of
advance_keeps P table s keeps zero z out h = h
advance_keeps P table s keeps (suc n) z out h =
    let r = step_of standard table s z out in
    holds_cond (λ (w : Step). P w.session) (eqb r.answer.number 0)
    (λ e. advance_keeps P table s keeps n r.session (rest_of r) (keeps z out h))
    (λ e. keeps z out h)
