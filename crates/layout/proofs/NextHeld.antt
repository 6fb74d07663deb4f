-- Where every strand number of a session packs, so does every one of the session that a step hands back.
use Prim.Native.Nat.{ℕ, zero, suc, ◌+◌, ◌*◌, ◌≤◌}
use mathlib.Core.Path.{◌≡◌, ap}
use mathlib.Core.List.{List, [], ◌∷◌, ◌++◌, map}
use mathlib.Core.Bool.{true, not}
use native.Mathlib.Omega.{arith}
use borrow.Author.Tests.{eq-eqb, ltb-false, not-false}
use lib.Dec.{eqb, leb, ltb}
use lib.ListN.{length, take, drop}
use Rattle.laws.specs.Members.{All}
use Rattle.laws.specs.Over.{overwrite}
use Rattle.laws.proofs.Elementwise.{each_map, each_append}
use Rattle.laws.proofs.Holds.{holds_cond}
use Rattle.table.specs.Table.{Table, decode, standard}
use Rattle.table.specs.Judge.{Accepted, judged}
use Rattle.table.proofs.Accepted.{header_in}
use Rattle.reader.specs.Events as scene
use Rattle.model.specs.Tree.{start}
use Rattle.model.specs.Elements.{element_of}
use Rattle.model.specs.Stream.{entries_at, after, HeldStrand}
use Rattle.model.specs.Dispatch.{dispatch}
use Rattle.strands.specs.Packed.{strand_in, packed}
use Rattle.model.proofs.Steps.{below_more}
use Rattle.strands.proofs.Packing.{Packable, packed_back}
use Rattle.sessions.specs.Session.{Session}
use Rattle.sessions.specs.Sessions.{reader_of, state_of}
use Rattle.sessions.specs.Coherence.{coherent}
use Rattle.reader.specs.declared.Binding.{Binding}
use Rattle.sessions.specs.Stepping.{Plan, refused, finished, event, start_plan, own_declarations, plan_by, plan_of, Step, planned, longest, step_of}
use Rattle.sessions.proofs.Sound.{StrandSound}
use Rattle.sessions.proofs.CoherentSound.{coherent_levels}
use Rattle.sessions.proofs.NewStrands.{new_strands, new_strands_lem}
use Rattle.layout.specs.Layout.{packs}
use Rattle.layout.proofs.RoundTrip.{AllPack}

module _ (P : ℕ → Type 0) where
  pub each_take : (i : ℕ) (l : List ℕ) → All P l → All P (take i l)
  each_take zero l h = tt
  each_take (suc i) [] h = tt
  each_take (suc i) (x ∷ l) h = (h.0, each_take i l h.1)

  each_drop : (i : ℕ) (l : List ℕ) → All P l → All P (drop i l)
  each_drop zero l h = h
  each_drop (suc i) [] h = tt
  each_drop (suc i) (x ∷ l) h = each_drop i l h.1

  pub each_over : (xs : List ℕ) (i : ℕ) (ys : List ℕ) → All P xs → All P ys → All P (overwrite xs i ys)
  unfolding overwrite
  each_over xs i ys h k =
      each_append P (take i xs ++ ys) (drop (i + length ys) xs) (each_append P (take i xs) ys (each_take i xs h) k) (each_drop (i + length ys) xs h)

each_packs : (rs : List (HeldStrand ℕ)) → All Packable rs → All (λ (w : ℕ). packs w ≡ true) (map packed rs)
each_packs [] h = tt
each_packs (r ∷ rs) h = (eq-eqb (packed (strand_in (packed r))) (packed r) (ap packed (packed_back r h.0)), each_packs rs h.1)

-- the strands of a start that passes no limit
pub new_packable : (table : List ℕ) → Accepted table ≡ true → (s : List ℕ) (z : Session) → coherent (decode table) s z ≡ true → (e : scene.Start)
    → (after (dispatch (decode table)) (state_of (decode table) s z) (start (element_of (decode table) s e))).units ≤ 65536
    → All Packable (new_strands (decode table) (state_of (decode table) s z) (element_of (decode table) s e))
new_packable table accepted s z ok e few =
    let t = decode table in
    let units = (after (dispatch t) (state_of t s z) (start (element_of t s e))).units in
    let new = new_strands t (state_of t s z) (element_of t s e) in
    each_map (StrandSound t units) Packable
    (λ r h. record { mode_in = omega (arith, (header_in table accepted).few_modes, h.mode_in); target_in_lem = below_more units 65536 r.target few h.below })
    new (new_strands_lem table accepted s (state_of t s z) (element_of t s e) (coherent_levels t s z ok))

abbrev PlanPacks : Plan → Type 0
PlanPacks (refused n p) = Unit {0}
PlanPacks (finished p) = Unit {0}
PlanPacks (event at records next) = AllPack next

module _ (table : List ℕ) (accepted : Accepted table ≡ true) (s : List ℕ) (z : Session) (ok : coherent (decode table) s z ≡ true) (pack : AllPack z) where
  abbrev t : Table
  t = decode table

  new_pack : (e : scene.Start) → (after (dispatch t) (state_of t s z) (start (element_of t s e))).units ≤ 65536 → All (λ (w : ℕ). packs w ≡ true) (map packed (new_strands t (state_of t s z) (element_of t s e)))
  new_pack e few = each_packs (new_strands t (state_of t s z) (element_of t s e)) (new_packable table accepted s z ok e few)

  start_pack : (e : scene.Start) (own : List Binding) (place : ℕ) → PlanPacks (start_plan t s z e own place)
  unfolding start_plan
  start_pack e own place =
      let units = (after (dispatch t) (state_of t s z) (start (element_of t s e))).units in
      holds_cond PlanPacks (leb 64 z.scope.depth) (λ d. tt) (λ d.
      holds_cond PlanPacks (ltb 64 (z.scope.bound + length own)) (λ b. tt) (λ b.
      holds_cond PlanPacks (ltb 16 (length (entries_at (dispatch t) (state_of t s z).levels (element_of t s e)))) (λ c. tt) (λ c.
      holds_cond PlanPacks (ltb 65536 units) (λ u. tt) (λ u.
      each_over (λ (w : ℕ). packs w ≡ true) z.strands (16 * z.scope.depth) (map packed (new_strands t (state_of t s z) (element_of t s e))) pack (new_pack e (ltb-false 65536 units u))))))

  next_pack : (x : scene.Next) → PlanPacks (plan_by t s z x)
  next_pack (scene.refusal n p) = tt
  next_pack (scene.finished p) = tt
  next_pack (scene.event (scene.start e) z') = start_pack e (own_declarations z'.opened) z'.place
  next_pack (scene.event (scene.text w) z') = pack
  next_pack (scene.event (scene.end part at) z') = pack

  plan_pack : PlanPacks (plan_of t s z)
  unfolding plan_of
  plan_pack = next_pack (scene.next s (reader_of z))

planned_pack : (x : Plan) (z : Session) (out : List ℕ) → AllPack z → PlanPacks x → AllPack (planned x z out).session
planned_pack (refused n p) z out h k = h
planned_pack (finished p) z out h k = h
planned_pack (event at records next) z out h k = holds_cond (λ (r : Step). AllPack r.session) (ltb (length out) (16 * length records)) (λ e. h) (λ e. k)

-- whatever a step's number is
pub next_held : (table s : List ℕ) (z : Session) (out : List ℕ) → AllPack z → AllPack (step_of standard table s z out).session
unfolding step_of
next_held table s z out h =
    holds_cond Packs (not (eqb (judged table).number 0)) (λ e. h) (λ e.
    holds_cond Packs (ltb longest (length s)) (λ l. h) (λ l.
    holds_cond Packs (not (coherent (decode table) s z)) (λ c. h) (λ c.
    planned_pack (plan_of (decode table) s z) z out h
    (plan_pack table (not-false (eqb (judged table).number 0) e) s z (not-false (coherent (decode table) s z) c) h))))
  where
    Packs : Step → Type 0
    Packs r = AllPack r.session
