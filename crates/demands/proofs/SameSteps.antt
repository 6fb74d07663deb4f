-- N6: sessions that hold the same are judged, asked, stepped and committed alike.
--     same_coherent        number 20 judges what is held
--     same_ask, same_step  the same figures; the same answer and output
--     commit_as_asked      a commit of what was asked, on any session that holds what was asked about, is a step, and ask says what it gives
use Prim.Native.Nat.{ℕ, zero, suc, ◌+◌, ◌*◌}
use mathlib.Core.Path.{◌≡◌, refl, sym, ap, ap₂, subst, ◌∙◌, fun_ext}
use mathlib.Core.List.{List, map}
use mathlib.Core.Bool.{Bool, true, false, cond, not, ◌&&◌, ◌||◌}
use mathlib.Core.Logic.{inr}
use lib.ListN.{length}
use lib.Dec.{leb, ltb, eqb}
use Rattle.laws.specs.Lists.{all, tabulate}
use Rattle.laws.specs.Gather.{total, gather}
use Rattle.laws.specs.Over.{overwrite}
use Rattle.laws.proofs.Lists.{length_tabulate}
use Rattle.table.specs.Table.{Table, decode, standard}
use Rattle.table.specs.Judge.{judged}
use Rattle.table.specs.declared.Answer.{Answer}
use Rattle.reader.specs.declared.Binding.{Binding}
use Rattle.reader.specs.Spans.{bytes_of}
use Rattle.reader.specs.Namespaces.{refused_binding}
use Rattle.reader.specs.Scope.{count_in}
use Rattle.reader.specs.Events as scene
use Rattle.lexer.specs.Whole.{is_whole_name}
use Rattle.model.specs.Theory.{Record}
use Rattle.model.specs.Tree.{start, text, end}
use Rattle.model.specs.Elements.{Element, element_of}
use Rattle.model.specs.Records.{Body}
use Rattle.model.specs.Stream.{HeldStrand, State, Entry, entries_at, entered, written, after}
use Rattle.model.specs.Dispatch.{dispatch, record_bytes_of}
use Rattle.coherence.specs.Fitting.{span_inside, prefix_fits, target_fits, aims}
use Rattle.equality.specs.Same.{HeldLevel, held_level}
use Rattle.sessions.specs.Sessions.{strand_count, strands_in, reader_of, state_of, with_place, with_end, with_start}
use Rattle.sessions.specs.Coherence.{open_levels, place_inside, level_spans_inside, binding_spans_inside, names_fit, bindings_allowed, prefixes_fit, depth_fits, strand_counts_fit, modes_fit, classes_fit, targets_fit, validates_aim, units_fit, bound_fits, counts_add_up, awaited_fits, closed_fits, coherent}
use Rattle.sessions.specs.Stepping.{Plan, refused, finished, event, start_plan, own_declarations, event_plan, plan_by, plan_of, Step, answered, refused_step, planned, longest, step_of}
use Rattle.sessions.specs.Asking.{holds_same, plan_answer, judged_first, ask_answer, offer_of, asked_as, ask_of, commit_of}
use Rattle.sessions.specs.Session.{Session}
use Rattle.sessions.proofs.HeldSame.{SameHeld, same_held}
use Rattle.sessions.proofs.Clauses.{clauses}
use Rattle.sessions.proofs.SoundCoherent.{strands_counted}
use Rattle.demands.specs.Offers.{Foretold}
use Rattle.demands.proofs.HeldAlike.{held, alike_states}
use Rattle.demands.proofs.Offers.{asks, commits}

-- a test and a sum over the open levels, by what is held
all_held : (q : HeldLevel → Bool) (z : Session) (from n : ℕ) → all (λ (k : ℕ). q (held z k)) (tabulate (λ (k : ℕ). k) from n) ≡ all q (tabulate (held z) from n)
unfolding all tabulate
all_held q z from zero = refl
all_held q z from (suc n) = ap (λ (b : Bool). q (held z from) && b) (all_held q z (suc from) n)

total_held : (f : HeldLevel → ℕ) (z : Session) (from n : ℕ) → total (λ (k : ℕ). f (held z k)) (tabulate (λ (k : ℕ). k) from n) ≡ total f (tabulate (held z) from n)
unfolding total tabulate
total_held f z from zero = refl
total_held f z from (suc n) = ap (λ (b : ℕ). f (held z from) + b) (total_held f z (suc from) n)

count_held : (z : Session) (k : ℕ) → strand_count z k ≡ length (held z k).strands
unfolding held_level strands_in
count_held z k = sym (strands_counted z k)

module _ (x y : Session) (h : SameHeld x y) where
  depth_same : x.scope.depth ≡ y.scope.depth
  depth_same = sym (length_tabulate (held x) 0 x.scope.depth) ∙ ap length h.levels ∙ length_tabulate (held y) 0 y.scope.depth

  bound_same : x.scope.bound ≡ y.scope.bound
  bound_same = sym (length_tabulate _ 0 x.scope.bound) ∙ ap length h.bindings ∙ length_tabulate _ 0 y.scope.bound

  levels_all : (q : HeldLevel → Bool) → all (λ (k : ℕ). q (held x k)) (open_levels x) ≡ all (λ (k : ℕ). q (held y k)) (open_levels y)
  levels_all q = all_held q x 0 x.scope.depth ∙ ap (all q) h.levels ∙ sym (all_held q y 0 y.scope.depth)

  counts_all : (q : ℕ → Bool) → all (λ (k : ℕ). q (strand_count x k)) (open_levels x) ≡ all (λ (k : ℕ). q (strand_count y k)) (open_levels y)
  counts_all q =
      ap (λ (f : ℕ → Bool). all f (open_levels x)) (fun_ext (λ k. ap q (count_held x k)))
      ∙ levels_all (λ (v : HeldLevel). q (length v.strands))
      ∙ sym (ap (λ (f : ℕ → Bool). all f (open_levels y)) (fun_ext (λ k. ap q (count_held y k))))

  sum_same : total (count_in x.scope) (open_levels x) ≡ total (count_in y.scope) (open_levels y)
  unfolding held_level
  sum_same =
      let f : HeldLevel → ℕ = λ (v : HeldLevel). v.bindings in
      total_held f x 0 x.scope.depth ∙ ap (total f) h.levels ∙ sym (total_held f y 0 y.scope.depth)

  by_held : (t : Table) (s : List ℕ) → coherent t s x ≡ coherent t s y
  unfolding coherent held_level strands_in
  by_held t s =
      let depths : depth_fits x ≡ depth_fits y = ap (λ (n : ℕ). leb n 64) depth_same in
      let bounds : bound_fits x ≡ bound_fits y = ap (λ (n : ℕ). leb n 64) bound_same in
      let places : place_inside s x ≡ place_inside s y = ap (λ (n : ℕ). leb n (length s)) h.place in
      let spans : level_spans_inside s x ≡ level_spans_inside s y = levels_all (λ (v : HeldLevel). span_inside s v.name && span_inside s v.uri) in
      let bindings : binding_spans_inside s x ≡ binding_spans_inside s y = ap (all (λ (b : Binding). span_inside s b.prefix && span_inside s b.uri)) h.bindings in
      let names : names_fit s x ≡ names_fit s y = levels_all (λ (v : HeldLevel). not (eqb v.name.at 0) && is_whole_name (bytes_of s v.name)) in
      let allowed : bindings_allowed s x ≡ bindings_allowed s y = ap (all (λ (b : Binding). not (refused_binding s b))) h.bindings in
      let prefixes : prefixes_fit s x ≡ prefixes_fit s y = ap (all (λ (b : Binding). prefix_fits s b.prefix)) h.bindings in
      let counts : strand_counts_fit x ≡ strand_counts_fit y = counts_all (λ (n : ℕ). leb 1 n && leb n 16) in
      let modes : modes_fit t x ≡ modes_fit t y = levels_all (λ (v : HeldLevel). all (λ (r : HeldStrand ℕ). ltb r.mode t.modes) v.strands) in
      let classes : classes_fit t x ≡ classes_fit t y = levels_all (λ (v : HeldLevel). leb v.class (length t.uris) || (eqb v.class 254 || eqb v.class 255)) in
      let targets : targets_fit x ≡ targets_fit y =
      levels_all (λ (v : HeldLevel). all (λ (r : HeldStrand ℕ). target_fits x.units r.target) v.strands)
      ∙ ap (λ (u : ℕ). all (λ (k : ℕ). all (λ (r : HeldStrand ℕ). target_fits u r.target) (strands_in y k)) (open_levels y)) h.units in
      let aimed : validates_aim x ≡ validates_aim y = levels_all (λ (v : HeldLevel). all (λ (r : HeldStrand ℕ). aims r.action r.target) v.strands) in
      let units : units_fit x ≡ units_fit y = ap (λ (u : ℕ). leb u 65536) h.units in
      let sums : counts_add_up x ≡ counts_add_up y = ap₂ eqb sum_same bound_same in
      let awaits : awaited_fits x ≡ awaited_fits y = ap₂ (λ (a : Bool) (d : ℕ). not a || not (eqb d 0)) h.awaited depth_same in
      let closes : closed_fits x ≡ closed_fits y = ap₂ (λ (a : Bool) (d : ℕ). not a || eqb d 0) h.closed depth_same in
      λ i. depths i && (bounds i && (places i && (spans i && (bindings i && (names i && (allowed i && (prefixes i && (counts i && (modes i && (classes i && (targets i && (aimed i && (units i && (sums i && (awaits i && closes i)))))))))))))))

pub same_coherent : (t : Table) (s : List ℕ) (x y : Session) → holds_same x y ≡ true → coherent t s x ≡ coherent t s y
same_coherent t s x y e = by_held x y (same_held x y e) t s

-- ---- what comes next
module _ (x y : Session) where
  -- plans that are answered alike, on every output
  abbrev Alike : Plan → Plan → Type 0
  Alike p q = (plan_answer p ≡ plan_answer q) × ((out : List ℕ) → ((planned p x out).answer ≡ (planned q y out).answer) × ((planned p x out).output ≡ (planned q y out).output))

  refused_alike : (n p : ℕ) → Alike (refused n p) (refused n p)
  refused_alike n p = (refl, λ out. (refl, refl))

  event_alike : (at : ℕ) (rs : List (Record Body ℕ)) (v w : Session) → v.place ≡ w.place → Alike (event at rs v) (event at rs w)
  event_alike at rs v w e = (ap (λ (p : ℕ). answered 0 p 0 (length rs)) e, λ out. (by out (ltb (length out) (16 * length rs)), to out (ltb (length out) (16 * length rs))))
    where
      gives : Session → Session → List ℕ → Bool → Step
      gives z next out b = cond b (refused_step 25 at z out) (record { answer = answered 0 next.place 1 (length rs); session = next; output = overwrite out 0 (gather record_bytes_of rs) })

      by : (out : List ℕ) (b : Bool) → (gives x v out b).answer ≡ (gives y w out b).answer
      by out true = refl
      by out false = ap (λ (p : ℕ). answered 0 p 1 (length rs)) e

      to : (out : List ℕ) (b : Bool) → (gives x v out b).output ≡ (gives y w out b).output
      to out true = refl
      to out false = refl

  limits_alike : (a b c d : Bool) (at : ℕ) (rs : List (Record Body ℕ)) (v w : Session) → v.place ≡ w.place
      → Alike (cond a (refused 21 at) (cond b (refused 22 at) (cond c (refused 23 at) (cond d (refused 24 at) (event at rs v)))))
      (cond a (refused 21 at) (cond b (refused 22 at) (cond c (refused 23 at) (cond d (refused 24 at) (event at rs w)))))
  limits_alike true b c d at rs v w e = refused_alike 21 at
  limits_alike false true c d at rs v w e = refused_alike 22 at
  limits_alike false false true d at rs v w e = refused_alike 23 at
  limits_alike false false false true at rs v w e = refused_alike 24 at
  limits_alike false false false false at rs v w e = event_alike at rs v w e

  module _ (t : Table) (s : List ℕ) where
    -- what a start plans, by the depth, the bindings and the stream's state, and the session behind it
    abbrev start_in : scene.Start → List Binding → (ℕ → List (HeldStrand ℕ) → Session) → ℕ → ℕ → State (dispatch t) → Plan
    start_in e own behind depth bound state =
        let σ = element_of t s e in
        let next = after (dispatch t) state (start σ) in
        cond (leb 64 depth) (refused 21 e.at)
        (cond (ltb 64 (bound + length own)) (refused 22 e.at)
        (cond (ltb 16 (length (entries_at (dispatch t) state.levels σ))) (refused 23 e.at)
        (cond (ltb 65536 next.units) (refused 24 e.at)
        (event e.at (written (dispatch t) state (start σ)) (behind next.units (map (λ (v : Entry). v.strand) (entered (dispatch t) state σ)))))))

    abbrev behind_in : Session → scene.Start → List Binding → ℕ → ℕ → List (HeldStrand ℕ) → Session
    behind_in z e own place units strands = with_start z place e.empty units e.name own (element_of t s e).space strands

    start_in_lem : (z : Session) (e : scene.Start) (own : List Binding) (place : ℕ) → start_plan t s z e own place ≡ start_in e own (behind_in z e own place) z.scope.depth z.scope.bound (state_of t s z)
    unfolding start_plan
    start_in_lem z e own place = refl

    module _ (d : x.scope.depth ≡ y.scope.depth) (b : x.scope.bound ≡ y.scope.bound) (r : reader_of x ≡ reader_of y) (q : state_of t s x ≡ state_of t s y) where
      start_alike : (e : scene.Start) (own : List Binding) (place : ℕ) → Alike (start_plan t s x e own place) (start_plan t s y e own place)
      start_alike e own place =
          let σ : Element = element_of t s e in
          let state : State (dispatch t) = state_of t s y in
          let next : State (dispatch t) = after (dispatch t) state (start σ) in
          let strands : List (HeldStrand ℕ) = map (λ (v : Entry). v.strand) (entered (dispatch t) state σ) in
          let there : start_plan t s x e own place ≡ start_in e own (behind_in x e own place) y.scope.depth y.scope.bound state =
          start_in_lem x e own place ∙ (λ i. start_in e own (behind_in x e own place) (d i) (b i) (q i)) in
          subst (λ (p : Plan). Alike p (start_plan t s y e own place)) (sym there)
          (subst (Alike (start_in e own (behind_in x e own place) y.scope.depth y.scope.bound state)) (sym (start_in_lem y e own place))
          (limits_alike (leb 64 y.scope.depth) (ltb 64 (y.scope.bound + length own)) (ltb 16 (length (entries_at (dispatch t) state.levels σ))) (ltb 65536 next.units)
          e.at (written (dispatch t) state (start σ)) (behind_in x e own place next.units strands) (behind_in y e own place next.units strands) refl))

      by_next : (n : scene.Next) → Alike (plan_by t s x n) (plan_by t s y n)
      by_next (scene.event (scene.start e) z') = start_alike e (own_declarations z'.opened) z'.place
      by_next (scene.event (scene.text w) z') =
          subst (λ (k : State (dispatch t)). Alike (event w.at (written (dispatch t) k (text w)) (with_place x z'.place)) (event_plan t s y (scene.text w) z')) (sym q)
          (event_alike w.at (written (dispatch t) (state_of t s y) (text w)) (with_place x z'.place) (with_place y z'.place) refl)
      by_next (scene.event (scene.end part at) z') =
          subst (λ (k : State (dispatch t)). Alike (event at (written (dispatch t) k (end part)) (with_end x z'.place z'.closed)) (event_plan t s y (scene.end part at) z')) (sym q)
          (event_alike at (written (dispatch t) (state_of t s y) (end part)) (with_end x z'.place z'.closed) (with_end y z'.place z'.closed) refl)
      by_next (scene.refusal n p) = refused_alike n p
      by_next (scene.finished p) = (refl, λ out. (refl, refl))

      plans_alike : Alike (plan_of t s x) (plan_of t s y)
      unfolding plan_of
      plans_alike = subst (λ (k : scene.ReaderState). Alike (plan_by t s x (scene.next s k)) (plan_by t s y (scene.next s (reader_of y)))) (sym r) (by_next (scene.next s (reader_of y)))

-- ---- the calls
module _ (table s : List ℕ) (x y : Session) (e : holds_same x y ≡ true) where
  h : SameHeld x y
  h = same_held x y e

  alike : coherent (decode table) s x ≡ true → Alike x y (plan_of (decode table) s x) (plan_of (decode table) s y)
  alike c =
      let a = alike_states x y (clauses (decode table) s x c).sum e in
      plans_alike x y (decode table) s (depth_same x y h) (bound_same x y h) a.0 (a.1 (decode table) s)

  -- ask gives the same figures
  pub same_ask : ask_answer standard table s x ≡ ask_answer standard table s y
  unfolding judged_first
  same_ask = by (coherent (decode table) s x) refl
    where
      chain : Bool → Answer → Answer
      chain c go =
          cond (not (eqb (judged table).number 0)) (answered (judged table).number (judged table).place 0 0)
          (cond (ltb longest (length s)) (answered 7 0 0 0) (cond (not c) (answered 20 0 0 0) go))

      by : (c : Bool) → coherent (decode table) s x ≡ c → ask_answer standard table s x ≡ ask_answer standard table s y
      by true q = ap₂ chain (same_coherent (decode table) s x y e) (alike q).0
      by false q =
          ap (λ (c : Bool). chain c (plan_answer (plan_of (decode table) s x))) q
          ∙ sym (ap (λ (c : Bool). chain c (plan_answer (plan_of (decode table) s y))) (sym (same_coherent (decode table) s x y e) ∙ q))

  -- a step gives the same answer, and the same bytes
  pub same_step : (out : List ℕ) → ((step_of standard table s x out).answer ≡ (step_of standard table s y out).answer) × ((step_of standard table s x out).output ≡ (step_of standard table s y out).output)
  unfolding step_of
  same_step out = rw (same_coherent (decode table) s x y e) (by (not (eqb (judged table).number 0)) (ltb longest (length s)) (coherent (decode table) s y) refl)
    where
      chain : Session → Bool → Bool → Bool → Step → Step
      chain z a b c go = cond a (refused_step (judged table).number (judged table).place z out) (cond b (refused_step 7 0 z out) (cond (not c) (refused_step 20 0 z out) go))

      go_x : Step
      go_x = planned (plan_of (decode table) s x) x out

      go_y : Step
      go_y = planned (plan_of (decode table) s y) y out

      by : (a b c : Bool) → coherent (decode table) s y ≡ c → ((chain x a b c go_x).answer ≡ (chain y a b c go_y).answer) × ((chain x a b c go_x).output ≡ (chain y a b c go_y).output)
      by true b c q = (refl, refl)
      by false true c q = (refl, refl)
      by false false false q = (refl, refl)
      by false false true q = (alike (same_coherent (decode table) s x y e ∙ q)).1 out

-- "and gives Ask's figures where table and scene are those asked about and the output suffices": on every session that holds what was asked about
pub commit_as_asked : (table s : List ℕ) (x y : Session) (out : List ℕ) → holds_same y x ≡ true →
    let a = ask_of standard table s x in
    let r = commit_of standard a.offer y table s out in
    (r ≡ step_of standard table s y out) × Foretold a y out r
commit_as_asked table s x y out e =
    let c = commits table s y out (offer_of x s) (inr (e, refl)) in
    let f = (asks table s y).1 out in
    let told : Foretold (ask_of standard table s x) y out (step_of standard table s y out) =
    subst (λ (k : Answer). Foretold (asked_as k (offer_of x s)) y out (step_of standard table s y out)) (same_ask table s y x e) (record { short = f.short; enough = f.enough }) in
    (c, subst (Foretold (ask_of standard table s x) y out) (sym c) told)
