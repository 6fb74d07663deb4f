-- The figures so far: what the loop of `figures_of` keeps, and what one event makes of it.
--     Figured, figured_fresh     behind some events; before any
--     opened_figured, stayed_figured     behind one more: a start, and a text or an end
--     records_fit, left_less, shallow_behind     its records still fit, less is left to read, and not too many levels are open
--     figured_stops              where the run ends these are the forecast's figures
use Prim.Native.Nat.{ℕ, suc, ◌+◌, ◌*◌, ◌^◌, ◌≤◌, ◌<◌}
use mathlib.Core.Path.{◌≡◌, refl, sym, ap, subst, ◌∙◌}
use mathlib.Core.List.{List, [], ◌∷◌, ◌++◌, tail}
use mathlib.Core.Bool.{true}
use native.Mathlib.Numerals.{add-one}
use native.Mathlib.Omega.{arith}
use lib.ListN.{length, length-map, length-append}
use Rattle.laws.specs.Members.{All}
use Rattle.laws.proofs.Elementwise.{each_map}
use Rattle.table.specs.Table.{Table, decode}
use Rattle.table.specs.Judge.{Accepted}
use Rattle.reader.specs.Events as scene
use Rattle.reader.specs.declared.Span.{Span}
use Rattle.reader.proofs.Progress.{Onward, left_of, less, onward}
use Rattle.model.specs.Theory.{Record}
use Rattle.model.specs.Tree.{start, text, end}
use Rattle.model.specs.Records.{Body}
use Rattle.model.specs.Elements.{element_of}
use Rattle.model.specs.Stream.{Level, State, Entry, entries_at, after}
use Rattle.model.specs.Model.{units_opened}
use Rattle.model.specs.Dispatch.{dispatch, told}
use Rattle.model.proofs.Assigned.{modes_at}
use Rattle.model.proofs.Opened.{reached_units}
use Rattle.sessions.specs.Sessions.{strand_count, level_in, levels_in, reader_of, state_of, fresh_of}
use Rattle.sessions.specs.Stepping.{event, plan_of}
use Rattle.sessions.specs.Session.{Session}
use Rattle.sessions.proofs.NewStrands.{new_length}
use Rattle.sessions.proofs.SoundCoherent.{strands_counted}
use Rattle.sessions.proofs.Behind.{Behind, behind}
use Rattle.sessions.proofs.Followed.{followed, followed_few}
use Rattle.demands.specs.Scenes.{model_count}
use Rattle.demands.specs.Limits.{depth_at, strands_at, events_within, End, run_end}
use Rattle.demands.proofs.Measures.{stream_after, innermost, levels_length, depth_is, inner_strands}
use Rattle.demands.proofs.Reached.{Reached, reached_fresh, reached_step, counted, few_events}
use Rattle.demands.proofs.Limits.{passed_none, strands_next, taken_passed}
use Rattle.forecast.specs.Forecasts.{greater_of, greatest, unit_count, figures_of}
use Rattle.forecast.proofs.Greatest.{greater_first, greater_most}
use Rattle.forecast.proofs.WrittenFew.{written_few}
use Rattle.forecast.proofs.FewRecords.{attributes_few}
use Rattle.forecast.proofs.Stops.{Stopped}

-- a level with at most so many strands
abbrev pub FewStrands : (t : Table) → ℕ → Level (dispatch t) → Type 0
FewStrands t n l = length l.strands ≤ n

pub record Figured (table s : List ℕ) (z : Session) (records strands depth : ℕ) : Type 0 where
  pub events_taken : ℕ
  pub taken : List (Record Body ℕ)
  pub reached : Reached (decode table) s z events_taken taken
  pub count : records ≡ length taken
  pub few : records ≤ 2359840 * events_taken
  pub left : events_taken + left_of s (reader_of z) ≤ 2 * length s
  pub most_strands : strands ≡ greatest (strands_at (decode table) s) events_taken
  pub most_depth : depth ≡ greatest (depth_at (decode table) s) events_taken
  pub open_strands : All (FewStrands (decode table) strands) (state_of (decode table) s z).levels
  pub open_depth : z.scope.depth ≤ depth

pub figured_fresh : (table s : List ℕ) → Figured table s fresh_of 0 0 0
unfolding levels_in greatest
figured_fresh table s =
    record {
      events_taken = 0;
      taken = [];
      reached = reached_fresh (decode table) s;
      count = refl;
      few = omega arith;
      left = omega arith;
      most_strands = refl;
      most_depth = refl;
      open_strands = tt;
      open_depth = omega arith;
    }

greatest_on : (f : ℕ → ℕ) (k : ℕ) → greatest f (k + 1) ≡ greater_of (greatest f k) (f k)
unfolding greatest
greatest_on f k = ap (greatest f) (add-one k)

-- the innermost level's strands, as the session counts them
count_innermost : (t : Table) (s : List ℕ) (z : Session) (d : ℕ) → z.scope.depth ≡ suc d → innermost t (state_of t s z).levels ≡ strand_count z d
unfolding levels_in level_in
count_innermost t s z d e = ap (λ (n : ℕ). innermost t (levels_in t s z n)) e ∙ strands_counted z d

module _ (table : List ℕ) (ok : Accepted table ≡ true) (s : List ℕ) (short : length s ≤ 16777215) (z : Session) (records strands depth : ℕ) (g : Figured table s z records strands depth)
    (p : ℕ) (ps : List (Record Body ℕ)) (w : Session) (plan : plan_of (decode table) s z ≡ event p ps w) where
  abbrev t : Table
  t = decode table

  abbrev k : ℕ
  k = g.events_taken

  abbrev before : State (dispatch t)
  before = state_of t s z

  abbrev behind' : State (dispatch t)
  behind' = state_of t s w

  b : Behind t s z p ps w
  b = behind table ok s short z g.reached.sound p ps w plan

  more : Reached t s w (k + 1) (g.taken ++ ps)
  more = reached_step table ok s short z k g.taken g.reached p ps w plan

  -- ---- what is left to read
  pub left_less : left_of s (reader_of w) < left_of s (reader_of z)
  left_less = less s (reader_of z) (reader_of w) (subst (Onward s (reader_of z)) (sym b.reader) (onward s (reader_of z) b.state b.happened b.read))

  pub shallow_behind : w.scope.depth ≤ 64
  shallow_behind = more.sound.fits.shallow

  -- ---- its records are few
  strands_on : strands_at t s k ≡ length (modes_at (dispatch t) before (told t s b.happened))
  strands_on = strands_next t s z k g.taken g.reached b.happened b.state b.read

  records_few : length ps ≤ 2359840
  records_few =
      let few = followed_few s (reader_of z) b.happened b.state (followed s (reader_of z) g.reached.sound.held b.happened b.state b.read) in
      let units : (after (dispatch t) before (told t s b.happened)).units ≤ 65536 = subst (λ (y : State (dispatch t)). y.units ≤ 65536) b.stream b.few_units in
      let most = passed_none t s k (taken_passed table ok s w (k + 1) (g.taken ++ ps) more k (omega arith)) in
      rw b.records (omega (arith, written_few t s before b.happened few, attributes_few t s before b.happened few units, strands_on, most.1))

  pub records_fit : records + length ps < 2 ^ 64
  records_fit = omega (arith, records_few, g.few, g.left, left_less)

  -- ---- the model's measures of it, in the session
  depth_on : depth_at t s k ≡ w.scope.depth
  depth_on =
      depth_is t s k (omega (arith, few_events t s w (k + 1) (g.taken ++ ps) more))
      ∙ ap (λ (i : ℕ). length (stream_after t s i).levels) (sym (add-one k))
      ∙ ap (λ (y : State (dispatch t)). length y.levels) (sym more.ran.state)
      ∙ levels_length t s w w.scope.depth

  -- a start opens a level with its strands; a text and an end have those of the level that was innermost, and open none
  record Opens : Type 0 where
    deeper : w.scope.depth ≡ suc z.scope.depth
    strands_new : strands_at (decode table) s g.events_taken ≡ strand_count w z.scope.depth
    levels_new : (n : ℕ) → All (FewStrands (decode table) n) (state_of (decode table) s z).levels → strand_count w z.scope.depth ≤ n → All (FewStrands (decode table) n) (state_of (decode table) s w).levels

  record Stays : Type 0 where
    not_deeper : w.scope.depth ≤ z.scope.depth
    strands_old : strands_at (decode table) s g.events_taken ≡ innermost (decode table) (state_of (decode table) s z).levels
    levels_old : (n : ℕ) → All (FewStrands (decode table) n) (state_of (decode table) s z).levels → All (FewStrands (decode table) n) (state_of (decode table) s w).levels

  lengths : length behind'.levels ≡ w.scope.depth
  lengths = levels_length t s w w.scope.depth

  opens : (e : scene.Start) → behind' ≡ after (dispatch t) before (start (element_of t s e)) → strands_at t s k ≡ length (modes_at (dispatch t) before (start (element_of t s e))) → Opens
  unfolding after
  opens e q m =
      let σ = element_of t s e in
      let deep : w.scope.depth ≡ suc z.scope.depth = sym lengths ∙ ap (λ (y : State (dispatch t)). length y.levels) q ∙ ap suc (levels_length t s z z.scope.depth) in
      let new : length (entries_at (dispatch t) before.levels σ) ≡ strand_count w z.scope.depth =
      sym (new_length t before σ) ∙ sym (ap (λ (y : State (dispatch t)). innermost t y.levels) q) ∙ count_innermost t s w z.scope.depth deep in
      record {
        deeper = deep;
        strands_new = m ∙ length-map (entries_at (dispatch t) before.levels σ) (λ (x : Entry). x.strand.mode) ∙ new;
        levels_new = λ n a h. subst (λ (y : State (dispatch t)). All (FewStrands t n) y.levels) (sym q) (omega (arith, new, new_length t before σ), a);
      }

  text_stays : (v : Span) → behind' ≡ after (dispatch t) before (text v) → strands_at t s k ≡ length (modes_at (dispatch t) before (text v)) → Stays
  unfolding after
  text_stays v q m =
      record {
        not_deeper = omega (arith, lengths, levels_length t s z z.scope.depth, ap (λ (y : State (dispatch t)). length y.levels) q);
        strands_old = m ∙ (inner_strands t before.levels before.units v).0;
        levels_old = λ n a. subst (λ (y : State (dispatch t)). All (FewStrands t n) y.levels) (sym q) a;
      }

  tail_few : (n : ℕ) (ls : List (Level (dispatch t))) → All (FewStrands t n) ls → All (FewStrands t n) (tail ls) × (length (tail ls) ≤ length ls)
  tail_few n [] a = (tt, omega arith)
  tail_few n (l ∷ ls) a = (a.1, omega arith)

  end_stays : (v : Span) → behind' ≡ after (dispatch t) before (end v) → strands_at t s k ≡ length (modes_at (dispatch t) before (end v)) → Stays
  unfolding after
  end_stays v q m =
      record {
        not_deeper = omega (arith, lengths, levels_length t s z z.scope.depth, ap (λ (y : State (dispatch t)). length y.levels) q, (tail_few strands before.levels g.open_strands).1);
        strands_old = m ∙ (inner_strands t before.levels before.units v).1;
        levels_old = λ n a. subst (λ (y : State (dispatch t)). All (FewStrands t n) y.levels) (sym q) (tail_few n before.levels a).0;
      }

  -- ---- the figures behind it
  figured : (most deep : ℕ) → most ≡ greater_of strands (strands_at t s k) → deep ≡ greater_of depth (depth_at t s k) → All (FewStrands t most) behind'.levels → w.scope.depth ≤ deep → Figured table s w (records + length ps) most deep
  figured most deep es ed a d =
      record {
        events_taken = k + 1;
        taken = g.taken ++ ps;
        reached = more;
        count = omega (arith, g.count, length-append g.taken ps);
        few = omega (arith, records_few, g.few);
        left = omega (arith, left_less, g.left);
        most_strands = es ∙ ap (λ (n : ℕ). greater_of n (strands_at t s k)) g.most_strands ∙ sym (greatest_on (strands_at t s) k);
        most_depth = ed ∙ ap (λ (n : ℕ). greater_of n (depth_at t s k)) g.most_depth ∙ sym (greatest_on (depth_at t s) k);
        open_strands = a;
        open_depth = d;
      }

  pub opened_figured : z.scope.depth < w.scope.depth → Figured table s w (records + length ps) (greater_of strands (strand_count w z.scope.depth)) (greater_of depth w.scope.depth)
  opened_figured lt = by b.happened b.stream strands_on
    where
      opens_by : Opens → Figured table s w (records + length ps) (greater_of strands (strand_count w z.scope.depth)) (greater_of depth w.scope.depth)
      opens_by o =
          let c = strand_count w z.scope.depth in
          figured (greater_of strands c) (greater_of depth w.scope.depth) (ap (greater_of strands) (sym o.strands_new)) (ap (greater_of depth) (sym depth_on))
          (o.levels_new (greater_of strands c) (each_map (FewStrands t strands) (FewStrands t (greater_of strands c)) (λ l h. omega (arith, (greater_most strands c).0)) before.levels g.open_strands) (greater_most strands c).1)
          (greater_most depth w.scope.depth).1

      by : (e : scene.Event) → behind' ≡ after (dispatch t) before (told t s e) → strands_at t s k ≡ length (modes_at (dispatch t) before (told t s e)) → Figured table s w (records + length ps) (greater_of strands (strand_count w z.scope.depth)) (greater_of depth w.scope.depth)
      by (scene.start e) q m = opens_by (opens e q m)
      by (scene.text v) q m = absurd (omega (arith, (text_stays v q m).not_deeper))
      by (scene.end v at) q m = absurd (omega (arith, (end_stays v q m).not_deeper))

  pub stayed_figured : w.scope.depth ≤ z.scope.depth → Figured table s w (records + length ps) strands depth
  stayed_figured le = by b.happened b.stream strands_on
    where
      inner : (ls : List (Level (dispatch t))) → All (FewStrands t strands) ls → innermost t ls ≤ strands
      inner [] a = omega arith
      inner (l ∷ ls) a = a.0

      stays_by : Stays → Figured table s w (records + length ps) strands depth
      stays_by o =
          figured strands depth
          (greater_first strands (strands_at t s k) (omega (arith, o.strands_old, inner before.levels g.open_strands)))
          (greater_first depth (depth_at t s k) (omega (arith, depth_on, g.open_depth)))
          (o.levels_old strands g.open_strands)
          (omega (arith, g.open_depth))

      by : (e : scene.Event) → behind' ≡ after (dispatch t) before (told t s e) → strands_at t s k ≡ length (modes_at (dispatch t) before (told t s e)) → Figured table s w (records + length ps) strands depth
      by (scene.start e) q m = absurd (omega (arith, (opens e q m).deeper))
      by (scene.text v) q m = stays_by (text_stays v q m)
      by (scene.end v at) q m = stays_by (end_stays v q m)

-- ---- where it ends
-- the stream's count of units is the model's
pub units_counted : (t : Table) (s : List ℕ) (z : Session) (k : ℕ) (rs : List (Record Body ℕ)) → Reached t s z k rs → z.units ≡ unit_count t s k
unfolding unit_count
units_counted t s z k rs h =
    ap (λ (y : State (dispatch t)). y.units) h.ran.state ∙ reached_units (dispatch t) _
    ∙ ap (λ (l : List (Record Body ℕ)). length (units_opened l)) (sym h.ran.output ∙ h.model)

pub figured_stops : (table s : List ℕ) (z : Session) (records strands depth : ℕ) (g : Figured table s z records strands depth) (number place : ℕ) → Stopped (decode table) s g.events_taken number place
    → record { number = number; place = place; records = records; units = z.units; strands = strands; depth = depth } ≡ figures_of (decode table) s
unfolding figures_of
figured_stops table s z records strands depth g number place st =
    let t = decode table in
    let k = g.events_taken in
    let n : number ≡ (run_end t s).number = sym (ap (λ (e : End). e.number) st.ends) in
    let p : place ≡ (run_end t s).place = sym (ap (λ (e : End). e.place) st.ends) in
    let r : records ≡ model_count t s (events_within t s) = g.count ∙ counted t s z k g.taken g.reached ∙ ap (model_count t s) st.within in
    let u : z.units ≡ unit_count t s (events_within t s) = units_counted t s z k g.taken g.reached ∙ ap (unit_count t s) st.within in
    let m : strands ≡ greatest (strands_at t s) (events_within t s) = g.most_strands ∙ ap (greatest (strands_at t s)) st.within in
    let d : depth ≡ greatest (depth_at t s) (events_within t s) = g.most_depth ∙ ap (greatest (depth_at t s)) st.within in
    rw (n, p, r, u, m, d)
