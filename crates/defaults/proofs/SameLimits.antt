-- N3: "The number of strands is what it was: 23 does not come earlier. Units and records are more, so 24 and 25 may." Of a scene's events, under both
-- defaults:
--     depth_same, strands_same     as many elements are open behind the k-th event, and its element has as many strands
--     units_more                   the units opened by then are as many or more
--     limit_same                   it passes the same limit, or 24 where it passed none
use Prim.Native.Nat.{ℕ, suc, ◌≤◌, ◌<◌}
use mathlib.Core.Path.{◌≡◌, refl, sym, ap, ◌∙◌}
use mathlib.Core.List.{List, [], ◌∷◌, map, map-map, foldl, tail}
use mathlib.Core.Bool.{Bool, true, false, cond}
use mathlib.Core.Logic.{◌⊎◌, inl, inr}
use mathlib.Core.Option.{Option, none}
use native.Mathlib.Omega.{arith}
use borrow.Author.Tests.{lt-ltb, ltb-true}
use lib.ListN.{length, take, get_or}
use lib.Dec.{ltb}
use Rattle.laws.specs.Gather.{gather, total}
use Rattle.laws.proofs.Flags.{differ}
use Rattle.table.specs.Table.{Table, Default, header_of, or_else, rules_of, fallback, taken_of, all_rules, standard, former, decode_by}
use Rattle.table.specs.Judge.{Accepted}
use Rattle.table.specs.declared.Action.{Action}
use Rattle.table.specs.declared.Action.TheVariants.{Attach, Unwrap, Validate}
use Rattle.table.specs.declared.Rule.{Rule}
use Rattle.reader.specs.Events as scene
use Rattle.reader.specs.Spans.{span}
use Rattle.reader.specs.declared.Span.{Span}
use Rattle.model.specs.Tree.{start, text}
use Rattle.model.specs.Elements.{Element, element_of, same_space}
use Rattle.model.specs.Theory.{AttributeUnit}
use Rattle.model.specs.Records.{Body, kept_of}
use Rattle.model.specs.Groups.{AttributeGroup, groups_of, unit_by, attribute_units}
use Rattle.model.specs.Stream.{HeldStrand, held_before_root, stay, by_rule, Level, State, Entry, new_units, take_rules, entries_at, units_of, entered, after, fresh}
use Rattle.model.specs.Dispatch.{dispatch, told}
use Rattle.model.proofs.Lists.{gather_same, gather_map}
use Rattle.model.proofs.Assigned.{modes_at, next_modes, take_modes}
use Rattle.model.proofs.Steps.{entry_modes, allot_modes, new_append}
use Rattle.model.proofs.Tables.{one_by}
use Rattle.strands.specs.Rules.{opened}
use Rattle.demands.specs.Limits.{depth_at, bound_at, strands_at, units_at, passed}
use Rattle.demands.proofs.Measures.{stream_after, number_by, depth_is, strands_are, units_are}
use Rattle.defaults.proofs.Meeting.{now, before, element_same}

abbrev Levels : Table → Type 0
Levels u = List (Level (dispatch u))

abbrev modes_of : List (HeldStrand ℕ) → List ℕ
modes_of = map (λ (r : HeldStrand ℕ). r.mode)

new_modes : (u : Table) (z : State (dispatch u)) (σ : Element) → modes_of (map (λ (e : Entry). e.strand) (entered (dispatch u) z σ)) ≡ entry_modes (entries_at (dispatch u) z.levels σ)
new_modes u z σ = map-map (λ (r : HeldStrand ℕ). r.mode) (λ (e : Entry). e.strand) (entered (dispatch u) z σ) ∙ allot_modes _ (entries_at (dispatch u) z.levels σ)

-- the first of four tests that holds, where the last holds now if it held before
one_more : (a b c d d' : Bool) → (d' ≡ true → d ≡ true) → (number_by a b c d ≡ number_by a b c d') ⊎ ((number_by a b c d ≡ 24) × (number_by a b c d' ≡ 0))
one_more true b c d d' m = inl refl
one_more false true c d d' m = inl refl
one_more false false true d d' m = inl refl
one_more false false false true true m = inl refl
one_more false false false true false m = inr (refl, refl)
one_more false false false false true m = absurd (differ (sym (m refl)))
one_more false false false false false m = inl refl

total_most : {A : Type 0} (f g : A → ℕ) → ((x : A) → f x ≤ g x) → (xs : List A) → total f xs ≤ total g xs
unfolding total
total_most f g h [] = omega arith
total_most f g h (x ∷ xs) = omega (arith, h x, total_most f g h xs)

-- ---- the units that open at an element
abbrev opened_by : List Rule → ℕ
opened_by = total (λ (q : Rule). opened q.action)

rules_open : (o : Option ℕ) (qs : List Rule) → new_units (map (λ (q : Rule). record { strand = by_rule q.action q.next none o; schema = q.schema }) qs) ≡ opened_by qs
unfolding total
rules_open o [] = refl
rules_open o (q ∷ qs) = rw (one q.action, rules_open o qs)
  where
    one : (a : Action) → cond (by_rule {U = ℕ} a q.next none o).here 1 0 ≡ opened a
    one Attach = refl
    one Unwrap = refl
    one Validate = refl

-- where it starts a section, by the modes of the strands above
take_open : (u : Table) (σ : Element) (rs : List (HeldStrand ℕ)) → new_units (take_rules (dispatch u) σ rs) ≡ total (λ (mode : ℕ). opened_by (u.element_rules mode σ.space.class)) (modes_of rs)
unfolding gather total
take_open u σ [] = refl
take_open u σ (r ∷ rs) =
    let rules = u.element_rules r.mode σ.space.class in
    new_append (map (λ (q : Rule). record { strand = by_rule q.action q.next none r.target; schema = q.schema }) rules) (take_rules (dispatch u) σ rs)
    ∙ rw (rules_open r.target rules, take_open u σ rs)

-- where it starts none
stay_open : (rs : List (HeldStrand ℕ)) → new_units (map (λ (r : HeldStrand ℕ). record { strand = stay r; schema = 0 }) rs) ≡ 0
unfolding total
stay_open [] = refl
stay_open (r ∷ rs) = rw (stay_open rs)

module _ (t : List ℕ) where
  -- a default is taken under both or under neither
  both_taken : (P : List Rule → List Rule → Type 0) → ((rs : List Rule) → P rs rs) → (d d' : Default) (kind mode class : ℕ) → P (fallback d kind mode ∷ []) (fallback d' kind mode ∷ [])
      → P (taken_of (header_of t) (all_rules t (header_of t)) d kind mode class) (taken_of (header_of t) (all_rules t (header_of t)) d' kind mode class)
  unfolding taken_of
  both_taken P same d d' kind mode class default = by (ltb mode (header_of t).modes) (rules_of (all_rules t (header_of t)) mode kind class)
    where
      by : (b : Bool) (rs : List Rule) → P (cond b (or_else rs (fallback d kind mode ∷ [])) []) (cond b (or_else rs (fallback d' kind mode ∷ [])) [])
      by false rs = same []
      by true [] = default
      by true (r ∷ rs) = same (r ∷ rs)

  -- "the mode stays": a default makes one strand, in the same mode
  next_same : (mode class : ℕ) → map (λ (q : Rule). q.next) ((now t).element_rules mode class) ≡ map (λ (q : Rule). q.next) ((before t).element_rules mode class)
  next_same mode class = both_taken (λ xs ys. map (λ (q : Rule). q.next) xs ≡ map (λ (q : Rule). q.next) ys) (λ rs. refl) standard.element former.element 0 mode class refl

  -- at an element section it opens a unit, and formerly none
  opens_more : (mode class : ℕ) → opened_by ((before t).element_rules mode class) ≤ opened_by ((now t).element_rules mode class)
  unfolding total
  opens_more mode class = both_taken (λ xs ys. opened_by ys ≤ opened_by xs) (λ rs. omega arith) standard.element former.element 0 mode class (omega arith)

  -- at an attribute section it opens none
  attribute_units_same : (σ : Element) (mode : ℕ) → attribute_units (now t) mode σ ≡ attribute_units (before t) mode σ
  unfolding attribute_units gather
  attribute_units_same σ mode =
      gather_same _ _
      (λ (c : AttributeGroup).
      let units : List Rule → _ = gather (λ (r : Rule). unit_by σ c r.action r.schema) in
      both_taken (λ xs ys. units xs ≡ units ys) (λ rs. refl) standard.attribute former.attribute 1 mode c.space.class refl)
      (groups_of σ)

  take_same : (σ : Element) (rs qs : List (HeldStrand ℕ)) → modes_of rs ≡ modes_of qs → entry_modes (take_rules (dispatch (now t)) σ rs) ≡ entry_modes (take_rules (dispatch (before t)) σ qs)
  take_same σ rs qs e =
      take_modes (dispatch (now t)) σ rs
      ∙ gather_same _ _ (λ mode. next_same mode σ.space.class) (modes_of rs)
      ∙ ap (next_modes (dispatch (before t)) σ) e
      ∙ sym (take_modes (dispatch (before t)) σ qs)

  -- ---- the open elements: the same, and their strands in the same modes
  abbrev Alike : Levels (now t) → Levels (before t) → Type 0
  Alike [] [] = Unit {0}
  Alike [] (m ∷ ms) = ⊥
  Alike (l ∷ ls) [] = ⊥
  Alike (l ∷ ls) (m ∷ ms) = (l.at ≡ m.at) × (modes_of l.strands ≡ modes_of m.strands) × Alike ls ms

  alike_length : (ls : Levels (now t)) (ms : Levels (before t)) → Alike ls ms → length ls ≡ length ms
  alike_length [] [] h = refl
  alike_length [] (m ∷ ms) h = absurd h
  alike_length (l ∷ ls) [] h = absurd h
  alike_length (l ∷ ls) (m ∷ ms) h = ap suc (alike_length ls ms h.2)

  enter_same : (σ : Element) (ls : Levels (now t)) (ms : Levels (before t)) → Alike ls ms → entry_modes (entries_at (dispatch (now t)) ls σ) ≡ entry_modes (entries_at (dispatch (before t)) ms σ)
  enter_same σ [] [] h = take_same σ (held_before_root ∷ []) (held_before_root ∷ []) refl
  enter_same σ [] (m ∷ ms) h = absurd h
  enter_same σ (l ∷ ls) [] h = absurd h
  enter_same σ (l ∷ ls) (m ∷ ms) h = rw h.0 (by (same_space m.at.space σ.space))
    where
      stayed : HeldStrand ℕ → Entry
      stayed r = record { strand = stay r; schema = 0 }

      by : (b : Bool) → entry_modes (cond b (map stayed l.strands) (take_rules (dispatch (now t)) σ l.strands)) ≡ entry_modes (cond b (map stayed m.strands) (take_rules (dispatch (before t)) σ m.strands))
      by true = map-map (λ (e : Entry). e.strand.mode) stayed l.strands ∙ h.1 ∙ sym (map-map (λ (e : Entry). e.strand.mode) stayed m.strands)
      by false = take_same σ l.strands m.strands h.1

  open_more : (σ : Element) (rs qs : List (HeldStrand ℕ)) → modes_of rs ≡ modes_of qs → new_units (take_rules (dispatch (before t)) σ qs) ≤ new_units (take_rules (dispatch (now t)) σ rs)
  open_more σ rs qs e =
      let opens_in : Table → ℕ → ℕ = λ u mode. opened_by (u.element_rules mode σ.space.class) in
      omega (arith, take_open (now t) σ rs, take_open (before t) σ qs, ap (total (opens_in (before t))) e, total_most (opens_in (before t)) (opens_in (now t)) (λ mode. opens_more mode σ.space.class) (modes_of rs))

  enter_more : (σ : Element) (ls : Levels (now t)) (ms : Levels (before t)) → Alike ls ms → new_units (entries_at (dispatch (before t)) ms σ) ≤ new_units (entries_at (dispatch (now t)) ls σ)
  enter_more σ [] [] h = open_more σ (held_before_root ∷ []) (held_before_root ∷ []) refl
  enter_more σ [] (m ∷ ms) h = absurd h
  enter_more σ (l ∷ ls) [] h = absurd h
  enter_more σ (l ∷ ls) (m ∷ ms) h = rw h.0 (by (same_space m.at.space σ.space))
    where
      stayed : List (HeldStrand ℕ) → List Entry
      stayed = map (λ (r : HeldStrand ℕ). record { strand = stay r; schema = 0 })

      by : (b : Bool) → new_units (cond b (stayed m.strands) (take_rules (dispatch (before t)) σ m.strands)) ≤ new_units (cond b (stayed l.strands) (take_rules (dispatch (now t)) σ l.strands))
      by true = omega (arith, stay_open m.strands)
      by false = open_more σ l.strands m.strands h.1

  -- by the modes of the element's strands
  all_units_same : (σ : Element) (es fs : List Entry) → entry_modes es ≡ entry_modes fs → units_of (dispatch (now t)) σ es ≡ units_of (dispatch (before t)) σ fs
  all_units_same σ es fs e =
      gather_same _ _ (λ x. attribute_units_same σ x.strand.mode) es
      ∙ sym (gather_map units (λ (x : Entry). x.strand.mode) es)
      ∙ ap (gather units) e
      ∙ gather_map units (λ (x : Entry). x.strand.mode) fs
    where
      units : ℕ → List (AttributeUnit Body)
      units mode = attribute_units (before t) mode σ

  start_more : (σ : Element) (z : State (dispatch (now t))) (w : State (dispatch (before t))) → Alike z.levels w.levels → w.units ≤ z.units
      → (after (dispatch (before t)) w (start σ)).units ≤ (after (dispatch (now t)) z (start σ)).units
  unfolding after
  start_more σ z w h m =
      omega (arith, m, enter_more σ z.levels w.levels h, ap length (all_units_same σ (entries_at (dispatch (now t)) z.levels σ) (entries_at (dispatch (before t)) w.levels σ) (enter_same σ z.levels w.levels h)))

  inner_same : (v : Span) (i j : ℕ) (ls : Levels (now t)) (ms : Levels (before t)) → Alike ls ms
      → modes_at (dispatch (now t)) (record { levels = ls; units = i }) (text v) ≡ modes_at (dispatch (before t)) (record { levels = ms; units = j }) (text v)
  inner_same v i j [] [] h = refl
  inner_same v i j [] (m ∷ ms) h = absurd h
  inner_same v i j (l ∷ ls) [] h = absurd h
  inner_same v i j (l ∷ ls) (m ∷ ms) h = h.1

  tail_alike : (ls : Levels (now t)) (ms : Levels (before t)) → Alike ls ms → Alike (tail ls) (tail ms)
  tail_alike [] [] h = tt
  tail_alike [] (m ∷ ms) h = absurd h
  tail_alike (l ∷ ls) [] h = absurd h
  tail_alike (l ∷ ls) (m ∷ ms) h = h.2

  -- ---- behind each event
  module _ (s : List ℕ) where
    start_same : (e : scene.Start) (ls : Levels (now t)) (ms : Levels (before t)) → Alike ls ms
        → entry_modes (entries_at (dispatch (now t)) ls (element_of (now t) s e)) ≡ entry_modes (entries_at (dispatch (before t)) ms (element_of (before t) s e))
    start_same e ls ms h = enter_same (element_of (now t) s e) ls ms h ∙ ap (λ (σ : Element). entry_modes (entries_at (dispatch (before t)) ms σ)) (sym (element_same t s e))

    modes_same : (e : scene.Event) (z : State (dispatch (now t))) (w : State (dispatch (before t))) → Alike z.levels w.levels → modes_at (dispatch (now t)) z (told (now t) s e) ≡ modes_at (dispatch (before t)) w (told (before t) s e)
    modes_same (scene.start e) z w h = start_same e z.levels w.levels h
    modes_same (scene.text v) z w h = inner_same v z.units w.units z.levels w.levels h
    modes_same (scene.end part at) z w h = inner_same part z.units w.units z.levels w.levels h

    after_alike : (e : scene.Event) (z : State (dispatch (now t))) (w : State (dispatch (before t))) → Alike z.levels w.levels
        → Alike (after (dispatch (now t)) z (told (now t) s e)).levels (after (dispatch (before t)) w (told (before t) s e)).levels
    unfolding after
    after_alike (scene.start e) z w h = (
      ap kept_of (sym (element_same t s e)),
      new_modes (now t) z (element_of (now t) s e) ∙ start_same e z.levels w.levels h ∙ sym (new_modes (before t) w (element_of (before t) s e)),
      h,
    )
    after_alike (scene.text v) z w h = h
    after_alike (scene.end part at) z w h = tail_alike z.levels w.levels h

    after_more : (e : scene.Event) (z : State (dispatch (now t))) (w : State (dispatch (before t))) → Alike z.levels w.levels → w.units ≤ z.units
        → (after (dispatch (before t)) w (told (before t) s e)).units ≤ (after (dispatch (now t)) z (told (now t) s e)).units
    unfolding after
    after_more (scene.start e) z w h m = rw (element_same t s e) (start_more (element_of (now t) s e) z w h m)
    after_more (scene.text v) z w h m = m
    after_more (scene.end part at) z w h m = m

    abbrev Both : State (dispatch (now t)) → State (dispatch (before t)) → Type 0
    Both z w = Alike z.levels w.levels × (w.units ≤ z.units)

    reached_both : (es : List scene.Event) (z : State (dispatch (now t))) (w : State (dispatch (before t))) → Both z w
        → Both (foldl (after (dispatch (now t))) z (map (told (now t) s) es)) (foldl (after (dispatch (before t))) w (map (told (before t) s) es))
    reached_both [] z w h = h
    reached_both (e ∷ es) z w h = reached_both es _ _ (after_alike e z w h.0, after_more e z w h.0 h.1)

    stream_both : (k : ℕ) → Both (stream_after (now t) s k) (stream_after (before t) s k)
    stream_both k = reached_both (take k (scene.events s)) (fresh (dispatch (now t))) (fresh (dispatch (before t))) (tt, omega arith)

    module _ (k : ℕ) (lt : k < length (scene.events s)) where
      pub depth_same : depth_at (decode_by standard t) s k ≡ depth_at (decode_by former t) s k
      depth_same = depth_is (now t) s k lt ∙ alike_length (stream_after (now t) s (suc k)).levels (stream_after (before t) s (suc k)).levels (stream_both (suc k)).0 ∙ sym (depth_is (before t) s k lt)

      pub strands_same : strands_at (decode_by standard t) s k ≡ strands_at (decode_by former t) s k
      strands_same =
          let d : scene.Event = scene.text (span 0 0) in
          strands_are (now t) s k lt d
          ∙ ap length (modes_same (get_or (scene.events s) k d) (stream_after (now t) s k) (stream_after (before t) s k) (stream_both k).0)
          ∙ sym (strands_are (before t) s k lt d)

      module _ (ok : Accepted t ≡ true) where
        pub units_more : units_at (decode_by former t) s k ≤ units_at (decode_by standard t) s k
        units_more = rw (units_are (before t) s k lt (one_by t ok former), units_are (now t) s k lt (one_by t ok standard)) (stream_both (suc k)).1

        pub limit_same : (passed (decode_by standard t) s k ≡ passed (decode_by former t) s k) ⊎ ((passed (decode_by standard t) s k ≡ 24) × (passed (decode_by former t) s k ≡ 0))
        unfolding passed
        limit_same =
            rw (depth_same, strands_same)
            (one_more (ltb 64 (depth_at (before t) s k)) (ltb 64 (bound_at s k)) (ltb 16 (strands_at (before t) s k)) (ltb 65536 (units_at (now t) s k)) (ltb 65536 (units_at (before t) s k))
            (λ e. lt-ltb 65536 (units_at (now t) s k) (omega (arith, ltb-true 65536 (units_at (before t) s k) e, units_more))))
