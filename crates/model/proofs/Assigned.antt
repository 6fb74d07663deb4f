-- The strands that `assign` gives an event's element are those of the stream's element there, strand by strand in the same mode; its attribute units are the stream's, piece by piece.
--     assigned_modes, assigned_count, assigned_units     of the first events of a document, closed behind them or behind more
use mathlib.Core.Path.{◌≡◌, refl, sym, ap, ap₂, ◌∙◌}
use mathlib.Core.Bool.{Bool, true, false, cond}
use mathlib.Core.List.{List, [], ◌∷◌, ◌++◌, map, tail, foldl, append_assoc, map-append, map-map}
use mathlib.Core.Option.{Option, none, some}
use Prim.Native.Nat.{ℕ, suc}
use native.Mathlib.Omega.{arith}
use lib.ListN.{length, get_or, length-map, get_or-map}
use Rattle.laws.specs.Gather.{gather}
use Rattle.model.specs.Theory.{Action, Attach, Unwrap, Validate, Rule, AttributeUnit, Piece, Theory}
use Rattle.model.specs.Tree.{TreeEvent, start, text, end, Items, Tree, events_then, tree_events, still_open, completed, tree_of}
use Rattle.model.specs.Sections.{Tags, Content, empty, own_text, own_element, slot, attribute_sections, size, divide_tree}
use Rattle.model.specs.Stream as stream
use Rattle.model.specs.Stream.{Level, State, Entry, take_rules, after, fresh, reached, by_rule, stay}
use Rattle.model.specs.Model.{WholeUnit, marked, attribute_units_from, attribute_pieces, Strand, Assigned, assigned_at, before_root, along, enter, attributes_of, assign, assigned_of}
use Rattle.model.proofs.Lists.{gather_same, map_gather, gather_map}
use Rattle.model.proofs.Events.{unit_pieces}
use Rattle.model.proofs.Filling.{Agree}
use Rattle.model.proofs.Divide.{erase, erase_divide, Divided, divided}
use Rattle.model.proofs.Steps.{entry_modes, allot_modes}
use Rattle.model.proofs.Cut.{IsPrefix, events_of, added_ends, tree_events_lem, completed_prefix}

-- An open element, and the modes of its strands.
record Moded (Θ : Theory) : Type 0 where
  at : Θ.Kept
  modes : List ℕ

-- What an event's element is given: the modes of its strands; of the attribute units that open at it their pieces.
record GivenAt (B : Type 0) : Type 0 where
  modes : List ℕ
  units : List (List (Piece B))

abbrev modes_of : {B : Type 0} → List (Strand B) → List ℕ
modes_of = map (λ s. s.mode)

abbrev pieces_of : {B : Type 0} → List (WholeUnit B) → List (List (Piece B))
pieces_of = map (λ u. map (λ p. p.piece) u.pieces)

module _ (Θ : Theory) where
  -- The stream's strands of an event's element: at a start those that it enters with, else those of the innermost element.
  abbrev innermost : List (Level Θ) → List ℕ
  innermost [] = []
  innermost (l ∷ ls) = map (λ s. s.mode) l.strands

  abbrev pub modes_at : State Θ → TreeEvent Θ → List ℕ
  modes_at z (start σ) = map (λ e. e.strand.mode) (stream.entries_at Θ z.levels σ)
  modes_at z (text τ) = innermost z.levels
  modes_at z (end ε) = innermost z.levels

  -- The stream's attribute units of an event.
  abbrev pub attributes_at : State Θ → TreeEvent Θ → List (AttributeUnit Θ.Body)
  attributes_at z (start σ) = stream.units_of Θ σ (stream.entries_at Θ z.levels σ)
  attributes_at z (text τ) = []
  attributes_at z (end ε) = []

  -- A device: the stream's modes alone.
  abbrev pub next_modes : Θ.StartInfo → List ℕ → List ℕ
  next_modes σ = gather (λ m. map (λ q. q.next) (Θ.element_rules m σ))

  abbrev enter_modes : List (Moded Θ) → Θ.StartInfo → List ℕ
  enter_modes [] σ = next_modes σ (0 ∷ [])
  enter_modes (l ∷ ls) σ = cond (Θ.same_section l.at σ) l.modes (next_modes σ l.modes)

  abbrev first_modes : List (Moded Θ) → List ℕ
  first_modes [] = []
  first_modes (l ∷ ls) = l.modes

  -- The pieces of an element's attribute units, its strands being in these modes.
  abbrev section_pieces : Θ.StartInfo → List ℕ → List (List (Piece Θ.Body))
  section_pieces σ = gather (λ m. attribute_pieces Θ m σ (attribute_sections Θ σ))

  abbrev event_given : List (Moded Θ) → TreeEvent Θ → GivenAt Θ.Body
  event_given ls (start σ) = record { modes = enter_modes ls σ; units = section_pieces σ (enter_modes ls σ) }
  event_given ls (text τ) = record { modes = first_modes ls; units = [] }
  event_given ls (end ε) = record { modes = first_modes ls; units = [] }

  abbrev behind : List (Moded Θ) → TreeEvent Θ → List (Moded Θ)
  behind ls (start σ) = record { at = Θ.kept_of σ; modes = enter_modes ls σ } ∷ ls
  behind ls (text τ) = ls
  behind ls (end ε) = tail ls

  abbrev given_from : List (Moded Θ) → List (TreeEvent Θ) → List (GivenAt Θ.Body)
  given_from ls [] = []
  given_from ls (e ∷ es) = event_given ls e ∷ given_from (behind ls e) es

  given_at : (es gs : List (TreeEvent Θ)) (e : TreeEvent Θ) (ls : List (Moded Θ)) (d : GivenAt Θ.Body) → get_or (given_from ls (es ++ (e ∷ gs))) (length es) d ≡ event_given (foldl behind ls es) e
  given_at [] gs e ls d = refl
  given_at (x ∷ es) gs e ls d = given_at es gs e (behind ls x) d

  -- ---- the stream
  abbrev moded : Level Θ → Moded Θ
  moded l = record { at = l.at; modes = map (λ s. s.mode) l.strands }

  rule_modes : (t : Option ℕ) (qs : List Rule) → entry_modes (map (λ q. record { strand = by_rule q.action q.next none t; schema = q.schema }) qs) ≡ map (λ q. q.next) qs
  rule_modes t [] = refl
  rule_modes t (q ∷ qs) = rw (one q.action, rule_modes t qs)
    where
      one : (a : Action) → (by_rule {U = ℕ} a q.next none t).mode ≡ q.next
      one Attach = refl
      one Unwrap = refl
      one Validate = refl

  pub take_modes : (σ : Θ.StartInfo) (ss : List (stream.HeldStrand ℕ)) → entry_modes (take_rules Θ σ ss) ≡ next_modes σ (map (λ s. s.mode) ss)
  take_modes σ ss =
      map_gather (λ (e : Entry). e.strand.mode) (λ (s : stream.HeldStrand ℕ). map (λ q. record { strand = by_rule q.action q.next none s.target; schema = q.schema }) (Θ.element_rules s.mode σ)) ss
      ∙ gather_same _ (λ s. map (λ q. q.next) (Θ.element_rules s.mode σ)) (λ s. rule_modes s.target (Θ.element_rules s.mode σ)) ss
      ∙ sym (gather_map (λ m. map (λ q. q.next) (Θ.element_rules m σ)) (λ (s : stream.HeldStrand ℕ). s.mode) ss)

  enter_modes_lem : (ls : List (Level Θ)) (σ : Θ.StartInfo) → entry_modes (stream.entries_at Θ ls σ) ≡ enter_modes (map moded ls) σ
  enter_modes_lem [] σ = take_modes σ (stream.held_before_root ∷ [])
  enter_modes_lem (l ∷ ls) σ = go (Θ.same_section l.at σ)
    where
      go : (b : Bool) → entry_modes (cond b (map (λ s. record { strand = stay s; schema = 0 }) l.strands) (take_rules Θ σ l.strands)) ≡ cond b (map (λ s. s.mode) l.strands) (next_modes σ (map (λ s. s.mode) l.strands))
      go true = map-map (λ (e : Entry). e.strand.mode) (λ s. record { strand = stay s; schema = 0 }) l.strands
      go false = take_modes σ l.strands

  after_modes : (z : State Θ) (e : TreeEvent Θ) → map moded (after Θ z e).levels ≡ behind (map moded z.levels) e
  unfolding after
  after_modes z (start σ) =
      ap (λ x. record { at = Θ.kept_of σ; modes = x } ∷ map moded z.levels)
      (map-map (λ (s : stream.HeldStrand ℕ). s.mode) (λ (e : Entry). e.strand) (stream.entered Θ z σ) ∙ allot_modes _ (stream.entries_at Θ z.levels σ) ∙ enter_modes_lem z.levels σ)
  after_modes z (text τ) = refl
  after_modes z (end ε) = popped z.levels
    where
      popped : (ls : List (Level Θ)) → map moded (tail ls) ≡ tail (map moded ls)
      popped [] = refl
      popped (l ∷ ls) = refl

  reached_modes : (es : List (TreeEvent Θ)) (z : State Θ) → map moded (foldl (after Θ) z es).levels ≡ foldl behind (map moded z.levels) es
  reached_modes [] z = refl
  reached_modes (e ∷ es) z = reached_modes es (after Θ z e) ∙ ap (λ ls. foldl behind ls es) (after_modes z e)

  first_modes_lem : (ls : List (Level Θ)) → innermost ls ≡ first_modes (map moded ls)
  first_modes_lem [] = refl
  first_modes_lem (l ∷ ls) = refl

  event_modes : (z : State Θ) (e : TreeEvent Θ) → modes_at z e ≡ (event_given (map moded z.levels) e).modes
  event_modes z (start σ) = enter_modes_lem z.levels σ
  event_modes z (text τ) = first_modes_lem z.levels
  event_modes z (end ε) = first_modes_lem z.levels

  event_units : Agree Θ → (z : State Θ) (e : TreeEvent Θ) → map unit_pieces (attributes_at z e) ≡ (event_given (map moded z.levels) e).units
  event_units agree z (start σ) =
      let es = stream.entries_at Θ z.levels σ in
      map_gather unit_pieces (λ (e : Entry). Θ.attribute_units e.strand.mode σ) es
      ∙ gather_same _ (λ e. attribute_pieces Θ e.strand.mode σ (attribute_sections Θ σ)) (λ e. agree.units e.strand.mode σ) es
      ∙ sym (gather_map (λ m. attribute_pieces Θ m σ (attribute_sections Θ σ)) (λ (e : Entry). e.strand.mode) es)
      ∙ ap (section_pieces σ) (enter_modes_lem z.levels σ)
  event_units agree z (text τ) = refl
  event_units agree z (end ε) = refl

  -- ---- the model
  abbrev given : Assigned Θ.Body → GivenAt Θ.Body
  given x = record { modes = modes_of x.strands; units = pieces_of x.attributes }

  abbrev level : Θ.Kept → List (Strand Θ.Body) → Moded Θ
  level κ ss = record { at = κ; modes = modes_of ss }

  along_modes : (e : Tags Θ) (inner : Content Θ) (s : Strand Θ.Body) (j : ℕ) (qs : List Rule) → modes_of (along Θ e inner s j qs) ≡ map (λ q. q.next) qs
  along_modes e inner s j [] = refl
  along_modes e inner s j (q ∷ qs) = ap (λ x. q.next ∷ x) (along_modes e inner s (suc j) qs)

  new_modes : (e : Tags Θ) (inner : Content Θ) (ss : List (Strand Θ.Body)) → next_modes e.start (modes_of ss) ≡ modes_of (enter Θ e inner ss)
  new_modes e inner ss =
      gather_map (λ m. map (λ q. q.next) (Θ.element_rules m e.start)) (λ (s : Strand Θ.Body). s.mode) ss
      ∙ sym (gather_same _ (λ s. map (λ q. q.next) (Θ.element_rules s.mode e.start)) (λ s. along_modes e inner s 0 (Θ.element_rules s.mode e.start)) ss)
      ∙ sym (map_gather (λ (s : Strand Θ.Body). s.mode) (λ s. along Θ e inner s 0 (Θ.element_rules s.mode e.start)) ss)

  unmarked : (i : ℕ) (ps : List (Piece Θ.Body)) → map (λ p. p.piece) (marked i ps) ≡ ps
  unmarked i [] = refl
  unmarked i (p ∷ ps) = ap (λ l. p ∷ l) (unmarked i ps)

  from_pieces : (i : ℕ) (cs : List ℕ) (j : ℕ) (us : List (List (Piece Θ.Body))) → pieces_of (attribute_units_from i cs j us) ≡ us
  from_pieces i cs j [] = refl
  from_pieces i cs j (ps ∷ us) = ap₂ (λ p l. p ∷ l) (unmarked i ps) (from_pieces i cs (suc j) us)

  -- The attribute units of an element.
  new_units_lem : (e : Tags Θ) → e.sections ≡ attribute_sections Θ e.start → (ss : List (Strand Θ.Body)) → section_pieces e.start (modes_of ss) ≡ pieces_of (attributes_of Θ e ss)
  new_units_lem e formed ss =
      let of : Strand Θ.Body → List (WholeUnit Θ.Body) = λ s. attribute_units_from e.start_at s.choices 0 (attribute_pieces Θ s.mode e.start e.sections) in
      gather_map (λ m. attribute_pieces Θ m e.start (attribute_sections Θ e.start)) (λ (s : Strand Θ.Body). s.mode) ss
      ∙ ap (λ cs. gather (λ (s : Strand Θ.Body). attribute_pieces Θ s.mode e.start cs) ss) (sym formed)
      ∙ sym (gather_same _ (λ s. attribute_pieces Θ s.mode e.start e.sections) (λ s. from_pieces e.start_at s.choices 0 (attribute_pieces Θ s.mode e.start e.sections)) ss)
      ∙ sym (map_gather (λ (u : WholeUnit Θ.Body). map (λ p. p.piece) u.pieces) of ss)

  -- The events of an element, its end, and the events behind it.
  parts : (xs : List (Assigned Θ.Body)) (x : Assigned Θ.Body) (ys : List (Assigned Θ.Body)) (all later more : List (GivenAt Θ.Body)) → all ≡ map given xs ++ (given x ∷ later) → later ≡ map given ys ++ more → all ≡ map given (xs ++ (x ∷ ys)) ++ more
  parts xs x ys all later more p q =
      p ∙ ap (λ l. map given xs ++ (given x ∷ l)) q
      ∙ sym (append_assoc (map given xs) (map given (x ∷ ys)) more)
      ∙ ap (λ l. l ++ more) (sym (map-append given xs (x ∷ ys)))

  -- An event's element, and the events behind it.
  both : (ms : List ℕ) (us vs : List (List (Piece Θ.Body))) (xs ys : List (GivenAt Θ.Body)) → us ≡ vs → xs ≡ ys → record { modes = ms; units = us } ∷ xs ≡ record { modes = ms; units = vs } ∷ ys
  both ms us vs xs ys p q = ap₂ (λ u l. record { modes = ms; units = u } ∷ l) p q

  spread : (c : Content Θ) (κ : Θ.Kept) (i n : ℕ) → Divided Θ κ i n c → (ss : List (Strand Θ.Body)) (ls : List (Moded Θ)) (es : List (TreeEvent Θ))
      → given_from (level κ ss ∷ ls) (events_then Θ (erase Θ c) es) ≡ map given (assign Θ c ss) ++ given_from (level κ ss ∷ ls) es
  spread empty κ i n d ss ls es = refl
  spread (own_text k τ rest) κ i n d ss ls es = both (modes_of ss) [] [] _ _ refl (spread rest κ (suc k) n d.1 ss ls es)
  spread (own_element e inner rest) κ i n d ss ls es =
      rw d.1 (both (modes_of ss) _ _ _ _ (new_units_lem e d.4.1 ss)
      (parts (assign Θ inner ss) _ (assign Θ rest ss) _ _ (given_from (level κ ss ∷ ls) es)
      (spread inner (Θ.kept_of e.start) (suc e.start_at) e.end_at d.2 ss (level κ ss ∷ ls) (end e.end ∷ events_then Θ (erase Θ rest) es))
      (spread rest κ (suc e.end_at) n d.3 ss ls es)))
  spread (slot e inner rest) κ i n d ss ls es =
      let new : List (Strand Θ.Body) = enter Θ e inner ss in
      rw (d.1, new_modes e inner ss) (both (modes_of new) _ _ _ _ (new_units_lem e d.4.1 new)
      (parts (assign Θ inner new) _ (assign Θ rest ss) _ _ (given_from (level κ ss ∷ ls) es)
      (spread inner (Θ.kept_of e.start) (suc e.start_at) e.end_at d.2 new (level κ ss ∷ ls) (end e.end ∷ events_then Θ (erase Θ rest) es))
      (spread rest κ (suc e.end_at) n d.3 ss ls es)))

  -- The content of a document: its root's slot.
  abbrev Rooted : Tree Θ → Content Θ → Type 0
  Rooted t (slot e inner rest) =
      (t ≡ record { root_start = e.start; inside = erase Θ inner; root_end = e.end }) × (rest ≡ empty) × Divided Θ (Θ.kept_of e.start) 1 (suc (size Θ t.inside)) inner × (e.sections ≡ attribute_sections Θ e.start)
  Rooted t empty = ⊥
  Rooted t (own_text k τ rest) = ⊥
  Rooted t (own_element e inner rest) = ⊥

  rooted : (t : Tree Θ) → Rooted t (divide_tree Θ t)
  rooted t = (ap (λ (x : Items Θ). record { root_start = t.root_start; inside = x; root_end = t.root_end }) (sym (erase_divide Θ (Θ.kept_of t.root_start) 1 t.inside)), refl, divided Θ (Θ.kept_of t.root_start) 1 (suc (size Θ t.inside)) t.inside (omega arith), refl)

  document_given : (t : Tree Θ) (c : Content Θ) → Rooted t c → given_from [] (tree_events Θ t) ≡ map given (assign Θ c (before_root Θ ∷ []))
  document_given t empty r = absurd r
  document_given t (own_text k τ rest) r = absurd r
  document_given t (own_element e inner rest) r = absurd r
  document_given t (slot e inner rest) r =
      let new : List (Strand Θ.Body) = enter Θ e inner (before_root Θ ∷ []) in
      ap (λ (x : Tree Θ). given_from [] (tree_events Θ x)) r.0
      ∙ rw (r.1, new_modes e inner (before_root Θ ∷ [])) (both (modes_of new) _ _ _ _ (new_units_lem e r.3 new)
      (spread inner (Θ.kept_of e.start) 1 (suc (size Θ t.inside)) r.2 new [] (end e.end ∷ [])
      ∙ sym (map-append given (assign Θ inner new) (assigned_at e.end_at [] new ∷ []))))

  tree_given : (o : Option (Tree Θ)) → given_from [] (events_of Θ o) ≡ map given (assigned_of Θ o)
  tree_given none = refl
  tree_given (some t) = document_given t (divide_tree Θ t) (rooted t)

  -- ---- the same
  module _ (es fs : List (TreeEvent Θ)) (e : TreeEvent Θ) (p : IsPrefix Θ (es ++ (e ∷ fs))) (d : Assigned Θ.Body) where
    given_there : given (get_or (assigned_of Θ (tree_of Θ (completed Θ (es ++ (e ∷ fs))))) (length es) d) ≡ event_given (map moded (reached Θ es).levels) e
    given_there =
        let all : List (TreeEvent Θ) = es ++ (e ∷ fs) in
        let ends : List (TreeEvent Θ) = added_ends Θ (still_open Θ [] all) in
        let c = completed_prefix Θ all p in
        let are : events_of Θ (tree_of Θ (completed Θ all)) ≡ es ++ (e ∷ (fs ++ ends)) = tree_events_lem Θ (completed Θ all) c.0 ∙ c.1 ∙ append_assoc es (e ∷ fs) ends in
        sym (get_or-map given (assigned_of Θ (tree_of Θ (completed Θ all))) (length es) d)
        ∙ ap (λ l. get_or l (length es) (given d)) (sym (tree_given (tree_of Θ (completed Θ all))) ∙ ap (given_from []) are)
        ∙ given_at es (fs ++ ends) e [] (given d)
        ∙ ap (λ ls. event_given ls e) (sym (reached_modes es (fresh Θ)))

    -- The strands of an event's element in the tree closed behind it and more events: those of the stream there, each in the same mode.
    pub assigned_modes : map (λ s. s.mode) (get_or (assigned_of Θ (tree_of Θ (completed Θ (es ++ (e ∷ fs))))) (length es) d).strands ≡ modes_at (reached Θ es) e
    assigned_modes = ap (λ g. g.modes) given_there ∙ sym (event_modes (reached Θ es) e)

    -- So many there are.
    pub assigned_count : length (get_or (assigned_of Θ (tree_of Θ (completed Θ (es ++ (e ∷ fs))))) (length es) d).strands ≡ length (modes_at (reached Θ es) e)
    assigned_count = sym (length-map (get_or (assigned_of Θ (tree_of Θ (completed Θ (es ++ (e ∷ fs))))) (length es) d).strands (λ s. s.mode)) ∙ ap length assigned_modes

    -- Its attribute units: the stream's there, piece by piece.
    pub assigned_units : Agree Θ → map (λ u. map (λ p. p.piece) u.pieces) (get_or (assigned_of Θ (tree_of Θ (completed Θ (es ++ (e ∷ fs))))) (length es) d).attributes ≡ map unit_pieces (attributes_at (reached Θ es) e)
    assigned_units agree = ap (λ g. g.units) given_there ∙ sym (event_units agree (reached Θ es) e)
