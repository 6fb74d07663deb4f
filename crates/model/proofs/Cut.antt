-- Cut documents: what a document's events begin with, the tree of such events, and its events again.
use mathlib.Core.Path.{◌≡◌, refl, subst}
use mathlib.Core.List.{List, [], ◌∷◌, ◌++◌, map, tail, append-nil}
use mathlib.Core.Option.{Option, none, some}
use Rattle.model.specs.Theory.{Theory}
use Rattle.model.specs.Tree.{TreeEvent, start, text, end, Items, nothing, text_then, element_then, Tree, events_then, tree_events, still_open, completed, end_for, items_of, tree_of}

module _ (Θ : Theory) where
  -- What may follow while these elements are open, the innermost first: nothing once the root is closed.
  abbrev pub Follows : List Θ.Kept → List (TreeEvent Θ) → Type 0
  Follows around [] = Unit {0}
  Follows [] (e ∷ es) = ⊥
  Follows (κ ∷ around) (start σ ∷ es) = Follows (Θ.kept_of σ ∷ κ ∷ around) es
  Follows (κ ∷ around) (text τ ∷ es) = Follows (κ ∷ around) es
  Follows (κ ∷ around) (end ε ∷ es) = Follows around es

  -- What a document's events begin with: its root first.
  abbrev pub IsPrefix : List (TreeEvent Θ) → Type 0
  IsPrefix [] = Unit {0}
  IsPrefix (start σ ∷ es) = Follows (Θ.kept_of σ ∷ []) es
  IsPrefix (text τ ∷ es) = ⊥
  IsPrefix (end ε ∷ es) = ⊥

  -- The events of a document that may lack its root.
  abbrev pub events_of : Option (Tree Θ) → List (TreeEvent Θ)
  events_of none = []
  events_of (some t) = tree_events Θ t

  abbrev pub added_ends : List Θ.Kept → List (TreeEvent Θ)
  added_ends = map (λ κ. end (Θ.added κ))

  -- The events of what stands behind the items, where the elements κ and around are open.
  abbrev outside : Θ.Kept → List Θ.Kept → List (Θ.EndInfo × Items Θ) → List (TreeEvent Θ)
  outside κ [] outer = end (end_for Θ κ outer).0 ∷ []
  outside κ (κ' ∷ around) outer = end (end_for Θ κ outer).0 ∷ events_then Θ (end_for Θ κ outer).1 (outside κ' around (tail outer))

  outside_added : (κ : Θ.Kept) (around : List Θ.Kept) → added_ends (κ ∷ around) ≡ outside κ around []
  outside_added κ [] = refl
  outside_added κ (κ' ∷ around) = rw (outside_added κ' around)

  nothing_after : (es : List (TreeEvent Θ)) → Follows [] es → es ++ added_ends (still_open Θ [] es) ≡ []
  nothing_after [] f = refl
  nothing_after (e ∷ es) f = absurd f

  items_events : (es : List (TreeEvent Θ)) (κ : Θ.Kept) (around : List Θ.Kept) → Follows (κ ∷ around) es → es ++ added_ends (still_open Θ (κ ∷ around) es) ≡ events_then Θ (items_of Θ es).0 (outside κ around (items_of Θ es).1)
  items_events [] κ around f = outside_added κ around
  items_events (start σ ∷ es) κ around f = rw (items_events es (Θ.kept_of σ) (κ ∷ around) f)
  items_events (text τ ∷ es) κ around f = rw (items_events es κ around f)
  items_events (end ε ∷ es) κ [] f = rw (nothing_after es f)
  items_events (end ε ∷ es) κ (κ' ∷ around) f = rw (items_events es κ' around f)

  -- The tree of a prefix has the prefix's events, completed.
  pub tree_events_lem : (es : List (TreeEvent Θ)) → IsPrefix es → events_of (tree_of Θ es) ≡ completed Θ es
  tree_events_lem [] p = refl
  tree_events_lem (start σ ∷ es) p = rw (items_events es (Θ.kept_of σ) [] p)
  tree_events_lem (text τ ∷ es) p = absurd p
  tree_events_lem (end ε ∷ es) p = absurd p

  -- A completed prefix is a prefix, and complete.
  added_follow : (around : List Θ.Kept) → Follows around (added_ends around)
  added_follow [] = tt
  added_follow (κ ∷ around) = added_follow around

  added_close : (around : List Θ.Kept) → still_open Θ around (added_ends around) ≡ []
  added_close [] = refl
  added_close (κ ∷ around) = added_close around

  completed_follows : (es : List (TreeEvent Θ)) (around : List Θ.Kept) → Follows around es → Follows around (es ++ added_ends (still_open Θ around es)) × (still_open Θ around (es ++ added_ends (still_open Θ around es)) ≡ [])
  completed_follows [] around f = (added_follow around, added_close around)
  completed_follows (e ∷ es) [] f = absurd f
  completed_follows (start σ ∷ es) (κ ∷ around) f = completed_follows es (Θ.kept_of σ ∷ κ ∷ around) f
  completed_follows (text τ ∷ es) (κ ∷ around) f = completed_follows es (κ ∷ around) f
  completed_follows (end ε ∷ es) (κ ∷ around) f = completed_follows es around f

  pub completed_prefix : (es : List (TreeEvent Θ)) → IsPrefix es → IsPrefix (completed Θ es) × (completed Θ (completed Θ es) ≡ completed Θ es)
  completed_prefix [] p = (tt, refl)
  completed_prefix (start σ ∷ es) p =
      let h = completed_follows es (Θ.kept_of σ ∷ []) p in
      (h.0, rw h.1 (append-nil (completed Θ (start σ ∷ es))))
  completed_prefix (text τ ∷ es) p = absurd p
  completed_prefix (end ε ∷ es) p = absurd p

  -- What the events of a tree begin with is a prefix. (Each prefix is such a beginning, by tree_events_lem.)
  follows_items : (items : Items Θ) (κ : Θ.Kept) (around : List Θ.Kept) (es : List (TreeEvent Θ)) → Follows (κ ∷ around) es → Follows (κ ∷ around) (events_then Θ items es)
  follows_items nothing κ around es f = f
  follows_items (text_then τ rest) κ around es f = follows_items rest κ around es f
  follows_items (element_then σ inner ε rest) κ around es f = follows_items inner (Θ.kept_of σ) (κ ∷ around) (end ε ∷ events_then Θ rest es) (follows_items rest κ around es f)

  follows_first : (es fs : List (TreeEvent Θ)) (around : List Θ.Kept) → Follows around (es ++ fs) → Follows around es
  follows_first [] fs around f = tt
  follows_first (e ∷ es) fs [] f = absurd f
  follows_first (start σ ∷ es) fs (κ ∷ around) f = follows_first es fs (Θ.kept_of σ ∷ κ ∷ around) f
  follows_first (text τ ∷ es) fs (κ ∷ around) f = follows_first es fs (κ ∷ around) f
  follows_first (end ε ∷ es) fs (κ ∷ around) f = follows_first es fs around f

  pub prefix_first : (es fs : List (TreeEvent Θ)) → IsPrefix (es ++ fs) → IsPrefix es
  prefix_first [] fs p = tt
  prefix_first (start σ ∷ es) fs p = follows_first es fs (Θ.kept_of σ ∷ []) p
  prefix_first (text τ ∷ es) fs p = p
  prefix_first (end ε ∷ es) fs p = p

  pub document_prefix : (t : Tree Θ) (es fs : List (TreeEvent Θ)) → tree_events Θ t ≡ es ++ fs → IsPrefix es
  document_prefix t es fs e = prefix_first es fs (subst IsPrefix e (follows_items t.inside (Θ.kept_of t.root_start) [] (end t.root_end ∷ []) tt))

  -- The tree of a tree's events is that tree.
  items_of_items : (items : Items Θ) (ε : Θ.EndInfo) (es : List (TreeEvent Θ)) → items_of Θ (events_then Θ items (end ε ∷ es)) ≡ (items, (ε, (items_of Θ es).0) ∷ (items_of Θ es).1)
  items_of_items nothing ε es = refl
  items_of_items (text_then τ rest) ε es = rw (items_of_items rest ε es)
  items_of_items (element_then σ inner ε' rest) ε es = rw (items_of_items inner ε' (events_then Θ rest (end ε ∷ es)), items_of_items rest ε es)

  pub tree_of_events : (t : Tree Θ) → tree_of Θ (tree_events Θ t) ≡ some t
  tree_of_events t = rw (items_of_items t.inside t.root_end [])
