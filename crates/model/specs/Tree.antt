-- 'Reader and its events' and 'Calls': events, the tree of a scene's events, and the tree closed at a cut. Definitions.
use mathlib.Core.List.{List, [], ◌∷◌, ◌++◌, map, tail}
use Rattle.std.proofs.Math.Option.{Option, none, some}
use Rattle.model.specs.Theory.{Theory}

-- "Events: start, text, end".
pub data TreeEvent (Θ : Theory) : Type 0 where
  start : Θ.StartInfo → TreeEvent Θ
  text : Θ.TextInfo → TreeEvent Θ
  end : Θ.EndInfo → TreeEvent Θ

-- What stands in an element: texts and elements, each with what stands behind it.
pub data Items (Θ : Theory) : Type 0 where
  nothing : Items Θ
  text_then : Θ.TextInfo → Items Θ → Items Θ
  element_then : Θ.StartInfo → Items Θ → Θ.EndInfo → Items Θ → Items Θ

-- A document: its root.
pub record Tree (Θ : Theory) : Type 0 where
  pub root_start : Θ.StartInfo
  pub inside : Items Θ
  pub root_end : Θ.EndInfo

module _ (Θ : Theory) where
  -- The events of items, and then those given.
  abbrev pub events_then : Items Θ → List (TreeEvent Θ) → List (TreeEvent Θ)
  events_then nothing es = es
  events_then (text_then τ rest) es = text τ ∷ events_then rest es
  events_then (element_then σ inner ε rest) es = start σ ∷ events_then inner (end ε ∷ events_then rest es)

  -- The events of a document, in document order.
  abbrev pub tree_events : Tree Θ → List (TreeEvent Θ)
  tree_events t = start t.root_start ∷ events_then t.inside (end t.root_end ∷ [])

  -- The elements open after some events, the innermost first.
  abbrev pub still_open : List Θ.Kept → List (TreeEvent Θ) → List Θ.Kept
  still_open around [] = around
  still_open around (start σ ∷ es) = still_open (Θ.kept_of σ ∷ around) es
  still_open around (text τ ∷ es) = still_open around es
  still_open around (end ε ∷ es) = still_open (tail around) es

  -- The tree closed at a cut, as events: an end is added for each element still open.
  abbrev pub completed : List (TreeEvent Θ) → List (TreeEvent Θ)
  completed es = es ++ map (λ κ. end (Θ.added κ)) (still_open [] es)

  -- What stands behind the items of an open element: its end, and the items after it. (Without an end it gets that which would be added.)
  abbrev pub end_for : Θ.Kept → List (Θ.EndInfo × Items Θ) → Θ.EndInfo × Items Θ
  end_for κ [] = (Θ.added κ, nothing)
  end_for κ (x ∷ outer) = x

  -- Events as items up to the first end without a start; then each such end, and the items after it.
  abbrev pub items_of : List (TreeEvent Θ) → Items Θ × List (Θ.EndInfo × Items Θ)
  items_of [] = (nothing, [])
  items_of (start σ ∷ es) = let r = items_of es in let e = end_for (Θ.kept_of σ) r.1 in (element_then σ r.0 e.0 e.1, tail r.1)
  items_of (text τ ∷ es) = let r = items_of es in (text_then τ r.0, r.1)
  items_of (end ε ∷ es) = let r = items_of es in (nothing, (ε, r.0) ∷ r.1)

  -- The tree of events: their first item, if that is an element.
  abbrev pub tree_of : List (TreeEvent Θ) → Option (Tree Θ)
  tree_of es = elim (items_of es).0 [ nothing ↦ none | text_then τ rest ↦ none | element_then σ inner ε rest ↦ some (record { root_start = σ; inside = inner; root_end = ε }) ]
