-- N3: a scene in which every strand meets a rule at every element and attribute section, start by start. Definitions.
use Rattle.std.specs.Prelude.{ℕ, ◌≡◌, List, [], ◌∷◌, cond}
use Rattle.laws.specs.Members.{All}
use Rattle.table.specs.Table.{header_of, rules_of, all_rules, decode}
use Rattle.reader.specs.Events as scene
use Rattle.model.specs.Elements.{Element, element_of}
use Rattle.model.specs.Groups.{AttributeGroup, groups_of}
use Rattle.model.specs.Stream.{HeldStrand, held_before_root, Level, Entry, entries_at}
use Rattle.model.specs.Dispatch.{dispatch}
use Rattle.sessions.specs.Sessions.{reader_of, state_of}
use Rattle.sessions.specs.Session.{Session}

-- a strand in this mode meets a rule at a section of this kind and class: one that names the class, or one that names any
abbrev pub MeetsRule : List ℕ → ℕ → ℕ → ℕ → Type 0
MeetsRule t kind class mode = rules_of (all_rules t (header_of t)) mode kind class ≡ [] → ⊥

module _ (t : List ℕ) where
  -- the strands that take rules at an element: where it starts a section those of its parent, at the root the one before it
  abbrev pub taking : List (Level (dispatch (decode t))) → Element → List (HeldStrand ℕ)
  taking [] σ = held_before_root ∷ []
  taking (l ∷ ls) σ = cond ((dispatch (decode t)).same_section l.at σ) [] l.strands

  -- of an element that starts: each of these meets a rule, and of its own strands each at each of its attribute sections
  pub record MeetsAt (levels : List (Level (dispatch (decode t)))) (σ : Element) : Type 0 where
    pub element : All (λ (r : HeldStrand ℕ). MeetsRule t 0 σ.space.class r.mode) (taking levels σ)
    pub attributes : All (λ (e : Entry). All (λ (c : AttributeGroup). MeetsRule t 1 c.space.class e.strand.mode) (groups_of σ)) (entries_at (dispatch (decode t)) levels σ)

  -- of what a session reads next, where that is a start
  abbrev pub MeetsNext : List ℕ → Session → Type 0
  MeetsNext s z =
      (e : scene.Start) (z' : scene.ReaderState) → scene.next s (reader_of z) ≡ scene.event (scene.start e) z'
      → MeetsAt (state_of (decode t) s z).levels (element_of (decode t) s e)
