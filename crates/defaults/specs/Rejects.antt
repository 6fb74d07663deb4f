-- N3: "Where a mode has no rule for an element section, it is validated against reject .. Reject is schema 255, whatever S is, with URI fields zero in its
-- open": the opens of class 255 among the records of events, and those that strands without a rule make. Definitions.
use Rattle.std.specs.Prelude.{ℕ, List, [], ◌∷◌, Bool, true, false, cond, ◌&&◌, eqb}
use Rattle.laws.specs.Gather.{gather}
use Rattle.table.specs.Table.{header_of, rules_of, all_rules, decode}
use Rattle.table.specs.declared.Rule.{Rule}
use Rattle.model.specs.Theory.{Record}
use Rattle.model.specs.Tree.{TreeEvent, start, text, end}
use Rattle.model.specs.Elements.{Element}
use Rattle.model.specs.Records.{Body}
use Rattle.model.specs.Stream.{HeldStrand, State, after}
use Rattle.model.specs.Dispatch.{dispatch, piece_body}
use Rattle.defaults.specs.Meeting.{taking}

-- the opens of class 255 among records, without their units
abbrev pub is_reject : Body → Bool
is_reject b = eqb b.kind 0 && eqb b.class 255

abbrev pub reject_in : Record Body ℕ → List Body
reject_in r = let b = piece_body r.piece in cond (is_reject b) (b ∷ []) []

abbrev pub rejects_in : List (Record Body ℕ) → List Body
rejects_in = gather reject_in

-- "with URI fields zero in its open": of the section of this root
abbrev pub reject_of : Element → Body
reject_of σ = record { kind = 0; class = 255; at = σ.at; len = 0; uri_at = 0; uri_len = 0 }

abbrev pub no_rule : List Rule → Bool
no_rule [] = true
no_rule (r ∷ rs) = false

module _ (t : List ℕ) where
  -- "no rule is taken: none of the mode and kind names the class, and none names any"
  abbrev pub lacks_rule : ℕ → ℕ → Bool
  lacks_rule class mode = no_rule (rules_of (all_rules t (header_of t)) mode 0 class)

  -- one for each strand that takes rules at a start and has none, in their order: "The default is per strand". At a text and an end no strand takes rules
  abbrev pub rejects_at : State (dispatch (decode t)) → TreeEvent (dispatch (decode t)) → List Body
  rejects_at z (start σ) = gather (λ (r : HeldStrand ℕ). cond (lacks_rule σ.space.class r.mode) (reject_of σ ∷ []) []) (taking t z.levels σ)
  rejects_at z (text w) = []
  rejects_at z (end w) = []

  -- of some events, from a state on
  abbrev pub rejects_from : State (dispatch (decode t)) → List (TreeEvent (dispatch (decode t))) → List (List Body)
  rejects_from z [] = []
  rejects_from z (e ∷ es) = rejects_at z e ∷ rejects_from (after (dispatch (decode t)) z e) es
