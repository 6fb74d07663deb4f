-- The strands of an element that starts, with an accepted table and sound levels: there is one, and each has a mode of the table, a target below the
-- count of units behind the start, and where it validates a target.
--     entry_modes_lem, new_length, new_some, new_strands_lem
use Prim.Native.Nat.{ℕ, ◌≤◌, ◌<◌}
use mathlib.Core.Path.{◌≡◌, refl, ap, ◌∙◌}
use mathlib.Core.List.{List, [], ◌∷◌, map}
use mathlib.Core.Bool.{Bool, true}
use mathlib.Core.Option.{Option, none}
use native.Mathlib.Omega.{arith}
use borrow.Author.Tests.{lt-ltb}
use lib.ListN.{length, length-map, length-append}
use Rattle.laws.specs.Lists.{keep}
use Rattle.laws.specs.Gather.{gather}
use Rattle.laws.specs.Members.{All}
use Rattle.laws.proofs.Holds.{holds_cond}
use Rattle.laws.proofs.Members.{kept_in, all_by}
use Rattle.laws.proofs.Elementwise.{each_map, each_gather}
use Rattle.table.specs.Table.{Table, header_of, any_class, names_class as names_class, or_else, rules_of, standard, fallback, taken_of, all_rules, decode}
use Rattle.table.specs.Judge.{Accepted}
use Rattle.table.specs.declared.Action.{Action}
use Rattle.table.specs.declared.Action.TheVariants.{Attach, Unwrap, Validate}
use Rattle.table.specs.declared.Rule.{Rule}
use Rattle.table.proofs.Accepted.{header_in, rule_in}
use Rattle.model.specs.Tree.{start}
use Rattle.model.specs.Elements.{Element, same_space}
use Rattle.model.specs.Records.{kept_of}
use Rattle.model.specs.Stream.{Level, State, Entry, allot, take_rules, entries_at, entered, after, HeldStrand, held_before_root, stay, by_rule}
use Rattle.model.specs.Dispatch.{dispatch}
use Rattle.model.proofs.Steps.{StrandOk, LevelOk, allot_length, allot_each, after_coherent}
use Rattle.sessions.proofs.Sound.{StrandSound, LevelSound}

-- ---- lists
map_each : {A B : Type 0} (P : A → Type 0) (Q : B → Type 0) (f : A → B) → ((x : A) → P x → Q (f x)) → (l : List A) → All P l → All Q (map f l)
map_each P Q f g [] h = tt
map_each P Q f g (x ∷ l) h = (g x h.0, map_each P Q f g l h.1)

or_else_each : (P : Rule → Type 0) (a b : List Rule) → All P a → All P b → All P (or_else a b)
or_else_each P [] b h k = k
or_else_each P (r ∷ rs) b h k = h

or_else_some : (a : List Rule) (q : Rule) → 1 ≤ length (or_else a (q ∷ []))
or_else_some [] q = omega arith
or_else_some (r ∷ rs) q = omega arith

-- ---- as many as enter
abbrev pub new_strands : (t : Table) → State (dispatch t) → Element → List (HeldStrand ℕ)
new_strands t z σ = map (λ (e : Entry). e.strand) (entered (dispatch t) z σ)

pub new_length : (t : Table) (z : State (dispatch t)) (σ : Element) → length (new_strands t z σ) ≡ length (entries_at (dispatch t) z.levels σ)
new_length t z σ = length-map (entered (dispatch t) z σ) (λ (e : Entry). e.strand) ∙ allot_length _ (entries_at (dispatch t) z.levels σ)

-- ---- modes
abbrev pub ModeIn : ℕ → Entry → Type 0
ModeIn modes e = e.strand.mode < modes

pub modes_allotted : (modes u : ℕ) (es : List Entry) → All (ModeIn modes) es → All (ModeIn modes) (allot u es)
modes_allotted modes = allot_each (λ (m : ℕ). m < modes)

rule_mode : (a : Action) (next : ℕ) (o : Option ℕ) → (by_rule a next none o).mode ≡ next
rule_mode Attach next o = refl
rule_mode Unwrap next o = refl
rule_mode Validate next o = refl

-- ---- what the model says of them
ok_levels : (t : Table) (s : List ℕ) (u : ℕ) (ls : List (Level (dispatch t))) → All (LevelSound t s u) ls → All (LevelOk (dispatch t) u) ls
ok_levels t s u = each_map (LevelSound t s u) (LevelOk (dispatch t) u) (λ l h. each_map (StrandSound t u) (StrandOk u) (λ r k. (k.below, k.aims)) l.strands h.strands)

strands_ok : (t : Table) (u : ℕ) (rs : List (HeldStrand ℕ)) → All (λ (r : HeldStrand ℕ). r.mode < t.modes) rs → All (StrandOk u) rs → All (StrandSound t u) rs
strands_ok t u [] m h = tt
strands_ok t u (r ∷ rs) m h =
    (record { mode_in = m.0; below = h.0.0; aims = h.0.1 }, strands_ok t u rs m.1 h.1)

module _ (table : List ℕ) (accepted : Accepted table ≡ true) where
  abbrev rules : List Rule
  rules = all_rules table (header_of table)

  abbrev reject : ℕ → List Rule
  reject mode = fallback standard.element 0 mode ∷ []

  abbrev Next : Rule → Type 0
  Next q = q.next < (decode table).modes

  kept_next : (p : Rule → Bool) → All Next (keep p rules)
  kept_next p = all_by Next (keep p rules) (λ q m. (rule_in table accepted q (kept_in p q rules m).0).next_in)

  taken_is : (mode : ℕ) (σ : Element) → mode < (decode table).modes → (decode table).element_rules mode σ.space.class ≡ or_else (rules_of rules mode 0 σ.space.class) (reject mode)
  unfolding taken_of
  taken_is mode σ l = rw (lt-ltb mode (decode table).modes l)

  taken_next : (mode : ℕ) (σ : Element) → mode < (decode table).modes → All Next ((decode table).element_rules mode σ.space.class)
  unfolding rules_of
  taken_next mode σ l =
      rw (taken_is mode σ l)
      (or_else_each Next (rules_of rules mode 0 σ.space.class) (reject mode)
      (or_else_each Next (keep (names_class mode 0 σ.space.class) rules) (keep (names_class mode 0 any_class) rules) (kept_next _) (kept_next _))
      (l, tt))

  take_modes : (σ : Element) (rs : List (HeldStrand ℕ)) → All (λ (r : HeldStrand ℕ). r.mode < (decode table).modes) rs → All (ModeIn (decode table).modes) (take_rules (dispatch (decode table)) σ rs)
  take_modes σ rs h =
      each_gather (λ (r : HeldStrand ℕ). r.mode < (decode table).modes) (ModeIn (decode table).modes) _
      (λ r l. map_each Next (ModeIn (decode table).modes) _ (λ q k. rw (rule_mode q.action q.next r.target) k) ((decode table).element_rules r.mode σ.space.class) (taken_next r.mode σ l))
      rs h

  pub enter_modes_lem : (ls : List (Level (dispatch (decode table)))) (σ : Element) → All (λ (l : Level (dispatch (decode table))). All (λ (r : HeldStrand ℕ). r.mode < (decode table).modes) l.strands) ls → All (ModeIn (decode table).modes) (entries_at (dispatch (decode table)) ls σ)
  enter_modes_lem [] σ h = take_modes σ (held_before_root ∷ []) ((header_in table accepted).some_mode, tt)
  enter_modes_lem (l ∷ ls) σ h =
      holds_cond (All (ModeIn (decode table).modes)) ((dispatch (decode table)).same_section l.at σ)
      (λ e. map_each (λ (r : HeldStrand ℕ). r.mode < (decode table).modes) (ModeIn (decode table).modes) _ (λ r k. k) l.strands h.0)
      (λ e. take_modes σ l.strands h.0)

  -- ---- one at least: the default makes it so
  take_some : (σ : Element) (rs : List (HeldStrand ℕ)) → 1 ≤ length rs → All (λ (r : HeldStrand ℕ). r.mode < (decode table).modes) rs → 1 ≤ length (take_rules (dispatch (decode table)) σ rs)
  unfolding gather
  take_some σ [] n h = absurd (omega arith)
  take_some σ (r ∷ rs) n h =
      let qs = (decode table).element_rules r.mode σ.space.class in
      omega (arith, length-append (map (made r) qs) (take_rules (dispatch (decode table)) σ rs), length-map qs (made r), ap length (taken_is r.mode σ h.0), or_else_some (rules_of rules r.mode 0 σ.space.class) (fallback standard.element 0 r.mode))
    where
      made : HeldStrand ℕ → Rule → Entry
      made p q = record { strand = by_rule q.action q.next none p.target; schema = q.schema }

  enter_some : (s : List ℕ) (u : ℕ) (ls : List (Level (dispatch (decode table)))) (σ : Element) → All (LevelSound (decode table) s u) ls → 1 ≤ length (entries_at (dispatch (decode table)) ls σ)
  enter_some s u [] σ h = take_some σ (held_before_root ∷ []) (omega arith) ((header_in table accepted).some_mode, tt)
  enter_some s u (l ∷ ls) σ h =
      holds_cond (λ (es : List Entry). 1 ≤ length es) (same_space l.at.space σ.space)
      (λ e. omega (arith, length-map l.strands held, h.0.some_strand))
      (λ e. take_some σ l.strands h.0.some_strand (each_map _ _ (λ r m. m.mode_in) l.strands h.0.strands))
    where
      held : HeldStrand ℕ → Entry
      held r = record { strand = stay r; schema = 0 }

  module _ (s : List ℕ) (z : State (dispatch (decode table))) (σ : Element) (h : All (LevelSound (decode table) s z.units) z.levels) where
    pub entry_modes_lem : All (ModeIn (decode table).modes) (entries_at (dispatch (decode table)) z.levels σ)
    entry_modes_lem = enter_modes_lem z.levels σ (each_map _ _ (λ l k. each_map _ _ (λ r m. m.mode_in) l.strands k.strands) z.levels h)

    new_ok : LevelOk (dispatch (decode table)) (after (dispatch (decode table)) z (start σ)).units (record { at = kept_of σ; strands = new_strands (decode table) z σ })
    unfolding after
    new_ok = (after_coherent (dispatch (decode table)) z (start σ) (ok_levels (decode table) s z.units z.levels h)).0

    pub new_some : 1 ≤ length (new_strands (decode table) z σ)
    new_some = omega (arith, new_length (decode table) z σ, enter_some s z.units z.levels σ h)

    pub new_strands_lem : All (StrandSound (decode table) (after (dispatch (decode table)) z (start σ)).units) (new_strands (decode table) z σ)
    new_strands_lem =
        strands_ok (decode table) _ (new_strands (decode table) z σ)
        (map_each (ModeIn (decode table).modes) (λ (r : HeldStrand ℕ). r.mode < (decode table).modes) (λ (e : Entry). e.strand) (λ e k. k) (entered (dispatch (decode table)) z σ)
        (modes_allotted (decode table).modes _ (entries_at (dispatch (decode table)) z.levels σ) entry_modes_lem))
        new_ok
