-- The strands that the arrays hold at a start are the stream's.
--     take_rules_are, before_root, stay_are       what the rules make, and what stays
--     unnumbered-*, schemas-*, packable-*                    what holds of each
--     here_count_lem, entries_back, laid_back                    counted, and read back from the arrays
--     allot-*                                                after the new units have their numbers
use Prim.Native.Nat.{ℕ, ◌+◌, ◌/◌, ◌%◌, ◌^◌, ◌≤◌, ◌<◌}
use mathlib.Core.Path.{◌≡◌, refl, sym, ap, ap₂, ◌∙◌}
use mathlib.Core.List.{List, [], ◌∷◌, ◌++◌, map, append-nil}
use mathlib.Core.Bool.{Bool, true, false, cond}
use mathlib.Core.Option.{none, some}
use native.Mathlib.Nat.{zero-add}
use native.Mathlib.Omega.{arith}
use lib.Dec.{eqb}
use lib.ListN.{length, get_or, take, length-map, get_or-map}
use lib.Seq.{ext_get_or, get_or-take}
use Rattle.laws.specs.Lists.{tabulate}
use Rattle.laws.specs.Gather.{gather, total}
use Rattle.laws.specs.Members.{All}
use Rattle.laws.specs.Over.{overwrite}
use Rattle.laws.proofs.Elementwise.{each_append}
use Rattle.laws.proofs.Flags.{differ}
use Rattle.laws.proofs.Holds.{each_at}
use Rattle.laws.proofs.Lists.{length_tabulate, get_d_tabulate}
use Rattle.laws.proofs.Over.{take_over}
use Rattle.table.specs.Table.{rule_of, or_else, standard, fallback, table_of}
use Rattle.table.specs.Index.{index_of, chosen_of}
use Rattle.table.specs.declared.Action.{Action}
use Rattle.table.specs.declared.Action.TheVariants.{Attach, Unwrap, Validate}
use Rattle.table.specs.declared.Header.{Header}
use Rattle.table.specs.declared.Rule.{Rule}
use Rattle.table.proofs.Indexed.{those}
use Rattle.model.specs.Stream.{Entry, allot, new_units, take_rules, HeldStrand, held_before_root, stay, by_rule}
use Rattle.model.specs.Elements.{Element}
use Rattle.model.specs.Dispatch.{dispatch}
use Rattle.strands.specs.Packed.{strand_in, packed}
use Rattle.strands.specs.Rules.{rules_in}
use Rattle.strands.specs.Entries.{made_by, entries_by, entries_from, stay_entry, strand_word, schema_word, entry_in, entries_in, aimed_at, here_count, Unnumbered}
use Rattle.model.proofs.Steps.{Below}
use Rattle.strands.proofs.Packing.{Packable, packed_back}
use Rattle.strands.proofs.StartRecords.{taken_in}
use Rattle.entries.proofs.UnitNumbers.{here_back, allot_yes, allot_no}

-- five bits for a mode, sixteen for a target
pub mode_few : (w : ℕ) → (strand_in w).mode < 32
unfolding strand_in
mode_few w = omega arith

pub target_few : (w : ℕ) → Below 65536 (strand_in w).target
unfolding strand_in
target_few w = by (eqb (w / 2 ^ 8 % 2) 1)
  where
    by : (b : Bool) → Below 65536 (cond b (some (w / 2 ^ 9 % 2 ^ 16)) none)
    by true = omega arith
    by false = tt

pub root_back : strand_in 32 ≡ held_before_root
unfolding strand_in
root_back = refl

-- ---- the model's
module _ (table : List ℕ) (h : Header) (few : h.rules ≤ 128) (few_modes : h.modes ≤ 32) where
  module _ (σ : Element) (c : σ.space.class < 256) where
    -- of a strand
    pub entries_are : (r : HeldStrand ℕ) → r.mode < h.modes → entries_by (index_of table h) σ.space.class r ≡ map (made_by r) ((table_of table h).element_rules r.mode σ.space.class)
    unfolding entries_by
    entries_are r m = ap (map (made_by r)) (taken_in table h few few_modes standard.element r.mode 0 σ.space.class m (omega arith) c)

    pub take_rules_are : (words : List ℕ) → All (λ (w : ℕ). (strand_in w).mode < h.modes) words → entries_from (index_of table h) σ.space.class words ≡ take_rules (dispatch (table_of table h)) σ (map strand_in words)
    unfolding gather
    take_rules_are [] m = refl
    take_rules_are (w ∷ words) m = ap₂ ◌++◌ (entries_are (strand_in w) m.0) (take_rules_are words m.1)

    pub before_root : 1 ≤ h.modes → entries_by (index_of table h) σ.space.class (strand_in 32) ≡ take_rules (dispatch (table_of table h)) σ (held_before_root ∷ [])
    unfolding gather
    before_root m = ap (entries_by (index_of table h) σ.space.class) root_back ∙ entries_are held_before_root (omega arith) ∙ sym (append-nil (map (made_by held_before_root) ((table_of table h).element_rules 0 σ.space.class)))

pub stay_are : (words : List ℕ) → map stay_entry words ≡ map (λ (s : HeldStrand ℕ). record { strand = stay s; schema = 0 }) (map strand_in words)
stay_are [] = refl
stay_are (w ∷ words) = ap (λ (es : List Entry). stay_entry w ∷ es) (stay_are words)

-- ---- what holds of each
abbrev pub SchemaSmall : Entry → Type 0
SchemaSmall e = e.schema < 256

abbrev pub EntryPackable : Entry → Type 0
EntryPackable e = Packable e.strand

-- of a rule: its next mode and its schema
abbrev Small : Rule → Type 0
Small q = (q.next < 32) × (q.schema < 256)

rules_small : (ws : List ℕ) → All Small (map rule_of ws)
rules_small [] = tt
rules_small (w ∷ ws) = ((omega arith, omega arith), rules_small ws)

in_small : (index : List ℕ) (mode kind class : ℕ) → All Small (rules_in index mode kind class)
unfolding rules_in
in_small index mode kind class = let c = chosen_of index mode kind class in rules_small (those index c.end c.key c.first)

taken_small : (rs : List Rule) (mode : ℕ) → All Small rs → mode < 32 → All Small (or_else rs (fallback standard.element 0 mode ∷ []))
taken_small [] mode a m = ((m, omega arith), tt)
taken_small (q ∷ rs) mode a m = a

-- what holds of each entry that a rule makes of a strand holds of all
module _ (P : Entry → Type 0) (index : List ℕ) (class : ℕ) where
  all_made : (r : HeldStrand ℕ) → ((q : Rule) → Small q → P (made_by r q)) → (rs : List Rule) → All Small rs → All P (map (made_by r) rs)
  all_made r f [] a = tt
  all_made r f (q ∷ rs) a = (f q a.0, all_made r f rs a.1)

  all_by : (r : HeldStrand ℕ) → r.mode < 32 → ((q : Rule) → Small q → P (made_by r q)) → All P (entries_by index class r)
  unfolding entries_by
  all_by r m f = all_made r f (or_else (rules_in index r.mode 0 class) (fallback standard.element 0 r.mode ∷ [])) (taken_small (rules_in index r.mode 0 class) r.mode (in_small index r.mode 0 class) m)

  all_from : ((w : ℕ) → All P (entries_by index class (strand_in w))) → (words : List ℕ) → All P (entries_from index class words)
  unfolding gather
  all_from f [] = tt
  all_from f (w ∷ words) = each_append P (entries_by index class (strand_in w)) (entries_from index class words) (f w) (all_from f words)

all_stay : (P : Entry → Type 0) → ((w : ℕ) → P (stay_entry w)) → (words : List ℕ) → All P (map stay_entry words)
all_stay P f [] = tt
all_stay P f (w ∷ words) = (f w, all_stay P f words)

made_unnumbered : (r : HeldStrand ℕ) (q : Rule) → Small q → Unnumbered (made_by r q)
made_unnumbered r q s = by q.action
  where
    by : (a : Action) → ((by_rule a q.next none r.target).mode < 32) × ((by_rule a q.next none r.target).here ≡ true → (by_rule a q.next none r.target).target ≡ none)
    by Attach = (s.0, λ e. absurd (differ (sym e)))
    by Unwrap = (s.0, λ e. absurd (differ (sym e)))
    by Validate = (s.0, λ e. refl)

made_packable : (r : HeldStrand ℕ) → Below 65536 r.target → (q : Rule) → Small q → Packable (by_rule q.action q.next none r.target)
made_packable r t q s = by q.action
  where
    by : (a : Action) → Packable (by_rule a q.next none r.target)
    by Attach = record { mode_in = s.0; target_in_lem = t }
    by Unwrap = record { mode_in = s.0; target_in_lem = t }
    by Validate = record { mode_in = s.0; target_in_lem = tt }

module _ (index : List ℕ) (class : ℕ) where
  pub unnumbered_by : (w : ℕ) → All Unnumbered (entries_by index class (strand_in w))
  unnumbered_by w = all_by Unnumbered index class (strand_in w) (mode_few w) (made_unnumbered (strand_in w))

  pub unnumbered_from : (words : List ℕ) → All Unnumbered (entries_from index class words)
  unnumbered_from words = all_from Unnumbered index class unnumbered_by words

  pub schemas_by : (w : ℕ) → All SchemaSmall (entries_by index class (strand_in w))
  schemas_by w = all_by SchemaSmall index class (strand_in w) (mode_few w) (λ q s. s.1)

  pub schemas_from : (words : List ℕ) → All SchemaSmall (entries_from index class words)
  schemas_from words = all_from SchemaSmall index class schemas_by words

  pub packable_by : (w : ℕ) → All EntryPackable (entries_by index class (strand_in w))
  packable_by w = all_by EntryPackable index class (strand_in w) (mode_few w) (made_packable (strand_in w) (target_few w))

  pub packable_from : (words : List ℕ) → All EntryPackable (entries_from index class words)
  packable_from words = all_from EntryPackable index class packable_by words

pub unnumbered_stay : (words : List ℕ) → All Unnumbered (map stay_entry words)
unnumbered_stay words = all_stay Unnumbered (λ w. (mode_few w, λ e. absurd (differ (sym e)))) words

pub schemas_stay : (words : List ℕ) → All SchemaSmall (map stay_entry words)
schemas_stay words = all_stay SchemaSmall (λ w. omega arith) words

pub packable_stay : (words : List ℕ) → All EntryPackable (map stay_entry words)
packable_stay words = all_stay EntryPackable (λ w. record { mode_in = mode_few w; target_in_lem = target_few w }) words

-- ---- counted, and read back
pub here_count_lem : (es : List Entry) → All Unnumbered es → here_count (map strand_word es) ≡ new_units es
unfolding total
here_count_lem [] a = refl
here_count_lem (e ∷ es) a = ap₂ ◌+◌ (ap (λ (b : Bool). cond b 1 0) (here_back e.strand a.0.0)) (here_count_lem es a.1)

module _ (words schemas : List ℕ) where
  pub entries_back : (es : List Entry) → All EntryPackable es → take (length es) words ≡ map strand_word es → take (length es) schemas ≡ map schema_word es → entries_in words schemas (length es) ≡ es
  unfolding entries_in packed
  entries_back es a ew ec = ext_get_or nothing (tabulate (entry_in words schemas) 0 (length es)) es long each
    where
      nothing : Entry
      nothing = record { strand = record { mode = 0; action = Attach; target = none; here = false }; schema = 0 }

      long : length (tabulate (entry_in words schemas) 0 (length es)) ≡ length es
      long = length_tabulate (entry_in words schemas) 0 (length es)

      word : (i : ℕ) → i < length es → get_or words i 0 ≡ packed (get_or es i nothing).strand
      word i k = sym (get_or-take (length es) words i 0 k) ∙ ap (λ (l : List ℕ). get_or l i 0) ew ∙ get_or-map strand_word es i nothing

      mark : (i : ℕ) → i < length es → get_or schemas i 0 ≡ (get_or es i nothing).schema
      mark i k = sym (get_or-take (length es) schemas i 0 k) ∙ ap (λ (l : List ℕ). get_or l i 0) ec ∙ get_or-map schema_word es i nothing

      back : (i : ℕ) → i < length es → entry_in words schemas i ≡ get_or es i nothing
      back i k =
          ap₂ (λ (r : HeldStrand ℕ) (n : ℕ). record { strand = r; schema = n })
          (ap strand_in (word i k) ∙ packed_back (get_or es i nothing).strand (each_at EntryPackable es i nothing a k))
          (mark i k)

      each : (i : ℕ) → i < length (tabulate (entry_in words schemas) 0 (length es)) → get_or (tabulate (entry_in words schemas) 0 (length es)) i nothing ≡ get_or es i nothing
      each i k =
          let m : i < length es = omega (arith, long) in
          get_d_tabulate (entry_in words schemas) 0 (length es) i nothing m ∙ ap (entry_in words schemas) (zero-add i) ∙ back i m

-- what was laid from an array's first place on
pub laid_back : (f : Entry → ℕ) (es : List Entry) (l : List ℕ) → take (length es) (overwrite l 0 (map f es)) ≡ map f es
laid_back f es l =
    ap (λ (n : ℕ). take n (overwrite l 0 (map f es))) (sym (zero-add (length (map f es)) ∙ length-map es f))
    ∙ take_over l 0 (map f es) (omega arith)

-- ---- after the new units have their numbers
abbrev aimed : ℕ → Entry → Entry
aimed u e = record { strand = aimed_at e.strand u; schema = e.schema }

-- what a number does not change
module _ (f : Entry → ℕ) (same : (u : ℕ) (e : Entry) → f (aimed u e) ≡ f e) where
  allot_map : (u : ℕ) (es : List Entry) → map f (allot u es) ≡ map f es
  allot_map u [] = refl
  allot_map u (e ∷ es) = by e.strand.here refl (λ v. allot_map v es)
    where
      by : (b : Bool) → e.strand.here ≡ b → ((v : ℕ) → map f (allot v es) ≡ map f es) → map f (allot u (e ∷ es)) ≡ f e ∷ map f es
      by true h ih = ap (map f) (allot_yes u e es h) ∙ ap₂ ◌∷◌ (same u e) (ih (u + 1))
      by false h ih = ap (map f) (allot_no u e es h) ∙ ap (λ (l : List ℕ). f e ∷ l) (ih u)

pub allot_schemas : (u : ℕ) (es : List Entry) → map schema_word (allot u es) ≡ map schema_word es
allot_schemas u es = allot_map schema_word (λ v e. refl) u es

pub allot_packable : (u : ℕ) (es : List Entry) → All EntryPackable es → u + new_units es ≤ 65536 → All EntryPackable (allot u es)
unfolding total
allot_packable u [] a k = tt
allot_packable u (e ∷ es) a k = by e.strand.here refl (λ v n. allot_packable v es a.1 n)
  where
    by : (b : Bool) → e.strand.here ≡ b → ((v : ℕ) → v + new_units es ≤ 65536 → All EntryPackable (allot v es)) → All EntryPackable (allot u (e ∷ es))
    by true h ih =
        let n : new_units (e ∷ es) ≡ 1 + new_units es = ap (λ (b : Bool). cond b 1 0 + new_units es) h in
        rw (allot_yes u e es h) (record { mode_in = a.0.mode_in; target_in_lem = omega arith }, ih (u + 1) (omega arith))
    by false h ih =
        let n : new_units (e ∷ es) ≡ 0 + new_units es = ap (λ (b : Bool). cond b 1 0 + new_units es) h in
        rw (allot_no u e es h) (a.0, ih u (omega arith))
