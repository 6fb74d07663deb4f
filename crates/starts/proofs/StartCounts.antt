-- What is counted and laid of a start, in the model's terms.
--     words_back, taken_back, small_at           what the arrays hold
--     units_after, written_length                the units and the records of the model
--     units_loaded, records_loaded               those of the attribute units
--     element_records_lem                            the records of the element along its strands
use Prim.Native.Nat.{ℕ, ◌+◌, ◌<◌}
use mathlib.Core.Path.{◌≡◌, refl, sym, ap, ap₂, ◌∙◌}
use mathlib.Core.List.{List, map}
use mathlib.Core.Bool.{true, false}
use mathlib.Core.Option.{none}
use native.Mathlib.Omega.{arith}
use lib.ListN.{length, get_or, take, length-map, length-append, get_or-map}
use lib.Seq.{get_or-take}
use Rattle.laws.specs.Gather.{gather, total}
use Rattle.laws.specs.Members.{All}
use Rattle.laws.specs.Over.{overwrite}
use Rattle.laws.proofs.Elementwise as elementwise
use Rattle.laws.proofs.Holds.{each_at}
use Rattle.table.specs.Table.{Table, header_of, decode}
use Rattle.table.specs.Index.{index_of}
use Rattle.table.specs.Judge.{Accepted}
use Rattle.table.specs.declared.Action.TheVariants.{Attach}
use Rattle.table.proofs.Accepted.{header_in}
use Rattle.reader.specs.Events.{Start}
use Rattle.model.specs.Theory.{AttributeUnit}
use Rattle.model.specs.Tree.{start}
use Rattle.model.specs.Stream.{Entry, State, new_units, entries_at, units_of, entered, start_records, written, after, HeldStrand, attributes_from}
use Rattle.model.specs.Elements.{Element, element_of}
use Rattle.model.specs.Groups.{groups_of}
use Rattle.model.specs.Records.{Body, start_body}
use Rattle.model.specs.Dispatch.{dispatch}
use Rattle.model.proofs.Lists.{gather_map}
use Rattle.strands.specs.Packed.{strand_in}
use Rattle.strands.specs.Entries.{strand_word, schema_word}
use Rattle.strands.specs.Writing.{strand_units, element_count}
use Rattle.strands.proofs.Packing.{packed_back}
use Rattle.attributes.proofs.Numbering.{numbers_back}
use Rattle.strands.proofs.Numbered.{all_of, element_classed}
use Rattle.strands.proofs.StartRecords.{tag_units_are, starts_are}
use Rattle.strands.proofs.Counted.{tag_length, tag_records, elements_length}
use Rattle.entries.proofs.Entered.{SchemaSmall, EntryPackable, laid_back}
use Rattle.sessions.specs.Sessions.{state_of}
use Rattle.sessions.specs.Session.{Session}
use Rattle.openings.proofs.Deciding.{words_of, load_units, load_records}
use Rattle.sessions.proofs.NewStrands.{ModeIn}

-- ---- what was laid
module _ (l : List ℕ) (es : List Entry) (words : List ℕ) (n : ℕ) where
  pub words_back : words ≡ overwrite l 0 (map strand_word es) → n ≡ length es → words_of words n ≡ map strand_word es
  words_back e c = ap₂ (λ (ws : List ℕ) (k : ℕ). words_of ws k) e (c ∙ sym (length-map es strand_word)) ∙ numbers_back l (map strand_word es)

  pub taken_back : (f : Entry → ℕ) → words ≡ overwrite l 0 (map f es) → n ≡ length es → take n words ≡ map f es
  taken_back f e c = ap₂ (λ (ws : List ℕ) (k : ℕ). take k ws) e c ∙ laid_back f es l

pub small_at : (es : List Entry) (schemas : List ℕ) (n : ℕ) → All SchemaSmall es → n ≡ length es → take n schemas ≡ map schema_word es → (k : ℕ) → k < n → get_or schemas k 0 < 256
small_at es schemas n a c e k l =
    let q : get_or schemas k 0 ≡ (get_or es k nothing).schema = sym (get_or-take n schemas k 0 l) ∙ ap (λ (ws : List ℕ). get_or ws k 0) e ∙ get_or-map schema_word es k nothing in
    omega (arith, q, each_at SchemaSmall es k nothing a (omega arith))
  where
    nothing : Entry
    nothing = record { strand = record { mode = 0; action = Attach; target = none; here = false }; schema = 0 }

-- ---- the start of an element
module _ (table : List ℕ) (a : Accepted table ≡ true) (s : List ℕ) (z : Session) (e : Start) where
  abbrev t : Table
  t = decode table

  abbrev index : List ℕ
  index = index_of table (header_of table)

  abbrev σ : Element
  σ = element_of t s e

  abbrev state : State (dispatch t)
  state = state_of t s z

  abbrev es : List Entry
  es = entries_at (dispatch t) state.levels σ

  abbrev m : ℕ
  m = length (groups_of σ)

  abbrev base : ℕ
  base = z.units + length (units_of (dispatch t) σ es)

  pub units_after : (after (dispatch t) state (start σ)).units ≡ base + new_units es
  unfolding after
  units_after = refl

  pub written_length : length (written (dispatch t) state (start σ))
      ≡ length (attributes_from (λ (n : ℕ). n) z.units (units_of (dispatch t) σ es)) + length (gather (start_records (dispatch t) σ) (entered (dispatch t) state σ))
  unfolding written
  written_length = length-append (attributes_from (λ (n : ℕ). n) z.units (units_of (dispatch t) σ es)) (gather (start_records (dispatch t) σ) (entered (dispatch t) state σ))

  -- ---- units and records
  module _ (modes : All (ModeIn (decode table).modes) (entries_at (dispatch (decode table)) (state_of (decode table) s z).levels (element_of (decode table) s e)))
      (pack : All EntryPackable (entries_at (dispatch (decode table)) (state_of (decode table) s z).levels (element_of (decode table) s e))) where
    abbrev units_in : ℕ → List (AttributeUnit Body)
    units_in mode = strand_units index σ.at (all_of σ) m mode

    tag_is : gather (λ (w : ℕ). units_in (strand_in w).mode) (map strand_word es) ≡ units_of (dispatch t) σ es
    tag_is =
        gather_map (λ (w : ℕ). units_in (strand_in w).mode) strand_word es
        ∙ elementwise.gather_same EntryPackable (λ (x : Entry). units_in (strand_in (strand_word x)).mode) (λ (x : Entry). units_in x.strand.mode)
        (λ x p. ap (λ (r : HeldStrand ℕ). units_in r.mode) (packed_back x.strand p)) es pack
        ∙ tag_units_are table (header_of table) (header_in table a).few_rules (header_in table a).few_modes σ (element_classed table a s e) es modes

    pub units_loaded : load_units index (all_of σ) m (map strand_word es) ≡ length (units_of (dispatch t) σ es)
    units_loaded = sym (tag_length index σ.at (all_of σ) m (map strand_word es)) ∙ ap length tag_is

    pub records_loaded : load_records index (all_of σ) m (map strand_word es) ≡ length (attributes_from (λ (n : ℕ). n) z.units (units_of (dispatch t) σ es))
    records_loaded =
        sym (tag_records index σ.at (all_of σ) m (map strand_word es) z.units)
        ∙ ap (λ (us : List (AttributeUnit Body)). length (attributes_from (λ (n : ℕ). n) z.units us)) tag_is

  pub element_records_lem : (xs : List Entry) → All (ModeIn (decode table).modes) xs → total (element_count index (all_of σ)) xs ≡ length (gather (start_records (dispatch t) σ) xs)
  element_records_lem xs modes =
      sym (elements_length index σ.at (start_body σ) (all_of σ) xs)
      ∙ ap length (starts_are table (header_of table) (header_in table a).few_rules (header_in table a).few_modes σ (element_classed table a s e) xs (start_body σ) modes refl)
