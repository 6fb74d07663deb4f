-- The records that a start writes, from its strands and attributes as the arrays hold them, are the stream's.
--     numbered_units     numbering the new units leaves the attribute units
--     modes_in      each strand has a mode of the table
--     written_is
use Prim.Native.Nat.{ℕ, zero, suc}
use mathlib.Core.Path.{◌≡◌, refl, ap, ap₂, ◌∙◌}
use mathlib.Core.List.{List, [], ◌∷◌, ◌++◌}
use mathlib.Core.Bool.{Bool, true, false}
use mathlib.Core.Option.{Option}
use lib.ListN.{get_or}
use Rattle.laws.specs.Lists.{tabulate}
use Rattle.laws.specs.Gather.{gather}
use Rattle.laws.specs.Members.{All}
use Rattle.table.specs.Table.{Table, decode, header_of}
use Rattle.table.specs.Index.{index_of}
use Rattle.table.specs.Judge.{Accepted}
use Rattle.table.specs.declared.Action.{Action}
use Rattle.table.proofs.Accepted.{header_in}
use Rattle.reader.specs.Events.{Start}
use Rattle.model.specs.Theory.{AttributeUnit, Record}
use Rattle.model.specs.Tree.{start}
use Rattle.model.specs.Elements.{Element, element_of}
use Rattle.model.specs.Records.{Body, start_body}
use Rattle.model.specs.Groups.{attribute_units}
use Rattle.model.specs.Stream.{Entry, allot, entries_at, entered, units_of, start_records, written, attributes_from}
use Rattle.model.specs.Dispatch.{dispatch}
use Rattle.strands.specs.declared.Begun.{Begun}
use Rattle.strands.specs.Packed.{strand_in}
use Rattle.strands.specs.Entries.{entry_in, entries_in}
use Rattle.attributes.specs.Attributes.{Sorted, all_sorted}
use Rattle.strands.specs.Writing.{strand_units, tag_units, begun_body, element_records}
use Rattle.strands.proofs.Numbered.{element_classed}
use Rattle.strands.proofs.StartRecords.{starts_are, tag_units_are}
use Rattle.openings.proofs.Openings.{unit_records, strand_records}
use Rattle.sessions.specs.Sessions.{state_of}
use Rattle.openings.specs.Openings.{array_units}
use Rattle.sessions.specs.Turns.{Made}
use Rattle.sessions.specs.Session.{Session}
use Rattle.openings.specs.declared.Decided.{Decided}
use Rattle.sessions.proofs.Sound.{LevelSound}
use Rattle.sessions.proofs.NewStrands.{ModeIn, modes_allotted, entry_modes_lem}

-- ---- by modes alone
module _ {B : Type 0} (f : ℕ → List B) where
  pub numbered_units : (u : ℕ) (es : List Entry) → gather (λ (e : Entry). f e.strand.mode) (allot u es) ≡ gather (λ (e : Entry). f e.strand.mode) es
  unfolding gather
  numbered_units u [] = refl
  numbered_units u (e ∷ es) = by e.strand.mode e.strand.action e.strand.target e.strand.here e.schema (λ v. numbered_units v es)
    where
      by : (m : ℕ) (c : Action) (t : Option ℕ) (b : Bool) (n : ℕ) → ((v : ℕ) → gather (λ (x : Entry). f x.strand.mode) (allot v es) ≡ gather (λ (x : Entry). f x.strand.mode) es)
          → gather (λ (x : Entry). f x.strand.mode) (allot u (record { strand = record { mode = m; action = c; target = t; here = b }; schema = n } ∷ es)) ≡ f m ++ gather (λ (x : Entry). f x.strand.mode) es
      by m c t false n ih = ap (λ (l : List B). f m ++ l) (ih u)
      by m c t true n ih = ap (λ (l : List B). f m ++ l) (ih (suc u))

  words_units : (words schemas : List ℕ) (k n : ℕ)
      → gather (λ (w : ℕ). f (strand_in w).mode) (tabulate (λ (i : ℕ). get_or words i 0) k n) ≡ gather (λ (e : Entry). f e.strand.mode) (tabulate (entry_in words schemas) k n)
  unfolding gather tabulate
  words_units words schemas k zero = refl
  words_units words schemas k (suc n) = ap (λ (l : List B). f (strand_in (get_or words k 0)).mode ++ l) (words_units words schemas (suc k) n)

module _ (table s : List ℕ) (z : Session) (e : Start) (ok : Accepted table ≡ true) (sound : All (LevelSound (decode table) s z.units) (state_of (decode table) s z).levels) where
  abbrev t : Table
  t = decode table

  abbrev σ : Element
  σ = element_of t s e

  abbrev es : List Entry
  es = entered (dispatch t) (state_of t s z) σ

  modes_in : All (ModeIn t.modes) es
  modes_in = modes_allotted t.modes _ (entries_at (dispatch t) (state_of t s z).levels σ) (entry_modes_lem table ok s (state_of t s z) σ sound)

  module _ (index attributes sections words schemas : List ℕ) (b : Begun) (r : Decided) (made : Made (decode table) s z (element_of (decode table) s e) r words schemas attributes sections) (index_is : index ≡ index_of table (header_of table)) (tag_is : b.tag ≡ (element_of (decode table) s e).at) (body_is : begun_body b ≡ start_body (element_of (decode table) s e)) where
    units_written : array_units index attributes sections words b.tag r ≡ units_of (dispatch t) σ (entries_at (dispatch t) (state_of t s z).levels σ)
    unfolding entries_in
    units_written =
        words_units (strand_units index b.tag (all_sorted attributes sections r.attributes) r.sections) words schemas 0 r.strands
        ∙ ap (tag_units index b.tag (all_sorted attributes sections r.attributes) r.sections) made.entries_are
        ∙ ap₂ (λ (i : List ℕ) (k : ℕ). tag_units i k (all_sorted attributes sections r.attributes) r.sections es) index_is tag_is
        ∙ ap₂ (λ (l : List Sorted) (m : ℕ). tag_units (index_of table (header_of table)) σ.at l m es) made.attributes_are made.sections_are
        ∙ tag_units_are table (header_of table) (header_in table ok).few_rules (header_in table ok).few_modes σ (element_classed table ok s e) es modes_in
        ∙ numbered_units (λ (mode : ℕ). attribute_units t mode σ) _ (entries_at (dispatch t) (state_of t s z).levels σ)

    strands_written : strand_records index attributes sections words schemas b r ≡ gather (start_records (dispatch t) σ) es
    strands_written =
        ap (gather (element_records index b.tag (begun_body b) (all_sorted attributes sections r.attributes))) made.entries_are
        ∙ ap₂ (λ (i : List ℕ) (k : ℕ). gather (element_records i k (begun_body b) (all_sorted attributes sections r.attributes)) es) index_is tag_is
        ∙ ap (λ (l : List Sorted). gather (element_records (index_of table (header_of table)) σ.at (begun_body b) l) es) made.attributes_are
        ∙ starts_are table (header_of table) (header_in table ok).few_rules (header_in table ok).few_modes σ (element_classed table ok s e) es (begun_body b) modes_in body_is

    pub written_is : unit_records index attributes sections words b.tag z.units r ++ strand_records index attributes sections words schemas b r
        ≡ written (dispatch (decode table)) (state_of (decode table) s z) (start (element_of (decode table) s e))
    unfolding written
    written_is = ap₂ (λ (us : List (AttributeUnit Body)) (rs : List (Record Body ℕ)). attributes_from (λ (u : ℕ). u) z.units us ++ rs) units_written strands_written
