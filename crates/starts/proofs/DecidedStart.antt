-- What the code decides of a start is what the model says: its strands, its attributes with their sections, its units, its records.
--     decided_many       more than 16 strands
--     decided_start      the others
use Prim.Native.Nat.{ℕ, ◌+◌, ◌≤◌, ◌<◌}
use mathlib.Core.Path.{◌≡◌, sym, ap, ap₂, ◌∙◌}
use mathlib.Core.List.{List, map}
use mathlib.Core.Bool.{true, cond}
use native.Mathlib.Omega.{arith}
use Rattle.std.specs.Prelude.{Some, None, Option, Err}
use borrow.Author.Tests.{lt-ltb, le-ltb}
use lib.ListN.{length, get_or, take}
use lib.Dec.{ltb}
use Rattle.std.specs.Option.{ok_or}
use Rattle.laws.specs.Gather.{total}
use Rattle.laws.specs.Members.{All}
use Rattle.laws.specs.Over.{overwrite}
use Rattle.table.specs.Table.{Table, header_of, decode}
use Rattle.table.specs.Index.{index_of}
use Rattle.table.specs.Judge.{Accepted}
use Rattle.reader.specs.Events.{Start}
use Rattle.model.specs.Tree.{start}
use Rattle.model.specs.Stream.{Entry, State, allot, entries_at, units_of, entered, written, after}
use Rattle.model.specs.Elements.{Element, element_of}
use Rattle.model.specs.Groups.{groups_of}
use Rattle.model.specs.Dispatch.{dispatch}
use Rattle.model.proofs.Steps.{allot_length}
use Rattle.strands.specs.Entries.{strand_word, schema_word, here_count, Unnumbered, entries_in}
use Rattle.attributes.specs.Attributes.{Sorted, all_sorted}
use Rattle.strands.specs.Writing.{element_count}
use Rattle.strands.proofs.Numbered.{all_of}
use Rattle.entries.proofs.Laying.{counted_some, counted_few, counted_none}
use Rattle.entries.proofs.Entered.{SchemaSmall, EntryPackable, here_count_lem, entries_back, allot_schemas, allot_packable}
use Rattle.sessions.specs.Sessions.{state_of}
use Rattle.sessions.specs.Turns.{Made, DecidedAs, decided_number}
use Rattle.sessions.specs.Session.{Session}
use Rattle.sessions.specs.declared.Refusal.{Refusal}
use Rattle.openings.specs.declared.Decided.{Decided}
use Rattle.openings.proofs.Deciding.{Entering, words_of, load_units, load_records, Weighed}
use Rattle.sessions.proofs.NewStrands.{ModeIn, modes_allotted}
use Rattle.starts.proofs.StartCounts.{words_back, taken_back, small_at, units_after, written_length, units_loaded, records_loaded, element_records_lem}

module _ (table : List ℕ) (a : Accepted table ≡ true) (s : List ℕ) (z : Session) (e : Start) where
  abbrev t : Table
  t = decode table

  abbrev index : List ℕ
  index = index_of table (header_of table)

  abbrev σ : Element
  σ = element_of t s e

  abbrev state : State (dispatch t)
  state = state_of t s z

  abbrev es : List Entry
  es = entries_at (dispatch t) state.levels σ

  abbrev m : ℕ
  m = length (groups_of σ)

  abbrev base : ℕ
  base = z.units + length (units_of (dispatch t) σ es)

  -- ---- more than 16 strands
  pub decided_many : (words₀ schemas₀ words schemas attributes sections : List ℕ) (x : Refusal)
      → Entering (entries_at (dispatch (decode table)) (state_of (decode table) s z).levels (element_of (decode table) s e)) words₀ schemas₀ words schemas None → x ≡ record { number = 23; place = e.at }
      → DecidedAs (decode table) s z (element_of (decode table) s e) (Err x) words schemas attributes sections
  unfolding element_of
  decided_many words₀ schemas₀ words schemas attributes sections x en q =
      let d : decided_number t s z σ ≡ 23 = rw (lt-ltb 16 (length es) (counted_none (length es) en.0)) in
      (q ∙ ap (λ (n : ℕ). record { number = n; place = e.at }) (sym d), λ y. omega (arith, ap (λ (r : Refusal). r.number) q))

  -- ---- the others
  module _ (modes : All (ModeIn (decode table).modes) (entries_at (dispatch (decode table)) (state_of (decode table) s z).levels (element_of (decode table) s e)))
      (unnumbered : All Unnumbered (entries_at (dispatch (decode table)) (state_of (decode table) s z).levels (element_of (decode table) s e)))
      (small : All SchemaSmall (entries_at (dispatch (decode table)) (state_of (decode table) s z).levels (element_of (decode table) s e)))
      (pack : All EntryPackable (entries_at (dispatch (decode table)) (state_of (decode table) s z).levels (element_of (decode table) s e)))
      (words₀ schemas₀ words₁ schemas words attributes sections : List ℕ) (count k j : ℕ)
      (en : Entering (entries_at (dispatch (decode table)) (state_of (decode table) s z).levels (element_of (decode table) s e)) words₀ schemas₀ words₁ schemas (Some count))
      (few_attributes : k ≤ 16) (few_sections : j ≤ 16)
      (none_foreign : j ≡ 0 → (i : ℕ) → i < k → get_or sections i 0 ≡ 0)
      (sorted : all_sorted attributes sections k ≡ all_of (element_of (decode table) s e)) (sections_are : j ≡ length (groups_of (element_of (decode table) s e))) where
    count_is : count ≡ length es
    count_is = (counted_some (length es) count en.0).1

    few_strands : count ≤ 16
    few_strands = counted_few (length es) count en.0

    words_laid : words₁ ≡ overwrite words₀ 0 (map strand_word es)
    words_laid = en.1 (omega (arith, count_is, few_strands))

    schemas_laid : schemas ≡ overwrite schemas₀ 0 (map schema_word es)
    schemas_laid = en.2 (omega (arith, count_is, few_strands))

    all_words : words_of words₁ count ≡ map strand_word es
    all_words = words_back words₀ es words₁ count words_laid count_is

    first_words : take count words₁ ≡ map strand_word es
    first_words = taken_back words₀ es words₁ count strand_word words_laid count_is

    first_schemas : take count schemas ≡ map schema_word es
    first_schemas = taken_back schemas₀ es schemas count schema_word schemas_laid count_is

    -- units
    load_is : load_units index (all_sorted attributes sections k) j (words_of words₁ count) ≡ length (units_of (dispatch t) σ es)
    load_is =
        ap₂ (λ (l : List Sorted) (i : ℕ). load_units index l i (words_of words₁ count)) sorted sections_are
        ∙ ap (load_units index (all_of σ) m) all_words
        ∙ units_loaded table a s z e modes pack

    all_is : z.units + load_units index (all_sorted attributes sections k) j (words_of words₁ count) + here_count (take count words₁) ≡ (after (dispatch t) state (start σ)).units
    all_is =
        ap₂ (λ (u h : ℕ). z.units + u + h) load_is (ap here_count first_words ∙ here_count_lem es unnumbered)
        ∙ sym (units_after table a s z e)

    number_is : decided_number t s z σ ≡ cond (ltb 65536 (after (dispatch t) state (start σ)).units) 24 0
    number_is = rw (le-ltb 16 (length es) (omega (arith, count_is, few_strands)))

    -- what passes 24
    module _ (d : Decided) (weighed : Weighed (index_of table (header_of table)) (all_sorted attributes sections k) k j count z.units words₁ words (Some d)) where
      abbrev new : List Entry
      new = entered (dispatch t) state σ

      units_few : (after (dispatch t) state (start σ)).units ≤ 65536
      units_few = omega (arith, weighed.0, all_is)

      passed : decided_number t s z σ ≡ 0
      passed = number_is ∙ rw (le-ltb 65536 (after (dispatch t) state (start σ)).units units_few)

      new_packable : All EntryPackable new
      new_packable = allot_packable base es pack (omega (arith, units_after table a s z e, units_few))

      new_count : count ≡ length new
      new_count = count_is ∙ sym (allot_length base es)

      strands_count : d.strands ≡ count
      strands_count = weighed.1.0

      new_laid : words ≡ overwrite words₁ 0 (map strand_word new)
      new_laid =
          weighed.3 es (sym count_is) first_words unnumbered
          ∙ ap (λ (u : ℕ). overwrite words₁ 0 (map strand_word (allot (z.units + u) es))) load_is

      new_words : take count words ≡ map strand_word new
      new_words = taken_back words₁ new words count strand_word new_laid new_count

      new_entries : entries_in words schemas count ≡ new
      new_entries =
          ap (entries_in words schemas) new_count
          ∙ entries_back words schemas new new_packable (ap (λ (n : ℕ). take n words) (sym new_count) ∙ new_words)
          (ap (λ (n : ℕ). take n schemas) (sym new_count) ∙ first_schemas ∙ sym (allot_schemas base es))

      records_are : d.records ≡ length (written (dispatch t) state (start σ))
      records_are =
          weighed.2 schemas
          ∙ ap₂ ◌+◌
          (ap₂ (λ (l : List Sorted) (i : ℕ). load_records index l i (words_of words₁ count)) sorted sections_are ∙ ap (load_records index (all_of σ) m) all_words ∙ records_loaded table a s z e modes pack)
          (ap₂ (λ (l : List Sorted) (xs : List Entry). total (element_count index l) xs) sorted new_entries ∙ element_records_lem table a s z e new (modes_allotted t.modes base es modes))
          ∙ sym (written_length table a s z e)

      units_are : d.units ≡ (after (dispatch t) state (start σ)).units
      units_are = weighed.1.3 ∙ all_is

      made : Made t s z σ d words schemas attributes sections
      made =
          record {
            few_strands = omega (arith, strands_count, few_strands);
            strands_are = ap (λ (n : ℕ). take n words) strands_count ∙ new_words;
            entries_are = ap (entries_in words schemas) strands_count ∙ new_entries;
            schemas_small = λ i l. small_at es schemas count small count_is first_schemas i (omega (arith, strands_count));
            few_attributes = omega (arith, weighed.1.1);
            attributes_are = ap (all_sorted attributes sections) weighed.1.1 ∙ sorted;
            few_sections = omega (arith, weighed.1.2);
            none_foreign = λ q i l. none_foreign (sym weighed.1.2 ∙ q) i (omega (arith, weighed.1.1));
            sections_are = weighed.1.2 ∙ sections_are;
            units_are = units_are;
            few_units = omega (arith, units_are, units_few);
            records_are = records_are;
          }

    pub decided_start : (r : Option Decided) → Weighed (index_of table (header_of table)) (all_sorted attributes sections k) k j count z.units words₁ words r
        → DecidedAs (decode table) s z (element_of (decode table) s e) (ok_or r (record { number = 24; place = e.at })) words schemas attributes sections
    unfolding element_of
    decided_start None weighed =
        let heavy : decided_number t s z σ ≡ 24 = number_is ∙ rw (lt-ltb 65536 (after (dispatch t) state (start σ)).units (omega (arith, weighed, all_is))) in
        (ap (λ (n : ℕ). record { number = n; place = e.at }) (sym heavy), λ y. omega arith)
    decided_start (Some d) weighed = (passed d weighed, made d weighed)
