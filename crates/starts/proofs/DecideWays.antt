-- The ways out of `decide`, from what its callees ensure.
--     decided_23                       a 17th strand
--     decided_plain, decided_held      the others, by whether the attributes are plain
use Prim.Native.Nat.{ℕ, ◌≤◌, ◌<◌}
use mathlib.Core.Path.{◌≡◌, refl, sym, ap, ◌∙◌, subst}
use mathlib.Core.Bool.{true}
use mathlib.Core.List.{List, []}
use native.Mathlib.Omega.{arith}
use Rattle.std.specs.Prelude.{Option, Some, None, Err}
use lib.ListN.{length}
use Rattle.std.specs.Option.{ok_or}
use Rattle.laws.specs.Lists.{tabulate}
use Rattle.laws.specs.Members.{All}
use Rattle.laws.specs.Over.{overwrite}
use Rattle.table.specs.Table.{Table, table_of, header_of, decode}
use Rattle.table.specs.Index.{index_of}
use Rattle.table.specs.declared.Header.{Header}
use Rattle.table.proofs.Accepted.{header_in}
use Rattle.lexer.specs.Attrs.{attrs_in}
use Rattle.reader.specs.Namespaces.{Namespace, uri_of}
use Rattle.reader.specs.Stored.{Coded, coded, found_in, stored_space}
use Rattle.reader.specs.Known.{Within}
use Rattle.reader.specs.Events.{Start}
use Rattle.model.specs.Stream.{Entry, entries_at}
use Rattle.model.specs.Elements as elements
use Rattle.model.specs.Elements.{Element, element_of}
use Rattle.model.specs.Dispatch.{dispatch}
use Rattle.attributes.specs.declared.Placing.{Placing}
use Rattle.attributes.specs.Known.{ClassesAt}
use Rattle.strands.specs.Entries.{Unnumbered}
use Rattle.attributes.specs.Attributes.{placing_of, givens_of, laid_givens, given_in, code_namespaces, numbers_from, sections_after, all_sorted}
use Rattle.entries.proofs.Entered.{SchemaSmall, EntryPackable}
use Rattle.sessions.specs.Sessions.{session_of, state_of}
use Rattle.sessions.specs.Turns.{TurnReady, Beside, Met, DecidedAs, start_of}
use Rattle.sessions.specs.Session.{Session}
use Rattle.sessions.specs.declared.Head.{Head}
use Rattle.sessions.specs.declared.Started.{Started}
use Rattle.sessions.specs.declared.Refusal.{Refusal}
use Rattle.openings.specs.declared.Decided.{Decided}
use Rattle.openings.proofs.Deciding.{next_entries, Entering, Weighed}
use Rattle.sessions.proofs.Clauses.{clauses}
use Rattle.sessions.proofs.CoherentSound.{levels_sound}
use Rattle.sessions.proofs.NewStrands.{entry_modes_lem}
use Rattle.starts.proofs.Joined.{enters, all_unnumbered, all_schemas_small, all_packable}
use Rattle.starts.proofs.Sorting.{sections_few, sections_start, sorted_start}
use Rattle.starts.proofs.NoneForeign.{HeldPlain, zeros_laid}
use Rattle.starts.proofs.DecidedStart.{decided_many, decided_start}

-- what `decide` is given, and the session and the tag that it is given for
module _ (table levels : List ℕ) (header : Header) (index s attrs codes own outer known spaces strands : List ℕ) (started : Started) (placing : Placing) (head : Head) where
  abbrev n : Namespace
  n = stored_space own outer started.found

  abbrev t : Table
  t = decode table

  abbrev z : Session
  z = session_of head levels outer spaces strands

  abbrev e : Start
  e = start_of s outer own attrs codes started.at started.tag started.found

  abbrev σ : Element
  σ = element_of t s e

  abbrev cs : List Coded
  cs = coded (attrs_in attrs started.tag.count) codes

  pub record StartGiven : Type 0 where
    pub ready : TurnReady table header index s (session_of head levels outer spaces strands)
    pub beside : Beside table s known (session_of head levels outer spaces strands)
    pub own_classes : ClassesAt (decode table) s own started.owned head.bound known
    pub met : Met s outer own attrs codes known head.bound started
    pub placed : placing ≡ placing_of (elements.space_of (decode table) s (stored_space own outer started.found))

  module _ (g : StartGiven) where
    abbrev es : List Entry
    es = entries_at (dispatch t) (state_of t s z).levels σ

    abbrev ours : List Entry
    ours = next_entries index s (uri_of s n) spaces strands placing.class head.depth

    index_is : index ≡ index_of table (header_of table)
    index_is = g.ready.index_is ∙ ap (index_of table) g.ready.header_is

    class_is : placing.class ≡ (elements.space_of t s n).class
    class_is = ap (λ (p : Placing). p.class) g.placed

    space_is : σ.space ≡ elements.space_of t s n
    unfolding element_of
    space_is = refl

    entries_are : ours ≡ es
    entries_are =
        rw (index_is, class_is)
        (enters table g.ready.accepted s z g.ready.coherent' n σ space_is)

    pub decided_23 : (words₀ schemas₀ words schemas attributes sections : List ℕ) (x : Refusal)
        → Entering (next_entries index s (uri_of s (stored_space own outer started.found)) spaces strands placing.class head.depth) words₀ schemas₀ words schemas None → x ≡ record { number = 23; place = started.at }
        → DecidedAs (decode table) s (session_of head levels outer spaces strands) (element_of (decode table) s (start_of s outer own attrs codes started.at started.tag started.found)) (Err x) words schemas attributes sections
    decided_23 words₀ schemas₀ words schemas attributes sections x en q =
        decided_many table g.ready.accepted s z e words₀ schemas₀ words schemas attributes sections x (subst (λ (xs : List Entry). Entering xs words₀ schemas₀ words schemas None) entries_are en) q

    module _ (words₀ schemas₀ words₁ schemas words attributes₀ attributes sections₀ sections : List ℕ) (count k : ℕ) (r : Option Decided)
        (en : Entering (next_entries index s (uri_of s (stored_space own outer started.found)) spaces strands placing.class head.depth) words₀ schemas₀ words₁ schemas (Some count)) (few_attributes : k ≤ 16) where
      decided_on : (m : ℕ) → k ≡ length (givens_of t s own outer cs) → attributes ≡ laid_givens (givens_of t s own outer cs) attributes₀
          → m ≡ length (sections_after s n [] (code_namespaces own outer (tabulate (given_in attributes) 0 k)))
          → sections ≡ overwrite sections₀ 0 (numbers_from s n [] (code_namespaces own outer (tabulate (given_in attributes) 0 k)))
          → Weighed index (all_sorted attributes sections k) k m count head.units words₁ words r
          → DecidedAs t s z σ (ok_or r (record { number = 24; place = started.at })) words schemas attributes sections
      decided_on m count_is laid numbered_is numbered weighed =
          decided_start table g.ready.accepted s z e
          (entry_modes_lem table g.ready.accepted s (state_of t s z) σ (levels_sound t s z (clauses t s z g.ready.coherent')))
          (subst (All Unnumbered) entries_are (all_unnumbered index s (uri_of s n) spaces strands placing.class head.depth))
          (subst (All SchemaSmall) entries_are (all_schemas_small index s (uri_of s n) spaces strands placing.class head.depth))
          (subst (All EntryPackable) entries_are (all_packable index s (uri_of s n) spaces strands placing.class head.depth))
          words₀ schemas₀ words₁ schemas words attributes sections count k m
          (subst (λ (xs : List Entry). Entering xs words₀ schemas₀ words₁ schemas (Some count)) entries_are en)
          few_attributes
          (sections_few s n own outer attributes k m few_attributes numbered_is)
          (zeros_laid s n own outer attributes sections₀ sections k m numbered_is numbered)
          (sorted_start table g.ready.accepted s outer own attrs codes started.at started.tag started.found g.ready.short g.met.told.attributes_inside g.met.told.few_codes attributes₀ sections₀ attributes k count_is laid sections numbered)
          (sections_start table g.ready.accepted s outer own attrs codes started.at started.tag started.found g.ready.short g.met.told.attributes_inside g.met.told.few_codes attributes₀ sections₀ attributes k count_is laid m numbered_is)
          r
          (subst (λ (i : List ℕ). Weighed i (all_sorted attributes sections k) k m count head.units words₁ words r) index_is weighed)

      pub decided_plain : started.plain ≡ true → HeldPlain attrs started.tag.count attributes₀ attributes sections₀ sections k
          → Weighed index (all_sorted attributes sections k) k 0 count head.units words₁ words r
          → DecidedAs (decode table) s (session_of head levels outer spaces strands) (element_of (decode table) s (start_of s outer own attrs codes started.at started.tag started.found)) (ok_or r (record { number = 24; place = started.at })) words schemas attributes sections
      decided_plain plain held weighed =
          let h = held t s own outer codes n (g.met.plain_names plain) (g.met.plain_codes plain) in
          decided_on 0 h.0 h.1 h.2 h.3 weighed

      pub decided_held : (m : ℕ) (held_first : List ℕ) → attributes ≡ held_first
          → ((table : List ℕ) (header : Header) (owned : ℕ) → header.namespaces < 256
          → ClassesAt (table_of table header) s outer head.bound 0 known → ClassesAt (table_of table header) s own owned head.bound known
          → All (λ (c : Coded). Within owned head.bound (found_in c.code)) (coded (attrs_in attrs started.tag.count) codes)
          → (let gs = givens_of (table_of table header) s own outer (coded (attrs_in attrs started.tag.count) codes) in (k ≡ length gs) × (held_first ≡ laid_givens gs attributes₀)))
          → (let ns = code_namespaces own outer (tabulate (given_in held_first) 0 k) in (m ≡ length (sections_after s (stored_space own outer started.found) [] ns)) × (sections ≡ overwrite sections₀ 0 (numbers_from s (stored_space own outer started.found) [] ns)))
          → Weighed index (all_sorted attributes sections k) k m count head.units words₁ words r
          → DecidedAs (decode table) s (session_of head levels outer spaces strands) (element_of (decode table) s (start_of s outer own attrs codes started.at started.tag started.found)) (ok_or r (record { number = 24; place = started.at })) words schemas attributes sections
      decided_held m held_first same held numbered weighed =
          let h = held table (header_of table) started.owned (omega (arith, (header_in table g.ready.accepted).few_namespaces)) g.beside.classes g.own_classes g.met.codes_within in
          let v = subst (λ (x : List ℕ). (m ≡ length (sections_after s n [] (code_namespaces own outer (tabulate (given_in x) 0 k)))) × (sections ≡ overwrite sections₀ 0 (numbers_from s n [] (code_namespaces own outer (tabulate (given_in x) 0 k))))) (sym same) numbered in
          decided_on m h.0 (same ∙ h.1) v.0 v.1 weighed
