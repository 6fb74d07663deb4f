-- A start and one event, as the code's parts make them: what each part asks of the session and the arrays, and what the answers say together.
--     innermost, awaited_innermost, decidable, few_bound     of a session that number 20 accepts
--     deep_plan, bound_plan                                  21 and 22
--     made_openable                                          what is decided can be written
--     begin_plan, start_begins, end_begins, text_begins      one event, by how it begins
use Rattle.std.specs.Prelude.{Ok}
use Prim.Native.Nat.{ℕ, zero, suc, ◌+◌, ◌-◌, ◌*◌, ◌%◌, ◌^◌, ◌≤◌, ◌<◌}
use mathlib.Core.Path.{◌≡◌, refl, sym, ap, ap₂, subst, ◌∙◌}
use mathlib.Core.List.{List, [], ◌∷◌, ◌++◌}
use mathlib.Core.Bool.{Bool, true, false, not}
use mathlib.Core.Option.{Option}
use mathlib.Core.Logic.{⊎_elim}
use native.Mathlib.Omega.{arith}
use native.Mathlib.Nat.{mod-eq_of_lt}
use borrow.Author.Tests.{eqb-false, leb-true, le-leb, lt-leb, lt-ltb, not-true}
use lib.ListN.{length, get_or}
use lib.Dec.{eqb}
use Rattle.laws.specs.Reading.{le_or_lt}
use Rattle.laws.specs.Lists.{tabulate}
use Rattle.laws.specs.Gather.{gather}
use Rattle.laws.specs.Members.{All}
use Rattle.table.specs.Table.{Table, decode, header_of}
use Rattle.table.specs.Index.{index_of}
use Rattle.table.specs.Judge.{Accepted}
use Rattle.table.specs.declared.Action.{Action}
use Rattle.table.specs.declared.Header.{Header}
use Rattle.table.proofs.Accepted.{header_in, all_listed}
use Rattle.lexer.specs.Begins.{begin_at}
use Rattle.lexer.specs.Reads.{BeginRead}
use Rattle.lexer.specs.declared.Begin.TheVariants as begin
use Rattle.lexer.proofs.BeginLaws.{BeginInside, begin_inside}
use Rattle.reader.specs.declared.Binding.{Binding}
use Rattle.reader.specs.Stored.{narrowed}
use Rattle.reader.specs.Events.{Start, read_at}
use Rattle.reader.specs.Scope.{opens_in}
use Rattle.reader.proofs.Opens.{opens_nil}
use Rattle.model.specs.Stream.{Entry, allot, entries_at, units_of, entered, after}
use Rattle.model.specs.Elements.{Element, element_of}
use Rattle.model.specs.Groups.{groups_of}
use Rattle.model.specs.Dispatch.{dispatch}
use Rattle.strands.specs.Packed.{strand_in}
use Rattle.strands.specs.Entries.{entry_in, entries_in}
use Rattle.attributes.specs.Attributes.{Sorted}
use Rattle.strands.specs.Writing.{strand_units, tag_units}
use Rattle.strands.proofs.Numbered.{all_of, element_classed}
use Rattle.strands.proofs.StartRecords.{tag_units_are}
use Rattle.sessions.specs.Sessions.{class_in, strand_count, level_in, session_of, reader_of, state_of}
use Rattle.sessions.specs.Stepping.{refused, plan_by, plan_of, start_plan}
use Rattle.openings.specs.Openings.{array_units, Openable}
use Rattle.sessions.specs.Turns.{Innermost, TurnReady, Made}
use Rattle.sessions.specs.Session.{Session}
use Rattle.sessions.specs.declared.Head.{Head}
use Rattle.openings.specs.declared.Decided.{Decided}
use Rattle.sessions.proofs.SoundCoherent.{strands_counted}
use Rattle.sessions.proofs.Clauses.{Clauses, clauses}
use Rattle.sessions.proofs.CoherentSound.{name_held, level_sound, levels_sound, awaited_open}
use Rattle.sessions.proofs.NewStrands.{ModeIn, modes_allotted, entry_modes_lem}
use Rattle.starts.proofs.TagMeant.{next_begun}

-- ---- a session that number 20 accepts
module _ (t : Table) (s : List ℕ) (z : Session) (c : Clauses t s z) where
  level_few : (k : ℕ) → k < z.scope.depth → strand_count z k ≤ 16
  unfolding level_in
  level_few k l = subst (λ (n : ℕ). n ≤ 16) (strands_counted z k) (level_sound t s z c k l).few_strands

  level_class : length t.uris ≤ 30 → (k : ℕ) → k < z.scope.depth → class_in z k < 256
  unfolding level_in
  level_class few k l = ⊎_elim (λ e. omega arith) (⊎_elim (λ e. omega arith) (λ e. omega arith)) (level_sound t s z c k l).class_in_lem

  awaited_deep : z.awaited ≡ true → 1 ≤ z.scope.depth
  unfolding opens_in
  awaited_deep a = ⊎_elim none_open (λ l. l) (le_or_lt z.scope.depth 0)
    where
      none_open : z.scope.depth ≤ 0 → 1 ≤ z.scope.depth
      none_open l =
          let e : z.scope.depth ≡ 0 = omega arith in
          absurd (awaited_open t s z c z.awaited c.awaited a (ap (λ (d : ℕ). opens_in z.scope.levels z.scope.bindings d z.scope.bound) e))

  bound_few : z.scope.bound ≤ 64
  bound_few = leb-true z.scope.bound 64 c.bound

uris_few : (table : List ℕ) → Accepted table ≡ true → length (decode table).uris ≤ 30
uris_few table a = omega (arith, all_listed table a, (header_in table a).few_namespaces)

-- its innermost level
module _ (table : List ℕ) (header : Header) (index s : List ℕ) (head : Head) (levels bindings spaces strands : List ℕ) (r : TurnReady table header index s (session_of head levels bindings spaces strands)) where
  abbrev z : Session
  z = session_of head levels bindings spaces strands

  clear : Clauses (decode table) s z
  clear = clauses (decode table) s z r.coherent'

  pub innermost : 1 ≤ head.depth → Innermost s head levels spaces
  innermost l =
      let held = name_held (decode table) s z clear (head.depth - 1) (omega arith) in
      record {
        short = r.short;
        some_open = l;
        shallow = leb-true head.depth 64 clear.depth;
        few_strands = level_few (decode table) s z clear (head.depth - 1) (omega arith);
        class = level_class (decode table) s z clear (uris_few table r.accepted) (head.depth - 1) (omega arith);
        name = held.1;
        whole = held.2;
      }

  pub awaited_innermost : head.awaited ≡ true → Innermost s head levels spaces
  awaited_innermost a = innermost (awaited_deep (decode table) s z clear a)

  -- what deciding asks
  pub decidable : head.depth < 64 → (head.depth < 64) × (head.units ≤ 65536) × (1 ≤ head.depth → get_or spaces (4 * (head.depth - 1) + 3) 0 ≤ 16)
  decidable l = (l, leb-true head.units 65536 clear.units, λ k. level_few (decode table) s z clear (head.depth - 1) (omega arith))

  pub few_bound : head.bound ≤ 64
  few_bound = bound_few (decode table) s z clear

-- ---- 21 and 22
module _ (t : Table) (s : List ℕ) (z₁ : Session) (e : Start) (own : List Binding) (place : ℕ) where
  pub deep_plan : 64 ≤ z₁.scope.depth → start_plan t s z₁ e own place ≡ refused 21 e.at
  unfolding start_plan
  deep_plan h = rw (le-leb 64 z₁.scope.depth h)

  pub bound_plan : z₁.scope.depth < 64 → 64 < z₁.scope.bound + length own → start_plan t s z₁ e own place ≡ refused 22 e.at
  unfolding start_plan
  bound_plan h k = rw (lt-leb 64 z₁.scope.depth h, lt-ltb 64 (z₁.scope.bound + length own) k)

-- ---- what is decided can be written

-- the strands of words are those of entries
words_entries : {B : Type 0} (f : ℕ → List B) (words schemas : List ℕ) (k n : ℕ)
    → gather (λ (w : ℕ). f (strand_in w).mode) (tabulate (λ (i : ℕ). get_or words i 0) k n) ≡ gather (λ (e : Entry). f e.strand.mode) (tabulate (entry_in words schemas) k n)
unfolding tabulate gather
words_entries f words schemas k zero = refl
words_entries f words schemas k (suc n) = ap (λ (l : List _). f (strand_in (get_or words k 0)).mode ++ l) (words_entries f words schemas (suc k) n)

-- numbering units changes no mode
allot_gather : {B : Type 0} (f : ℕ → List B) (u : ℕ) (es : List Entry) → gather (λ (e : Entry). f e.strand.mode) (allot u es) ≡ gather (λ (e : Entry). f e.strand.mode) es
unfolding gather
allot_gather f u [] = refl
allot_gather {B} f u (e ∷ es) = by e.strand.mode e.strand.action e.strand.target e.strand.here e.schema (λ v. allot_gather f v es)
  where
    g : Entry → List B
    g x = f x.strand.mode

    by : (m : ℕ) (c : Action) (t : Option ℕ) (b : Bool) (n : ℕ) → ((v : ℕ) → gather g (allot v es) ≡ gather g es)
        → gather g (allot u (record { strand = record { mode = m; action = c; target = t; here = b }; schema = n } ∷ es)) ≡ f m ++ gather g es
    by m c t false n ih = ap (λ (l : List B). f m ++ l) (ih u)
    by m c t true n ih = ap (λ (l : List B). f m ++ l) (ih (suc u))

module _ (table : List ℕ) (header : Header) (index s : List ℕ) (z : Session) (r : TurnReady table header index s z) (e : Start) (d : Decided) (words schemas attributes sections : List ℕ)
    (m : Made (decode table) s z (element_of (decode table) s e) d words schemas attributes sections) where
  abbrev t : Table
  t = decode table

  abbrev σ : Element
  σ = element_of t s e

  abbrev es : List Entry
  es = entered (dispatch t) (state_of t s z) σ

  modes_in : All (ModeIn t.modes) es
  modes_in = modes_allotted t.modes _ (entries_at (dispatch t) (state_of t s z).levels σ) (entry_modes_lem table r.accepted s (state_of t s z) σ (levels_sound t s z (clauses t s z r.coherent')))

  units_are : array_units index attributes sections words σ.at d ≡ units_of (dispatch t) σ (entries_at (dispatch t) (state_of t s z).levels σ)
  unfolding entries_in
  units_are =
      words_entries (strand_units index σ.at _ d.sections) words schemas 0 d.strands
      ∙ ap (tag_units index σ.at _ d.sections) m.entries_are
      ∙ ap₂ (λ (l : List Sorted) (n : ℕ). tag_units index σ.at l n es) m.attributes_are m.sections_are
      ∙ ap (λ (i : List ℕ). tag_units i σ.at (all_of σ) (length (groups_of σ)) es) (r.index_is ∙ ap (index_of table) r.header_is)
      ∙ tag_units_are table (header_of table) (header_in table r.accepted).few_rules (header_in table r.accepted).few_modes σ (element_classed table r.accepted s e) es modes_in
      ∙ allot_gather (λ (k : ℕ). (dispatch t).attribute_units k σ) _ (entries_at (dispatch t) (state_of t s z).levels σ)

  units_fit_lem : z.units + length (array_units index attributes sections words σ.at d) ≤ 65536
  unfolding after
  units_fit_lem = omega (arith, ap length units_are, m.units_are, m.few_units)

  pub made_openable : (at : ℕ) → e.at ≡ at → at < length s → Openable index attributes sections words schemas (narrowed at) z.units d
  unfolding element_of
  made_openable at q l =
      let small : at % 2 ^ 32 ≡ at = mod-eq_of_lt {n = at} {m = 4294967296} (omega (arith, r.short)) in
      record {
        few_strands = m.few_strands;
        few_attributes = m.few_attributes;
        few_sections = m.few_sections;
        none_foreign = m.none_foreign;
        schemas_small = m.schemas_small;
        few_units = subst (λ (i : ℕ). z.units + length (array_units index attributes sections words i d) ≤ 65536) (q ∙ sym small) units_fit_lem;
      }

-- ---- one event
module _ (t : Table) (s : List ℕ) (head : Head) (levels bindings spaces strands : List ℕ) (a : head.awaited ≡ false)
    (b r : BeginRead) (p : r ≡ begin_at s head.place (not (eqb head.depth 0)) head.closed) (q : r ≡ b) where
  abbrev z₃ : Session
  z₃ = session_of head levels bindings spaces strands

  pub begin_plan : plan_of t s z₃ ≡ plan_by t s z₃ (read_at s (reader_of z₃) b)
  unfolding plan_of
  begin_plan =
      ap (plan_by t s z₃)
      (next_begun s (reader_of z₃) a
      ∙ ap (λ (o : Bool). read_at s (reader_of z₃) (begin_at s head.place (not o) head.closed)) (opens_nil z₃.scope)
      ∙ ap (read_at s (reader_of z₃)) (sym p ∙ q))

begins : (s : List ℕ) (head : Head) (b r : BeginRead) → r ≡ begin_at s head.place (not (eqb head.depth 0)) head.closed → r ≡ b → BeginInside s head.place (not (eqb head.depth 0)) head.closed b
begins s head b r p q =
    subst (BeginInside s head.place (not (eqb head.depth 0)) head.closed) (sym p ∙ q) (begin_inside s head.place (not (eqb head.depth 0)) head.closed)

some_level : (d : ℕ) → not (eqb d 0) ≡ true → 1 ≤ d
some_level d e = omega (arith, eqb-false d 0 (not-true (eqb d 0) e))

module _ (s : List ℕ) (head : Head) (r : BeginRead) (p : r ≡ begin_at s head.place (not (eqb head.depth 0)) head.closed) (at : ℕ) where
  pub start_begins : r ≡ Ok (begin.Start at) → at + 1 ≤ length s
  start_begins q = let k = begins s head (Ok (begin.Start at)) r p q in omega (arith, k.1)

  pub end_begins : r ≡ Ok (begin.End at) → (1 ≤ head.depth) × (at + 2 ≤ length s)
  end_begins q = let k = begins s head (Ok (begin.End at)) r p q in (some_level head.depth k.4, omega (arith, k.1))

  pub text_begins : r ≡ Ok (begin.Text at) → (1 ≤ head.depth) × (at ≤ length s)
  text_begins q = let k = begins s head (Ok (begin.Text at)) r p q in (some_level head.depth k.3, omega (arith, k.1))
