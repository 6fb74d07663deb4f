-- A start that was decided, as the code's parts make it: 23 or 24; 25, or its records and what it opens.
--     start_plan_lem                           what is left where 21 and 22 are passed
--     begun_body_lem, begun_at                 what the starts along the strands have in common
--     laid_start, full_start, room_start   the level laid down; 25; the records with it
use Prim.Native.Nat.{ℕ, ◌*◌, ◌-◌, ◌/◌, ◌≤◌, ◌<◌}
use mathlib.Core.Path.{◌≡◌, refl, sym, ap, subst, ◌∙◌}
use mathlib.Core.List.{List, [], ◌∷◌, ◌++◌, map, map-map}
use native.Mathlib.Omega.{arith}
use native.Mathlib.Nat.{mod-eq_of_lt}
use lib.ListN.{length, take}
use Rattle.laws.specs.Over.{overwrite}
use Rattle.table.specs.Table.{Table, decode, header_of}
use Rattle.table.specs.Index.{index_of}
use Rattle.lexer.specs.declared.Tag.{Tag}
use Rattle.reader.specs.declared.Binding.{Binding}
use Rattle.reader.specs.Spans.{whole_span, part_span}
use Rattle.reader.specs.Stored.{narrowed}
use Rattle.reader.specs.Scope.{level_numbers}
use Rattle.reader.specs.Events.{Start, Open}
use Rattle.reader.specs.Held.{SpanHeld}
use Rattle.model.specs.Theory.{Record}
use Rattle.model.specs.Tree.{start}
use Rattle.model.specs.Elements.{Space, Element, element_of, space_of, uri_span}
use Rattle.model.specs.Records.{Body, start_body}
use Rattle.model.specs.Stream.{Entry, entered, written, after}
use Rattle.model.specs.Dispatch.{dispatch}
use Rattle.records.specs.Rows.{laid, laid_rows}
use Rattle.attributes.specs.declared.Placing.{Placing}
use Rattle.strands.specs.declared.Begun.{Begun}
use Rattle.strands.specs.Packed.{packed}
use Rattle.attributes.specs.Attributes.{placing_of, attributes_in, sections_in}
use Rattle.attributes.proofs.Sorted.{class_few, uri_within}
use Rattle.strands.specs.Writing.{row_of, begun_body}
use Rattle.sessions.specs.Sessions.{session_of, state_of}
use Rattle.sessions.specs.Stepping.{Plan, event, planned, Step, answered}
use Rattle.openings.specs.Openings.{begun_of}
use Rattle.sessions.specs.Turns.{TurnReady, Made, StartAs, start_of, stop_turn, step_by, opened_head, weighed}
use Rattle.sessions.specs.Session.{Session}
use Rattle.sessions.specs.declared.Head.{Head}
use Rattle.sessions.specs.declared.Started.{Started}
use Rattle.sessions.specs.declared.Turn.{Turn}
use Rattle.openings.specs.declared.Decided.{Decided}
use Rattle.sessions.proofs.CoherentSound.{coherent_levels}
use Rattle.sessions.proofs.EventTurns.{full_turn_lem, room_turn, stop_step}
use Rattle.openings.proofs.Openings.{unit_records, strand_records}
use Rattle.turns.proofs.StartWritten.{written_is}
use Rattle.turns.proofs.StartSession.{new_count, opened_session}
use Rattle.sessions.proofs.StartPlans.{next_of, plan_passed}

-- ---- what the starts along the strands have in common
as_held : (n : ℕ) → n ≤ 16777215 → narrowed n ≡ n
as_held n h = mod-eq_of_lt {n = n} {m = 4294967296} (omega arith)

module _ (t : Table) (s : List ℕ) (at : ℕ) (tag : Tag) (placing : Placing) (e : Start) (short : length s ≤ 16777215) (inside : at < length s) (at_is : e.at ≡ at) where
  begun_at : (begun_of at tag placing).tag ≡ (element_of t s e).at
  unfolding element_of
  begun_at = as_held at (omega arith) ∙ sym at_is

  begun_body_lem : e.part ≡ part_span tag.name → SpanHeld s (part_span tag.name) → placing ≡ placing_of (space_of t s e.namespace) → SpanHeld s (uri_span e.namespace)
      → begun_body (begun_of at tag placing) ≡ start_body (element_of t s e)
  unfolding element_of
  begun_body_lem p i q u =
      let held : SpanHeld s (space_of t s e.namespace).uri = uri_within t s e.namespace u in
      rw (p, q, as_held tag.name.part (omega arith), as_held (tag.name.end - tag.name.part) (omega arith), as_held (space_of t s e.namespace).uri.at (omega arith), as_held (space_of t s e.namespace).uri.len (omega arith))

element_space : (t : Table) (s : List ℕ) (e : Start) → (element_of t s e).space ≡ space_of t s e.namespace
unfolding element_of
element_space t s e = refl

-- ---- a start that is planned
abbrev open_of : Tag → List Binding → Open
open_of tag ds = record { name = whole_span tag.name; declarations = ds }

module _ (table index s own words schemas attributes : List ℕ) (o : Started) (placing : Placing) (decided : Decided) (head : Head) (levels bindings spaces strands : List ℕ) (p : Plan) where
  abbrev z : Session
  z = session_of head levels bindings spaces strands

  module _ (ready : TurnReady table (header_of table) index s z) (as-planned : StartAs table index s z own words schemas attributes o placing decided p) where
    abbrev e : Start
    e = start_of s bindings own as-planned.attrs as-planned.codes o.at o.tag o.found

    abbrev element : Element
    element = element_of (decode table) s e

    abbrev next : Session
    next = next_of (decode table) s z e (open_of o.tag as-planned.ds) o.tag.next

    abbrev es : List Entry
    es = entered (dispatch (decode table)) (state_of (decode table) s z) element

    abbrev rs : List (Record Body ℕ)
    rs = written (dispatch (decode table)) (state_of (decode table) s z) (start element)

    made : Made (decode table) s z element decided words schemas (attributes_in attributes) (sections_in attributes)
    made = as-planned.as_decided.1

    event_planned : p ≡ event o.at rs next
    event_planned =
        as-planned.plan_is
        ∙ plan_passed (decode table) s z e (open_of o.tag as-planned.ds) o.tag.next as-planned.shallow
        (omega (arith, as-planned.few_bound, as-planned.told.owned_is)) 0 (sym as-planned.as_decided.0) refl

    session_is : (levels' bindings' spaces' strands' : List ℕ)
        → levels' ≡ overwrite levels (3 * head.depth) (level_numbers (whole_span o.tag.name) o.owned)
        → bindings' ≡ overwrite bindings (4 * head.bound) (take (4 * o.owned) own)
        → spaces' ≡ overwrite spaces (4 * head.depth) (placing.class ∷ narrowed placing.at ∷ narrowed placing.len ∷ decided.strands ∷ [])
        → strands' ≡ overwrite strands (16 * head.depth) (take decided.strands words)
        → session_of (opened_head head o.tag.next o.tag.empty decided.units o.owned) levels' bindings' spaces' strands' ≡ next
    session_is levels' bindings' spaces' strands' l b c q =
        let space_is : element.space ≡ space_of (decode table) s e.namespace = element_space (decode table) s e in
        opened_session head levels bindings spaces strands o.tag.next o.tag.empty (whole_span o.tag.name) as-planned.ds element.space (map (λ (x : Entry). x.strand) es)
        levels' bindings' spaces' strands' own words decided.units (after (dispatch (decode table)) (state_of (decode table) s z) (start element)).units o.owned decided.strands placing
        l b c q made.units_are as-planned.told.owned_is as-planned.told.own_laid (as-planned.placing_is ∙ ap placing_of (sym space_is))
        (omega (arith, subst (λ (w : Space). w.class < 256) (sym space_is) (class_few table ready.accepted s e.namespace)))
        (new_count words schemas decided.strands es made.entries_are)
        (made.strands_are ∙ sym (map-map packed (λ (x : Entry). x.strand) es))

    pub laid_start : (head' : Head) (levels' bindings' spaces' strands' : List ℕ)
        → head' ≡ opened_head head o.tag.next o.tag.empty decided.units o.owned
        → levels' ≡ overwrite levels (3 * head.depth) (level_numbers (whole_span o.tag.name) o.owned)
        → bindings' ≡ overwrite bindings (4 * head.bound) (take (4 * o.owned) own)
        → spaces' ≡ overwrite spaces (4 * head.depth) (placing.class ∷ narrowed placing.at ∷ narrowed placing.len ∷ decided.strands ∷ [])
        → strands' ≡ overwrite strands (16 * head.depth) (take decided.strands words)
        → step_by (record { number = 0; place = o.tag.next; records = decided.records; head = head' }) levels' bindings' spaces' strands' [] ≡ weighed p z
    laid_start head' levels' bindings' spaces' strands' h l b c q =
        ap (λ (x : Session). record { answer = answered 0 o.tag.next 1 decided.records; session = x; output = [] })
        (ap (λ (x : Head). session_of x levels' bindings' spaces' strands') h ∙ session_is levels' bindings' spaces' strands' l b c q)
        ∙ ap (λ (n : ℕ). record { answer = answered 0 o.tag.next 1 n; session = next; output = [] }) made.records_are
        ∙ sym (ap (λ (x : Plan). weighed x z) event_planned)

    module _ (out : List ℕ) where
      pub full_start : length out / 16 < decided.records → step_by (stop_turn 25 o.at head) levels bindings spaces strands out ≡ planned p z out
      full_start l =
          stop_step 25 o.at head levels bindings spaces strands out (λ q. omega arith)
          ∙ full_turn_lem o.at decided.records rs next z out made.records_are (omega arith)
          ∙ sym (ap (λ (x : Plan). planned x z out) event_planned)

      module _ (b : Begun) (b-is : b ≡ begun_of o.at o.tag placing) where
        abbrev rows : List (Record Body ℕ)
        rows = unit_records index (attributes_in attributes) (sections_in attributes) words b.tag head.units decided ++ strand_records index (attributes_in attributes) (sections_in attributes) words schemas b decided

        records_are : rows ≡ rs
        records_are =
            let told = as-planned.told in
            written_is table s z e ready.accepted (coherent_levels (decode table) s z ready.coherent') index (attributes_in attributes) (sections_in attributes) words schemas b decided made
            (ready.index_is ∙ ap (index_of table) ready.header_is)
            (ap (λ (x : Begun). x.tag) b-is ∙ begun_at (decode table) s o.at o.tag placing e ready.short told.at_inside refl)
            (ap begun_body b-is ∙ begun_body_lem (decode table) s o.at o.tag placing e ready.short told.at_inside refl refl told.part_inside as-planned.placing_is told.uri_inside)

        pub room_start : (r : Turn) (levels' bindings' spaces' strands' out' : List ℕ) (used : ℕ) → decided.records ≤ length out / 16
            → laid out' used ≡ laid_rows (laid out 0) (map row_of rows)
            → step_by r levels' bindings' spaces' strands' [] ≡ weighed p z
            → step_by r levels' bindings' spaces' strands' out' ≡ planned p z out
        room_start r levels' bindings' spaces' strands' out' used h l w =
            ap (λ (x : Step). record { answer = x.answer; session = x.session; output = out' }) (w ∙ ap (λ (x : Plan). weighed x z) event_planned)
            ∙ room_turn o.at (length rs) rs next z out refl used out' (omega (arith, made.records_are)) (l ∙ ap (λ (xs : List (Record Body ℕ)). laid_rows (laid out 0) (map row_of xs)) records_are)
            ∙ sym (ap (λ (x : Plan). planned x z out) event_planned)
