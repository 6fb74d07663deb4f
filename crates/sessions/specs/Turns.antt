-- One event of a session that number 20 accepts, as the code takes it: the session's numbers by value, its arrays lent. Definitions.
use Rattle.std.specs.Prelude.{ℕ, ◌+◌, ◌*◌, ◌-◌, ◌/◌, ◌%◌, ◌^◌, ◌≤◌, ◌<◌, ◌≡◌, List, [], map, Bool, true, false, Result, Ok, Err, Option, Some, None, cond, ◌&&◌, length, get_or, take, eqb, ltb}
use Rattle.laws.specs.Lists.{same_list, all, keep}
use Rattle.laws.specs.Gather.{gather}
use Rattle.laws.specs.Members.{All}
use Rattle.laws.specs.Reading.{peek}
use Rattle.table.specs.Table.{Table, decode, header_of}
use Rattle.table.specs.Index.{index_of}
use Rattle.table.specs.Judge.{Accepted}
use Rattle.table.specs.declared.Header.{Header}
use Rattle.reader.specs.declared.Span.{Span}
use Rattle.lexer.specs.declared.Tag.{Tag}
use Rattle.lexer.specs.Attrs.{attrs_in}
use Rattle.lexer.specs.Tags.{tag_at}
use Rattle.lexer.specs.Reads.{Tagged}
use Rattle.lexer.specs.Stops.{number_of, stop_place}
use Rattle.lexer.specs.declared.Stop.{Stop}
use Rattle.lexer.specs.Whole.{is_whole_name}
use Rattle.reader.specs.declared.Binding.{Binding}
use Rattle.reader.specs.declared.Found.{Found}
use Rattle.reader.specs.Spans.{span, between, bytes_of, whole_span, part_span}
use Rattle.reader.specs.Namespaces.{ReadAttribute, attribute, declarations_of}
use Rattle.reader.specs.Events.{Start, start_read}
use Rattle.reader.specs.Stored.{narrowed, binding_numbers, Coded, coded, found_in, stored_space}
use Rattle.reader.specs.Known.{KeysAt, Within, plain_attr}
use Rattle.reader.specs.Scope.{name_in, opens_of}
use Rattle.reader.specs.Held.{SpanHeld}
use Rattle.model.specs.Theory.{Record}
use Rattle.model.specs.Tree.{start, text, end}
use Rattle.model.specs.Records.{Body}
use Rattle.model.specs.Stream.{Entry, entries_at, entered, written, after}
use Rattle.model.specs.Elements.{Element, element_of, space_of, uri_span}
use Rattle.model.specs.Groups.{groups_of}
use Rattle.model.specs.Dispatch.{dispatch}
use Rattle.records.specs.declared.Row.{Row}
use Rattle.attributes.specs.Known.{ClassesAt}
use Rattle.strands.specs.Packed.{packed, words_at}
use Rattle.strands.specs.Writing.{event_records}
use Rattle.strands.specs.Levels.{level_names, level_spaces, level_strands}
use Rattle.strands.specs.Entries.{entries_in}
use Rattle.attributes.specs.Attributes.{placing_of, namespace_of, delivered, all_sorted, sorted_of, attributes_in, sections_in}
use Rattle.attributes.specs.declared.Placing.{Placing}
use Rattle.openings.specs.Openings.{Openable}
use Rattle.sessions.specs.Sessions.{session_of, session_at, state_of, with_place, with_end}
use Rattle.sessions.specs.Coherence.{coherent}
use Rattle.table.specs.declared.Answer.{Answer}
use Rattle.sessions.specs.Stepping.{Plan, refused, finished, event, start_plan, plan_by, Step, answered, refused_step}
use Rattle.sessions.specs.Session.{Session}
use Rattle.sessions.specs.declared.Head.{Head}
use Rattle.sessions.specs.declared.Started.{Started}
use Rattle.sessions.specs.declared.Refusal.{Refusal}
use Rattle.sessions.specs.declared.Turn.{Turn}
use Rattle.sessions.specs.declared.Planned.{Planned}
use Rattle.sessions.specs.declared.Planned.TheVariants as planned
use Rattle.sessions.specs.declared.Advanced.{Advanced}
use Rattle.openings.specs.declared.Decided.{Decided}

-- the refusal where reading stopped
abbrev pub refusal_of : List ℕ → Stop → Refusal
refusal_of s x = record { number = number_of x; place = stop_place s x }

-- a refusal: the numbers stay
abbrev pub stop_turn : ℕ → ℕ → Head → Turn
stop_turn number place head = record { number = number; place = place; records = 0; head = head }

-- one event where a turn's number is 0
abbrev pub turn_answer : Turn → Answer
turn_answer r = answered r.number r.place (cond (eqb r.number 0) 1 0) r.records

-- a turn and the arrays behind it, as what a step hands back
abbrev pub step_by : Turn → List ℕ → List ℕ → List ℕ → List ℕ → List ℕ → Step
step_by r levels bindings spaces strands out =
    record {
      answer = turn_answer r;
      session = session_of r.head levels bindings spaces strands;
      output = out;
    }

-- the same, the levels in one array
abbrev pub step_in : Turn → List ℕ → List ℕ → List ℕ → Step
step_in r levels bindings out = step_by r (level_names levels) bindings (level_spaces levels) (level_strands levels) out

-- some steps and the arrays behind them, as what an advance hands back
abbrev pub advanced_answer : Advanced → Answer
advanced_answer r = answered r.number r.place r.events r.records

abbrev pub advanced_in : Advanced → List ℕ → List ℕ → List ℕ → Step
advanced_in r levels bindings out =
    record { answer = advanced_answer r; session = session_at r.head levels bindings; output = out }

-- what a text and an end need of the innermost level
pub record Innermost (s : List ℕ) (head : Head) (levels spaces : List ℕ) : Type 0 where
  pub short : length s ≤ 16777215
  pub some_open : 1 ≤ head.depth
  pub shallow : head.depth ≤ 64
  pub few_strands : get_or spaces (4 * (head.depth - 1) + 3) 0 ≤ 16
  pub class : get_or spaces (4 * (head.depth - 1)) 0 < 256
  pub name : SpanHeld s (name_in levels (head.depth - 1))
  pub whole : is_whole_name (bytes_of s (name_in levels (head.depth - 1))) ≡ true

-- the innermost level is open, and its strands are few
abbrev pub InnerLevel : Head → List ℕ → Type 0
InnerLevel head levels = (1 ≤ head.depth) × (head.depth ≤ 64) × (get_or (level_spaces levels) (4 * (head.depth - 1) + 3) 0 ≤ 16)

-- the records of an event of the innermost level
abbrev pub inner_records : Body → Bool → Head → List ℕ → List (Record Body ℕ)
inner_records b closes head levels =
    gather (event_records b closes) (words_at (level_strands levels) (head.depth - 1) (get_or (level_spaces levels) (4 * (head.depth - 1) + 3) 0))

-- an event whose records take so many bytes of the output; 25 where there is no room for them
abbrev pub used_step : ℕ → Session → Session → List ℕ → Option ℕ → Step
used_step at next z out None = refused_step 25 at z out
used_step at next z out (Some used) = record { answer = answered 0 next.place 1 (used / 16); session = next; output = out }

-- the bytes of a name and a > stand at a place
abbrev pub closes_at : List ℕ → ℕ → Span → Bool
closes_at s at name = peek false s (at + name.len) (λ (b : ℕ). eqb b 0x3E && same_list (bytes_of s (span at name.len)) (bytes_of s name))

-- the record of an end of a level, its unit left out
abbrev pub end_row : Span → List ℕ → ℕ → Row
end_row part spaces level =
    record {
      unit = 0;
      kind = 5;
      class = get_or spaces (4 * level) 0 % 2 ^ 8;
      at = narrowed part.at;
      len = narrowed part.len;
      uri_at = get_or spaces (4 * level + 1) 0;
      uri_len = get_or spaces (4 * level + 2) 0;
    }

-- the numbers behind a text
abbrev pub text_head : Head → ℕ → Head
text_head head place =
    record { place = place; units = head.units; closed = head.closed; awaited = head.awaited; depth = head.depth; bound = head.bound }

-- the numbers behind the end of the innermost level
abbrev pub closed_head : Head → ℕ → List ℕ → Head
closed_head head place levels =
    record {
      place = place;
      units = head.units;
      closed = eqb (head.depth - 1) 0;
      awaited = false;
      depth = head.depth - 1;
      bound = head.bound - get_or levels (3 * (head.depth - 1) + 2) 0;
    }

-- a table that judge accepts with its header and index, a scene that is not too long, a session that number 20 accepts
pub record TurnReady (table : List ℕ) (header : Header) (index s : List ℕ) (z : Session) : Type 0 where
  pub accepted : Accepted table ≡ true
  pub header_is : header ≡ header_of table
  pub index_is : index ≡ index_of table header
  pub short : length s ≤ 16777215
  pub coherent' : coherent (decode table) s z ≡ true

-- what the loop holds beside a session, derived from it at the start of step, advance and run: of each open binding its prefix's key and its class
pub record Beside (table s known : List ℕ) (z : Session) : Type 0 where
  pub known_long : length known ≡ 160
  pub bindings_long : length z.scope.bindings ≡ 256
  pub keys : KeysAt s z.scope.bindings z.scope.bound 0 known
  pub classes : ClassesAt (decode table) s z.scope.bindings z.scope.bound 0 known

-- all that a step of the loop is handed
pub record LoopReady (table index s known : List ℕ) (z : Session) : Type 0 where
  pub ready : TurnReady table (header_of table) index s z
  pub beside : Beside table s known z

-- ---- a start
-- the start that a tag makes, with its own declarations, the open ones and the codes of its attributes as the arrays have them
abbrev pub start_of : List ℕ → List ℕ → List ℕ → List ℕ → List ℕ → ℕ → Tag → Found → Start
start_of s outer own attrs codes at tag found =
    record {
      at = at;
      name = whole_span tag.name;
      part = part_span tag.name;
      namespace = stored_space own outer found;
      attributes =
          map (λ (c : Coded). attribute c.attr (namespace_of own outer c.code))
          (keep (delivered s) (coded (attrs_in attrs tag.count) codes));
      empty = tag.empty;
    }

-- its declarations as the array has them, and its spans inside the scene
pub record Told (s outer own attrs codes : List ℕ) (at : ℕ) (tag : Tag) (found : Found) (owned : ℕ) (ds : List Binding) : Type 0 where
  pub owned_is : owned ≡ length ds
  pub few_own : length ds ≤ 16
  pub own_laid : take (4 * length ds) own ≡ gather binding_numbers ds
  pub at_inside : at < length s
  pub name_inside : SpanHeld s (whole_span tag.name)
  pub part_inside : SpanHeld s (part_span tag.name)
  pub uri_inside : SpanHeld s (uri_span (stored_space own outer found))
  pub attributes_inside : All (λ (a : ReadAttribute). SpanHeld s a.part × SpanHeld s a.value × SpanHeld s (uri_span a.namespace)) (start_of s outer own attrs codes at tag found).attributes
  pub few_codes : All (λ (c : Coded). c.code < 82) (coded (attrs_in attrs tag.count) codes)

-- what is told of a start tag that was read, whose bindings stand behind the open ones; `known` has the keys of both
pub record Met (s outer own attrs codes known : List ℕ) (bound : ℕ) (o : Started) : Type 0 where
  pub told : Told s outer own attrs codes o.at o.tag o.found o.owned (declarations_of s (attrs_in attrs o.tag.count))
  pub own_keys : KeysAt s own o.owned bound known
  pub found_within : Within o.owned bound o.found
  pub codes_within : All (λ (c : Coded). Within o.owned bound (found_in c.code)) (coded (attrs_in attrs o.tag.count) codes)
  pub plain_names : o.plain ≡ true → all (plain_attr s) (attrs_in attrs o.tag.count) ≡ true
  pub plain_codes : o.plain ≡ true → All (λ (c : Coded). c.code ≡ 0) (coded (attrs_in attrs o.tag.count) codes)

-- what a start tag that was read does next
abbrev pub read_plan : Table → List ℕ → Session → List ℕ → List ℕ → List ℕ → Result Started Refusal → Plan
read_plan t s z own attrs codes (Ok o) =
    start_plan t s z (start_of s z.scope.bindings own attrs codes o.at o.tag o.found) (declarations_of s (attrs_in attrs o.tag.count)) o.tag.next
read_plan t s z own attrs codes (Err x) = refused x.number x.place

abbrev pub ReadMet : List ℕ → Session → List ℕ → List ℕ → List ℕ → List ℕ → Result Started Refusal → Type 0
ReadMet s z own attrs codes known (Ok o) = Met s z.scope.bindings own attrs codes known z.scope.bound o
ReadMet s z own attrs codes known (Err x) = x.number ≡ 0 → ⊥

-- what reading the tag whose < stands at a place answers and leaves in its arrays
pub record ReadAs (table s : List ℕ) (z : Session) (at : ℕ) (x : Tagged) (own attrs codes known : List ℕ) (r : Result Started Refusal) : Type 0 where
  pub plan_is : plan_by (decode table) s z (start_read s at (opens_of z.scope) (tag_at s (at + 1)) x) ≡ read_plan (decode table) s z own attrs codes r
  pub beside : Beside table s known z
  pub met : ReadMet s z own attrs codes known r

-- what is decided of a start that passes 23 and 24
pub record Made (t : Table) (s : List ℕ) (z : Session) (σ : Element) (r : Decided) (words schemas attributes sections : List ℕ) : Type 0 where
  pub few_strands : r.strands ≤ 16
  pub strands_are : take r.strands words ≡ map (λ (e : Entry). packed e.strand) (entered (dispatch t) (state_of t s z) σ)
  pub entries_are : entries_in words schemas r.strands ≡ entered (dispatch t) (state_of t s z) σ
  pub schemas_small : (k : ℕ) → k < r.strands → get_or schemas k 0 < 256
  pub few_attributes : r.attributes ≤ 16
  pub attributes_are : all_sorted attributes sections r.attributes ≡ map (sorted_of σ) σ.attributes
  pub few_sections : r.sections ≤ 16
  pub none_foreign : r.sections ≡ 0 → (k : ℕ) → k < r.attributes → get_or sections k 0 ≡ 0
  pub sections_are : r.sections ≡ length (groups_of σ)
  pub units_are : r.units ≡ (after (dispatch t) (state_of t s z) (start σ)).units
  pub few_units : r.units ≤ 65536
  pub records_are : r.records ≡ length (written (dispatch t) (state_of t s z) (start σ))

-- "23 a 17th strand; 24 a unit past 65,535"
abbrev pub decided_number : (t : Table) → List ℕ → Session → Element → ℕ
decided_number t s z σ =
    cond (ltb 16 (length (entries_at (dispatch t) (state_of t s z).levels σ))) 23
    (cond (ltb 65536 (after (dispatch t) (state_of t s z) (start σ)).units) 24 0)

-- what passes 23 and 24, or which of them refuses it
abbrev pub DecidedAs : (t : Table) → List ℕ → Session → Element → Result Decided Refusal → List ℕ → List ℕ → List ℕ → List ℕ → Type 0
DecidedAs t s z σ (Ok r) words schemas attributes sections = (decided_number t s z σ ≡ 0) × Made t s z σ r words schemas attributes sections
DecidedAs t s z σ (Err x) words schemas attributes sections = (x ≡ record { number = decided_number t s z σ; place = σ.at }) × (x.number ≡ 0 → ⊥)

-- what 21 and 22 leave
pub record Roomy (head : Head) (owned : ℕ) : Type 0 where
  pub shallow : head.depth < 64
  pub few_own : owned ≤ 16
  pub few_bound : head.bound + owned ≤ 64

-- the numbers behind a start
abbrev pub opened_head : Head → ℕ → Bool → ℕ → ℕ → Head
opened_head head place empty units owned =
    record { place = place; units = units; closed = false; awaited = empty; depth = head.depth + 1; bound = head.bound + owned }

-- ---- what comes next
-- what a start is planned as, and what the arrays hold of it
pub record StartAs (table index s : List ℕ) (z : Session) (own words schemas attributes : List ℕ) (o : Started) (placing : Placing) (decided : Decided) (p : Plan) : Type 0 where
  pub attrs : List ℕ
  pub codes : List ℕ
  pub ds : List Binding
  pub plan_is : p ≡ start_plan (decode table) s z (start_of s z.scope.bindings own attrs codes o.at o.tag o.found) ds o.tag.next
  pub told : Told s z.scope.bindings own attrs codes o.at o.tag o.found o.owned ds
  pub placing_is : placing ≡ placing_of (space_of (decode table) s (stored_space own z.scope.bindings o.found))
  pub as_decided : DecidedAs (decode table) s z (element_of (decode table) s (start_of s z.scope.bindings own attrs codes o.at o.tag o.found)) (Ok decided) words schemas (attributes_in attributes) (sections_in attributes)
  pub shallow : z.scope.depth < 64
  pub few_bound : z.scope.bound + o.owned ≤ 64
  pub openable : Openable index (attributes_in attributes) (sections_in attributes) words schemas (narrowed o.at) z.units decided

-- what comes next, by what the first half of a step hands to the second
abbrev pub PlannedAs : List ℕ → List ℕ → List ℕ → Session → List ℕ → List ℕ → List ℕ → List ℕ → Result Planned Refusal → Plan → Type 0
PlannedAs table index s z own words schemas attributes (Ok (planned.Start o placing decided)) p = StartAs table index s z own words schemas attributes o placing decided p
PlannedAs table index s z own words schemas attributes (Ok (planned.Text at place)) p =
    (p ≡ event at (written (dispatch (decode table)) (state_of (decode table) s z) (text (between at place))) (with_place z place))
    × (1 ≤ z.scope.depth) × (at < 4294967296) × (place < 4294967296)
PlannedAs table index s z own words schemas attributes (Ok (planned.End part at place)) p =
    (p ≡ event at (written (dispatch (decode table)) (state_of (decode table) s z) (end part)) (with_end z place (eqb z.scope.depth 1)))
    × (1 ≤ z.scope.depth) × (part.at < 4294967296) × (part.len < 4294967296)
PlannedAs table index s z own words schemas attributes (Ok (planned.Awaited part at)) p =
    (p ≡ event at (written (dispatch (decode table)) (state_of (decode table) s z) (end part)) (with_end z z.place (eqb z.scope.depth 1)))
    × (1 ≤ z.scope.depth) × (part.at < 4294967296) × (part.len < 4294967296)
PlannedAs table index s z own words schemas attributes (Ok planned.Finished) p = p ≡ finished (length s)
PlannedAs table index s z own words schemas attributes (Err x) p = (p ≡ refused x.number x.place) × (x.number ≡ 0 → ⊥)

-- the session behind a plan
abbrev pub session_by : Plan → Session → Session
session_by (refused n p) z = z
session_by (finished p) z = z
session_by (event at records next) z = next

-- what a plan comes to without an output: its records counted, the session behind it
abbrev pub weighed_event : List (Record Body ℕ) → Session → Step
weighed_event records next = record { answer = answered 0 next.place 1 (length records); session = next; output = [] }

abbrev pub weighed : Plan → Session → Step
weighed (refused n p) z = refused_step n p z []
weighed (finished p) z = refused_step 9 p z []
weighed (event at records next) z = weighed_event records next
