-- A text, an end and a refusal, as the code's parts plan and make them: what comes next, the records of the innermost level, 25 or the output with them,
-- the session behind.
--     inner_level, written_text, written_end     what the innermost level writes
--     full_turn_lem, room_turn, not_full             25, and the records laid; room for two of each strand
--     stop_step, closed_session                  a refusal; the numbers behind an end
--     opens_inner, awaited_plan, ..              what the reader's rules plan
--     text_inside, .., span_small                places inside the scene
--     closes_past, .., tag_here_lem                  the open name and a > where an end tag's name begins
--     stopped_planned, .., alike_named           what is planned, by what the code's parts gave
use Prim.Native.Nat.{ℕ, zero, suc, ◌+◌, ◌*◌, ◌-◌, ◌/◌, ◌≤◌, ◌<◌}
use mathlib.Core.Path.{◌≡◌, refl, sym, ap, ap₂, subst, ◌∙◌}
use mathlib.Core.Logic.{⊎_elim}
use mathlib.Core.List.{List, ◌∷◌, map}
use mathlib.Core.Bool.{Bool, true, false, cond, not, ◌&&◌}
use native.Mathlib.Omega.{arith}
use native.Mathlib.Nat.{add-sub_cancel_left, mod-eq_of_lt}
use borrow.Author.Tests.{eq-eqb, ne_eqb, lt-ltb, le-ltb, eqb-true, ltb-true, ltb-false}
use lib.ListN.{length, take, drop, get_or}
use lib.Dec.{eqb, ltb}
use Rattle.std.specs.Prelude.{Result, Err, Ok}
use Rattle.laws.specs.Lists.{tabulate, same_list}
use Rattle.laws.specs.Tests.{untold, untold'}
use Rattle.laws.specs.Reading.{le_or_lt}
use Rattle.laws.specs.Over.{overwrite}
use Rattle.laws.specs.Gather.{gather, total}
use Rattle.laws.proofs.Lists.{length_tabulate}
use Rattle.laws.proofs.Flags.{and_left, and_right}
use Rattle.compare.proofs.Equal.{same_eq}
use Rattle.compare.proofs.Span.{within}
use Rattle.table.specs.Table.{Table, decode}
use Rattle.lexer.specs.Stops.{number_of, stop_place}
use Rattle.lexer.specs.Values.{text_end}
use Rattle.lexer.specs.Tags.{end_tag_at}
use Rattle.lexer.specs.Whole.{is_whole_name}
use Rattle.lexer.specs.declared.Stop.{Stop}
use Rattle.lexer.specs.declared.Stop.TheVariants.{Bad, Long, Cut}
use Rattle.lexer.specs.Reads.{Read, Ended}
use Rattle.lexer.specs.declared.EndTag.{EndTag}
use Rattle.lexer.proofs.ValueLaws.{ValueTo, value_inside}
use Rattle.lexer.proofs.Inside.{ReadInside, within_read, EndedInside, end_tag_inside}
use Rattle.lexer.proofs.WholeNames.{name_here, end_tag_here}
use Rattle.reader.specs.declared.Span.{Span}
use Rattle.reader.specs.declared.Scope.{Scope}
use Rattle.reader.specs.Spans.{span, between, bytes_of, whole_span, part_span}
use Rattle.reader.specs.Stored.{binding_in}
use Rattle.reader.specs.Scope.{count_in, closed_of, name_in, opens_in, opens_of}
use Rattle.reader.specs.Held.{SpanHeld}
use Rattle.reader.specs.Events.{Open, is_nil, part_of, colon_end, text_read, end_read, next_by, next}
use Rattle.reader.proofs.Colons.{part_fits}
use Rattle.reader.proofs.ReadNames.{part_again}
use Rattle.model.specs.Theory.{Record}
use Rattle.model.specs.Tree.{text, end}
use Rattle.model.specs.Stream.{Level, written}
use Rattle.model.specs.Records.{Body, spaced, text_body}
use Rattle.model.specs.Dispatch as model
use Rattle.model.specs.Dispatch.{dispatch}
use Rattle.records.specs.Rows.{laid, laid_rows, body_of}
use Rattle.records.specs.declared.Row.{Row}
use Rattle.records.proofs.Laid.{rows_end}
use Rattle.strands.specs.Packed.{words_at}
use Rattle.strands.specs.Writing.{row_of, event_records, event_count}
use Rattle.strands.proofs.Delivered.{events_length, events_most, texts_records, ends_records, rows_bytes, rows_length}
use Rattle.sessions.specs.Sessions.{class_in, uri_in, strand_count, strands_in, level_in, levels_in, session_of, reader_of, state_of, with_end}
use Rattle.sessions.specs.Stepping.{Plan, event, refused, plan_by, plan_of, Step, answered, refused_step, event_step}
use Rattle.sessions.specs.Turns.{refusal_of, closes_at, stop_turn, step_by, closed_head, end_row, PlannedAs}
use Rattle.sessions.specs.Session.{Session}
use Rattle.sessions.specs.declared.Head.{Head}
use Rattle.sessions.specs.declared.Planned.{Planned}
use Rattle.sessions.specs.declared.Refusal.{Refusal}

-- ---- what the innermost level writes
module _ (t : Table) (s : List ℕ) (z : Session) (h : 1 ≤ z.scope.depth) where
  pub inner_level : (state_of t s z).levels ≡ level_in t s z (z.scope.depth - 1) ∷ levels_in t s z (z.scope.depth - 1)
  unfolding levels_in
  inner_level = let e : z.scope.depth ≡ suc (z.scope.depth - 1) = omega arith in ap (levels_in t s z) e

  -- the words of its strands
  abbrev words : List ℕ
  words = words_at z.strands (z.scope.depth - 1) (strand_count z (z.scope.depth - 1))

  pub written_text : (w : Span) → written (dispatch t) (state_of t s z) (text w) ≡ gather (event_records (text_body w) false) (words_at z.strands (z.scope.depth - 1) (strand_count z (z.scope.depth - 1)))
  unfolding written level_in strands_in
  written_text w =
      ap (λ (ls : List (Level (dispatch t))). written (dispatch t) (record { levels = ls; units = z.units }) (text w)) inner_level ∙ sym (texts_records t w words)

  pub written_end : (part : Span) → written (dispatch t) (state_of t s z) (end part)
      ≡ gather (event_records (spaced 5 part (class_in z (z.scope.depth - 1)) (uri_in z (z.scope.depth - 1))) true) (words_at z.strands (z.scope.depth - 1) (strand_count z (z.scope.depth - 1)))
  unfolding written level_in strands_in
  written_end part =
      ap (λ (ls : List (Level (dispatch t))). written (dispatch t) (record { levels = ls; units = z.units }) (end part)) inner_level
      ∙ sym (ends_records t (level_in t s z (z.scope.depth - 1)).at part words)

-- ---- 25, or the records
module _ (at n : ℕ) (rs : List (Record Body ℕ)) (next' z : Session) (out : List ℕ) (e : n ≡ length rs) where
  pub full_turn_lem : length out < 16 * n → refused_step 25 at z out ≡ event_step at rs next' z out
  full_turn_lem h = rw (lt-ltb (length out) (16 * length rs) (omega arith))

  pub room_turn : (used : ℕ) (out' : List ℕ) → 16 * n ≤ length out → laid out' used ≡ laid_rows (laid out 0) (map row_of rs)
      → ◌≡◌ {A = Step} (record { answer = answered 0 next'.place 1 n; session = next'; output = out' }) (event_step at rs next' z out)
  room_turn used out' h l =
      let m : 0 + 16 * length (map row_of rs) ≤ length out = omega (arith, rows_length rs) in
      let o : out' ≡ overwrite out 0 (gather model.record_bytes_of rs) = (rows_end (map row_of rs) out 0 out' used m l).1 ∙ ap (overwrite out 0) (rows_bytes rs) in
      rw (le-ltb (length out) (16 * length rs) (omega arith), e, o)

-- two records for each strand fit
pub not_full : (len : ℕ) (strands : List ℕ) (level n : ℕ) (closes : Bool) → 32 * n ≤ len → false ≡ ltb (len / 16) (total (event_count closes) (words_at strands level n))
not_full len strands level n closes h =
    let m = events_most closes (words_at strands level n) in
    sym (le-ltb (len / 16) (total (event_count closes) (words_at strands level n)) (omega (arith, m, length_tabulate (λ (i : ℕ). get_or strands i 0) (16 * level) n)))

-- an event of the innermost level by the test for room and what was laid
module _ (b : Body) (closes : Bool) (strands : List ℕ) (level n count : ℕ) (rs : List (Record Body ℕ)) (w : rs ≡ gather (event_records b closes) (words_at strands level count)) (e : n ≡ count)
    (at : ℕ) (next' z : Session) (out : List ℕ) (full : Bool) (f : full ≡ ltb (length out / 16) (total (event_count closes) (words_at strands level n))) where
  all_counted : total (event_count closes) (words_at strands level n) ≡ length rs
  all_counted =
      sym (events_length b closes (words_at strands level n)) ∙ ap (λ (k : ℕ). length (gather (event_records b closes) (words_at strands level k))) e ∙ sym (ap length w)

  full_is : full ≡ ltb (length out / 16) (length rs)
  full_is = f ∙ ap (ltb (length out / 16)) all_counted

  pub event_full : full ≡ true → refused_step 25 at z out ≡ event_step at rs next' z out
  event_full h = full_turn_lem at (length rs) rs next' z out refl (omega (arith, ltb-true (length out / 16) (length rs) (sym full_is ∙ h)))

  pub event_room : (row : Row) (used : ℕ) (out' : List ℕ) → full ≡ false → body_of row ≡ b
      → laid out' used ≡ laid_rows (laid out 0) (map row_of (gather (event_records (body_of row) closes) (words_at strands level n)))
      → ◌≡◌ {A = Step} (record { answer = answered 0 next'.place 1 (used / 16); session = next'; output = out' }) (event_step at rs next' z out)
  event_room row used out' h r l =
      let m : 16 * length rs ≤ length out = omega (arith, ltb-false (length out / 16) (length rs) (sym full_is ∙ h)) in
      let l' : laid out' used ≡ laid_rows (laid out 0) (map row_of rs) =
      l
      ∙ ap (λ (rs' : List (Record Body ℕ)). laid_rows (laid out 0) (map row_of rs'))
      (ap₂ (λ (x : Body) (k : ℕ). gather (event_records x closes) (words_at strands level k)) r e ∙ sym w) in
      let u = (rows_end (map row_of rs) out 0 out' used (omega (arith, rows_length rs)) l').0 in
      room_turn at (used / 16) rs next' z out (omega (arith, u, rows_length rs)) used out' (omega (arith, u, rows_length rs)) l'

-- the row of an end, for numbers that are small enough
pub end_body : (part : Span) (spaces : List ℕ) (level : ℕ) → get_or spaces (4 * level) 0 < 256 → part.at < 4294967296 → part.len < 4294967296
    → body_of (end_row part spaces level) ≡ spaced 5 part (get_or spaces (4 * level) 0) (span (get_or spaces (4 * level + 1) 0) (get_or spaces (4 * level + 2) 0))
end_body part spaces level c a l =
    rw (
      mod-eq_of_lt {n = get_or spaces (4 * level) 0} {m = 256} c,
      mod-eq_of_lt {n = part.at} {m = 4294967296} a,
      mod-eq_of_lt {n = part.len} {m = 4294967296} l,
    )

-- ---- a refusal, and the numbers behind an end
pub stop_step : (n p : ℕ) (head : Head) (levels bindings spaces strands out : List ℕ) → (n ≡ 0 → ⊥)
    → step_by (stop_turn n p head) levels bindings spaces strands out ≡ refused_step n p (session_of head levels bindings spaces strands) out
stop_step n p head levels bindings spaces strands out h = rw (ne_eqb n 0 h)

-- only the root's end leaves nothing open
pub last_open : (d : ℕ) → 1 ≤ d → eqb (d - 1) 0 ≡ eqb d 1
last_open d h = ⊎_elim (λ (l : d ≤ 1). rw (eq-eqb (d - 1) 0 (omega arith), eq-eqb d 1 (omega arith))) (λ (l : 1 < d). rw (ne_eqb (d - 1) 0 (λ e. omega arith), ne_eqb d 1 (λ e. omega arith))) (le_or_lt d 1)

module _ (head : Head) (place : ℕ) (levels bindings spaces strands : List ℕ) (h : 1 ≤ head.depth) (k : head.depth ≤ 64) where
  pub closed_session : session_of (closed_head head place levels) levels bindings spaces strands ≡ with_end (session_of head levels bindings spaces strands) place (eqb head.depth 1)
  unfolding closed_of
  closed_session = rw (ne_eqb head.depth 0 (λ e. omega arith), le-ltb 64 head.depth k, last_open head.depth h)

-- ---- what the reader's rules plan
abbrev rest_of : Scope → List Open
rest_of sc = opens_in sc.levels sc.bindings (sc.depth - 1) (sc.bound - count_in sc (sc.depth - 1))

abbrev inner_of : Scope → Open
inner_of sc =
    record {
      name = name_in sc.levels (sc.depth - 1);
      declarations = tabulate (binding_in sc.bindings) (sc.bound - count_in sc (sc.depth - 1)) (count_in sc (sc.depth - 1));
    }

pub opens_inner : (sc : Scope) → 1 ≤ sc.depth → opens_of sc ≡ inner_of sc ∷ rest_of sc
unfolding opens_in
opens_inner sc h =
    let e : sc.depth ≡ suc (sc.depth - 1) = omega arith in
    ap (λ (k : ℕ). opens_in sc.levels sc.bindings k sc.bound) e

opens_nil : (levels bindings : List ℕ) (depth bound : ℕ) → is_nil (opens_in levels bindings depth bound) ≡ eqb depth 0
unfolding opens_in
opens_nil levels bindings zero bound = refl
opens_nil levels bindings (suc k) bound = sym (ne_eqb (suc k) 0 (λ e. omega arith))

pub rest_nil : (sc : Scope) → 1 ≤ sc.depth → is_nil (rest_of sc) ≡ eqb sc.depth 1
rest_nil sc h = opens_nil sc.levels sc.bindings (sc.depth - 1) (sc.bound - count_in sc (sc.depth - 1)) ∙ last_open sc.depth h

module _ (t : Table) (s : List ℕ) (z : Session) (h : 1 ≤ z.scope.depth) where
  abbrev end_plan : Span → ℕ → ℕ → Plan
  end_plan part at place = event at (written (dispatch t) (state_of t s z) (end part)) (with_end z place (eqb z.scope.depth 1))

  abbrev inner_name : Span
  inner_name = name_in z.scope.levels (z.scope.depth - 1)

  pub awaited_plan : z.awaited ≡ true → plan_of t s z ≡ end_plan (part_of s inner_name) (inner_name.at - 1) z.place
  unfolding plan_of next
  awaited_plan a =
      ap₂ (λ (b : Bool) (os : List Open). plan_by t s z (next_by s (reader_of z) b os)) a (opens_inner z.scope h)
      ∙ ap (λ (b : Bool). event (inner_name.at - 1) (written (dispatch t) (state_of t s z) (end (part_of s inner_name))) (with_end z z.place b)) (rest_nil z.scope h)

  pub stopped_plan : (at : ℕ) (x : Stop) → plan_by t s z (end_read s at (opens_of z.scope) (Err x)) ≡ refused (number_of x) (stop_place s x)
  stopped_plan at x = ap (λ (os : List Open). plan_by t s z (end_read s at os (Err x))) (opens_inner z.scope h)

  module _ (at : ℕ) (tag : EndTag) where
    pub unlike_plan : same_list (bytes_of s (whole_span tag.name)) (bytes_of s inner_name) ≡ false → plan_by t s z (end_read s at (opens_of z.scope) (Ok tag)) ≡ refused 4 at
    unlike_plan e = ap (λ (os : List Open). plan_by t s z (end_read s at os (Ok tag))) (opens_inner z.scope h) ∙ rw e

    pub end_plan_lem : same_list (bytes_of s (whole_span tag.name)) (bytes_of s inner_name) ≡ true
        → plan_by t s z (end_read s at (opens_of z.scope) (Ok tag)) ≡ end_plan (part_span tag.name) at tag.next
    end_plan_lem e =
        ap (λ (os : List Open). plan_by t s z (end_read s at os (Ok tag))) (opens_inner z.scope h)
        ∙ rw (e, rest_nil z.scope h)

-- ---- places inside the scene
pub text_inside : (s : List ℕ) (at j : ℕ) (r : Read) → r ≡ text_end s at → r ≡ Ok j → j ≤ length s
text_inside s at j r p q = let i : ValueTo s 0x3C at j = subst (ReadInside (ValueTo s 0x3C at) s at) (sym p ∙ q) (within_read (ValueTo s 0x3C at) s at (text_end s at) (value_inside s at 0x3C)) in omega arith

pub tag_inside : (s : List ℕ) (at : ℕ) (tag : EndTag) (r : Ended) → r ≡ end_tag_at s at → r ≡ Ok tag → (tag.name.end ≤ length s) × (tag.name.part ≤ length s)
tag_inside s at tag r p q =
    let i = subst (EndedInside s at) (sym p ∙ q) (end_tag_inside s at) in
    let n = i.name in
    (omega (arith, n.inside), omega (arith, n.inside, n.some))

pub part_inside : (s : List ℕ) (name : Span) → SpanHeld s name → ((part_of s name).at ≤ length s) × ((part_of s name).len ≤ length s)
unfolding part_of
part_inside s name h =
    let f = part_fits s name (bytes_of s name) (colon_end 0 (bytes_of s name)) refl refl in
    (omega (arith, f.0, f.1), omega (arith, f.0))

pub part_small : (s : List ℕ) (name part : Span) → length s ≤ 16777215 → SpanHeld s name → part ≡ part_of s name → (part.at < 4294967296) × (part.len < 4294967296)
part_small s name part l h p =
    let i = part_inside s name h in
    (omega (arith, i.0, ap (λ (w : Span). w.at) p), omega (arith, i.1, ap (λ (w : Span). w.len) p))

pub span_small : (from to : ℕ) (w : Span) → from < 4294967296 → to < 4294967296 → w ≡ between from to → (w.at < 4294967296) × (w.len < 4294967296)
span_small from to w f t e = (omega (arith, ap (λ (v : Span). v.at) e), omega (arith, ap (λ (v : Span). v.len) e))

-- ---- the open name and a > where an end tag's name begins
module _ (s : List ℕ) (at : ℕ) (name : Span) where
  pub closes_past : length s ≤ at + name.len → false ≡ closes_at s at name
  closes_past h = rw (le-ltb (at + name.len) (length s) h)

  pub closes_other : at + name.len < length s → (get_or s (at + name.len) 0 ≡ 0x3E → ⊥) → false ≡ closes_at s at name
  closes_other h n = rw (lt-ltb (at + name.len) (length s) h, ne_eqb (get_or s (at + name.len) 0) 0x3E n)

  pub closes_same : at + name.len < length s → get_or s (at + name.len) 0 ≡ 0x3E → (r : Bool)
      → r ≡ same_list (take (at + name.len - at) (drop at s)) (take (name.at + name.len - name.at) (drop name.at s)) → r ≡ closes_at s at name
  closes_same h b r e =
      rw (lt-ltb (at + name.len) (length s) h, eq-eqb (get_or s (at + name.len) 0) 0x3E b)
      (e ∙ ap₂ same_list (within s at name.len) (within s name.at name.len))

  module _ (c : closes_at s at name ≡ true) where
    pub closes_inside : at + name.len < length s
    closes_inside = by (ltb (at + name.len) (length s)) refl c
      where
        by : (t : Bool) → t ≡ ltb (at + name.len) (length s) → cond t (eqb (get_or s (at + name.len) 0) 0x3E && same_list (bytes_of s (span at name.len)) (bytes_of s name)) false ≡ true → at + name.len < length s
        by true e q = ltb-true (at + name.len) (length s) (sym e)
        by false e q = let y : ◌≡◌ {A = ℕ} 0 1 = cc in absurd (omega arith)

    closes_both : (eqb (get_or s (at + name.len) 0) 0x3E && same_list (bytes_of s (span at name.len)) (bytes_of s name)) ≡ true
    closes_both = rw (lt-ltb (at + name.len) (length s) closes_inside) at c

    closes_byte : get_or s (at + name.len) 0 ≡ 0x3E
    closes_byte = eqb-true (get_or s (at + name.len) 0) 0x3E (and_left (eqb (get_or s (at + name.len) 0) 0x3E) _ closes_both)

    pub closes_bytes : same_list (bytes_of s (span at name.len)) (bytes_of s name) ≡ true
    closes_bytes = and_right (eqb (get_or s (at + name.len) 0) 0x3E) _ closes_both

    module _ (w : is_whole_name (bytes_of s name) ≡ true) where
      whole_here : is_whole_name (bytes_of s (span at name.len)) ≡ true
      whole_here = ap is_whole_name (same_eq (bytes_of s (span at name.len)) (bytes_of s name) closes_bytes) ∙ w

      -- the tag that is read there
      pub tag_here : EndTag
      tag_here = record { name = record { at = at; part = (name_here s at name.len closes_inside whole_here closes_byte).0; end = at + name.len }; next = at + name.len + 1 }

      pub next_here : tag_here.next ≡ at + name.len + 1
      unfolding tag_here
      next_here = refl

      pub tag_here_lem : end_tag_at s at ≡ Ok tag_here
      unfolding tag_here
      tag_here_lem = end_tag_here s at name.len closes_inside whole_here closes_byte

      pub span_here : whole_span tag_here.name ≡ span at name.len
      unfolding tag_here
      span_here = ap (span at) (add-sub_cancel_left at name.len)

      pub part_here : part_of s (span at name.len) ≡ part_span tag_here.name
      unfolding tag_here
      part_here = ap (part_of s) (sym span_here) ∙ part_again s at tag_here.name (name_here s at name.len closes_inside whole_here closes_byte).1

-- ---- what is planned, by what the code's parts gave
-- a stop has a number
pub stop_nonzero : (x : Stop) → number_of x ≡ 0 → ⊥
stop_nonzero (Bad p) e = omega arith
stop_nonzero (Long p) e = omega arith
stop_nonzero Cut e = omega arith

module _ (table index s : List ℕ) (z : Session) (own words schemas attributes : List ℕ) where
  abbrev As : Result Planned Refusal → Plan → Type 0
  As = PlannedAs table index s z own words schemas attributes

  pub stopped_planned : (r : Refusal) (p : Plan) (x : Stop) → r ≡ refusal_of s x → p ≡ refused (number_of x) (stop_place s x) → As (Err r) p
  stopped_planned r p x e q = subst (λ (y : Refusal). As (Err y) p) (sym e) (q, stop_nonzero x)

  pub text_planned : (r : Result Planned Refusal) (at : ℕ) (v m : Read) → v ≡ text_end s at → v ≡ m → As r (plan_by (decode table) s z (text_read s (reader_of z) at m)) → As r (plan_by (decode table) s z (text_read s (reader_of z) at (text_end s at)))
  text_planned r at v m p q = subst (λ (x : Read). As r (plan_by (decode table) s z (text_read s (reader_of z) at x))) (sym q ∙ p)

  pub end_planned : (r : Result Planned Refusal) (at : ℕ) (v m : Ended) → v ≡ end_tag_at s (at + 2) → v ≡ m → As r (plan_by (decode table) s z (end_read s at (opens_of z.scope) m))
      → As r (plan_by (decode table) s z (end_read s at (opens_of z.scope) (end_tag_at s (at + 2))))
  end_planned r at v m p q = subst (λ (x : Ended). As r (plan_by (decode table) s z (end_read s at (opens_of z.scope) x))) (sym q ∙ p)

module _ (t : Table) (s : List ℕ) (z : Session) (h : 1 ≤ z.scope.depth) where
  -- the end of a />
  pub awaited_part : z.awaited ≡ true → (name part : Span) (at : ℕ) → name ≡ name_in z.scope.levels (z.scope.depth - 1) → part ≡ part_of s name → at ≡ name.at - 1
      → plan_of t s z ≡ event at (written (dispatch t) (state_of t s z) (end part)) (with_end z z.place (eqb z.scope.depth 1))
  awaited_part a name part at n p k =
      awaited_plan t s z h a ∙ sym (ap₂ (λ (w : Span) (i : ℕ). end_plan t s z h w i z.place) (p ∙ ap (part_of s) n) (k ∙ ap (λ (w : Span). w.at - 1) n))

  -- the open name and a > stand there
  pub closing_plan : (at : ℕ) (name part : Span) (closing : Bool) → name ≡ name_in z.scope.levels (z.scope.depth - 1) → is_whole_name (bytes_of s (name_in z.scope.levels (z.scope.depth - 1))) ≡ true
      → closing ≡ closes_at s (at + 2) name → closing ≡ true → part ≡ part_of s (span (at + 2) name.len)
      → plan_by t s z (end_read s at (opens_of z.scope) (end_tag_at s (at + 2))) ≡ event at (written (dispatch t) (state_of t s z) (end part)) (with_end z (at + 3 + name.len) (eqb z.scope.depth 1))
  closing_plan at name part closing n w c q p =
      let k : closes_at s (at + 2) name ≡ true = sym c ∙ q in
      let v : is_whole_name (bytes_of s name) ≡ true = rw n w in
      let tag = tag_here s (at + 2) name k v in
      let alike : same_list (bytes_of s (whole_span tag.name)) (bytes_of s (name_in z.scope.levels (z.scope.depth - 1))) ≡ true =
      ap₂ (λ (x y : Span). same_list (bytes_of s x) (bytes_of s y)) (span_here s (at + 2) name k v) (sym n) ∙ closes_bytes s (at + 2) name k in
      ap (λ (x : Ended). plan_by t s z (end_read s at (opens_of z.scope) x)) (tag_here_lem s (at + 2) name k v)
      ∙ end_plan_lem t s z h at tag alike
      ∙ sym (ap₂ (λ (x : Span) (i : ℕ). end_plan t s z h x at i) (p ∙ part_here s (at + 2) name k v) (omega (arith, next_here s (at + 2) name k v)))

  module _ (at : ℕ) (tag : EndTag) (whole name : Span) (same : Bool) (w : whole ≡ whole_span tag.name) (n : name ≡ name_in z.scope.levels (z.scope.depth - 1)) (q : same ≡ same_list (bytes_of s whole) (bytes_of s name)) where
    same_is : same ≡ same_list (bytes_of s (whole_span tag.name)) (bytes_of s (name_in z.scope.levels (z.scope.depth - 1)))
    same_is = q ∙ ap₂ (λ (v x : Span). same_list (bytes_of s v) (bytes_of s x)) w n

    -- an end tag that was read
    pub unlike_named : not same ≡ true → plan_by t s z (end_read s at (opens_of z.scope) (Ok tag)) ≡ refused 4 at
    unlike_named u = unlike_plan t s z h at tag (untold same (same_list (bytes_of s (whole_span tag.name)) (bytes_of s (name_in z.scope.levels (z.scope.depth - 1)))) same_is u)

    pub alike_named : not same ≡ false → (part : Span) → part ≡ part_span tag.name
        → plan_by t s z (end_read s at (opens_of z.scope) (Ok tag)) ≡ event at (written (dispatch t) (state_of t s z) (end part)) (with_end z tag.next (eqb z.scope.depth 1))
    alike_named u part p =
        end_plan_lem t s z h at tag (untold' same (same_list (bytes_of s (whole_span tag.name)) (bytes_of s (name_in z.scope.levels (z.scope.depth - 1)))) same_is u)
        ∙ sym (ap (λ (v : Span). end_plan t s z h v at tag.next) p)
