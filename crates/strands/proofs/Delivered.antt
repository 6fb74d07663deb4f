-- What the strands of a level deliver at a text and at an end: the records are the stream's, their count, their rows.
use Prim.Native.Nat.{ℕ, ◌+◌, ◌*◌, ◌/◌, ◌%◌, ◌^◌, ◌≤◌, ◌<◌}
use mathlib.Core.Path.{◌≡◌, refl, sym, ap, ap₂, ◌∙◌}
use mathlib.Core.List.{List, [], ◌∷◌, ◌++◌, map, map-append, append-nil}
use mathlib.Core.Bool.{Bool, true, false, cond, not, ◌&&◌}
use mathlib.Core.Option.{Option, none, some}
use native.Mathlib.Nat.{add-zero}
use native.Mathlib.Omega.{arith}
use borrow.Author.Tests.{eqb-true, ltb-false}
use lib.Bits.{bit_and}
use lib.Dec.{eqb, ltb}
use lib.ListN.{get_or, length, length-append, length-map}
use Rattle.laws.specs.Bits.{mask3}
use Rattle.laws.specs.Lists.{all, tabulate}
use Rattle.laws.specs.Gather.{gather, total}
use Rattle.laws.proofs.Lists.{get_d_tabulate, length_tabulate}
use Rattle.laws.proofs.Members.{in_at, all_in}
use Rattle.laws.proofs.Gather.{gather_append, total_append}
use Rattle.table.specs.Table.{Table}
use Rattle.reader.specs.declared.Span.{Span}
use Rattle.model.specs.Theory.{Record}
use Rattle.model.specs.Stream.{text_records, end_records, give}
use Rattle.model.specs.Records.{Body, OpenElement, text_body, end_body, close_body}
use Rattle.model.specs.Dispatch.{dispatch, record_bytes_of}
use Rattle.model.proofs.Lists.{gather_map}
use Rattle.records.specs.Rows.{Laid, row_bytes, laid_if, laid_rows}
use Rattle.records.proofs.Laid.{rows_more}
use Rattle.strands.specs.Packed.{strand_in, receives, is_unit, target_in}
use Rattle.strands.specs.Writing.{row_for, row_of, event_pieces, event_records, event_count}
use Rattle.strands.proofs.Words.{receiver_is, delivers_is}

-- the unit that gets what a strand delivers is its target
known : (o : Option ℕ) (t : Bool) (u : ℕ) → o ≡ cond t (some u) none → o ≡ cond (is_unit o) (some u) none
known o true u e = rw e
known o false u e = rw e

pub receives_is : (w : ℕ) → receives (strand_in w) ≡ cond (is_unit (receives (strand_in w))) (some (target_in w)) none
unfolding strand_in
receives_is w =
    known (receives (strand_in w)) (eqb (w / 2 ^ 8 % 2) 1 && not (eqb (w / 2 ^ 5 % 2 ^ 2) 1)) (target_in w)
    (receiver_is (eqb (w / 2 ^ 8 % 2) 1) (w / 2 ^ 9 % 2 ^ 16) (w / 2 ^ 5 % 2 ^ 2))

gather_next : {B A : Type 0} (f : A → List B) (ws : List A) (w : A) → gather f (ws ++ (w ∷ [])) ≡ gather f ws ++ f w
unfolding gather
gather_next {B} f ws w = gather_append f ws (w ∷ []) ∙ ap (λ (l : List B). gather f ws ++ l) (append-nil (f w))

total_next : {A : Type 0} (f : A → ℕ) (ws : List A) (w : A) → total f (ws ++ (w ∷ [])) ≡ total f ws + f w
unfolding total
total_next f ws w = total_append f ws (w ∷ []) ∙ ap (λ (k : ℕ). total f ws + k) (add-zero (f w))

-- ---- how many
pieces_length : (o : Option ℕ) (b : Body) (close : Bool) → length (give o (event_pieces b close)) ≡ cond (is_unit o) (cond close 2 1) 0
pieces_length none b close = refl
pieces_length (some u) b true = refl
pieces_length (some u) b false = refl

pub event_length : (b : Body) (closes : Bool) (w : ℕ) → length (event_records b closes w) ≡ event_count closes w
event_length b closes w = pieces_length (receives (strand_in w)) b (closes && (strand_in w).here)

pub events_length : (b : Body) (closes : Bool) (ws : List ℕ) → length (gather (event_records b closes) ws) ≡ total (event_count closes) ws
unfolding gather total
events_length b closes [] = refl
events_length b closes (w ∷ ws) =
    length-append (event_records b closes w) (gather (event_records b closes) ws) ∙ ap₂ ◌+◌ (event_length b closes w) (events_length b closes ws)

-- at most two for a strand
pieces_most : (due close : Bool) → cond due (cond close 2 1) 0 ≤ 2
pieces_most true true = omega arith
pieces_most true false = omega arith
pieces_most false close = omega arith

pub count_most : (closes : Bool) (w : ℕ) → event_count closes w ≤ 2
count_most closes w = pieces_most (is_unit (receives (strand_in w))) (closes && (strand_in w).here)

pub events_most : (closes : Bool) (ws : List ℕ) → total (event_count closes) ws ≤ 2 * length ws
unfolding total
events_most closes [] = omega arith
events_most closes (w ∷ ws) = omega (arith, count_most closes w, events_most closes ws)

-- the count in a table: a number with two bits for each of the sixteen values that bits 5 to 8 of a strand's number have
abbrev count_by : Bool → ℕ → ℕ
count_by closes k = cond (eqb (k / 8 % 2) 1 && not (eqb (k % 4) 1)) (cond (closes && eqb (k / 4 % 2) 1) 2 1) 0

count_by_lem : (closes : Bool) (w : ℕ) → count_by closes (w / 32 % 16) ≡ event_count closes w
unfolding strand_in
count_by_lem closes w =
    let aimed : w / 32 % 16 / 8 % 2 ≡ w / 256 % 2 = omega arith in
    let action : w / 32 % 16 % 4 ≡ w / 32 % 4 = omega arith in
    let here : w / 32 % 16 / 4 % 2 ≡ w / 128 % 2 = omega arith in
    rw (aimed, action, here, delivers_is w)

abbrev right : Bool → ℕ → ℕ → Bool
right closes table k = eqb (table / 2 ^ (k * 2) % 4) (count_by closes k)

count_in_lem : (closes : Bool) (table w : ℕ) → all (right closes table) (tabulate (λ (k : ℕ). k) 0 16) ≡ true → bit_and (table / 2 ^ (w / 32 % 16 * 2)) 3 ≡ event_count closes w
count_in_lem closes table w e =
    let values = tabulate (λ (k : ℕ). k) 0 16 in
    let i = w / 32 % 16 in
    let h : i < 16 = omega arith in
    let q : get_or values i 0 ≡ i = get_d_tabulate (λ (k : ℕ). k) 0 16 i 0 h ∙ omega arith in
    let r : right closes table (get_or values i 0) ≡ true = all_in (right closes table) _ values e (in_at values i 0 (rw (length_tabulate (λ (k : ℕ). k) 0 16) h)) in
    mask3 (table / 2 ^ (i * 2)) ∙ eqb-true _ _ (rw q at r) ∙ count_by_lem closes w

module _ (closes : Bool) (table w : ℕ) where
  pub count_closing : closes ≡ true → table ≡ 0xA2510000 → bit_and (table / 2 ^ (w / 32 % 16 * 2)) 3 ≡ event_count closes w
  unfolding all tabulate
  count_closing h e = rw (h, e) (count_in_lem true 0xA2510000 w refl)

  pub count_plain : closes ≡ false → table ≡ 0x51510000 → bit_and (table / 2 ^ (w / 32 % 16 * 2)) 3 ≡ event_count closes w
  unfolding all tabulate
  count_plain h e = rw (h, e) (count_in_lem false 0x51510000 w refl)

-- ---- the stream's records
module _ (t : Table) where
  pub text_records_lem : (τ : Span) (w : ℕ) → event_records (text_body τ) false w ≡ text_records (dispatch t) τ (strand_in w)
  text_records_lem τ w = refl

  pub texts_records : (τ : Span) (ws : List ℕ) → gather (event_records (text_body τ) false) ws ≡ gather (text_records (dispatch t) τ) (map strand_in ws)
  texts_records τ ws = sym (gather_map (text_records (dispatch t) τ) strand_in ws)

  pub end_records_lem : (κ : OpenElement) (ε : Span) (w : ℕ) → event_records (end_body κ ε) true w ≡ end_records (dispatch t) κ ε (strand_in w)
  end_records_lem κ ε w = refl

  pub ends_records : (κ : OpenElement) (ε : Span) (ws : List ℕ) → gather (event_records (end_body κ ε) true) ws ≡ gather (end_records (dispatch t) κ ε) (map strand_in ws)
  ends_records κ ε ws = sym (gather_map (end_records (dispatch t) κ ε) strand_in ws)

-- ---- rows
pub rows_bytes : (rs : List (Record Body ℕ)) → gather row_bytes (map row_of rs) ≡ gather record_bytes_of rs
unfolding row_bytes
rows_bytes rs = gather_map row_bytes row_of rs

pub rows_length : (rs : List (Record Body ℕ)) → length (map row_of rs) ≡ length rs
rows_length rs = length-map rs row_of

-- the two rows that a strand may have due
pub event_rows : (v : Laid) (due closes here : Bool) (b : Body) (unit : ℕ)
    → laid_if ((due && closes) && here) (laid_if due v (row_for unit b)) (row_for unit close_body) ≡ laid_rows v (map row_of (give (cond due (some unit) none) (event_pieces b (closes && here))))
unfolding laid_if laid_rows
event_rows v true true true b unit = refl
event_rows v true true false b unit = refl
event_rows v true false here b unit = refl
event_rows v false closes here b unit = refl

-- before the first strand
pub event_none : (b : Body) (closes : Bool) (v : Laid) (ws : List ℕ) → ws ≡ [] → v ≡ laid_rows v (map row_of (gather (event_records b closes) ws))
unfolding gather laid_rows
event_none b closes v ws e = rw e

-- a turn of the loop that writes an event's rows
module _ (b : Body) (closes : Bool) (w : ℕ) (due here : Bool) (unit : ℕ) (h : due ≡ is_unit (receives (strand_in w))) (k : unit ≡ target_in w) (m : here ≡ (strand_in w).here) where
  strand_rows : (v v₁ v₂ : Laid) → v₁ ≡ laid_if due v (row_for unit b) → v₂ ≡ laid_if ((due && closes) && here) v₁ (row_for unit close_body)
      → v₂ ≡ laid_rows v (map row_of (event_records b closes w))
  strand_rows v v₁ v₂ e f =
      let o : cond due (some unit) none ≡ receives (strand_in w) = rw (h, k) (sym (receives_is w)) in
      f
      ∙ ap (λ (x : Laid). laid_if ((due && closes) && here) x (row_for unit close_body)) e
      ∙ event_rows v due closes here b unit
      ∙ ap₂ (λ (r : Option ℕ) (z : Bool). laid_rows v (map row_of (give r (event_pieces b (closes && z))))) o m

  pub event_turn : (start v v₁ v₂ : Laid) (ws ws' : List ℕ) → v ≡ laid_rows start (map row_of (gather (event_records b closes) ws)) → v₁ ≡ laid_if due v (row_for unit b)
      → v₂ ≡ laid_if ((due && closes) && here) v₁ (row_for unit close_body) → ws' ≡ ws ++ (w ∷ []) → v₂ ≡ laid_rows start (map row_of (gather (event_records b closes) ws'))
  event_turn start v v₁ v₂ ws ws' i e f s =
      rows_more start (map row_of (gather (event_records b closes) ws)) (map row_of (event_records b closes w)) v v₂ i (strand_rows v v₁ v₂ e f)
      ∙ ap (laid_rows start)
      (sym (map-append row_of (gather (event_records b closes) ws) (event_records b closes w))
      ∙ ap (map row_of) (sym (ap (gather (event_records b closes)) s ∙ gather_next (event_records b closes) ws w)))

-- a turn of the loop that counts them
pub count_turn : (closes : Bool) (w k n : ℕ) (ws ws' : List ℕ) → k ≡ total (event_count closes) ws → n ≡ event_count closes w → ws' ≡ ws ++ (w ∷ []) → k + n ≡ total (event_count closes) ws'
count_turn closes w k n ws ws' e f s = ap₂ ◌+◌ e f ∙ sym (ap (total (event_count closes)) s ∙ total_next (event_count closes) ws w)

-- it ends with the last strand, or with 32 records, which sixteen strands write
pub all_counted : (j n k : ℕ) → (ltb j n && ltb k 32) ≡ false → j ≤ n → n ≤ 16 → k ≤ 2 * j → j ≡ n
all_counted j n k e l m h = go (ltb j n) refl e
  where
    go : (t : Bool) → ltb j n ≡ t → (t && ltb k 32) ≡ false → j ≡ n
    go true p q = omega (arith, ltb-false k 32 q)
    go false p q = omega (arith, ltb-false j n p)
