-- What the answers of the reading definitions say of positions: each stands inside the slice, at or behind the place where reading began.
use Rattle.std.specs.Prelude.{Ok, Err}
use Prim.Native.Nat.{ℕ, zero, suc, ◌+◌, ◌-◌, ◌≤◌, ◌<◌}
use mathlib.Core.Path.{◌≡◌, refl, sym, subst, ◌∙◌}
use mathlib.Core.List.{List, [], ◌∷◌, ◌++◌}
use mathlib.Core.Bool.{Bool, true, false, cond, not, ◌||◌}
use mathlib.Core.Logic.{◌⊎◌, inl, inr, ⊎_elim}
use native.Mathlib.Omega.{arith}
use borrow.Author.Tests.{eqb-true, eqb-false, not-true}
use lib.ListN.{length, get_or, length-append}
use lib.Dec.{eqb}
use Rattle.laws.specs.Members.{All}
use Rattle.laws.specs.Reading.{le_or_lt}
use Rattle.laws.proofs.Flags.{and_right}
use Rattle.laws.proofs.Holds.{holds_cond, holds_peek, Turned, run_held, each_more}
use Rattle.lexer.specs.Stops.{after_read, after_name}
use Rattle.utf8.specs.declared.Set.TheVariants as set
use Rattle.characters.specs.CanBegin.{begins}
use Rattle.lexer.specs.Names.{is_space, space_step, spaces_end, PartState, part_state, part_set, part_whole, part_step, part_end, name_of, prefixed_at, name_at}
use Rattle.lexer.specs.Values.{value_end}
use Rattle.lexer.specs.Tags.{wanted, equals_end, quoted_at, attribute_at, slash_at, turn_behind, turn_at, TagRead, tag_stopped, tag_closed, full_turn, attr_then, turn_then, attrs_from, tag_at, end_tag_at}
use Rattle.lexer.specs.declared.Stop.{Stop}
use Rattle.lexer.specs.declared.Stop.TheVariants.{Bad, Long, Cut}
use Rattle.lexer.specs.Reads.{Read, Named, Attributed, TurnRead, Tagged, Ended}
use Rattle.lexer.specs.declared.Name.{Name}
use Rattle.lexer.specs.declared.Attr.{Attr}
use Rattle.lexer.specs.declared.Turn.TheVariants as turn
use Rattle.lexer.specs.declared.Tag.{Tag}
use Rattle.lexer.specs.declared.EndTag.{EndTag}
use Rattle.lexer.proofs.CharacterLaws.{Within}
use Rattle.lexer.proofs.ValueLaws.{ValueTo, value_inside}

-- a stop's place is inside the slice, at or behind the place where reading began
abbrev pub StopInside : List ℕ → ℕ → Stop → Type 0
StopInside s at (Bad j) = (at ≤ j) × (j < length s)
StopInside s at (Long j) = (at ≤ j) × (j < length s)
StopInside s at Cut = Unit

-- what was read from a later place on
pub stop_later : (s : List ℕ) (at later : ℕ) → at ≤ later → (x : Stop) → StopInside s later x → StopInside s at x
stop_later s at later le (Bad j) h = omega arith
stop_later s at later le (Long j) h = omega arith
stop_later s at later le Cut h = tt

-- P: what holds of the end
abbrev pub ReadInside : (ℕ → Type 0) → List ℕ → ℕ → Read → Type 0
ReadInside P s at (Ok j) = P j
ReadInside P s at (Err x) = StopInside s at x

-- a value's answer, which is never too long
pub within_read : (P : ℕ → Type 0) (s : List ℕ) (at : ℕ) (r : Read) → Within P s at r → ReadInside P s at r
within_read P s at (Ok j) h = h
within_read P s at (Err (Bad j)) h = h
within_read P s at (Err (Long j)) h = absurd h
within_read P s at (Err Cut) h = tt

-- Q holds of what is read behind what was read, if it holds behind each end, and of each stop
pub after_inside : {A : Type 0} (Q : A → Type 0) (f : Stop → A) (P : ℕ → Type 0) (s : List ℕ) (at : ℕ) (r : Read) (k : ℕ → A) → ReadInside P s at r → ((x : Stop) → StopInside s at x → Q (f x)) → ((j : ℕ) → P j → Q (k j)) → Q (after_read f r k)
after_inside Q f P s at (Ok j) k h g e = e j h
after_inside Q f P s at (Err x) k h g e = g x h

-- with the equation that says so
told : (P : ℕ → Type 0) (s : List ℕ) (at : ℕ) (v r : Read) → v ≡ r → ReadInside P s at v → ReadInside (λ (j : ℕ). P j × (v ≡ Ok j)) s at r
told P s at v (Ok j) e h = (subst (ReadInside P s at) e h, e)
told P s at v (Err x) e h = subst (ReadInside P s at) e h

-- ---- space
-- the first byte that is no space
abbrev pub SpacesTo : List ℕ → ℕ → ℕ → Type 0
SpacesTo s at j = (at ≤ j) × (j < length s) × (is_space (get_or s j 0) ≡ false)

pub spaces_inside : (s : List ℕ) (at : ℕ) → ReadInside (SpacesTo s at) s at (spaces_end s at)
unfolding spaces_end
spaces_inside s at =
    run_held (Err Cut) space_step s (λ (q j : ℕ). at ≤ j) (ReadInside (SpacesTo s at) s at) tt
    (λ (q j : ℕ) (hi : j < length s) (lo : at ≤ j). holds_cond (Turned (λ (q' : ℕ). at ≤ j + 1) (ReadInside (SpacesTo s at) s at)) (is_space (get_or s j 0)) (λ e. omega arith) (λ e. (lo, hi, e)))
    0
    at
    (omega arith)

-- ---- a name part: one byte to 64
abbrev pub PartTo : List ℕ → ℕ → ℕ → Type 0
PartTo s at j = (at < j) × (j < length s) × (j ≤ at + 64)

pub part_inside : (s : List ℕ) (at : ℕ) → ReadInside (PartTo s at) s at (part_end s at)
unfolding part_end
part_inside s at = run_held (Err Cut) part_step s Room In tt turn (part_state 64 []) at (omega arith)
  where
    Room : PartState → ℕ → Type 0
    Room q j = (at ≤ j) × (j + q.room ≡ at + 64)

    In : Read → Type 0
    In = ReadInside (PartTo s at) s at

    ends : (q : PartState) (j : ℕ) → j < length s → Room q j → (t : Bool) → (t ≡ true → q.room ≡ 64 → ⊥) → In (cond t (Ok j) (Err (Bad j)))
    ends q j hi h true n = let m = n refl in (omega (arith, low m), hi, omega arith)
      where
        low : (q.room ≡ 64 → ⊥) → at < j
        low m = ⊎_elim (λ le. absurd (m (omega arith))) (λ lt. lt) (le_or_lt j at)
    ends q j hi h false n = (h.0, hi)

    turn : (q : PartState) (j : ℕ) → j < length s → Room q j → Turned (λ (q' : PartState). Room q' (j + 1)) In (part_step q (get_or s j 0) j)
    turn q j hi h =
        holds_cond (Turned (λ (q' : PartState). Room q' (j + 1)) In) (begins (part_set q) q.begun (get_or s j 0))
        (λ _. holds_cond (Turned (λ (q' : PartState). Room q' (j + 1)) In) (eqb q.room 0) (λ _. (h.0, hi)) (λ z. omega (arith, eqb-false q.room 0 z)))
        (λ _. ends q j hi h (part_whole q) (λ w e. eqb-false q.room 64 (not-true _ (and_right (eqb (length q.begun) 0) (not (eqb q.room 64)) w)) e))

-- ---- names
-- a prefix and its colon, before the part at a place
abbrev pub PrefixTo : List ℕ → ℕ → ℕ → Type 0
PrefixTo s at part = (at + 1 < part) × (part_end s at ≡ Ok (part - 1)) × (get_or s (part - 1) 0 ≡ 0x3A)

-- a name from a place on: its last part, and whether a prefix stands before it
pub record NameInside (s : List ℕ) (at : ℕ) (n : Name) : Type 0 where
  pub begins : n.at ≡ at
  pub onward : at ≤ n.part
  pub some : n.part < n.end
  pub short : n.end ≤ n.part + 64
  pub inside : n.end < length s
  pub last : part_end s n.part ≡ Ok n.end
  pub first : (n.part ≡ at) ⊎ PrefixTo s at n.part

-- P: what holds of the name
abbrev pub NamedInside : (Name → Type 0) → List ℕ → ℕ → Named → Type 0
NamedInside P s at (Ok n) = P n
NamedInside P s at (Err x) = StopInside s at x

pub after_name_inside : {A : Type 0} (Q : A → Type 0) (f : Stop → A) (P : Name → Type 0) (s : List ℕ) (at : ℕ) (r : Named) (k : Name → A) → NamedInside P s at r → ((x : Stop) → StopInside s at x → Q (f x)) → ((n : Name) → P n → Q (k n)) → Q (after_name f r k)
after_name_inside Q f P s at (Ok n) k h g e = e n h
after_name_inside Q f P s at (Err x) k h g e = g x h

-- the last part of a name, behind what stands before it
named_inside : (s : List ℕ) (at part end : ℕ) → at ≤ part → part_end s part ≡ Ok end → PartTo s part end → (part ≡ at) ⊎ PrefixTo s at part → NameInside s at (record { at = at; part = part; end = end })
named_inside s at part end le e h f = record { begins = refl; onward = le; some = h.0; short = h.2; inside = h.1; last = e; first = f }

pub prefixed_inside : (s : List ℕ) (at part : ℕ) → PrefixTo s at part → NamedInside (NameInside s at) s at (prefixed_at s at part)
unfolding prefixed_at
prefixed_inside s at part f =
    after_inside (NamedInside (NameInside s at) s at) Err (λ (j : ℕ). PartTo s part j × (part_end s part ≡ Ok j)) s part (part_end s part) (λ (end : ℕ). name_of at part end)
    (told (PartTo s part) s part (part_end s part) (part_end s part) refl (part_inside s part))
    (stop_later s at part (omega arith))
    (λ (end : ℕ) h. named_inside s at part end (omega arith) h.1 h.0 (inr f))

pub name_inside : (s : List ℕ) (at : ℕ) → NamedInside (NameInside s at) s at (name_at s at)
unfolding name_at
name_inside s at =
    after_inside In Err (λ (j : ℕ). PartTo s at j × (part_end s at ≡ Ok j)) s at (part_end s at) _
    (told (PartTo s at) s at (part_end s at) (part_end s at) refl (part_inside s at))
    (λ (x : Stop) h. h)
    (λ (j : ℕ) h.
    holds_peek In s j tt (λ lt.
    holds_cond In (eqb (get_or s j 0) 0x3A)
    (λ e.
    let back : j + 1 - 1 ≡ j = omega arith in
    prefixed_inside s at (j + 1) (omega arith, rw back h.1, rw back (eqb-true (get_or s j 0) 0x3A e)))
    (λ e. named_inside s at at j (omega arith) h.1 h.0 (inl refl))))
  where
    In : Named → Type 0
    In = NamedInside (NameInside s at) s at

-- ---- attributes
-- the place behind a byte
abbrev pub ByteTo : List ℕ → ℕ → ℕ → ℕ → Type 0
ByteTo s at byte j = (j ≡ at + 1) × (at < length s) × (get_or s at 0 ≡ byte)

pub wanted_inside : (s : List ℕ) (at byte : ℕ) → ReadInside (ByteTo s at byte) s at (wanted s at byte)
unfolding wanted
wanted_inside s at byte =
    holds_peek In s at tt (λ lt. holds_cond In (eqb (get_or s at 0) byte) (λ e. (refl, lt, eqb-true (get_or s at 0) byte e)) (λ e. omega arith))
  where
    In : Read → Type 0
    In = ReadInside (ByteTo s at byte) s at

abbrev pub EqualsTo : List ℕ → ℕ → ℕ → Type 0
EqualsTo s at j = (at < j) × (j < length s)

pub equals_inside : (s : List ℕ) (at : ℕ) → ReadInside (EqualsTo s at) s at (equals_end s at)
unfolding equals_end
equals_inside s at =
    after_inside In Err (SpacesTo s at) s at (spaces_end s at) _ (spaces_inside s at) (λ (x : Stop) h. h) (λ (i : ℕ) h.
    after_inside In Err (ByteTo s i 0x3D) s i (wanted s i 0x3D) _ (wanted_inside s i 0x3D) (stop_later s at i h.0) (λ (j : ℕ) k. behind i j h.0 k.0 (spaces_end s j) (spaces_inside s j)))
  where
    In : Read → Type 0
    In = ReadInside (EqualsTo s at) s at

    behind : (i j : ℕ) → at ≤ i → j ≡ i + 1 → (r : Read) → ReadInside (SpacesTo s j) s j r → In r
    behind i j le e (Ok q) h = omega arith
    behind i j le e (Err x) h = stop_later s at j (omega arith) x h

-- an attribute from a place on: = and the quote stand between its name and its value
pub record AttrInside (s : List ℕ) (at : ℕ) (a : Attr) : Type 0 where
  pub name : NameInside s at a.name
  pub apart : a.name.end + 1 < a.value
  pub onward : a.value ≤ a.stop
  pub inside : a.stop < length s
  pub quoted : value_end s a.value (get_or s (a.value - 1) 0) ≡ Ok a.stop

-- P: what holds of the attribute
abbrev pub AttributedInside : (Attr → Type 0) → List ℕ → ℕ → Attributed → Type 0
AttributedInside P s at (Ok a) = P a
AttributedInside P s at (Err x) = StopInside s at x

pub quoted_inside : (s : List ℕ) (at : ℕ) (name : Name) (quote : ℕ) → NameInside s at name → name.end < quote → AttributedInside (AttrInside s at) s at (quoted_at s name quote)
unfolding quoted_at
quoted_inside s at name quote n lt =
    holds_peek In s quote tt (λ hi.
    holds_cond In (eqb q 0x22 || eqb q 0x27)
    (λ e.
    after_inside In Err (λ (j : ℕ). To j × (v ≡ Ok j)) s (quote + 1) v _
    (told To s (quote + 1) v v refl (within_read To s (quote + 1) v (value_inside s (quote + 1) q)))
    (stop_later s at (quote + 1) (omega arith))
    (λ (stop : ℕ) h. record { name = n; apart = omega arith; onward = h.0.0; inside = h.0.1; quoted = rw back h.1 }))
    (λ e. omega arith))
  where
    In : Attributed → Type 0
    In = AttributedInside (AttrInside s at) s at

    q : ℕ
    q = get_or s quote 0

    To : ℕ → Type 0
    To = ValueTo s q (quote + 1)

    v : Read
    v = value_end s (quote + 1) q

    back : quote + 1 - 1 ≡ quote
    back = omega arith

pub attribute_inside : (s : List ℕ) (at : ℕ) → AttributedInside (AttrInside s at) s at (attribute_at s at)
unfolding attribute_at
attribute_inside s at =
    after_name_inside In Err (NameInside s at) s at (name_at s at) _ (name_inside s at) (λ (x : Stop) h. h) (λ (name : Name) n.
    after_inside In Err (EqualsTo s name.end) s name.end (equals_end s name.end) _ (equals_inside s name.end) (stop_later s at name.end (omega arith)) (λ (quote : ℕ) h.
    quoted_inside s at name quote n h.0))
  where
    In : Attributed → Type 0
    In = AttributedInside (AttrInside s at) s at

-- ---- what stands behind a tag's name or an attribute
abbrev pub TurnInside : List ℕ → ℕ → TurnRead → Type 0
TurnInside s at (Ok (turn.Close next empty)) = (at < next) × (next ≤ length s)
TurnInside s at (Ok (turn.Attribute i)) = (at < i) × (i < length s)
TurnInside s at (Err x) = StopInside s at x

pub slash_inside : (s : List ℕ) (at : ℕ) → TurnInside s at (slash_at s at)
unfolding slash_at
slash_inside s at =
    after_inside (TurnInside s at) Err (ByteTo s (at + 1) 0x3E) s (at + 1) (wanted s (at + 1) 0x3E) _ (wanted_inside s (at + 1) 0x3E) (stop_later s at (at + 1) (omega arith)) (λ (j : ℕ) h. omega arith)

pub behind_inside : (s : List ℕ) (at i : ℕ) → at ≤ i → TurnInside s at (turn_behind s at i)
unfolding turn_behind
behind_inside s at i le =
    holds_peek In s i tt (λ lt.
    holds_cond In (eqb (get_or s i 0) 0x3E) (λ e. omega arith) (λ e.
    holds_cond In (eqb (get_or s i 0) 0x2F) (λ e. later (slash_at s i) (slash_inside s i)) (λ e.
    holds_cond In (eqb i at) (λ e. omega arith) (λ ne.
    holds_cond In (begins set.Start [] (get_or s i 0)) (λ e. omega (arith, eqb-false i at ne)) (λ e. omega arith)))))
  where
    In : TurnRead → Type 0
    In = TurnInside s at

    later : (r : TurnRead) → TurnInside s i r → In r
    later (Ok (turn.Close next empty)) h = omega arith
    later (Ok (turn.Attribute j)) h = omega arith
    later (Err x) h = stop_later s at i le x h

pub turn_inside : (s : List ℕ) (at : ℕ) → TurnInside s at (turn_at s at)
unfolding turn_at
turn_inside s at =
    after_inside (TurnInside s at) Err (SpacesTo s at) s at (spaces_end s at) _ (spaces_inside s at) (λ (x : Stop) h. h) (λ (i : ℕ) h. behind_inside s at i h.0)

-- ---- tags
-- an attribute that stands behind a place
abbrev pub AttrBehind : List ℕ → ℕ → Attr → Type 0
AttrBehind s at a = (at < a.name.at) × AttrInside s a.name.at a

-- a start tag from behind its < on, with the attributes l
pub record TagInside (s : List ℕ) (at : ℕ) (l : List Attr) (t : Tag) : Type 0 where
  pub name : NameInside s at t.name
  pub counted : t.count ≡ length l
  pub few : t.count ≤ 16
  pub onward : t.name.end < t.next
  pub inside : t.next ≤ length s

abbrev pub TaggedInside : List ℕ → ℕ → List Attr → Tagged → Type 0
TaggedInside s at l (Ok t) = TagInside s at l t
TaggedInside s at l (Err x) = StopInside s at x

-- the attributes that were read, also where reading stops
pub record TagReadInside (s : List ℕ) (at : ℕ) (r : TagRead) : Type 0 where
  pub few : length r.attrs ≤ 16
  pub each : All (AttrBehind s at) r.attrs
  pub answer : TaggedInside s at r.attrs r.answer

module _ (s : List ℕ) (at : ℕ) where
  stopped_inside : (l : List Attr) → length l ≤ 16 → All (AttrBehind s at) l → (x : Stop) → StopInside s at x → TagReadInside s at (tag_stopped l x)
  stopped_inside l few each x h = record { few = few; each = each; answer = h }

  closed_inside : (name : Name) (l : List Attr) (next : ℕ) (empty : Bool) → NameInside s at name → length l ≤ 16 → All (AttrBehind s at) l → name.end < next → next ≤ length s → TagReadInside s at (tag_closed name l next empty)
  closed_inside name l next empty n few each lo hi =
      record { few = few; each = each; answer = record { name = n; counted = refl; few = few; onward = lo; inside = hi } }

  pub attrs_inside : (name : Name) → NameInside s at name → (room : ℕ) (l : List Attr) (i : ℕ) → name.end ≤ i → length l + room ≡ 16 → All (AttrBehind s at) l → TagReadInside s at (attrs_from s name l room i)
  unfolding attrs_from
  attrs_inside name n zero l i le few each = ends (turn_at s i) (turn_inside s i)
    where
      ends : (r : TurnRead) → TurnInside s i r → TagReadInside s at (full_turn name l r)
      ends (Ok (turn.Close next empty)) h = closed_inside name l next empty n (omega arith) each (omega arith) h.1
      ends (Ok (turn.Attribute j)) h = stopped_inside l (omega arith) each (Long j) (omega arith)
      ends (Err x) h = stopped_inside l (omega arith) each x (stop_later s at i (omega arith) x h)
  attrs_inside name n (suc room) l i le few each = goes (turn_at s i) (turn_inside s i) (attrs_inside name n room)
    where
      -- what is left to show of the attributes behind
      More : Type 0
      More = (l' : List Attr) (k : ℕ) → name.end ≤ k → length l' + room ≡ 16 → All (AttrBehind s at) l' → TagReadInside s at (attrs_from s name l' room k)

      one : (j : ℕ) → i < j → (r : Attributed) → AttributedInside (AttrInside s j) s j r → More → TagReadInside s at (attr_then (λ (l' : List Attr) (k : ℕ). attrs_from s name l' room k) l r)
      one j lt (Ok a) h more =
          more (l ++ (a ∷ [])) (a.stop + 1) (omega arith) (omega (arith, length-append l (a ∷ []))) (each_more (AttrBehind s at) l a each (omega arith, subst (λ (k : ℕ). AttrInside s k a) (sym h.name.begins) h))
      one j lt (Err x) h more = stopped_inside l (omega arith) each x (stop_later s at j (omega arith) x h)

      goes : (r : TurnRead) → TurnInside s i r → More → TagReadInside s at (turn_then s (λ (l' : List Attr) (j : ℕ). attrs_from s name l' room j) name l r)
      goes (Ok (turn.Close next empty)) h more = closed_inside name l next empty n (omega arith) each (omega arith) h.1
      goes (Ok (turn.Attribute j)) h more = one j h.0 (attribute_at s j) (attribute_inside s j) more
      goes (Err x) h more = stopped_inside l (omega arith) each x (stop_later s at i (omega arith) x h)

  pub tag_inside : TagReadInside s at (tag_at s at)
  unfolding tag_at
  tag_inside =
      after_name_inside (TagReadInside s at) (tag_stopped []) (NameInside s at) s at (name_at s at) _ (name_inside s at) (stopped_inside [] (omega arith) tt) (λ (name : Name) n.
      attrs_inside name n 16 [] name.end (omega arith) refl tt)

-- an end tag from behind its </ on
pub record EndTagInside (s : List ℕ) (at : ℕ) (e : EndTag) : Type 0 where
  pub name : NameInside s at e.name
  pub onward : e.name.end < e.next
  pub inside : e.next ≤ length s

abbrev pub EndedInside : List ℕ → ℕ → Ended → Type 0
EndedInside s at (Ok e) = EndTagInside s at e
EndedInside s at (Err x) = StopInside s at x

pub end_tag_inside : (s : List ℕ) (at : ℕ) → EndedInside s at (end_tag_at s at)
unfolding end_tag_at
end_tag_inside s at =
    after_name_inside (EndedInside s at) Err (NameInside s at) s at (name_at s at) _ (name_inside s at) (λ (x : Stop) h. h) (λ (name : Name) n.
    after_inside (EndedInside s at) Err (SpacesTo s name.end) s name.end (spaces_end s name.end) _ (spaces_inside s name.end) (stop_later s at name.end (omega arith)) (λ (i : ℕ) h.
    after_inside (EndedInside s at) Err (ByteTo s i 0x3E) s i (wanted s i 0x3E) _ (wanted_inside s i 0x3E) (stop_later s at i (omega arith)) (λ (next : ℕ) k.
    record { name = n; onward = omega arith; inside = omega arith })))

-- ---- of an answer r, of which a contract says one thing and a `match` another
pub spaces_in : (s : List ℕ) (at : ℕ) (r m : Read) → r ≡ spaces_end s at → r ≡ m → ReadInside (SpacesTo s at) s at m
spaces_in s at r m p q = subst (ReadInside (SpacesTo s at) s at) (sym p ∙ q) (spaces_inside s at)

pub part_in : (s : List ℕ) (at : ℕ) (r m : Read) → r ≡ part_end s at → r ≡ m → ReadInside (PartTo s at) s at m
part_in s at r m p q = subst (ReadInside (PartTo s at) s at) (sym p ∙ q) (part_inside s at)

pub name_in : (s : List ℕ) (at : ℕ) (r m : Named) → r ≡ name_at s at → r ≡ m → NamedInside (NameInside s at) s at m
name_in s at r m p q = subst (NamedInside (NameInside s at) s at) (sym p ∙ q) (name_inside s at)

pub wanted_in : (s : List ℕ) (at byte : ℕ) (r m : Read) → r ≡ wanted s at byte → r ≡ m → ReadInside (ByteTo s at byte) s at m
wanted_in s at byte r m p q = subst (ReadInside (ByteTo s at byte) s at) (sym p ∙ q) (wanted_inside s at byte)

pub equals_in : (s : List ℕ) (at : ℕ) (r m : Read) → r ≡ equals_end s at → r ≡ m → ReadInside (EqualsTo s at) s at m
equals_in s at r m p q = subst (ReadInside (EqualsTo s at) s at) (sym p ∙ q) (equals_inside s at)

pub attribute_in : (s : List ℕ) (at : ℕ) (r m : Attributed) → r ≡ attribute_at s at → r ≡ m → AttributedInside (AttrInside s at) s at m
attribute_in s at r m p q = subst (AttributedInside (AttrInside s at) s at) (sym p ∙ q) (attribute_inside s at)

pub turn_in : (s : List ℕ) (at : ℕ) (r m : TurnRead) → r ≡ turn_at s at → r ≡ m → TurnInside s at m
turn_in s at r m p q = subst (TurnInside s at) (sym p ∙ q) (turn_inside s at)
