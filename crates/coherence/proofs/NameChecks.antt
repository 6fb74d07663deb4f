-- Bytes that are a name part or a name as a whole, told by what reads them alone: a part that they cut is one where a character ends with them.
--     part_past, part_end_lem, part_bad, part_long     a part from a place on, by the ways that reading it ends, but for
--     whole_quick, Cutting, cutting-*              one that the bytes cut: by their last byte, or a turn of `ends_whole`
--     name_alone, name_colon, ..                   a name, by what stands behind its first part
use Rattle.std.specs.Prelude.{Ok, Err}
use Prim.Native.Nat.{ℕ, zero, suc, ◌+◌, ◌-◌, ◌≤◌, ◌<◌, zero-le}
use mathlib.Core.Path.{◌≡◌, refl, sym, ap, subst, ◌∙◌}
use mathlib.Core.List.{List, [], ◌∷◌, ◌++◌}
use mathlib.Core.Bool.{Bool, true, false, cond, and-true}
use native.Mathlib.Omega.{arith}
use borrow.Author.Tests.{eq-eqb, ne_eqb, lt-ltb, eqb-false}
use lib.Arith.{lt_of_le-ne}
use lib.ListN.{length, drop, get_or, length-append, get_or-append}
use lib.Seq.{get_or_at}
use lib.Dec.{eqb}
use Rattle.laws.specs.Reading.{RunNext, go, stop, follow, run, run_go, run_stop, drop_here}
use Rattle.laws.proofs.Holds.{holds_cond}
use Rattle.laws.proofs.Flags.{differ}
use Rattle.utf8.specs.Utf8.{is_form}
use Rattle.utf8.specs.Forms.{fresh, next_form, form_of, form_from, Bounded}
use Rattle.utf8.specs.declared.Form.{Form}
use Rattle.utf8.proofs.FormLaws.{form_more, ascii_whole, begun_left}
use Rattle.characters.specs.CanBegin.{begins}
use Rattle.characters.proofs.Laws.{whole_left, ascii_breaks}
use Rattle.lexer.specs.Stops.{after_read}
use Rattle.lexer.specs.Characters.{with_byte}
use Rattle.lexer.specs.Names.{PartState, part_state, part_set, part_whole, part_step, part_end, name_of, prefixed_at, name_at}
use Rattle.lexer.specs.Whole.{part_to, name_to, is_part, is_whole_name}
use Rattle.lexer.specs.declared.Stop.{Stop}
use Rattle.lexer.specs.declared.Stop.TheVariants.{Bad, Long, Cut}
use Rattle.lexer.specs.Reads.{Read}
use Rattle.lexer.proofs.Inside.{ReadInside, PartTo, part_inside}
use Rattle.lexer.proofs.Parts.{part_refuses, no_zero_start, no_zero_char}
use Rattle.lexer.proofs.Stable.{part_stable}

-- a name whose last part is read: it ends where the part does
name_to_part : (n at part : ℕ) (r : Read) → part_to n r ≡ name_to n (after_read Err r (λ (end : ℕ). name_of at part end))
name_to_part n at part (Ok j) = refl
name_to_part n at part (Err x) = refl

differs : {A : Type 0} (j : ℕ) (x : Stop) → ◌≡◌ {A = Read} (Ok j) (Err x) → A
differs j x e = let z : ◌≡◌ {A = ℕ} 0 1 = cc in absurd (omega arith)

bad_cut : {A : Type 0} (j : ℕ) → ◌≡◌ {A = Read} (Err (Bad j)) (Err Cut) → A
bad_cut j e = let z : ◌≡◌ {A = ℕ} 0 1 = cc in absurd (omega arith)

long_cut : {A : Type 0} (j : ℕ) → ◌≡◌ {A = Read} (Err (Long j)) (Err Cut) → A
long_cut j e = let z : ◌≡◌ {A = ℕ} 0 1 = cc in absurd (omega arith)

abbrev behind : PartState → ℕ → PartState
behind q b = part_state (q.room - 1) (with_byte q.begun b)

-- a step behind which the machine is cut: the byte is allowed, and there is room
steps_on : (q : PartState) (b i : ℕ) (k : PartState → Read) → follow (part_step q b i) k ≡ Err Cut → (begins (part_set q) q.begun b ≡ true) × (q.room ≡ 0 → ⊥)
steps_on q b i k =
    holds_cond Turn (begins (part_set q) q.begun b)
    (λ e. holds_cond Turn (eqb q.room 0) (λ z f. long_cut i f) (λ z f. (e, eqb-false q.room 0 z)))
    (λ e. holds_cond Out (part_whole q) (λ w f. differs i Cut f) (λ w f. bad_cut i f))
  where
    Out : Read → Type 0
    Out r = r ≡ Err Cut → (begins (part_set q) q.begun b ≡ true) × (q.room ≡ 0 → ⊥)

    Turn : RunNext PartState Read → Type 0
    Turn n = Out (follow n k)

-- a byte that no name has ends a part, or breaks it
zero_stops : (q : PartState) (i : ℕ) → part_step q 0 i ≡ stop (cond (part_whole q) (Ok i) (Err (Bad i)))
zero_stops q i = rw (part_refuses q 0 (omega arith) no_zero_start no_zero_char)

-- a byte below 80 that is allowed stands behind a whole character, and is one
low_whole : (q : PartState) (b : ℕ) → b < 0x80 → begins (part_set q) q.begun b ≡ true → with_byte q.begun b ≡ []
unfolding with_byte
low_whole q b h = by q.begun
  where
    by : (begun : List ℕ) → begins (part_set q) begun b ≡ true → cond (is_form (begun ++ (b ∷ []))) [] (begun ++ (b ∷ [])) ≡ []
    by [] e = rw (ascii_whole b h)
    by (a ∷ begun) e = absurd (differ (sym e ∙ ascii_breaks (part_set q) a begun b h))

-- the form of bytes that are begun is another than that of none
fresh_left : (bytes : List ℕ) → eqb (form_of bytes).left 4 ≡ eqb (length bytes) 0
unfolding form_of form_from
fresh_left [] = refl
fresh_left (a ∷ bytes) = ne_eqb (form_of (a ∷ bytes)).left 4 (λ e. omega (arith, begun_left a bytes)) ∙ sym (ne_eqb (length (a ∷ bytes)) 0 (λ e. omega arith))

part_to_lem : (w : Bool) (n : ℕ) → w ≡ part_to n (cond w (Ok n) (Err (Bad n)))
part_to_lem true n = sym (eq-eqb n n refl)
part_to_lem false n = refl

-- a part from `at` on that l cuts, read up to i: the machine over l, and with a byte behind that no name has
pub record Along (l : List ℕ) (at i : ℕ) (q : PartState) : Type 0 where
  pub most : i ≤ length l
  pub room : q.room + i ≡ at + 64
  pub cut : run (Err Cut) part_step q (drop i l) i ≡ Err Cut
  pub left : run (Err Cut) part_step q (drop i (l ++ (0 ∷ []))) i ≡ part_end (l ++ (0 ∷ [])) at

-- the same, and f what the bytes of a character that is not whole say
pub record Cutting (l : List ℕ) (at : ℕ) (f : Form) (i : ℕ) : Type 0 where
  pub state : PartState
  pub along : Along l at i state
  pub said : f ≡ form_of state.begun
  pub small : Bounded f

module _ (l : List ℕ) where
  -- with a byte behind that no name has
  abbrev ended : List ℕ
  ended = l ++ (0 ∷ [])

  ended_long : length ended ≡ length l + 1
  ended_long = length-append l (0 ∷ [])

  ended_byte : get_or ended (length l) 0 ≡ 0
  ended_byte = get_or_at l 0 [] 0 (length l) refl

  -- ---- a part that l cuts
  module _ (at : ℕ) where
    along_starts : at ≤ length l → part_end l at ≡ Err Cut → Along l at at (part_state 64 [])
    unfolding part_end
    along_starts h e = record { most = h; room = omega arith; cut = e; left = refl }

    module _ (i : ℕ) (q : PartState) (a : Along l at i q) (h : i < length l) where
      along_goes : (begins (part_set q) q.begun (get_or l i 0) ≡ true) × (q.room ≡ 0 → ⊥)
      unfolding run
      along_goes =
          let f : PartState → Read = λ q'. run (Err Cut) part_step q' (drop (i + 1) l) (i + 1) in
          let e : follow (part_step q (get_or l i 0) i) f ≡ Err Cut = ap (λ (m : List ℕ). run (Err Cut) part_step q m i) (sym (drop_here l i h)) ∙ a.cut in
          steps_on q (get_or l i 0) i f e

      along_on : Along l at (i + 1) (behind q (get_or l i 0))
      along_on =
          let r = a.room in
          let n = along_goes.1 in
          let g : go (behind q (get_or l i 0)) ≡ part_step q (get_or l i 0) i = rw (along_goes.0, ne_eqb q.room 0 n) in
          record {
            most = omega arith;
            room = omega (arith, lt_of_le-ne zero-le (λ e. n (sym e)));
            cut = run_go (Err Cut) part_step (Err Cut) q l i a.cut h (behind q (get_or l i 0)) g;
            left = run_go (Err Cut) part_step (part_end ended at) q ended i a.left (omega (arith, ended_long)) (behind q (get_or l i 0)) (rw (get_or-append l (0 ∷ []) 0 i h) g);
          }

    along_to : part_end l at ≡ Err Cut → (n j : ℕ) → at + n ≡ j → j ≤ length l → (q : PartState) × Along l at j q
    along_to e zero j k h = let z : at ≡ j = omega arith in (part_state 64 [], rw (← z) (along_starts (omega arith) e))
    along_to e (suc n) j k h =
        let t = along_to e n (at + n) refl (omega arith) in
        let z : at + n + 1 ≡ j = omega arith in
        subst (λ (m : ℕ). (q : PartState) × Along l at m q) z (behind t.0 (get_or l (at + n) 0), along_on (at + n) t.0 t.1 (omega arith))

    module _ (q : PartState) (a : Along l at (length l) q) where
      along_ends : cond (part_whole q) (Ok (length l)) (Err (Bad (length l))) ≡ part_end ended at
      along_ends =
          run_stop (Err Cut) part_step (part_end ended at) q ended (length l) a.left (omega (arith, ended_long)) _
          (rw ended_byte (sym (zero_stops q (length l))))

      along_told : at < length l → eqb (length q.begun) 0 ≡ part_to (length l) (part_end ended at)
      along_told h =
          let w : part_whole q ≡ eqb (length q.begun) 0 = simp (ne_eqb q.room 64 (λ e. omega (arith, a.room)), and-true) in
          sym w ∙ part_to_lem (part_whole q) (length l) ∙ ap (part_to (length l)) along_ends

    module _ (h : at < length l) (e : part_end l at ≡ Err Cut) where
      -- by the last byte
      pub whole_quick : get_or l (length l - 1) 0 < 0x80 → true ≡ part_to (length l) (part_end ended at)
      whole_quick low =
          let i : ℕ = length l - 1 in
          let t = along_to e (i - at) i (omega arith) (omega arith) in
          let z = low_whole t.0 (get_or l i 0) low (along_goes i t.0 t.1 (omega arith)).0 in
          let k : i + 1 ≡ length l = omega arith in
          let q = behind t.0 (get_or l i 0) in
          sym (ap (λ (m : List ℕ). eqb (length m) 0) z) ∙ along_told q (subst (λ (m : ℕ). Along l at m q) k (along_on i t.0 t.1 (omega arith))) h

      pub cutting_starts : (f : Form) → (f ≡ fresh) × Bounded f → Cutting l at f at
      unfolding form_of form_from
      cutting_starts f k = record { state = part_state 64 []; along = along_starts (omega arith) e; said = k.0; small = k.1 }

    module _ (f : Form) (i : ℕ) (r : Cutting l at f i) where
      pub cutting_ends : at < length l → length l ≤ i → eqb f.left 4 ≡ part_to (length l) (part_end ended at)
      cutting_ends h past =
          let q = r.state in
          let k : i ≡ length l = omega (arith, r.along.most) in
          ap (λ (g : Form). eqb g.left 4) r.said ∙ fresh_left q.begun ∙ along_told q (rw k at r.along) h

      module _ (h : i < length l) (g : Form) (k : (g ≡ next_form f (get_or l i 0)) × Bounded g) where
        abbrev q : PartState
        q = r.state

        next_said : g ≡ next_form (form_of q.begun) (get_or l i 0)
        next_said = k.0 ∙ ap (λ (x : Form). next_form x (get_or l i 0)) r.said

        -- whether the byte ends a character
        next_whole : is_form (q.begun ++ (get_or l i 0 ∷ [])) ≡ eqb g.left 0
        next_whole = whole_left (part_set q) q.begun (get_or l i 0) (along_goes i q r.along h).0 ∙ ap (λ (x : Form). eqb x.left 0) (sym next_said)

        pub cutting_on : (g.left ≡ 0 → ⊥) → Cutting l at g (i + 1)
        unfolding with_byte
        cutting_on z =
            record {
              state = behind q (get_or l i 0);
              along = along_on i q r.along h;
              said = next_said ∙ sym (form_more q.begun (get_or l i 0)) ∙ rw (next_whole, ne_eqb g.left 0 z);
              small = k.1;
            }

        pub cutting_whole : g.left ≡ 0 → (f' : Form) → (f' ≡ fresh) × Bounded f' → Cutting l at f' (i + 1)
        unfolding with_byte form_of form_from
        cutting_whole z f' n =
            record {
              state = behind q (get_or l i 0);
              along = along_on i q r.along h;
              said = n.0 ∙ rw (next_whole, eq-eqb g.left 0 z);
              small = n.1;
            }

    -- ---- the other ways out of a part from a place on
    part_kept : (r : Read) → r ≡ part_end l at → (r ≡ Err Cut → ⊥) → part_end ended at ≡ r
    part_kept r e n = part_stable l (0 ∷ []) at (λ q. n (e ∙ q)) ∙ sym e

    pub part_ends : (j : ℕ) → Ok j ≡ part_end l at → (at < j) × (j < length l)
    part_ends j e = let h : PartTo l at j = subst (ReadInside (PartTo l at) l at) (sym e) (part_inside l at) in (h.0, h.1)

    pub part_past : length l ≤ at → false ≡ part_to (length l) (part_end ended at)
    part_past h = by (part_end ended at) (part_inside ended at)
      where
        by : (r : Read) → ReadInside (PartTo ended at) ended at r → false ≡ part_to (length l) r
        by (Ok j) k = sym (ne_eqb j (length l) (λ e. omega (arith, ended_long)))
        by (Err x) k = refl

    -- r: what reads it
    module _ (r : Read) (a : r ≡ part_end l at) where
      pub part_end_lem : (j : ℕ) → r ≡ Ok j → false ≡ part_to (length l) (part_end ended at)
      part_end_lem j q =
          let e : Ok j ≡ part_end l at = sym q ∙ a in
          rw (part_kept (Ok j) e (differs j Cut)) (sym (ne_eqb j (length l) (λ z. omega (arith, part_ends j e))))

      module _ (x : Stop) (q : r ≡ Err x) where
        pub part_bad : (j : ℕ) → x ≡ Bad j → false ≡ part_to (length l) (part_end ended at)
        part_bad j f = rw (part_kept (Err (Bad j)) (sym (q ∙ ap Err f) ∙ a) (bad_cut j))

        pub part_long : (j : ℕ) → x ≡ Long j → false ≡ part_to (length l) (part_end ended at)
        part_long j f = rw (part_kept (Err (Long j)) (sym (q ∙ ap Err f) ∙ a) (long_cut j))

  pub is_part_lem : (r : Bool) → r ≡ part_to (length l) (part_end ended 0) → r ≡ is_part l
  unfolding is_part
  is_part_lem r e = e

  -- the ways out of a name whose first part ends at j
  module _ (v : Read) (a : v ≡ part_end l 0) (j : ℕ) (q : v ≡ Ok j) where
    e : Ok j ≡ part_end l 0
    e = sym q ∙ a

    first_part : part_end ended 0 ≡ Ok j
    first_part = part_kept 0 (Ok j) e (differs j Cut)

    pub name_colon : j < length l → get_or l j 0 ≡ 0x3A → (r : Bool) → r ≡ part_to (length l) (part_end ended (j + 1)) → r ≡ is_whole_name l
    unfolding is_whole_name name_at prefixed_at
    name_colon h c r f =
        rw (first_part, lt-ltb j (length ended) (omega (arith, ended_long)), get_or-append l (0 ∷ []) 0 j h, c)
        (f ∙ name_to_part (length l) 0 (j + 1) (part_end ended (j + 1)))

    pub name_other : j < length l → (get_or l j 0 ≡ 0x3A → ⊥) → false ≡ is_whole_name l
    unfolding is_whole_name name_at
    name_other h c =
        rw (first_part, lt-ltb j (length ended) (omega (arith, ended_long)), get_or-append l (0 ∷ []) 0 j h, ne_eqb (get_or l j 0) 0x3A c)
        (sym (ne_eqb j (length l) (λ q. omega arith)))

  -- a part that l cuts ends with it, or breaks there
  name_alone_cut : part_end l 0 ≡ Err Cut → is_part l ≡ is_whole_name l
  unfolding is_part is_whole_name name_at
  name_alone_cut e =
      let t = along_to 0 e (length l) (length l) (omega arith) (omega arith) in
      by (part_whole t.0) (along_ends 0 t.0 t.1)
    where
      by : (w : Bool) → cond w (Ok (length l)) (Err (Bad (length l))) ≡ part_end ended 0 → is_part l ≡ is_whole_name l
      by true f = rw (← f, lt-ltb (length l) (length ended) (omega (arith, ended_long)), ended_byte)
      by false f = rw (← f)

alone : (l : List ℕ) (x : Stop) → Err x ≡ part_end l 0 → is_part l ≡ is_whole_name l
unfolding is_part is_whole_name name_at
alone l (Bad j) e = rw (part_kept l 0 (Err (Bad j)) e (bad_cut j))
alone l (Long j) e = rw (part_kept l 0 (Err (Long j)) e (long_cut j))
alone l Cut e = name_alone_cut l (sym e)

-- no part is read to its end: a part alone, or no name
pub name_alone : (l : List ℕ) (v : Read) → v ≡ part_end l 0 → (x : Stop) → v ≡ Err x → (r : Bool) → r ≡ is_part l → r ≡ is_whole_name l
name_alone l v a x q r e = e ∙ alone l x (sym q ∙ a)
