-- A scene that ends too soon can go on: bytes behind it with which an attribute or a tag is read to its end, and the next event begins.
--     attribute_completed, tag_completed, end_tag_completed
--     Begins, begin_completed                        a whole tag begins, or behind the root nothing more
use Rattle.std.specs.declared.ops.ControlFlow.TheVariants.{Break, Continue}
use Rattle.std.specs.Prelude.{Ok, Err}
use Prim.Native.Nat.{ℕ, zero, suc, ◌+◌, ◌≤◌, ◌<◌}
use mathlib.Core.Path.{◌≡◌, refl, sym, ap, subst, ◌∙◌}
use mathlib.Core.List.{List, [], ◌∷◌, ◌++◌, append_assoc, append-nil}
use mathlib.Core.Bool.{Bool, true, false, cond, not, ◌||◌}
use mathlib.Core.Logic.{◌⊎◌, inl, inr, ⊎_elim}
use native.Mathlib.Omega.{arith}
use borrow.Author.Tests.{eqb-true, eq-eqb, lt-ltb}
use lib.ListN.{length, get_or, length-append}
use lib.Dec.{eqb}
use Rattle.laws.specs.Reading.{run, le_or_lt, drop_out}
use Rattle.utf8.specs.declared.Set.TheVariants as set
use Rattle.characters.specs.CanBegin.{begins}
use Rattle.lexer.specs.Computing.{computing}
use Rattle.lexer.specs.Stops.{after_read, after_name}
use Rattle.lexer.specs.Names.{spaces_end, name_at}
use Rattle.lexer.specs.Values.{value_end}
use Rattle.lexer.specs.Tags.{wanted, equals_end, attr_of, quoted_at, attribute_at, slash_at, turn_behind, turn_at, TagRead, tag_stopped, full_turn, attr_then, turn_then, attrs_from, tag_at, end_tag_at}
use Rattle.lexer.specs.Misc.{misc_end}
use Rattle.lexer.specs.Begins.{stopped_ahead, misc_ahead, opens_misc, markup_at, either_at, ending, ahead_at, ahead_then, begin_at}
use Rattle.lexer.specs.declared.Stop.{Stop}
use Rattle.lexer.specs.declared.Stop.TheVariants.{Bad, Long, Cut}
use Rattle.lexer.specs.Reads.{Read, Named, Attributed, TurnRead, Tagged, Ended, BeginRead}
use Rattle.lexer.specs.declared.Name.{Name}
use Rattle.lexer.specs.declared.Attr.{Attr}
use Rattle.lexer.specs.declared.Turn.TheVariants as turn
use Rattle.lexer.specs.declared.Begin.TheVariants as begin
use Rattle.lexer.proofs.Inside.{ReadInside, SpacesTo, spaces_inside, NameInside, NamedInside, name_inside, ByteTo, wanted_inside, EqualsTo, equals_inside, AttrInside, AttributedInside, attribute_inside, TurnInside, turn_inside}
use Rattle.lexer.proofs.Stable.{spaces_stable, name_stable, wanted_stable, equals_stable, attribute_stable, turn_stable}
use Rattle.lexer.proofs.BeginLaws.{begin_is, begin_held, CutAhead, ahead_stable}
use Rattle.lexer.proofs.Parts.{no_gt_char}
use Rattle.demands.specs.Answers.{Overfull}
use Rattle.demands.proofs.MiscCompleted.{misc_completed, misc_begins}
use Rattle.demands.proofs.CompletedParts.{or_full, Byte, byte_in, byte_kept, Rest, read_so, spaces_here, spaces_completed, letter_part, NameDone, name_completed, value_here, ValueDone, value_completed}

-- ---- an attribute
wanted_here : (s : List ℕ) (i b : ℕ) → Byte s i b → wanted s i b ≡ Ok (i + 1)
unfolding wanted
wanted_here s i b h = rw (lt-ltb i (length s) h.0, h.1, eq-eqb b b refl)

wanted_out : (s : List ℕ) (i b : ℕ) → wanted s i b ≡ Err Cut → length s ≤ i
unfolding wanted
wanted_out s i b e = ⊎_elim (λ le. le) (λ lt. absurd (by (eqb (get_or s i 0) b) (rw (lt-ltb i (length s) lt) at e))) (le_or_lt (length s) i)
  where
    by : (t : Bool) → cond t (Ok (i + 1)) (Err (Bad i)) ≡ Err Cut → ⊥
    by true f = let z : ◌≡◌ {A = ℕ} 0 1 = cc in omega arith
    by false f = let z : ◌≡◌ {A = ℕ} 0 1 = cc in omega arith

equals_here : (s : List ℕ) (at i : ℕ) → spaces_end s at ≡ Ok i → Byte s i 0x3D → Byte s (i + 1) 0x27 → equals_end s at ≡ Ok (i + 1)
unfolding equals_end
equals_here s at i e h k = rw (e, wanted_here s i 0x3D h, spaces_here s (i + 1) 0x27 k refl)

quoted_here : (s : List ℕ) (name : Name) (i : ℕ) → Byte s i 0x27 → Byte s (i + 1) 0x27 → quoted_at s name i ≡ Ok (attr_of name (i + 1) (i + 1))
unfolding quoted_at
quoted_here s name i h k = rw (lt-ltb i (length s) h.0, h.1, value_here s 0x27 (i + 1) k)

quoted_by : (s : List ℕ) (name : Name) (at : ℕ) → at < length s → quoted_at s name at ≡ Err Cut
    → cond (eqb (get_or s at 0) 0x22 || eqb (get_or s at 0) 0x27) (after_read Err (value_end s (at + 1) (get_or s at 0)) (λ (stop : ℕ). Ok (attr_of name (at + 1) stop))) (Err (Bad at)) ≡ Err Cut
unfolding quoted_at
quoted_by s name at lt e = (rw (lt-ltb at (length s) lt) at e)

equals_by : (s : List ℕ) (at : ℕ) → equals_end s at ≡ Err Cut → after_read Err (spaces_end s at) (λ (i : ℕ). after_read Err (wanted s i 0x3D) (λ (j : ℕ). spaces_end s j)) ≡ Err Cut
unfolding equals_end
equals_by s at e = e

no_equals_char : begins set.Name [] 0x3D ≡ false
unfolding computing
no_equals_char = refl

-- its rest, up to its quote
pub record AttrDone (s : List ℕ) (at : ℕ) : Type 0 where
  pub more : List ℕ
  pub few : length more ≤ 6
  pub done : (u : List ℕ) → (a : Attr) × (attribute_at (s ++ (more ++ u)) at ≡ Ok a) × (a.stop + 1 ≡ length s + length more)

module _ (s : List ℕ) (at : ℕ) where
  attr_named : NameDone s at → AttrDone s at
  unfolding attribute_at
  attr_named n =
      let w : List ℕ = 0x3D ∷ 0x27 ∷ 0x27 ∷ [] in
      record {
        more = n.more ++ w;
        few = omega (arith, length-append n.more w, n.few);
        done =
            λ u.
            let d = n.done 0x3D (0x27 ∷ 0x27 ∷ u) no_equals_char refl in
            let i = d.0.end in
            let S = s ++ (n.more ++ (0x3D ∷ 0x27 ∷ 0x27 ∷ u)) in
            let b0 = byte_in s n.more (0x3D ∷ 0x27 ∷ 0x27 ∷ u) 0 i (omega (arith, d.2)) (omega arith) in
            let b1 = byte_in s n.more (0x3D ∷ 0x27 ∷ 0x27 ∷ u) 1 (i + 1) (omega (arith, d.2)) (omega arith) in
            let b2 = byte_in s n.more (0x3D ∷ 0x27 ∷ 0x27 ∷ u) 2 (i + 1 + 1) (omega (arith, d.2)) (omega arith) in (
              attr_of d.0 (i + 1 + 1) (i + 1 + 1),
              rw (append_assoc n.more w u, d.1, equals_here S i i (spaces_here S i 0x3D b0 refl) b0 b1) (quoted_here S d.0 (i + 1) b1 b2),
              omega (arith, length-append n.more w, d.2),
            );
      }

  module _ (name : Name) (f : name_at s at ≡ Ok name) where
    named_so : (t : List ℕ) → name_at (s ++ t) at ≡ Ok name
    named_so t = name_stable s t at (λ c. let d : Ok name ≡ Err Cut = sym f ∙ c in let z : ◌≡◌ {A = ℕ} 0 1 = cc in omega arith) ∙ f

    -- before the =
    attr_spaced : name.end ≤ length s → spaces_end s name.end ≡ Err Cut → AttrDone s at
    unfolding attribute_at
    attr_spaced le e =
        record {
          more = 0x3D ∷ 0x27 ∷ 0x27 ∷ [];
          few = omega arith;
          done =
              λ u.
              let S = s ++ (0x3D ∷ 0x27 ∷ 0x27 ∷ u) in
              let i = length s in
              let b0 = byte_in s [] (0x3D ∷ 0x27 ∷ 0x27 ∷ u) 0 i (omega arith) (omega arith) in
              let b1 = byte_in s [] (0x3D ∷ 0x27 ∷ 0x27 ∷ u) 1 (i + 1) (omega arith) (omega arith) in
              let b2 = byte_in s [] (0x3D ∷ 0x27 ∷ 0x27 ∷ u) 2 (i + 1 + 1) (omega arith) (omega arith) in (
                attr_of name (i + 1 + 1) (i + 1 + 1),
                rw (named_so (0x3D ∷ 0x27 ∷ 0x27 ∷ u), equals_here S name.end i (spaces_completed s name.end le e 0x3D (0x27 ∷ 0x27 ∷ u) refl) b0 b1) (quoted_here S name (i + 1) b1 b2),
                omega arith,
              );
        }

    -- behind it
    attr_equals : (i : ℕ) → i < length s → spaces_end s name.end ≡ Ok i → wanted s i 0x3D ≡ Ok (i + 1) → spaces_end s (i + 1) ≡ Err Cut → AttrDone s at
    unfolding attribute_at equals_end
    attr_equals i lt e w c =
        record {
          more = 0x27 ∷ 0x27 ∷ [];
          few = omega arith;
          done =
              λ u.
              let S = s ++ (0x27 ∷ 0x27 ∷ u) in
              let k = length s in
              let b0 = byte_in s [] (0x27 ∷ 0x27 ∷ u) 0 k (omega arith) (omega arith) in
              let b1 = byte_in s [] (0x27 ∷ 0x27 ∷ u) 1 (k + 1) (omega arith) (omega arith) in
              let e' : spaces_end S name.end ≡ Ok i = read_so (spaces_end s name.end) (spaces_end S name.end) i e (spaces_stable s (0x27 ∷ 0x27 ∷ u) name.end) in
              let w' : wanted S i 0x3D ≡ Ok (i + 1) = read_so (wanted s i 0x3D) (wanted S i 0x3D) (i + 1) w (wanted_stable s (0x27 ∷ 0x27 ∷ u) i 0x3D) in (
                attr_of name (k + 1) (k + 1),
                rw (named_so (0x27 ∷ 0x27 ∷ u), e', w', spaces_completed s (i + 1) (omega arith) c 0x27 (0x27 ∷ u) refl) (quoted_here S name k b0 b1),
                omega arith,
              );
        }

    -- inside the value
    attr_quoted : (quote : ℕ) → quote < length s → equals_end s name.end ≡ Ok quote → (eqb (get_or s quote 0) 0x22 || eqb (get_or s quote 0) 0x27) ≡ true → ValueDone s (quote + 1) (get_or s quote 0) → AttrDone s at
    unfolding attribute_at quoted_at
    attr_quoted quote lt e q v =
        let b = get_or s quote 0 in
        record {
          more = v.more ++ (b ∷ []);
          few = omega (arith, length-append v.more (b ∷ []), v.few);
          done =
              λ u.
              let S = s ++ (v.more ++ (b ∷ u)) in
              let h = byte_kept s (v.more ++ (b ∷ u)) quote lt in
              let e' : equals_end S name.end ≡ Ok quote = read_so (equals_end s name.end) (equals_end S name.end) quote e (equals_stable s (v.more ++ (b ∷ u)) name.end) in (
                attr_of name (quote + 1) (length s + length v.more),
                rw (append_assoc v.more (b ∷ []) u, named_so (v.more ++ (b ∷ u)), e', lt-ltb quote (length S) h.0, h.1, q, v.done u),
                omega (arith, length-append v.more (b ∷ [])),
              );
        }

  pub attribute_completed : at ≤ length s → attribute_at s at ≡ Err Cut → AttrDone s at ⊎ Overfull s (λ (S : List ℕ) (p : ℕ). attribute_at S at ≡ Err (Long p))
  unfolding attribute_at
  attribute_completed le e = by (name_at s at) refl (name_inside s at) e
    where
      Behind : Name → Attributed
      Behind name = after_read Err (equals_end s name.end) (λ (quote : ℕ). quoted_at s name quote)

      value : (name : Name) → name_at s at ≡ Ok name → (quote : ℕ) → quote < length s → equals_end s name.end ≡ Ok quote → (q : Bool) → (eqb (get_or s quote 0) 0x22 || eqb (get_or s quote 0) 0x27) ≡ q → (r : Read) → value_end s (quote + 1) (get_or s quote 0) ≡ r
          → cond q (after_read Err r (λ (stop : ℕ). Ok (attr_of name (quote + 1) stop))) (Err (Bad quote)) ≡ Err Cut → AttrDone s at
      value name f quote lt g false q r h e = let z : ◌≡◌ {A = ℕ} 0 1 = cc in absurd (omega arith)
      value name f quote lt g true q (Ok j) h e = let z : ◌≡◌ {A = ℕ} 0 1 = cc in absurd (omega arith)
      value name f quote lt g true q (Err x) h e = let c : Err x ≡ Err Cut = cc in attr_quoted name f quote lt g q (value_completed s (get_or s quote 0) (quote + 1) (omega arith) (h ∙ c))

      quoted : (name : Name) → name_at s at ≡ Ok name → (quote : ℕ) → quote < length s → equals_end s name.end ≡ Ok quote → quoted_at s name quote ≡ Err Cut → AttrDone s at
      quoted name f quote lt g e =
          value name f quote lt g (eqb (get_or s quote 0) 0x22 || eqb (get_or s quote 0) 0x27) refl (value_end s (quote + 1) (get_or s quote 0)) refl (quoted_by s name quote lt e)

      spaced : (name : Name) → name_at s at ≡ Ok name → (i : ℕ) → i < length s → spaces_end s name.end ≡ Ok i → (r : Read) → wanted s i 0x3D ≡ r → ReadInside (ByteTo s i 0x3D) s i r → after_read Err r (λ (j : ℕ). spaces_end s j) ≡ Err Cut → AttrDone s at
      spaced name f i lt g (Ok j) h to e =
          attr_equals name f i lt g (h ∙ ap Ok to.0) (ap (spaces_end s) (sym to.0) ∙ e)
      spaced name f i lt g (Err x) h to e = let c : Err x ≡ Err Cut = cc in absurd (omega (arith, wanted_out s i 0x3D (h ∙ c)))

      equals : (name : Name) → name_at s at ≡ Ok name → NameInside s at name → (r : Read) → spaces_end s name.end ≡ r → ReadInside (SpacesTo s name.end) s name.end r → after_read Err r (λ (i : ℕ). after_read Err (wanted s i 0x3D) (λ (j : ℕ). spaces_end s j)) ≡ Err Cut → AttrDone s at
      equals name f n (Ok i) g to e = spaced name f i to.1 g (wanted s i 0x3D) refl (wanted_inside s i 0x3D) e
      equals name f n (Err x) g to e = let c : Err x ≡ Err Cut = cc in attr_spaced name f (omega (arith, n.inside)) (g ∙ c)

      behind : (name : Name) → name_at s at ≡ Ok name → NameInside s at name → (r : Read) → equals_end s name.end ≡ r → ReadInside (EqualsTo s name.end) s name.end r → after_read Err r (λ (quote : ℕ). quoted_at s name quote) ≡ Err Cut → AttrDone s at
      behind name f n (Ok quote) g to e = quoted name f quote to.1 g e
      behind name f n (Err x) g to e = let c : Err x ≡ Err Cut = cc in equals name f n (spaces_end s name.end) refl (spaces_inside s name.end) (equals_by s name.end (g ∙ c))

      by : (r : Named) → name_at s at ≡ r → NamedInside (NameInside s at) s at (name_at s at) → after_name Err r Behind ≡ Err Cut → AttrDone s at ⊎ Overfull s (λ (S : List ℕ) (p : ℕ). attribute_at S at ≡ Err (Long p))
      by (Ok name) f i e =
          inl (behind name f (subst (NamedInside (NameInside s at) s at) f i) (equals_end s name.end) refl (equals_inside s name.end) e)
      by (Err x) f i e = let c : Err x ≡ Err Cut = cc in or_full attr_named (λ t p r. rw r) (name_completed s at le (f ∙ c))

-- ---- what stands behind a tag's name or an attribute: its >
abbrev gt : List ℕ
gt = 0x3E ∷ []

turn_closes : (s : List ℕ) (at i : ℕ) → spaces_end s at ≡ Ok i → Byte s i 0x3E → turn_at s at ≡ Ok (turn.Close (i + 1) false)
unfolding turn_at turn_behind
turn_closes s at i e h = rw (e, lt-ltb i (length s) h.0, h.1)

slash_closes : (s : List ℕ) (at i : ℕ) → spaces_end s at ≡ Ok i → Byte s i 0x2F → Byte s (i + 1) 0x3E → turn_at s at ≡ Ok (turn.Close (i + 1 + 1) true)
unfolding turn_at turn_behind slash_at
slash_closes s at i e h k = rw (e, lt-ltb i (length s) h.0, h.1, wanted_here s (i + 1) 0x3E k)

abbrev TurnDone : List ℕ → ℕ → Type 0
TurnDone s at = (next : ℕ) × (empty : Bool) × (turn_at (s ++ gt) at ≡ Ok (turn.Close next empty))

turn_completed : (s : List ℕ) (at : ℕ) → at ≤ length s → turn_at s at ≡ Err Cut → TurnDone s at
unfolding turn_at turn_behind slash_at
turn_completed s at le e = by (spaces_end s at) refl (spaces_inside s at) e
  where
    slash : (i : ℕ) → i < length s → spaces_end s at ≡ Ok i → get_or s i 0 ≡ 0x2F → (r : Read) → wanted s (i + 1) 0x3E ≡ r → after_read Err r (λ (next : ℕ). Ok (turn.Close next true)) ≡ Err Cut → TurnDone s at
    slash i lt f b (Ok j) g e = let z : ◌≡◌ {A = ℕ} 0 1 = cc in absurd (omega arith)
    slash i lt f b (Err x) g e =
        let c : Err x ≡ Err Cut = cc in
        let h = byte_kept s gt i lt in
        let f' : spaces_end (s ++ gt) at ≡ Ok i = read_so (spaces_end s at) (spaces_end (s ++ gt) at) i f (spaces_stable s gt at) in
        (i + 1 + 1, true, slash_closes (s ++ gt) at i f' (h.0, h.1 ∙ b) (byte_in s [] gt 0 (i + 1) (omega (arith, wanted_out s (i + 1) 0x3E (g ∙ c))) (omega arith)))

    byte : (i : ℕ) → i < length s → spaces_end s at ≡ Ok i → (a : Bool) (b : Bool) → eqb (get_or s i 0) 0x2F ≡ b → (c d : Bool)
        → cond a (Ok (turn.Close (i + 1) false)) (cond b (after_read Err (wanted s (i + 1) 0x3E) (λ (next : ℕ). Ok (turn.Close next true))) (cond c (Err (Bad i)) (cond d (Ok (turn.Attribute i)) (Err (Bad i))))) ≡ Err Cut
        → TurnDone s at
    byte i lt f true b q c d e = let z : ◌≡◌ {A = ℕ} 0 1 = cc in absurd (omega arith)
    byte i lt f false true q c d e = slash i lt f (eqb-true (get_or s i 0) 0x2F q) (wanted s (i + 1) 0x3E) refl e
    byte i lt f false false q true d e = let z : ◌≡◌ {A = ℕ} 0 1 = cc in absurd (omega arith)
    byte i lt f false false q false true e = let z : ◌≡◌ {A = ℕ} 0 1 = cc in absurd (omega arith)
    byte i lt f false false q false false e = let z : ◌≡◌ {A = ℕ} 0 1 = cc in absurd (omega arith)

    by : (r : Read) → spaces_end s at ≡ r → ReadInside (SpacesTo s at) s at (spaces_end s at) → after_read Err r (λ (i : ℕ). turn_behind s at i) ≡ Err Cut → TurnDone s at
    by (Ok i) f in' e =
        let to : SpacesTo s at i = subst (ReadInside (SpacesTo s at) s at) f in' in
        byte i to.1 f (eqb (get_or s i 0) 0x3E) (eqb (get_or s i 0) 0x2F) refl (eqb i at) (begins set.Start [] (get_or s i 0)) (rw (lt-ltb i (length s) to.1) at e)
    by (Err x) f in' e =
        let c : Err x ≡ Err Cut = cc in
        (length s + 1, false, turn_closes (s ++ gt) at (length s) (spaces_completed s at le (f ∙ c) 0x3E [] refl) (byte_in s [] gt 0 (length s) (omega arith) (omega arith)))

-- ---- tags
abbrev pub IsTag : Tagged → Type 0
IsTag (Ok t) = Unit {0}
IsTag (Err x) = ⊥

attrs_close : (s : List ℕ) (name : Name) (room : ℕ) (l : List Attr) (at next : ℕ) (empty : Bool) → turn_at s at ≡ Ok (turn.Close next empty) → IsTag (attrs_from s name l room at).answer
unfolding attrs_from
attrs_close s name zero l at next empty e = rw e tt
attrs_close s name (suc room) l at next empty e = rw e tt

attrs_here : (s : List ℕ) (name : Name) (room : ℕ) (l : List Attr) (at : ℕ) → Byte s at 0x3E → IsTag (attrs_from s name l room at).answer
attrs_here s name room l at h = attrs_close s name room l at (at + 1) false (turn_closes s at at (spaces_here s at 0x3E h refl) h)

-- bytes with which P holds
pub record Done (s : List ℕ) (P : List ℕ → Type 0) : Type 0 where
  pub more : List ℕ
  pub few : length more ≤ 19
  pub done : P (s ++ more)

module _ (s : List ℕ) (name : Name) where
  attrs_completed : (room : ℕ) (l : List Attr) (i : ℕ) → i ≤ length s → (attrs_from s name l room i).answer ≡ Err Cut → Done s (λ (S : List ℕ). IsTag (attrs_from S name l room i).answer) ⊎ Overfull s (λ (S : List ℕ) (p : ℕ). (attrs_from S name l room i).answer ≡ Err (Long p))
  unfolding attrs_from
  attrs_completed zero l i le e = inl (by (turn_at s i) refl e)
    where
      by : (r : TurnRead) → turn_at s i ≡ r → (full_turn name l r).answer ≡ Err Cut → Done s (λ (S : List ℕ). IsTag (full_turn name l (turn_at S i)).answer)
      by (Ok (turn.Close next empty)) f e = let z : ◌≡◌ {A = ℕ} 0 1 = cc in absurd (omega arith)
      by (Ok (turn.Attribute j)) f e = let z : ◌≡◌ {A = ℕ} 0 1 = cc in absurd (omega arith)
      by (Err x) f e = let c : Err x ≡ Err Cut = cc in let d = turn_completed s i le (f ∙ c) in record { more = gt; few = omega arith; done = rw d.2 tt }
  attrs_completed (suc room) l i le e = by (turn_at s i) refl (turn_inside s i) e (attrs_completed room)
    where
      more : List ℕ → List Attr → ℕ → TagRead
      more S l' k = attrs_from S name l' room k

      Ih : Type 0
      Ih = (l' : List Attr) (k : ℕ) → k ≤ length s → (more s l' k).answer ≡ Err Cut → Done s (λ (S : List ℕ). IsTag (more S l' k).answer) ⊎ Overfull s (λ (S : List ℕ) (p : ℕ). (more S l' k).answer ≡ Err (Long p))

      Goal : Type 0
      Goal = Done s (λ (S : List ℕ). IsTag (turn_then S (more S) name l (turn_at S i)).answer) ⊎ Overfull s (λ (S : List ℕ) (p : ℕ). (turn_then S (more S) name l (turn_at S i)).answer ≡ Err (Long p))

      turns : (j : ℕ) → turn_at s i ≡ Ok (turn.Attribute j) → (t : List ℕ) → turn_at (s ++ t) i ≡ Ok (turn.Attribute j)
      turns j f t = turn_stable s t i (λ c. let d : Ok (turn.Attribute j) ≡ Err Cut = sym f ∙ c in let z : ◌≡◌ {A = ℕ} 0 1 = cc in omega arith) ∙ f

      attr : (j : ℕ) → j < length s → turn_at s i ≡ Ok (turn.Attribute j) → (r : Attributed) → attribute_at s j ≡ r → AttributedInside (AttrInside s j) s j r → (attr_then (more s) l r).answer ≡ Err Cut → Ih → Goal
      attr j lt f (Ok a) g n e ih =
          or_full
          (λ d. record { more = d.more; few = d.few; done = rw (turns j f d.more, so d.more) d.done })
          (λ t p r. rw (turns j f t, so t) r)
          (ih (l ++ (a ∷ [])) (a.stop + 1) (omega (arith, n.inside)) e)
        where
          so : (t : List ℕ) → attribute_at (s ++ t) j ≡ Ok a
          so t = attribute_stable s t j (λ c. let y : Ok a ≡ Err Cut = sym g ∙ c in let z : ◌≡◌ {A = ℕ} 0 1 = cc in omega arith) ∙ g
      attr j lt f (Err x) g n e ih =
          let c : Err x ≡ Err Cut = cc in
          or_full
          (λ d.
          let r = d.done gt in
          let t = d.more ++ gt in
          let h = byte_in s d.more gt 0 (r.0.stop + 1) (omega (arith, r.2)) (omega arith) in
          record {
            more = t;
            few = omega (arith, length-append d.more gt, d.few);
            done = rw (turns j f t, r.1) (attrs_here (s ++ t) name room (l ++ (r.0 ∷ [])) (r.0.stop + 1) h);
          })
          (λ t p r. rw (turns j f t) (ap (λ (x : Attributed). (attr_then (more (s ++ t)) l x).answer) r))
          (attribute_completed s j (omega arith) (g ∙ c))

      by : (r : TurnRead) → turn_at s i ≡ r → TurnInside s i (turn_at s i) → (turn_then s (more s) name l r).answer ≡ Err Cut → Ih → Goal
      by (Ok (turn.Close next empty)) f n e ih = let z : ◌≡◌ {A = ℕ} 0 1 = cc in absurd (omega arith)
      by (Ok (turn.Attribute j)) f n e ih =
          let to : TurnInside s i (Ok (turn.Attribute j)) = subst (TurnInside s i) f n in
          attr j to.1 f (attribute_at s j) refl (attribute_inside s j) e ih
      by (Err x) f n e ih = let c : Err x ≡ Err Cut = cc in let d = turn_completed s i le (f ∙ c) in inl (record { more = gt; few = omega arith; done = rw d.2 tt })

pub tag_completed : (s : List ℕ) (at : ℕ) → at ≤ length s → (tag_at s at).answer ≡ Err Cut → Done s (λ (S : List ℕ). IsTag (tag_at S at).answer) ⊎ Overfull s (λ (S : List ℕ) (p : ℕ). (tag_at S at).answer ≡ Err (Long p))
unfolding tag_at
tag_completed s at le e = by (name_at s at) refl (name_inside s at) e
  where
    Behind : List ℕ → Name → TagRead
    Behind S name = attrs_from S name [] 16 name.end

    by : (r : Named) → name_at s at ≡ r → NamedInside (NameInside s at) s at (name_at s at) → (after_name (tag_stopped []) r (Behind s)).answer ≡ Err Cut → Done s (λ (S : List ℕ). IsTag (after_name (tag_stopped []) (name_at S at) (Behind S)).answer) ⊎ Overfull s (λ (S : List ℕ) (p : ℕ). (tag_at S at).answer ≡ Err (Long p))
    by (Ok name) f i e =
        let n : NameInside s at name = subst (NamedInside (NameInside s at) s at) f i in
        or_full (λ d. record { more = d.more; few = d.few; done = rw (named_so s at name f d.more) d.done }) (λ t p r. rw (named_so s at name f t) r) (attrs_completed s name 16 [] name.end (omega (arith, n.inside)) e)
    by (Err x) f i e =
        let c : Err x ≡ Err Cut = cc in
        or_full
        (λ n.
        let d = n.done 0x3E [] no_gt_char refl in
        record {
          more = n.more ++ gt;
          few = omega (arith, length-append n.more gt, n.few);
          done = rw d.1 (attrs_here (s ++ (n.more ++ gt)) d.0 16 [] d.0.end (byte_in s n.more gt 0 d.0.end (omega (arith, d.2)) (omega arith)));
        })
        (λ t p r. rw r)
        (name_completed s at le (f ∙ c))

abbrev pub IsEnd : Ended → Type 0
IsEnd (Ok t) = Unit {0}
IsEnd (Err x) = ⊥

end_here : (s : List ℕ) (at : ℕ) (name : Name) (i : ℕ) → name_at s at ≡ Ok name → spaces_end s name.end ≡ Ok i → Byte s i 0x3E → IsEnd (end_tag_at s at)
unfolding end_tag_at
end_here s at name i f g h = rw (f, g, wanted_here s i 0x3E h) tt

pub end_tag_completed : (s : List ℕ) (at : ℕ) → at ≤ length s → end_tag_at s at ≡ Err Cut → Done s (λ (S : List ℕ). IsEnd (end_tag_at S at)) ⊎ Overfull s (λ (S : List ℕ) (p : ℕ). end_tag_at S at ≡ Err (Long p))
unfolding end_tag_at
end_tag_completed s at le e = by (name_at s at) refl (name_inside s at) e
  where
    Goal : Type 0
    Goal = Done s (λ (S : List ℕ). IsEnd (end_tag_at S at))

    Behind : Name → ℕ → Ended
    Behind name i = after_read Err (wanted s i 0x3E) (λ (next : ℕ). Ok (record { name = name; next = next }))

    closes : (name : Name) (i : ℕ) → i < length s → (r : Read) → wanted s i 0x3E ≡ r → ◌≡◌ {A = Ended} (after_read Err r (λ (next : ℕ). Ok (record { name = name; next = next }))) (Err Cut) → Goal
    closes name i lt (Ok j) g e = let z : ◌≡◌ {A = ℕ} 0 1 = cc in absurd (omega arith)
    closes name i lt (Err x) g e = let c : Err x ≡ Err Cut = cc in absurd (omega (arith, wanted_out s i 0x3E (g ∙ c)))

    spaced : (name : Name) → name_at s at ≡ Ok name → name.end ≤ length s → (r : Read) → spaces_end s name.end ≡ r → ReadInside (SpacesTo s name.end) s name.end r → after_read Err r (Behind name) ≡ Err Cut → Goal
    spaced name f lt (Ok i) g to e = closes name i to.1 (wanted s i 0x3E) refl e
    spaced name f lt (Err x) g to e =
        let c : Err x ≡ Err Cut = cc in
        record {
          more = gt;
          few = omega arith;
          done = end_here (s ++ gt) at name (length s) (named_so s at name f gt) (spaces_completed s name.end lt (g ∙ c) 0x3E [] refl) (byte_in s [] gt 0 (length s) (omega arith) (omega arith));
        }

    by : (r : Named) → name_at s at ≡ r → NamedInside (NameInside s at) s at (name_at s at) → after_name Err r (λ (name : Name). after_read Err (spaces_end s name.end) (Behind name)) ≡ Err Cut → Goal ⊎ Overfull s (λ (S : List ℕ) (p : ℕ). end_tag_at S at ≡ Err (Long p))
    by (Ok name) f i e =
        let n : NameInside s at name = subst (NamedInside (NameInside s at) s at) f i in
        inl (spaced name f (omega (arith, n.inside)) (spaces_end s name.end) refl (spaces_inside s name.end) e)
    by (Err x) f i e =
        let c : Err x ≡ Err Cut = cc in
        or_full
        (λ n.
        let d = n.done 0x3E [] no_gt_char refl in
        let S = s ++ (n.more ++ gt) in
        let b = byte_in s n.more gt 0 d.0.end (omega (arith, d.2)) (omega arith) in
        record {
          more = n.more ++ gt;
          few = omega (arith, length-append n.more gt, n.few);
          done = end_here S at d.0 d.0.end d.1 (spaces_here S d.0.end 0x3E b refl) b;
        })
        (λ t p r. rw r)
        (name_completed s at le (f ∙ c))

-- ---- where the next event begins: <a>, or behind the root the end of the scene
tag_here_lem : (s : List ℕ) (i : ℕ) → Byte s i 0x61 → Byte s (i + 1) 0x3E → IsTag (tag_at s i).answer
unfolding tag_at name_at
tag_here_lem s i h k =
    rw (letter_part s i 0x3E h k no_gt_char, lt-ltb (i + 1) (length s) k.0, k.1) (attrs_here s (record { at = i; part = i; end = i + 1 }) 16 [] (i + 1) k)

-- a tag that is whole begins, or nothing more
abbrev pub Begins : List ℕ → ℕ → Bool → Bool → Type 0
Begins s at inside closed =
    ((place : ℕ) × (begin_at s at inside closed ≡ Ok (begin.Start place)) × IsTag (tag_at s (place + 1)).answer)
    ⊎ (begin_at s at inside closed ≡ (Ok begin.Finished))

pub record BeginDone (s : List ℕ) (at : ℕ) (inside closed : Bool) : Type 0 where
  pub more : List ℕ
  pub few : length more ≤ 19
  pub begins : Begins (s ++ more) at inside closed

-- or the scene is overfull
abbrev AheadDone : List ℕ → ℕ → Bool → Bool → Type 0
AheadDone s at inside closed = BeginDone s at inside closed ⊎ Overfull s (λ (S : List ℕ) (p : ℕ). ahead_at S inside closed at ≡ stopped_ahead (Long p))

module _ (s : List ℕ) (inside closed : Bool) where
  begun : (at : ℕ) (b : BeginRead) → ahead_at s inside closed at ≡ Break b → begin_at s at inside closed ≡ b
  begun at b e = begin_is s at inside closed ∙ ap (ahead_then (λ (j : ℕ). begin_at s j inside closed)) e

  over : (at j : ℕ) → ahead_at s inside closed at ≡ Continue j → begin_at s at inside closed ≡ begin_at s j inside closed
  over at j e = begin_is s at inside closed ∙ ap (ahead_then (λ (j : ℕ). begin_at s j inside closed)) e

  begins_behind : (at j : ℕ) → ahead_at s inside closed at ≡ Continue j → Begins s j inside closed → Begins s at inside closed
  begins_behind at j e = ⊎_elim (λ t. inl (t.0, over at j e ∙ t.1, t.2)) (λ f. inr (over at j e ∙ f))

  -- <a> at i
  either_tag : (i : ℕ) → (inside || not closed) ≡ true → Byte s i 0x3C → Byte s (i + 1) 0x61 → either_at s inside closed i ≡ Break (Ok (begin.Start i))
  unfolding either_at markup_at
  either_tag i o h k = rw (lt-ltb i (length s) h.0, h.1, lt-ltb (i + 1) (length s) k.0, k.1, o)

  tag_begins : (at i : ℕ) → ahead_at s inside closed at ≡ either_at s inside closed i → (inside || not closed) ≡ true → Byte s i 0x3C → Byte s (i + 1) 0x61 → Byte s (i + 1 + 1) 0x3E → Begins s at inside closed
  tag_begins at i looks o h k g = inl (i, begun at (Ok (begin.Start i)) (looks ∙ either_tag i o h k), tag_here_lem s (i + 1) k g)

looks_here : (s : List ℕ) (inside closed : Bool) (i : ℕ) → Byte s i 0x3C → ahead_at s inside closed i ≡ either_at s inside closed i
unfolding ahead_at
looks_here s true closed i h = refl
looks_here s false closed i h = rw (spaces_here s i 0x3C h refl)

-- behind the root, at the scene's end
finishes : (s : List ℕ) (i : ℕ) → length s ≤ i → Begins s i false true
unfolding ahead_at spaces_end run
finishes s i le = inr (begun s false true i (Ok begin.Finished) (rw (drop_out s i le)))

-- the < of a tag is still to come, at the scene's end
from_none : (s : List ℕ) (at : ℕ) (inside closed : Bool) → (inside || not closed) ≡ true → ahead_at (s ++ (0x3C ∷ 0x61 ∷ 0x3E ∷ [])) inside closed at ≡ either_at (s ++ (0x3C ∷ 0x61 ∷ 0x3E ∷ [])) inside closed (length s) → BeginDone s at inside closed
from_none s at inside closed o looks =
    let w : List ℕ = 0x3C ∷ 0x61 ∷ 0x3E ∷ [] in
    let i = length s in
    record {
      more = w;
      few = omega arith;
      begins = tag_begins (s ++ w) inside closed at i looks o (byte_in s [] w 0 i (omega arith) (omega arith)) (byte_in s [] w 1 (i + 1) (omega arith) (omega arith)) (byte_in s [] w 2 (i + 1 + 1) (omega arith) (omega arith));
    }

-- a < stands at i
module _ (s : List ℕ) (at : ℕ) (inside closed : Bool) (i : ℕ) (lt : i < length s) (tag : get_or s i 0 ≡ 0x3C) (looks : (t : List ℕ) → ahead_at (s ++ t) inside closed at ≡ either_at (s ++ t) inside closed i) where
  markup : (t : List ℕ) → ahead_at (s ++ t) inside closed at ≡ markup_at (s ++ t) inside closed i
  unfolding either_at
  markup t = let h = byte_kept s t i lt in looks t ∙ rw (lt-ltb i (length (s ++ t)) h.0, h.1, tag)

  -- it is the scene's last byte
  from_tag : (inside || not closed) ≡ true → length s ≤ i + 1 → BeginDone s at inside closed
  from_tag o le =
      let w : List ℕ = 0x61 ∷ 0x3E ∷ [] in
      let h = byte_kept s w i lt in
      record {
        more = w;
        few = omega arith;
        begins = tag_begins (s ++ w) inside closed at i (looks w) o (h.0, h.1 ∙ tag) (byte_in s [] w 0 (i + 1) (omega arith) (omega arith)) (byte_in s [] w 1 (i + 1 + 1) (omega arith) (omega arith));
      }

  -- it opens a misc
  from_misc : (r : Rest misc_end s i 16) → ((u : List ℕ) → markup_at (s ++ (r.more ++ u)) inside closed i ≡ misc_ahead (s ++ (r.more ++ u)) i) → BeginDone s at inside closed
  unfolding misc_ahead
  from_misc r opens = by inside closed refl refl
    where
      j : ℕ
      j = length s + length r.more

      misc : (u : List ℕ) → ahead_at (s ++ (r.more ++ u)) inside closed at ≡ Continue j
      misc u = markup (r.more ++ u) ∙ opens u ∙ rw (r.done u)

      -- then <a>
      then_tag : (inside || not closed) ≡ true → BeginDone s at inside closed
      then_tag o =
          let w : List ℕ = 0x3C ∷ 0x61 ∷ 0x3E ∷ [] in
          let S = s ++ (r.more ++ w) in
          let h = byte_in s r.more w 0 j (omega arith) (omega arith) in
          record {
            more = r.more ++ w;
            few = omega (arith, r.few, length-append r.more w);
            begins = begins_behind S inside closed at j (misc w) (tag_begins S inside closed j j (looks_here S inside closed j h) o h (byte_in s r.more w 1 (j + 1) (omega arith) (omega arith)) (byte_in s r.more w 2 (j + 1 + 1) (omega arith) (omega arith)));
          }

      by : (a b : Bool) → inside ≡ a → closed ≡ b → BeginDone s at inside closed
      by true b p q = then_tag (rw p)
      by false false p q = then_tag (rw (p, q))
      by false true p q =
          let same : s ++ (r.more ++ []) ≡ s ++ r.more = ap (λ (l : List ℕ). s ++ l) (append-nil r.more) in
          let e : ahead_at (s ++ r.more) inside closed at ≡ Continue j = rw same at (misc []) in
          record {
            more = r.more;
            few = omega (arith, r.few);
            begins = begins_behind (s ++ r.more) inside closed at j e (rw (p, q) (finishes (s ++ r.more) j (omega (arith, length-append s r.more))));
          }

  -- the byte behind it, which opens a misc
  opens_misc_lem : (t : List ℕ) → Byte (s ++ t) (i + 1) (get_or (s ++ t) (i + 1) 0) → eqb (get_or (s ++ t) (i + 1) 0) 0x2F ≡ false → opens_misc (get_or (s ++ t) (i + 1) 0) ≡ true → markup_at (s ++ t) inside closed i ≡ misc_ahead (s ++ t) i
  unfolding markup_at
  opens_misc_lem t h n o = rw (lt-ltb (i + 1) (length (s ++ t)) h.0, n, o)

  from_markup : markup_at s inside closed i ≡ stopped_ahead Cut → AheadDone s at inside closed
  unfolding markup_at misc_ahead
  from_markup e = ⊎_elim (λ le. inl (last le)) behind (le_or_lt (length s) (i + 1))
    where
      last : length s ≤ i + 1 → BeginDone s at inside closed
      last le = by (inside || not closed) refl
        where
          w : List ℕ
          w = 0x3F ∷ 0x61 ∷ 0x3F ∷ 0x3E ∷ []

          by : (o : Bool) → (inside || not closed) ≡ o → BeginDone s at inside closed
          by true o = from_tag o le
          by false o =
              from_misc (record { more = w; few = omega arith; done = λ u. misc_begins s u i (omega arith) })
              (λ u.
              let h = byte_in s [] (w ++ u) 0 (i + 1) (omega arith) (omega arith) in
              opens_misc_lem (w ++ u) (h.0, refl) (rw h.1) (rw h.1))

      behind : i + 1 < length s → AheadDone s at inside closed
      behind lt' = by (eqb b 0x2F) refl (opens_misc b) refl inside (inside || not closed) (rw (lt-ltb (i + 1) (length s) lt') at e)
        where
          b : ℕ
          b = get_or s (i + 1) 0

          misc : eqb b 0x2F ≡ false → opens_misc b ≡ true → (r : Read) → misc_end s i ≡ r → after_read stopped_ahead r (λ (j : ℕ). Continue j) ≡ stopped_ahead Cut → AheadDone s at inside closed
          misc n o (Ok j) f e = let z : ◌≡◌ {A = ℕ} 0 1 = cc in absurd (omega arith)
          misc n o (Err x) f e =
              let c : Err x ≡ Err Cut = cc in
              or_full (λ r. from_misc r (λ u. opens (r.more ++ u))) (λ t p r. markup t ∙ opens t ∙ rw r) (misc_completed s i lt' (f ∙ c))
            where
              opens : (t : List ℕ) → markup_at (s ++ t) inside closed i ≡ misc_ahead (s ++ t) i
              opens t = let h = byte_kept s t (i + 1) lt' in opens_misc_lem t (h.0, refl) (rw h.1 n) (rw h.1 o)

          by : (x : Bool) → eqb b 0x2F ≡ x → (y : Bool) → opens_misc b ≡ y → (v w : Bool)
              → cond x (cond v (Break (Ok (begin.End i))) (stopped_ahead (Bad (i + 1)))) (cond y (after_read stopped_ahead (misc_end s i) (λ (j : ℕ). Continue j)) (cond w (Break (Ok (begin.Start i))) (stopped_ahead (Bad (i + 1))))) ≡ stopped_ahead Cut
              → AheadDone s at inside closed
          by true p y q true w f = let z : ◌≡◌ {A = ℕ} 0 1 = cc in absurd (omega arith)
          by true p y q false w f = let z : ◌≡◌ {A = ℕ} 0 1 = cc in absurd (omega arith)
          by false p true q v w f = misc p q (misc_end s i) refl f
          by false p false q v true f = let z : ◌≡◌ {A = ℕ} 0 1 = cc in absurd (omega arith)
          by false p false q v false f = let z : ◌≡◌ {A = ℕ} 0 1 = cc in absurd (omega arith)

-- a byte stands at i
from_byte : (s : List ℕ) (at : ℕ) (inside closed : Bool) (i : ℕ) → i < length s → ((t : List ℕ) → ahead_at (s ++ t) inside closed at ≡ either_at (s ++ t) inside closed i) → either_at s inside closed i ≡ stopped_ahead Cut → AheadDone s at inside closed
unfolding either_at
from_byte s at inside closed i lt looks e = by (eqb (get_or s i 0) 0x3C) refl inside (rw (lt-ltb i (length s) lt) at e)
  where
    by : (t : Bool) → eqb (get_or s i 0) 0x3C ≡ t → (v : Bool) → cond t (markup_at s inside closed i) (cond v (Break (Ok (begin.Text i))) (stopped_ahead (Bad i))) ≡ stopped_ahead Cut → AheadDone s at inside closed
    by true q v f = from_markup s at inside closed i lt (eqb-true (get_or s i 0) 0x3C q) looks f
    by false q true f = let z : ◌≡◌ {A = ℕ} 0 1 = cc in absurd (omega arith)
    by false q false f = let z : ◌≡◌ {A = ℕ} 0 1 = cc in absurd (omega arith)

ahead_completed : (s : List ℕ) (at : ℕ) (inside closed : Bool) → at ≤ length s → ahead_at s inside closed at ≡ stopped_ahead Cut → AheadDone s at inside closed
unfolding ahead_at
ahead_completed s at true closed le e = ⊎_elim (λ h. inl (out h)) (λ lt. from_byte s at true closed at lt (λ t. refl) e) (le_or_lt (length s) at)
  where
    out : length s ≤ at → BeginDone s at true closed
    out h =
        let here : at ≡ length s = omega arith in
        from_none s at true closed refl (ap (either_at (s ++ (0x3C ∷ 0x61 ∷ 0x3E ∷ [])) true closed) here)
ahead_completed s at false closed le e = by (spaces_end s at) refl (spaces_inside s at) e
  where
    none : (x : Stop) → spaces_end s at ≡ Err x → (c : Bool) → closed ≡ c → ending c x ≡ stopped_ahead Cut → BeginDone s at false closed
    none x g true q e = let z : ◌≡◌ {A = ℕ} 0 1 = cc in absurd (omega arith)
    none x g false q e =
        let c : Err x ≡ Err Cut = cc in
        from_none s at false closed (rw q) (rw (spaces_completed s at le (g ∙ c) 0x3C (0x61 ∷ 0x3E ∷ []) refl))

    by : (r : Read) → spaces_end s at ≡ r → ReadInside (SpacesTo s at) s at (spaces_end s at) → after_read (ending closed) r (λ (i : ℕ). either_at s false closed i) ≡ stopped_ahead Cut → AheadDone s at false closed
    by (Ok i) g in' e =
        let to : SpacesTo s at i = subst (ReadInside (SpacesTo s at) s at) g in' in
        from_byte s at false closed i to.1 (λ t. rw (read_so (spaces_end s at) (spaces_end (s ++ t) at) i g (spaces_stable s t at))) e
    by (Err x) g in' e = inl (none x g closed refl e)

pub begin_completed : (s : List ℕ) (at : ℕ) (inside closed : Bool) → at ≤ length s → begin_at s at inside closed ≡ Err Cut → BeginDone s at inside closed ⊎ Overfull s (λ (S : List ℕ) (p : ℕ). begin_at S at inside closed ≡ Err (Long p))
begin_completed s at inside closed le e =
    begin_held s inside closed (λ (i : ℕ) (b : BeginRead). b ≡ Err Cut → i ≤ length s → BeginDone s i inside closed ⊎ Overfull s (λ (S : List ℕ) (p : ℕ). begin_at S i inside closed ≡ Err (Long p)))
    (λ i b f q h. or_full (λ d. d) (λ t p r. begun (s ++ t) inside closed i (Err (Long p)) r) (ahead_completed s i inside closed h (f ∙ ap Break q)))
    (λ i j b f to d q h. or_full (behind i j f) (λ t p r. over (s ++ t) inside closed i j (same i j f t) ∙ r) (d q to.1))
    at
    e
    le
  where
    same : (i j : ℕ) → ahead_at s inside closed i ≡ Continue j → (t : List ℕ) → ahead_at (s ++ t) inside closed i ≡ Continue j
    same i j f t = ahead_stable s t inside closed i (λ c. whole (subst CutAhead f c)) ∙ f
      where
        whole : CutAhead (Continue j) → ⊥
        whole = ⊎_elim (λ q. let z : ◌≡◌ {A = ℕ} 0 1 = cc in omega arith) (λ q. let z : ◌≡◌ {A = ℕ} 0 1 = cc in omega arith)

    behind : (i j : ℕ) → ahead_at s inside closed i ≡ Continue j → BeginDone s j inside closed → BeginDone s i inside closed
    behind i j f d = record { more = d.more; few = d.few; begins = begins_behind (s ++ d.more) inside closed i j (same i j f d.more) d.begins }
