-- The loop of `attrs_from`: what is stored, and what a turn does.
use Rattle.std.specs.Prelude.{Ok, Err}
use Prim.Native.Nat.{ℕ, ◌+◌, ◌-◌, ◌*◌, ◌≤◌, ◌<◌}
use mathlib.Core.Path.{◌≡◌, refl, sym, ap, ◌∙◌}
use mathlib.Core.List.{List, [], ◌∷◌, ◌++◌}
use mathlib.Core.Bool.{Bool}
use mathlib.Core.Logic.{⊎_elim}
use native.Mathlib.Omega.{arith}
use lib.ListN.{length, length-append}
use Rattle.laws.specs.Over.{overwrite}
use Rattle.laws.specs.Reading.{room_step, le_or_lt}
use Rattle.lexer.specs.Attrs.{attr_numbers, laid}
use Rattle.lexer.specs.Names.{name_at}
use Rattle.lexer.specs.Tags.{attribute_at, turn_at, TagRead, tag_closed, tag_stopped, full_turn, turn_then, attrs_from, tag_at}
use Rattle.lexer.specs.declared.Stop.{Stop}
use Rattle.lexer.specs.declared.Stop.TheVariants.{Long}
use Rattle.lexer.specs.declared.Name.{Name}
use Rattle.lexer.specs.Reads.{Named, Attributed, TurnRead, Tagged}
use Rattle.lexer.specs.declared.Attr.{Attr}
use Rattle.lexer.specs.declared.Turn.TheVariants as turn
use Rattle.lexer.proofs.Arrays.{laid_none, laid_more}

-- the whole that is asked for
abbrev pub asked : List ℕ → Name → TagRead
asked s name = attrs_from s name [] 16 name.end

-- count attributes are stored, and what is read from a place on makes the answer whole
pub record Filled (s : List ℕ) (name : Name) (array₀ array : List ℕ) (count at : ℕ) : Type 0 where
  pub held : List Attr
  pub counted : length held ≡ count
  pub few : count ≤ 16
  pub filled : array ≡ laid held array₀
  pub left : attrs_from s name held (16 - count) at ≡ asked s name

pub start : (s : List ℕ) (name : Name) (array : List ℕ) → Filled s name array array 0 name.end
start s name array = record { held = []; counted = refl; few = omega arith; filled = laid_none array; left = refl }

-- an answer and an array are those of what was read
abbrev pub Answered : TagRead → List ℕ → List ℕ → Tagged → Type 0
Answered t array₀ array x = (x ≡ t.answer) × (array ≡ laid t.attrs array₀)

module _ (s : List ℕ) (name : Name) (array₀ array : List ℕ) (count at : ℕ) (f : Filled s name array₀ array count at) where
  -- what was read, if its attributes are those that are held
  answered : (t : TagRead) → t.attrs ≡ f.held → t ≡ asked s name → Answered (asked s name) array₀ array t.answer
  answered t e q = (ap (λ (u : TagRead). u.answer) q, f.filled ∙ ap (λ (l : List Attr). laid l array₀) (sym e ∙ ap (λ (u : TagRead). u.attrs) q))

  -- what the place decides
  turned : count < 16 → turn_then s (λ (l : List Attr) (i : ℕ). attrs_from s name l (16 - (count + 1)) i) name f.held (turn_at s at) ≡ asked s name
  unfolding attrs_from
  turned h = rw (room_step 16 count h) at f.left

  filled_up : 16 ≤ count → full_turn name f.held (turn_at s at) ≡ asked s name
  unfolding attrs_from
  filled_up h = let z : 16 - count ≡ 0 = omega arith in rw z at f.left

  module _ (r : TurnRead) (p : r ≡ turn_at s at) where
    -- with room and without
    decided : (m : TurnRead) → r ≡ m → (t : TagRead) → ((more : List Attr → ℕ → TagRead) → t ≡ turn_then s more name f.held m) → t ≡ full_turn name f.held m → t ≡ asked s name
    decided m q t room none =
        let e : m ≡ turn_at s at = sym q ∙ p in
        ⊎_elim (λ h. none ∙ ap (full_turn name f.held) e ∙ filled_up h)
        (λ h. room (λ (l : List Attr) (i : ℕ). attrs_from s name l (16 - (count + 1)) i) ∙ ap (turn_then s (λ (l : List Attr) (i : ℕ). attrs_from s name l (16 - (count + 1)) i) name f.held) e ∙ turned h)
        (le_or_lt 16 count)

    pub closed : (next : ℕ) (empty : Bool) → r ≡ Ok (turn.Close next empty) → Answered (asked s name) array₀ array (Ok (record { name = name; count = count; next = next; empty = empty }))
    closed next empty q =
        let t = tag_closed name f.held next empty in
        rw (← f.counted) (answered t refl (decided (Ok (turn.Close next empty)) q t (λ more. refl) refl))

    pub stopped : (x : Stop) → r ≡ Err x → Answered (asked s name) array₀ array (Err x)
    stopped x q = let t = tag_stopped f.held x in answered t refl (decided (Err x) q t (λ more. refl) refl)

    module _ (i : ℕ) (q : r ≡ Ok (turn.Attribute i)) where
      pub seventeenth : count ≡ 16 → Answered (asked s name) array₀ array (Err (Long i))
      seventeenth h = answered (tag_stopped f.held (Long i)) refl (rw (sym p ∙ q) at (filled_up (omega arith)))

      module _ (n : count ≡ 16 → ⊥) (v : Attributed) (e : v ≡ attribute_at s i) where
        room : count < 16
        room = omega (arith, f.few)

        pub refused : (x : Stop) → v ≡ Err x → Answered (asked s name) array₀ array (Err x)
        refused x g = answered (tag_stopped f.held x) refl (rw (sym e ∙ g) at (rw (sym p ∙ q) at (turned room)))

        pub more : (a : Attr) → v ≡ Ok a → (array' : List ℕ) → array' ≡ overwrite array (5 * count) (attr_numbers a) → Filled s name array₀ array' (count + 1) (a.stop + 1)
        more a g array' w =
            record {
              held = f.held ++ (a ∷ []);
              counted = length-append f.held (a ∷ []) ∙ ap (λ (k : ℕ). k + 1) f.counted;
              few = omega (arith, room);
              filled = w ∙ (rw (f.filled, ← f.counted) (laid_more f.held a array₀));
              left = rw (sym e ∙ g) at (rw (sym p ∙ q) at (turned room));
            }

-- the tag's name, and what stands behind it
module _ (s : List ℕ) (at : ℕ) (r : Named) (p : r ≡ name_at s at) (array₀ : List ℕ) where
  pub named_tag : (name : Name) → r ≡ Ok name → (array : List ℕ) (x : Tagged) → Answered (asked s name) array₀ array x → Answered (tag_at s at) array₀ array x
  unfolding tag_at
  named_tag name q array x h = rw (sym p ∙ q) h

  pub nameless_tag : (x : Stop) → r ≡ Err x → Answered (tag_at s at) array₀ array₀ (Err x)
  unfolding tag_at
  nameless_tag x q = rw (sym p ∙ q) (refl, laid_none array₀)
