-- The code that finds where the next event begins: one look, a turn of the loop, and what is told at once inside an element.
use Rattle.std.specs.declared.ops.ControlFlow.TheVariants.{Break, Continue}
use Rattle.std.specs.Prelude.{Ok}
use Prim.Native.Nat.{ℕ, ◌+◌, ◌≤◌, ◌<◌}
use mathlib.Core.Path.{◌≡◌, sym, ap, subst, ◌∙◌}
use mathlib.Core.List.{List}
use mathlib.Core.Bool.{Bool, true, false, cond}
use borrow.Author.Tests.{eq-eqb, ne_eqb, lt-ltb}
use lib.ListN.{length, get_or}
use Rattle.lexer.specs.Stops.{after_read}
use Rattle.lexer.specs.Names.{spaces_end}
use Rattle.lexer.specs.Begins.{opens_misc, markup_at, either_at, ending, ahead_at, ahead_then, begin_at}
use Rattle.lexer.specs.Reads.{Read, BeginRead, Ahead}
use Rattle.lexer.specs.declared.Begin.TheVariants as begin
use Rattle.lexer.proofs.BeginLaws.{AheadInside, ahead_inside, begin_is}

-- r is where what stands ahead begins, m what the `match` says of it
pub ahead_by : (s : List ℕ) (inside closed : Bool) (at : ℕ) (r m : Read) (x : Ahead) → r ≡ cond inside (Ok at) (spaces_end s at) → r ≡ m → x ≡ after_read (ending closed) m (λ (i : ℕ). either_at s inside closed i) → x ≡ ahead_at s inside closed at
unfolding ahead_at
ahead_by s true closed at r m x p q h = h ∙ ap (λ (y : Read). after_read (ending closed) y (λ (i : ℕ). either_at s true closed i)) (sym q ∙ p)
ahead_by s false closed at r m x p q h = h ∙ ap (λ (y : Read). after_read (ending closed) y (λ (i : ℕ). either_at s false closed i)) (sym q ∙ p)

-- a turn of the loop
module _ (s : List ℕ) (inside closed : Bool) (i : ℕ) (v : BeginRead) (inv : begin_at s i inside closed ≡ v) (r : Ahead) (p : r ≡ ahead_at s inside closed i) where
  pub begin_event : (b : BeginRead) → r ≡ Break b → b ≡ v
  begin_event b q = ap (ahead_then (λ (j : ℕ). begin_at s j inside closed)) (sym q ∙ p) ∙ sym (begin_is s i inside closed) ∙ inv

  pub begin_misc : (j : ℕ) → r ≡ Continue j → begin_at s j inside closed ≡ v
  begin_misc j q = ap (ahead_then (λ (k : ℕ). begin_at s k inside closed)) (sym q ∙ p) ∙ sym (begin_is s i inside closed) ∙ inv

pub misc_onward : (s : List ℕ) (inside closed : Bool) (i : ℕ) (r : Ahead) → r ≡ ahead_at s inside closed i → (j : ℕ) → r ≡ Continue j → (i < j) × (j ≤ length s)
misc_onward s inside closed i r p j q = subst (AheadInside s i inside closed) (sym p ∙ q) (ahead_inside s inside closed i)

-- inside an element
module _ (s : List ℕ) (at : ℕ) (closed : Bool) (h : at < length s) where
  look : (b : BeginRead) → either_at s true closed at ≡ Break b → b ≡ begin_at s at true closed
  unfolding ahead_at
  look b e = ap (ahead_then (λ (j : ℕ). begin_at s j true closed)) (sym e) ∙ sym (begin_is s at true closed)

  pub text_here : (get_or s at 0 ≡ 0x3C → ⊥) → Ok (begin.Text at) ≡ begin_at s at true closed
  unfolding either_at
  text_here n = look (Ok (begin.Text at)) (rw (lt-ltb at (length s) h, ne_eqb (get_or s at 0) 0x3C n))

  module _ (e : get_or s at 0 ≡ 0x3C) (k : at + 1 < length s) where
    markup : (b : BeginRead) → markup_at s true closed at ≡ Break b → b ≡ begin_at s at true closed
    unfolding either_at
    markup b m = look b (rw (lt-ltb at (length s) h, eq-eqb (get_or s at 0) 0x3C e) m)

    pub end_here : get_or s (at + 1) 0 ≡ 0x2F → Ok (begin.End at) ≡ begin_at s at true closed
    unfolding markup_at
    end_here q = markup (Ok (begin.End at)) (rw (lt-ltb (at + 1) (length s) k, q))

    pub start_here : (get_or s (at + 1) 0 ≡ 0x2F → ⊥) → opens_misc (get_or s (at + 1) 0) ≡ false → Ok (begin.Start at) ≡ begin_at s at true closed
    unfolding markup_at
    start_here n q = markup (Ok (begin.Start at)) (rw (lt-ltb (at + 1) (length s) k, ne_eqb (get_or s (at + 1) 0) 0x2F n, q))

pub begin_by_lem : (s : List ℕ) (at : ℕ) (inside t closed : Bool) (x : BeginRead) → x ≡ begin_at s at t closed → inside ≡ t → x ≡ begin_at s at inside closed
begin_by_lem s at inside t closed x e q = rw q e
