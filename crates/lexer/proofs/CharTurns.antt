-- A turn of the loop over a character: what the code knows of the bytes so far is their form.
--     CharHeld                       the loop's invariant
--     held_first, held_out           before it, and where the scene ends
--     held_bad, held_whole, held_on  a byte that cannot stand there, the last byte, one more
--     WholeHeld, whole_first, whole_on, whole_found   the same of a character that stands whole
--     start_told                     whether a byte can begin a character
--     char_taken, char_refused       a byte below 80 in text
--     text_taken, text_refused, text_high   a byte of a text
use Rattle.std.specs.Prelude.{Ok, Err}
use Prim.Native.Nat.{ℕ, ◌+◌, ◌-◌, ◌≤◌, ◌<◌}
use mathlib.Core.Path.{◌≡◌, refl, sym, ap, ◌∙◌}
use mathlib.Core.List.{List, [], ◌∷◌, ◌++◌, append_assoc}
use mathlib.Core.Bool.{Bool, true, false, not, cond, ◌&&◌}
use borrow.Author.Tests.{eq-eqb, ne_eqb, eqb-false, not-true, not-false}
use native.Mathlib.Omega.{arith}
use lib.ListN.{length, drop, get_or, length-append}
use lib.Dec.{eqb}
use Rattle.laws.specs.Reading.{run, run_out, run_stop, run_go, drop_here}
use Rattle.laws.proofs.Flags.{differ, and_left, and_right}
use Rattle.utf8.specs.Utf8.{utf8, is_form}
use Rattle.utf8.specs.Sets.{ranges_of}
use Rattle.utf8.specs.Forms.{fresh, next_form, form_from, form_of, form_begins, Bounded}
use Rattle.utf8.specs.declared.Form.{Form}
use Rattle.utf8.specs.declared.Set.{Set}
use Rattle.utf8.specs.declared.Set.TheVariants as set
use Rattle.utf8.proofs.Deciding.{ranged}
use Rattle.utf8.proofs.FormLaws.{form_more}
use Rattle.characters.specs.CanBegin.{begins}
use Rattle.characters.proofs.Laws.{begins_form, begins_so, whole_left}
use Rattle.lexer.specs.Shortcuts.{is_char}
use Rattle.lexer.specs.Characters.{char_step, char_end}
use Rattle.lexer.specs.Values.{text_at}
use Rattle.lexer.specs.declared.Stop.TheVariants.{Bad, Cut}
use Rattle.lexer.specs.Reads.{Read}
use Rattle.lexer.proofs.CharacterLaws.{PassedTo, end_of, char_inside, char_low, empty, char_rest}
use Rattle.lexer.proofs.NameBits.{char_ascii}

pub record CharHeld (x : Set) (s : List ℕ) (p : Read) (f : Form) (i : ℕ) : Type 0 where
  pub begun : List ℕ
  pub known : f ≡ form_of begun
  pub small : Bounded f
  pub left : run (Err Cut) (char_step x) begun (drop i s) i ≡ p

pub held_first : (x : Set) (s : List ℕ) (at : ℕ) (f : Form) → (f ≡ fresh) × Bounded f → CharHeld x s (char_end x s at) f at
unfolding char_end form_of form_from
held_first x s at f h = record { begun = []; known = h.0; small = h.1; left = refl }

module _ (x : Set) (s : List ℕ) (p : Read) (f : Form) (i : ℕ) (h : CharHeld x s p f i) where
  pub held_out : length s ≤ i → Err Cut ≡ p
  held_out le = run_out (Err Cut) (char_step x) p h.begun s i h.left le

  -- g: the form with the byte at i; t: whether the set has it
  module _ (lt : i < length s) (g : Form) (n : (g ≡ next_form f (get_or s i 0)) × Bounded g) (t : Bool) (e : t ≡ form_begins (ranges_of x) g) where
    same : t ≡ begins x h.begun (get_or s i 0)
    same = e ∙ ap (form_begins (ranges_of x)) (n.0 ∙ ap (λ (k : Form). next_form k (get_or s i 0)) h.known) ∙ sym (begins_form x h.begun (get_or s i 0))

    pub held_bad : not t ≡ true → Err (Bad i) ≡ p
    held_bad q = run_stop (Err Cut) (char_step x) p h.begun s i h.left lt (Err (Bad i)) (rw (← same, not-true t q))

    module _ (q : not t ≡ false) where
      allowed : begins x h.begun (get_or s i 0) ≡ true
      allowed = sym same ∙ not-false t q

      whole : is_form (h.begun ++ (get_or s i 0 ∷ [])) ≡ eqb g.left 0
      whole = whole_left x h.begun (get_or s i 0) allowed ∙ ap (λ (k : Form). eqb k.left 0) (sym (n.0 ∙ ap (λ (k : Form). next_form k (get_or s i 0)) h.known))

      pub held_whole : g.left ≡ 0 → Ok (i + 1) ≡ p
      held_whole z = run_stop (Err Cut) (char_step x) p h.begun s i h.left lt (Ok (i + 1)) (rw (allowed, whole, eq-eqb g.left 0 z))

      pub held_on : (g.left ≡ 0 → ⊥) → CharHeld x s p g (i + 1)
      held_on z =
          record {
            begun = h.begun ++ (get_or s i 0 ∷ []);
            known = n.0 ∙ ap (λ (k : Form). next_form k (get_or s i 0)) h.known ∙ sym (form_more h.begun (get_or s i 0));
            small = n.1;
            left = run_go (Err Cut) (char_step x) p h.begun s i h.left lt (h.begun ++ (get_or s i 0 ∷ [])) (rw (allowed, whole, ne_eqb g.left 0 z));
          }

-- ---- a character that stands whole
pub record WholeHeld (s : List ℕ) (at : ℕ) (f : Form) (i : ℕ) : Type 0 where
  pub begun : List ℕ
  pub known : f ≡ form_of begun
  pub small : Bounded f
  pub far : at + length begun ≡ i
  pub bytes : drop at s ≡ begun ++ drop i s

pub whole_first : (s : List ℕ) (at : ℕ) (f : Form) → (f ≡ fresh) × Bounded f → WholeHeld s at f at
unfolding form_of form_from
whole_first s at f h = record { begun = []; known = h.0; small = h.1; far = omega arith; bytes = refl }

module _ (s : List ℕ) (at : ℕ) (f : Form) (i : ℕ) (h : WholeHeld s at f i) (lt : i < length s) (g : Form) (n : (g ≡ next_form f (get_or s i 0)) × Bounded g) where
  next_known : g ≡ next_form (form_of h.begun) (get_or s i 0)
  next_known = n.0 ∙ ap (λ (k : Form). next_form k (get_or s i 0)) h.known

  next_bytes : drop at s ≡ (h.begun ++ (get_or s i 0 ∷ [])) ++ drop (i + 1) s
  next_bytes = h.bytes ∙ ap (λ (l : List ℕ). h.begun ++ l) (drop_here s i lt) ∙ sym (append_assoc h.begun (get_or s i 0 ∷ []) (drop (i + 1) s))

  pub whole_on : WholeHeld s at g (i + 1)
  whole_on =
      record {
        begun = h.begun ++ (get_or s i 0 ∷ []);
        known = next_known ∙ sym (form_more h.begun (get_or s i 0));
        small = n.1;
        far = omega (arith, h.far, length-append h.begun (get_or s i 0 ∷ []));
        bytes = next_bytes;
      }

  pub whole_found : (x : Set) (t : Bool) → t ≡ form_begins (ranges_of x) g → t ≡ true → g.left ≡ 0 → char_end x s at ≡ Ok (at + (i + 1 - at))
  unfolding char_end
  whole_found x t e q z =
      let b = begins_so x h.begun (get_or s i 0) (begins_form x h.begun (get_or s i 0) ∙ ap (form_begins (ranges_of x)) (sym next_known) ∙ sym e ∙ q) in
      let k : length b.rest ≡ 0 = sym (ranged b.character h.begun (get_or s i 0) b.rest b.form).1 ∙ ap (λ (m : Form). m.left) (sym next_known) ∙ z in
      let l : List ℕ = h.begun ++ (get_or s i 0 ∷ []) in
      let w : utf8 b.character ≡ [] ++ l = b.form ∙ ap (λ (r : List ℕ). h.begun ++ (get_or s i 0 ∷ r)) (empty b.rest k) in
      let far : length l ≡ i + 1 - at = omega (arith, h.far, length-append h.begun (get_or s i 0 ∷ [])) in
      let run : run (Err Cut) (char_step x) [] (l ++ drop (i + 1) s) at ≡ Ok (at + length l) = char_rest x b.character b.allowed l [] (drop (i + 1) s) at (omega (arith, length-append h.begun (get_or s i 0 ∷ []))) w in
      rw (next_bytes, ← far) run

pub whole_inside : (x : Set) (s : List ℕ) (at n : ℕ) → char_end x s at ≡ Ok (at + n) → at + n ≤ length s
whole_inside x s at n e = (end_of (PassedTo s at) s at (at + n) (char_end x s at) (char_inside x s at) e).1

pub start_told : (x : Set) (b : ℕ) (f g : Form) (t : Bool) → (f ≡ fresh) × Bounded f → (g ≡ next_form f b) × Bounded g → t ≡ form_begins (ranges_of x) g → t ≡ begins x [] b
unfolding form_of form_from
start_told x b f g t h n e = e ∙ ap (form_begins (ranges_of x)) (n.0 ∙ ap (λ (k : Form). next_form k b) h.0) ∙ sym (begins_form x [] b)

-- ---- text
module _ (s : List ℕ) (i : ℕ) (h : i < length s) where
  low : get_or s i 0 < 0x80 → char_end set.Char s i ≡ cond (is_char (get_or s i 0)) (Ok (i + 1)) (Err (Bad i))
  low lt = char_low set.Char s i h lt ∙ ap (λ (u : Bool). cond u (Ok (i + 1)) (Err (Bad i))) (sym (char_ascii (get_or s i 0) lt))

  module _ (lt : get_or s i 0 < 0x80) (t : Bool) (e : t ≡ is_char (get_or s i 0)) where
    pub char_taken : t ≡ true → Ok (i + 1) ≡ char_end set.Char s i
    char_taken q = sym (low lt ∙ ap (λ (u : Bool). cond u (Ok (i + 1)) (Err (Bad i))) (sym e ∙ q))

    pub char_refused : t ≡ false → Err (Bad i) ≡ char_end set.Char s i
    char_refused q = sym (low lt ∙ ap (λ (u : Bool). cond u (Ok (i + 1)) (Err (Bad i))) (sym e ∙ q))

pub text_test : (b : ℕ) (t : Bool) → t ≡ is_char b → (t && not (eqb b 0x3C)) ≡ (is_char b && not (eqb b 0x3C))
text_test b t e = rw e

-- a byte of text
module _ (s : List ℕ) (i : ℕ) (h : i < length s) where
  other : (r : Read) → (get_or s i 0 ≡ 0x3C → ⊥) → r ≡ char_end set.Char s i → r ≡ text_at s (get_or s i 0) i
  unfolding text_at
  other r n e = rw (ne_eqb (get_or s i 0) 0x3C n) e

  module _ (lt : get_or s i 0 < 0x80) (t : Bool) (e : t ≡ (is_char (get_or s i 0) && not (eqb (get_or s i 0) 0x3C))) where
    pub text_taken : not t ≡ false → Ok (i + 1) ≡ text_at s (get_or s i 0) i
    text_taken q =
        let b = get_or s i 0 in
        let y : (is_char b && not (eqb b 0x3C)) ≡ true = sym e ∙ not-false t q in
        other (Ok (i + 1)) (eqb-false b 0x3C (not-true (eqb b 0x3C) (and_right (is_char b) (not (eqb b 0x3C)) y))) (char_taken s i h lt (is_char b) refl (and_left (is_char b) (not (eqb b 0x3C)) y))

    pub text_refused : not t ≡ true → Err (Bad i) ≡ text_at s (get_or s i 0) i
    unfolding text_at
    text_refused q = by (eqb (get_or s i 0) 0x3C) refl (is_char (get_or s i 0)) refl (sym e ∙ not-true t q)
      where
        by : (x : Bool) → eqb (get_or s i 0) 0x3C ≡ x → (y : Bool) → is_char (get_or s i 0) ≡ y → (y && not x) ≡ false → Err (Bad i) ≡ cond x (Err (Bad i)) (char_end set.Char s i)
        by true p y c k = refl
        by false p true c k = absurd (differ k)
        by false p false c k = char_refused s i h lt (is_char (get_or s i 0)) refl c

  pub text_high : 0x80 ≤ get_or s i 0 → (r : Read) → r ≡ char_end set.Char s i → r ≡ text_at s (get_or s i 0) i
  text_high ge r e = other r (λ q. omega arith) e
