-- A form is what is read from a place on and ends by itself. Where it was cut, some bytes behind the scene end it.
--     Goes, Fresh, Ends                              the bytes that end it; the word of one that has not begun
--     ends_then, ends_spaced, ends_peek              a form behind a form, behind space, by its first byte
--     ends_machine, ends_wanted, ends_word, ends_equals
use Rattle.std.specs.Prelude.{Ok, Err}
use Prim.Native.Nat.{ℕ, ◌+◌, ◌≤◌, ◌<◌}
use mathlib.Core.Path.{◌≡◌, refl, sym, ap, subst, ◌∙◌}
use mathlib.Core.List.{List, [], ◌∷◌, ◌++◌, append_assoc}
use mathlib.Core.Bool.{Bool, true, false, cond}
use mathlib.Core.Logic.{⊎_elim}
use native.Mathlib.Omega.{arith}
use borrow.Author.Tests.{eq-eqb, lt-ltb}
use lib.ListN.{length, drop, get_or, length-append}
use lib.Seq.{drop_at}
use lib.Dec.{eqb}
use Rattle.laws.specs.Reading.{RunNext, run, peek, Stable, le_or_lt}
use Rattle.laws.proofs.Holds.{Turned}
use Rattle.lexer.specs.Stops.{after_read}
use Rattle.lexer.specs.Names.{is_space, spaces_end}
use Rattle.lexer.specs.Tags.{wanted, equals_end}
use Rattle.lexer.specs.Declaration.{word_end}
use Rattle.lexer.specs.declared.Stop.TheVariants.{Bad, Cut}
use Rattle.lexer.specs.Reads.{Read}
use Rattle.lexer.proofs.Inside.{ReadInside, SpacesTo, spaces_inside}
use Rattle.lexer.proofs.Stable.{spaces_stable, wanted_stable}
use Rattle.lexer.proofs.MiscLaws.{Onward, byte_inside}
use Rattle.demands.proofs.CompletedParts.{byte_in, byte_kept, Form, Rest, NotCut, runs_out, read_so, spaces_here, spaces_completed}

abbrev pub Refused : Form
Refused s at = Err (Bad at)

-- a form of which a byte is there: at most k more
abbrev pub Goes : Form → ℕ → Type 0
Goes f k = (s : List ℕ) (at : ℕ) → at < length s → f s at ≡ Err Cut → Rest f s at k

-- a form of which nothing is there: a word
abbrev pub Fresh : Form → List ℕ → Type 0
Fresh f word = (s u : List ℕ) → f (s ++ (word ++ u)) (length s) ≡ Ok (length s + length word)

pub record Ends (f : Form) (word : List ℕ) (k : ℕ) : Type 0 where
  pub fresh : Fresh f word
  pub goes : Goes f k

pub goes_more : (f : Form) (j k : ℕ) → j ≤ k → Goes f j → Goes f k
goes_more f j k le h s at lt e =
    let r = h s at lt e in
    record { more = r.more; few = omega (arith, r.few); done = r.done }

-- begun or not
pub ends_at : (f : Form) (word : List ℕ) (j k : ℕ) → Ends f word j → j ≤ k → length word ≤ k → (s : List ℕ) (at : ℕ) → at ≤ length s → f s at ≡ Err Cut → Rest f s at k
ends_at f word j k h le few s at hi e = ⊎_elim none (λ lt. goes_more f j k le h.goes s at lt e) (le_or_lt (length s) at)
  where
    none : length s ≤ at → Rest f s at k
    none lo =
        let here : at ≡ length s = omega arith in
        record { more = word; few = few; done = λ u. ap (f (s ++ (word ++ u))) here ∙ h.fresh s u }

-- a word behind other bytes
pub fresh_behind : (f : Form) (word : List ℕ) → Fresh f word → (s m u : List ℕ) (i : ℕ) → i ≡ length s + length m → f (s ++ (m ++ (word ++ u))) i ≡ Ok (length s + length (m ++ word))
fresh_behind f word h s m u i e =
    let here : i ≡ length (s ++ m) = e ∙ sym (length-append s m) in
    ap (λ (l : List ℕ). f l i) (sym (append_assoc s m (word ++ u)))
    ∙ ap (f ((s ++ m) ++ (word ++ u))) here
    ∙ h (s ++ m) u
    ∙ ap Ok (omega (arith, length-append s m, length-append m word))

pub ends_same : (f g : Form) (word : List ℕ) (k : ℕ) → ((s : List ℕ) (at : ℕ) → g s at ≡ f s at) → Ends f word k → Ends g word k
ends_same f g word k same h =
    record {
      fresh = λ s u. same (s ++ (word ++ u)) (length s) ∙ h.fresh s u;
      goes =
          λ s at lt e.
          let r = h.goes s at lt (sym (same s at) ∙ e) in
          record { more = r.more; few = r.few; done = λ u. same (s ++ (r.more ++ u)) at ∙ r.done u };
    }

-- ---- a form behind a form
module _ (f g : Form) (inside : (s : List ℕ) (at : ℕ) → ReadInside (Onward s at) s at (f s at)) (stable : (s t : List ℕ) (at : ℕ) → Stable (Err Cut) (f s at) (f (s ++ t) at)) where
  abbrev pub Then : Form
  Then s at = after_read Err (f s at) (λ (i : ℕ). g s i)

  pub ends_then : (wf wg : List ℕ) (kf kg k : ℕ) → Ends f wf kf → Ends g wg kg → kf + length wg ≤ k → kg ≤ k → Ends Then (wf ++ wg) k
  ends_then wf wg kf kg k hf hg le le' =
      record {
        fresh =
            λ s u.
            let a : f (s ++ ((wf ++ wg) ++ u)) (length s) ≡ Ok (length s + length wf) = ap (λ (l : List ℕ). f (s ++ l) (length s)) (append_assoc wf wg u) ∙ hf.fresh s (wg ++ u) in
            let b : g (s ++ ((wf ++ wg) ++ u)) (length s + length wf) ≡ Ok (length s + length (wf ++ wg)) = ap (λ (l : List ℕ). g (s ++ l) (length s + length wf)) (append_assoc wf wg u) ∙ fresh_behind g wg hg.fresh s wf u (length s + length wf) refl in
            rw a b;
        goes = λ s at lt e. by s at lt (f s at) refl (inside s at) e;
      }
    where
      by : (s : List ℕ) (at : ℕ) → at < length s → (r : Read) → f s at ≡ r → ReadInside (Onward s at) s at (f s at) → after_read Err r (λ (i : ℕ). g s i) ≡ Err Cut → Rest Then s at k
      by s at lt (Ok j) q in' e =
          let to : Onward s at j = subst (ReadInside (Onward s at) s at) q in' in
          let r = ends_at g wg kg k hg le' (omega arith) s j to.1 e in
          record {
            more = r.more;
            few = r.few;
            done = λ u. rw (read_so (f s at) (f (s ++ (r.more ++ u)) at) j q (stable s (r.more ++ u) at)) (r.done u);
          }
      by s at lt (Err x) q in' e =
          let r = hf.goes s at lt (q ∙ e) in
          record {
            more = r.more ++ wg;
            few = omega (arith, r.few, length-append r.more wg);
            done = λ u. rw (append_assoc r.more wg u, r.done (wg ++ u)) (fresh_behind g wg hg.fresh s r.more u (length s + length r.more) refl);
          }

-- ---- a form behind space. g: by the place where the space begins
module _ (g : ℕ → Form) where
  abbrev pub Spaced : Form
  Spaced s at = after_read Err (spaces_end s at) (λ (i : ℕ). g at s i)

  pub ends_spaced : (c : ℕ) (w : List ℕ) (kg k : ℕ) → is_space c ≡ false → ((at : ℕ) → Ends (g at) (c ∷ w) kg) → kg ≤ k → length (c ∷ w) ≤ k → Ends Spaced (c ∷ w) k
  ends_spaced c w kg k n h le few =
      record {
        fresh = λ s u. rw (spaces_here (s ++ (c ∷ (w ++ u))) (length s) c (byte_in s [] (c ∷ (w ++ u)) 0 (length s) (omega arith) (omega arith)) n) ((h (length s)).fresh s u);
        goes = λ s at lt e. by s at lt (spaces_end s at) refl (spaces_inside s at) e;
      }
    where
      by : (s : List ℕ) (at : ℕ) → at < length s → (r : Read) → spaces_end s at ≡ r → ReadInside (SpacesTo s at) s at (spaces_end s at) → after_read Err r (λ (i : ℕ). g at s i) ≡ Err Cut → Rest Spaced s at k
      by s at lt (Ok i) q in' e =
          let to : SpacesTo s at i = subst (ReadInside (SpacesTo s at) s at) q in' in
          let r = (h at).goes s i to.1 e in
          record {
            more = r.more;
            few = omega (arith, r.few);
            done = λ u. rw (read_so (spaces_end s at) (spaces_end (s ++ (r.more ++ u)) at) i q (spaces_stable s (r.more ++ u) at)) (r.done u);
          }
      by s at lt (Err x) q in' e =
          record { more = c ∷ w; few = few; done = λ u. rw (spaces_completed s at (omega arith) (q ∙ e) c (w ++ u) n) ((h at).fresh s u) }

-- ---- a form by its first byte
module _ (g : ℕ → Form) where
  abbrev pub Peeked : Form
  Peeked s at = peek (Err Cut) s at (λ (b : ℕ). g b s at)

  pub goes_peek : (k : ℕ) → ((b : ℕ) → Goes (g b) k) → Goes Peeked k
  goes_peek k h s at lt e =
      let r = h (get_or s at 0) s at lt (rw (lt-ltb at (length s) lt) at e) in
      record {
        more = r.more;
        few = r.few;
        done =
            λ u.
            let b = byte_kept s (r.more ++ u) at lt in
            rw (lt-ltb at (length (s ++ (r.more ++ u))) b.0, b.1) (r.done u);
      }

  pub fresh_peek : (c : ℕ) (w : List ℕ) → Fresh (g c) (c ∷ w) → Fresh Peeked (c ∷ w)
  fresh_peek c w h s u =
      let b = byte_in s [] (c ∷ (w ++ u)) 0 (length s) (omega arith) (omega arith) in
      rw (lt-ltb (length s) (length (s ++ (c ∷ (w ++ u)))) b.0, b.1) (h s u)

  pub ends_peek : (c : ℕ) (w : List ℕ) (k : ℕ) → Fresh (g c) (c ∷ w) → ((b : ℕ) → Goes (g b) k) → Ends Peeked (c ∷ w) k
  ends_peek c w k h e = record { fresh = fresh_peek c w h; goes = goes_peek k e }

pub goes_cond : (f g : Form) (k : ℕ) (t : Bool) → Goes f k → Goes g k → Goes (λ (s : List ℕ) (at : ℕ). cond t (f s at) (g s at)) k
goes_cond f g k true p q = p
goes_cond f g k false p q = q

pub goes_bad : (k : ℕ) → Goes Refused k
goes_bad k s at lt e = let z : ◌≡◌ {A = ℕ} 0 1 = cc in absurd (omega arith)

-- behind its first byte
module _ (f : Form) (word : List ℕ) (j : ℕ) (h : Ends f word j) where
  abbrev pub Next : Form
  Next s at = f s (at + 1)

  pub goes_next : (k : ℕ) → j ≤ k → length word ≤ k → Goes Next k
  goes_next k le few s at lt e =
      let r = ends_at f word j k h le few s (at + 1) (omega arith) e in
      record { more = r.more; few = r.few; done = r.done }

  pub fresh_next : (c : ℕ) → Fresh Next (c ∷ word)
  fresh_next c s u = fresh_behind f word h.fresh s (c ∷ []) u (length s + 1) (omega arith)

-- ---- a machine, from a state on. J: what its states keep
module _ {St : Type 0} (step : St → ℕ → ℕ → RunNext St Read) (k : ℕ) where
  -- bytes with which it stops behind them
  pub record Stops (q : St) : Type 0 where
    pub word : List ℕ
    pub few : length word ≤ k
    pub stops : (u : List ℕ) (i : ℕ) → run (Err Cut) step q (word ++ u) i ≡ Ok (i + length word)

  module _ (J : St → Type 0) (turn : (q : St) (b i : ℕ) → J q → Turned J NotCut (step q b i)) (each : (q : St) → J q → Stops q) (q : St) (j : J q) where
    abbrev pub Runs : Form
    Runs s at = run (Err Cut) step q (drop at s) at

    pub ends_machine : Ends Runs (each q j).word k
    ends_machine =
        record {
          fresh = λ s u. rw (drop_at s ((each q j).word ++ u) (length s) refl) ((each q j).stops u (length s));
          goes =
              λ s at lt e.
              let r = runs_out step s (λ (q : St) (i : ℕ). J q) (λ q i lt. turn q (get_or s i 0) i) q at (omega arith) j e in
              let w = each r.state r.kept in
              record { more = w.word; few = w.few; done = λ u. r.same (w.word ++ u) ∙ w.stops u (length s) };
        }

-- ---- words
abbrev pub OneByte : ℕ → Form
OneByte b s at = wanted s at b

abbrev pub Word : List ℕ → Form
Word word s at = word_end s at word

pub ends_wanted : (b : ℕ) → Ends (OneByte b) (b ∷ []) 0
unfolding wanted
ends_wanted b =
    ends_peek (λ (x : ℕ) (s : List ℕ) (at : ℕ). cond (eqb x b) (Ok (at + 1)) (Err (Bad at))) b [] 0
    (λ s u. rw (eq-eqb b b refl))
    (λ x s at lt e. absurd (by (eqb x b) at e))
  where
    by : (t : Bool) (at : ℕ) → cond t (Ok (at + 1)) (Err (Bad at)) ≡ Err Cut → ⊥
    by true at e = let z : ◌≡◌ {A = ℕ} 0 1 = cc in omega arith
    by false at e = let z : ◌≡◌ {A = ℕ} 0 1 = cc in omega arith

-- at most so many bytes of a word are still to come
abbrev pub behind_first : List ℕ → ℕ
behind_first [] = 0
behind_first (c ∷ word) = length word

pub ends_word : (word : List ℕ) → Ends (Word word) word (behind_first word)
unfolding word_end
ends_word [] =
    record { fresh = λ s u. ap Ok (omega arith); goes = λ s at lt e. let z : ◌≡◌ {A = ℕ} 0 1 = cc in absurd (omega arith) }
ends_word (c ∷ word) =
    ends_then (OneByte c) (Word word) (λ s at. byte_inside s at c) (λ s t at. wanted_stable s t at c) (c ∷ []) word 0 (behind_first word) (length word) (ends_wanted c) (ends_word word) (omega arith) (few word)
  where
    few : (l : List ℕ) → behind_first l ≤ length l
    few [] = omega arith
    few (x ∷ l) = omega arith

-- ---- optional space, =, optional space
module _ (g : Form) where
  abbrev pub Equalled : Form
  Equalled s at = after_read Err (equals_end s at) (λ (i : ℕ). g s i)

  pub ends_equals : (c : ℕ) (w : List ℕ) (kg k : ℕ) → is_space c ≡ false → Ends g (c ∷ w) kg → kg ≤ k → 2 + length w ≤ k → Ends Equalled (0x3D ∷ c ∷ w) k
  unfolding equals_end
  ends_equals c w kg k n h le few =
      ends_same (Spaced (λ (at : ℕ). behind)) Equalled (0x3D ∷ c ∷ w) k
      (λ s at. same s (spaces_end s at))
      (ends_spaced (λ (at : ℕ). behind) 0x3D (c ∷ w) k k refl (λ at. last) (omega arith) (omega arith))
    where
      behind : Form
      behind = Then (OneByte 0x3D) (Spaced (λ (at : ℕ). g)) (λ s at. byte_inside s at 0x3D) (λ s t at. wanted_stable s t at 0x3D)

      last : Ends behind (0x3D ∷ c ∷ w) k
      last = ends_then (OneByte 0x3D) (Spaced (λ (at : ℕ). g)) (λ s at. byte_inside s at 0x3D) (λ s t at. wanted_stable s t at 0x3D) (0x3D ∷ []) (c ∷ w) 0 k k (ends_wanted 0x3D) (ends_spaced (λ (at : ℕ). g) c w kg k n (λ at. h) le (omega arith)) (omega arith) (omega arith)

      one : (s : List ℕ) (r : Read) → after_read Err (after_read Err r (λ (j : ℕ). spaces_end s j)) (λ (i : ℕ). g s i) ≡ after_read Err r (λ (j : ℕ). Spaced (λ (at : ℕ). g) s j)
      one s (Ok j) = refl
      one s (Err x) = refl

      same : (s : List ℕ) (r : Read) → after_read Err (after_read Err r (λ (i : ℕ). after_read Err (wanted s i 0x3D) (λ (j : ℕ). spaces_end s j))) (λ (i : ℕ). g s i) ≡ after_read Err r (λ (i : ℕ). behind s i)
      same s (Ok i) = one s (wanted s i 0x3D)
      same s (Err x) = refl
