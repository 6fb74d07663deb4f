-- Answers told to a host, and what a call with a session of the right or the wrong size hands back.
use Prim.Native.Nat.{ℕ, ◌≤◌, ◌<◌}
use mathlib.Core.Path.{◌≡◌, ap, ◌∙◌}
use mathlib.Core.List.{List}
use mathlib.Core.Bool.{cond}
use borrow.Author.Tests.{lt-ltb, le-ltb, eq-eqb, ne_eqb}
use lib.Dec.{ltb}
use lib.ListN.{length}
use Rattle.laws.specs.Over.{overwrite}
use Rattle.table.specs.declared.Answer.{Answer}
use Rattle.sessions.specs.Stepping.{Run, ran, Step}
use Rattle.layout.specs.Layout.{session_bytes}
use Rattle.layout.specs.Answers.{answer_numbers, bytes_behind}

-- an answer and a run, told
pub told : (r a : Answer) (xs : List ℕ) → r ≡ a → xs ≡ answer_numbers r → (r.number ≡ a.number) × (xs ≡ answer_numbers a)
told r a xs e q = (ap (λ (x : Answer). x.number) e, q ∙ ap answer_numbers e)

pub ran_told : (r : Answer) (out xs : List ℕ) (w : Run) → ran r out ≡ w → xs ≡ answer_numbers r
    → (r.number ≡ w.answer.number) × ((xs ≡ answer_numbers w.answer) × (out ≡ w.output))
ran_told r out xs w e q =
    (ap (λ (x : Run). x.answer.number) e, (q ∙ ap (λ (x : Run). answer_numbers x.answer) e, ap (λ (x : Run). x.output) e))

-- too short, and not
pub short : {A : Type 0} (b : List ℕ) (x y : A) → length b < 7208 → x ≡ cond (ltb (length b) 7208) x y
short b x y h = rw (lt-ltb (length b) 7208 h)

pub long : {A : Type 0} (b : List ℕ) (x y z : A) → 7208 ≤ length b → z ≡ y → z ≡ cond (ltb (length b) 7208) x y
long b x y z h e = rw (le-ltb (length b) 7208 h, e)

-- ---- what the code hands back of steps in bytes: the answer, the output, the bytes
abbrev pub Handed : Answer → List ℕ → List ℕ → List ℕ → Step → Type 0
Handed r out' b b' w = (r ≡ w.answer) × ((out' ≡ w.output) × (b' ≡ bytes_behind b w))

-- no step that gives 0, and some that do
module _ (b : List ℕ) (r w : Step) (q : r ≡ w) where
  handed_on : (b' : List ℕ) → b' ≡ bytes_behind b r → Handed r.answer r.output b b' w
  handed_on b' p = (ap (λ (x : Step). x.answer) q, (ap (λ (x : Step). x.output) q, p ∙ ap (bytes_behind b) q))

  pub no_event : r.answer.events ≡ 0 → Handed r.answer r.output b b w
  no_event n = handed_on b (rw (eq-eqb r.answer.events 0 n))

  pub some_events : (b' : List ℕ) → (r.answer.events ≡ 0 → ⊥) → b' ≡ overwrite b 0 (session_bytes r.session) → Handed r.answer r.output b b' w
  some_events b' n p = handed_on b' (p ∙ rw (ne_eqb r.answer.events 0 n))

-- ---- what a call hands back: the number that it returns, the answer's numbers, the output, the session's bytes
module _ (answer out b : List ℕ) (w : Step) where
  abbrev pub Called : ℕ → List ℕ → List ℕ → List ℕ → Type 0
  Called n answer' out' b' =
      (n ≡ cond (ltb (length b) 7208) 255 w.answer.number)
      × ((answer' ≡ cond (ltb (length b) 7208) answer (answer_numbers w.answer))
      × ((out' ≡ cond (ltb (length b) 7208) out w.output) × (b' ≡ cond (ltb (length b) 7208) b (bytes_behind b w))))

  pub called_short : length b < 7208 → Called 255 answer out b
  called_short h = (short b 255 w.answer.number h, (short b answer (answer_numbers w.answer) h, (short b out w.output h, short b b (bytes_behind b w) h)))

  pub called : (r : Answer) (answer' out' b' : List ℕ) → 7208 ≤ length b → Handed r out' b b' w → answer' ≡ answer_numbers r → Called r.number answer' out' b'
  called r answer' out' b' h e q = (
    long b 255 w.answer.number r.number h (ap (λ (x : Answer). x.number) e.0),
    (
      long b answer (answer_numbers w.answer) answer' h (q ∙ ap answer_numbers e.0),
      (long b out w.output out' h e.1.0, long b b (bytes_behind b w) b' h e.1.1),
    ),
  )
