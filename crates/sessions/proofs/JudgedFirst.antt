-- What is judged first, and what is answered then: 10 to 12, 7, 20, or what goes on.
use Prim.Native.Nat.{ℕ, ◌≤◌, ◌<◌}
use mathlib.Core.Path.{◌≡◌, refl, ap}
use mathlib.Core.List.{List}
use mathlib.Core.Bool.{Bool, true, false}
use borrow.Author.Tests.{lt-ltb, le-ltb, eq-eqb, ne_eqb}
use lib.ListN.{length}
use Rattle.table.specs.Table.{decode, standard}
use Rattle.table.specs.Judge.{judged, Accepted}
use Rattle.sessions.specs.Coherence.{coherent}
use Rattle.sessions.specs.Stepping.{plan_of, planned, refused_step, step_of}
use Rattle.sessions.specs.Asking.{judged_first}
use Rattle.sessions.specs.Session.{Session}

module _ {A : Type 0} (table s : List ℕ) (z : Session) (refuse : ℕ → ℕ → A) (go : A) where
  pub table_refused : ((judged table).number ≡ 0 → ⊥) → refuse (judged table).number (judged table).place ≡ judged_first standard table s z refuse go
  unfolding judged_first
  table_refused n = rw (ne_eqb (judged table).number 0 n)

  pub scene_refused : (judged table).number ≡ 0 → 16777215 < length s → refuse 7 0 ≡ judged_first standard table s z refuse go
  unfolding judged_first
  scene_refused e h = rw (eq-eqb (judged table).number 0 e, lt-ltb 16777215 (length s) h)

  pub session_refused : Accepted table ≡ true → length s ≤ 16777215 → coherent (decode table) s z ≡ false → refuse 20 0 ≡ judged_first standard table s z refuse go
  unfolding judged_first
  session_refused a h c = rw (a, le-ltb 16777215 (length s) h, c)

  pub session_goes : Accepted table ≡ true → length s ≤ 16777215 → coherent (decode table) s z ≡ true → go ≡ judged_first standard table s z refuse go
  unfolding judged_first
  session_goes a h c = rw (a, le-ltb 16777215 (length s) h, c)

-- what goes on matters only where nothing is refused
pub goes_same : {A : Type 0} (table s : List ℕ) (z : Session) (refuse : ℕ → ℕ → A) (go go' : A) → (coherent (decode table) s z ≡ true → go ≡ go') → judged_first standard table s z refuse go ≡ judged_first standard table s z refuse go'
unfolding judged_first
goes_same {A = A} table s z refuse go go' h = by (coherent (decode table) s z) refl
  where
    by : (b : Bool) → coherent (decode table) s z ≡ b → judged_first standard table s z refuse go ≡ judged_first standard table s z refuse go'
    by true e = ap (judged_first standard table s z refuse) (h e)
    by false e = rw e

-- a step
pub step_judged_first : (table s : List ℕ) (z : Session) (out : List ℕ) → judged_first standard table s z (λ (n p : ℕ). refused_step n p z out) (planned (plan_of (decode table) s z) z out) ≡ step_of standard table s z out
unfolding judged_first step_of
step_judged_first table s z out = refl
