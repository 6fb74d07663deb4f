-- Bytes that hold no session: 10 to 12, 7, 20.
use Prim.Native.Nat.{ℕ, ◌≤◌, ◌<◌}
use mathlib.Core.Path.{◌≡◌, refl, sym, ap, ◌∙◌}
use mathlib.Core.List.{List}
use mathlib.Core.Bool.{Bool, true, false, cond, not}
use borrow.Author.Tests.{lt-ltb, le-ltb, eq-eqb, ne_eqb}
use lib.Dec.{eqb, ltb}
use lib.ListN.{length}
use Rattle.table.specs.declared.Answer.{Answer}
use Rattle.sessions.specs.Stepping.{answered, refused_step, longest}
use Rattle.sessions.specs.Session.{Session}
use Rattle.layout.proofs.Told.{Handed}

abbrev pub unheld_answer : Answer → Bool → Answer
unheld_answer j long = cond (not (eqb j.number 0)) (answered j.number j.place 0 0) (cond long (answered 7 0 0 0) (answered 20 0 0 0))

pub unheld_judged : (j a r : Answer) (long : Bool) → a ≡ j → (a.number ≡ 0 → ⊥) → r ≡ answered a.number a.place 0 0 → r ≡ unheld_answer j long
unheld_judged j a r long e n q =
    q ∙ (ap (λ (x : Answer). answered x.number x.place 0 0) e ∙ rw (ne_eqb j.number 0 (λ (z : j.number ≡ 0). n (ap (λ (x : Answer). x.number) e ∙ z))))

pub unheld_long : (j a r : Answer) (s : List ℕ) → a ≡ j → a.number ≡ 0 → longest < length s → r ≡ answered 7 0 0 0 → r ≡ unheld_answer j (ltb longest (length s))
unheld_long j a r s e z h q =
    q ∙ rw (eq-eqb j.number 0 (ap (λ (x : Answer). x.number) (sym e) ∙ z), lt-ltb longest (length s) h)

pub unheld_short : (j a r : Answer) (s : List ℕ) → a ≡ j → a.number ≡ 0 → length s ≤ longest → r ≡ answered 20 0 0 0 → r ≡ unheld_answer j (ltb longest (length s))
unheld_short j a r s e z h q =
    q ∙ rw (eq-eqb j.number 0 (ap (λ (x : Answer). x.number) (sym e) ∙ z), le-ltb longest (length s) h)

-- handed back
pub refusals : (j r : Answer) (long : Bool) (z : Session) (b out : List ℕ) → r ≡ unheld_answer j long
    → Handed r out b b (cond (not (eqb j.number 0)) (refused_step j.number j.place z out) (cond long (refused_step 7 0 z out) (refused_step 20 0 z out)))
refusals j r long z b out q = by (not (eqb j.number 0)) long q
  where
    by : (t l : Bool)
        → r ≡ cond t (answered j.number j.place 0 0) (cond l (answered 7 0 0 0) (answered 20 0 0 0))
        → Handed r out b b (cond t (refused_step j.number j.place z out) (cond l (refused_step 7 0 z out) (refused_step 20 0 z out)))
    by true l q = (q, (refl, refl))
    by false true q = (q, (refl, refl))
    by false false q = (q, (refl, refl))
