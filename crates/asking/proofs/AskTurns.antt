-- Ask and commit by turns: what is answered behind judge, behind 7, behind 20.
use Prim.Native.Nat.{ℕ, ◌≤◌, ◌<◌}
use mathlib.Core.Path.{◌≡◌, refl, sym, ap, ◌∙◌}
use mathlib.Core.List.{List}
use mathlib.Core.Bool.{Bool, true, false, cond, not, ◌&&◌}
use borrow.Author.Tests.{not-true, not-false}
use lib.ListN.{length}
use Rattle.table.specs.Table.{table_of, header_of, decode, standard}
use Rattle.table.specs.Judge.{judged}
use Rattle.table.specs.declared.Answer.{Answer}
use Rattle.table.specs.declared.Header.{Header}
use Rattle.equality.specs.Checks.{within_arrays}
use Rattle.sessions.specs.Coherence.{coherent}
use Rattle.sessions.specs.Stepping.{Plan, refused, finished, event, plan_of, answered, refused_step, planned}
use Rattle.sessions.specs.Asking.{holds_same, plan_answer, judged_first, step_where}
use Rattle.sessions.specs.Turns.{weighed}
use Rattle.sessions.specs.Session.{Session}
use Rattle.sessions.proofs.JudgedFirst.{table_refused, scene_refused, session_refused, session_goes, goes_same}
use Rattle.advances.proofs.RunTurns.{judged_zero, number_zero, then_accepted, judged_coherent}

-- what judge, the scene's length and the session's check answered, and what is then refused or goes on
module _ {A : Type 0} (table s : List ℕ) (z : Session) (refuse : ℕ → ℕ → A) (go : A) (a : Answer) (q : a ≡ judged table) where
  pub by_table : (a.number ≡ 0 → ⊥) → refuse a.number a.place ≡ judged_first standard table s z refuse go
  by_table n = ap (λ (x : Answer). refuse x.number x.place) q ∙ table_refused table s z refuse go (judged_zero table s a q n)

  pub by_length : a.number ≡ 0 → 16777215 < length s → refuse 7 0 ≡ judged_first standard table s z refuse go
  by_length e h = scene_refused table s z refuse go (number_zero table s a q e) h

  module _ (e : a.number ≡ 0) (short : length s ≤ 16777215) (header : Header) (h : header ≡ header_of table) (r : Bool) (k : r ≡ coherent (table_of table header) s z) where
    coherent_is : r ≡ coherent (decode table) s z
    coherent_is = judged_coherent table s header z h (then_accepted table s a q e) short r k

    pub by_session : not r ≡ true → refuse 20 0 ≡ judged_first standard table s z refuse go
    by_session n = session_refused table s z refuse go (then_accepted table s a q e) short (sym coherent_is ∙ not-true r n)

    pub by_plan : not r ≡ false → go ≡ judged_first standard table s z refuse go
    by_plan n = session_goes table s z refuse go (then_accepted table s a q e) short (sym coherent_is ∙ not-false r n)

-- an event counted is what is asked of it
pub counted_plan : (p : Plan) (z : Session) → answered (weighed p z).answer.number (weighed p z).answer.place 0 (weighed p z).answer.records ≡ plan_answer p
counted_plan (refused n p) z = refl
counted_plan (finished p) z = refl
counted_plan (event at records next) z = refl

-- ---- commit
-- a session and another's, as their counts fit the first's arrays
abbrev pub comparable : Session → Session → Bool
comparable x y = within_arrays x.scope.depth x.scope.bound x.spaces && holds_same x y

module _ (table s : List ℕ) (z : Session) (out : List ℕ) where
  -- where number 20 accepts the session, its counts fit
  pub where_within : (w b : Bool) → (coherent (decode table) s z ≡ true → w ≡ true) → step_where (w && b) standard table s z out ≡ step_where b standard table s z out
  where_within w b h =
      goes_same table s z (λ (n p : ℕ). refused_step n p z out) _ _
      (λ e. ap (λ (x : Bool). cond (not (x && b)) (refused_step 30 0 z out) (planned (plan_of (decode table) s z) z out)) (h e))
