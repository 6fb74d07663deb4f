-- A commit of an offer: a step where session and length are the offer's.
use Prim.Native.Nat.{ℕ}
use mathlib.Core.Path.{◌≡◌, ap, ap₂, ◌∙◌}
use mathlib.Core.List.{List}
use mathlib.Core.Bool.{Bool, ◌&&◌, and_assoc}
use lib.ListN.{length}
use lib.Dec.{eqb}
use Rattle.table.specs.Table.{decode, standard}
use Rattle.equality.specs.Checks.{within_arrays}
use Rattle.sessions.specs.Sessions.{session_at}
use Rattle.sessions.specs.Asking.{holds_same, step_where, Offer, offered, commit_of}
use Rattle.sessions.specs.Session.{Session}
use Rattle.sessions.specs.declared.Head.{Head}
use Rattle.sessions.proofs.HeldSame.{within_coherent}
use Rattle.asking.proofs.AskTurns.{comparable, where_within}

pub where_offered : (table s : List ℕ) (z : Session) (out : List ℕ) (o : Offer) → step_where (comparable z o.session && eqb (length s) o.length) standard table s z out ≡ commit_of standard o z table s out
where_offered table s z out o =
    ap (λ (b : Bool). step_where b standard table s z out) (and_assoc (within_arrays z.scope.depth z.scope.bound z.spaces) (holds_same z o.session) (eqb (length s) o.length))
    ∙ where_within table s z out (within_arrays z.scope.depth z.scope.bound z.spaces) (offered o z s) (within_coherent (decode table) s z)

-- two sessions' numbers and arrays, their levels joined, what comparing them said, and what is then committed
pub commit_told : (o : Offer) (z : Session) (table s out : List ℕ) (head head' : Head) (all all' : List ℕ) (same : Bool)
    → session_at head all z.scope.bindings ≡ z → session_at head' all' o.session.scope.bindings ≡ o.session
    → same ≡ comparable (session_at head all z.scope.bindings) (session_at head' all' o.session.scope.bindings)
    → step_where (same && eqb (length s) o.length) standard table s z out ≡ commit_of standard o z table s out
commit_told o z table s out head head' all all' same e e' q =
    ap (λ (b : Bool). step_where (b && eqb (length s) o.length) standard table s z out) (q ∙ ap₂ comparable e e') ∙ where_offered table s z out o
