-- N6: what ask and commit promise beside a step; sessions that hold the same; lists of calls in which commits of any offers stand. Definitions.
use Rattle.std.specs.Prelude.{ℕ, ◌*◌, ◌≤◌, ◌<◌, ◌≡◌, List, [], ◌∷◌, true, ◌⊎◌, length}
use Rattle.table.specs.Table.{standard}
use Rattle.sessions.specs.Stepping.{Step}
use Rattle.sessions.specs.Asking.{holds_same, Offer, Asked, commit_of}
use Rattle.sessions.specs.Session.{Session}
use Rattle.demands.specs.Answers.{Unchanged}
use Rattle.demands.specs.Calls.{Call, AnyCall, call_of, handed_back}

-- what an ask says of a step: "if n = 0 and 16 r > |out|", 25 and nothing changed; "else number, place and records of Step(t, s, x, out) are n, p, r"
pub record Foretold (a : Asked) (z : Session) (out : List ℕ) (r : Step) : Type 0 where
  pub short : a.number ≡ 0 → length out < 16 * a.records → (r.answer.number ≡ 25) × Unchanged z out r
  pub enough : (a.number ≡ 0 → 16 * a.records ≤ length out)
      → (r.answer.number ≡ a.number) × (r.answer.place ≡ a.place) × (r.answer.records ≡ a.records)

-- "that step's number is 10, 11, 12, 7 or 20"
abbrev pub JudgedNumber : ℕ → Type 0
JudgedNumber n = ((10 ≤ n) × (n ≤ 12)) ⊎ ((n ≡ 7) ⊎ (n ≡ 20))

-- "x holds what o's session holds and |s| is o's length"
abbrev pub AsOffered : Offer → Session → List ℕ → Type 0
AsOffered o z s = (holds_same z o.session ≡ true) × (length s ≡ o.length)

-- ---- sessions that hold the same
-- arrays as long as those of the session type
pub record Sized (z : Session) : Type 0 where
  pub levels : length z.scope.levels ≡ 192
  pub bindings : length z.scope.bindings ≡ 256
  pub spaces : length z.spaces ≡ 256
  pub strands : length z.strands ≡ 1024

-- "What no session holds does not count: array places past the counts, a number stored where there is no target": all that two sessions may differ in
pub record HoldSame (x y : Session) : Type 0 where
  pub one : Sized x
  pub other : Sized y
  pub same : holds_same x y ≡ true

-- ---- lists
-- A call of step or of advance, or of commit of an offer
pub data OfferedCall : Type 0 where
  of_call : AnyCall → OfferedCall
  of_commit : Offer → Call → OfferedCall

abbrev pub call_in : OfferedCall → Call
call_in (of_call c) = call_of c
call_in (of_commit o c) = c

-- what it hands back of a session
abbrev pub handed_over : List ℕ → Session → OfferedCall → Step
handed_over table z (of_call c) = handed_back table z c
handed_over table z (of_commit o c) = commit_of standard o z table c.scene c.output

-- what the calls hand back: each goes on from the session that the one before handed back
unfoldable pub offered_from : List ℕ → Session → List OfferedCall → List Step
offered_from table z [] = []
offered_from table z (c ∷ cs) =
    let r = handed_over table z c in
    r ∷ offered_from table r.session cs
