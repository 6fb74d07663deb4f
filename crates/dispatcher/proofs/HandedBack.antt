-- What the calls of a session hand back: a session taken apart, some steps of it, and what they give put together; a step's records have room in the output, and it is one event at most.
use Prim.Native.Nat.{ℕ, ◌*◌, ◌≤◌}
use mathlib.Core.Path.{◌≡◌, sym, ap, subst, ◌∙◌}
use mathlib.Core.List.{List}
use lib.ListN.{length}
use Rattle.table.specs.Table.{standard}
use Rattle.table.specs.declared.Answer.{Answer}
use Rattle.strands.specs.Levels.{level_names, level_spaces, level_strands}
use Rattle.sessions.specs.Sessions.{head_of, session_at}
use Rattle.sessions.specs.Stepping.{Step, given, step_of}
use Rattle.sessions.specs.Turns.{advanced_answer, advanced_in}
use Rattle.sessions.specs.Session.{Session}
use Rattle.sessions.specs.declared.Head.{Head}
use Rattle.sessions.specs.declared.Advanced.{Advanced}
use Rattle.sessions.proofs.Parted.{whole_session}
use Rattle.sessions.proofs.Room.{Roomed, step_roomed}
use Rattle.dispatcher.specs.Handed.{handed}
use Rattle.dispatcher.specs.declared.Stepped.{Stepped}

-- what some steps make of them
pub next_advanced : (F : Session → Step) (z : Session) (head : Head) (all : List ℕ) (r : Advanced) (a : Answer) (z' : Session) (levels bindings out' : List ℕ)
    → head ≡ head_of z → level_names all ≡ z.scope.levels → level_spaces all ≡ z.spaces → level_strands all ≡ z.strands
    → a ≡ advanced_answer r → z' ≡ session_at r.head levels bindings
    → advanced_in r levels bindings out' ≡ F (session_at head all z.scope.bindings)
    → given a z' out' ≡ F z
next_advanced F z head all r a z' levels bindings out' eh en es ew ea ez q =
    ap (λ (x : Answer). given x z' out') ea
    ∙ ap (λ (x : Session). given (advanced_answer r) x out') ez
    ∙ q
    ∙ ap F (whole_session z head all eh en es ew)

-- a step's records have room
module _ (table s : List ℕ) (z : Session) (out : List ℕ) (r : Stepped) (out' : List ℕ) (q : handed r out' ≡ step_of standard table s z out) where
  pub step_room : 16 * r.answer.records ≤ length out
  step_room = (subst (Roomed out) (sym q) (step_roomed table s z out)).room

  pub step_one : r.answer.events ≤ 1
  step_one = (subst (Roomed out) (sym q) (step_roomed table s z out)).one
