-- A session taken apart and put together: its numbers, and its arrays in the one that holds its levels.
use mathlib.Core.Path.{◌≡◌, sym, ap, ◌∙◌}
use mathlib.Core.List.{List}
use Prim.Native.Nat.{ℕ}
use Rattle.strands.specs.Levels.{level_names, level_spaces, level_strands}
use Rattle.sessions.specs.Sessions.{head_of, session_of, session_at}
use Rattle.sessions.specs.Session.{Session}
use Rattle.sessions.specs.declared.Head.{Head}

-- a session's arrays, from the one that holds its levels
pub parted : (head : Head) (all levels bindings spaces strands : List ℕ) → levels ≡ level_names all → spaces ≡ level_spaces all → strands ≡ level_strands all → session_of head levels bindings spaces strands ≡ session_at head all bindings
parted head all levels bindings spaces strands en es ew =
    ap (λ (x : List ℕ). session_of head x bindings spaces strands) en
    ∙ ap (λ (x : List ℕ). session_of head (level_names all) bindings x strands) es
    ∙ ap (λ (x : List ℕ). session_of head (level_names all) bindings (level_spaces all) x) ew

-- the numbers and the arrays of a session, its levels joined, are it
pub whole_session : (z : Session) (head : Head) (all : List ℕ) → head ≡ head_of z → level_names all ≡ z.scope.levels → level_spaces all ≡ z.spaces → level_strands all ≡ z.strands → session_at head all z.scope.bindings ≡ z
whole_session z head all eh en es ew =
    ap (λ (h : Head). session_at h all z.scope.bindings) eh
    ∙ sym (parted (head_of z) all z.scope.levels z.scope.bindings z.spaces z.strands (sym en) (sym es) (sym ew))
