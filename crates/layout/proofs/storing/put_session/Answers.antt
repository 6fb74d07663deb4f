-- `layout::storing::put_session` meets its contract.
use Rattle.std.proofs.Common.{◌≡◌, length, arith}
use Rattle.sessions.specs.Sessions.{session_at}
use Rattle.layout.proofs.Stored.{session_end}
use Rattle.layout.proofs.storing.put_session.Goals as goal

pub returns : goal.returns
returns c =
    let a = c.args in
    let n : length a.bindings.now ≡ 256 = omega arith in
    session_end a.b.now _ _ _ (session_at a.head a.levels.now a.bindings.now) n c.put_head.ensures c.put_words.ensures c.put_levels.ensures
