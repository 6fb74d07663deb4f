-- `capi::calcivorne_fresh` meets its contract.
use mathlib.Core.Path.{refl}
use Rattle.laws.specs.Over.{overwrite}
use Rattle.sessions.specs.Sessions.{fresh_of}
use Rattle.layout.specs.Layout.{session_bytes}
use Rattle.layout.proofs.Told.{short, long}
use Rattle.capi.proofs.calcivorne_fresh.Goals as goal

pub returns-then-session-lt-SESSION_SIZE : goal.returns-then-session-lt-SESSION_SIZE
returns-then-session-lt-SESSION_SIZE c =
    let b = c.args.session.now in record {
      value = short b 255 0 c.if-session-lt-SESSION_SIZE.true;
      session_after = short b b (overwrite b 0 (session_bytes fresh_of)) c.if-session-lt-SESSION_SIZE.true;
    }

pub returns : goal.returns
returns c =
    let b = c.args.session.now in
    let l = c.if-session-lt-SESSION_SIZE.false in record {
      value = long b 255 0 0 l refl;
      session_after = long b b (overwrite b 0 (session_bytes fresh_of)) _ l c.put_fresh.ensures;
    }
