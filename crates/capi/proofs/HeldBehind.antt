-- Bytes that hold a session hold one behind steps.
--     advance_held, step_held    behind so many, and behind one
use Prim.Native.Nat.{ℕ, ◌≤◌, ◌<◌}
use mathlib.Core.Path.{◌≡◌, sym, ap, ◌∙◌}
use mathlib.Core.List.{List}
use mathlib.Core.Bool.{true}
use lib.Dec.{eqb}
use lib.ListN.{length}
use Rattle.laws.specs.Members.{All}
use Rattle.laws.proofs.Holds.{holds_cond}
use Rattle.table.specs.Table.{standard}
use Rattle.sessions.specs.Stepping.{Step, advance_of}
use Rattle.layout.specs.Layout.{session_in, holds_session}
use Rattle.layout.specs.Answers.{bytes_behind}
use Rattle.layout.proofs.RoundTrip.{Storable, AllPack, in_packs, in_storable}
use Rattle.layout.proofs.NextHeld.{next_held}
use Rattle.layout.proofs.NextStored.{next_storable, stored_held, advance_keeps}
use Rattle.capi.specs.Calls.{byte_step, byte_advance}
use Rattle.capi.proofs.ByteSteps.{byte_one}

pub advance_held : (most : ℕ) (table s b out : List ℕ) → All (λ (x : ℕ). x < 256) b → 7208 ≤ length b → holds_session b ≡ true → holds_session (bytes_behind b (byte_advance most table s b out)) ≡ true
unfolding byte_advance
advance_held most table s b out few long e =
    let z = session_in b in
    let r = advance_of standard most table s z out in
    rw e
    (holds_cond (λ (l : List ℕ). holds_session l ≡ true) (eqb r.answer.events 0)
    (λ n. e)
    (λ n. stored_held b r.session (advance_keeps Storable table s (next_storable table s) most z out (in_storable b few long)) (advance_keeps AllPack table s (next_held table s) most z out (in_packs b e))))

pub step_held : (table s b out : List ℕ) → All (λ (x : ℕ). x < 256) b → 7208 ≤ length b → holds_session b ≡ true → holds_session (bytes_behind b (byte_step table s b out)) ≡ true
step_held table s b out few long e = ap (λ (w : Step). holds_session (bytes_behind b w)) (sym (byte_one table s b out)) ∙ advance_held 1 table s b out few long e
