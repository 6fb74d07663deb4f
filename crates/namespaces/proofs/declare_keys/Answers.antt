-- `namespaces::declare_keys` meets its contract: attributes plain, declarations laid down, or refused.
use mathlib.Core.Path.{sym, ◌∙◌}
use native.Mathlib.Omega.{arith}
use Rattle.std.proofs.lemmas.Result.{err_from_is_err_and}
use Rattle.reader.proofs.Declaring.{declarations_few}
use Rattle.reader.proofs.Plain.{plain_declares_nothing}
use Rattle.reader.proofs.Whole.{owned_few, keys_refused, keys_declared, none_declared}
use Rattle.namespaces.proofs.declare_keys.Goals as goal

pub returns-then-plain : goal.returns-then-plain
returns-then-plain c =
    let z = none_declared _ _ _ _ c.args.bound (plain_declares_nothing _ _ (c.requires.1 c.if-plain.true)) in
    z

pub put_keys-requires : goal.put_keys-requires
put_keys-requires c =
    let d = c.declare in
    omega (arith, owned_few _ _ d.result d.ensures.0 _ c.in_ok-owned.was (declarations_few _ _ c.args.count), c.requires.0)

pub returns : goal.returns
returns c =
    let d = c.declare in
    let told = c.in_ok-owned.was in
    (sym told ∙ d.ensures.0, d.ensures.1, keys_declared _ _ d.result d.ensures.0 _ _ d.ensures.1 _ c.args.bound _ _ told c.put_keys.ensures)

pub returns-in_err-owned : goal.returns-in_err-owned
returns-in_err-owned c =
    let d = c.declare in
    let told = c.in_err-owned.was in
    let e = err_from_is_err_and c.from_residual.result c.from_residual.ensures.1 in
    (rw (e.1, e.2) (sym told ∙ d.ensures.0), d.ensures.1, keys_refused _ _ d.result d.ensures.0 _ _ d.ensures.1 _ c.args.bound _ told)
