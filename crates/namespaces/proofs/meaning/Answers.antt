-- `namespaces::meaning` meets its contract, declarations refused or not.
use Rattle.std.proofs.lemmas.Result.{err_from_is_err_and}
use Rattle.reader.proofs.Declaring.{declarations_few}
use Rattle.reader.proofs.Whole.{keys_found, undeclared, declared}
use Rattle.namespaces.proofs.meaning.Goals as goal

pub meant_by-requires : goal.meant_by-requires
meant_by-requires c =
    let d = c.declare_keys in
    let z = c in
    let k = keys_found _ _ d.result d.ensures.0 _ _ d.ensures.1 _ z.args.bound _ d.ensures.2 _ _ c.in_ok-owned.was (declarations_few _ _ z.args.count) z.requires.0 c.told-known z.requires.1 in
    (record { bound = z.requires.0; owned = k.0; outer = k.1; own = k.2 }, z.requires.2)

pub returns : goal.returns
returns c =
    let d = c.declare_keys in
    declared _ _ d.result d.ensures.0 _ _ d.ensures.1 _ c.args.bound _ d.ensures.2 _ _ _ _ _ _ _ c.in_ok-owned.was c.meant_by.ensures.0 c.meant_by.ensures.1

pub returns-in_err-owned : goal.returns-in_err-owned
returns-in_err-owned c =
    let d = c.declare_keys in
    let e = err_from_is_err_and c.from_residual.result c.from_residual.ensures.1 in
    rw (e.1, e.2) (undeclared _ _ d.result d.ensures.0 _ _ d.ensures.1 _ c.args.bound _ d.ensures.2 _ _ _ _ _ c.in_err-owned.was)
