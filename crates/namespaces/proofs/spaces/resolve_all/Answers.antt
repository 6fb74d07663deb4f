-- `namespaces::spaces::resolve_all` meets its contract, attributes plain or not.
use Rattle.reader.proofs.Plain.{plain_cleared}
use Rattle.namespaces.proofs.spaces.resolve_all.Goals as goal

pub returns-then-plain : goal.returns-then-plain
returns-then-plain c = plain_cleared _ _ c.args.in_scope.owned _ c.args.in_scope.bound _ c.args.count _ _ (c.requires.1 c.if-plain.true) c.clear_codes.ensures
