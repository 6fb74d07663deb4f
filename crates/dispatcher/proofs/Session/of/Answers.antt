-- `Session::of` meets its contract: its arrays are what the levels have.
use Rattle.sessions.proofs.Parted.{parted}
use Rattle.dispatcher.proofs.Session.of.Goals as goal

pub returns : goal.returns
returns c = let a = c.args in parted a.head a.all.now _ a.bindings _ _ c.part_levels.ensures c.part_levels-2.ensures c.part_levels-3.ensures
