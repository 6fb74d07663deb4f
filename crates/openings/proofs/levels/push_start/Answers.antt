-- `openings::levels::push_start` meets its contract: each part of a level is one part overwritten.
use Prim.Native.Nat.{◌*◌}
use mathlib.Core.Path.{refl, ◌∙◌}
use Rattle.openings.proofs.Openings.{few_taken, pushed_names, pushed_spaces, pushed_strands, pushed_free, pushed_name, pushed_bindings_lem}
use Rattle.openings.proofs.levels.push_start.Goals as goal

pub returns : goal.returns
returns c =
    let b = c in
    let a = b.args in
    let p = b.requires in
    let m = c.saturating_sub in
    let n = c.push_name in
    let l = a.levels.now in
    let e = n.ensures.0 ∙ pushed_name l (24 * a.depth) m.result a.owned a.tag.name m.ensures in
    let f = c.push_space.ensures in
    let g = c.push_strands.ensures in
    let few = few_taken a.count a.words.now p.1 in (
      pushed_names l _ _ _ a.depth _ _ _ n.ensures.1 p.0 refl refl few e f g,
      pushed_bindings_lem a.bindings.now _ a.own.now a.bound a.owned c.push_bindings.ensures p.2 p.3,
      pushed_spaces l _ _ _ a.depth _ _ _ n.ensures.1 p.0 refl refl few e f g,
      pushed_strands l _ _ _ a.depth _ _ _ n.ensures.1 p.0 refl refl few e f g,
      pushed_free l _ _ _ a.depth _ _ _ n.ensures.1 p.0 refl refl few e f g,
    )
