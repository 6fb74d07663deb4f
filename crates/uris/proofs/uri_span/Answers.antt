-- `uris::uri_span` meets its contract: the tests on the way to each end say which case of `uri_span_of` it is.
use mathlib.Core.Path.{refl}
use native.Mathlib.Omega.{arith}
use borrow.Author.Tests.{eq-eqb, ne_eqb}
use Rattle.uris.proofs.UriSpans.{refused_table_lem, listed_class, in_scene, nowhere}
use Rattle.uris.proofs.uri_span.Goals as goal
use Rattle.uris.proofs.uri_span.Goals.{else-class-eq255-via-then-class-eq255+else-lies_in, else-class-eq255-via-else-class-eq255}

pub returns-then-judge-ne0 : goal.returns-then-judge-ne0
returns-then-judge-ne0 c = refused_table_lem _ c.args.scene.now c.args.class c.args.at c.args.len _ c.judge.ensures (λ e. absurd (omega (arith, c.if-judge-ne0.true, e)))

pub returns-in-Some : goal.returns-in-Some
returns-in-Some c =
    listed_class _ c.args.scene.now _ c.args.at c.args.len _ c.judge.ensures (omega (arith, c.if-judge-ne0.false)) _ c.header_of.ensures _ c.in-Some.ensures

pub returns-then-lies_in : goal.returns-then-lies_in
returns-then-lies_in c =
    in_scene _ _ _ _ _ _ c.judge.ensures (omega (arith, c.if-judge-ne0.false)) _ c.header_of.ensures c.in_default.ensures _ c.lies_in.ensures
    (rw (eq-eqb c.args.class 255 c.if-class-eq255.true) c.if-lies_in.true)

pub returns : goal.returns
returns c =
    elim c.else-class-eq255.branch [
      | else-class-eq255-via-then-class-eq255+else-lies_in w ↦
          nowhere _ _ _ _ _ _ c.judge.ensures (omega (arith, c.if-judge-ne0.false)) _ c.header_of.ensures c.in_default.ensures _ w.lies_in.ensures
          (rw (eq-eqb c.args.class 255 w.if-class-eq255.true) w.if-lies_in.false)
      | else-class-eq255-via-else-class-eq255 w ↦
          nowhere _ c.args.scene.now _ c.args.at c.args.len _ c.judge.ensures (omega (arith, c.if-judge-ne0.false)) _ c.header_of.ensures c.in_default.ensures _ refl
          (rw (ne_eqb c.args.class 255 w.if-class-eq255.false) refl)
    ]
