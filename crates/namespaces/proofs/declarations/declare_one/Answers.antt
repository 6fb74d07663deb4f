-- `namespaces::declarations::declare_one` meets its contract, by the attribute's kind.
use mathlib.Core.Path.{ap}
use mathlib.Core.Logic.{⊎_elim}
use Rattle.reader.specs.Spans.{span}
use Rattle.reader.specs.Namespaces.{binding}
use Rattle.reader.proofs.Laying.{keep_none, keep_one, as_kind}
use Rattle.namespaces.proofs.declarations.declare_one.Goals as goal

pub returns-in-Plain : goal.returns-in-Plain
returns-in-Plain c =
    ⊎_elim (λ e. as_kind _ _ _ _ _ _ _ _ c.kind_of.ensures e (keep_none _ _ _)) (λ e. as_kind _ _ _ _ _ _ _ _ c.kind_of.ensures e (keep_none _ _ _)) c.in-Plain.is

pub returns-in-Default : goal.returns-in-Default
returns-in-Default c =
    let k = c.keep_binding.ensures in
    as_kind _ _ _ _ _ _ _ _ c.kind_of.ensures c.in-Default.is
    (keep_one _ _ _ _ _ _ _ (ap (binding (span 0 0)) c.between-uri.ensures) k.0 k.1)

pub returns-in-Declares : goal.returns-in-Declares
returns-in-Declares c =
    let k = c.keep_binding-in-Declares.ensures in
    as_kind _ _ _ _ _ _ _ _ c.kind_of.ensures c.in-Declares.is
    (keep_one _ _ _ _ _ _ _ (rw (c.between-prefix.ensures, c.between-uri.ensures)) k.0 k.1)
