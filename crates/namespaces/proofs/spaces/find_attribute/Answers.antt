-- `namespaces::spaces::find_attribute` meets its contract, by the attribute's kind.
use mathlib.Core.Path.{refl}
use mathlib.Core.Logic.{⊎_elim}
use Rattle.reader.proofs.InForce.{attribute_as}
use Rattle.namespaces.proofs.spaces.find_attribute.Goals as goal

pub returns-in-Plain : goal.returns-in-Plain
returns-in-Plain c =
    ⊎_elim (λ e. attribute_as _ _ _ _ _ _ _ _ _ c.kind_of.ensures e refl)
    (⊎_elim (λ e. attribute_as _ _ _ _ _ _ _ _ _ c.kind_of.ensures e refl) (λ e. attribute_as _ _ _ _ _ _ _ _ _ c.kind_of.ensures e refl)) c.in-Plain.is

pub returns-in-Prefixed : goal.returns-in-Prefixed
returns-in-Prefixed c = attribute_as _ _ _ _ _ _ _ _ _ c.kind_of.ensures c.in-Prefixed.is (rw (← c.prefix_of.ensures) c.find.ensures)
