-- Samples A to H, as one fact about the definitions, by computation.
use mathlib.Core.Path.{refl}
use Rattle.sessions.specs.Computing.{computing}
use Rattle.demands.specs.Samples.{SampleA, SampleB, SampleC, SampleD, SampleE, SampleF, SampleG, SampleH}

pub samples : SampleA × SampleB × SampleC × SampleD × SampleE × SampleF × SampleG × SampleH
unfolding computing
samples = (refl, refl, refl, refl, refl, refl, refl, (refl, refl))
