use Rattle.std.proofs.Common.{ℤ, ap, ◌∙◌}
use Rattle.janus_meaning.specs.Fault.{Res}
use Rattle.steps_walk.specs.Values.{holds_as}
use Rattle.steps_walk.proofs.evaluation.is_holding.Goals as goal

pub returns : goal.returns
returns g c = record {
  sight = c.in-Some.sight;
  of = c.in-Some.ensures.is;
  is = λ names there. c.is_true.ensures ∙ ap (λ (r : Res ℤ). holds_as r) (c.number_of.ensures names there);
}
