use Rattle.std.proofs.Common.{◌∙◌}
use Rattle.steps_program.proofs.going.keep_value.Goals as goal

pub returns : goal.returns
returns g c = record {
  sight = c.in-Some.sight;
  of = c.in-Some.ensures.is;
  is = λ names there. c.in_ok-kept.ensures ∙ c.value_of.ensures names there;
}
