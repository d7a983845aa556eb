use Rattle.steps_walk.proofs.evaluation.seen_number.Goals as goal

pub returns : goal.returns
returns g c = record {
  here = c.in-Some.ensures.here;
  code = c.in-Some.ensures.code;
  node = c.in-Some.ensures.node;
  sight = c.in-Some-sight.sight;
  of = c.in-Some-sight.ensures.is;
  is = c.number_of.ensures;
}
