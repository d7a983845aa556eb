use Rattle.std.proofs.Common.{◌∙◌, ap, sym, subst}
use Rattle.janus_meaning.specs.Shape.{shape_of}
use Rattle.janus_meaning.specs.World.{World}
use Rattle.kernel_ask.specs.Evaluation.{IsEvaluated}
use Rattle.kernel_ask.proofs.ask.evaluate.Goals as goal

pub evaluation_of-requires : goal.evaluation_of-requires
evaluation_of-requires g c =
    record { names = c.declared_names-names.ensures.shape ∙ ap (λ (w : World). shape_of w.store) (sym (c.world-world.ensures.idle c.requires)) }

pub returns : goal.returns
returns g c =
    subst (λ (w : World). IsEvaluated w.store c.args.text.now c.evaluation_of.result) (c.world-world.ensures.idle c.requires)
    (c.evaluation_of.ensures c.args.text.now c.parse_exp-read.ensures.read)
