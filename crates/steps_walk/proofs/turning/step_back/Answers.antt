use Rattle.std.proofs.Common.{List, ◌∙◌, sym, subst}
use Rattle.janus_meaning.specs.Syntax.{Name}
use Rattle.janus_meaning.specs.World.{stacks_in}
use Rattle.janus_slots.specs.Slots.{procedures_in}
use Rattle.janus_machine.specs.Law.{NeverBroken}
use Rattle.kernel_machine.specs.Language.{run_block}
use Rattle.kernel_runner.specs.Runner.{at_count, start_at, block_of, slots_of}
use Rattle.steps_walk.proofs.turning.step_back.Goals as goal

pub returns-clause-goes : goal.returns-clause-goes
returns-clause-goes g c = λ at h.
    let turned = c.turn.ensures.turns at h in
    let gone = c.back.ensures.goes at turned in
    let same = c.back.ensures.entries ∙ c.turn.ensures.entries in
    c.turn_on.ensures.turns (at_count _ at) gone
    (subst
    (λ (es : List Name). NeverBroken (procedures_in es (start_at at).procedures) (stacks_in (start_at at).store)
    (block_of es (run_block at.code) (start_at at)) (slots_of (start_at at))) (sym same) h.faces.1)
