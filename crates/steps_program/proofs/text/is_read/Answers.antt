use Rattle.std.proofs.Common.{List, ℕ, subst}
use Rattle.steps_walk.specs.Texts.{IsTextAt}
use Rattle.steps_program.specs.Walked.{IsReadAt}
use Rattle.steps_program.proofs.Entering.{if_true}
use Rattle.steps_program.proofs.text.is_read.Goals as goal

pub returns-in-Some : goal.returns-in-Some
returns-in-Some g c =
    let w = c.args.walk.now in
    let node = c.args.node in
    if_true c.has_text.result (IsTextAt w node c.as_str.result.now) (IsReadAt c.args.sources.now w node)
    (λ h. (c.in-Some.source.now, c.in-Some.ensures, subst (λ (t : List ℕ). IsTextAt w node t) c.as_str.ensures.value h)) c.has_text.ensures
