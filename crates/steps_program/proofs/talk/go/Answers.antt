use Rattle.std.proofs.Common.{Bool, true, false, sym, subst}
use Rattle.steps_program.specs.Obeyed.{IsLed}
use Rattle.steps_program.proofs.Stopping.{led_there}
use Rattle.steps_program.proofs.talk.go.Goals as goal

pub returns-then-is_onward-clause-led : goal.returns-then-is_onward-clause-led
returns-then-is_onward-clause-led g c =
    let sources = c.args.sources.now in
    subst (λ (b : Bool). IsLed sources b c.args.goal c.args.walk.now c.meet.new.walk c.go_on-came.result) (sym c.if-is_onward.true)
    (led_there sources true c.args.goal c.args.walk.now c.go_on-came.new.walk c.meet.new.walk c.go_on-came.result c.go_on-came.ensures.goes c.meet.ensures)

pub returns-clause-led : goal.returns-clause-led
returns-clause-led g c =
    let sources = c.args.sources.now in
    subst (λ (b : Bool). IsLed sources b c.args.goal c.args.walk.now c.meet-else-is_onward.new.walk c.go_back-came.result) (sym c.if-is_onward.false)
    (led_there sources false c.args.goal c.args.walk.now c.go_back-came.new.walk c.meet-else-is_onward.new.walk c.go_back-came.result
    c.go_back-came.ensures.goes c.meet-else-is_onward.ensures)
