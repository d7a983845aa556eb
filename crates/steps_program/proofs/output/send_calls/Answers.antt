use Rattle.std.proofs.Common.{◌≡◌, codes, refl, ◌∙◌, sym, subst, arith}
use Rattle.steps_walk.specs.Walk.{calls_in}
use Rattle.steps_program.specs.Told.{TellsCalls, TellsFirstCalls, TellsSomeCalls}
use Rattle.steps_program.proofs.Calling.{some_calls}
use Rattle.steps_program.proofs.Telling.{told, more}
use Rattle.steps_program.proofs.output.send_calls.Goals as goal

pub returns-then-open_calls-eq0 : goal.returns-then-open_calls-eq0
returns-then-open_calls-eq0 g c =
    let w = c.args.walk.now in
    let sources = c.args.sources.now in
    let none : calls_in w ≡ 0 = sym c.open_calls.ensures ∙ c.if-open_calls-eq0.true in
    told (TellsCalls sources w) (g.W.Write.contents c.args.writer.now) (g.W.Write.contents c.send.new.writer) (codes "no calls\n") c.send.result
    (subst (λ n. TellsSomeCalls sources w n (codes "no calls\n")) (sym none) refl) c.send.ensures.ok

pub returns : goal.returns
returns g c =
    let w = c.args.walk.now in
    let sources = c.args.sources.now in
    let some = c.if-open_calls-eq0.false in
    let many = c.open_calls.ensures in
    more (TellsFirstCalls sources w (calls_in w)) (TellsCalls sources w) (g.W.Write.contents c.args.writer.now)
    (g.W.Write.contents c.send_each_call.new.writer) c.send_each_call.result
    (λ out h. some_calls sources w (calls_in w) out (λ (none : calls_in w ≡ 0). omega (arith, none, some, many)) h) c.send_each_call.ensures
