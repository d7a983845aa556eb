use Rattle.std.proofs.Common.{◌≡◌, List, ap, ◌∙◌}
use Rattle.std.specs.Global.{Vec}
use Rattle.std.specs.Prelude.{Result, Ok}
use Rattle.janus_meaning.specs.Syntax.{Name}
use Rattle.janus_syntax.specs.Text.{IsLexed}
use Rattle.janus_syntax.specs.declared.fault.SyntaxFault.{SyntaxFault}
use Rattle.janus_syntax.specs.declared.token.Token.{Token}
use Rattle.steps_walk.specs.Sights.{AreInSight}
use Rattle.steps_walk.specs.Walk.{slots_in}
use Rattle.steps_program.specs.Told.{TellsTokens, reads_text}
use Rattle.steps_program.proofs.Telling.{more}
use Rattle.steps_program.proofs.output.send_text.Goals as goal

pub returns-in-Ok : goal.returns-in-Ok
returns-in-Ok g c =
    let s = slots_in c.args.walk.now in
    more (λ out. (names : List Name) → AreInSight c.args.sight.now names → out ≡ reads_text s c.as_slice.result.now names names)
    (λ out. (names : List Name) → AreInSight c.args.sight.now names →
    (lexed : Result (Vec Token) SyntaxFault) × IsLexed c.args.text.now lexed × TellsTokens s names lexed out)
    (g.W.Write.contents c.args.writer.now) (g.W.Write.contents c.send_tokens.new.writer) c.send_tokens.result
    (λ out told names h.
    (Ok c.in-Ok.tokens, c.in-Ok.ensures.read, told names h ∙ ap (λ (ts : List Token). reads_text s ts names names) c.as_slice.ensures.value))
    c.send_tokens.ensures
