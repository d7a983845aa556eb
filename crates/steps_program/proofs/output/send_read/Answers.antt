use Rattle.std.proofs.Common.{ℕ, List, [], refl}
use Rattle.std.specs.Borrow.{Bor}
use Rattle.std.specs.Global.{Vec}
use Rattle.std.specs.Prelude.{Option, None, Some, Result}
use Rattle.std.specs.Str.Pattern.{GetsRange}
use Rattle.exact_write.proofs.SendLemmas.{appends_none}
use Rattle.janus_meaning.specs.Syntax.{Name}
use Rattle.janus_syntax.specs.Text.{IsLexed}
use Rattle.janus_syntax.specs.declared.fault.SyntaxFault.{SyntaxFault}
use Rattle.janus_syntax.specs.declared.token.Token.{Token}
use Rattle.steps_walk.specs.Sights.{AreInSight}
use Rattle.steps_walk.specs.Walk.{slots_in}
use Rattle.steps_program.specs.Told.{TellsTokens, TellsPart}
use Rattle.steps_program.proofs.Telling.{more}
use Rattle.steps_program.proofs.output.send_read.Goals as goal

pub returns-in-Some : goal.returns-in-Some
returns-in-Some g c =
    let s = slots_in c.args.walk.now in
    let part = c.in-Some.part in
    more (λ out. (names : List Name) → AreInSight c.args.sight.now names →
    (lexed : Result (Vec Token) SyntaxFault) × IsLexed part.now lexed × TellsTokens s names lexed out)
    (λ out. (names : List Name) → AreInSight c.args.sight.now names →
    (part : Option (Bor (List ℕ))) × GetsRange c.args.text.now c.args.span.start c.args.span.end part × TellsPart s names part out)
    (g.W.Write.contents c.args.writer.now) (g.W.Write.contents c.send_text.new.writer) c.send_text.result
    (λ out told names h. (Some part, c.in-Some.ensures.cases, told names h)) c.send_text.ensures

pub returns-in-None : goal.returns-in-None
returns-in-None g c = ([], λ names h. (None, c.in-None.ensures.cases, refl), appends_none (g.W.Write.contents c.args.writer.now))
