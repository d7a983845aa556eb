use Rattle.std.proofs.Common.{◌≡◌, ℕ, List, map, ap, ◌∙◌}
use Rattle.std.specs.Borrow.{Bor}
use Rattle.janus_meaning.specs.Syntax.{Name}
use Rattle.steps_walk.specs.Sights.{AreInSight}
use Rattle.steps_walk.specs.Walk.{slots_in}
use Rattle.steps_program.specs.Told.{reads_text}
use Rattle.steps_program.proofs.Telling.{more}
use Rattle.steps_program.proofs.output.send_tokens.Goals as goal

pub returns-in-Ok : goal.returns-in-Ok
returns-in-Ok g c =
    let s = slots_in c.args.walk.now in
    let ts = c.args.tokens.now in
    let texts = λ (bs : List (Bor (List ℕ))). map (λ (b : Bor (List ℕ)). b.now) bs in
    more (λ out. (names : List Name) → AreInSight c.args.sight.now names → texts c.as_slice.result.now ≡ names → out ≡ reads_text s ts names names)
    (λ out. (names : List Name) → AreInSight c.args.sight.now names → out ≡ reads_text s ts names names)
    (g.W.Write.contents c.args.writer.now) (g.W.Write.contents c.send_each_read.new.writer) c.send_each_read.result
    (λ out told names h. told names h (ap texts c.as_slice.ensures.value ∙ c.in-Ok.ensures names h)) c.send_each_read.ensures
