use Rattle.std.proofs.Common.{ℕ, ◌<◌, refl, sym, subst, arith}
use Rattle.std.specs.Prelude.{Option, Some}
use Rattle.janus_syntax.specs.Tree.{cell_view}
use Rattle.steps_walk.specs.Texts.{IsTreeAt}
use Rattle.steps_walk.proofs.walk.Walk.cell.Goals as goal

pub returns : goal.returns
returns g c =
    let w = c.args.self.now in
    let t = cell_view c.content.result.now.program.cell in
    let zero = c.if-n-eq0.false in
    let some : 0 < c.in-Some.n = omega (arith, zero) in
    let is : IsTreeAt w (Some c.in-Some.n) t = (c.content.result.now, (some, c.content.ensures), refl) in
    subst (λ (o : Option ℕ). IsTreeAt w o t) (sym c.in-Some.is) is
