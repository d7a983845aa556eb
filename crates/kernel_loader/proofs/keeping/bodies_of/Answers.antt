use Rattle.std.proofs.Common.{◌≡◌, ◌+◌, length, List, [], sym, subst, arith}
use Rattle.std.specs.Prelude.{Contains}
use Rattle.janus_meaning.specs.Syntax.{Proc}
use Rattle.janus_syntax.specs.Tree.{procedure_view}
use Rattle.janus_syntax.specs.View.{plain_procedure}
use Rattle.kernel_loader.proofs.Kept.{among_at, bodies_more, one_longer, below_more}
use Rattle.kernel_loader.proofs.keeping.bodies_of.Goals as goal

pub body_of-requires-clause-of_cell : goal.body_of-requires-clause-of_cell
body_of-requires-clause-of_cell g c =
    subst (λ (ps : List Proc). Contains ps (plain_procedure (procedure_view c.index-procedures-i.result))) c.requires.defined
    (among_at c.args.procedures.now c.loop-i.i c.index-procedures-i.result c.loop-i-test.true (sym c.index-procedures-i.is))

pub loop-i-preserved : goal.loop-i-preserved
loop-i-preserved g c =
    let h = c.loop-i.invariant in
    let all = c.loop-i.bodies.items in
    let body = c.in_ok-body.body in
    let made = c.in_ok-push.ensures.items in
    let many : length all ≡ 0 + c.loop-i.i = omega (arith, h.1) in (
      bodies_more c.args.entries.now [] all c.push.new.self.items c.args.procedures.now c.loop-i.i c.index-procedures-i.result body c.loop-i-test.true
          (sym c.index-procedures-i.is) h.0 many made c.in_ok-body.ensures.name c.in_ok-body.ensures.is,
      (let longer = one_longer all body in subst (λ bs. length bs ≡ c.loop-i.i + 1) (sym made) (omega (arith, longer, h.1))),
      below_more (length c.args.entries.now) all c.push.new.self.items body made h.2 c.in_ok-body.ensures.few,
    )
