use Rattle.std.proofs.Common.{◌+◌, ap, ◌∙◌, sym, drop}
use Rattle.janus_syntax.specs.Tree.{procedure_view, procedures_view}
use Rattle.janus_check.specs.Fault.{first_from}
use Rattle.janus_check.specs.Check.{body_faults, bodies_faults}
use Rattle.janus_check.specs.Sight.{heads_over}
use Rattle.janus_check.proofs.FirstLemmas.{first_from-append}
use Rattle.janus_check.proofs.DropLemmas.{dropped}
use Rattle.janus_check.proofs.procedure.bodies_fault.Goals as goal

pub loop-i-preserved : goal.loop-i-preserved
loop-i-preserved g c =
    let table = g.T.SymbolTable.known in
    let hs = heads_over (table c.args.env.now) c.args.own.now in
    let ps = c.args.procedures.now in
    let i = c.loop-i.i in
    let p = c.index-procedures-i.result in
    let rest = bodies_faults hs (procedures_view (drop (i + 1) ps)) in
    ap (λ f. first_from f rest) c.body_fault-next.ensures
    ∙ sym (first_from-append c.loop-i.next (body_faults hs (procedure_view p)) rest)
    ∙ ap (λ ps. first_from c.loop-i.next (bodies_faults hs (procedures_view ps))) (dropped ps i p c.index-procedures-i.is c.loop-i-test.true)
    ∙ c.loop-i.invariant
