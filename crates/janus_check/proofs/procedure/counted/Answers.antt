use Rattle.std.proofs.Common.{◌++◌, ap, ◌∙◌, sym, arith}
use Rattle.std.proofs.lemmas.List.{length-append}
use Rattle.janus_meaning.specs.Shape.{count_new}
use Rattle.janus_check.specs.Names.{meant_kinds, heads_in}
use Rattle.janus_check.proofs.ScopeLemmas.{at_second, different_within, length-alone}
use Rattle.janus_check.proofs.procedure.counted.Goals as goal

pub overflow_add-result : goal.overflow_add-result
overflow_add-result g c =
    let table = g.T.SymbolTable.known in
    let own = heads_in c.args.own.now.procedures in
    let env = heads_in (table c.args.env.now).procedures in
    omega (
      arith,
      c.requires.counted,
      different_within (own ++ env),
      length-append own env,
      length-alone meant_kinds c.args.own.now.procedures,
      length-alone meant_kinds (table c.args.env.now).procedures,
      c.procedures_law.ensures,
      c.procedures_law-2.ensures,
    )

pub returns-in-Some : goal.returns-in-Some
returns-in-Some g c =
    let table = g.T.SymbolTable.known in
    sym (ap (λ o. count_new o c.args.count)
    (at_second c.args.name.now (heads_in c.args.own.now.procedures) (heads_in (table c.args.env.now).procedures) c.requires.new ∙ c.in-Some.ensures))

pub returns-in-None : goal.returns-in-None
returns-in-None g c =
    let table = g.T.SymbolTable.known in
    let e = ap (λ o. count_new o c.args.count)
    (at_second c.args.name.now (heads_in c.args.own.now.procedures) (heads_in (table c.args.env.now).procedures) c.requires.new ∙ c.in-None.ensures) in
    omega (arith, e)
