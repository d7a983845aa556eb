use Rattle.std.proofs.Common.{length, ap, arith}
use Rattle.janus_check.specs.Names.{shape_in, over}
use Rattle.janus_check.specs.Scope.{scoped}
use Rattle.janus_check.proofs.ScopeLemmas.{length-over, length-shape}
use Rattle.janus_check.proofs.scope.+counted.Goals as goal

pub returns-in-Declared : goal.returns-in-Declared
returns-in-Declared g t c =
    let env = (g.T.SymbolTable.known c.args.env.now).names in
    let own = c.args.own.now.names in
    omega (
      arith,
      ap (λ s. length (scoped (over (shape_in env) own) s)) c.in-Declared.is,
      length-over (shape_in env) own,
      length-shape env,
      c.len.ensures.count,
      c.len-in-Declared.ensures.count,
    )
