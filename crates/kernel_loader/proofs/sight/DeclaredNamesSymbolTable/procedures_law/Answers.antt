use Rattle.std.proofs.Common.{length, ap, arith}
use Rattle.janus_check.specs.Names.{Known}
use Rattle.kernel_loader.proofs.sight.DeclaredNamesSymbolTable.procedures_law.Goals as goal

pub returns : goal.returns
returns g c = omega (arith, ap (λ (k : Known). length k.procedures) c.self.view_is)
