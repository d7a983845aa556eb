use Rattle.std.proofs.Common.{length, ap}
use Rattle.janus_meaning.specs.Shape.{different}
use Rattle.janus_check.specs.Names.{Known, heads_in}
use Rattle.kernel_loader.proofs.sight.DeclaredNamesSymbolTable.procedures.Goals as goal

pub returns-clause-count : goal.returns-clause-count
returns-clause-count g c = ap (λ (k : Known). length k.procedures) c.self.view_is

pub returns-clause-distinct : goal.returns-clause-distinct
returns-clause-distinct g c = ap (λ (k : Known). different (heads_in k.procedures)) c.self.view_is
