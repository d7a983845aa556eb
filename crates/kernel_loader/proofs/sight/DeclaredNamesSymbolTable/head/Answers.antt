use Rattle.std.proofs.Common.{ap, sym}
use Rattle.janus_meaning.specs.Shape.{head_at}
use Rattle.janus_check.specs.Names.{Known, heads_in}
use Rattle.kernel_loader.proofs.sight.DeclaredNamesSymbolTable.head.Goals as goal

pub returns : goal.returns
returns g c = ap (λ (k : Known). head_at c.args._name.now (heads_in k.procedures)) (sym c.self.view_is)
