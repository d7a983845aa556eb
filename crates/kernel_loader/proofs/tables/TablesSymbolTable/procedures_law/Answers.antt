use Rattle.std.proofs.Common.{length, ap, arith}
use Rattle.janus_check.specs.Names.{Known}
use Rattle.kernel_loader.proofs.InEffect.{in_effect_few}
use Rattle.kernel_loader.proofs.tables.TablesSymbolTable.procedures_law.Goals as goal

pub returns : goal.returns
returns g c =
    omega (
      arith,
      in_effect_few c.self.inside.procedures.now 0 c.self.inside.entries.now,
      c.few_law.ensures,
      ap (λ (k : Known). length k.procedures) c.self.view_is,
    )
