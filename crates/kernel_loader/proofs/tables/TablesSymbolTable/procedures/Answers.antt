use Rattle.std.proofs.Common.{ap, ◌∙◌, sym}
use Rattle.janus_meaning.specs.Shape.{different}
use Rattle.janus_check.specs.Names.{Known, meant_kinds, heads_in}
use Rattle.janus_check.proofs.ScopeLemmas.{different_alone}
use Rattle.kernel_loader.proofs.InEffect.{in_effect_added}
use Rattle.kernel_loader.proofs.tables.TablesSymbolTable.procedures.Goals as goal

pub returns-clause-distinct : goal.returns-clause-distinct
returns-clause-distinct g c =
    c.count_in_effect.ensures
    ∙ sym (different_alone meant_kinds _ (in_effect_added c.self.inside.procedures.now c.self.inside.entries.now c.one_number_law.ensures))
    ∙ ap (λ (k : Known). different (heads_in k.procedures)) c.self.view_is
