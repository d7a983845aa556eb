use Rattle.std.proofs.Common.{length, ap, ◌∙◌, sym, arith}
use Rattle.janus_check.specs.Names.{Known}
use Rattle.kernel_runner.specs.StoreState.{shown_store}
use Rattle.kernel_loader.proofs.Entries.{entries_count}
use Rattle.kernel_loader.proofs.sight.DeclaredNamesSymbolTable.len.Goals as goal

pub returns-clause-count : goal.returns-clause-count
returns-clause-count g c =
    c.len.ensures.shown ∙ sym (entries_count (shown_store c.self.inside.store.now)) ∙ ap (λ (k : Known). length k.names) c.self.view_is

pub returns-clause-small : goal.returns-clause-small
returns-clause-small g c = omega (arith, c.len.ensures.shown, c.self.invariant.few)
