use Rattle.kernel_runner.specs.StoreState.{shown_store}
use Rattle.kernel_runner.proofs.Declaring.{values_lend_nothing}
use Rattle.kernel_loader.proofs.Entries.{entries_shape}
use Rattle.kernel_loader.proofs.sight.DeclaredNames.new.Goals as goal

pub returns-clause-shape : goal.returns-clause-shape
returns-clause-shape g c =
    let s = shown_store c.args.store.now in
    entries_shape s (values_lend_nothing s c.requires.values)
