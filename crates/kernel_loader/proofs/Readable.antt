-- What the tables of a runner tell between two cells is known of the world that it shows.
use Rattle.std.proofs.Common.{◌≤◌, sym, ap, ◌∙◌, subst}
use Rattle.janus_meaning.specs.Store.{Store}
use Rattle.janus_meaning.specs.Shape.{shape_of}
use Rattle.janus_meaning.specs.FormedWorld.{HaveValues}
use Rattle.janus_meaning.specs.Limit.{name_limit}
use Rattle.janus_meaning.specs.World.{size_of}
use Rattle.janus_slots.specs.Numbers.{HaveOneNumber}
use Rattle.kernel_machine.specs.Language.{IsSound}
use Rattle.kernel_runner.specs.StoreState.{shown_store}
use Rattle.kernel_runner.specs.Runner.{ShownWorld, Is, Between}
use Rattle.kernel_runner.specs.declared.runner.Runner.{Runner}
use Rattle.kernel_runner.proofs.Declaring.{values_lend_nothing}
use Rattle.kernel_loader.specs.Known.{IsKnownOf}
use Rattle.kernel_loader.specs.Tables.{IsReadable, known_by}
use Rattle.kernel_loader.proofs.Entries.{entries_shape}
use Rattle.kernel_loader.proofs.InEffect.{heads_in_effect}

pub readable : {L : Type 0} (runner : Runner L) (shown : ShownWorld) → Is runner (Between shown) → IsSound shown.world → IsReadable runner.counted.store
readable runner shown is sound = record {
  values = subst HaveValues (sym is.0.store) sound.formed.values;
  few = subst (λ (s : Store). size_of s ≤ name_limit) (sym is.0.store) sound.formed.few_names;
  whole = is.1;
}

pub known_shown : {L : Type 0} (runner : Runner L) (shown : ShownWorld) → Is runner (Between shown) → IsSound shown.world → HaveOneNumber runner.entries →
    IsKnownOf (known_by runner.counted.store runner.entries runner.procedures) shown.world
known_shown runner shown is sound one =
    let s = shown_store runner.counted.store in
    let values = (readable runner shown is sound).values in
    record {
      names = entries_shape s (values_lend_nothing s values) ∙ ap shape_of is.0.store;
      heads = heads_in_effect runner.procedures shown.bodies shown.world.procedures runner.entries is.0.listed is.0.defined one;
    }
