use Rattle.std.proofs.Common.{length, sym, ap, ◌∙◌, subst}
use Rattle.janus_meaning.specs.World.{declare}
use Rattle.janus_slots.specs.Slots.{names_in}
use Rattle.janus_slots.specs.Law.{AreListed}
use Rattle.janus_syntax.specs.Tree as tree
use Rattle.janus_syntax.specs.Tree.{cell_view}
use Rattle.janus_syntax.specs.View.{plain_cell}
use Rattle.janus_check.specs.Names.{Known}
use Rattle.kernel_machine.specs.Text.{Accepts}
use Rattle.kernel_runner.specs.StoreState.{shown_store}
use Rattle.kernel_loader.specs.Known.{IsKnownOf}
use Rattle.kernel_loader.specs.Loading.{IsReadyOnceKept}
use Rattle.kernel_loader.proofs.Readable.{known_shown}
use Rattle.kernel_loader.proofs.loader.make.Goals as goal

pub link-requires : goal.link-requires
link-requires g c =
    let s = c.requires.shows in
    let known = known_shown c.args.runner.now s.0 s.1 s.2 c.one_number_law.ensures in
    record {
      known = (
        s.0,
        record {
          is = s.1;
          known = subst (λ (k : Known). IsKnownOf k s.0.world) (sym (c.in-Ok.ensures.known ∙ c.new-tables.ensures)) known;
          values = s.2.formed.values;
        },
      );
      listed = subst (λ (t : tree.Cell). AreListed c.args.runner.now.entries (plain_cell t).procedures) (sym c.in-Ok.ensures.same) c.requires.listed;
    }

pub returns-in-Err-clause-refuses : goal.returns-in-Err-clause-refuses
returns-in-Err-clause-refuses g c = λ shown is sound text read.
    c.in-Err.ensures.refuses shown.world text
    (subst (λ (k : Known). IsKnownOf k shown.world) (sym c.new-tables.ensures) (known_shown c.args.runner.now shown is sound c.one_number_law.ensures)) read

pub returns-clause-accepts : goal.returns-clause-accepts
returns-clause-accepts g c = λ shown is sound text read.
    let known = known_shown c.args.runner.now shown is sound c.one_number_law.ensures in
    subst (λ (t : tree.Cell). Accepts shown.world text (plain_cell t)) (sym c.into_cell.ensures)
    (c.in-Ok.ensures.accepts shown.world text (subst (λ (k : Known). IsKnownOf k shown.world) (sym c.new-tables.ensures) known) read)

pub returns-clause-same : goal.returns-clause-same
returns-clause-same g c = c.into_cell.ensures ∙ c.in-Ok.ensures.same

pub returns-clause-ready : goal.returns-clause-ready
returns-clause-ready g c =
    subst (λ (t : tree.Cell). IsReadyOnceKept c.args.runner.now.entries
    (names_in (declare (plain_cell t).declarations (shown_store c.args.runner.now.counted.store))) t c.in-Ok-link.book c.in-Ok-link.bodies.items)
    c.in-Ok.ensures.same c.in-Ok-link.ensures.ready

pub returns-clause-count : goal.returns-clause-count
returns-clause-count g c =
    c.in-Ok-link.ensures.count ∙ ap (λ (t : tree.Cell). length (plain_cell t).procedures) c.in-Ok.ensures.same
