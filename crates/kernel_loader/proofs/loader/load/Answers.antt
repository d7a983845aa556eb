use Rattle.std.proofs.Common.{◌+◌, [], length, rules, refl, sym, ap, ◌∙◌, subst, inl}
use Rattle.janus_meaning.specs.World as world
use Rattle.janus_meaning.specs.World.{declare}
use Rattle.janus_slots.specs.Slots.{names_in}
use Rattle.janus_slots.specs.Law.{AreListed}
use Rattle.kernel_machine.specs.Text.{Refuses}
use Rattle.kernel_runner.specs.StoreState.{shown_store}
use Rattle.kernel_runner.specs.Program.{IsReady}
use Rattle.kernel_loader.specs.Loading.{OfEachShown, AddNamesOf}
use Rattle.kernel_runner.proofs.Growing.{same_more}
use Rattle.kernel_loader.proofs.Unlisted.{taken_back, shows_unlisted}
use Rattle.kernel_loader.proofs.loader.load.Goals as goal

pub returns-in-Ok-clause-accepts : goal.returns-in-Ok-clause-accepts
returns-in-Ok-clause-accepts g c = λ shown is sound. c.in-Ok.ensures.accepts shown is sound c.args.text.now c.in_ok-cell.ensures.tree

pub returns-in-Ok-clause-ready : goal.returns-in-Ok-clause-ready
returns-in-Ok-clause-ready g c =
    subst (λ (t : world.Cell). IsReady c.list_and_keep.new.runner.entries
    (names_in (declare t.declarations (shown_store c.args.runner.now.counted.store))) c.list_and_keep.new.runner.procedures c.in-Ok.program)
    (sym c.in-Ok.ensures.same) c.in-Ok.ensures.ready

pub returns-in-Ok-clause-named : goal.returns-in-Ok-clause-named
returns-in-Ok-clause-named g c =
    subst (λ (t : world.Cell). AreListed c.list_and_keep.new.runner.entries t.procedures) (sym c.in-Ok.ensures.same) c.in-Ok.ensures.named

pub returns-in-Ok-clause-only : goal.returns-in-Ok-clause-only
returns-in-Ok-clause-only g c =
    subst (λ (t : world.Cell). AddNamesOf c.args.runner.now.entries c.list_and_keep.new.runner.entries t.procedures) (sym c.in-Ok.ensures.same)
    c.list_and_keep.ensures.only

pub returns-in-Ok-clause-last : goal.returns-in-Ok-clause-last
returns-in-Ok-clause-last g c = c.in-Ok.ensures.last ∙ ap (λ (t : world.Cell). c.in-Ok.program.first + length t.procedures) (sym c.in-Ok.ensures.same)

pub returns-in-Ok-clause-few : goal.returns-in-Ok-clause-few
returns-in-Ok-clause-few g c = λ shown is sound. c.list_and_keep.ensures.few shown is sound c.args.text.now c.in_ok-cell.ensures.tree

pub returns-in-Err-clause-refuses : goal.returns-in-Err-clause-refuses
returns-in-Err-clause-refuses g c = λ shown is sound. c.in-Err.ensures.refuses shown is sound c.args.text.now c.in_ok-cell.ensures.tree

pub returns-in-Err-clause-few : goal.returns-in-Err-clause-few
returns-in-Err-clause-few g c = λ shown is sound. c.list_and_keep.ensures.few shown is sound c.args.text.now c.in_ok-cell.ensures.tree

pub returns-in-Err-clause-no_names : goal.returns-in-Err-clause-no_names
returns-in-Err-clause-no_names g c =
    c.truncate.ensures.names
    ∙ taken_back c.args.runner.now.entries c.list_and_keep.new.runner.entries c.len-first_name.result c.len-first_name.ensures c.list_and_keep.ensures.entries

pub returns-in-Err-clause-entries : goal.returns-in-Err-clause-entries
returns-in-Err-clause-entries g c =
    same_more c.args.runner.now.entries c.truncate.new.self
    (c.truncate.ensures.names
    ∙ taken_back c.args.runner.now.entries c.list_and_keep.new.runner.entries c.len-first_name.result c.len-first_name.ensures c.list_and_keep.ensures.entries)

pub returns-in-Err-clause-shown : goal.returns-in-Err-clause-shown
returns-in-Err-clause-shown g c = λ shown sound h.
    let now = c.list_and_keep.ensures.shown shown sound h in (
      shows_unlisted c.args.runner.now c.list_and_keep.new.runner c.truncate.new.self shown c.list_and_keep.ensures.entries
          (c.truncate.ensures.names
          ∙ taken_back c.args.runner.now.entries c.list_and_keep.new.runner.entries c.len-first_name.result c.len-first_name.ensures
          c.list_and_keep.ensures.entries)
          sound h now.0,
      now.1,
    )

pub returns-in_err-cell-clause-refuses : goal.returns-in_err-cell-clause-refuses
returns-in_err-cell-clause-refuses g c =
    let told : OfEachShown c.args.runner.now (λ w. Refuses w c.args.text.now c.in_err-cell.field-0.0) =
    λ shown is sound. c.in_err-cell.ensures.refuses shown.world in
    search (rules, told)

pub returns-in_err-cell-clause-few : goal.returns-in_err-cell-clause-few
returns-in_err-cell-clause-few g c = λ shown is sound. ([], inl refl, λ n places more. places)
