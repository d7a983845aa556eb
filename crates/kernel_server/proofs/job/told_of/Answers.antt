use Rattle.std.proofs.Common.{refl, option_map, string_bytes}
use Rattle.kernel_server.proofs.Making.{shown_of_job}
use Rattle.kernel_server.proofs.job.told_of.Goals as goal

pub returns-clause-told : goal.returns-clause-told
returns-clause-told g c = λ job made.
    let shown = option_map string_bytes c.shown_after-shown.result in
    record {
      count = c.counter.ensures;
      node = c.position.ensures;
      shown =
          shown_of_job c.shown_is_of_text_law.ensures job c.args.outcome c.args.kernel.now.machine.state.past shown made c.shown_after-shown.ensures;
      values = (c.args.wishes.items, refl, c.values_after-values.ensures);
    }
