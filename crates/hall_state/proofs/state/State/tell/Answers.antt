use Rattle.std.proofs.Common.{List, [], ◌∷◌, ◌++◌, ap, sym, ◌∙◌}
use Rattle.kernel_audit.specs.declared.note.Note.{Note}
use Rattle.kernel_audit.specs.declared.note.Note.TheVariants.{Told}
use Rattle.kernel_audit.specs.Passes.{PassOf, next_act}
use Rattle.kernel_audit.proofs.Fronts.{seen_on, seen_acted}
use Rattle.hall_state.proofs.state.State.tell.Goals as goal

-- it is noted behind what was seen before it
pub returns-clause-noted : goal.returns-clause-noted
returns-clause-noted g c = record {
  before = c.see.new.pass.notes;
  onward = c.see.ensures.seen.noted;
  noted = c.see-2.ensures.notes ∙ c.note_end-done.ensures.noted
      ∙ ap (λ (l : List Note). l ++ Told c.args.done ∷ []) (c.see.ensures.same_notes ∙ sym c.see.ensures.notes);
}

pub returns-clause-seen : goal.returns-clause-seen
returns-clause-seen g c =
    seen_on c.args.pass.now c.see.new.pass c.see-2.new.pass c.see.ensures.seen
    (seen_acted c.see.new.pass c.act.new.self c.see-2.new.pass c.act.ensures c.see-2.ensures.seen)

pub returns-clause-acts : goal.returns-clause-acts
returns-clause-acts g c = c.see-2.ensures.acts ∙ ap (λ (p : PassOf). p.acts) c.act.ensures ∙ ap next_act c.see.ensures.acts
