use Rattle.std.proofs.Common.{List, [], ◌∷◌, ◌++◌, ap, sym, subst, ◌∙◌}
use Rattle.kernel_audit.specs.LegalMinutes.{IsLegalMachine}
use Rattle.kernel_audit.specs.Course.{HasCome}
use Rattle.kernel_audit.specs.declared.note.Note.{Note}
use Rattle.kernel_audit.specs.declared.note.Note.TheVariants.{Asked}
use Rattle.kernel_audit.proofs.Fronts.{seen_on}
use Rattle.hall_state.proofs.state.State.take_question.Goals as goal

-- the question is noted behind what was seen before it
pub returns-clause-noted : goal.returns-clause-noted
returns-clause-noted g c = record {
  before = c.see.new.pass.notes;
  onward = c.see.ensures.seen.noted;
  noted = c.see-2.ensures.notes ∙ c.note_asked.ensures.noted
      ∙ ap (λ (l : List Note). l ++ Asked ∷ []) (c.see.ensures.same_notes ∙ sym c.see.ensures.notes);
}

-- it stands where the notes have led it, and the question was the last
pub returns-clause-kernel_seen : goal.returns-clause-kernel_seen
returns-clause-kernel_seen g c =
    let s = c.see-2 in
    record {
      legal = subst (λ k. IsLegalMachine k.machine) (sym s.ensures.kernel) s.ensures.legal;
      minutes = ap (λ k. k.machine.minutes) s.ensures.kernel ∙ sym s.ensures.front;
      came = subst (λ (l : List Note). ∥ HasCome l s.new.self.kernel.machine ∥₁) (s.ensures.same_notes ∙ sym s.ensures.notes) s.new.self.course;
    }

pub returns-clause-seen : goal.returns-clause-seen
returns-clause-seen g c = seen_on c.args.pass.now c.see.new.pass c.see-2.new.pass c.see.ensures.seen c.see-2.ensures.seen
