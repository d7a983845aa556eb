use Rattle.std.proofs.Common.{◌≡◌, ◌∙◌, ℕ, List, [], ◌∷◌, ◌++◌, Bool, Result, sym, ap, subst}
use mathlib.Core.List.{IsPrefix}
use Rattle.kernel_audit.specs.Notes.{comms_in, IsNotedChange}
use Rattle.kernel_audit.specs.CommChanges.{IsChange}
use Rattle.kernel_audit.specs.comm_change.CommChange.{CommChange}
use Rattle.kernel_audit.specs.answer.HallFault.{HallFault}
use Rattle.kernel_audit.specs.declared.note.Note.{Note}
use Rattle.kernel_audit.specs.declared.note.Note.TheVariants.{Changed}
use Rattle.kernel_audit.specs.Passes.{PassOf, next_act}
use Rattle.kernel_audit.proofs.Fronts.{seen_on, seen_acted}
use Rattle.hall_state.proofs.state.State.comm.Goals as goal

-- the change is noted behind what was seen before it
noted : (old before under new : List Note) (comms ids : List (List ℕ)) (change : CommChange) (told : Result Bool HallFault) → IsPrefix old before
    → comms_in under ≡ ids → IsChange ids change told comms → before ≡ under → new ≡ under ++ Changed comms ∷ [] → IsNotedChange old change told new
noted old before under new comms ids change told onward is changed same written = record {
  before = before;
  onward = onward;
  comms = comms;
  noted = written ∙ ap (λ (l : List Note). l ++ Changed comms ∷ []) (sym same);
  changed = subst (λ (c : List (List ℕ)). IsChange c change told comms) (sym is ∙ ap comms_in (sym same)) changed;
}

pub returns-clause-change : goal.returns-clause-change
returns-clause-change g c =
    noted c.args.pass.now.notes c.see.new.pass.notes c.see.new.self.notes c.see-2.new.pass.notes c.change-told.new.self.comms
    c.see.new.self.comms c.args.change c.change-told.result c.see.ensures.seen.noted c.change-told.ensures.before c.change-told.ensures.change
    (c.see.ensures.notes ∙ sym c.see.ensures.same_notes)
    (c.see-2.ensures.notes ∙ c.change-told.ensures.noted)

pub returns-clause-seen : goal.returns-clause-seen
returns-clause-seen g c =
    seen_on c.args.pass.now c.see.new.pass c.see-2.new.pass c.see.ensures.seen
    (seen_acted c.see.new.pass c.act.new.self c.see-2.new.pass c.act.ensures c.see-2.ensures.seen)

pub returns-clause-acts : goal.returns-clause-acts
returns-clause-acts g c = c.see-2.ensures.acts ∙ ap (λ (p : PassOf). p.acts) c.act.ensures ∙ ap next_act c.see.ensures.acts
