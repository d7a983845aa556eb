use Rattle.std.proofs.Common.{ap, ◌∙◌, refl, append-nil, [], ◌∷◌}
use Rattle.kernel_audit.specs.declared.note.Note.TheVariants.{Told}
use Rattle.kernel_audit.specs.Notes.{wished_in, has_shutdown, comms_in}
use Rattle.kernel_audit.proofs.Noted.{wished-append}
use Rattle.hall_state.proofs.Notes.{shut_as_before, comms_behind}
use Rattle.hall_state.proofs.history.note_told.Goals as goal

pub returns-clause-wishes : goal.returns-clause-wishes
returns-clause-wishes g c =
    ap wished_in c.extend.ensures ∙ wished-append c.args.notes.now (Told c.args.done ∷ []) ∙ append-nil (wished_in c.args.notes.now)

pub returns-clause-shut : goal.returns-clause-shut
returns-clause-shut g c = ap has_shutdown c.extend.ensures ∙ shut_as_before c.args.notes.now (Told c.args.done) refl

pub returns-clause-comms : goal.returns-clause-comms
returns-clause-comms g c = ap comms_in c.extend.ensures ∙ comms_behind [] c.args.notes.now (Told c.args.done)
