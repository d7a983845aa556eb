use Rattle.std.proofs.Common.{ap, ◌∙◌, refl, [], ◌∷◌}
use Rattle.kernel_audit.specs.declared.note.Note.TheVariants.{Posted}
use Rattle.kernel_audit.specs.Notes.{wished_in, has_shutdown, comms_in}
use Rattle.kernel_audit.proofs.Noted.{wished-append}
use Rattle.hall_state.proofs.Notes.{shut_as_before, comms_behind}
use Rattle.hall_state.proofs.history.note_wishes.Goals as goal

pub returns-clause-noted : goal.returns-clause-noted
returns-clause-noted g c = ap wished_in c.extend.ensures ∙ wished-append c.args.notes.now (Posted c.args.wishes ∷ [])

pub returns-clause-shut : goal.returns-clause-shut
returns-clause-shut g c = ap has_shutdown c.extend.ensures ∙ shut_as_before c.args.notes.now (Posted c.args.wishes) refl

pub returns-clause-comms : goal.returns-clause-comms
returns-clause-comms g c = ap comms_in c.extend.ensures ∙ comms_behind [] c.args.notes.now (Posted c.args.wishes)
