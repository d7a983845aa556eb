use Rattle.std.proofs.Common.{ap, ◌∙◌, append-nil, [], ◌∷◌}
use Rattle.kernel_audit.specs.declared.note.Note.TheVariants.{Shut}
use Rattle.kernel_audit.specs.Notes.{wished_in, has_shutdown, comms_in}
use Rattle.kernel_audit.proofs.Noted.{wished-append}
use Rattle.hall_state.proofs.Notes.{shut_after, comms_behind}
use Rattle.hall_state.proofs.history.note_shutdown.Goals as goal

pub returns-clause-noted : goal.returns-clause-noted
returns-clause-noted g c =
    ap wished_in c.extend.ensures ∙ wished-append c.args.notes.now (Shut ∷ []) ∙ append-nil (wished_in c.args.notes.now)

pub returns-clause-shut : goal.returns-clause-shut
returns-clause-shut g c = ap has_shutdown c.extend.ensures ∙ shut_after c.args.notes.now

pub returns-clause-comms : goal.returns-clause-comms
returns-clause-comms g c = ap comms_in c.extend.ensures ∙ comms_behind [] c.args.notes.now Shut
