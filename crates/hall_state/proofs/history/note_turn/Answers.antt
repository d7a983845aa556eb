use Rattle.std.proofs.Common.{ap, ◌∙◌, append-nil, List, [], ◌∷◌, ◌++◌}
use Rattle.kernel_audit.specs.Wishes.{WishOf}
use Rattle.kernel_audit.specs.Notes.{wished_in, has_shutdown, comms_in}
use Rattle.kernel_audit.proofs.Noted.{wished-append}
use Rattle.hall_state.proofs.Notes.{shut_as_before, comms_behind, turn_wishes, turn_shuts_nothing, turn_comms}
use Rattle.hall_state.proofs.history.note_turn.Goals as goal

pub returns-clause-wishes : goal.returns-clause-wishes
returns-clause-wishes g c =
    let old = c.args.notes.now in
    ap wished_in c.extend.ensures ∙ wished-append old (c.args.turn ∷ [])
    ∙ ap (λ (l : List (List WishOf)). wished_in old ++ l) (turn_wishes c.args.turn c.requires) ∙ append-nil (wished_in old)

pub returns-clause-shut : goal.returns-clause-shut
returns-clause-shut g c =
    ap has_shutdown c.extend.ensures ∙ shut_as_before c.args.notes.now c.args.turn (turn_shuts_nothing c.args.turn c.requires)

pub returns-clause-comms : goal.returns-clause-comms
returns-clause-comms g c =
    let old = c.args.notes.now in
    ap comms_in c.extend.ensures ∙ comms_behind [] old c.args.turn ∙ turn_comms (comms_in old) c.args.turn c.requires
