use Rattle.janus_syntax.specs.Tree.{procedure_view}
use Rattle.janus_syntax.specs.View.{plain_procedure}
use Rattle.janus_code.specs.Slotted.{all_slots}
use Rattle.janus_code.proofs.Slotting.{are_all}
use Rattle.kernel_loader.proofs.Kept.{name_of_flat, named_among, body_of_flat}
use Rattle.kernel_loader.proofs.keeping.body_of.Goals as goal

pub returns-clause-name : goal.returns-clause-name
returns-clause-name g c =
    let p = plain_procedure (procedure_view c.args.procedure.now) in
    let flat = c.in-Ok.flat.procedure in
    let numbered = c.in-Ok.ensures.wide all_slots c.slots_law.ensures in
    let is = c.in-Ok.ensures.procedure all_slots are_all numbered in
    name_of_flat c.args.entries.now p flat is numbered c.in_ok-body.body c.in_ok-body.ensures.name

pub returns-clause-is : goal.returns-clause-is
returns-clause-is g c =
    let p = plain_procedure (procedure_view c.args.procedure.now) in
    let flat = c.in-Ok.flat.procedure in
    let numbered = c.in-Ok.ensures.wide all_slots c.slots_law.ensures in
    let is = c.in-Ok.ensures.procedure all_slots are_all numbered in
    let made = c.in_ok-body.ensures in
    body_of_flat c.args.entries.now p flat is numbered c.in_ok-body.body made.name made.parameters made.few made.kinds made.body

pub returns-clause-few : goal.returns-clause-few
returns-clause-few g c =
    let p = plain_procedure (procedure_view c.args.procedure.now) in
    let flat = c.in-Ok.flat.procedure in
    let body = c.in_ok-body.body in
    let numbered = c.in-Ok.ensures.wide all_slots c.slots_law.ensures in
    let is = c.in-Ok.ensures.procedure all_slots are_all numbered in
    named_among c.args.entries.now p body.name (name_of_flat c.args.entries.now p flat is numbered body c.in_ok-body.ensures.name)
