use Rattle.std.proofs.Common.{◌∙◌, arith}
use Rattle.janus_meaning.specs.Syntax.{names_of}
use Rattle.janus_syntax.specs.View.{exp_of as plain}
use Rattle.janus_check.specs.Sight.{in_sight}
use Rattle.janus_check.proofs.Stores.{length_names}
use Rattle.janus_code.specs.Slotted.{all_slots}
use Rattle.janus_code.proofs.Flattened.{if_ok}
use Rattle.janus_code.proofs.Seeing.{exp_seen}
use Rattle.janus_code.proofs.Slotting.{all_long, are_all, exp_more, same_exp, both_ok}
use Rattle.janus_code.proofs.expression.flat_exp.Goals as goal

pub slotted_exp-requires-clause-seen : goal.slotted_exp-requires-clause-seen
slotted_exp-requires-clause-seen g c = exp_seen (in_sight c.args.sight.now) (plain c.args.exp.now) c.requires

pub returns-in-Some-clause-tree : goal.returns-in-Some-clause-tree
returns-in-Some-clause-tree g c =
    let g = in_sight c.args.sight.now in
    if_ok c.slotted_exp.result (λ flat h xs s n.
    same_exp xs all_slots flat s are_all n
    (exp_more (names_of g) all_slots flat (omega (arith, length_names g, c.in-Some.ensures.count, c.in-Some.ensures.small, all_long)) h.1) ∙ h.0)
    (both_ok _ _ c.slotted_exp.result c.slotted_exp.ensures.tree c.slotted_exp.ensures.numbered)

pub returns-in-Some-clause-wide : goal.returns-in-Some-clause-wide
returns-in-Some-clause-wide g c =
    let g = in_sight c.args.sight.now in
    if_ok c.slotted_exp.result (λ flat h xs le. exp_more (names_of g) xs flat (omega (arith, length_names g, le)) h) c.slotted_exp.ensures.numbered
