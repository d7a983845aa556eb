use Rattle.std.proofs.Common.{◌≡◌, ◌≤◌, map, length, ap, ◌∙◌, sym, subst, arith}
use Rattle.janus_meaning.specs.Syntax.{names_of}
use Rattle.janus_meaning.specs.Shape.{Shape}
use Rattle.janus_meaning.specs.Formed.{IsProc}
use Rattle.janus_check.specs.Slots.{stacked, block_in}
use Rattle.janus_syntax.specs.Tree.{parameters_view, procedure_view}
use Rattle.janus_syntax.specs.View.{plain_parameter, plain_procedure, plain_cell, block_of}
use Rattle.janus_check.specs.Check.{body_sight}
use Rattle.janus_check.specs.Checked.{cell_in, heads_called}
use Rattle.janus_check.specs.Sight.{in_sight}
use Rattle.janus_check.proofs.ParameterLemmas.{all_in_sight}
use Rattle.janus_check.proofs.SlotLemmas.{seen_long}
use Rattle.janus_code.specs.Seen.{SeesBlk}
use Rattle.janus_code.specs.Slotted.{all_slots, slots_from}
use Rattle.janus_code.specs.Width.{width_of}
use Rattle.janus_code.proofs.Seeing.{block_seen, formed_one}
use Rattle.janus_code.proofs.Slotting.{all_long, are_all, slots_long, parameters_longer, same_symbol, same_params}
use Rattle.janus_code.proofs.procedure.flatten_procedure.Goals as goal

pub entry-name-requires : goal.entry-name-requires
entry-name-requires g c =
    let checked = c.args.checked.now in
    let formed : IsProc (heads_called checked) (plain_procedure (procedure_view c.args.procedure.now)) =
    formed_one (heads_called checked) (plain_cell (cell_in checked)).procedures _ c.formed_law.ensures.procedures c.requires.defined in
    c.requires.entries _ _ formed.head

pub flat_code-requires : goal.flat_code-requires
flat_code-requires g c =
    let checked = c.args.checked.now in
    let formed : IsProc (heads_called checked) (plain_procedure (procedure_view c.args.procedure.now)) =
    formed_one (heads_called checked) (plain_cell (cell_in checked)).procedures _ c.formed_law.ensures.procedures c.requires.defined in
    let p = c.args.procedure.now in
    let es = c.args.entries.now in
    let params : Shape = map plain_parameter (parameters_view p.parameters.items) in
    let sight : in_sight c.body-inside.result ≡ params = c.body-inside.ensures.names ∙ ap (λ ps. body_sight (parameters_view ps)) c.deref-2.ensures.value
    ∙ all_in_sight (parameters_view p.parameters.items) formed.few in
    subst (λ (g : Shape). SeesBlk es g (block_of c.deref-3.result.now)) (sym sight)
    (subst (λ ss. SeesBlk es params (block_of ss)) (sym c.deref-3.ensures.value)
    (block_seen (heads_called checked) es params (block_of p.body.items) c.requires.entries formed.body))

pub returns-clause-procedure : goal.returns-clause-procedure
returns-clause-procedure g c =
    let checked = c.args.checked.now in
    let formed : IsProc (heads_called checked) (plain_procedure (procedure_view c.args.procedure.now)) =
    formed_one (heads_called checked) (plain_cell (cell_in checked)).procedures _ c.formed_law.ensures.procedures c.requires.defined in
    let p = c.args.procedure.now in
    let es = c.args.entries.now in
    let params : Shape = map plain_parameter (parameters_view p.parameters.items) in
    let sight : in_sight c.body-inside.result ≡ params = c.body-inside.ensures.names ∙ ap (λ ps. body_sight (parameters_view ps)) c.deref-2.ensures.value
    ∙ all_in_sight (parameters_view p.parameters.items) formed.few in
    let n = length c.deref.result.now in
    let same : n ≡ length params = ap length c.deref.ensures.value ∙ sym (seen_long p.parameters.items) in
    let few : length (slots_from 0 n) ≤ length all_slots = omega (arith, slots_long 0 n, all_long, same, formed.few) in
    let flat = c.in_ok-parameters.parameters.items in
    λ xs s h i. record {
      name = (same_symbol xs c.entry-name.result s h.name c.entry-name.ensures.small ∙ c.entry-name.ensures.name) i;
      params = (same_params xs all_slots flat s are_all h.parameters (parameters_longer (slots_from 0 n) all_slots flat few c.in_ok-parameters.ensures.numbered)
          ∙ c.in_ok-parameters.ensures.parameters ∙ ap (λ ps. stacked (map plain_parameter (parameters_view ps))) c.deref.ensures.value) i;
      body = (c.in_ok-body.ensures.block xs s h.body ∙ ap (λ (g : Shape). block_in es (names_of g) (block_of c.deref-3.result.now)) sight
          ∙ ap (λ ss. block_in es (names_of params) (block_of ss)) c.deref-3.ensures.value) i;
    }

pub returns-clause-wide : goal.returns-clause-wide
returns-clause-wide g c =
    let checked = c.args.checked.now in
    let formed : IsProc (heads_called checked) (plain_procedure (procedure_view c.args.procedure.now)) =
    formed_one (heads_called checked) (plain_cell (cell_in checked)).procedures _ c.formed_law.ensures.procedures c.requires.defined in
    let p = c.args.procedure.now in
    let params : Shape = map plain_parameter (parameters_view p.parameters.items) in
    let sight : in_sight c.body-inside.result ≡ params = c.body-inside.ensures.names ∙ ap (λ ps. body_sight (parameters_view ps)) c.deref-2.ensures.value
    ∙ all_in_sight (parameters_view p.parameters.items) formed.few in
    let n = length c.deref.result.now in
    let same : n ≡ length params = ap length c.deref.ensures.value ∙ sym (seen_long p.parameters.items) in
    let many = ap (λ (g : Shape). length g) sight in
    λ xs w. record {
      name = omega (arith, c.entry-name.ensures.numbered, c.in_ok-body.ensures.width, w);
      parameters =
          parameters_longer (slots_from 0 n) xs c.in_ok-parameters.parameters.items
          (omega (arith, slots_long 0 n, same, many, c.in_ok-body.ensures.width, w)) c.in_ok-parameters.ensures.numbered;
      body = c.in_ok-body.ensures.wide xs w;
    }

pub returns-clause-width : goal.returns-clause-width
returns-clause-width g c =
    let checked = c.args.checked.now in
    let formed : IsProc (heads_called checked) (plain_procedure (procedure_view c.args.procedure.now)) =
    formed_one (heads_called checked) (plain_cell (cell_in checked)).procedures _ c.formed_law.ensures.procedures c.requires.defined in
    let p = c.args.procedure.now in
    let params : Shape = map plain_parameter (parameters_view p.parameters.items) in
    let sight : in_sight c.body-inside.result ≡ params = c.body-inside.ensures.names ∙ ap (λ ps. body_sight (parameters_view ps)) c.deref-2.ensures.value
    ∙ all_in_sight (parameters_view p.parameters.items) formed.few in
    c.in_ok-body.ensures.width ∙ ap (λ (g : Shape). width_of c.args.entries.now (length g) (block_of c.deref-3.result.now)) sight
    ∙ ap (λ ss. width_of c.args.entries.now (length params) (block_of ss)) c.deref-3.ensures.value
