use Rattle.std.proofs.Common.{ℕ, [], List, take, map, sym, ap, ◌∙◌, add-one, string_bytes}
use Rattle.janus_meaning.specs.Syntax.{Name}
use Rattle.kernel_core.specs.Defined.{in_a_row}
use Rattle.kernel_text.specs.NameSets.{with_name}
use Rattle.cells_program.specs.ByName.{with_names}
use Rattle.kernel_text.specs.Procedures.{procedure_names}
use Rattle.kernel_text.proofs.NameSets.{names_inserted}
use Rattle.cells_program.proofs.ByName.{names_more, with_names_more}
use Rattle.cells_program.proofs.listing.names_of.Goals as goal

pub loop-i-preserved : goal.loop-i-preserved
loop-i-preserved c =
    let all = c.args.procedures.now in
    let i = c.loop-i.i in
    let b = c.index-procedures-i.result in
    let before = procedure_names (in_a_row (take i all)) in
    ap (map string_bytes) c.in_ok-insert.ensures.keys
    ∙ names_inserted c.loop-i.names.keys c.in_ok-name.name
    ∙ ap (with_name (map string_bytes c.loop-i.names.keys)) (c.in_ok-name.ensures.ok ∙ c.as_str.ensures.value)
    ∙ ap (λ (ks : List Name). with_name ks (string_bytes b.now.name.text)) c.loop-i.invariant
    ∙ sym (with_names_more [] before (string_bytes b.now.name.text))
    ∙ ap (with_names []) (sym (names_more all i b c.loop-i-test.true (sym c.index-procedures-i.is)))
    ∙ ap (λ (n : ℕ). with_names [] (procedure_names (in_a_row (take n all)))) (sym (add-one i))
