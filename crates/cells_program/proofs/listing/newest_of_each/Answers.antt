use Rattle.std.proofs.Common.{◌≡◌, [], ◌∷◌, ◌++◌, ◌+◌, List, take, map, sym, ap, ◌∙◌, String, Vec, string_bytes}
use Rattle.std.specs.Borrow.{Bor}
use Rattle.janus_syntax.specs.declared.tree.Procedure.{Procedure}
use Rattle.std.specs.declared.alloc.Global.{Global}
use Rattle.std.proofs.lemmas.List.{map_more}
use Rattle.janus_meaning.specs.Fault.{Res}
use Rattle.janus_meaning.specs.Syntax.{Name, Proc}
use Rattle.janus_meaning.specs.Store.{find}
use Rattle.kernel_core.specs.Defined.{in_a_row}
use Rattle.cells_program.specs.ByName.{found, onto_found}
use Rattle.cells_program.proofs.ByName.{found_more, found_nothing, row_more}
use Rattle.kernel_text.proofs.Newest.{plain}
use Rattle.cells_program.proofs.listing.newest_of_each.Goals.{in-Some+in_ok-push, in_default}
use Rattle.cells_program.proofs.listing.newest_of_each.Goals as goal

pub loop-name-preserved : goal.loop-name-preserved
loop-name-preserved c =
    let all = in_a_row c.args.procedures.now in
    let names = c.args.names.now in
    let i = c.loop-name.name-index in
    let name = c.name-item.result in
    let xs = map string_bytes (take i names) in
    let same : find (string_bytes name) all ≡ find c.as_str.result.now all = ap (λ (n : Name). find n all) (sym c.as_str.ensures.value) in
    let onward : found all xs ++ onto_found (find (string_bytes name) all) [] ≡ found all (map string_bytes (take (i + 1) names)) =
    sym (found_more all xs (string_bytes name)) ∙ ap (λ (n : String Global). found all (xs ++ string_bytes n ∷ [])) c.name-item.is
    ∙ ap (found all) (sym (map_more string_bytes names i name c.loop-name-test.true)) in
    elim c.match-newest_of.branch [
      | in-Some+in_ok-push w ↦
          ap (λ (v : Vec (Bor Procedure) Global). in_a_row v.items) w.all-is ∙ ap in_a_row w.in_ok-push.ensures.items
          ∙ row_more c.loop-name.all.items w.in-Some.procedure
          ∙ ap (λ (ps : List Proc). ps ++ plain w.in-Some.procedure ∷ []) c.loop-name.invariant
          ∙ ap (λ (r : Res Proc). found all xs ++ onto_found r []) (sym (same ∙ w.in-Some.ensures))
          ∙ onward
      | in_default w ↦
          ap (λ (v : Vec (Bor Procedure) Global). in_a_row v.items) w.all-is ∙ c.loop-name.invariant ∙ sym (found_nothing (found all xs))
          ∙ ap (λ (r : Res Proc). found all xs ++ onto_found r []) (sym (same ∙ w.in_default.ensures)) ∙ onward
    ]
