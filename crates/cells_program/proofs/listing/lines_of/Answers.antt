use Rattle.std.proofs.Common.{◌≡◌, ℕ, List, [], ◌∷◌, ◌++◌, sym, ap, ◌∙◌, arith, append_assoc, string_bytes}
use Rattle.kernel_text.specs.ProcedureTexts.{procedure_text}
use Rattle.kernel_text.proofs.Newest.{plain}
use Rattle.cells_program.specs.Lines.{ended_line}
use Rattle.cells_program.proofs.ListedLemmas.{listed_next}
use Rattle.cells_program.proofs.listing.lines_of.Goals as goal

pub loop-i-preserved : goal.loop-i-preserved
loop-i-preserved c =
    let b = c.index-procedures-i.result in
    let before = string_bytes c.loop-i.text in
    let told = procedure_text (plain b) in
    let line : c.as_str.result.now ≡ told = c.as_str.ensures.value ∙ c.in_ok-line.ensures in
    c.in_ok-push.ensures.bytes ∙ ap (λ (t : List ℕ). string_bytes c.push_str.new.self ++ t) (c.in_ok-push.ensures.ascii (omega arith))
    ∙ ap (λ (t : List ℕ). t ++ 10 ∷ []) (c.in_ok-push_str.ensures.bytes ∙ ap (λ (t : List ℕ). before ++ t) line)
    ∙ append_assoc before told (10 ∷ [])
    ∙ ap (λ (t : List ℕ). t ++ ended_line told) c.loop-i.invariant
    ∙ sym (listed_next c.args.procedures.now c.loop-i.i b c.loop-i-test.true (sym c.index-procedures-i.is))
