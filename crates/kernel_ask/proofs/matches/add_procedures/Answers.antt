use Rattle.std.proofs.Common.{ℕ, [], ◌∷◌, ◌++◌, List, take, map, sym, ap, ◌∙◌, add-one, string_bytes}
use Rattle.kernel_text.specs.Defined.{in_a_row}
use Rattle.kernel_ask.specs.Added.{with_match, with_matches}
use Rattle.kernel_text.specs.Procedures.{procedure_names}
use Rattle.kernel_ask.proofs.Added.{with_matches_more}
use Rattle.kernel_ask.proofs.Rows.{names_more}
use Rattle.kernel_ask.proofs.matches.add_procedures.Goals as goal

pub loop-i-preserved : goal.loop-i-preserved
loop-i-preserved c =
    let prefix = c.args.prefix.now in
    let first = map string_bytes c.args.names.now.keys in
    let all = c.args.procedures.now in
    let i = c.loop-i.i in
    let b = c.index-procedures-i.result in
    let before = procedure_names (in_a_row (take i all)) in
    c.in_ok-add_match.ensures
    ∙ ap (λ ks. with_match prefix ks c.as_str.result.now) c.loop-i.invariant
    ∙ sym (with_matches_more prefix first before c.as_str.result.now)
    ∙ ap (λ (n : List ℕ). with_matches prefix first (before ++ n ∷ [])) c.as_str.ensures.value
    ∙ ap (with_matches prefix first) (sym (names_more all i b c.loop-i-test.true (sym c.index-procedures-i.is)))
    ∙ ap (λ (n : ℕ). with_matches prefix first (procedure_names (in_a_row (take n all)))) (sym (add-one i))
