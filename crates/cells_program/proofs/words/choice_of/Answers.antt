use Rattle.std.proofs.Common.{◌≡◌, ◌∙◌, Bor, List, ℕ, ap, map, subst}
use Rattle.cells_program.specs.CommandLine.{Runs, plain_words as plain_words_of}
use Rattle.cells_program.proofs.Explaining.{asks_by_text}
use Rattle.cells_program.proofs.words.choice_of.Goals as goal

pub returns-clause-ok : goal.returns-clause-ok
returns-clause-ok g c =
    let plain : map (λ (it : Bor (List ℕ)). it.now) c.as_slice.result.now ≡ plain_words_of (map g.S.AsStr.text c.args.words.now) =
    ap (map (λ (it : Bor (List ℕ)). it.now)) c.as_slice.ensures.value ∙ c.in_ok-plain.ensures in (
      subst (λ words. Runs words c.in_ok-steps.steps) plain c.in_ok-steps.ensures.ok,
      c.asks_to_explain.ensures ∙ asks_by_text g.S.AsStr.text c.args.words.now,
    )
