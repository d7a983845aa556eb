use Rattle.std.proofs.Common.{length, ap, sym, subst, ◌∙◌}
use Rattle.std.proofs.lemmas.List.{length-map}
use Rattle.janus_syntax.specs.TextTokens.{views, token_view}
use Rattle.janus_syntax.specs.Forms.{Whole}
use Rattle.janus_syntax.specs.Grammar.{IsRefused}
use Rattle.janus_syntax.specs.Reading.{FailsAs, Within}
use Rattle.janus_syntax.specs.Lexical.{AreTokens}
use Rattle.janus_syntax.specs.Text.{Refuses}
use Rattle.janus_syntax.proofs.Theorems.{within, refuses, tree_of_tokens, only_exp}
use Rattle.janus_syntax.proofs.parser.parse_exp.Goals as goal

pub returns-in-Ok-clause-only : goal.returns-in-Ok-clause-only
returns-in-Ok-clause-only c tree q =
    let l = subst (λ ts. AreTokens c.args.text.now (views ts)) (sym c.deref.ensures.value) c.in_ok-tokens.ensures.read in
    c.in-Ok.ensures.only tree (tree_of_tokens Whole c.args.text.now (views c.deref.result.now) tree l q)

pub fault-requires : goal.fault-requires
fault-requires c =
    let same = c.deref.ensures.value ∙ sym c.deref-in-Err.ensures.value in
    subst (λ n. Within c.in-Err.problem n) (length-map c.deref.result.now token_view ∙ ap length same)
    (within Whole (views c.deref.result.now) c.in-Err.problem c.in-Err.ensures.read)

pub returns-clause-read : goal.returns-clause-read
returns-clause-read c =
    let l = subst (λ ts. AreTokens c.args.text.now (views ts)) (sym c.deref-in-Err.ensures.value) c.in_ok-tokens.ensures.read in
    let same = c.deref.ensures.value ∙ sym c.deref-in-Err.ensures.value in
    let f = subst (λ ts. FailsAs (IsRefused Whole (views ts)) c.in-Err.problem) same c.in-Err.ensures.read in
    subst (λ e. Refuses Whole c.args.text.now e) (sym c.fault.ensures) (refuses Whole c.args.text.now (views c.deref-in-Err.result.now) c.in-Err.problem l f)

pub returns-clause-only : goal.returns-clause-only
returns-clause-only c tree q =
    let l = subst (λ ts. AreTokens c.args.text.now (views ts)) (sym c.deref.ensures.value) c.in_ok-tokens.ensures.read in
    rw c.fault.ensures
    (only_exp tree _ _ c.in-Err.problem (c.in-Err.ensures.only tree (tree_of_tokens Whole c.args.text.now (views c.deref.result.now) tree l q)))
