use Rattle.std.proofs.Common.{[], ◌∷◌, ◌++◌, take, map, sym, ap, ◌∙◌, string_bytes}
use Rattle.std.proofs.lemmas.List.{map_more}
use Rattle.janus_syntax.specs.Spelling.{keyword_text}
use Rattle.janus_syntax.specs.declared.token.Keyword.TheVariants as word
use Rattle.kernel_ask.specs.Added.{with_match, with_matches}
use Rattle.kernel_ask.proofs.Added.{with_matches_more}
use Rattle.kernel_ask.proofs.matches.add_keywords.Goals as goal

pub loop-keyword-preserved : goal.loop-keyword-preserved
loop-keyword-preserved c =
    let prefix = c.args.prefix.now in
    let first = map string_bytes c.args.names.now.keys in
    let keywords = c.args.keywords.now in
    let name = c.text.result.now in
    let i = c.loop-keyword.keyword-index in
    c.in_ok-add_match.ensures
    ∙ ap (λ ks. with_match prefix ks name) c.loop-keyword.invariant
    ∙ sym (with_matches_more prefix first (map keyword_text (take i keywords)) name)
    ∙ ap (λ n. with_matches prefix first (map keyword_text (take i keywords) ++ n ∷ [])) c.text.ensures
    ∙ ap (with_matches prefix first) (sym (map_more keyword_text keywords i word.Call c.loop-keyword-test.true))
