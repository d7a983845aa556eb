use Rattle.std.proofs.Common.{sym}
use Rattle.std.proofs.lemmas.List.{length-map}
use Rattle.janus_syntax.specs.TextTokens.{views, token_view}
use Rattle.janus_syntax.proofs.Steps.{keyword_goes, keyword_fails}
use Rattle.janus_syntax.proofs.item.behind_keyword.Goals as goal

pub returns-in-Some : goal.returns-in-Some
returns-in-Some c = keyword_goes c.args.keyword (views c.args.tokens.now) (views c.in-Some.rest.now) c.in-Some.ensures.found

pub returns-in-None : goal.returns-in-None
returns-in-None c = keyword_fails c.args.keyword (views c.args.tokens.now) _ (sym (length-map c.args.tokens.now token_view)) c.in-None.ensures.none
