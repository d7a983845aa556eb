-- From places in a list of tokens to places in the text.
use Rattle.std.proofs.Common.{◌≡◌, ℕ, ◌<◌, List, length, map, get_or, drop, drop-cons, refl, ap, sym, ◌∙◌}
use Rattle.std.proofs.lemmas.List.{drop-map}
use Rattle.janus_syntax.specs.declared.token.Span.{Span}
use Rattle.janus_syntax.specs.declared.text_token.TextToken as code_token
use Rattle.janus_syntax.specs.declared.text_token.TextKind.{TextKind}
use Rattle.janus_syntax.specs.declared.text_token.TextKind.TheVariants as kinds
use Rattle.janus_syntax.specs.TextTokens.{token_of, token_view, views}
use Rattle.janus_syntax.specs.Text.{span_of, place_before}

span_of_kind : (k : TextKind) (at : Span) → span_of (token_of k at) ≡ at
span_of_kind (kinds.Name s) at = refl
span_of_kind (kinds.Number n) at = refl
span_of_kind (kinds.Sign s) at = refl
span_of_kind (kinds.Keyword w) at = refl

pub place_at : (tokens : List code_token.TextToken) (i end : ℕ) (t : code_token.TextToken) → i < length tokens → t ≡ get_or tokens i t →
    t.span ≡ place_before end (drop i (views tokens))
place_at tokens i end t h e =
    sym (span_of_kind t.kind t.span)
    ∙ ap (λ u. span_of (token_view u)) e
    ∙ sym (ap (λ us. place_before end (map token_view us)) (drop-cons tokens i t h))
    ∙ ap (place_before end) (sym (drop-map token_view i tokens))
