use Rattle.std.proofs.Common.{sym, subst, ap, ◌∙◌, ◌∷◌, length, string_bytes}
use Rattle.std.specs.Str.{bytes_eq}
use Rattle.std.proofs.lemmas.List.{length-map}
use Rattle.janus_syntax.specs.declared.text_token.TextKind.TheVariants as kinds
use Rattle.janus_syntax.specs.Tree.{name_view}
use Rattle.janus_syntax.specs.Tokens.{Name}
use Rattle.janus_syntax.specs.TextTokens.{token_view, views}
use Rattle.janus_syntax.specs.Forms.{Same_name}
use Rattle.janus_syntax.specs.Grammar.{DelocalName}
use Rattle.janus_syntax.specs.Reading.{TokenFails}
use Rattle.janus_syntax.proofs.Steps.{first_token}
use Rattle.janus_syntax.proofs.Locals.{same_octets, name_goes, name_differs}
use Rattle.janus_syntax.proofs.item.same_name.Goals as goal

pub returns-in_ok-text-in-Name : goal.returns-in_ok-text-in-Name
returns-in_ok-text-in-Name c =
    let e = first_token c.args.tokens.now c.in-Some.rest.now c.in-Some.first.now (kinds.Name c.in-Name.text) c.in-Some.ensures.cases c.in-Name.is in
    rw (e, c.in_ok-text-in-Name.ensures.ok)
    (name_goes (string_bytes c.args.name.now.text) c.in-Name.text.now c.args.name.now.span c.in-Some.first.now.span (views c.in-Some.rest.now)
    (same_octets (string_bytes c.args.name.now.text) c.in-Name.text.now ∙ ap (λ x. bytes_eq x c.in-Name.text.now) (sym c.as_str.ensures.value)
    ∙ sym c.eq.ensures ∙ c.if-eq.true))

pub returns-else-eq : goal.returns-else-eq
returns-else-eq c =
    let e = first_token c.args.tokens.now c.in-Some.rest.now c.in-Some.first.now (kinds.Name c.in-Name.text) c.in-Some.ensures.cases c.in-Name.is in
    let differs = same_octets (string_bytes c.args.name.now.text) c.in-Name.text.now ∙ ap (λ x. bytes_eq x c.in-Name.text.now) (sym c.as_str.ensures.value)
    ∙ sym c.eq.ensures ∙ c.if-eq.false in
    rw e (subst (λ n. TokenFails (Same_name (name_view c.args.name.now)) (Name c.in-Name.text.now c.in-Some.first.now.span ∷ views c.in-Some.rest.now)
    (DelocalName n)) (sym (ap length e) ∙ length-map c.args.tokens.now token_view)
    (name_differs (string_bytes c.args.name.now.text) c.in-Name.text.now c.args.name.now.span c.in-Some.first.now.span (views c.in-Some.rest.now) differs))
