use Rattle.std.proofs.Common.{subst, ap, ◌∙◌, refl}
use Rattle.janus_syntax.specs.Lexical.{A_keyword, A_name, A_number, A_sign, decimal}
use Rattle.janus_syntax.specs.Scan.{IsFrontText}
use Rattle.janus_syntax.proofs.lexer.token_kind.Goals as goal

pub returns-in-Some : goal.returns-in-Some
returns-in-Some c = (A_keyword c.in-Some.keyword, c.in-Some.ensures, refl)

pub returns-in-None : goal.returns-in-None
returns-in-None c =
    let is = subst (λ f. IsFrontText f c.args.text.now) c.in-Letters.is c.requires in
    (A_name c.args.text.now, (refl, is, c.in-None.ensures), refl)

pub returns-in-Some-number : goal.returns-in-Some-number
returns-in-Some-number c =
    let bytes = c.as_bytes.ensures.value in
    let is = subst (λ f. IsFrontText f c.args.text.now) c.in-Digits.is c.requires in
    (A_number c.in-Some-number.number, (c.in-Some-number.ensures.0 ∙ ap decimal bytes, is), (c.in-Some-number.ensures.1, refl))

pub returns-in-Sign : goal.returns-in-Sign
returns-in-Sign c =
    let is = subst (λ f. IsFrontText f c.args.text.now) c.in-Sign.is c.requires in
    (A_sign c.in-Sign.sign, is, refl)
