use Rattle.std.proofs.Common.{ap, ◌∙◌}
use Rattle.std.proofs.lemmas.Result.{err_from_is_err_and}
use Rattle.janus_syntax.specs.TextTokens.{views}
use Rattle.janus_syntax.specs.Tree.{cell_of, declarations_view, block_view, procedures_view}
use Rattle.janus_syntax.specs.Table.{is_bare}
use Rattle.janus_syntax.proofs.Steps.{passes_on}
use Rattle.janus_syntax.proofs.Declared.{cell_stops_declarations, cell_stops_statements}
use Rattle.janus_syntax.proofs.cell.first_parts.Goals as goal

pub returns-in_err-declarations : goal.returns-in_err-declarations
returns-in_err-declarations c =
    let p = err_from_is_err_and c.from_residual.result c.from_residual.ensures.1 in
    rw (p.1, p.2)
    (passes_on _ _ c.in_err-declarations.field-0.0 c.in_err-declarations.ensures (λ out f. cell_stops_declarations (views c.args.tokens.now) out f))

pub returns-in_err-statements : goal.returns-in_err-statements
returns-in_err-statements c =
    let p = err_from_is_err_and c.from_residual-in_err-statements.result c.from_residual-in_err-statements.ensures.1 in
    rw (p.1, p.2) (passes_on _ _ c.in_err-statements.field-0.0 c.in_err-statements.ensures (λ out f. cell_stops_statements out c.in_ok-declarations.ensures f))

pub returns : goal.returns
returns c =
    let ds = declarations_view c.in_ok-declarations.declarations.items in
    let b = block_view c.in_ok-statements.statements.items in
    record {
      listed = ds;
      block = b;
      between = views c.in_ok-declarations.rest.now;
      declarations = c.in_ok-declarations.ensures;
      statements = c.in_ok-statements.ensures;
      cell = ap (λ ps. cell_of ds b (procedures_view ps)) c.new.ensures.items;
      bare = c.is_bare-main.ensures ∙ ap (λ x. is_bare (declarations_view x) (block_view c.deref-2.result.now)) c.deref.ensures.value
          ∙ ap (λ x. is_bare ds (block_view x)) c.deref-2.ensures.value;
    }
