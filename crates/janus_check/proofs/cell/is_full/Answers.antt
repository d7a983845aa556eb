use Rattle.std.proofs.Common.{◌+◌, length, ap, ◌∙◌, sym}
use Rattle.std.specs.Prelude.{nat_le}
use Rattle.janus_check.specs.Names.{shape_in}
use Rattle.janus_meaning.specs.Limit.{name_limit}
use Rattle.janus_check.proofs.ScopeLemmas.{length-over, length-shape}
use Rattle.janus_check.proofs.cell.is_full.Goals as goal

pub returns : goal.returns
returns g c =
    let table = g.T.SymbolTable.known in
    ap (λ n. nat_le name_limit (n + c.len-2.result)) (c.len.ensures.count ∙ sym (length-shape (table c.args.env.now).names))
    ∙ ap (λ n. nat_le name_limit (length (shape_in (table c.args.env.now).names) + n)) c.len-2.ensures.count
    ∙ ap (nat_le name_limit) (sym (length-over (shape_in (table c.args.env.now).names) c.args.own.now.names))
