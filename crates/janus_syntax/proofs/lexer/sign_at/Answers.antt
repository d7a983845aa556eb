use Rattle.std.proofs.Common.{sym, ◌∙◌}
use Rattle.janus_syntax.proofs.Signs.{swap_seen, pair_is_longest, single_is_longest}
use Rattle.janus_syntax.proofs.lexer.sign_at.Goals as goal

pub returns-in-Some : goal.returns-in-Some
returns-in-Some c =
    let a = c.octet_at-first.ensures in
    let b = c.octet_at-second.ensures in
    pair_is_longest c.args.octets.now c.in-Some.sign (swap_seen c.args.octets.now _ _ _ _ a b c.octet_at.ensures (sym c.is_swap.ensures ∙ c.if-is_swap.false))
    (rw (sym a, sym b) c.in-Some.ensures.text)

pub returns-in-None : goal.returns-in-None
returns-in-None c =
    let a = c.octet_at-first.ensures in
    let b = c.octet_at-second.ensures in
    single_is_longest c.args.octets.now c.single_of.result
    (swap_seen c.args.octets.now _ _ _ _ a b c.octet_at.ensures (sym c.is_swap.ensures ∙ c.if-is_swap.false))
    (rw (sym a, sym b) (sym c.pair_of.ensures.table ∙ c.in-None.is)) (rw (sym a) c.single_of.ensures.table) (rw (sym a) c.single_of.ensures.text)
