use Rattle.std.proofs.Common.{arith, sym, ap, ◌∙◌, below_more}
use Rattle.std.proofs.lemmas.List.Sums.{prefix_len_is}
use Rattle.janus_syntax.specs.Lexical.{class_of}
use Rattle.janus_syntax.specs.Scan.{goes_on}
use Rattle.janus_syntax.proofs.lexer.run_len.Goals as goal

pub loop-n-preserved : goal.loop-n-preserved
loop-n-preserved c = record {
  in_range = omega arith;
  all = below_more _ _ c.loop-n.invariant.all (sym (ap (goes_on c.args.first) c.class_of.ensures) ∙ sym c.goes_on.ensures ∙ c.if-goes_on.true);
}

pub returns-else-goes_on : goal.returns-else-goes_on
returns-else-goes_on c =
    sym (prefix_len_is (λ o. goes_on c.args.first (class_of o)) c.args.octets.now c.loop-n.n 0 c.loop-n.invariant.in_range c.loop-n.invariant.all
    (λ h. sym (ap (goes_on c.args.first) c.class_of.ensures) ∙ sym c.goes_on.ensures ∙ c.if-goes_on.false))

pub returns-after-loop-n : goal.returns-after-loop-n
returns-after-loop-n c =
    sym (prefix_len_is (λ o. goes_on c.args.first (class_of o)) c.args.octets.now c.loop-n.n 0 c.loop-n.invariant.in_range c.loop-n.invariant.all
    (λ h. absurd (omega arith)))
