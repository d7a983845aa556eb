use Rattle.std.proofs.Common.{◌++◌, ◌∙◌, ap, subst, sym}
use Rattle.std.specs.Str.{IsUtf8}
use Rattle.kernel_text.specs.Lines.{outcome_line}
use Rattle.kernel_text.proofs.Utf8.{outcome_utf8}
use Rattle.kernel_text.proofs.lines.outcome_line.Goals as goal

pub as_text-requires : goal.as_text-requires
as_text-requires c =
    subst IsUtf8 (sym (c.in-Ok.ensures.ok ∙ ap (λ xs. xs ++ outcome_line c.args.outcome.now) c.new-octets.ensures.items)) (outcome_utf8 c.args.outcome.now)
