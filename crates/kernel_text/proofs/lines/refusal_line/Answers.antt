use Rattle.std.proofs.Common.{◌++◌, ◌∙◌, ap, subst, sym}
use Rattle.std.specs.Str.{IsUtf8}
use Rattle.kernel_text.specs.Lines.{refusal_text}
use Rattle.kernel_text.proofs.Utf8.{refusal_utf8}
use Rattle.kernel_text.proofs.lines.refusal_line.Goals as goal

pub as_text-requires : goal.as_text-requires
as_text-requires c =
    subst IsUtf8 (sym (c.in-Ok.ensures.ok ∙ ap (λ xs. xs ++ refusal_text c.args.refusal) c.new-octets.ensures.items)) (refusal_utf8 c.args.refusal)
