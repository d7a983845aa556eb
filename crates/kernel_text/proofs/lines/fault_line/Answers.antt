use Rattle.std.proofs.Common.{◌++◌, ◌∙◌, ap, subst, sym}
use Rattle.std.specs.Str.{IsUtf8}
use Rattle.kernel_text.specs.Lines.{fault_text}
use Rattle.kernel_text.proofs.Utf8.{fault_utf8}
use Rattle.kernel_text.proofs.lines.fault_line.Goals as goal

pub as_text-requires : goal.as_text-requires
as_text-requires c =
    subst IsUtf8 (sym (c.in-Ok.ensures.ok ∙ ap (λ xs. xs ++ fault_text c.args.fault) c.new-octets.ensures.items)) (fault_utf8 c.args.fault)
