use Rattle.std.proofs.Common.{◌++◌, ◌∙◌, ap, subst, sym}
use Rattle.std.specs.Str.{IsUtf8}
use Rattle.kernel_text.specs.Lines.{post_fault_line}
use Rattle.kernel_text.proofs.Utf8.{post_fault_utf8}
use Rattle.kernel_text.proofs.lines.post_fault_line.Goals as goal

pub as_text-requires : goal.as_text-requires
as_text-requires c =
    subst IsUtf8 (sym (c.in-Ok.ensures.ok ∙ ap (λ xs. xs ++ post_fault_line c.args.fault) c.new-octets.ensures.items)) (post_fault_utf8 c.args.fault)
