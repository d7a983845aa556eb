use Rattle.std.proofs.Common.{◌++◌, ◌∙◌, ap, subst, sym}
use Rattle.std.specs.Str.{IsUtf8}
use Rattle.janus_memory.specs.Values.{shown}
use Rattle.kernel_text.specs.ValueTexts.{value_text}
use Rattle.kernel_text.proofs.Utf8.{value_utf8}
use Rattle.kernel_text.proofs.values.value_text.Goals as goal

pub as_text-requires : goal.as_text-requires
as_text-requires c =
    let value = shown c.args.value in
    subst IsUtf8 (sym (c.in-Ok.ensures.ok ∙ ap (λ xs. xs ++ value_text (c.args.name.now, value)) c.new-octets.ensures.items))
    (value_utf8 c.args.name.now value c.utf8.name)
