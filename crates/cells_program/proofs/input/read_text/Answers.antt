use Rattle.std.proofs.Common.{subst}
use Rattle.std.specs.Str.{IsUtf8}
use Rattle.std.proofs.lemmas.Str.{IsUtf8-string_bytes}
use Rattle.cells_program.proofs.InputLemmas.{served_text}
use Rattle.cells_program.proofs.input.read_text.Goals as goal

pub returns-in-Ok-clause-served : goal.returns-in-Ok-clause-served
returns-in-Ok-clause-served g c =
    served_text (g.R.Read.remaining c.args.reader.now) c.in_ok-octets.octets.items c.in_ok-octets.ensures.ok c.in_ok-octets.ensures.limit
    (subst (λ octets. IsUtf8 octets.items) c.in-Ok.ensures.ok (IsUtf8-string_bytes c.in-Ok.text))
