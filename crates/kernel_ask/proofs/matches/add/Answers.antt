use Rattle.std.proofs.Common.{ap, ◌∙◌, map, string_bytes}
use Rattle.kernel_text.proofs.NameSets.{names_inserted}
use Rattle.kernel_ask.proofs.matches.add.Goals as goal

pub returns : goal.returns
returns c = ap (map string_bytes) c.in_ok-insert.ensures.keys ∙ names_inserted c.args.names.now.keys c.args.name
