use Rattle.std.proofs.lemmas.Str.{is_utf8-from_IsUtf8}
use Rattle.stamp_texts.proofs.present.as_text.Goals as goal

pub returns-in-Ok-clause-text : goal.returns-in-Ok-clause-text
returns-in-Ok-clause-text c = is_utf8-from_IsUtf8 c.args.date c.in-Ok.ensures.cases.1
