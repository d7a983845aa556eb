use Rattle.std.proofs.lemmas.Str.{IsUtf8-from_is_utf8}
use Rattle.kernel_message.proofs.header.date_text.Goals as goal

pub unreachable-requires : goal.unreachable-requires
unreachable-requires c = c.in-Err.ensures.cases.0 (IsUtf8-from_is_utf8 c.args.stamp.now.date c.args.stamp.now.dated)
