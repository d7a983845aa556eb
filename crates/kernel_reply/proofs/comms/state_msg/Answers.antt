use Rattle.std.proofs.Common.{ap, ◌∙◌}
use Rattle.serde_json.specs.Written.{has_float}
use Rattle.kernel_reply.proofs.Floats.{texts_plain}
use Rattle.kernel_reply.proofs.comms.state_msg.Goals as goal

pub state_content-requires : goal.state_content-requires
state_content-requires c = ap has_float c.in_ok-world.ensures ∙ texts_plain c.deref.result.now
