use Rattle.std.proofs.Common.{ap, ◌∙◌, map, option_map, string_bytes}
use Rattle.serde_json.specs.Written.{has_float}
use Rattle.kernel_reply.proofs.Floats.{comms_plain}
use Rattle.kernel_reply.proofs.comms.comm_info_reply.Goals as goal

pub comm_info_content-requires : goal.comm_info_content-requires
comm_info_content-requires c =
    ap has_float c.in_ok-shown.ensures ∙ comms_plain (option_map (λ t. t.now) c.args.name) (map string_bytes c.args.ids.now)
