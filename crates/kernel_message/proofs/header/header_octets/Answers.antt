use Rattle.std.proofs.Common.{arith, ◌≡◌, [], ◌++◌, string_bytes, ap₂, ◌∙◌}
use Rattle.std.proofs.lemmas.Grind.{common_steps}
use Rattle.json.specs.Print.{print}
use Rattle.kernel_message.specs.Stamp.{msg_id}
use Rattle.kernel_message.proofs.Printed.{header_tokens, printed}
use Rattle.kernel_message.proofs.header.header_octets.Goals as goal

pub returns : goal.returns
returns c =
    let stamp = c.args.stamp.now in
    let tokens : c.end_object.new.self.tokens ≡ header_tokens stamp.date (msg_id stamp c.args.n) c.args.msg_type.now (string_bytes stamp.session) =
    grind (arith, common_steps) in
    let before : c.end_object.new.self.before ≡ [] = grind (arith, common_steps) in
    c.into_inner.ensures.items ∙ ap₂ (λ b ts. b ++ print ts) before tokens ∙ printed stamp c.args.n c.args.msg_type.now
