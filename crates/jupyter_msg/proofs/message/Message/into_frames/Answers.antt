use Rattle.std.proofs.Common.{arith, ◌≡◌}
use Rattle.std.proofs.lemmas.Grind.{common_steps}
use Rattle.jupyter_msg.specs.Octets.{octets, octets_of}
use Rattle.jupyter_msg.specs.Message.{frames_of}
use Rattle.jupyter_msg.proofs.OpenLemmas.{sealed_is_message}
use Rattle.jupyter_msg.proofs.message.Message.into_frames.Goals as goal

pub returns-clause-opens : goal.returns-clause-opens
returns-clause-opens c =
    let e : octets c.append.new.self.items ≡ frames_of c.args.key.now (octets_of c.args.self) = grind (arith, common_steps) in
    sealed_is_message c.args.key.now (octets_of c.args.self) _ e
