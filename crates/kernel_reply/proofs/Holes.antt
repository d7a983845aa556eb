-- A content has no floats where what was put into it has none.
use Rattle.std.proofs.Common.{◌≡◌, ℕ, false, ◌||◌, List, ap}
use Rattle.serde_json.specs.Data.{Data}
use Rattle.serde_json.specs.Written.{has_float}
use Rattle.kernel_ask.specs.declared.answer.Completion.{Completion}
use Rattle.kernel_ask.specs.declared.answer.KernelState.{KernelState}
use Rattle.kernel_reply.specs.Replies.{complete_content, history_content}
use Rattle.kernel_reply.specs.Execution.{ran_content}
use Rattle.kernel_reply.specs.Comms.{comm_info_content, comm_msg_content, state_content}

pub complete_plain : (c : Completion) (d : Data) → has_float d ≡ false → has_float (complete_content c d) ≡ false
complete_plain c d h = ap (λ b. b || false) h

pub history_plain : (d : Data) → has_float d ≡ false → has_float (history_content d) ≡ false
history_plain d h = ap (λ b. b || false) h

pub ran_plain : (n : ℕ) (d : Data) → has_float d ≡ false → has_float (ran_content n d) ≡ false
ran_plain n d h = ap (λ b. b || false) h

pub comm_info_plain : (d : Data) → has_float d ≡ false → has_float (comm_info_content d) ≡ false
comm_info_plain d h = ap (λ b. b || false) h

pub comm_msg_plain : (id : List ℕ) (d : Data) → has_float d ≡ false → has_float (comm_msg_content id d) ≡ false
comm_msg_plain id d h = ap (λ b. b || false) h

pub state_plain : (s : KernelState) (d : Data) → has_float d ≡ false → has_float (state_content s d) ≡ false
state_plain s d h = ap (λ b. b || false) h
