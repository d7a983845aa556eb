-- What a console says of a fault, and how it ends.
use Rattle.std.specs.Prelude.{ℕ, List, ◌++◌, codes}
use Rattle.jupyter_msg.specs.Fault.{setting_name}
use Rattle.jupyter_msg.specs.declared.fault.MsgFault.{MsgFault}
use Rattle.jupyter_msg.specs.declared.fault.MsgFault.TheVariants as message
use Rattle.jupyter_msg.specs.declared.fault.Setting.TheVariants as setting
use Rattle.console_talk.specs.declared.fault.ConsoleFault.{ConsoleFault}
use Rattle.console_talk.specs.declared.fault.ConsoleFault.TheVariants.{BadFile, NoConnection, NoMemory, NoComm}
use Rattle.console_talk.specs.declared.printed.AnswerFault.{AnswerFault}
use Rattle.console_talk.specs.declared.printed.AnswerFault.TheVariants as answer

abbrev pub reason_of : ConsoleFault → List ℕ
reason_of (BadFile s) = codes "connection file: " ++ setting_name s
reason_of NoConnection = codes "no connection"
reason_of NoMemory = codes "no memory"
reason_of NoComm = codes "comm refused"

-- 1 where the kernel refused, 2 for a connection file, 3 where the kernel can't be reached, or for want of memory
abbrev pub status_of : ConsoleFault → ℕ
status_of (BadFile s) = 2
status_of NoConnection = 3
status_of NoMemory = 3
status_of NoComm = 1

-- what an answer that is none comes to
abbrev pub answer_fault : AnswerFault → ConsoleFault
answer_fault answer.NoAnswer = NoConnection
answer_fault answer.Memory = NoMemory

-- what a refusal of a connection file comes to
abbrev pub file_fault : MsgFault → ConsoleFault
file_fault (message.BadConnection s) = BadFile s
file_fault message.Memory = NoMemory
file_fault _ = BadFile setting.File
