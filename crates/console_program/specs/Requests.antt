-- What goes out for a request.
use Rattle.std.specs.Prelude.{ℕ, List}
use Rattle.jupyter_msg.specs.Message.{frames_of}
use Rattle.zmtp_wire.specs.Message.{message_octets}
use Rattle.kernel_message.specs.Said.{Said}
use Rattle.console_talk.specs.Headers.{message_of}

-- the octets of the n-th message of a session, signed under the key
abbrev pub request_octets : List ℕ → List ℕ → ℕ → Said → List ℕ
request_octets key session n said = message_octets (frames_of key (message_of session n said))
