-- What is kept of a broadcast, and the frames that it stands for.
use Rattle.zmtp_wire.specs.Message.{bodies_of}
use Rattle.kernel_board.specs.declared.content.Content.{Content}
use Rattle.kernel_board.specs.declared.content.Content.TheVariants.{Written, TooLong}
use Rattle.kernel_board.specs.Frames.{Frames}

-- the frames
abbrev pub frames_kept : Content → Frames
frames_kept (Written message) = message.spells.0
frames_kept (TooLong message) = bodies_of message.frames.items
