-- A desk with nothing behind it.
use Rattle.std.specs.Prelude.{◌≡◌, [], Err}
use Rattle.kernel_hall.specs.post.PostFault.TheVariants.{Closing}
use Rattle.kernel_hall.specs.answer.HallFault.TheVariants.{Memory}
use Rattle.kernel_session.specs.Call.{Call, Posted, Asked, Changed, Rang, Shut, Published, Kept, Dated}
use Rattle.kernel_desk.specs.declared.quiet.QuietDesk.{QuietDesk}

-- jobs, questions and changes are refused, nothing is kept, and the date stays
abbrev pub quiet_leads : QuietDesk → Call → QuietDesk → Type 0
quiet_leads old (Posted job wishes told) new = (told ≡ Err Closing) × (new ≡ old)
quiet_leads old (Asked q told) new = (told ≡ Err Memory) × (new ≡ old)
quiet_leads old (Changed change told) new = (told ≡ Err Memory) × (new ≡ old)
quiet_leads old Rang new = new ≡ old
quiet_leads old Shut new = new ≡ old
quiet_leads old (Published b) new = new ≡ old
quiet_leads old (Kept bs) new = (bs ≡ []) × (new ≡ old)
quiet_leads old (Dated before after) new = (after ≡ before) × (new ≡ old)
