use Rattle.tests_sessions.proofs.stamps.tell_instant.Goals as goal

pub date_text-requires : goal.date_text-requires
date_text-requires c = c.has_date.ensures.0 c.if-has_date.true
