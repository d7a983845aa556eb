-- Who has seen a shutdown has seen it at each later call.
use Rattle.std.proofs.Common.{◌≡◌, true, List, [], ◌∷◌, Ok, Err, inr, sym, subst}
use Rattle.kernel_hall.specs.Passes.{PassOf, HasSeen}
use Rattle.kernel_hall.specs.Notes.{has_shutdown}
use Rattle.kernel_hall.proofs.Noted.{shut_stays}
use Rattle.kernel_session.specs.Call.{Call, Leads, Posted, Asked, Changed, Rang, Shut, Published, Kept, Dated}
use Rattle.kernel_desk.specs.HallDesk.{DeskState, hall_desk_leads}
use Rattle.kernel_desk.specs.Shutdowns.{ShutdownIsFinal}

abbrev Knows : DeskState → Type 0
Knows d = has_shutdown d.pass.notes ≡ true

seen : (old new : PassOf) → HasSeen old new → has_shutdown old.notes ≡ true → has_shutdown new.notes ≡ true
seen old new s h = shut_stays old.notes new.notes s.noted h

knows_still : (old new : DeskState) (call : Call) → hall_desk_leads old call new → Knows old → Knows new
knows_still old new (Posted job wishes (Ok done)) l h = shut_stays old.pass.notes new.pass.notes l.0.2.noted h
knows_still old new (Posted job wishes (Err fault)) l h = seen old.pass new.pass l.0.0 h
knows_still old new (Asked q told) l h = seen old.pass new.pass l.2 h
knows_still old new (Changed change told) l h = seen old.pass new.pass l.1 h
knows_still old new Rang l h = subst Knows (sym l.2) h
knows_still old new Shut l h = l.1
knows_still old new (Published b) l h = subst Knows (sym l) h
knows_still old new (Kept bs) l h = subst Knows (sym l.2) h
knows_still old new (Dated before after) l h = subst Knows (sym l.1) h

knows_behind : (calls : List Call) (old new : DeskState) → Leads hall_desk_leads old calls new → Knows old → Knows new
knows_behind [] old new l h = subst Knows (sym l) h
knows_behind (call ∷ calls) old new l h = knows_behind calls l.0 new l.2 (knows_still old l.0 call l.1 h)

pub is_final : ShutdownIsFinal
is_final first shut last new calls job wishes told s l p = p.1 (inr (knows_behind calls shut last l s.1))
