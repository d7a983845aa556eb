use Rattle.std.proofs.Common.{List, sym, subst}
use Rattle.kernel_board.specs.Frames.{Frames}
use Rattle.kernel_board.specs.declared.log.Read.TheVariants.{Got, Lagged}
use Rattle.kernel_desk.specs.HallDesk.{AreRead}
use Rattle.kernel_desk.proofs.Reading.{known_read, read_got, read_lagged}
use Rattle.kernel_desk.proofs.hall_desk.read_more.Goals as goal

pub returns-in-Ok-Lagged : goal.returns-in-Ok-Lagged
returns-in-Ok-Lagged g c = λ from r.
    read_lagged from c.args.kept.now.items c.args.place.number c.in-Ok-Lagged.oldest.number
    (known_read c.args.place.number c.in-Ok-Lagged.field-0 (Lagged c.in-Ok-Lagged.oldest) c.in-Ok-Lagged.field-0-is c.in-Ok-Lagged.ensures) r

pub returns-in_ok-append-in-Ok-Got : goal.returns-in_ok-append-in-Ok-Got
returns-in_ok-append-in-Ok-Got g c = λ from r.
    subst (λ (xs : List Frames). AreRead from xs c.in-Ok-Got.next.number) (sym c.in_ok-append-in-Ok-Got.ensures.items)
    (read_got from c.args.kept.now.items c.args.place.number c.in-Ok-Got.got.items c.in-Ok-Got.next.number
    (known_read c.args.place.number c.in-Ok-Got.field-0 (Got c.in-Ok-Got.got c.in-Ok-Got.next) c.in-Ok-Got.field-0-is c.in-Ok-Got.ensures) r)
