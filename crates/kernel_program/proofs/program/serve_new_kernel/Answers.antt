use Rattle.std.proofs.Common.{◌≡◌, All, sym, subst}
use Rattle.atomic_table.specs.Seated.{TableId}
use Rattle.kernel_bell.specs.Seats.{RingerOf}
use Rattle.kernel_program.proofs.program.serve_new_kernel.Goals as goal

-- the service has the hall whose bell the seats are of
pub serve_all-served-requires-clause-ringers : goal.serve_all-served-requires-clause-ringers
serve_all-served-requires-clause-ringers g c = λ κs lives.
    subst (λ (h : TableId). All (λ (s : RingerOf). s.bell ≡ h) c.args.seats.ringers.items) (sym c.in_ok-service.ensures) c.requires.ringers
