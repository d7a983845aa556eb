use Rattle.kernel_desk.proofs.Calls.{is_shut}
use Rattle.kernel_desk.proofs.hall_desk.HallDeskDesk.shut.Goals as goal

pub returns : goal.returns
returns g c =
    let shut = c.shut_by.ensures in
    is_shut _ _ c.shut_by.new.pass c.self.view_is (record { seen = shut.seen; shut = shut.shut; acts = shut.acts })
