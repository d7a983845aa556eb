use Rattle.machine_laws.proofs.OneAccount.{one_account}
use Rattle.machine_laws.proofs.laws.one_account_law.Goals as goal

pub returns : goal.returns
returns c = one_account
