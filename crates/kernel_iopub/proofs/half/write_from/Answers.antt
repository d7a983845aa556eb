use Rattle.std.proofs.Common.{rules, inr}
use Rattle.kernel_iopub.specs.Round.{IsRound}
use Rattle.kernel_iopub.proofs.half.write_from.Goals as goal

-- a beginning of what is kept
pub returns-clause-err : goal.returns-clause-err
returns-clause-err g c =
    let round : IsRound c.args.place.number c.in-Ok-Got.next.number c.in_ok-kept-in-Ok-Got.kept.items = search rules in
    inr (c.in-Ok-Got.next.number, c.in_ok-kept-in-Ok-Got.kept.items, round, search rules)
