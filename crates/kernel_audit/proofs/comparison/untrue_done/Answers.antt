use Rattle.std.proofs.Common.{map}
use Rattle.std.proofs.lemmas.List.Sorted.{All-permutation, IsPermutation-sym}
use Rattle.std.proofs.lemmas.Option.{IfSome_then}
use Rattle.kernel_ask.specs.Written.{entry_of}
use Rattle.kernel_audit.specs.Ends.{HasEnd}
use Rattle.kernel_audit.proofs.Tickets.{no_ends, if_none}
use Rattle.kernel_audit.proofs.comparison.untrue_done.Goals as goal

pub returns-clause-some : goal.returns-clause-some
returns-clause-some c =
    IfSome_then c.unknown_done.result c.unknown_done.ensures.some
    (λ n h. no_ends (map entry_of c.args.minutes.now) c.args.dones.now c.sort_unstable_by_key.new.self n c.sort_unstable_by_key.ensures.permutation h)

pub returns-clause-none : goal.returns-clause-none
returns-clause-none c =
    if_none c.unknown_done.result c.unknown_done.ensures.none
    (λ h. All-permutation (HasEnd (map entry_of c.args.minutes.now)) c.sort_unstable_by_key.new.self c.args.dones.now
    (IsPermutation-sym _ _ c.sort_unstable_by_key.ensures.permutation) h)
