use Rattle.std.proofs.Common.{sym, ◌∙◌, ap}
use Rattle.kernel_history.specs.Standing.{shown_here}
use Rattle.kernel_loader.specs.Procedures.{kept_in}
use Rattle.kernel_loader.specs.procedures.Procedures.{Procedures}
use Rattle.kernel_loader.proofs.Counting.{same_counts}
use Rattle.kernel_history.proofs.Standing.{below_there, next_down, can_go_down_to, stands_next_down, next_up, can_go_up_from, stands_next_up, declares_next}
use Rattle.kernel_history.proofs.Standing.{ok_map}
use Rattle.kernel_history.proofs.history.enter_next.Goals as goal

pub enter-requires : goal.enter-requires
enter-requires g c =
    let way = sym c.way.ensures ∙ c.in-Down.is in
    let at = next_down c.args.tree.now c.args.travel c.content-in-Down.result.now c.below.result way c.requires.legal c.requires.possible c.below.ensures
    c.content-in-Down.ensures in (
      shown_here c.args.tree.now,
      can_go_down_to c.args.tree.now c.args.travel c.content-in-Down.result.now c.args.runner.now way c.requires.legal
          c.requires.possible at c.requires.is c.requires.ready c.requires.order,
    )

pub enter_inverse-requires : goal.enter_inverse-requires
enter_inverse-requires g c =
    let way = sym c.way.ensures ∙ c.in-Up.is in
    let at = next_up c.args.tree.now c.args.travel c.content.result.now way c.requires.legal c.requires.possible c.content.ensures in (
      shown_here c.args.tree.now,
      can_go_up_from c.args.tree.now c.args.travel c.content.result.now c.args.runner.now way c.requires.legal c.requires.possible at
          c.requires.is c.requires.ready,
    )

pub returns-in-Up-clause-bodies : goal.returns-in-Up-clause-bodies
returns-in-Up-clause-bodies g c = ap (λ (t : Procedures). kept_in t) c.enter_inverse.ensures.procedures

pub returns-in-Up-clause-ok : goal.returns-in-Up-clause-ok
returns-in-Up-clause-ok g c =
    let way = sym c.way.ensures ∙ c.in-Up.is in
    let at = next_up c.args.tree.now c.args.travel c.content.result.now way c.requires.legal c.requires.possible c.content.ensures in
    stands_next_up c.args.tree.now c.args.travel c.content.result.now c.enter_inverse.new.self way at
    (c.enter_inverse.ensures.enters
    _ (can_go_up_from c.args.tree.now c.args.travel c.content.result.now c.args.runner.now way c.requires.legal c.requires.possible at c.requires.is
    c.requires.ready))

pub returns-in-Down-clause-ok : goal.returns-in-Down-clause-ok
returns-in-Down-clause-ok g c =
    let way = sym c.way.ensures ∙ c.in-Down.is in
    let at = next_down c.args.tree.now c.args.travel c.content-in-Down.result.now c.below.result way c.requires.legal c.requires.possible c.below.ensures
    c.content-in-Down.ensures in
    ok_map c.enter.result
    (λ stands. stands_next_down c.args.tree.now c.args.travel c.content-in-Down.result.now c.enter.new.self way at
    (stands _ (can_go_down_to c.args.tree.now c.args.travel c.content-in-Down.result.now c.args.runner.now way c.requires.legal c.requires.possible at
    c.requires.is c.requires.ready c.requires.order)))
    c.enter.ensures.ok

pub returns-in-Down-clause-declares : goal.returns-in-Down-clause-declares
returns-in-Down-clause-declares g c =
    declares_next _ _ c.args.tree.now c.args.travel c.content-in-Down.result.now c.enter.result (sym c.way.ensures ∙ c.in-Down.is)
    (next_down c.args.tree.now c.args.travel c.content-in-Down.result.now c.below.result (sym c.way.ensures ∙ c.in-Down.is)
    c.requires.legal c.requires.possible c.below.ensures c.content-in-Down.ensures)
    c.enter.ensures.none

pub content-requires-in-Down-clause-below_root : goal.content-requires-in-Down-clause-below_root
content-requires-in-Down-clause-below_root g c =
    (below_there c.args.tree.now c.args.travel c.below.result c.requires.legal (sym c.way.ensures ∙ c.in-Down.is) c.requires.possible c.below.ensures).0

pub content-requires-in-Down-clause-known : goal.content-requires-in-Down-clause-known
content-requires-in-Down-clause-known g c =
    (below_there c.args.tree.now c.args.travel c.below.result c.requires.legal (sym c.way.ensures ∙ c.in-Down.is) c.requires.possible c.below.ensures).1

pub returns-in-Up-clause-counts : goal.returns-in-Up-clause-counts
returns-in-Up-clause-counts g c = same_counts c.args.runner.now c.enter_inverse.new.self c.enter_inverse.ensures.counted
