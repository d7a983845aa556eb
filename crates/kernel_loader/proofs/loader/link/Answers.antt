use Rattle.std.proofs.Common.{◌≡◌, ◌+◌, List, length, length-append, map, ap, ◌∙◌, sym, subst, arith}
use Rattle.janus_meaning.specs.Syntax.{Name, Proc, names_of}
use Rattle.janus_meaning.specs.Formed.{IsBlk, AreProcs}
use Rattle.janus_slots.specs.Slots.{block_in, procedures_in}
use Rattle.janus_slots.specs.Law.{AreListed}
use Rattle.janus_syntax.specs.Tree as tree
use Rattle.janus_syntax.specs.Tree.{procedures_view}
use Rattle.janus_syntax.specs.View.{plain_cell, plain_procedure}
use Rattle.janus_check.specs.Checked.{cell_in, names_seen, heads_called}
use Rattle.janus_slots.proofs.Stores.{length_names}
use Rattle.kernel_runner.specs.Bodies.{AreBodiesFrom}
use Rattle.kernel_runner.specs.Places.{block_in as block_of_book, names_under}
use Rattle.kernel_runner.specs.direction.Direction.TheVariants.{Forward}
use Rattle.kernel_runner.specs.linked_code.LinkedCode.{LinkedCode}
use Rattle.kernel_runner.specs.Procedures.{kept_in}
use Rattle.kernel_runner.proofs.Growing.{no_more}
use Rattle.kernel_loader.proofs.Sighted.{names_here, entries_here}
use Rattle.kernel_loader.proofs.Kept.{bodies_behind}
use Rattle.kernel_loader.proofs.Made.{ready_made}
use Rattle.kernel_loader.proofs.Named.{counted}
use Rattle.kernel_loader.proofs.loader.link.Goals as goal

pub bodies_of-requires : goal.bodies_of-requires
bodies_of-requires g c =
    let known = c.requires.known in
    record {
      defined = ap (λ l. map plain_procedure (procedures_view l)) c.deref.ensures.value ∙ ap (λ (t : tree.Cell). (plain_cell t).procedures) c.cell.ensures;
      entries =
          entries_here c.args.runner.now c.args.checked.now known.0 c.args.runner.now.entries known.1 (no_more c.args.runner.now.entries) c.requires.listed;
    }

pub returns-clause-ready : goal.returns-clause-ready
returns-clause-ready g c = λ old new program kept made.
    let checked = c.args.checked.now in
    let es : List Name = c.args.runner.now.entries in
    let known = c.requires.known in
    let bodies = c.in_ok-bodies.bodies.items in
    let ps = (plain_cell (cell_in checked)).procedures in
    let defined : map plain_procedure (procedures_view c.deref.result.now) ≡ ps =
    ap (λ l. map plain_procedure (procedures_view l)) c.deref.ensures.value ∙ ap (λ (t : tree.Cell). (plain_cell t).procedures) c.cell.ensures in
    let many : length bodies ≡ length ps = c.in_ok-bodies.ensures.count ∙ counted c.deref.result.now ps defined in
    let is = sym made.tree in
    let listed : AreListed es ps = c.requires.listed in
    ready_made es _ _ (heads_called checked) (names_seen checked) old new program
    (ap (λ (b : LinkedCode). block_of_book b Forward) made.code ∙ c.in_ok-book.ensures.block
    ∙ ap (λ (t : tree.Cell). block_in es (names_of (names_seen checked)) (plain_cell t).block) is)
    (names_here c.args.runner.now checked known.0 known.1)
    (ap (λ (b : LinkedCode). names_under b) made.code ∙ c.in_ok-book.ensures.names ∙ sym (length_names (names_seen checked)))
    made.bodies
    (subst (λ (t : tree.Cell). AreBodiesFrom (kept_in new) (length (kept_in old)) (procedures_in es (plain_cell t).procedures)) is
    (bodies_behind (kept_in old) (kept_in new) bodies (procedures_in es ps) kept
    (subst (λ (qs : List Proc). AreBodiesFrom bodies 0 (procedures_in es qs)) defined c.in_ok-bodies.ensures.bodies)))
    (subst (λ (t : tree.Cell). length (kept_in new) ≡ length (kept_in old) + length (plain_cell t).procedures) is
    (omega (arith, ap length kept, length-append (kept_in old) bodies, many)))
    (entries_here c.args.runner.now checked known.0 es known.1 (no_more es) listed)
    (subst (λ (t : tree.Cell). AreListed es (plain_cell t).procedures) is listed)
    (subst (λ (t : tree.Cell). IsBlk (heads_called checked) (names_seen checked) (plain_cell t).block) is c.formed_law.ensures.block)
    (subst (λ (t : tree.Cell). AreProcs (heads_called checked) (plain_cell t).procedures) is c.formed_law.ensures.procedures)

pub returns-clause-count : goal.returns-clause-count
returns-clause-count g c =
    c.in_ok-bodies.ensures.count
    ∙ counted c.deref.result.now (plain_cell (cell_in c.args.checked.now)).procedures
    (ap (λ l. map plain_procedure (procedures_view l)) c.deref.ensures.value ∙ ap (λ (t : tree.Cell). (plain_cell t).procedures) c.cell.ensures)

pub book_of-requires : goal.book_of-requires
book_of-requires g c =
    let known = c.requires.known in
    let es = c.args.runner.now.entries in
    record { entries = entries_here c.args.runner.now c.args.checked.now known.0 es known.1 (no_more es) c.requires.listed }
