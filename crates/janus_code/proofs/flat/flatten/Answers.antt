use Rattle.std.proofs.Common.{◌≡◌, length, ap, ◌∙◌, sym, subst}
use Rattle.janus_meaning.specs.Syntax.{names_of}
use Rattle.janus_meaning.specs.Shape.{Shape}
use Rattle.janus_syntax.specs.View.{block_of, plain_block, plain_cell}
use Rattle.janus_syntax.specs.Tree.{Block, Cell, cell_of}
use Rattle.janus_check.specs.Checked.{cell_in, names_seen, heads_called}
use Rattle.janus_check.specs.Slots.{block_in}
use Rattle.janus_code.specs.Seen.{SeesBlk}
use Rattle.janus_code.specs.Width.{width_of}
use Rattle.janus_code.proofs.Seeing.{block_seen}
use Rattle.janus_code.proofs.flat.flatten.Goals as goal

abbrev statements_in : Cell → Block
statements_in (cell_of ds b ps) = b

pub flat_code-requires : goal.flat_code-requires
flat_code-requires g c =
    let checked = c.args.checked.now in
    let is : (plain_cell (cell_in checked)).block ≡ block_of c.deref.result.now =
    ap plain_block (sym (ap statements_in c.cell.ensures)) ∙ ap block_of (sym c.deref.ensures.value) in
    subst (λ (g : Shape). SeesBlk c.args.entries.now g (block_of c.deref.result.now)) (sym c.sight-sight.ensures.names)
    (subst (SeesBlk c.args.entries.now (names_seen checked)) is
    (block_seen (heads_called checked) c.args.entries.now (names_seen checked) (plain_cell (cell_in checked)).block c.requires.entries
    c.formed_law.ensures.block))

pub returns-clause-block : goal.returns-clause-block
returns-clause-block g c =
    let checked = c.args.checked.now in
    let is : (plain_cell (cell_in checked)).block ≡ block_of c.deref.result.now =
    ap plain_block (sym (ap statements_in c.cell.ensures)) ∙ ap block_of (sym c.deref.ensures.value) in
    λ xs slots numbered. c.in_ok-flat_code.ensures.block xs slots numbered
    ∙ ap (λ (g : Shape). block_in c.args.entries.now (names_of g) (block_of c.deref.result.now)) c.sight-sight.ensures.names
    ∙ ap (block_in c.args.entries.now (names_of (names_seen checked))) (sym is)

pub returns-clause-width : goal.returns-clause-width
returns-clause-width g c =
    let checked = c.args.checked.now in
    let is : (plain_cell (cell_in checked)).block ≡ block_of c.deref.result.now =
    ap plain_block (sym (ap statements_in c.cell.ensures)) ∙ ap block_of (sym c.deref.ensures.value) in
    c.in_ok-flat_code.ensures.width
    ∙ ap (λ (g : Shape). width_of c.args.entries.now (length g) (block_of c.deref.result.now)) c.sight-sight.ensures.names
    ∙ ap (width_of c.args.entries.now (length (names_seen checked))) (sym is)
