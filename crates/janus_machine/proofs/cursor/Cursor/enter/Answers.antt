use Rattle.std.proofs.Common.{◌≡◌, suc, ◌-◌, [], ap, ◌∙◌, arith}
use Rattle.std.specs.Prelude.{reverse}
use Rattle.janus_linear.specs.declared.code.Order.TheVariants.{Straight}
use Rattle.janus_linear.specs.Layout.{block_size}
use Rattle.janus_linear.specs.Within.{within}
use Rattle.janus_linear.proofs.Ends.{first_place}
use Rattle.janus_machine.specs.declared.direction.Direction.TheVariants.{Forward}
use Rattle.janus_machine.specs.Places.{block_in}
use Rattle.janus_machine.specs.Nested.{row_place, book_in, frames_outside}
use Rattle.janus_machine.proofs.cursor.Cursor.enter.Goals as goal

pub returns-clause-place : goal.returns-clause-place
returns-clause-place c = λ t hs.
    let b = c.args.book.now.code.now in
    let z : block_size (block_in b Forward) - suc c.last-self.result ≡ 0 = omega (arith, c.last-self.ensures) in
    ap (λ cs. within (frames_outside t b Forward (reverse cs) hs)
    (row_place (book_in t b (reverse cs)) Forward (block_size (block_in (book_in t b (reverse cs)) Forward) - suc c.last-self.result)))
    c.clear.ensures.items
    ∙ ap (λ n. within [] (row_place b Forward n)) z
    ∙ ap (within []) (first_place Straight (block_in b Forward))
