use Rattle.std.proofs.Common.{◌≡◌, suc, ◌-◌, [], ap, ◌∙◌, arith}
use Rattle.std.specs.Prelude.{reverse}
use Rattle.janus_linear.specs.declared.code.Order.TheVariants.{Turned}
use Rattle.janus_linear.specs.Layout.{block_size}
use Rattle.janus_linear.specs.Within.{within}
use Rattle.janus_linear.proofs.Ends.{first_place}
use Rattle.janus_machine.specs.declared.direction.Direction.TheVariants.{Inverse}
use Rattle.janus_machine.specs.Places.{block_in}
use Rattle.janus_machine.specs.Nested.{row_place, book_in, frames_outside}
use Rattle.janus_machine.proofs.cursor.Cursor.enter_inverse.Goals as goal

pub returns-clause-place : goal.returns-clause-place
returns-clause-place c = λ t hs.
    let b = c.args.book.now.code.now in
    let z : block_size (block_in b Inverse) - suc c.last-self.result ≡ 0 = omega (arith, c.last-self.ensures) in
    ap (λ cs. within (frames_outside t b Inverse (reverse cs) hs)
    (row_place (book_in t b (reverse cs)) Inverse (block_size (block_in (book_in t b (reverse cs)) Inverse) - suc c.last-self.result)))
    c.clear.ensures.items
    ∙ ap (λ n. within [] (row_place b Inverse n)) z
    ∙ ap (within []) (first_place Turned (block_in b Inverse))
