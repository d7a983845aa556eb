-- Where a walk stands while no call is open: at the place of the meaning's machine to which the steps that are taken have led; and what stands there in the
-- text.
use Rattle.std.specs.Prelude.{◌≡◌, ℕ, false, List, Option}
use Rattle.janus_meaning.specs.Syntax.{Name}
use Rattle.janus_slots.specs.Slots.{names_in}
use Rattle.janus_linear.specs.declared.code.Order.TheVariants.{Straight}
use Rattle.janus_linear.specs.Layout.{place_at}
use Rattle.janus_syntax.specs.declared.token.Span.{Span}
use Rattle.janus_syntax.specs.Tree.{Block, block_view}
use Rattle.janus_machine.specs.Cursor.{direction_of}
use Rattle.janus_machine.specs.Cursors.{place_in}
use Rattle.janus_machine.specs.Whereabouts.{faced}
use Rattle.kernel_machine.specs.Language.{run_block}
use Rattle.kernel_runner.specs.declared.program.Program.{Program}
use Rattle.kernel_runner.specs.declared.runner.Runner.{Runner}
use Rattle.kernel_runner.specs.Runner.{Place, start_at, Faces}
use Rattle.janus_places.specs.declared.part.Part.{Part}
use Rattle.janus_places.specs.Standing.{code_of, IsTold}

-- the block of a program, as the text has it
abbrev pub text_block : Program → Block
text_block program = block_view program.cell.statements.items

-- the names in sight as the block begins
abbrev pub names_at : Place → List Name
names_at at = names_in (start_at at).store

-- The steps that are taken have led to the cursor's place, that is this one of the block, the way that its code runs, and this part of a statement stands
-- there in the text.
pub record IsThere {L : Type 0} (runner : Runner L) (program : Program) (at : Place) (p : Part) (s : Option Span) : Type 0 where
  pub faces : Faces false runner program (run_block at.code) (start_at at) at.count
  pub n : ℕ
  pub place : place_in runner.procedures program.book runner.cursor
      ≡ faced (direction_of runner.cursor) (place_at Straight (code_of runner.entries (names_at at) (text_block program)) n)
  pub told : IsTold runner.entries (names_at at) (text_block program) n p s
