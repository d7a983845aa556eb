-- Which cell a text is, in a world, and how it is refused there.
use Rattle.std.specs.Prelude.{◌≡◌, ◌≢◌, ℕ, List}
use Rattle.janus_meaning.specs.Shape.{shape_of, heads_of}
use Rattle.janus_meaning.specs.World as world
use Rattle.janus_meaning.specs.World.{World}
use Rattle.janus_syntax.specs.Tree.{Cell}
use Rattle.janus_syntax.specs.View.{plain_cell}
use Rattle.janus_syntax.specs.Text.{HasTree, IsRefusal}
use Rattle.janus_syntax.specs.declared.fault.SyntaxFault as syntax
use Rattle.janus_syntax.specs.declared.fault.SyntaxFault.TheVariants as syntax_fault
use Rattle.janus_check.specs.Check.{cell_faults}
use Rattle.janus_check.specs.Fault.{IsFirst}
use Rattle.janus_check.specs.WellFormed.{IsWellFormed}
use Rattle.janus_check.specs.declared.fault.CheckFault as check
use Rattle.janus_check.specs.declared.fault.CheckFault.TheVariants as check_fault
use Rattle.kernel_machine.specs.declared.outcome.Refusal.{Refusal}
use Rattle.kernel_machine.specs.declared.outcome.Refusal.TheVariants.{Syntax, Check, HistoryFull, TooFar, NoNode, Closing, Memory}

-- the text has a tree that is well formed over the names and the procedures of the world, and this is the cell
pub record Accepts (w : World) (text : List ℕ) (cell : world.Cell) : Type 0 where
  pub tree : Cell
  pub is_tree : HasTree text tree
  pub formed : IsWellFormed (shape_of w.store) (heads_of w.procedures) tree
  pub meant : cell ≡ plain_cell tree

-- the text's tree has faults over the names and the procedures of the world, and this is the first one
pub record IsUnformed (w : World) (text : List ℕ) (fault : check.CheckFault) : Type 0 where
  pub tree : Cell
  pub is_tree : HasTree text tree
  pub real : fault ≢ check_fault.Memory
  pub first : IsFirst fault (cell_faults (shape_of w.store) (heads_of w.procedures) tree)

-- the text is refused: it is no cell, or its cell is not well formed; want of memory may come at any text
abbrev pub Refuses : World → List ℕ → Refusal → Type 0
Refuses w text (Syntax fault) = IsRefusal text fault
Refuses w text (Check fault) = IsUnformed w text fault
Refuses w text HistoryFull = ⊥
Refuses w text TooFar = ⊥
Refuses w text NoNode = ⊥
Refuses w text Closing = ⊥
Refuses w text Memory = Unit {0}

-- the refusal that a fault is told as: want of memory is one of its own
abbrev pub refused_by_syntax : syntax.SyntaxFault → Refusal
refused_by_syntax (syntax_fault.BadToken at) = Syntax (syntax_fault.BadToken at)
refused_by_syntax (syntax_fault.Expected what at) = Syntax (syntax_fault.Expected what at)
refused_by_syntax (syntax_fault.NumberTooLarge at) = Syntax (syntax_fault.NumberTooLarge at)
refused_by_syntax (syntax_fault.TooNested at) = Syntax (syntax_fault.TooNested at)
refused_by_syntax (syntax_fault.DelocalName at) = Syntax (syntax_fault.DelocalName at)
refused_by_syntax syntax_fault.Memory = Memory

abbrev pub refused_by_check : check.CheckFault → Refusal
refused_by_check (check_fault.Declared at) = Check (check_fault.Declared at)
refused_by_check (check_fault.Unknown at) = Check (check_fault.Unknown at)
refused_by_check (check_fault.WrongKind at) = Check (check_fault.WrongKind at)
refused_by_check (check_fault.SelfUse at) = Check (check_fault.SelfUse at)
refused_by_check (check_fault.SameArgument at) = Check (check_fault.SameArgument at)
refused_by_check (check_fault.Arity at) = Check (check_fault.Arity at)
refused_by_check (check_fault.Shadow at) = Check (check_fault.Shadow at)
refused_by_check (check_fault.ChangedParameters at) = Check (check_fault.ChangedParameters at)
refused_by_check (check_fault.TooMany at) = Check (check_fault.TooMany at)
refused_by_check (check_fault.ArrayLength at) = Check (check_fault.ArrayLength at)
refused_by_check check_fault.Memory = Memory
