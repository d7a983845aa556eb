-- Whether a text can be executed as it stands (Jupyter messaging page, "Code completeness").
use Rattle.std.specs.Prelude.{◌≡◌, ℕ, Bool, true, false, ◌==◌, List, length}
use Rattle.janus_syntax.specs.Tree.{Cell}
use Rattle.janus_syntax.specs.Text.{HasTree, IsRefusal}
use Rattle.janus_syntax.specs.declared.fault.SyntaxFault.{SyntaxFault}
use Rattle.janus_syntax.specs.declared.fault.SyntaxFault.TheVariants as fault
use Rattle.kernel_ask.specs.declared.judgement.Completeness.{Completeness}
use Rattle.kernel_ask.specs.declared.judgement.Completeness.TheVariants.{Complete, Incomplete, Invalid, Unknown}

-- more was expected where a text of this length ends
abbrev pub ends_early : ℕ → SyntaxFault → Bool
ends_early length (fault.Expected what at) = at.start == length
ends_early length (fault.BadToken at) = false
ends_early length (fault.NumberTooLarge at) = false
ends_early length (fault.TooNested at) = false
ends_early length (fault.DelocalName at) = false
ends_early length fault.Memory = false

-- the text is refused, at its end or before it
pub record IsRefusedAs (text : List ℕ) (early : Bool) : Type 0 where
  pub fault : SyntaxFault
  pub refusal : IsRefusal text fault
  pub ends : ends_early (length text) fault ≡ early

-- it is a cell; it is refused at its end, where more was expected; it is refused before; of want of memory nothing is said
abbrev pub IsJudged : List ℕ → Completeness → Type 0
IsJudged text Complete = (c : Cell) × HasTree text c
IsJudged text Incomplete = IsRefusedAs text true
IsJudged text Invalid = IsRefusedAs text false
IsJudged text Unknown = Unit {0}
