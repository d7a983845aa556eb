-- Names are only added: what flat code stands for among those that were met it stands for when more were.
use Rattle.std.proofs.Common.{◌≡◌, List}
use Rattle.janus_meaning.specs.Syntax.{Name}
use Rattle.janus_slots.specs.Numbers.{GoOn}
use Rattle.janus_slots.proofs.NameAt.{goes_on_at}
use Rattle.janus_code.specs.declared.code.Code.{Code}
use Rattle.janus_code.specs.Numbered.{HaveNumbers}
use Rattle.janus_code.specs.CodeBlock.{code_block}
use Rattle.janus_code.proofs.Agree.{Agrees, code_agrees}

module _ (xs ys : List Name) (g : GoOn xs ys) where
  agrees : Agrees xs ys
  agrees k lt = goes_on_at xs ys k g lt

  pub code_goes_on : (c : Code) → HaveNumbers xs c.statements.items → code_block ys c ≡ code_block xs c
  code_goes_on c h = code_agrees xs ys agrees c h
