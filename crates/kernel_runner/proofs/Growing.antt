-- What is ready stays so as names of procedures go on.
use Rattle.std.proofs.Common.{◌≡◌, List, [], ◌++◌, sym, ap, ◌∙◌, subst, append_assoc}
use Rattle.std.proofs.lemmas.List.{append-nil}
use Rattle.janus_meaning.specs.Syntax.{Name}
use Rattle.janus_slots.specs.Numbers.{GoOn}
use Rattle.janus_machine.specs.declared.procedures.Procedures.{Procedures}
use Rattle.kernel_runner.specs.Program.{IsReady}
use Rattle.kernel_runner.specs.declared.program.Program.{Program}

-- none more
pub no_more : (xs : List Name) → GoOn xs xs
no_more xs = ([], sym (append-nil xs))

pub same_more : (xs ys : List Name) → ys ≡ xs → GoOn xs ys
same_more xs ys e = subst (λ l. GoOn xs l) (sym e) (no_more xs)

-- more, and then more yet
pub more_yet : (xs ys zs : List Name) → GoOn xs ys → GoOn ys zs → GoOn xs zs
more_yet xs ys zs a b = (a.0 ++ b.0, b.1 ∙ ap (λ l. l ++ b.0) a.1 ∙ append_assoc xs a.0 b.0)

pub ready_grows : (es fs : List Name) → GoOn es fs → (sight : List Name) (t : Procedures) (program : Program) → IsReady es sight t program →
    IsReady fs sight t program
ready_grows es fs onward sight t program h = record {
  meant = λ more yet. h.meant more (more_yet es fs more onward yet);
  names = h.names;
  within = h.within;
  bodies = λ more yet. h.bodies more (more_yet es fs more onward yet);
}
