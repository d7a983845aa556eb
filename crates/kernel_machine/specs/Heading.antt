-- Whether the steps of a cell are taken, or taken back: the words of the code.
pub use Rattle.kernel_machine.specs.declared.heading.Why.{Why}
pub use Rattle.kernel_machine.specs.declared.heading.Why.TheVariants.{WasAsked, Faulted}
pub use Rattle.kernel_machine.specs.declared.heading.Heading.{Heading}
pub use Rattle.kernel_machine.specs.declared.heading.Heading.TheVariants.{GoesOn, GoesBack}
