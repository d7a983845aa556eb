-- What is written of the procedures of a world.
use Rattle.std.specs.Prelude.{◌≡◌, ◌↔◌, ◌⊎◌, ℕ, List, Contains}
use Rattle.std.specs.List.{flat_map}
use Rattle.std.specs.Ordering.{nat_cmp}
use Rattle.std.specs.Cmp.Lexicographic.{slice_cmp}
use Rattle.std.specs.List.Sorted.{IsStrictlySortedBy}
use Rattle.janus_meaning.specs.Fault.{Fine}
use Rattle.janus_meaning.specs.Syntax.{Proc}
use Rattle.janus_meaning.specs.Store.{find}
use Rattle.janus_meaning.specs.World.{World}
use Rattle.kernel_core.specs.post.PostFault.TheVariants.{Memory}
use Rattle.kernel_text.specs.Lines.{post_fault_line}
use Rattle.kernel_text.specs.Procedures.{procedure_names}
use Rattle.kernel_text.specs.ProcedureTexts.{procedure_text}
use Rattle.cells_program.specs.Lines.{ended_line}

-- Of procedures those that a name calls, each once, in the order of the names' octets.
pub record IsListing (all listing : List Proc) : Type 0 where
  pub ordered : IsStrictlySortedBy (slice_cmp nat_cmp) (procedure_names listing)
  pub each : (p : Proc) → Contains listing p ↔ (find p.name all ≡ Fine p)

-- a line for each procedure, with its text
abbrev pub listing_text : List Proc → List ℕ
listing_text ps = flat_map (λ p. ended_line (procedure_text p)) ps

-- the procedures that can be called, by name
abbrev pub IsListText : World → List ℕ → Type 0
IsListText w text = (listing : List Proc) × IsListing w.procedures listing × (text ≡ listing_text listing)

-- they are listed, or there was no memory for that
abbrev pub IsListed : World → List ℕ → Type 0
IsListed w text = IsListText w text ⊎ (text ≡ ended_line (post_fault_line Memory))
