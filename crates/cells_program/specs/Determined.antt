-- An input has at most one transcript that nowhere tells want of memory, for each choice.
use Rattle.std.specs.Prelude.{◌≡◌, ℕ, ◌⊎◌, List, ◌++◌, codes}
use Rattle.cells_program.specs.declared.choice.Choice.{Choice}
use Rattle.cells_program.specs.Transcript.{IsTranscriptFor}

-- these octets stand somewhere in a text
abbrev pub Holds : List ℕ → List ℕ → Type 0
Holds text octets = (before : List ℕ) × (after : List ℕ) × (text ≡ before ++ octets ++ after)

-- a text tells want of memory: of a job that was not posted, of a cell that was not begun, or of a redo that ended for it
abbrev pub TellsWant : List ℕ → Type 0
TellsWant text = Holds text (codes "refused 76 Memory") ⊎ Holds text (codes " then no memory")

-- Two transcripts of one input, for the same number of steps and explained or not alike, neither of which tells want of memory, are the same.
abbrev pub TranscriptIsDetermined : Type 0
TranscriptIsDetermined =
    (choice : Choice) (input out other : List ℕ) →
    IsTranscriptFor choice input out → (TellsWant out → ⊥) → IsTranscriptFor choice input other → (TellsWant other → ⊥) → out ≡ other
