-- What is written while commands are obeyed.
use Rattle.std.specs.Prelude.{◌≡◌, ◌≢◌, ◌⊎◌, ℕ, Bool, true, false, List, [], ◌∷◌, ◌++◌, length, Option, None, Some}
use Rattle.std.specs.Io.BufRead.{take_through, drop_through}
use Rattle.steps_walk.specs.declared.walk.Walk.{Walk}
use Rattle.steps_program.specs.declared.command.Command.{Command}
use Rattle.steps_program.specs.declared.source.Source.{Source}
use Rattle.steps_program.specs.declared.talk.Reply.{Reply}
use Rattle.steps_program.specs.declared.talk.Reply.TheVariants as reply
use Rattle.steps_program.specs.Commands.{Quit, asked, asked_of}
use Rattle.steps_program.specs.Counted.{all_steps}
use Rattle.steps_program.specs.Obeyed.{Obeys}
use Rattle.steps_program.specs.Told.{Answers}

-- a command is obeyed, and `out` is the answer to it
pub record Serves {L : Type 0} (sources : List Source) (command : Command) (old new : Walk L) (out : List ℕ) : Type 0 where
  pub tells : Reply
  pub obeys : Obeys sources command old new tells
  pub answers : Answers sources tells new out

-- the commands of lines are obeyed one after the other, and `out` is all that is written of them
pub data Talks {L : Type 0} (sources : List Source) (old : Walk L) : List (List ℕ) → Walk L → List ℕ → Type 0 where
  Silent : Talks sources old [] old []
  Further : (lines : List (List ℕ)) (mid new : Walk L) (before answer line : List ℕ) (command : Command) → Talks sources old lines mid before →
      asked command ≡ asked_of line → Serves sources command mid new answer → Talks sources old (lines ++ line ∷ []) new (before ++ answer)

-- of lines of which this holds
abbrev pub Talked : {L : Type 0} → List Source → Walk L → Walk L → (List (List ℕ) → Type 0) → List ℕ → Type 0
Talked sources old new reads out = (lines : List (List ℕ)) × reads lines × Talks sources old lines new out

-- it is told where the walk begins, and then the commands of such lines are obeyed
pub record Transcribes {L : Type 0} (sources : List Source) (walk : Walk L) (reads : List (List ℕ) → Type 0) (out : List ℕ) : Type 0 where
  pub begin : List ℕ
  pub tells : Answers sources reply.Place walk begin
  pub end : Walk L
  pub answers : List ℕ
  pub talked : Talked sources walk end reads answers
  pub is : out ≡ begin ++ answers

-- ---- the lines of an input

-- these lines are at the front of an input, each as far as its LF or the end, none of which asks to end, and this is behind them
pub data Reads (input : List ℕ) : List (List ℕ) → List ℕ → Type 0 where
  Unread : Reads input [] input
  ReadOn : (lines : List (List ℕ)) (left : List ℕ) → Reads input lines left → asked_of (take_through 10 left) ≢ Quit →
      Reads input (lines ++ take_through 10 left ∷ []) (drop_through 10 left)

-- the same of a reader whose octets are known
abbrev pub ReadsTo : Option (List ℕ) → Option (List ℕ) → List (List ℕ) → Type 0
ReadsTo None left lines = Unit {0}
ReadsTo (Some input) left lines = (rest : List ℕ) × Reads input lines rest × (left ≡ Some rest)

abbrev pub ReadsSome : Option (List ℕ) → List (List ℕ) → Type 0
ReadsSome input lines = (left : Option (List ℕ)) × ReadsTo input left lines

-- no line is left, or the next one asks to end, or as many are read as a `u64` counts
abbrev pub IsRead : List (List ℕ) → List ℕ → Type 0
IsRead lines rest = (rest ≡ []) ⊎ (asked_of (take_through 10 rest) ≡ Quit) ⊎ (length lines ≡ all_steps)

abbrev pub ReadsAll : Option (List ℕ) → List (List ℕ) → Type 0
ReadsAll None lines = Unit {0}
ReadsAll (Some input) lines = (rest : List ℕ) × Reads input lines rest × IsRead lines rest

-- a line is read, or there is none
abbrev pub ReadsLine : Bool → Option (List ℕ) → Option (List ℕ) → List ℕ → Type 0
ReadsLine some None left line = Unit {0}
ReadsLine true (Some xs) left line = (line ≡ take_through 10 xs) × (left ≡ Some (drop_through 10 xs))
ReadsLine false (Some xs) left line = xs ≡ []
