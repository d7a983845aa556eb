-- What is written in answer to a command, by what there is to tell.
use Rattle.std.specs.Prelude.{◌≡◌, ◌⊎◌, ℕ, zero, suc, ◌+◌, ◌-◌, ◌^◌, min, nat_eq, nat_le, Bool, true, false, ◌&&◌, List, [], ◌∷◌, ◌++◌, Option, None, Some}
use Rattle.std.specs.Prelude.{codes, string_bytes, if◌then◌else◌}
use Rattle.std.specs.Borrow.{Bor}
use Rattle.std.specs.Global.{Vec}
use Rattle.std.specs.List.{list_any}
use Rattle.std.specs.Prelude.{length, slice_get, Result, Ok, Err}
use Rattle.std.specs.Str.{bytes_eq}
use Rattle.std.specs.Str.Pattern.{GetsRange}
use Rattle.std.specs.Str.{trim}
use Rattle.janus_meaning.specs.Syntax.{Name}
use Rattle.janus_meaning.specs.Store.{Store, same_name}
use Rattle.janus_meaning.specs.World.{listed}
use Rattle.janus_meaning.specs.Faults.{number_of, name_of as fault_name_of}
use Rattle.janus_syntax.specs.Fault.{fault_number, fault_name}
use Rattle.janus_syntax.specs.Text.{IsLexed}
use Rattle.janus_syntax.specs.declared.fault.SyntaxFault.{SyntaxFault}
use Rattle.janus_syntax.specs.declared.fault.SyntaxFault.TheVariants as syntax
use Rattle.janus_syntax.specs.declared.token.Token.{Token}
use Rattle.janus_syntax.specs.declared.token.TokenKind.{TokenKind}
use Rattle.janus_syntax.specs.declared.token.TokenKind.TheVariants as kinds
use Rattle.janus_syntax.specs.declared.token.Span.{Span}
use Rattle.janus_places.specs.declared.part.Branch.{Branch}
use Rattle.janus_places.specs.declared.part.Branch.TheVariants as branch
use Rattle.janus_places.specs.declared.part.Form.{Form}
use Rattle.janus_places.specs.declared.part.Form.TheVariants as form
use Rattle.janus_places.specs.declared.part.Part.{Part}
use Rattle.janus_places.specs.declared.part.Part.TheVariants.{Begin, End, Before, After, Enters, Leaves}
use Rattle.kernel_text.specs.Lines.{counted_text, named_text}
use Rattle.kernel_text.specs.ValueTexts.{value_text}
use Rattle.cells_program.specs.Lines.{ended_line}
use Rattle.cells_program.specs.Shown.{value_lines}
use Rattle.steps_walk.specs.Runner.{count_of}
use Rattle.steps_walk.specs.declared.level.Level.{Level}
use Rattle.steps_walk.specs.declared.level.Spot.{Spot}
use Rattle.steps_walk.specs.declared.sight.Sight.{Sight}
use Rattle.steps_walk.specs.declared.walk.Walk.{Walk}
use Rattle.steps_walk.specs.Walk.{calls_in, runner_of, slots_in}
use Rattle.steps_walk.specs.Meant.{Means}
use Rattle.steps_walk.specs.Sights.{AreInSight, IsSightHere}
use Rattle.steps_walk.specs.Standing.{TellsStand, TellsLevel, IsSpotAt, name_of}
use Rattle.steps_walk.specs.Slots.{slot, slot_in}
use Rattle.steps_walk.specs.Values.{sighted, value_or_lent}
use Rattle.steps_program.specs.declared.going.Came.{Came}
use Rattle.steps_program.specs.declared.going.Came.TheVariants as came
use Rattle.steps_program.specs.declared.output.CentreLine.{CentreLine}
use Rattle.steps_program.specs.declared.place.Place.{Place}
use Rattle.steps_program.specs.declared.source.Source.{Source}
use Rattle.steps_program.specs.declared.talk.Reply.{Reply}
use Rattle.steps_program.specs.declared.talk.Reply.TheVariants as reply
use Rattle.steps_program.specs.Places.{next, line_in, lines_of, source_of, place_in}

-- ---- lines

abbrev pub no_memory : List ℕ
no_memory = codes "refused no memory\n"

abbrev pub not_in_sight : List ℕ
not_in_sight = codes "refused not in sight\n"

abbrev pub bad_command : List ℕ
bad_command = codes "refused 80 BadCommand\n"

-- words and a number
abbrev pub counted_line : List ℕ → ℕ → List ℕ
counted_line words n = ended_line (counted_text words n)

-- a space and a name
abbrev pub named_line : List ℕ → List ℕ
named_line name = ended_line (named_text name)

-- why the text of an expression is refused
abbrev pub refused_line : SyntaxFault → List ℕ
refused_line fault = counted_text (codes "refused ") (fault_number fault) ++ named_line (fault_name fault)

-- ---- the next step

-- a statement in a word
abbrev pub word_of : Form → List ℕ
word_of form.Skip = codes "skip"
word_of form.Assign = codes "assignment"
word_of form.AssignElement = codes "assignment"
word_of form.Push = codes "push"
word_of form.Pop = codes "pop"
word_of form.Swap = codes "swap"
word_of form.If = codes "if"
word_of form.Loop = codes "loop"
word_of form.LocalInt = codes "local"
word_of form.LocalStack = codes "local"
word_of form.Call = codes "call"
word_of form.Uncall = codes "uncall"

-- what the step does that begins a statement
abbrev pub begins : Form → List ℕ
begins form.Skip = codes " before "
begins form.Assign = codes " before "
begins form.AssignElement = codes " before "
begins form.Push = codes " before "
begins form.Pop = codes " before "
begins form.Swap = codes " before "
begins form.If = codes " test of "
begins form.Loop = codes " entry of "
begins form.LocalInt = codes " before "
begins form.LocalStack = codes " before "
begins form.Call = codes " before "
begins form.Uncall = codes " before "

-- what the step does behind a statement's second block: of a loop it is the test before the next turn
abbrev pub again : Form → List ℕ
again form.Skip = codes " exit of "
again form.Assign = codes " exit of "
again form.AssignElement = codes " exit of "
again form.Push = codes " exit of "
again form.Pop = codes " exit of "
again form.Swap = codes " exit of "
again form.If = codes " exit of "
again form.Loop = codes " again of "
again form.LocalInt = codes " exit of "
again form.LocalStack = codes " exit of "
again form.Call = codes " exit of "
again form.Uncall = codes " exit of "

abbrev pub leaves : Form → Branch → List ℕ
leaves f branch.First = codes " exit of "
leaves f branch.Second = again f

-- what the next step does, where code runs as it is written
abbrev pub onward_text : Part → List ℕ
onward_text Begin = codes " begin"
onward_text End = codes " end"
onward_text (Before f) = begins f ++ word_of f
onward_text (After f) = codes " behind " ++ word_of f
onward_text (Enters f b) = codes " into " ++ word_of f
onward_text (Leaves f b) = leaves f b ++ word_of f

-- the part that a step of the inverse is
abbrev pub turned : Part → Part
turned Begin = End
turned End = Begin
turned (Before f) = After f
turned (After f) = Before f
turned (Enters f b) = Leaves f b
turned (Leaves f b) = Enters f b

abbrev pub part_text : Bool → Part → List ℕ
part_text true part = onward_text (turned part)
part_text false part = onward_text part

-- in which procedure that is, and which way it runs
abbrev pub name_text : Option Name → List ℕ
name_text None = []
name_text (Some name) = codes " in " ++ name

abbrev pub way_text : Bool → List ℕ
way_text true = codes " inverse"
way_text false = []

-- where it stands in the file
abbrev pub place_text : Option Place → List ℕ
place_text None = []
place_text (Some p) = counted_text (codes " line ") p.line ++ counted_text (codes " column ") p.column

-- the line of the text on which that is
abbrev pub source_text : Option (List ℕ) → List ℕ
source_text None = []
source_text (Some line) = codes "  " ++ ended_line (trim line)

abbrev pub source_line : Source → Option Place → List ℕ
source_line s None = []
source_line s (Some p) = source_text (line_in p.line s.first_line (lines_of (string_bytes s.text)))

abbrev pub end_text : Source → Option Place → List ℕ
end_text s place = codes "\n" ++ source_line s place

abbrev pub code_text : Option Name → Bool → List ℕ
code_text name inverse = name_text name ++ way_text inverse

abbrev pub doing_text : Source → Option Name → Level → Spot → List ℕ
doing_text s name level spot = part_text level.inverse spot.part ++ (code_text name level.inverse ++ end_text s (place_in s spot.span))

-- the rest of the line of a step, and the line of the text; a cell that is none of the sources has no text
abbrev pub there_text : Option Source → Option Name → Level → Spot → List ℕ
there_text None name level spot = codes "\n"
there_text (Some s) name level spot = place_text (place_in s spot.span) ++ doing_text s name level spot

-- the number of the next step, what it does and where
abbrev pub step_text : {L : Type 0} → List Source → Walk L → Level → Spot → List ℕ
step_text sources w level spot =
    counted_text (codes "step ") (count_of (runner_of w)) ++ there_text (source_of sources level.node) (name_of w level) level spot

abbrev pub TellsStep : {L : Type 0} → List Source → Walk L → List ℕ → Type 0
TellsStep sources w out = (told : Level × Spot) × TellsStand w told × (out ≡ step_text sources w told.0 told.1)

-- ---- where a command has led

-- at a fault: its number, its name, and behind how many steps it is met
abbrev pub came_text : ℕ → Came → List ℕ
came_text n came.There = []
came_text n came.End = counted_line (codes "ended after ") n
came_text n came.Start = codes "at the start\n"
came_text n (came.Fault fault) =
    counted_text (codes "fault ") (number_of fault) ++ (named_text (fault_name_of fault) ++ counted_line (codes " after ") n)
came_text n came.Memory = no_memory

-- ---- the values that a step reads

-- whether a token is this name
abbrev pub is_name : Name → TokenKind → Bool
is_name x (kinds.Name s) = bytes_eq (string_bytes s) x
is_name x (kinds.Number n) = false
is_name x (kinds.Sign s) = false
is_name x (kinds.Keyword w) = false

abbrev pub stands_among : List Token → Name → Bool
stands_among ts x = list_any (λ t. is_name x t.kind) ts

-- the line of a name in a slot, if none hides it and it stands among tokens
abbrev pub read_line : Store → List Token → List Name → Name → ℕ → List ℕ
read_line s ts all x k =
    if same_name (slot_in all x) (slot k) && stands_among ts x then codes "  " ++ ended_line (value_text (x, value_or_lent (slice_get (listed s) k))) else []

-- those of the oldest names, the oldest first
abbrev pub reads_text : Store → List Token → List Name → List Name → List ℕ
reads_text s ts all [] = []
reads_text s ts all (x ∷ g) = reads_text s ts all g ++ read_line s ts all x (length g)

-- of the tokens of a part of a text; a part that has none reads nothing
abbrev pub TellsTokens : Store → List Name → Result (Vec Token) SyntaxFault → List ℕ → Type 0
TellsTokens s g (Ok tokens) out = out ≡ reads_text s tokens.items g g
TellsTokens s g (Err syntax.Memory) out = ⊥
TellsTokens s g (Err fault) out = out ≡ []

abbrev pub TellsPart : Store → List Name → Option (Bor (List ℕ)) → List ℕ → Type 0
TellsPart s g None out = out ≡ []
TellsPart s g (Some part) out = (lexed : Result (Vec Token) SyntaxFault) × IsLexed part.now lexed × TellsTokens s g lexed out

abbrev pub TellsSpan : Option Source → Option Span → Store → List Name → List ℕ → Type 0
TellsSpan None span s g out = out ≡ []
TellsSpan (Some source) None s g out = out ≡ []
TellsSpan (Some source) (Some span) s g out =
    (part : Option (Bor (List ℕ))) × GetsRange (string_bytes source.text) span.start span.end part × TellsPart s g part out

-- of the names in sight those that stand in the part of the text that the next step is, with their values
pub record TellsReads {L : Type 0} (sources : List Source) (w : Walk L) (out : List ℕ) : Type 0 where
  pub told : Level × Spot
  pub stands : TellsStand w told
  pub sight : Sight
  pub of : IsSightHere w sight
  pub is : (g : List Name) → AreInSight sight g → TellsSpan (source_of sources told.0.node) told.1.span (slots_in w) g out

-- behind the step at which a fault is met stand the values that it reads
abbrev pub TellsMore : {L : Type 0} → List Source → Came → Walk L → List ℕ → Type 0
TellsMore sources came.There w more = more ≡ []
TellsMore sources came.End w more = more ≡ []
TellsMore sources came.Start w more = more ≡ []
TellsMore sources (came.Fault fault) w more = TellsReads sources w more
TellsMore sources came.Memory w more = more ≡ []

pub record TellsCame {L : Type 0} (sources : List Source) (to : Came) (w : Walk L) (out : List ℕ) : Type 0 where
  pub step : List ℕ
  pub tells : TellsStep sources w step
  pub more : List ℕ
  pub reads : TellsMore sources to w more
  pub is : out ≡ came_text (count_of (runner_of w)) to ++ (step ++ more)

-- what is told before that of a search, which may end where it has found nothing
abbrev pub sought_text : Came → List ℕ
sought_text came.There = []
sought_text came.End = codes "not found\n"
sought_text came.Start = codes "not found\n"
sought_text (came.Fault fault) = codes "not found\n"
sought_text came.Memory = []

abbrev pub TellsSought : {L : Type 0} → List Source → Came → Walk L → List ℕ → Type 0
TellsSought sources to w out = (rest : List ℕ) × TellsCame sources to w rest × (out ≡ sought_text to ++ rest)

-- what is told before that of a watch that ended as the call was left
abbrev pub TellsLeft : {L : Type 0} → List Source → Walk L → List ℕ → Type 0
TellsLeft sources w out = (rest : List ℕ) × TellsCame sources came.There w rest × (out ≡ codes "call left\n" ++ rest)

-- ---- the names in sight

-- each with its value, the oldest first; a name that has none stands alone
pub record TellsNames {L : Type 0} (w : Walk L) (out : List ℕ) : Type 0 where
  pub sight : Sight
  pub of : IsSightHere w sight
  pub is : (g : List Name) → AreInSight sight g → out ≡ value_lines (listed (sighted (slots_in w) g))
  -- and these are the values of the meaning's store behind as many steps
  pub meant : Means w

-- ---- the open calls

-- how a call is called that stands there: by its word
abbrev pub called : Part → List ℕ
called Begin = codes "call"
called End = codes "call"
called (Before f) = word_of f
called (After f) = codes "call"
called (Enters f b) = codes "call"
called (Leaves f b) = codes "call"

abbrev pub called_text : Option Name → List ℕ
called_text None = []
called_text (Some name) = named_text name

-- that, and the name of its procedure
abbrev pub callee_text : Part → Option Name → List ℕ
callee_text part name = called part ++ called_text name

-- where the call stands in the file
abbrev pub from_text : Option Source → Option Span → List ℕ
from_text None span = []
from_text (Some s) span = place_text (place_in s span)

-- and which way the procedure runs
abbrev pub caller_text : Option Source → Option Span → Bool → List ℕ
caller_text s span inverse = from_text s span ++ (way_text inverse ++ codes "\n")

-- the line of the i-th open call, the outermost being 0
pub record TellsCall {L : Type 0} (sources : List Source) (w : Walk L) (i : ℕ) (out : List ℕ) : Type 0 where
  pub caller : Level
  pub stands : TellsLevel w i caller
  pub callee : Level
  pub runs : TellsLevel w (i + 1) callee
  pub spot : Spot
  pub there : IsSpotAt w caller spot
  pub is : out ≡ callee_text spot.part (name_of w callee) ++ caller_text (source_of sources caller.node) spot.span callee.inverse

-- those of the first n, the outermost first
abbrev pub TellsFirstCalls : {L : Type 0} → List Source → Walk L → ℕ → List ℕ → Type 0
TellsFirstCalls sources w zero out = out ≡ []
TellsFirstCalls sources w (suc n) out =
    (before : List ℕ) × (last : List ℕ) × TellsFirstCalls sources w n before × TellsCall sources w n last × (out ≡ before ++ last)

abbrev pub TellsSomeCalls : {L : Type 0} → List Source → Walk L → ℕ → List ℕ → Type 0
TellsSomeCalls sources w zero out = out ≡ codes "no calls\n"
TellsSomeCalls sources w (suc n) out = TellsFirstCalls sources w (suc n) out

abbrev pub TellsCalls : {L : Type 0} → List Source → Walk L → List ℕ → Type 0
TellsCalls sources w out = TellsSomeCalls sources w (calls_in w) out

-- ---- the lines around the next step

-- up to five lines before it and behind it
abbrev pub is_listed : ℕ → CentreLine → Bool
is_listed number here = nat_le (here.line - 5) number && nat_le number (min (here.line + 5) (2 ^ 64 - 1))

-- the line on which the next step stands has a mark
abbrev pub mark : ℕ → CentreLine → List ℕ
mark number here = if here.is_next && nat_eq number here.line then codes "> " else codes "  "

abbrev pub listed_line : ℕ → CentreLine → List ℕ → List ℕ
listed_line number here line = counted_text (mark number here) number ++ named_line line

abbrev pub listed_if : Bool → ℕ → CentreLine → List ℕ → List ℕ
listed_if true number here line = listed_line number here line
listed_if false number here line = []

abbrev pub line_listed : ℕ → CentreLine → List ℕ → List ℕ
line_listed number here line = listed_if (is_listed number here) number here line

-- those of a text whose first line has this number
abbrev pub lines_listed : CentreLine → ℕ → List (List ℕ) → List ℕ
lines_listed here number [] = []
lines_listed here number (line ∷ more) = line_listed number here line ++ lines_listed here (next number) more

-- where the next step has no place, they are the first ones
abbrev pub line_or : ℕ → Option Place → CentreLine
line_or n None = record { line = n; is_next = false }
line_or n (Some p) = record { line = p.line; is_next = true }

abbrev pub middle : Source → Option Span → CentreLine
middle s span = line_or s.first_line (place_in s span)

abbrev pub source_listed : Option Source → Option Span → List ℕ
source_listed None span = []
source_listed (Some s) span = lines_listed (middle s span) s.first_line (lines_of (string_bytes s.text))

abbrev pub TellsLines : {L : Type 0} → List Source → Walk L → List ℕ → Type 0
TellsLines sources w out = (told : Level × Spot) × TellsStand w told × (out ≡ source_listed (source_of sources told.0.node) told.1.span)

-- ---- all that is told

abbrev pub Tells : {L : Type 0} → List Source → Reply → Walk L → List ℕ → Type 0
Tells sources (reply.Came to) w out = TellsCame sources to w out
Tells sources (reply.Sought to) w out = TellsSought sources to w out
Tells sources (reply.Refused fault) w out = out ≡ refused_line fault
Tells sources reply.Unknown w out = out ≡ bad_command
Tells sources reply.NoMemory w out = out ≡ no_memory
Tells sources reply.NotInSight w out = out ≡ not_in_sight
Tells sources reply.CallLeft w out = TellsLeft sources w out
Tells sources reply.Names w out = TellsNames w out
Tells sources reply.Place w out = TellsStep sources w out
Tells sources reply.Calls w out = TellsCalls sources w out
Tells sources reply.Lines w out = TellsLines sources w out
Tells sources reply.Count w out = out ≡ counted_line (codes "steps ") (count_of (runner_of w))
Tells sources reply.Nothing w out = out ≡ []

-- that, or that there is no memory for it
abbrev pub Answers : {L : Type 0} → List Source → Reply → Walk L → List ℕ → Type 0
Answers sources reply w out = Tells sources reply w out ⊎ (out ≡ no_memory)
