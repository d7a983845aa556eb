-- Which command lines meet no fault, and which number of steps they give.
use Rattle.std.proofs.Common.{append-nil, drop, is_some, ◌≡◌, ◌⊎◌, ◌∙◌, ℕ, Bool, true, false, List, [], ◌∷◌, ◌++◌, Option, Some, None, inl, inr, refl, sym, ap}
use Rattle.std.proofs.Common.{ap₂, subst, arith, codes, ◌<◌}
use Rattle.std.specs.Prelude.{Err, Ok, Result, ◌^◌, if◌then◌else◌, fold, length, ◌==◌}
use Rattle.clap.specs.Faults.{check_fault, defaults_fault, entered_fault, fault_of, is_simple_and_free, settle_fault, turn_fault, use_fault, values_fault}
use Rattle.clap.specs.Faults.{walk_fault}
use Rattle.std.specs.Str.Parse.{IsNumeral, ParsesUnsigned, digits_value, without_leading_plus}
use Rattle.std.proofs.lemmas.Bool.{eqb-true, ne_eqb}
use Rattle.std.proofs.lemmas.Str.Parse.{digit_from_value}
use Rattle.std.specs.Str.{bytes_eq}
use Rattle.clap.specs.Kinds.{HasKind, Kinds, or_else, range_kinds}
use Rattle.clap.specs.Lexer.{long_of, short_of}
use Rattle.clap.specs.Simple.{App, HasMatchesOf, built, entered, matches_of}
use Rattle.clap.specs.Matches.{ReadsOne, found_of, one_text}
use Rattle.clap.specs.declared.error.Error.{Error}
use Rattle.clap.specs.declared.parser.matches.ArgMatches.{ArgMatches}
use Rattle.clap.proofs.OnLiterals.{clap_on_literals}
use Rattle.clap.proofs.WalkLemmas.{one_text-rows}
use Rattle.cells_program.specs.Ending.{AsksForHelp}
use Rattle.clap.specs.Values.{IsUnsignedIn, kind_of}
use Rattle.clap.specs.ValueTests.{accepts}
use Rattle.clap.specs.declared.builder.value_parser.ValueParser.TheVariants as vp
use Rattle.clap.proofs.ValueTestLemmas.{accepts-Accepts, Accepts-accepts}
use Rattle.clap.specs.Walk.{Held, Row, Text, Walk, finished, one_of, settled, walked}
use Rattle.clap.specs.declared.parser.matches.ValueSource.TheVariants.{CommandLine}
use Rattle.clap.specs.declared.builder.value_parser.Reading.TheVariants as reading
use Rattle.clap.specs.declared.error.kind.ErrorKind.TheVariants as kind
use Rattle.cells_program.specs.CommandLine as line
use Rattle.cells_program.specs.CommandLine.{Chooses, IsSteps, Runs, Writes, default_steps}
use Rattle.cells_program.proofs.CommandWords.{Passes, at, behind_end, closes, default_text, fills, given, held, joins, opens, or_else_first, or_else_second}
use Rattle.cells_program.proofs.CommandWords.{passes, program, rules, top}

-- ---- words that meet no fault

abbrev end_of : Walk → List Text → Walk
end_of w words = fold (walked rules []) w words

-- no word on the way meets a fault, and the option has got its value at the end
abbrev IsFaultFree : Walk → List Text → Type 0
IsFaultFree w words = (walk_fault top [] w words ≡ []) × (settle_fault rules false (end_of w words).held ≡ [])

next : (w : Walk) (word : Text) (rest : List Text) → IsFaultFree w (word ∷ rest) → (turn_fault top [] w word ≡ []) × IsFaultFree (walked rules [] w word) rest
unfolding walk_fault
next w word rest f = (
  or_else_first (turn_fault top [] w word) (walk_fault top [] (walked rules [] w word) rest) f.0,
  (or_else_second (turn_fault top [] w word) (walk_fault top [] (walked rules [] w word) rest) f.0, f.1),
)

nothing_behind : (h : Held) (some : Bool) (rest : List Text) → IsFaultFree (at h some true) rest → rest ≡ []
nothing_behind h some [] f = refl
nothing_behind h some (word ∷ rest) f = absurd (behind_end h some word rest f.0)

-- the option as it was given
abbrev row : Text → Row
row v = record { id = codes "steps"; values = v ∷ []; count = None; source = Some CommandLine; reading = reading.AsWritten }

abbrev open_with : List Text → Option (Text × List Text)
open_with values = Some (codes "steps", values)

-- ---- the option given twice

twice : (v : Text) (values : List Text) → settle_fault rules false (held (row v ∷ []) (open_with values)) ≡ [] → ⊥
twice v values e =
    let again : kind.ArgumentConflict ∷ [] ≡ [] = or_else_second (range_kinds 1 1 (length values)) (kind.ArgumentConflict ∷ []) e in
    cc

twice_by : (v : Text) (values : List Text) (word : Text) (some : Bool) (rest : List Text) (w : Walk) → Passes (row v ∷ []) (open_with values) word some w →
    IsFaultFree w rest
    → ((us : List Text) (b : Bool) → IsFaultFree (at (held (row v ∷ []) (open_with us)) b false) rest → ⊥) → ⊥
twice_by v values word some rest w (closes e) f later =
    let h = held (row v ∷ []) (open_with values) in
    twice v values (subst (λ words. settle_fault rules false (end_of (at h some true) words).held ≡ []) (nothing_behind h some rest f) f.1)
twice_by v values word some rest w (joins {v = u} e react) f later =
    let h = held (row v ∷ []) (open_with values) in
    twice v values (or_else_first (settle_fault rules false h) (use_fault false given (u ∷ []) (settled rules h).rows) react)
twice_by v values word some rest w (opens e settle) f later = twice v values settle
twice_by v values word some rest w (fills e) f later = later (values ++ word ∷ []) _ f

never_twice : (v : Text) (values : List Text) (some : Bool) (words : List Text) → IsFaultFree (at (held (row v ∷ []) (open_with values)) some false) words → ⊥
never_twice v values some [] f = twice v values f.1
never_twice v values some (word ∷ rest) f =
    let n = next (at (held (row v ∷ []) (open_with values)) some false) word rest f in
    twice_by v values word some rest _ (passes (row v ∷ []) (open_with values) word some n.0) n.1 (λ us b g. never_twice v us b rest g)

-- ---- behind the option

abbrev IsClosed : List Text → Type 0
IsClosed words = (words ≡ []) ⊎ (words ≡ codes "--" ∷ [])

joined_by : (v word : Text) (rest : List Text) (w : Walk) → Passes (row v ∷ []) None word false w → IsFaultFree w rest → IsClosed (word ∷ rest) ×
    ((end_of w rest).held ≡ held (row v ∷ []) None)
joined_by v word rest w (closes e) f =
    let h = held (row v ∷ []) None in
    let none = nothing_behind h false rest f in
    (inr (ap₂ (λ x xs. x ∷ xs) e none), subst (λ words. (end_of (at h false true) words).held ≡ h) (sym none) refl)
joined_by v word rest w (joins {v = u} e react) f = let again : kind.ArgumentConflict ∷ [] ≡ [] = react in cc
joined_by v word rest w (opens e settle) f = absurd (never_twice v [] true rest f)
joined_by v word rest w (fills e) f = cc

after_joined : (v : Text) (words : List Text) → IsFaultFree (at (held (row v ∷ []) None) false false) words → IsClosed words ×
    ((end_of (at (held (row v ∷ []) None) false false) words).held ≡ held (row v ∷ []) None)
after_joined v [] f = (inl refl, refl)
after_joined v (word ∷ rest) f =
    let n = next (at (held (row v ∷ []) None) false false) word rest f in
    joined_by v word rest _ (passes (row v ∷ []) None word false n.0) n.1

-- the value of the option is one that its range lets through
abbrev IsAccepted : Text → Type 0
IsAccepted t = values_fault given (t ∷ []) ≡ []

filled_by : (t word : Text) (rest : List Text) (w : Walk) → Passes [] (open_with (t ∷ [])) word false w → IsFaultFree w rest
    → IsClosed (word ∷ rest) × IsAccepted t × ((end_of w rest).held ≡ held [] (open_with (t ∷ [])))
filled_by t word rest w (closes e) f =
    let h = held [] (open_with (t ∷ [])) in
    let none = nothing_behind h false rest f in (
      inr (ap₂ (λ x xs. x ∷ xs) e none),
      subst (λ words. settle_fault rules false (end_of (at h false true) words).held ≡ []) none f.1,
      subst (λ words. (end_of (at h false true) words).held ≡ h) (sym none) refl,
    )
filled_by t word rest w (joins {v = u} e react) f =
    let h = held [] (open_with (t ∷ [])) in
    let again : kind.ArgumentConflict ∷ [] ≡ [] = or_else_second (settle_fault rules false h) (use_fault false given (u ∷ []) (settled rules h).rows) react in
    cc
filled_by t word rest w (opens e settle) f = absurd (never_twice t [] true rest f)
filled_by t word rest w (fills e) f = cc

after_filled : (t : Text) (words : List Text) → IsFaultFree (at (held [] (open_with (t ∷ []))) false false) words
    → IsClosed words × IsAccepted t × ((end_of (at (held [] (open_with (t ∷ []))) false false) words).held ≡ held [] (open_with (t ∷ [])))
after_filled t [] f = (inl refl, f.1, refl)
after_filled t (word ∷ rest) f =
    let n = next (at (held [] (open_with (t ∷ []))) false false) word rest f in
    filled_by t word rest _ (passes [] (open_with (t ∷ [])) word false n.0) n.1

abbrev IsFilled : List Text → Walk → Type 0
IsFilled words w =
    (t : Text) × ((rest : List Text) × (words ≡ t ∷ rest) × IsClosed rest) × IsAccepted t × (w.held ≡ held [] (open_with (t ∷ [])))

opened_by : (word : Text) (rest : List Text) (w : Walk) → Passes [] (open_with []) word true w → IsFaultFree w rest → IsFilled (word ∷ rest) (end_of w rest)
opened_by word rest w (closes e) f =
    let h = held [] (open_with []) in
    let none : kind.InvalidValue ∷ [] ≡ [] = subst (λ words. settle_fault rules false (end_of (at h true true) words).held ≡ []) (nothing_behind h true rest f)
    f.1 in
    cc
opened_by word rest w (joins e react) f = let none : kind.InvalidValue ∷ [] ≡ [] = react in cc
opened_by word rest w (opens e settle) f = let none : kind.InvalidValue ∷ [] ≡ [] = settle in cc
opened_by word rest w (fills e) f = let a = after_filled word rest f in (word, (rest, refl, a.0), a.1, a.2)

after_opened : (words : List Text) → IsFaultFree (at (held [] (open_with [])) true false) words →
    IsFilled words (end_of (at (held [] (open_with [])) true false) words)
after_opened [] f = let none : kind.InvalidValue ∷ [] ≡ [] = f.1 in cc
after_opened (word ∷ rest) f =
    let n = next (at (held [] (open_with [])) true false) word rest f in
    opened_by word rest _ (passes [] (open_with []) word true n.0) n.1

-- ---- all words behind the name

-- the words of the option, with the text of its value
pub data Worded : List Text → Text → Type 0 where
  by_default : Worded [] default_text
  apart : {t : Text} → Worded (codes "--steps" ∷ t ∷ []) t
  joined : {t : Text} → Worded ((codes "--steps=" ++ t) ∷ []) t

-- the words are those of the option, and perhaps `--`; it has this value at the end
abbrev Gives : List Text → Walk → Type 0
Gives words w =
    (t : Text) × (option : List Text) × Worded option t × ((words ≡ option) ⊎ (words ≡ option ++ codes "--" ∷ [])) × IsAccepted t
    × (one_of (codes "steps") (finished rules w.held) ≡ Some t)

closed_with : (front rest : List Text) → IsClosed rest → (front ++ rest ≡ front) ⊎ (front ++ rest ≡ front ++ codes "--" ∷ [])
closed_with front rest (inl e) = inl (ap (λ ws. front ++ ws) e ∙ append-nil front)
closed_with front rest (inr e) = inr (ap (λ ws. front ++ ws) e)

start_by : (word : Text) (rest : List Text) (w : Walk) → Passes [] None word false w → IsFaultFree w rest → Gives (word ∷ rest) (end_of w rest)
start_by word rest w (closes e) f =
    let h = held [] None in
    let none = nothing_behind h false rest f in (
      default_text,
      [],
      by_default,
      inr (ap₂ (λ x xs. x ∷ xs) e none),
      refl,
      subst (λ words. one_of (codes "steps") (finished rules (end_of (at h false true) words).held) ≡ Some default_text) (sym none) refl,
    )
start_by word rest w (joins {v = v} e react) f =
    let a = after_joined v rest f in (
      v,
      (codes "--steps=" ++ v) ∷ [],
      joined,
      elim (closed_with (word ∷ []) rest a.0) [
        | inl c ↦ inl (c ∙ ap (λ x. x ∷ []) e)
        | inr c ↦ inr (c ∙ ap (λ x. x ∷ codes "--" ∷ []) e)
      ],
      react,
      subst (λ h. one_of (codes "steps") (finished rules h) ≡ Some v) (sym a.1) refl,
    )
start_by word rest w (opens e settle) f =
    let a = after_opened rest f in
    let t = a.0 in (
      t,
      codes "--steps" ∷ t ∷ [],
      apart,
      elim (closed_with (word ∷ t ∷ []) a.1.0 a.1.2) [
        | inl c ↦ inl (ap (λ ws. word ∷ ws) a.1.1 ∙ c ∙ ap (λ x. x ∷ t ∷ []) e)
        | inr c ↦ inr (ap (λ ws. word ∷ ws) a.1.1 ∙ c ∙ ap (λ x. x ∷ t ∷ codes "--" ∷ []) e)
      ],
      a.2,
      subst (λ h. one_of (codes "steps") (finished rules h) ≡ Some t) (sym a.3) refl,
    )
start_by word rest w (fills e) f = cc

start : (words : List Text) → IsFaultFree (at (held [] None) false false) words → Gives words (end_of (at (held [] None) false false) words)
start [] f = (default_text, [], by_default, inl refl, refl, refl)
start (word ∷ rest) f =
    let n = next (at (held [] None) false false) word rest f in
    start_by word rest _ (passes [] None word false n.0) n.1

-- ---- the whole command line

fault_free : (words : List Text) → fault_of program words ≡ [] → IsFaultFree (at (held [] None) false false) (drop 1 words)
fault_free words e =
    let w = at (held [] None) false false in
    let ws = drop 1 words in
    let below = entered_fault (built program) (end_of w ws).stopped in
    let last = or_else (defaults_fault (settled rules (end_of w ws).held).rows rules)
    (check_fault top (finished rules (end_of w ws).held) (is_some (entered (built program) (end_of w ws).stopped))) in
    let settle = settle_fault rules false (end_of w ws).held in (
      or_else_first (walk_fault top [] w ws) (or_else below (or_else settle last)) e,
      or_else_first settle last (or_else_second below (or_else settle last) (or_else_second (walk_fault top [] w ws) (or_else below (or_else settle last)) e)),
    )

abbrev number_of : Text → ℕ
number_of t = digits_value 10 (without_leading_plus t)

accepted : (t : Text) → IsAccepted t → IsUnsignedIn 1 1000000000000 t
accepted t e = accepts-Accepts false (vp.Unsigned 1 1000000000000) t (go (accepts false (vp.Unsigned 1 1000000000000) t) refl e)
  where
    go : (b : Bool) → accepts false (vp.Unsigned 1 1000000000000) t ≡ b → or_else (if b then [] else kind.ValueValidation ∷ []) [] ≡ [] →
        accepts false (vp.Unsigned 1 1000000000000) t ≡ true
    go true is h = is
    go false is h = cc

-- what the words give: a number in its range, and its text is what is read
abbrev Read : List Text → Type 0
Read words = (n : ℕ) × (t : Text) × Runs words n × IsSteps n × Writes t n × (one_of (codes "steps") (matches_of program words) ≡ Some t)

chooses : (option : List Text) (t : Text) → Worded option t → IsUnsignedIn 1 1000000000000 t → Chooses option (number_of t)
chooses option t by_default u = line.by_default
chooses option t apart u = line.in_two_words (u.0, refl) (u.2, u.3)
chooses option t joined u = line.in_one_word (u.0, refl) (u.2, u.3)

-- words that meet no fault
reads : (words : List Text) → fault_of program words ≡ [] → Read words
reads [] e = let u = accepted default_text refl in (default_steps, default_text, line.without_name, (u.2, u.3), (u.0, refl), refl)
reads (name ∷ ws) e =
    let g = start ws (fault_free (name ∷ ws) e) in
    let t = g.0 in
    let u = accepted t g.4 in
    let runs : Runs (name ∷ ws) (number_of t) = elim g.3 [
      | inl is ↦ subst (λ xs. Runs (name ∷ xs) (number_of t)) (sym is) (line.with_option (chooses g.1 t g.2 u))
      | inr is ↦ subst (λ xs. Runs (name ∷ xs) (number_of t)) (sym is) (line.with_end (chooses g.1 t g.2 u))
    ] in
    (number_of t, t, runs, (u.2, u.3), (u.0, refl), g.5)

-- ---- words that are taken

accepts_steps : (t : Text) (n : ℕ) → Writes t n → IsSteps n → accepts false (vp.Unsigned 1 1000000000000) t ≡ true
accepts_steps t n w s =
    let e = w.1 in
    Accepts-accepts false (vp.Unsigned 1 1000000000000) t (w.0, omega arith, omega arith, omega arith)

-- a number doesn't begin with a hyphen
digits_first : (t : Text) → IsNumeral 10 (without_leading_plus t) → (x : ℕ) × (xs : Text) × (t ≡ x ∷ xs) × ((x == 45) ≡ false)
digits_first [] w = absurd (let lt : 0 < 0 = w.0 in omega arith)
digits_first (x ∷ xs) w = (x, xs, refl, go (x == 43) refl w)
  where
    go : (b : Bool) → (x == 43) ≡ b → IsNumeral 10 (drop (if b then 1 else 0) (x ∷ xs)) → (x == 45) ≡ false
    go true e w = let is : x ≡ 43 = eqb-true x 43 e in ne_eqb x 45 (λ f. omega arith)
    go false e w = let d = digit_from_value x w.1.0 in ne_eqb x 45 (λ f. omega (arith, d, f))

-- such a text is no flag
is_no_flag : (x : ℕ) (xs : Text) → (x == 45) ≡ false → (bytes_eq (x ∷ xs) (codes "--") ≡ false) × (long_of (x ∷ xs) ≡ None) × (short_of (x ∷ xs) ≡ None)
is_no_flag x xs e = (rw e, rw e, rw e)

-- the faults that come behind the walk over the words
abbrev end_fault : Walk → Kinds
end_fault w =
    or_else (entered_fault (built program) w.stopped)
    (or_else (settle_fault rules false w.held)
    (or_else (defaults_fault (settled rules w.held).rows rules)
    (check_fault top (finished rules w.held) (is_some (entered (built program) w.stopped)))))

-- one more word in front
abbrev Walks : List Text → Walk → Walk → Type 0
Walks words w end = (walk_fault top [] w words ≡ []) × (end_of w words ≡ end)

walks_none : (w : Walk) → Walks [] w w
unfolding walk_fault
walks_none w = (refl, refl)

walks_more : (word : Text) (rest : List Text) (w mid end : Walk) → turn_fault top [] w word ≡ [] → walked rules [] w word ≡ mid → Walks rest mid end →
    Walks (word ∷ rest) w end
unfolding walk_fault
walks_more word rest w mid end turn is f = (
  ap₂ or_else turn (ap (λ v. walk_fault top [] v rest) is ∙ f.0),
  ap (λ v. end_of v rest) is ∙ f.1,
)

runs_fine : (name : Text) (ws : List Text) (end : Walk) → Walks ws (at (held [] None) false false) end → end_fault end ≡ [] → fault_of program (name ∷ ws) ≡ []
runs_fine name ws end f fine = ap₂ or_else f.0 (ap end_fault f.1 ∙ fine)

-- `--` at the end
walks_closed : (h : Held) → Walks (codes "--" ∷ []) (at h false false) (at h false true)
unfolding walked
walks_closed h = walks_more (codes "--") [] (at h false false) (at h false true) (at h false true) refl refl (walks_none (at h false true))

default_ends : (behind : Bool) → end_fault (at (held [] None) false behind) ≡ []
unfolding defaults_fault
default_ends behind = refl

abbrev Takes : Text → Type 0
Takes t = accepts false (vp.Unsigned 1 1000000000000) t ≡ true

taken_value : (t : Text) → Takes t → IsAccepted t
taken_value t a = rw a

apart_ends : (t : Text) (behind : Bool) → Takes t → end_fault (at (held [] (open_with (t ∷ []))) false behind) ≡ []
unfolding defaults_fault
apart_ends t behind a = rw a

joined_ends : (t : Text) (behind : Bool) → end_fault (at (held (row t ∷ []) None) false behind) ≡ []
unfolding defaults_fault
joined_ends t behind = refl

walks_option : Walks (codes "--steps" ∷ []) (at (held [] None) false false) (at (held [] (open_with [])) true false)
unfolding walked
walks_option = walks_more (codes "--steps") [] (at (held [] None) false false) (at (held [] (open_with [])) true false) (at (held [] (open_with [])) true false)
    refl refl (walks_none (at (held [] (open_with [])) true false))

value_met : (t : Text) → bytes_eq t (codes "--") ≡ false → long_of t ≡ None → short_of t ≡ None
    → (turn_fault top [] (at (held [] (open_with [])) true false) t ≡ []) ×
    (walked rules [] (at (held [] (open_with [])) true false) t ≡ at (held [] (open_with (t ∷ []))) false false)
unfolding walked
value_met t b l s = (rw (b, l, s), rw (b, l, s))

joined_met : (t : Text) → Takes t
    → (turn_fault top [] (at (held [] None) false false) (codes "--steps=" ++ t) ≡ []) ×
    (walked rules [] (at (held [] None) false false) (codes "--steps=" ++ t) ≡ at (held (row t ∷ []) None) false false)
unfolding walked
joined_met t a = (rw a, refl)

walks_then : (first second : List Text) (w mid end : Walk) → Walks first w mid → Walks second mid end → Walks (first ++ second) w end
unfolding walk_fault
walks_then [] second w mid end f g = subst (λ v. Walks second v end) (sym f.1) g
walks_then (word ∷ rest) second w mid end f g =
    let turn = or_else_first (turn_fault top [] w word) (walk_fault top [] (walked rules [] w word) rest) f.0 in
    let later = or_else_second (turn_fault top [] w word) (walk_fault top [] (walked rules [] w word) rest) f.0 in
    walks_more word (rest ++ second) w (walked rules [] w word) end turn refl (walks_then rest second (walked rules [] w word) mid end (later, f.1) g)

-- the words of the option lead where nothing waits for a value, and `--` may follow
chosen_walks : (option : List Text) (n : ℕ) → Chooses option n
    → (h : Held) × Walks option (at (held [] None) false false) (at h false false) × ((behind : Bool) → end_fault (at h false behind) ≡ [])
chosen_walks option n line.by_default = (held [] None, walks_none (at (held [] None) false false), default_ends)
chosen_walks option n (line.in_two_words {text = t} w s) =
    let d = digits_first t w.0 in
    let flag = is_no_flag d.0 d.1 d.3 in
    let met = subst
    (λ u. (turn_fault top [] (at (held [] (open_with [])) true false) u ≡ []) ×
    (walked rules [] (at (held [] (open_with [])) true false) u ≡ at (held [] (open_with (u ∷ []))) false false)) (sym d.2)
    (value_met (d.0 ∷ d.1) flag.0 flag.1 flag.2) in
    let h = held [] (open_with (t ∷ [])) in (
      h,
      walks_then (codes "--steps" ∷ []) (t ∷ []) (at (held [] None) false false) (at (held [] (open_with [])) true false) (at h false false) walks_option
          (walks_more t [] (at (held [] (open_with [])) true false) (at h false false) (at h false false) met.0 met.1 (walks_none (at h false false))),
      λ behind. apart_ends t behind (accepts_steps t n w s),
    )
chosen_walks option n (line.in_one_word {text = t} w s) =
    let met = joined_met t (accepts_steps t n w s) in
    let h = held (row t ∷ []) None in (
      h,
      walks_more (codes "--steps=" ++ t) [] (at (held [] None) false false) (at h false false) (at h false false) met.0 met.1 (walks_none (at h false false)),
      joined_ends t,
    )

none_fine : fault_of program [] ≡ []
unfolding walk_fault defaults_fault
none_fine = refl

-- words that run meet no fault
fine : (words : List Text) (n : ℕ) → Runs words n → fault_of program words ≡ []
fine words n line.without_name = none_fine
fine words n (line.with_option {name = name} {option = option} c) =
    let g = chosen_walks option n c in
    runs_fine name option (at g.0 false false) g.1 (g.2 false)
fine words n (line.with_end {name = name} {option = option} c) =
    let g = chosen_walks option n c in
    runs_fine name (option ++ codes "--" ∷ []) (at g.0 false true)
    (walks_then option (codes "--" ∷ []) (at (held [] None) false false) (at g.0 false false) (at g.0 false true) g.1 (walks_closed g.0)) (g.2 true)

-- ---- what a parse answers

is_simple : is_simple_and_free program ≡ true
unfolding clap_on_literals
is_simple = refl

-- what the parse of any command tells where it is simple, it tells of the program's
of_program : (a : App) (P : App → Type 0) → a ≡ program → (is_simple_and_free a ≡ true → P a) → P program
of_program a P is h = subst P is (h (ap is_simple_and_free is ∙ is_simple))

number_read : (E : Type 0) (G : List ℕ → Result ℕ E → Type 0) (t : Text) (n : ℕ) (r : Option ℕ) →
    ((u : List ℕ) (x : Result ℕ E) → G u x → ParsesUnsigned 64 10 u x)
    → ReadsOne G t r → Writes t n → IsSteps n → r ≡ Some n
number_read E G t n (Some v) only h w s = let p = only t (Ok v) h in ap (λ k. Some k) (p.1 ∙ sym w.1)
number_read E G t n None only h w s =
    let e = w.1 in
    let lt : digits_value 10 (without_leading_plus t) < 2 ^ 64 = omega arith in
    absurd (only t (Err h.0) h.1 (w.0, lt))

-- a number was read, with which the words run
abbrev pub IsGiven : List Text → Option ℕ → Type 0
IsGiven words None = ⊥
IsGiven words (Some n) = Runs words n × IsSteps n

pub given_number : (words : List Text) (r : Option ℕ) (n : ℕ) → IsGiven words r → r ≡ Some n → Runs words n × IsSteps n
given_number words r n h is = subst (IsGiven words) is h

pub never_none : (words : List Text) (r : Option ℕ) → IsGiven words r → r ≡ None → ⊥
never_none words r h is = subst (IsGiven words) is h

-- what is read of words that are served
pub steps_given : (E : Type 0) (G : List ℕ → Result ℕ E → Type 0) (a : App) (m : ArgMatches) (words : List Text) (r : Option ℕ) →
    ((u : List ℕ) (x : Result ℕ E) → G u x → ParsesUnsigned 64 10 u x)
    → a ≡ program → (is_simple_and_free a ≡ true → fault_of a words ≡ []) → HasMatchesOf a words m
    → ((t : Text) → one_text (found_of m) (codes "steps") ≡ Some t → ReadsOne G t r)
    → IsGiven words r
steps_given E G a m words r only is none matches read =
    let given = reads words (of_program a (λ b. fault_of b words ≡ []) is none) in
    let rows = subst (λ b. HasMatchesOf b words m) is matches refl in
    let text : one_text (found_of m) (codes "steps") ≡ Some given.1 = one_text-rows (found_of m) (codes "steps") ∙ ap (one_of (codes "steps")) rows.0
    ∙ given.5 in
    subst (IsGiven words) (sym (number_read E G given.1 given.0 r only (read given.1 text) given.4 given.3)) (given.2, given.3)

-- words that run are refused for want of memory alone
pub refused_memory : (a : App) (words : List Text) (error : Error) → a ≡ program → (is_simple_and_free a ≡ true → HasKind (fault_of a words) error) → (n : ℕ) →
    Runs words n → kind_of error ≡ kind.OutOfMemory
refused_memory a words error is fails n runs =
    elim (subst (λ kinds. HasKind kinds error) (fine words n runs) (of_program a (λ b. HasKind (fault_of b words) error) is fails)) [
      | inl memory ↦ memory
      | inr other ↦ absurd other
    ]

asked : (name : Text) → fault_of program (name ∷ codes "--help" ∷ []) ≡ kind.DisplayHelp ∷ []
unfolding clap_on_literals
asked name = refl

help_asked : (words : List Text) → AsksForHelp words → fault_of program words ≡ kind.DisplayHelp ∷ []
help_asked words asks = ap (fault_of program) asks.1 ∙ asked asks.0

-- words that ask for help are refused with it
pub refused_help : (a : App) (words : List Text) (error : Error) → a ≡ program → (is_simple_and_free a ≡ true → HasKind (fault_of a words) error) →
    AsksForHelp words → (kind_of error ≡ kind.OutOfMemory) ⊎ (kind_of error ≡ kind.DisplayHelp)
refused_help a words error is fails asks =
    elim (subst (λ kinds. HasKind kinds error) (help_asked words asks) (of_program a (λ b. HasKind (fault_of b words) error) is fails)) [
      | inl memory ↦ inl memory
      | inr among ↦ elim among [ inl help ↦ inr help | inr other ↦ absurd other ]
    ]

pub never_served : (a : App) (words : List Text) → a ≡ program → (is_simple_and_free a ≡ true → fault_of a words ≡ []) → AsksForHelp words → ⊥
never_served a words is none asks =
    let same : kind.DisplayHelp ∷ [] ≡ [] = sym (help_asked words asks) ∙ of_program a (λ b. fault_of b words ≡ []) is none in
    cc
