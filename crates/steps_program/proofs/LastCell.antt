-- The cell whose number is that of all cells is the last one.
use Rattle.std.proofs.Common.{◌≡◌, ◌∙◌, ℕ, ◌+◌, ◌-◌, ◌<◌, ◌≤◌, ◌^◌, not, ◌&&◌, Bool, true, false, List, [], ◌∷◌, ◌++◌, fold, refl, ap, sym, arith, inl, inr}
use Rattle.std.specs.Prelude.{All, if◌then◌else◌, ◌||◌, ◌==◌, nat_eq}
use Rattle.std.proofs.Math.Bool.{and-true}
use Rattle.std.proofs.Math.Nat.{min-eq_left, min-le_right, le-min}
use Rattle.std.proofs.lemmas.Bool.{eqb-true}
use Rattle.std.proofs.lemmas.List.Elements.{All-cons, All-nil}
use Rattle.std.proofs.lemmas.List.Folds.{list_all-append}
use Rattle.std.proofs.lemmas.List.Sums.{fold-append}
use Rattle.kernel_core.specs.Runs.{Machine}
use Rattle.cells_program.specs.Command.{command_of}
use Rattle.cells_program.specs.Lines.{ended_line, is_blank, is_command_line, is_trimmed, trimmed}
use Rattle.steps_program.specs.declared.source.Counted.{Counted}
use Rattle.steps_program.specs.Before.{Stage, RunsIf, LeadsIf, Leads, Unled, LedOn, begun_behind, cells_in, counted_on, counted_with, none_counted}
use Rattle.steps_program.specs.Before.{number_of, runs_before, IsTextEnd}
use Rattle.steps_program.specs.Places.{next}
use Rattle.steps_program.specs.Numbered.{IsQuietLine, LastCellIsLast}
use Rattle.steps_program.proofs.Leading.{both}

-- ---- cells are counted as they are numbered

abbrev is_white : ℕ → Bool
is_white c = is_trimmed c || (c == 10)

blank_line : (text line : List ℕ) → is_blank (text ++ ended_line line) ≡ (is_blank text && is_blank line)
blank_line text line =
    list_all-append is_white text (ended_line line)
    ∙ ap (λ b. is_blank text && b) (list_all-append is_white line (10 ∷ []) ∙ and-true (is_blank line))

-- what is counted where so many texts were taken, and the one that is gathered is blank or not
abbrev counted_at : Bool → ℕ → Counted
counted_at blank k = record { number = counted_on blank k; has_text = not blank }

abbrev counted_in : Stage → Counted
counted_in s = counted_at (is_blank s.gathered) s.number

line_by : (text line : Bool) (k : ℕ) →
    (if line then counted_at text k else if not text then counted_at text k else record { number = next (counted_on text k); has_text = true })
    ≡ counted_at (text && line) k
line_by true true k = refl
line_by true false k = refl
line_by false true k = refl
line_by false false k = refl

module _ (s : Stage) (line : List ℕ) where
  abbrev more : Counted
  more = if is_blank line then counted_in s else if not (is_blank s.gathered) then counted_in s else record { number = next (number_of s); has_text = true }

  abbrev behind : Counted
  behind = record { number = number_of s; has_text = false }

  behind_command : (mid : Stage) (machine : Machine) → mid.gathered ≡ [] → mid.number ≡ number_of s → behind ≡ counted_in (begun_behind (record mid { machine = machine }))
  behind_command mid machine none number =
      ap (λ k. counted_at true k) (sym number) ∙ ap (λ (text : List ℕ). counted_at (is_blank text) mid.number) (sym none)

  by_runs : (b : Bool) (mid : Stage) (first : List ℕ) (machine : Machine) → RunsIf b s mid first → behind ≡ counted_in (begun_behind (record mid { machine = machine }))
  by_runs true mid first machine h = behind_command mid machine (ap (λ (x : Stage). x.gathered) h.left) (ap (λ (x : Stage). x.number) h.left)
  by_runs false mid first machine h = behind_command mid machine (ap (λ (x : Stage). x.gathered) h.0) (ap (λ (x : Stage). x.number) h.0)

  one_line : (b : Bool) → is_command_line line ≡ b → (new : Stage) (out : List ℕ) → LeadsIf b line s new out → counted_with (counted_in s) line ≡ counted_in new
  one_line false e new out h =
      ap (λ b. if b then behind else more) e ∙ line_by (is_blank s.gathered) (is_blank line) s.number
      ∙ ap (λ b. counted_at b s.number) (sym (blank_line s.gathered line)) ∙ ap counted_in (sym h.0)
  one_line true e new out h =
      ap (λ b. if b then behind else more) e ∙ by_runs (runs_before (command_of (trimmed line)) (is_blank s.gathered)) h.mid h.first h.machine h.runs
      ∙ ap counted_in (sym h.left)

counted : (n : ℕ) (machine : Machine) (lines : List (List ℕ)) (s : Stage) (out : List ℕ) → Leads n machine lines s out →
    fold counted_with none_counted lines ≡ counted_in s
counted n machine all s out Unled = refl
counted n machine all s out (LedOn lines line mid new before after leads other on) =
    fold-append counted_with none_counted lines (line ∷ []) ∙ ap (λ (c : Counted). counted_with c line) (counted n machine lines mid before leads)
    ∙ one_line mid line (is_command_line line) refl new after on

-- ---- where no more is counted

abbrev most : ℕ
most = 2 ^ 64 - 1

-- what is counted with a line, by what that is
abbrev counted_by : (command blank text : Bool) → Counted → Counted
counted_by command blank text c =
    if command then record { number = c.number; has_text = false }
    else if blank then c
    else if text then c
    else record { number = next c.number; has_text = true }

counted_by_grows : (command blank text : Bool) (c : Counted) → c.number ≤ most → (c.number ≤ (counted_by command blank text c).number) × ((counted_by command blank text c).number ≤ most)
counted_by_grows true blank text c low = (omega arith, low)
counted_by_grows false true text c low = (omega arith, low)
counted_by_grows false false true c low = (omega arith, low)
counted_by_grows false false false c low = (le-min {k = c.number} {a = c.number + 1} {b = most} (omega arith) low, min-le_right (c.number + 1) most)

grows : (ls : List (List ℕ)) (c : Counted) → c.number ≤ most → c.number ≤ (fold counted_with c ls).number
grows [] c low = omega arith
grows (line ∷ ls) c low =
    let one = counted_by_grows (is_command_line line) (is_blank line) c.has_text c low in
    let rest = grows ls (counted_with c line) one.1 in
    let first = one.0 in
    omega (arith, first, rest)

-- so it is of what is left
abbrev IsQuietBehind : List (List ℕ) → Type 0
IsQuietBehind ls = (c : Counted) → c.has_text ≡ false → c.number < most → (fold counted_with c ls).number ≡ c.number → All IsQuietLine ls

module _ (line : List ℕ) (ls : List (List ℕ)) (rest : IsQuietBehind ls) (c : Counted) (none : c.has_text ≡ false) (low : c.number < most)
    (same : (fold counted_with c (line ∷ ls)).number ≡ c.number) where
  quiet_by : (command blank : Bool) → is_command_line line ≡ command → is_blank line ≡ blank → All IsQuietLine (line ∷ ls)
  quiet_by true blank e f =
      let is : counted_with c line ≡ record { number = c.number; has_text = false } = ap (λ b. counted_by b (is_blank line) c.has_text c) e in
      All-cons IsQuietLine line ls (inl e)
      (rest (record { number = c.number; has_text = false }) refl low (ap (λ (d : Counted). (fold counted_with d ls).number) (sym is) ∙ same))
  quiet_by false true e f =
      let is : counted_with c line ≡ c = ap (λ b. counted_by b (is_blank line) c.has_text c) e ∙ ap (λ b. counted_by false b c.has_text c) f in
      All-cons IsQuietLine line ls (inr f) (rest c none low (ap (λ (d : Counted). (fold counted_with d ls).number) (sym is) ∙ same))
  quiet_by false false e f =
      let is : counted_with c line ≡ record { number = next c.number; has_text = true } =
      ap (λ b. counted_by b (is_blank line) c.has_text c) e ∙ ap (λ b. counted_by false b c.has_text c) f ∙ ap (λ b. counted_by false false b c) none in
      let number : next c.number ≡ c.number + 1 = min-eq_left {n = c.number + 1} {m = most} (omega (arith, low)) in
      let more = grows ls (record { number = next c.number; has_text = true }) (min-le_right (c.number + 1) most) in
      let all = ap (λ (d : Counted). (fold counted_with d ls).number) (sym is) ∙ same in
      absurd (omega (arith, number, more, all))

quiet : (ls : List (List ℕ)) → IsQuietBehind ls
quiet [] c none low same = All-nil IsQuietLine
quiet (line ∷ ls) c none low same =
    quiet_by line ls (λ d a b e. quiet ls d a b e) c none low same (is_command_line line) (is_blank line) refl refl

-- ---- the law

-- the text that is gathered is no blank one
not_blank : (b : Bool) → not b ≡ true → b ≡ false
not_blank true e = absurd (never e)
  where
    never : false ≡ true → ⊥
    never e = cc
not_blank false e = refl

behind_cell : (n : ℕ) (left : List (List ℕ)) (c : Counted) → n < most → c ≡ record { number = n; has_text = true } → IsTextEnd left →
    (fold counted_with c left).number ≡ n → All IsQuietLine left
behind_cell n [] c low is end same = All-nil IsQuietLine
behind_cell n (line ∷ more) c low is end same =
    let one : counted_with c line ≡ record { number = n; has_text = false } =
    ap (λ (d : Counted). counted_with d line) is ∙ ap (λ b. counted_by b (is_blank line) true (record { number = n; has_text = true })) end in
    All-cons IsQuietLine line more (inl end)
    (quiet more (record { number = n; has_text = false }) refl low (ap (λ (d : Counted). (fold counted_with d more).number) (sym one) ∙ same))

pub last_cell_is_last : LastCellIsLast
last_cell_is_last file machine s out few h =
    let n = cells_in file in
    let is = both (not (is_blank s.gathered)) (nat_eq (next s.number) n) h.is in
    let text : is_blank s.gathered ≡ false = not_blank (is_blank s.gathered) is.0 in
    let number : next s.number ≡ n = eqb-true (next s.number) n is.1 in
    let so_far : fold counted_with none_counted h.lines ≡ record { number = n; has_text = true } =
    counted n machine h.lines s out h.leads ∙ ap (λ b. counted_at b s.number) text ∙ ap (λ (k : ℕ). record { number = k; has_text = true }) number in
    let all : (fold counted_with (fold counted_with none_counted h.lines) h.left).number ≡ n =
    ap (λ (c : Counted). c.number) (sym (fold-append counted_with none_counted h.lines h.left))
    ∙ ap (λ (l : List (List ℕ)). (fold counted_with none_counted l).number) (sym h.cut) in
    behind_cell n h.left (fold counted_with none_counted h.lines) (omega (arith, few)) so_far h.end all
