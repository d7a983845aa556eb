-- What stands at a cursor (Jupyter messaging page, "Completion", "Introspection"). A text is seen as its code points.
use Rattle.std.specs.Prelude.{ℕ, Bool, true, ◌&&◌, ◌||◌, ◌==◌, nat_le, List, [], ◌∷◌, ◌++◌, take, drop, Option, Some, None, if◌then◌else◌}
use Rattle.std.specs.List.{list_all}

abbrev pub is_letter : ℕ → Bool
is_letter c = (nat_le 65 c && nat_le c 90) || (nat_le 97 c && nat_le c 122)

abbrev pub is_digit : ℕ → Bool
is_digit c = nat_le 48 c && nat_le c 57

-- letters, digits and `_`
abbrev pub goes_on : ℕ → Bool
goes_on c = is_letter c || is_digit c || (c == 95)

-- what a name can be, or nothing at all
abbrev pub is_name : List ℕ → Bool
is_name [] = true
is_name (c ∷ cs) = is_letter c && list_all goes_on cs

-- the longest end that passes the test, maybe empty
abbrev pub longest_end : (List ℕ → Bool) → List ℕ → List ℕ
longest_end passes [] = []
longest_end passes (c ∷ cs) = if passes (c ∷ cs) then c ∷ cs else longest_end passes cs

-- the longest beginning of letters, digits and `_`
abbrev pub first_run : List ℕ → List ℕ
first_run [] = []
first_run (c ∷ cs) = if goes_on c then c ∷ first_run cs else []

-- the code points in front of the cursor; a cursor past the end is the end, and so is none
abbrev pub before : Option ℕ → List ℕ → List ℕ
before None cs = cs
before (Some n) cs = take n cs

-- those behind it
abbrev pub behind : Option ℕ → List ℕ → List ℕ
behind None cs = []
behind (Some n) cs = drop n cs

-- the longest name that ends at the cursor
abbrev pub prefix_at : Option ℕ → List ℕ → List ℕ
prefix_at cursor cs = longest_end is_name (before cursor cs)

-- the run of letters, digits and `_` that touches the cursor on either side
abbrev pub word_at : Option ℕ → List ℕ → List ℕ
word_at cursor cs = longest_end (list_all goes_on) (before cursor cs) ++ first_run (behind cursor cs)
