-- What is known of a history by its keeper and its fronts, and what each kind of step tells, in the terms of the base (`atomic_table`).
use Rattle.std.specs.Prelude.{◌≡◌, ℕ, true, false, List, [], ◌∷◌, ◌++◌}
use mathlib.Core.Option.{Option, none, some}
use mathlib.Core.List.{IsPrefix}
use lib.ListN.{get_elem?}
use Rattle.atomic_table.specs.Table.{State, Me, Step}
use Rattle.atomic_table.specs.Seated.{TableId}
use Rattle.shared_history.specs.declared.view.View.{View}

-- the name of no history, and of no bell
abbrev pub no_history : TableId
no_history = record { words = 0; slots = 0; views_name = 0; atom = 0; block = 0; offset = 0; slot_names = [] }

module _ {E : Type 0} where
  -- the keeper's view
  abbrev pub keeping : List E → View E
  keeping all = record { keeps = true; seen = all; shown = [] }

  -- a front's view
  abbrev pub seeing : List E → View E
  seeing beginning = record { keeps = false; seen = beginning; shown = [] }

  -- what a view has seen and was shown are beginnings of all entries, and the keeper has seen them all
  pub record Fits (seat : ℕ) (all : List E) (by : ℕ) (v : View E) : Type 0 where
    pub seen : IsPrefix v.seen all
    pub shown : IsPrefix v.shown all
    pub whole : v.keeps ≡ true → (by ≡ seat) × (v.seen ≡ all)

  -- there is one list of entries, and one keeper
  pub record IsRuled (s : State E (View E)) : Type 0 where
    pub seat : ℕ
    pub all : List E
    pub fits : (by : ℕ) (v : View E) → get_elem? s.views by ≡ some v → Fits seat all by v

  -- one more entry, if there is one
  abbrev pub added : List E → Option E → List E
  added all none = all
  added all (some e) = all ++ e ∷ []

  abbrev pub Adds : Step E → Me E (View E) → ℕ → Me E (View E) → Type 0
  Adds st old n new = new ≡ (keeping (added old.0.seen st.said), old.1)

  -- what was shown is a beginning of what is kept
  abbrev pub Compares : Step E → Me E (View E) → ℕ → Me E (View E) → Type 0
  Compares st old n new = (new ≡ (keeping old.0.seen, old.1)) × IsPrefix old.0.shown old.0.seen

  abbrev pub same : View E → View E
  same v = v

  abbrev pub front_of : View E → View E
  front_of v = seeing v.seen

  -- the first view, which is shown what the second has seen
  abbrev pub shown_by : View E → View E → View E
  shown_by v w = record { keeps = v.keeps; seen = v.seen; shown = w.seen }
