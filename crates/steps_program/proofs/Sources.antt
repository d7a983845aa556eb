-- The source of a node among those that are left.
use Rattle.std.proofs.Common.{◌≡◌, ◌∙◌, ℕ, ◌+◌, ◌<◌, ◌≤◌, true, false, cond, List, length, drop, get_or, ap, sym, add-one}
use Rattle.std.specs.Prelude.{Option, None, Some, nat_eq}
use Rattle.std.specs.Option.{option_eq}
use Rattle.steps_walk.proofs.Lists.{drop_at, drop_none}
use Rattle.steps_program.specs.Places.{source_of}
use Rattle.steps_program.specs.declared.source.Source.{Source}

module _ (all : List Source) (node : Option ℕ) (i : ℕ) (before : source_of all node ≡ source_of (drop i all) node) where
  module _ (s : Source) (within : i < length all) (is : s ≡ get_or all i s) where
    first : source_of all node ≡ cond (option_eq nat_eq s.node node) (Some s) (source_of (drop (i + 1) all) node)
    first =
        before ∙ ap (λ l. source_of l node) (drop_at all i s within (sym is))
        ∙ ap (λ n. cond (option_eq nat_eq s.node node) (Some s) (source_of (drop n all) node)) (sym (add-one i))

    pub found_source : option_eq nat_eq s.node node ≡ true → source_of all node ≡ Some s
    found_source e = first ∙ ap (λ b. cond b (Some s) (source_of (drop (i + 1) all) node)) e

    pub next_source : option_eq nat_eq s.node node ≡ false → source_of all node ≡ source_of (drop (i + 1) all) node
    next_source e = first ∙ ap (λ b. cond b (Some s) (source_of (drop (i + 1) all) node)) e

  pub no_source : length all ≤ i → source_of all node ≡ None
  no_source past = before ∙ ap (λ l. source_of l node) (drop_none all i past)
