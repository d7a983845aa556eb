-- What the code lists is what a frontend may go on with.
use Rattle.std.proofs.Common.{◌≡◌, ℕ, nat_eq, IsTrue, List, [], ◌∷◌, map, sym, ap, subst, inl, inr, Contains}
use Rattle.std.specs.Ordering.{nat_cmp}
use Rattle.std.specs.Cmp.Lexicographic.{slice_cmp}
use Rattle.std.specs.List.{starts_with}
use Rattle.std.specs.List.Sorted.{IsStrictlySortedBy}
use Rattle.janus_meaning.specs.World.{World}
use Rattle.janus_syntax.specs.Spelling.{keyword_text}
use Rattle.janus_syntax.specs.declared.token.Keyword.{Keyword}
use Rattle.janus_syntax.specs.declared.token.TheConstants.{KEYWORDS}
use Rattle.janus_syntax.proofs.Scanning.{listed_keyword}
use Rattle.kernel_ask.specs.Added.{with_matches}
use Rattle.kernel_text.specs.Procedures.{procedure_names}
use Rattle.kernel_ask.specs.Matches.{names_of, IsReserved, IsKnown, AreMatches}
use Rattle.kernel_text.proofs.NameSets.{contains_first, contains_later, contains_none, contains_cases}
use Rattle.kernel_ask.proofs.Added.{matches_kept, matches_from, matches_there}

word_there : (ws : List Keyword) (w : Keyword) → Contains ws w → Contains (map keyword_text ws) (keyword_text w)
word_there [] w h = absurd (contains_none w h)
word_there (v ∷ ws) w h =
    elim (contains_cases ws v w h) as (λ _. Contains (map keyword_text (v ∷ ws)) (keyword_text w)) [
      | inl e ↦ contains_first (map keyword_text ws) (keyword_text v) (keyword_text w) (ap keyword_text e)
      | inr later ↦ contains_later (map keyword_text ws) (keyword_text v) (keyword_text w) (word_there ws w later)
    ]

word_from : (ws : List Keyword) (x : List ℕ) → Contains (map keyword_text ws) x → IsReserved x
word_from [] x h = absurd (contains_none x h)
word_from (v ∷ ws) x h =
    elim (contains_cases (map keyword_text ws) (keyword_text v) x h) as (λ _. IsReserved x) [ inl e ↦ (v, e) | inr later ↦ word_from ws x later ]

-- the declared names, then the procedures, and then the keywords
abbrev pub of_world : World → List ℕ → List (List ℕ)
of_world w prefix = with_matches prefix (with_matches prefix [] (names_of w.store)) (procedure_names w.procedures)

abbrev pub all_matches : World → List ℕ → List (List ℕ)
all_matches w prefix = with_matches prefix (of_world w prefix) (map keyword_text KEYWORDS)

known_from : (w : World) (prefix x : List ℕ) → Contains (all_matches w prefix) x → IsKnown w x × IsTrue (starts_with nat_eq x prefix)
known_from w prefix x h =
    elim (matches_from prefix (of_world w prefix) (map keyword_text KEYWORDS) x h) as (λ _. IsKnown w x × IsTrue (starts_with nat_eq x prefix)) [
      | inl world ↦
          elim (matches_from prefix (with_matches prefix [] (names_of w.store)) (procedure_names w.procedures) x world) as (λ _. IsKnown w x ×
          IsTrue (starts_with nat_eq x prefix)) [
            | inl declared ↦
                elim (matches_from prefix [] (names_of w.store) x declared) as (λ _. IsKnown w x × IsTrue (starts_with nat_eq x prefix)) [
                  | inl none ↦ absurd (contains_none x none)
                  | inr there ↦ (inl there.0, there.1)
                ]
            | inr defined ↦ (inr (inl defined.0), defined.1)
          ]
      | inr there ↦ (inr (inr (word_from KEYWORDS x there.0)), there.1)
    ]

known_there : (w : World) (prefix x : List ℕ) → IsKnown w x → IsTrue (starts_with nat_eq x prefix) → Contains (all_matches w prefix) x
known_there w prefix x (inl declared) fits =
    matches_kept prefix (of_world w prefix) (map keyword_text KEYWORDS) x
    (matches_kept prefix (with_matches prefix [] (names_of w.store)) (procedure_names w.procedures) x
    (matches_there prefix [] (names_of w.store) x declared fits))
known_there w prefix x (inr (inl defined)) fits =
    matches_kept prefix (of_world w prefix) (map keyword_text KEYWORDS) x
    (matches_there prefix (with_matches prefix [] (names_of w.store)) (procedure_names w.procedures) x defined fits)
known_there w prefix x (inr (inr reserved)) fits =
    matches_there prefix (of_world w prefix) (map keyword_text KEYWORDS) x
    (subst (λ (y : List ℕ). Contains (map keyword_text KEYWORDS) y) reserved.1 (word_there KEYWORDS reserved.0 (listed_keyword reserved.0))) fits

pub are_matches : (w : World) (prefix : List ℕ) (names : List (List ℕ)) → IsStrictlySortedBy (slice_cmp nat_cmp) names → names ≡ all_matches w prefix →
    AreMatches w prefix names
are_matches w prefix names sorted same = record {
  ordered = sorted;
  each = λ x. (
    λ h. known_from w prefix x (subst (λ (ns : List (List ℕ)). Contains ns x) same h),
    λ h. subst (λ (ns : List (List ℕ)). Contains ns x) (sym same) (known_there w prefix x h.0 h.1),
  );
}
