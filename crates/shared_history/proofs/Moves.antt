-- Each step keeps the rule of a history.
use Rattle.std.proofs.Common.{◌≡◌, ◌≢◌, ℕ, zero, suc, List, [], ◌∷◌, ◌++◌, ◌==◌, set, true, false, true≢false, refl, sym, ap, ◌∙◌, subst, ⊎_elim}
use prog.Atomic.{either}
use mathlib.Core.Option.{none, some, some-injective, some-ne-none}
use mathlib.Core.List.{IsPrefix}
use lib.ListN.{get_elem?}
use Rattle.atomic_table.specs.Table.{Me, step, keeps, opening, Allows, Splits, Joins}
use Rattle.atomic_table.proofs.Lists.{at_set, at_snoc, set_again}
use Rattle.shared_history.specs.declared.view.View.{View}
use Rattle.shared_history.specs.History.{keeping, seeing, Fits, IsRuled, Adds, Compares, front_of, shown_by}
use Rattle.shared_history.proofs.Prefixes.{prefix_self, prefix_nil, prefix_longer}

off : false ≡ true → ⊥
off e = true≢false (sym e)

module _ {E : Type 0} where
  -- a view that keeps nothing, of a beginning of all entries
  seeing_fits : (seat : ℕ) (all : List E) (by : ℕ) (beginning : List E) → IsPrefix beginning all → Fits seat all by (seeing beginning)
  seeing_fits seat all by beginning p = record { seen = p; shown = prefix_nil all; whole = λ e. absurd (off e) }

  keeping_fits : (seat : ℕ) (all : List E) (by : ℕ) (known : List E) → by ≡ seat → known ≡ all → Fits seat all by (keeping known)
  keeping_fits seat all by known at is = record {
    seen = subst (λ (l : List E). IsPrefix known l) is (prefix_self known);
    shown = prefix_nil all;
    whole = λ _. (at, is);
  }

  -- where one view becomes another, and the others fit
  fits_set : (seat : ℕ) (all : List E) (views : List (View E)) (by : ℕ) (w : View E)
      → ((j : ℕ) (u : View E) → j ≢ by → get_elem? views j ≡ some u → Fits seat all j u) → Fits seat all by w
      → (j : ℕ) (u : View E) → get_elem? (set views by w) j ≡ some u → Fits seat all j u
  fits_set seat all views by w others mine j u e =
      ⊎_elim
      (λ (x : (j ≡ by) × (w ≡ u)). subst (λ (k : ℕ). Fits seat all k u) (sym x.0) (subst (λ (y : View E). Fits seat all by y) x.1 mine))
      (λ (x : (j ≢ by) × (get_elem? views j ≡ some u)). others j u x.0 x.1)
      (at_set views by j w u e)

  pub begins : (words : List ℕ) (slots : List E) → IsRuled (opening words slots (keeping []))
  begins words slots = record { seat = 0; all = []; fits = one }
    where
      one : (by : ℕ) (v : View E) → get_elem? (keeping [] ∷ []) by ≡ some v → Fits 0 [] by v
      one zero v e = subst (Fits 0 [] 0) (some-injective _ _ e) (keeping_fits 0 [] 0 [] refl refl)
      one (suc by) v e = absurd (some-ne-none v (sym e))

  -- one more front of what a view has seen
  pub splits : (id : ℕ) (v : View E) → Splits (IsRuled {E = E}) id v v (front_of v)
  splits id v s h at = record {
    seat = h.seat;
    all = h.all;
    fits = λ j u e. ⊎_elim
        (λ (was : get_elem? (set s.views id v) j ≡ some u). h.fits j u (subst (λ (l : List (View E)). get_elem? l j ≡ some u) (set_again s.views id v at) was))
        (λ (new : front_of v ≡ u). subst (λ (y : View E). Fits h.seat h.all j y) new (seeing_fits h.seat h.all j v.seen (h.fits id v at).seen))
        (at_snoc (set s.views id v) (front_of v) u j e);
  }

  -- a view is shown what another has seen, which is then spent
  pub joins : (id : ℕ) (v : View E) (other : ℕ) (w : View E) → Joins (IsRuled {E = E}) id v other w (shown_by v w) (seeing [])
  joins id v other w s h at apart there =
      let mine = h.fits id v at in
      let before : get_elem? s.views other ≡ some w = ⊎_elim
      (λ (x : (other ≡ id) × (shown_by v w ≡ w)). absurd (apart x.0))
      (λ (x : (other ≢ id) × (get_elem? s.views other ≡ some w)). x.1)
      (at_set s.views id other (shown_by v w) w there) in
      let theirs = h.fits other w before in
      let both : Fits h.seat h.all id (shown_by v w) = record { seen = mine.seen; shown = theirs.seen; whole = mine.whole } in
      record {
        seat = h.seat;
        all = h.all;
        fits = fits_set h.seat h.all (set s.views id (shown_by v w)) other (seeing [])
            (λ j u _ e. fits_set h.seat h.all s.views id (shown_by v w) (λ i y _ e'. h.fits i y e') both j u e)
            (seeing_fits h.seat h.all other [] (prefix_nil h.all));
      }

  -- the keeper compares what it was shown
  pub compares : (slots id : ℕ) (me : Me E (View E)) → me.0.keeps ≡ true → Allows (IsRuled {E = E}) slots id me 0 (λ n. n) (Compares (step slots 0 0 0 none) me)
  compares slots id me keeper s h _ at _ =
      let mine = h.fits id me.0 at in
      let whole = mine.whole keeper in (
        keeping me.0.seen,
        keeps,
        tt,
        record {
          seat = h.seat;
          all = h.all;
          fits = fits_set h.seat h.all s.views id (keeping me.0.seen) (λ j u _ e. h.fits j u e) (keeping_fits h.seat h.all id me.0.seen whole.0 whole.1);
        },
        (refl, subst (λ (l : List E). IsPrefix me.0.shown l) (sym whole.1) mine.shown),
      )

  -- the keeper adds an entry
  pub adds : (slots id : ℕ) (me : Me E (View E)) (entry : E) → me.0.keeps ≡ true
      → Allows (IsRuled {E = E}) slots id me 0 (λ n. either (n == 0) 0 n) (Adds (step slots 0 0 0 (some entry)) me)
  adds slots id me entry keeper s h _ at _ =
      let mine = h.fits id me.0 at in
      let whole = mine.whole keeper in
      let all = h.all ++ entry ∷ [] in
      let longer : (j : ℕ) (u : View E) → j ≢ id → get_elem? s.views j ≡ some u → Fits h.seat all j u = λ j u apart e.
      let theirs = h.fits j u e in
      record {
        seen = prefix_longer u.seen h.all (entry ∷ []) theirs.seen;
        shown = prefix_longer u.shown h.all (entry ∷ []) theirs.shown;
        whole = λ k. absurd (apart ((theirs.whole k).0 ∙ sym whole.0));
      } in (
        keeping (me.0.seen ++ entry ∷ []),
        keeps,
        tt,
        record {
          seat = h.seat;
          all = all;
          fits = fits_set h.seat all s.views id (keeping (me.0.seen ++ entry ∷ [])) longer
              (keeping_fits h.seat all id (me.0.seen ++ entry ∷ []) whole.0 (ap (λ (l : List E). l ++ entry ∷ []) whole.1));
        },
        refl,
      )
