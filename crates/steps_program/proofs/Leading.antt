-- The lines of a file that are obeyed one after the other.
use Rattle.std.proofs.Common.{◌≡◌, ◌∙◌, ℕ, List, [], ◌∷◌, ◌++◌, Bool, true, false, ◌&&◌, refl, ap, sym, subst, append_assoc, append-nil}
use Rattle.std.specs.Prelude.{Option}
use Rattle.std.specs.Io.KnownBytes.{Appends}
use Rattle.exact_write.proofs.SendLemmas.{appends_none, appends_join}
use Rattle.kernel_core.specs.Runs.{Machine}
use Rattle.cells_program.specs.Lines.{is_command_line}
use Rattle.steps_program.specs.Before.{Stage, Text, RunsAs, RunsIf, LineLeads, Leads, Unled, LedOn, Finds, Lacks, cell_of, ends_before, first_stage, is_cell, taken}
use Rattle.steps_program.specs.Places.{lines_of}

-- ---- the text before a command

module _ (b : Bool) (old new : Stage) where
  pub none_runs : false ≡ b → new ≡ taken old → RunsIf b old new []
  none_runs e h = subst (λ (t : Bool). RunsIf t old new []) e (h, refl)

  pub it_runs : (text : Text) (mid : Stage) → true ≡ b → text ≡ cell_of old → mid ≡ taken old → (out : List ℕ) → RunsAs text mid new out →
      RunsIf b old new out
  it_runs text mid e of from out h =
      subst (λ (t : Bool). RunsIf t old new out) e
      (subst (λ (t : Text). RunsAs t (taken old) new out) of (subst (λ (s : Stage). RunsAs text s new out) from h))

-- ---- a cell that ends before a line

no : false ≡ true → ⊥
no e = cc

pub both : (a b : Bool) → (a && b) ≡ true → (a ≡ true) × (b ≡ true)
both true b e = (refl, e)
both false b e = absurd (no e)

module _ (n : ℕ) (file : List ℕ) (machine : Machine) where
  -- so many lines are read, and this is left
  pub record ReadSoFar (a b : Option (List ℕ)) (s : Stage) (left : List (List ℕ)) : Type 0 where
    pub lines : List (List ℕ)
    pub out : List ℕ
    pub leads : Leads n machine lines s out
    pub cut : lines_of file ≡ lines ++ left
    pub sent : Appends a b out

  pub none_read : (a : Option (List ℕ)) → ReadSoFar a a (first_stage machine) (lines_of file)
  none_read a = record { lines = []; out = []; leads = Unled; cut = refl; sent = appends_none a }

  module _ (a b : Option (List ℕ)) (s : Stage) (left : List (List ℕ)) (so_far : ReadSoFar a b s left) where
    pub one_more : (c : Option (List ℕ)) (new : Stage) (line : List ℕ) (more : List (List ℕ)) → left ≡ line ∷ more → ends_before n s line ≡ false →
        (out : List ℕ) → LineLeads line s new out → Appends b c out → ReadSoFar a c new more
    one_more c new line more e other out leads sent = record {
      lines = so_far.lines ++ line ∷ [];
      out = so_far.out ++ out;
      leads = LedOn so_far.lines line s new so_far.out out so_far.leads other leads;
      cut = so_far.cut ∙ ap (λ (l : List (List ℕ)). so_far.lines ++ l) e ∙ sym (append_assoc so_far.lines (line ∷ []) more);
      sent = appends_join a b c so_far.out out so_far.sent sent;
    }

    pub found_before : (line : List ℕ) (more : List (List ℕ)) → left ≡ line ∷ more → true ≡ ends_before n s line → Finds n file machine s so_far.out
    found_before line more e ends =
        let h = both (is_command_line line) (is_cell n s) (sym ends) in
        record {
          lines = so_far.lines;
          left = line ∷ more;
          cut = so_far.cut ∙ ap (λ (l : List (List ℕ)). so_far.lines ++ l) e;
          leads = so_far.leads;
          end = h.0;
          is = h.1;
        }

    pub found_last : left ≡ [] → true ≡ is_cell n s → Finds n file machine s so_far.out
    found_last e is = record {
      lines = so_far.lines;
      left = [];
      cut = so_far.cut ∙ ap (λ (l : List (List ℕ)). so_far.lines ++ l) e;
      leads = so_far.leads;
      end = tt;
      is = sym is;
    }

    pub lacking : left ≡ [] → false ≡ is_cell n s → Lacks n file machine s so_far.out
    lacking e is = record {
      leads = subst (λ (l : List (List ℕ)). Leads n machine l s so_far.out)
          (sym (so_far.cut ∙ ap (λ (l : List (List ℕ)). so_far.lines ++ l) e ∙ append-nil so_far.lines)) so_far.leads;
      none = sym is;
    }
