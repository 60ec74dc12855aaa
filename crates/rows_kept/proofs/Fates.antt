-- What became of each row: the walk over the rows that go out settles the fate of one row a step, in order.
use Rattle.std.specs.Prelude.{ℕ, suc, ◌≡◌, refl, true, false, List, [], ◌∷◌, ◌++◌}
use Rattle.std.proofs.Common.{arith, sym, ◌∙◌, subst}
use Rattle.std.proofs.Math.Decide.{ℕ_discrete}
use Rattle.definition.specs.Model.{Model, Emit}
use Rattle.definition.specs.Work.{Work, trivial}
use Rattle.definition.specs.Emit.{Out, final, written_entry}
use Rattle.rows_kept.specs.Statements.{entries_of, occurs, Fate, trivially_true, unchanged, dropped, rewritten, Rising, ends, rows_of}
use Rattle.rows_kept.specs.Outs.{Goes, skipped, before, emptied, given, rewrites}
use Rattle.rows_kept.specs.Whole.{HeldThroughout, Emitted}
use Rattle.rows_kept.proofs.Lists.{entries_other, entries_own, occurs_other, occurs_own, rising_more, rising_last, rows_append}
use Rattle.rows_kept.specs.Fates.{Any, Fates, Settled}

pub any_held : (M : Model) → HeldThroughout M Any
any_held M =
    record {
      kept =
          record {
            bounding =
                record {
                  marking = record { marks = λ w d c q p. tt; counted = λ w a b c p. tt };
                  works = λ w a b p. tt;
                  lowers = λ w v x i b p. tt;
                  uppers = λ w v x i b p. tt;
                };
            rowing = record { changes = λ w r row a c p. tt; drops = λ w r row g a p. tt };
          };
      passes = λ w p. tt;
      begins = λ ls hs rows queue dirty n b h. tt;
    }

pub carried : {M : Model} {q : ℕ} {es fs : List Emit} {ks ls : List ℕ} → entries_of q fs ≡ entries_of q es → occurs q ls ≡ occurs q ks → Fate M q es ks → Fate M q fs ls
carried e k (trivially_true t a b) = trivially_true t (e ∙ a) (k ∙ b)
carried e k (unchanged t a b) = unchanged t (e ∙ a) (k ∙ b)
carried e k (dropped t a b) = dropped t (e ∙ a) (k ∙ b)
carried e k (rewritten t x a m b) = rewritten t x (e ∙ a) m (k ∙ b)

-- one row more: the others have what they had, and row r has its fate
module _ (M : Model) (r : ℕ) (es fs : List Emit) (ks ls : List ℕ) (h : Fates M r es ks)
    (same_entries : (q : ℕ) → (r ≡ q → ⊥) → entries_of q fs ≡ entries_of q es)
    (same_kept : (q : ℕ) → (r ≡ q → ⊥) → occurs q ls ≡ occurs q ks) where
  pub one_more : Fate M r fs ls → Rising (suc r) 0 (rows_of fs) → Rising (suc r) 0 ls → Fates M (suc r) fs ls
  one_more f x y =
      record {
        settled = λ q k. elim (ℕ_discrete r q) [ yes e ↦ subst (λ (i : ℕ). Fate M i fs ls) e f | no d ↦ carried (same_entries q d) (same_kept q d) (h.settled q (omega arith)) ];
        entries = λ q k. same_entries q (λ e. omega arith) ∙ h.entries q (omega arith);
        kept = λ q k. same_kept q (λ e. omega arith) ∙ h.kept q (omega arith);
        rows_rise = x;
        kept_rise = y;
      }

module _ (M : Model) (r : ℕ) (es : List Emit) (ks : List ℕ) (h : Fates M r es ks) where
  pub here : entries_of r es ≡ []
  here = h.entries r (omega arith)

  pub skip_fate : trivial M r ≡ true → Fates M (suc r) es ks
  skip_fate t = one_more M r es es ks ks h (λ q d. refl) (λ q d. refl) (trivially_true t here (h.kept r (omega arith))) (rising_more h.rows_rise) (rising_more h.kept_rise)

  pub drop_fate : trivial M r ≡ false → Fates M (suc r) es (ks ++ (r ∷ []))
  drop_fate t =
      one_more M r es es ks _ h (λ q d. refl) (λ q d. occurs_other q r ks d) (dropped t here (occurs_own r ks (h.kept r (omega arith)))) (rising_more h.rows_rise) (rising_last h.kept_rise)

  pub entry_rises : (e : Emit) → e.row ≡ r → Rising (suc r) 0 (rows_of (es ++ (e ∷ [])))
  entry_rises e i = rw (rows_append es e, i) (rising_last h.rows_rise)

  pub given_fate : trivial M r ≡ false → Fates M (suc r) (es ++ (written_entry M r ∷ [])) ks
  given_fate t =
      one_more M r es _ ks ks h (λ q d. entries_other q (written_entry M r) es d) (λ q d. refl)
      (unchanged t (entries_own (written_entry M r) es here) (h.kept r (omega arith)))
      (entry_rises (written_entry M r) refl) (rising_more h.kept_rise)

  pub rewritten_fate : (e : Emit) → e.row ≡ r → e.rewritten ≡ true → trivial M r ≡ false → Fates M (suc r) (es ++ (e ∷ [])) (ks ++ (r ∷ []))
  rewritten_fate e i m t =
      one_more M r es _ ks _ h (λ q d. entries_other q e es (λ j. d (sym i ∙ j))) (λ q d. occurs_other q r ks d)
      (rewritten t e (subst (λ (j : ℕ). entries_of j (es ++ (e ∷ [])) ≡ e ∷ []) i (entries_own e es (subst (λ (j : ℕ). entries_of j es ≡ []) (sym i) here))) m
      (occurs_own r ks (h.kept r (omega arith))))
      (entry_rises e i) (rising_last h.kept_rise)

pub goes_settled : (M : Model) {r : ℕ} {w v : Work} {o x : Out} → Goes M r w o (final v x) → Settled M r w o → Settled M (suc r) v x
goes_settled M {r} {o = o} (skipped t) h = skip_fate M r o.emitted o.kept h t
goes_settled M {r} {o = o} (before t a) h = drop_fate M r o.emitted o.kept h t
goes_settled M {r} {o = o} (emptied t a) h = drop_fate M r o.emitted o.kept h t
goes_settled M {r} {o = o} (given t a) h = given_fate M r o.emitted o.kept h t
goes_settled M {r} {o = o} (rewrites t a c f) h = rewritten_fate M r o.emitted o.kept h _ refl refl t

pub none_settled : (M : Model) → Fates M 0 [] []
unfolding entries_of occurs rows_of
none_settled M =
    record {
      settled = λ q k. absurd (omega arith);
      entries = λ q k. refl;
      kept = λ q k. refl;
      rows_rise = ends {n = 0} (omega arith);
      kept_rise = ends {n = 0} (omega arith);
    }

pub settles : (M : Model) → Emitted M Any (Settled M)
settles M = record { held = any_held M; none = λ w p. none_settled M; goes = λ r w v o x p q g h. goes_settled M g h }
