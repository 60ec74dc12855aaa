-- `out_from` to `answer_of`: a row that goes out as written, and one that all within the bounds meet, together are the model's rows, so the answer has
-- all of the points sought and none but the model's.
use Prim.Native.Nat.{ℕ, zero, suc, ◌+◌, ◌≤◌, ◌<◌}
use native.Mathlib.Omega.{arith}
use Rattle.std.specs.Prelude.{◌≡◌, Bool, false, T, ℤ, length, Float}
use Rattle.std.proofs.Math.Path.{refl, ap, subst}
use Rattle.std.proofs.Common.{sym, ◌∙◌}
use Rattle.std.proofs.Math.Logic.{inl, inr}
use mathlib.Core.List.Memᴰ
use mathlib.Core.List.{List, [], ◌∷◌, ◌++◌, Memᴰ}
use Rattle.std.proofs.Math.ListN.{get_or}
use Rattle.floats.specs.Points.{Whole, int}
use Rattle.floats.specs.Num.{choose, is_finite}
use Rattle.floats.specs.Zed.{◌⊑◌}
use Rattle.tolerances.specs.Tol.{Term, at}
use Rattle.definition.specs.Model.{Model, nnz, written, op_of, rhs_of, Row, Emit, Reduced}
use Rattle.definition.specs.Work.{Work, Step, next, with_row, no_row, trivial}
use Rattle.definition.specs.Folds.{fold_fixed}
use Rattle.definition.specs.Bindings.{rewritten_bound}
use Rattle.definition.specs.Emit.{Out, Final, fails, final, no_out, emit_written, no_terms, out_row, out_empty, out_alive, out_one, out_from, answer_of}
use Rattle.definition.specs.Emit.{written_entry, emit_rewritten, sort_terms, differs}
use Rattle.definition.specs.Presolve.{finish}
use Rattle.points_kept.specs.PointSet.{PointSet}
use Rattle.points_kept.specs.Statements.{WholeReduced, PureInteger, dot, Within, Point, terms_of, Meets, MeetsReduced}
use Rattle.definition.specs.Choices.{both}
use Rattle.definition.specs.Tests.{taking, last_or}
use Rattle.points_kept.proofs.Terms.{member_all}
use Rattle.points_kept.specs.Terms.{TermOk}
use Rattle.points_kept.specs.Invariant.{RowSided, GoodW, Each, stopped, went}
use Rattle.points_kept.proofs.Invariant.{meets}
use Rattle.points_kept.specs.Folding.{Folded}
use Rattle.points_kept.proofs.FoldLoop.{folded_ok}
use Rattle.points_kept.proofs.Written.{written_ok}
use Rattle.points_kept.proofs.Verdicts.{trivial_met}
use Rattle.points_kept.specs.NoTerm.{Beside}
use Rattle.points_kept.proofs.NoTerm.{empty_keeps}
use Rattle.points_kept.proofs.Waves.{replaced}
use Rattle.points_kept.specs.FourthCount.{Counted, halts, goes}
use Rattle.points_kept.proofs.FourthCount.{empty_c}
use Rattle.points_kept.specs.Coefficients.{Ok}
use Rattle.points_kept.specs.Output.{EmitMet, Fate, Gone, GoneF, Keeps}

-- a count that is counted is not 0
pub not_zero : (n : ℕ) → 0 < n → n ≡ 0 → ⊥
not_zero n h e = omega arith

module _ (M : Model) (Sought : PointSet) (pure : PureInteger M) where
  -- the bounds are the same ones
  pub back : (w w' : Work) → w'.elo ≡ w.elo → w'.ehi ≡ w.ehi → (x : ℕ → ℤ) → Within (length M.lower) w'.elo w'.ehi x → Within (length M.lower) w.elo w.ehi x
  back w w' el eh x k v h = (subst (λ (l : List Float). int (at l v) ⊑ x v) el (k v h).0, subst (λ (l : List Float). x v ⊑ int (at l v)) eh (k v h).1)

  pub older : (w w' : Work) (es es' : List Emit) → w'.elo ≡ w.elo → w'.ehi ≡ w.ehi → ((e : Emit) → Memᴰ e es → Memᴰ e es') → (j : ℕ) → (Fate M Sought pure) w es j → (Fate M Sought pure) w' es' j
  older w w' es es' el eh more j (inl i) = inl (more (written_entry M j) i)
  older w w' es es' el eh more j (inr f) = inr (λ x k. f x (back w w' el eh x k))

  -- ---- one row more: which all within the bounds meet, or emitted as written
  pub met_now : (r : ℕ) (w w' : Work) (o : Out) (ks : List ℕ) → (Gone M Sought pure) r w o → GoodW M Sought w' → w'.elo ≡ w.elo → w'.ehi ≡ w.ehi
      → ((x : ℕ → ℤ) → Within (length M.lower) w.elo w.ehi x → RowSided M r x)
      → (Gone M Sought pure) (suc r) w' (record { emitted = o.emitted; terms = o.terms; kept = ks })
  met_now r w w' o ks g g' el eh m =
      record {
        good = g';
        fate = last_or {Q = (Fate M Sought pure) w' o.emitted} r (inr (λ x k. m x (back w w' el eh x k))) (λ j h. older w w' o.emitted o.emitted el eh (λ e i. i) j (g.fate j h));
        only = g.only;
      }

  pub emit_now : (r : ℕ) (w w' : Work) (o : Out) → r < length M.rhs → (Gone M Sought pure) r w o → GoodW M Sought w' → w'.elo ≡ w.elo → w'.ehi ≡ w.ehi
      → (Gone M Sought pure) (suc r) w' (emit_written M r o)
  emit_now r w w' o hr g g' el eh =
      record {
        good = g';
        fate = last_or {Q = (Fate M Sought pure) w' (o.emitted ++ (written_entry M r ∷ []))} r (inl (Memᴰ.append_right o.emitted (Memᴰ.head refl)))
            (λ j h. older w w' o.emitted (o.emitted ++ (written_entry M r ∷ [])) el eh (λ e i. Memᴰ.append_left (written_entry M r ∷ []) i) j (g.fate j h));
        only = λ e m. elim (Memᴰ.append_cases o.emitted m) [ inl i ↦ g.only e i | inr i ↦ (r, hr, Memᴰ.eq_of_singleton i) ];
      }

  -- a row of no term at the end
  pub empty_now : (r : ℕ) (w : Work) (o : Out) {s : Step} → (Gone M Sought pure) r w o → Each M Sought (Beside M Sought r w) s → (GoneF M Sought pure) (suc r) (out_empty M r o s)
  unfolding out_empty
  empty_now r w o g (stopped n) = inl n
  empty_now r w o g (went {w = w'} b) = inl (met_now r w w' o (o.kept ++ (r ∷ [])) g b.good b.elo b.ehi b.met)

  pub empty_count : (r : ℕ) (n : ℕ) (o : Out) {s : Step} → 0 < n → Counted n s → (GoneF M Sought pure) (suc r) (out_empty M r o s)
  unfolding out_empty
  empty_count r n o h (halts e) = inr (subst (λ (n : ℕ). 0 < n) (sym e) h)
  empty_count r n o h (goes f) = inr (subst (λ (n : ℕ). 0 < n) (sym f.is) h)

  pub nil_terms : (ts : List Term) → T (no_terms ts) → ts ≡ []
  unfolding no_terms
  nil_terms [] t = refl
  nil_terms (u ∷ ts) t = absurd t

  pub out_row_lem : (r : ℕ) (row : Row) (o : Out) → row.touched ≡ false → out_row M r row o ≡ emit_written M r o
  unfolding out_row choose
  out_row_lem r row o e = ap (λ (b : Bool). choose b
      (choose (is_finite (rewritten_bound M row r)) (emit_rewritten M r (rewritten_bound M row r) (sort_terms (row.terms ++ row.folded)) o) (emit_written M r o))
      (emit_written M r o)) e

  pub alive_now : (r : ℕ) (w : Work) (o : Out) (g : (Gone M Sought pure) r w o) (row0 row : Row) → r < length M.rhs → T row0.alive → Folded M w g.good r row0 row
      → (GoneF M Sought pure) (suc r) (out_alive M r row w o)
  unfolding out_alive
  alive_now r w o g row0 row hr a f =
      let w1 = with_row r row w in
      let g1 : GoodW M Sought w1 = replaced pure r w row0 row hr g.good a f in
      let og : (Gone M Sought pure) r w1 o = record { good = g1; fate = g.fate; only = g.only } in
      taking ((GoneF M Sought pure) (suc r)) (no_terms row.terms)
      (λ t. empty_now r w1 o og (empty_keeps (record { pure = pure; good = g1; range = hr; ok = f.ok }) (nil_terms row.terms t)))
      (λ t. inl (subst ((Gone M Sought pure) (suc r) w1) (sym (out_row_lem r row o f.ok.touched)) (emit_now r w w1 o hr g g1 refl refl)))

  pub one_now : (r : ℕ) (s : Final) → r < length M.rhs → (GoneF M Sought pure) r s → (GoneF M Sought pure) (suc r) (out_one M r s)
  unfolding out_one
  one_now r (fails k) hr h = h
  one_now r (final w o) hr (inl g) =
      let row = get_or w.rows r no_row in
      taking ((GoneF M Sought pure) (suc r)) (trivial M r)
      (λ t. inl (met_now r w w o o.kept g g.good refl refl (λ x k. trivial_met M pure r hr t x)))
      (λ t. taking ((GoneF M Sought pure) (suc r)) row.alive
      (λ a. alive_now r w o g row (fold_fixed M r w row) hr a (folded_ok M w g.good r row ((g.good.row r hr).alive a)))
      (λ a. inl (met_now r w w o (o.kept ++ (r ∷ [])) g g.good refl refl ((g.good.row r hr).dead a))))
  one_now r (final w o) hr (inr p) =
      both ((GoneF M Sought pure) (suc r)) (trivial M r) (inr p) (both ((GoneF M Sought pure) (suc r)) (get_or w.rows r no_row).alive (count_alive (fold_fixed M r w (get_or w.rows r no_row))) (inr p))
    where
      count_alive : (row : Row) → (GoneF M Sought pure) (suc r) (out_alive M r row w o)
      count_alive row =
          unfold out_alive in
          (both ((GoneF M Sought pure) (suc r)) (no_terms row.terms)
          (empty_count r w.counts.coeffsTightened o p (empty_c M w.counts.coeffsTightened r row (with_row r row w) (record { is = refl }))) (inr p))

  pub from_now : (n r : ℕ) (s : Final) → r + n ≤ length M.rhs → (GoneF M Sought pure) r s → (GoneF M Sought pure) (r + n) (out_from M n r s)
  unfolding out_from
  from_now zero r s h g = subst (λ (k : ℕ). (GoneF M Sought pure) k s) e g
    where
      e : r ≡ r + 0
      e = omega arith
  from_now (suc n) r s h g = subst (λ (k : ℕ). (GoneF M Sought pure) k (out_from M n (suc r) (out_one M r s))) (e n) (from_now n (suc r) (out_one M r s) (omega arith) (one_now r s (omega arith) g))
    where
      e : (n : ℕ) → suc r + n ≡ r + suc n
      e n = omega arith

  -- ---- the answer
  pub entry_terms : (R : Reduced) (j : ℕ) → terms_of M R (written_entry M j) ≡ written M j
  unfolding terms_of written nnz choose
  entry_terms R j = refl

  pub entry_met : (R : Reduced) (x : ℕ → ℤ) → ((r : ℕ) → r < length M.rhs → RowSided M r x) → (e : Emit) → (j : ℕ) × (j < length M.rhs) × (e ≡ written_entry M j)
      → (EmitMet M Sought pure) R x e
  entry_met R x p e q =
      subst ((EmitMet M Sought pure) R x) (sym q.2)
      (subst (λ (ts : List Term). Meets (op_of M q.0) (dot x ts) (int (rhs_of M q.0))) (sym (entry_terms R q.0)) (meets (op_of M q.0) (pure.shape.op q.0 q.1) (p q.0 q.1)))

  pub answer_ok : (s : Final) → (GoneF M Sought pure) (length M.rhs) s → Keeps M Sought (answer_of M s)
  unfolding answer_of
  answer_ok (fails k) (inl n) = λ z x p. n x p
  answer_ok (fails k) (inr c) = λ z x p. not_zero k.coeffsTightened c z
  answer_ok (final w o) (inr c) = λ z. absurd (not_zero w.counts.coeffsTightened c z)
  answer_ok (final w o) (inl g) = λ z. (numbers, (λ x p. record { bounds = g.good.keeps x p; rows = λ e i. entry_met R x (g.good.asks x p) e (g.only e i) }), point)
    where
      R : Reduced
      R = record { counts = w.counts; lower = w.elo; upper = w.ehi; emitted = o.emitted; terms = o.terms; kept = o.kept; flag = differs M w o }

      coeffs : (e : Emit) → (j : ℕ) × (j < length M.rhs) × (e ≡ written_entry M j) → (t : Term) → Memᴰ t (terms_of M R e) → Whole t.coeff
      coeffs e q t m =
          (member_all (TermOk (length M.lower)) (written M q.0) t (subst (Memᴰ t) (ap (terms_of M R) q.2 ∙ entry_terms R q.0) m) (written_ok M pure q.0 q.1)).coeff.whole

      numbers : WholeReduced M R
      numbers =
          record {
            lowers = g.good.el_length;
            uppers = g.good.eh_length;
            lower = λ v h. (g.good.interval v h).lo;
            upper = λ v h. (g.good.interval v h).hi;
            rhs = λ e i. let q = g.only e i in subst (λ (f : Emit). Whole f.rhs) (sym q.2) (pure.numbers.rhs q.0 q.1).whole;
            coeff = λ e i. coeffs e (g.only e i);
          }

      point : (x : ℕ → ℤ) → MeetsReduced M R x → Point M x
      point x m =
          record {
            bounds = g.good.shrinks x m.bounds;
            rows = λ j h. elim (g.fate j h) [
              | inl i ↦ subst (λ (ts : List Term). Meets (op_of M j) (dot x ts) (int (rhs_of M j))) (entry_terms R j) (m.rows (written_entry M j) i)
              | inr f ↦ meets (op_of M j) (pure.shape.op j h) (f x m.bounds)
            ];
          }

  pub finish_ok : (w : Work) → Ok M Sought w → Keeps M Sought (finish M (next w))
  unfolding finish
  finish_ok w h = answer_ok _ (subst (λ (k : ℕ). (GoneF M Sought pure) k (out_from M (length M.rhs) 0 (final w no_out))) (nought (length M.rhs))
      (from_now (length M.rhs) 0 (final w no_out) (omega arith) (begin h)))
    where
      nought : (n : ℕ) → 0 + n ≡ n
      nought n = omega arith

      none : (j : ℕ) → j < 0 → ⊥
      none j h = omega arith

      begin : Ok M Sought w → (GoneF M Sought pure) 0 (final w no_out)
      begin (inl g) = inl (record { good = g; fate = λ j h. absurd (none j h); only = λ e m. absurd (Memᴰ.not-nil m) })
      begin (inr p) = inr p
