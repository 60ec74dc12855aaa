-- ROWS THAT ARE NOT REWRITTEN, in every state that presolve reaches and whatever became of the other rows: such a row's terms are the model's terms of that
-- row, the folded ones and zero coefficients apart. A rewrite marks its row as touched, or gives it back as written.
use Prim.Native.Nat.{ℕ, zero, suc, ◌+◌, ◌-◌, ◌≤◌, ◌<◌}
use Rattle.std.proofs.Common.{arith, sym, ap, subst, ◌∙◌, inr, length-append}
use Rattle.std.proofs.Math.Decide.{ℕ_discrete}
use Rattle.std.specs.Prelude.{◌≡◌, ◌≢◌, true, get_or}
use Rattle.std.proofs.Math.Path.{refl}
use Rattle.std.proofs.Math.Logic.{inl}
use mathlib.Core.List.{List, [], ◌∷◌, ◌++◌}
use Rattle.std.proofs.Math.Option.{Option, none, some}
use Rattle.std.proofs.Math.ListN.{length, get_or-append}
use Rattle.std.proofs.lemmas.List.{get_or_at}
use Rattle.std.specs.Float.Ieee.{Float, eq}
use Rattle.floats.specs.Num.{0f, is_finite}
use Rattle.tolerances.specs.Tol.{Term}
use Rattle.definition.specs.Model.{Model, nnz, written, Binding, Row, with_binding, as_written}
use Rattle.definition.specs.Work.{Work, no_term, no_row, drop_row, fixed}
use Rattle.definition.specs.Folds.{swap_remove, fold_term, fold_step, fold_loop, fixed_besides, widen, with_kept, rewrite_room, relax_with, relax_binding, given_back, hold_rewrites, fold_fixed}
use Rattle.definition.specs.Rewrites.{Form}
use Rattle.definition.specs.Tighten.{Rewriting, rewrite_step, rewrite_loop}
use Rattle.definition.specs.Choices.{both, taking, true≢false}
use Rattle.rows_kept.specs.Kept.{Changed, folded, tightened, Kept}
use Rattle.rows_kept.specs.Whole.{Read, unread, queues, drops}
use Rattle.rows_kept.specs.States.{Reaches}
use Rattle.rows_kept.proofs.States.{reached_kept}
use Rattle.rows_kept.proofs.AllRows.{set_all, read_size}
use Rattle.points_kept.specs.Statements.{PureInteger}
use Rattle.definition.specs.Tests.{last_or}
use Rattle.points_kept.proofs.Terms.{all_index, index_all}
use Rattle.points_kept.proofs.Folding.{sr_length, sr_same, sr_here, sr_all, sr_distinct}
use Rattle.points_kept.proofs.Written.{as_written_ok, written_length}
use Rattle.points_kept.specs.UnrewrittenRows.{Among, IfUnrewritten, Looked, RowsW, Told, Unrewritten}

-- ---- `swap_remove` leaves each term but the one at i
pub stays : (ts : List Term) (i k : ℕ) → i < length ts → k < length ts → k ≢ i → Among (swap_remove ts i) (get_or ts k no_term)
stays ts i k h l n =
    elim (ℕ_discrete k (length ts - 1)) [
      | yes e ↦ (let p : i < length (swap_remove ts i) = before (λ q. n (e ∙ q)) (sr_length ts i h) in
          record { place = i; inside = p; is = sr_here ts i h p ∙ ap (λ (j : ℕ). get_or ts j no_term) (sym e) })
      | no f ↦ (let p : k < length (swap_remove ts i) = omega (arith, sr_length ts i h) in record { place = k; inside = p; is = sr_same ts i h k p n })
    ]
  where
    before : (length ts - 1 ≡ i → ⊥) → suc (length (swap_remove ts i)) ≡ length ts → i < length (swap_remove ts i)
    before f e = elim (ℕ_discrete (length ts - 1) i) [ yes q ↦ absurd (f q) | no g ↦ omega arith ]

pub among_more : (fs : List Term) (u t : Term) → Among fs t → Among (fs ++ (u ∷ [])) t
among_more fs u t a =
    record { place = a.place; inside = omega (arith, a.inside, length-append fs (u ∷ [])); is = get_or-append fs (u ∷ []) no_term a.place a.inside ∙ a.is }

pub among_last : (fs : List Term) (u : Term) → Among (fs ++ (u ∷ [])) u
among_last fs u = record { place = length fs; inside = omega (arith, length-append fs (u ∷ [])); is = get_or_at fs u [] no_term (length fs) refl }

module _ (M : Model) (r : ℕ) (ts fs : List Term) (i : ℕ) (h : i < length ts) (u : Unrewritten M r ts fs) where
  -- a zero coefficient leaves
  pub zero_leaves : eq (get_or ts i no_term).coeff 0f ≡ true → Unrewritten M r (swap_remove ts i) fs
  zero_leaves z =
      record {
        terms = sr_all ts i h _ u.terms;
        distinct = sr_distinct ts i h u.distinct;
        count = omega (arith, sr_length ts i h, u.count);
        given = sr_all ts i h _ u.given;
        gone = u.gone;
        told = λ j k. next (u.told j k);
      }
    where
      next : {t : Term} → Told ts fs t → Told (swap_remove ts i) fs t
      next {t} (inl a) =
          elim (ℕ_discrete a.place i) [
            | yes e ↦ inr (inr (subst (λ (x : Term). eq x.coeff 0f ≡ true) (ap (λ (n : ℕ). get_or ts n no_term) (sym e) ∙ a.is) z))
            | no n ↦ inl (subst (Among (swap_remove ts i)) a.is (stays ts i a.place h a.inside n))
          ]
      next (inr b) = inr b

  -- a fixed variable's term is folded
  pub term_folds : Unrewritten M r (swap_remove ts i) (fs ++ (get_or ts i no_term ∷ []))
  term_folds =
      record {
        terms = sr_all ts i h _ u.terms;
        distinct = sr_distinct ts i h u.distinct;
        count = omega (arith, sr_length ts i h, u.count);
        given = sr_all ts i h _ u.given;
        gone = λ j k. elim (ℕ_discrete j (length fs)) [
          | yes e ↦ subst (Among (written M r))
              (sym (ap (λ (n : ℕ). get_or (fs ++ (get_or ts i no_term ∷ [])) n no_term) e ∙ get_or_at fs (get_or ts i no_term) [] no_term (length fs) refl))
              (index_all (Among (written M r)) ts i h u.given)
          | no n ↦ (let l : j < length fs = omega (arith, length-append fs (get_or ts i no_term ∷ [])) in
              subst (Among (written M r)) (sym (get_or-append fs (get_or ts i no_term ∷ []) no_term j l)) (u.gone j l))
        ];
        told = λ j k. next (u.told j k);
      }
    where
      next : {t : Term} → Told ts fs t → Told (swap_remove ts i) (fs ++ (get_or ts i no_term ∷ [])) t
      next {t} (inl a) =
          elim (ℕ_discrete a.place i) [
            | yes e ↦ inr (inl (subst (Among (fs ++ (get_or ts i no_term ∷ []))) (ap (λ (n : ℕ). get_or ts n no_term) (sym e) ∙ a.is) (among_last fs (get_or ts i no_term))))
            | no n ↦ inl (subst (Among (swap_remove ts i)) a.is (stays ts i a.place h a.inside n))
          ]
      next {t} (inr (inl a)) = inr (inl (among_more fs (get_or ts i no_term) t a))
      next (inr (inr z)) = inr (inr z)

-- ---- folding: the place looked at stays within the row
module _ (M : Model) (pure : PureInteger M) (r : ℕ) where
  pub fold_step_lem : (n : ℕ) (w : Work) (s : ℕ × Row) → (Looked M pure r) (suc n) s → (Looked M pure r) n (fold_step w s)
  unfolding fold_step fold_term
  fold_step_lem n w s l =
      let ts : List Term = s.1.terms in
      let i : ℕ = s.0 in
      let here : r < length M.rhs → i < length ts = λ h. omega (arith, l.within h) in
      let shorter : r < length M.rhs → i + n ≤ length (swap_remove ts i) = λ h. omega (arith, l.within h, sr_length ts i (here h)) in
      taking ((Looked M pure r) n) (eq (get_or ts i no_term).coeff 0f)
      (λ z. record { within = shorter; holds = λ h e. zero_leaves M r ts s.1.folded i (here h) (l.holds h e) z })
      (λ z. both ((Looked M pure r) n) (fixed w (get_or ts i no_term).var)
      (record { within = shorter; holds = λ h e. term_folds M r ts s.1.folded i (here h) (l.holds h e) })
      (record { within = λ h. omega (arith, l.within h); holds = l.holds }))

  pub fold_loop_lem : (n : ℕ) (w : Work) (s : ℕ × Row) → (Looked M pure r) n s → IfUnrewritten M r (fold_loop n w s).1
  unfolding fold_loop
  fold_loop_lem zero w s l = l.holds
  fold_loop_lem (suc n) w s l = fold_loop_lem n w (fold_step w s) (fold_step_lem n w s l)

  pub written_row_lem : IfUnrewritten M r (as_written M r)
  unfolding as_written
  written_row_lem h e =
      let o = as_written_ok M pure [] [] r h in
      record {
        terms = o.terms;
        distinct = o.distinct;
        count = omega (arith, o.count);
        given = all_index (Among (written M r)) (written M r) (λ i k. record { place = i; inside = k; is = refl });
        gone = λ i k. absurd (omega arith);
        told = λ i k. inl (record { place = i; inside = k; is = refl });
      }

  pub back_row : (w : Work) → IfUnrewritten M r (given_back M r w)
  unfolding given_back
  back_row w = fold_loop_lem (nnz M r) w (0, as_written M r) (record { within = λ h. unfold as_written in omega (arith, written_length M pure r h); holds = written_row_lem })

  pub widened_row : (kept old : Float) (row : Row) (c : Binding) → IfUnrewritten M r row → IfUnrewritten M r (with_binding (some c) (widen kept old row))
  unfolding widen
  widened_row kept old row c q = both (λ (x : Row). IfUnrewritten M r (with_binding (some c) x)) (is_finite row.hi) q q

  pub relaxed_row : (w : Work) (row : Row) (o : Option Binding) → IfUnrewritten M r row → IfUnrewritten M r (relax_with M w row o)
  unfolding relax_with
  relaxed_row w row none q = q
  relaxed_row w row (some b) q =
      let kept : Float = rewrite_room M b.written b.rewritten (fixed_besides w row b.binaries) in
      both (IfUnrewritten M r) _ (widened_row kept b.kept row (with_kept kept b) q) q

  pub folded_row : (w : Work) (row : Row) → IfUnrewritten M r row → IfUnrewritten M r (fold_fixed M r w row)
  unfolding fold_fixed hold_rewrites relax_binding
  folded_row w row q =
      let q1 : IfUnrewritten M r (fold_loop (length row.terms) w (0, row)).1 = fold_loop_lem (length row.terms) w (0, row) (record { within = λ h. omega arith; holds = q }) in
      both (IfUnrewritten M r) _ (both (IfUnrewritten M r) _ (back_row w) (relaxed_row w _ _ q1)) q1

  -- ---- rewriting: the row is touched, or given back as written
  pub rewrite_row : (f : Form) (nz : Float) (i : ℕ) (s : Rewriting) → IfUnrewritten M r s.row → IfUnrewritten M r (rewrite_step M f nz r i s).row
  unfolding rewrite_step
  rewrite_row f nz i s q =
      let Q : Rewriting → Type 0 = λ x. IfUnrewritten M r x.row in
      both Q _ q (both Q _ (back_row _) (λ h e. true≢false {b = true} refl e))

  pub rewritten_row_lem : (n : ℕ) (f : Form) (nz : Float) (i : ℕ) (s : Rewriting) → IfUnrewritten M r s.row → IfUnrewritten M r (rewrite_loop M n f nz r i s).row
  unfolding rewrite_loop
  rewritten_row_lem zero f nz i s q = q
  rewritten_row_lem (suc n) f nz i s q = rewritten_row_lem n f nz (suc i) _ (rewrite_row f nz i s q)

  pub changed_row : {row x : Row} → Changed M r row x → IfUnrewritten M r row → IfUnrewritten M r x
  changed_row {row} (folded w) q = folded_row w row q
  changed_row (tightened {f} e sided n i nz s same) q = rewritten_row_lem n f nz i s (subst (IfUnrewritten M r) (sym same) q)

-- ---- IN EVERY STATE: each move keeps it
module _ (M : Model) (pure : PureInteger M) where
  pub rows_kept : Kept M (RowsW M)
  unfolding drop_row
  rows_kept =
      record {
        bounding = record { marking = record { marks = λ w d c q p. p; counted = λ w a b c p. p }; works = λ w a b p. p; lowers = λ w v x i b p. p; uppers = λ w v x i b p. p };
        rowing =
            record {
              changes = λ w r row a c p. set_all (IfUnrewritten M) w.rows r row p (changed_row M pure r c (p r));
              drops = λ w r row g a p. set_all (IfUnrewritten M) w.rows r _ p (subst (IfUnrewritten M r) g (p r));
            };
      }

  pub add_row_lem : (r : ℕ) (rs : List Row) (y : Row) → length rs ≡ r → ((q : ℕ) → q < r → IfUnrewritten M q (get_or rs q no_row)) → IfUnrewritten M r y
      → (q : ℕ) → q < suc r → IfUnrewritten M q (get_or (rs ++ (y ∷ [])) q no_row)
  add_row_lem r rs y e p a =
      last_or {Q = λ j. IfUnrewritten M j (get_or (rs ++ (y ∷ [])) j no_row)} r (subst (IfUnrewritten M r) (sym (get_or_at rs y [] no_row r e)) a)
      (λ j k. subst (IfUnrewritten M j) (sym (get_or-append rs (y ∷ []) no_row j (subst (λ (n : ℕ). j < n) (sym e) k))) (p j k))

  pub read_below : {r n : ℕ} {rs : List Row} {queue : List ℕ} → Read M r rs queue n → (q : ℕ) → q < r → IfUnrewritten M q (get_or rs q no_row)
  read_below unread = λ q h. absurd (omega arith)
  read_below (queues {r} {rows = rs} t h) = add_row_lem r rs _ (read_size h) (read_below h) (written_row_lem M pure r)
  read_below (drops {r} {rows = rs} t h) = add_row_lem r rs _ (read_size h) (read_below h) (written_row_lem M pure r)

  pub rows_reached : {w : Work} → Reaches M w → RowsW M w
  rows_reached h = reached_kept M rows_kept (λ w p. p) (λ ls hs rows queue dirty n k q l e. read_below k q l l e) h
